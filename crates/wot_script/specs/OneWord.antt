-- The word of each command of one word, as in `src/one_word.rt`. `single_of` lists these commands.
use Rattle.std.specs.Prelude.{ℕ, Bool, true, false, List, [], ◌∷◌, codes}
use Rattle.wot_script.specs.declared.command.Command.{Command}
use Rattle.wot_script.specs.declared.command.Command.TheVariants.{Pending, Keys, Dump}

-- the word that is the whole line; no octets for a command with fields
abbrev pub word_of : Command → List ℕ
word_of Pending = codes "pending"
word_of Keys = codes "keys"
word_of Dump = codes "dump"
word_of _ = []

-- there are octets
abbrev pub is_word : List ℕ → Bool
is_word [] = false
is_word (octet ∷ octets) = true

-- it is a command of one word
abbrev pub has_word : Command → Bool
has_word command = is_word (word_of command)
