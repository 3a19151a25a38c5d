-- The commands of one word, by their table: each word is read as its command, and is one line. No lemma names a word.
use Rattle.std.proofs.Common.{◌≡◌, ℕ, ◌&&◌, Bool, true, false, List, [], ◌∷◌, length, Some, None, refl, sym, ap}
use Rattle.std.proofs.Common.{◌∙◌}
use Rattle.std.specs.Prelude.{if◌then◌else◌, nat_le}
use Rattle.std.proofs.lemmas.Bool.{and_parts, leb-true}
use Rattle.wot_fields.specs.StateLine.{state_line_of}
use Rattle.wot_script.specs.Grammar.{command_of, other_of, single_of}
use Rattle.wot_script.specs.OneWord.{has_word, word_of}
use Rattle.wot_script.specs.Spelling.{IsLineFor, most_octets, spelling}
use Rattle.wot_script.specs.declared.command.Command.{Command}
use Rattle.wot_script.specs.declared.command.Command.TheVariants.{Import}
use Rattle.wot_fields.proofs.Spaceless.{lacks_from_test, lacks_test}

-- this holds, if the test does
abbrev pub When : Bool → Type 0 → Type 0
When true fact = fact
When false fact = Unit {0}

pub when : (test : Bool) (fact : Type 0) → test ≡ true → When test fact → fact
when true fact h k = k
when false fact h k = absurd cc

if_true : {A : Type 0} (test : Bool) (a b : A) → test ≡ true → (if test then a else b) ≡ a
if_true true a b h = refl
if_true false a b h = absurd cc

-- a command of one word is spelled by its word
spelling_so : (command : Command) → (if has_word command then spelling command else []) ≡ word_of command
unfolding spelling
spelling_so (Import octets) = refl
spelling_so _ = refl

pub spelled_by_word : (command : Command) → has_word command ≡ true → spelling command ≡ word_of command
spelled_by_word command h = sym (if_true (has_word command) (spelling command) [] h) ∙ spelling_so command

-- a word is read as its command, and no octets as none
reading_so : (command : Command) → command_of (word_of command) ≡ (if has_word command then Some command else None)
unfolding command_of other_of single_of state_line_of
reading_so (Import octets) = refl
reading_so _ = refl

pub word_reads : (command : Command) → has_word command ≡ true → command_of (spelling command) ≡ Some command
word_reads command h =
    ap command_of (spelled_by_word command h)
    ∙ reading_so command
    ∙ if_true (has_word command) (Some command) None h

-- it isn't empty, isn't a comment, has no line feed, and is no longer than this
abbrev is_line : ℕ → List ℕ → Bool
is_line most [] = false
is_line most (octet ∷ octets) =
    lacks_test 10 (octet ∷ octets) && (lacks_test 35 (octet ∷ []) && nat_le (length (octet ∷ octets)) most)

line_so : (command : Command)
    → (if has_word command then is_line (most_octets command) (word_of command) else true) ≡ true
unfolding lacks_test
line_so (Import octets) = refl
line_so _ = refl

line_for : (command : Command) (text : List ℕ) → is_line (most_octets command) text ≡ true → IsLineFor command text
line_for command [] h = absurd cc
line_for command (octet ∷ octets) h =
    let parts = and_parts (lacks_test 10 (octet ∷ octets))
    (lacks_test 35 (octet ∷ []) && nat_le (length (octet ∷ octets)) (most_octets command)) h in
    let others = and_parts (lacks_test 35 (octet ∷ [])) (nat_le (length (octet ∷ octets)) (most_octets command)) parts.1
    in
    record {
      no_feed = lacks_from_test 10 (octet ∷ octets) parts.0;
      no_comment = (lacks_from_test 35 (octet ∷ []) others.0).0;
      short = leb-true (length (octet ∷ octets)) (most_octets command) others.1;
    }

pub word_line : (command : Command) → has_word command ≡ true → IsLineFor command (spelling command)
word_line command h =
    rw (spelled_by_word command h)
    (line_for command (word_of command)
    (sym (if_true (has_word command) (is_line (most_octets command) (word_of command)) true h) ∙ line_so command))
