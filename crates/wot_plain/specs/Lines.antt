-- Which lines are read as commands.
use Rattle.std.specs.Prelude.{ℕ, ◌==◌, if◌then◌else◌, nat_lt, Bool, true, List, [], ◌∷◌, length, Option, None}
use Rattle.wot_script.specs.declared.command.Command.{Command}
use Rattle.wot_script.specs.Grammar.{command_of}

-- the most octets in a line, without its line feed
abbrev pub longest : ℕ
longest = 16777216

-- an empty line or a comment, which gets no reply
abbrev pub is_silent : List ℕ → Bool
is_silent [] = true
is_silent (octet ∷ octets) = octet == 35

-- the command of a line that is neither too long nor silent
abbrev pub command_in_line : List ℕ → Option Command
command_in_line line = if nat_lt longest (length line) then None else if is_silent line then None else command_of line
