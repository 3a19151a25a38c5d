-- The line `dump`.
use Rattle.std.proofs.Common.{◌≡◌, ℕ, List, Option, Some, None, refl, sym, ap, subst, ◌∙◌}
use Rattle.std.specs.Prelude.{codes}
use Rattle.std.proofs.lemmas.Option.{same_Some}
use Rattle.wot_script.specs.declared.command.Command.{Command}
use Rattle.wot_script.specs.declared.command.Command.TheVariants.{Dump}
use Rattle.wot_script.specs.Grammar.{command_of, single_of, other_of}
use Rattle.wot_plain.specs.Classes.{class_of}
use Rattle.wot_plain.specs.Fresh.{IsDump, OnDump}
use Rattle.wot_fields.specs.StateLine.{state_line_of}

dump_read : command_of (codes "dump") ≡ Some Dump
unfolding command_of other_of single_of state_line_of
dump_read = refl

read_so : (line : List ℕ) (o : Option Command) → command_of line ≡ o → IsDump line → o ≡ Some Dump
read_so line o e d = sym e ∙ ap command_of d ∙ dump_read

-- the line is read as the command
pub on_dump : (line : List ℕ) (command : Command) (P : Type 0) → command_of line ≡ Some command →
    OnDump (class_of command) P →
    IsDump line → P
on_dump line command P e p d =
    let same : command ≡ Dump = same_Some command Dump (read_so line (Some command) e d) in
    subst (λ (c : Command). OnDump (class_of c) P) same p

-- it is read as some command
pub dump_is_read : (line : List ℕ) (P : Type 0) → command_of line ≡ None → IsDump line → P
dump_is_read line P e d = let none : None ≡ Some Dump = read_so line None e d in absurd (cc none)
