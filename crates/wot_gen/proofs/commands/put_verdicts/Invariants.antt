use Rattle.std.proofs.Common.{◌≡◌, ◌++◌, map, take}
use Rattle.wot_script.specs.declared.command.Command.TheVariants.{Good}
use Rattle.wot_random.specs.declared.certification.Certification.{Certification}
use Rattle.wot_gen.proofs.commands.put_verdicts.Given as goal

abbrev pub invariant-loop-made : goal.invariant-loop-made
invariant-loop-made l =
    l.commands.items
    ≡ l.initial.commands.items
    ++ map (λ (made : Certification). Good made.number made.issuer) (take l.made-index l.certifications)
