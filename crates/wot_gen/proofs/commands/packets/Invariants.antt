use Rattle.std.proofs.Common.{◌≡◌, ◌++◌, take}
use Rattle.std.specs.List.{flat_map}
use Rattle.wot_random.specs.declared.certification.Certification.{Certification}
use Rattle.wot_gen.proofs.commands.packets.Given as goal

abbrev pub invariant-loop-made : goal.invariant-loop-made
invariant-loop-made l =
    l.text.items ≡ l.initial.text.items ++ flat_map (λ (made : Certification). made.packet)
    (take l.made-index l.certifications)
