use Rattle.std.proofs.Common.{length}
use Rattle.wot_random.specs.Certifications.{certifications_at, drawn_before}
use Rattle.wot_gen.specs.Script.{certificate_commands}
use Rattle.wot_gen.proofs.SoFar.{DrawnSoFar}
use Rattle.wot_gen.proofs.commands.put_certificates.Given as goal

abbrev pub invariant-loop-index : goal.invariant-loop-index
invariant-loop-index l =
    DrawnSoFar l.initial.words.start (drawn_before (length l.identities) l.index) l.words l.index
    (λ index. certificate_commands l.initial.words.start index (certifications_at l.initial.words.start
    (length l.identities) index))
    l.initial.commands.items l.commands.items
