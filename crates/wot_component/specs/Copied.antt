-- Copies with their marks, or without.
use Rattle.std.specs.Prelude.{Bool, false}
use Rattle.wot_component.specs.declared.sig.Marks.{Marks}
use Rattle.wot_component.specs.declared.sig.Marks.TheVariants.{Kept, Dropped}
use Rattle.wot_component.specs.Certificate.{Signature}

abbrev pub mark_under : Marks → Bool → Bool
mark_under Kept mark = mark
mark_under Dropped mark = false

abbrev pub copied : Marks → Signature → Signature
copied marks s = record { body = s.body; number = s.number; admitted = mark_under marks s.admitted }
