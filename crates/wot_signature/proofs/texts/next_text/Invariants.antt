use Rattle.std.proofs.Common.{◌≡◌}
use Rattle.wot_signature.specs.Signature.{texts_in}
use Rattle.wot_signature.proofs.texts.next_text.Given as goal

abbrev pub invariant-walk : goal.invariant-walk
invariant-walk l = texts_in l.initial.subs ≡ texts_in l.subs
