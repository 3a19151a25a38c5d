use Rattle.std.proofs.Common.{◌≡◌, ap, sym, ◌∙◌, subst}
use Rattle.wot_key.specs.Key.{key_of, fpr_of}
use Rattle.wot_component.specs.Copied.{mark_under}
use Rattle.wot_component.specs.Whole.{IsCertificate}
use Rattle.wot_cert.proofs.Same.{same_cert}
use Rattle.wot_component.proofs.Wholes.{marked_whole}
use Rattle.wot_cert.proofs.cert.Cert.copied.Goals as goal

pub whole-requires : goal.whole-requires
whole-requires c =
    let a = c.self.inside in
    let k : c.in_ok-body.body.items ≡ a.body.items = c.in_ok-body.ensures.items ∙ c.deref.ensures.value in
    let copies = c.in_ok-put_copies.ensures.copies in
    let whole = marked_whole (λ s. mark_under c.args.marks s.admitted) _ c.self.invariant.0.2 in (
      c.self.invariant.0.0 ∙ ap key_of (sym k),
      c.self.invariant.0.1 ∙ ap fpr_of (sym k),
      subst IsCertificate (sym (same_cert _ _ k copies.direct copies.user_ids copies.attributes copies.subkeys)) whole,
    )
