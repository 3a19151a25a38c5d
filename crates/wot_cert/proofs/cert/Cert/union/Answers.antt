use Rattle.std.proofs.Common.{◌≡◌, ap, sym, ◌∙◌, subst}
use Rattle.wot_key.specs.Key.{key_of, fpr_of}
use Rattle.wot_component.specs.Certificate.{Certificate}
use Rattle.wot_component.specs.Whole.{IsCertificate}
use Rattle.wot_cert.proofs.Same.{same_cert}
use Rattle.wot_component.proofs.Wholes.{unite_whole}
use Rattle.wot_cert.proofs.cert.Cert.union.Goals as goal

pub whole-requires : goal.whole-requires
whole-requires c =
    let a = c.self.inside in
    let b = c.other.inside in
    let k : c.in_ok-body.body.items ≡ a.body.items = c.in_ok-body.ensures.items ∙ c.deref.ensures.value in
    let unions = c.in_ok-put_unions.ensures.unions in
    let same : a.body.items ≡ b.body.items =
    ap (λ (x : Certificate). x.key) c.self.view_is ∙ c.requires
    ∙ sym (ap (λ (x : Certificate). x.key) c.other.view_is) in
    let whole = unite_whole _ _ c.self.invariant.0.2 c.other.invariant.0.2 same in (
      c.self.invariant.0.0 ∙ ap key_of (sym k),
      c.self.invariant.0.1 ∙ ap fpr_of (sym k),
      subst IsCertificate (sym (same_cert _ _ k unions.direct unions.user_ids unions.attributes unions.subkeys)) whole,
    )
