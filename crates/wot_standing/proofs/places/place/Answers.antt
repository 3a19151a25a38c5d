use Rattle.std.proofs.Common.{◌≡◌, ◌∙◌, Ordering, subst}
use Rattle.std.specs.BTreeMap.{is_at}
use Rattle.std.specs.Map.{lookup}
use Rattle.wot_standing.specs.declared.places.Certified.{Certified}
use Rattle.wot_standing.proofs.Placing.{same_certified_cmp}
use Rattle.wot_standing.proofs.places.place.Goals as goal

pub returns : goal.returns
returns c =
    let a = c.args in
    let P : (Certified → Certified → Ordering) → Type 0 =
    λ cmp. c.copied.result ≡ lookup (is_at (cmp (record { issuer = a.issuer; uid = a.uid }))) a.places.now.entries in
    subst P same_certified_cmp (c.copied.ensures ∙ c.get.ensures.value)
