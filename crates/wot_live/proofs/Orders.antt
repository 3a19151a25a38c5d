-- The orders of fingerprints, of edges and of their places.
use Rattle.std.proofs.Common.{◌≡◌, ap, ◌∙◌}
use Rattle.std.specs.declared.cmp.Ordering.TheVariants.{Equal}
use Rattle.std.specs.Ordering.{nat_cmp, ordering_then}
use Rattle.std.specs.Cmp.{IsTotalOrder}
use Rattle.std.proofs.lemmas.Cmp.{nat_cmp_total, on_total, then_total, tied_itself}
use Rattle.std.proofs.lemmas.Map.Lookups.{exact_unsigned}
use Rattle.wot_types.specs.Fpr.{fpr_cmp}
use Rattle.wot_types.specs.FprLaws.{fpr_exact, fpr_total}
use Rattle.wot_types.specs.PlainLaws.{then-Equal}
use Rattle.wot_edge.specs.declared.edge.EdgeFacts.{EdgeFacts}
use Rattle.wot_edge.specs.Order.{edge_cmp}

-- ---- edges

pub edge_total : IsTotalOrder edge_cmp
edge_total = then_total (on_total (λ edge. edge.issuer) fpr_total) (on_total (λ edge. edge.uid) nat_cmp_total)

pub edge_exact : (x y : EdgeFacts) → edge_cmp x y ≡ Equal → (x.issuer ≡ y.issuer) × (x.uid ≡ y.uid)
edge_exact x y e =
    let a = then-Equal (fpr_cmp x.issuer y.issuer) (nat_cmp x.uid y.uid) e in
    (fpr_exact _ _ a.0, exact_unsigned _ _ a.1)

pub edge_tied : (x y : EdgeFacts) → x.issuer ≡ y.issuer → x.uid ≡ y.uid → edge_cmp x y ≡ Equal
edge_tied x y e f =
    ap (λ i. ordering_then (fpr_cmp i y.issuer) (nat_cmp x.uid y.uid)) e
    ∙ ap (λ u. ordering_then (fpr_cmp y.issuer y.issuer) (nat_cmp u y.uid)) f
    ∙ ap (λ o. ordering_then o (nat_cmp y.uid y.uid)) (tied_itself fpr_total y.issuer)
    ∙ tied_itself nat_cmp_total y.uid
