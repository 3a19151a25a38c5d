-- The order of fingerprints is total, and fingerprints that tie in it are equal. Only this file takes fingerprints
-- apart.
use Rattle.std.specs.Prelude.{◌≡◌, false, length}
use Rattle.std.specs.declared.cmp.Ordering.{Ordering}
use Rattle.std.specs.declared.cmp.Ordering.TheVariants.{Less, Equal, Greater}
use Rattle.std.specs.Ordering.{is_eq, is_lt, is_gt, nat_cmp, ordering_then}
use Rattle.std.specs.Cmp.{IsTotalOrder, on_total}
use Rattle.std.specs.Cmp.Lexicographic.{slice_cmp, texts_ties}
use Rattle.std.proofs.Common.{refl, sym, ap, ◌∙◌, arith}
use Rattle.std.proofs.lemmas.Bool.{true≢false}
use Rattle.std.proofs.lemmas.Cmp.{nat_cmp_total, nat_list_cmp_total, then_total}
use Rattle.std.proofs.lemmas.Map.Lookups.{exact_bytes}
use Rattle.wot_types.specs.PlainLaws.{then-Equal}
use Rattle.wot_types.specs.declared.fpr.Fpr.{Fpr}
use Rattle.wot_types.specs.declared.fpr.Fpr.TheVariants.{V4, V6}
use Rattle.wot_types.specs.contracts.fpr.FprPartialEq.TheImpl.{ghosts}
use Rattle.wot_types.specs.Fpr.{octets_of, version_of, octets_in, fpr_cmp}

pub fpr_total : IsTotalOrder fpr_cmp
fpr_total = then_total (on_total octets_of nat_list_cmp_total) (on_total version_of nat_cmp_total)

-- fingerprints that tie are equal
pub fpr_exact : (a b : Fpr) → fpr_cmp a b ≡ Equal → a ≡ b
fpr_exact (V4 xs) (V4 ys) e = ap V4 (exact_bytes xs ys (then-Equal (slice_cmp nat_cmp xs ys) Equal e).0)
fpr_exact (V4 xs) (V6 ys) e = absurd (true≢false (ap is_lt {x = Less} (then-Equal (slice_cmp nat_cmp xs ys) Less e).1))
fpr_exact (V6 xs) (V4 ys) e =
    absurd (true≢false (ap is_gt {x = Greater} (then-Equal (slice_cmp nat_cmp xs ys) Greater e).1))
fpr_exact (V6 xs) (V6 ys) e = ap V6 (exact_bytes xs ys (then-Equal (slice_cmp nat_cmp xs ys) Equal e).0)

tied_before : (o : Ordering) → is_eq o ≡ is_eq (ordering_then o Equal)
tied_before Less = refl
tied_before Equal = refl
tied_before Greater = refl

less_behind : (o : Ordering) → false ≡ is_eq (ordering_then o Less)
less_behind Less = refl
less_behind Equal = refl
less_behind Greater = refl

greater_behind : (o : Ordering) → false ≡ is_eq (ordering_then o Greater)
greater_behind Less = refl
greater_behind Equal = refl
greater_behind Greater = refl

-- the derived equality test agrees with the order
pub fpr_ties : (a b : Fpr) → ghosts.eq a b ≡ is_eq (fpr_cmp a b)
fpr_ties (V4 xs) (V4 ys) = texts_ties xs ys ∙ tied_before (slice_cmp nat_cmp xs ys)
fpr_ties (V4 xs) (V6 ys) = less_behind (slice_cmp nat_cmp xs ys)
fpr_ties (V6 xs) (V4 ys) = greater_behind (slice_cmp nat_cmp xs ys)
fpr_ties (V6 xs) (V6 ys) = texts_ties xs ys ∙ tied_before (slice_cmp nat_cmp xs ys)

itself : (o : Ordering) → ordering_then o Equal ≡ o
itself Less = refl
itself Equal = refl
itself Greater = refl

decided : (o p : Ordering) → (o ≡ Equal → ⊥) → ordering_then o p ≡ o
decided Less p h = refl
decided Equal p h = absurd (h refl)
decided Greater p h = refl

-- fingerprints whose lengths fit their versions are ordered by their octets alone
pub by_octets : (a b : Fpr) → length (octets_of a) ≡ octets_in a → length (octets_of b) ≡ octets_in b
    → fpr_cmp a b ≡ slice_cmp nat_cmp (octets_of a) (octets_of b)
by_octets (V4 xs) (V4 ys) h k = itself (slice_cmp nat_cmp xs ys)
by_octets (V4 xs) (V6 ys) h k =
    decided (slice_cmp nat_cmp xs ys) _
    (λ e. let same = sym h ∙ ap length (exact_bytes xs ys e) ∙ k in omega (arith, same))
by_octets (V6 xs) (V4 ys) h k =
    decided (slice_cmp nat_cmp xs ys) _
    (λ e. let same = sym h ∙ ap length (exact_bytes xs ys e) ∙ k in omega (arith, same))
by_octets (V6 xs) (V6 ys) h k = itself (slice_cmp nat_cmp xs ys)
