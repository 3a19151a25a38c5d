-- If there is room for one certificate even if all of it is new, nothing clashes and no limit is exceeded.
use Rattle.std.proofs.Common.{◌≡◌, ◌≤◌, ◌<◌, ◌+◌, ℕ, true, false, not, ◌&&◌, ◌||◌, if◌then◌else◌, nat_eq, nat_lt, List}
use Rattle.std.proofs.Common.{[], ◌∷◌, length, Option, Some, None, refl, sym, ap, ◌∙◌, subst, arith}
use Rattle.std.specs.Cmp.Lexicographic.{pointwise}
use Rattle.std.specs.List.{list_any}
use Rattle.std.proofs.lemmas.Bool.Decides.{nat_tests}
use Rattle.wot_types.specs.declared.limits.Limits.{Limits}
use Rattle.wot_types.specs.declared.limits.Limit.TheVariants as limits
use Rattle.wot_key.specs.Key.{fpr_of}
use Rattle.wot_policy.specs.declared.rows.PolicyRows.{PolicyRows}
use Rattle.wot_component.specs.Certificate.{Certificate, unite}
use Rattle.wot_component.specs.Counts.{signatures_of}
use Rattle.wot_component.specs.Judged.{judged}
use Rattle.wot_component.specs.Text.{size_of, text_of}
use Rattle.wot_keyring_spec.specs.declared.kept.Kept.{Kept}
use Rattle.wot_merge.specs.declared.tally.Weight.{Weight}
use Rattle.wot_keyring_spec.specs.Import.{any_clash, clash, first_full, weigh, with_certs}
use Rattle.wot_keyring_spec.specs.Importing.{alone, MayUnite}
use Rattle.wot_keyring_spec.specs.Kept.{AreNamed, AreSortedByFpr, IsKeyring}
use Rattle.wot_keyring_spec.specs.Keyring.{Certificates, Entries, Keyring, certificates_in, stripped}
use Rattle.wot_merge.specs.Room.{FitsBeside, HasRoom}
use Rattle.wot_merge.specs.Staging.{clash_at, found_by, found_for, full_by, joined, kept_as, long_of, weigh_kept}
use Rattle.wot_merge.specs.Staging.{IsTally}
use Rattle.wot_keyring.proofs.ImportEffects.{weighs_all}
use Rattle.wot_merge.proofs.Clashes.{bodies_same, clash_kept}
use Rattle.wot_merge.proofs.Steps.{weighs_by}
use Rattle.wot_merge.proofs.TotalWeight.{ones}
use Rattle.wot_merge.proofs.Within.{full_is}

-- ---- numbers

at_most_both : (w f e j m : ℕ) → w + f ≡ e + j → j ≤ f + m → w ≤ e + m
at_most_both w f e j m h k = omega arith

below_all : (w e t m most : ℕ) → w ≤ e + m → t ≡ e → t + m ≤ most → w ≤ most
below_all w e t m most h k n = omega arith

one_more : (w f e most : ℕ) → w + f ≡ e + 1 → e < most → w ≤ most
one_more w f e most h k = omega arith

none_left : (w f e j t : ℕ) → w + f ≡ e + j → t ≡ e → t ≡ 0 → j ≡ 0 → w ≡ 0
none_left w f e j t h k n o = omega arith

not_less : (a b : ℕ) → b ≤ a → nat_lt a b ≡ false
not_less a b h = grind (arith, nat_tests)

not_above_zero : (n : ℕ) → n ≡ 0 → nat_lt 0 n ≡ false
not_above_zero n h = grind (arith, nat_tests)

within_all : (u f m most : ℕ) → u ≤ f + m → f + m ≤ most → u ≤ most
within_all u f m most h k = omega arith

from_nothing : (s limit : ℕ) → s ≤ limit → 0 + s ≤ limit
from_nothing s limit h = omega arith

-- ---- one certificate and what is kept of it

same_points : (a : List ℕ) → pointwise nat_eq a a ≡ true
same_points [] = refl
same_points (x ∷ xs) =
    let e : nat_eq x x ≡ true = grind (arith, nat_tests) in
    ap (λ b. b && pointwise nat_eq xs xs) e ∙ same_points xs

no_clash : (limit : ℕ) (found : Option Kept) (c : Certificate) → FitsBeside found c limit → clash_at found c ≡ false
no_clash limit None c h = refl
no_clash limit (Some x) c h = ap not (ap (pointwise nat_eq c.key) h.0 ∙ same_points c.key)

no_more : (limit : ℕ) (found : Option Kept) (c : Certificate) → FitsBeside found c limit →
    found_by size_of found + size_of c ≤ limit
no_more limit None c h = from_nothing (size_of c) limit h
no_more limit (Some x) c h = h.1

passes_none : (l : Limits) (w : Weight) (n : ℕ) → w.long ≡ 0 → n ≤ l.certificates → w.octets ≤ l.octets →
    w.signatures ≤ l.signatures → full_by l w n ≡ None
passes_none l w n g h o s =
    let b1 : nat_lt 0 w.long ≡ false = not_above_zero w.long g in
    let b2 : nat_lt l.certificates n ≡ false = not_less l.certificates n h in
    let b3 : nat_lt l.octets w.octets ≡ false = not_less l.octets w.octets o in
    let b4 : nat_lt l.signatures w.signatures ≡ false = not_less l.signatures w.signatures s in
    λ i. if b1 i then Some limits.Certificate else if b2 i then Some limits.Certificates else if b3 i then Some
    limits.Octets else if b4 i then Some limits.Signatures else None

module _ (rows : PolicyRows) (c : Certificate) where
  joined_most : (measure : Certificate → ℕ) → ((a b : Certificate) → measure (unite a b) ≤ measure a + measure b) →
      measure (judged rows c) ≡ measure c
      → (found : Option Kept) → measure (joined rows found c) ≤ found_by measure found + measure c
  joined_most measure together same None = omega (arith, same)
  joined_most measure together same (Some x) = omega (arith, together x.cert (judged rows c), same)

-- ---- the merge

module _ (together : (a b : Certificate) → size_of (unite a b) ≤ size_of a + size_of b) (signed : (a b : Certificate) →
    signatures_of (unite a b) ≤ signatures_of a + signatures_of b)
    (texts : (rows : PolicyRows) (c : Certificate) → text_of (judged rows c) ≡ text_of c)
    (marks : (rows : PolicyRows) (c : Certificate) → signatures_of (judged rows c) ≡ signatures_of c)
    (l : Limits) (es : Entries) (total : Weight) (c : Certificate) (room : HasRoom es total c l) (named : AreNamed es)
    (sorted : AreSortedByFpr es) (tally : IsTally l.certificate es total) (none_long : total.long ≡ 0) where
  module _ (rows : PolicyRows) where
    abbrev found : Option Kept
    found = found_for es c

    abbrev with_it : Certificates
    with_it = with_certs rows (stripped es) (c ∷ [])

    by : (measure : Certificate → ℕ) → weigh measure with_it + found_by measure found ≡ weigh_kept measure es + measure
        (joined rows found c)
    by measure = ap (λ n. n + found_by measure found) (sym (weighs_all measure rows 0 es (c ∷ [])))
        ∙ weighs_by measure es (fpr_of c.key) (kept_as rows 0 found c) sorted

    same_size : size_of (judged rows c) ≡ size_of c
    same_size = ap length (texts rows c)

    octets_left : weigh size_of with_it ≤ l.octets
    octets_left = below_all _ _ _ _ _ (at_most_both _ _ _ _ _ (by size_of)
        (joined_most rows c size_of together same_size found)) tally.octets room.few.octets

    signatures_left : weigh signatures_of with_it ≤ l.signatures
    signatures_left = below_all _ _ _ _ _ (at_most_both _ _ _ _ _ (by signatures_of)
        (joined_most rows c signatures_of signed (marks rows c) found)) tally.signatures room.few.signatures

    certificates_left : length with_it ≤ l.certificates
    certificates_left = subst (λ n. n ≤ l.certificates) (ones with_it)
        (one_more _ _ _ _ (by (λ _. 1)) (subst (λ n. n < l.certificates) (sym (ones es)) room.one_more))

    not_long : long_of l.certificate (joined rows found c) ≡ 0
    not_long = ap (λ b. if b then 1 else 0)
        (not_less _ _ (within_all _ _ _ _ (joined_most rows c size_of together same_size found)
        (no_more l.certificate found c room.beside)))

    long_left : weigh (long_of l.certificate) with_it ≡ 0
    long_left = none_left _ _ _ _ _ (by (long_of l.certificate)) tally.long none_long not_long

    none_full : first_full l with_it ≡ None
    none_full =
        let w : Weight = record {
          octets = weigh size_of with_it;
          signatures = weigh signatures_of with_it;
          long =
              weigh (long_of l.certificate) with_it;
        } in
        sym (full_is l with_it w (length with_it) refl refl refl refl) ∙ passes_none l w (length with_it) long_left
        certificates_left octets_left signatures_left

  none_clash : any_clash (alone (stripped es)) (c ∷ []) ≡ false
  none_clash =
      ap (λ (earlier : List Certificate). list_any (clash c) earlier || false) (bodies_same es)
      ∙ ap (λ b. b || false) (clash_kept c es named sorted ∙ no_clash l.certificate (found_for es c) c room.beside)

  -- So it may be merged with the kept ones.
  pub may_unite : MayUnite l (stripped es) (c ∷ [])
  may_unite = record { clash = none_clash; full = none_full }

-- The fact for a keyring that is given by its fields.
pub may_unite_now : (together : (a b : Certificate) → size_of (unite a b) ≤ size_of a + size_of b)
    (signed : (a b : Certificate) → signatures_of (unite a b) ≤ signatures_of a + signatures_of b)
    → (texts : (rows : PolicyRows) (c : Certificate) → text_of (judged rows c) ≡ text_of c)
    (marks : (rows : PolicyRows) (c : Certificate) → signatures_of (judged rows c) ≡ signatures_of c)
    → (inside k : Keyring) (total : Weight) (c : Certificate) (cs : List Certificate) → inside ≡ k →
    HasRoom inside.certs total c inside.limits → IsKeyring k → IsTally k.limits.certificate k.certs total →
    total.long ≡ 0 → cs ≡ c ∷ []
    → MayUnite k.limits (certificates_in k) cs
may_unite_now together signed texts marks inside k total c cs same room whole tally none_long one =
    subst (MayUnite k.limits (certificates_in k)) (sym one)
    (may_unite together signed texts marks k.limits k.certs total c
    (subst (λ (x : Keyring). HasRoom x.certs total c x.limits) same room) whole.named whole.sorted tally none_long)
