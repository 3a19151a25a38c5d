-- Limits, compared with the totals.
use Rattle.std.proofs.Common.{◌≡◌, ◌≤◌, ◌+◌, ℕ, Bool, true, false, ◌||◌, if◌then◌else◌, nat_lt, [], ◌∷◌, length, Option}
use Rattle.std.proofs.Common.{Some, None, sym, ap, ◌∙◌, refl, arith}
use Rattle.std.proofs.lemmas.Bool.Decides.{nat_tests}
use Rattle.wot_types.specs.declared.limits.Limits.{Limits}
use Rattle.wot_types.specs.declared.limits.Limit.{Limit}
use Rattle.wot_types.specs.declared.limits.Limit.TheVariants as limits
use Rattle.wot_component.specs.Counts.{signatures_of}
use Rattle.wot_component.specs.Text.{size_of}
use Rattle.wot_merge.specs.declared.tally.Weight.{Weight}
use Rattle.wot_keyring_spec.specs.Import.{weigh, has_greater, first_full}
use Rattle.wot_keyring_spec.specs.Keyring.{Entries, Certificates}
use Rattle.wot_keyring_spec.specs.Kept.{AreSized}
use Rattle.wot_merge.specs.Staging.{long_of, weigh_kept, full_by}

above_zero : (n : ℕ) → nat_lt 0 (1 + n) ≡ true
above_zero n = grind (arith, nat_tests)

nothing_first : (n : ℕ) → n ≡ 0 + n
nothing_first n = omega arith

pub has_long : (limit : ℕ) (certs : Certificates) → has_greater limit certs ≡ nat_lt 0 (weigh (long_of limit) certs)
has_long limit [] = refl
has_long limit (e ∷ certs) =
    elim (nat_lt limit (size_of e.1)) as (λ b. b || has_greater limit certs ≡ nat_lt 0
    ((if b then 1 else 0) + weigh (long_of limit) certs)) [
      | true ↦ sym (above_zero (weigh (long_of limit) certs))
      | false ↦ has_long limit certs ∙ ap (nat_lt 0) (nothing_first (weigh (long_of limit) certs))
    ]

-- The totals show the first limit that is exceeded.
pub full_is : (l : Limits) (certs : Certificates) (total : Weight) (count : ℕ) → total.octets ≡ weigh size_of certs →
    total.signatures ≡ weigh signatures_of certs → total.long ≡ weigh (long_of l.certificate) certs →
    count ≡ length certs → full_by l total count ≡ first_full l certs
full_is l certs total count o s g n =
    ap (λ (w : Weight). full_by l w count) (λ i. record { octets = o i; signatures = s i; long = g i })
    ∙ ap (full_by l (record {
      octets = weigh size_of certs;
      signatures = weigh signatures_of certs;
      long =
          weigh (long_of l.certificate) certs;
    })) n
    ∙ ap (λ b. if b then Some limits.Certificate else (if nat_lt l.certificates (length certs) then Some
    limits.Certificates else (if nat_lt l.octets (weigh size_of certs) then Some limits.Octets
    else (if nat_lt l.signatures (weigh signatures_of certs) then Some limits.Signatures else None))))
    (sym (has_long l.certificate certs))

-- ---- what exceeds no limit

pub record Fits (l : Limits) (total : Weight) (count : ℕ) : Type 0 where
  pub long : total.long ≡ 0
  pub certificates : count ≤ l.certificates
  pub octets : total.octets ≤ l.octets
  pub signatures : total.signatures ≤ l.signatures

at_most : (a b : ℕ) → nat_lt a b ≡ false → b ≤ a
at_most a b h = grind (arith, nat_tests)

nothing_at_most : (n : ℕ) → n ≤ 0 → n ≡ 0
nothing_at_most n h = omega arith

first_not : (b : Bool) (x : Limit) (o : Option Limit) → (if b then Some x else o) ≡ None → b ≡ false
first_not true x o e = absurd cc
first_not false x o e = refl

then_not : (b : Bool) (x : Limit) (o : Option Limit) → (if b then Some x else o) ≡ None → o ≡ None
then_not true x o e = absurd cc
then_not false x o e = e

pub fits_of : (l : Limits) (total : Weight) (count : ℕ) → full_by l total count ≡ None → Fits l total count
fits_of l total count e =
    let e1 = then_not (nat_lt 0 total.long) limits.Certificate _ e in
    let e2 = then_not (nat_lt l.certificates count) limits.Certificates _ e1 in
    let e3 = then_not (nat_lt l.octets total.octets) limits.Octets _ e2 in
    record {
      long = nothing_at_most total.long (at_most 0 total.long (first_not (nat_lt 0 total.long) limits.Certificate _ e));
      certificates = at_most l.certificates count (first_not (nat_lt l.certificates count) limits.Certificates _ e1);
      octets = at_most l.octets total.octets (first_not (nat_lt l.octets total.octets) limits.Octets _ e2);
      signatures = at_most l.signatures total.signatures (first_not (nat_lt l.signatures total.signatures)
          limits.Signatures None e3);
    }

no_first : (n : ℕ) → 1 + n ≡ 0 → ⊥
no_first n e = omega arith

no_second : (n : ℕ) → 0 + n ≡ 0 → n ≡ 0
no_second n e = omega arith

pub all_sized : (limit : ℕ) (es : Entries) → weigh_kept (long_of limit) es ≡ 0 → AreSized limit es
all_sized limit [] e = tt
all_sized limit (x ∷ es) e =
    (elim (nat_lt limit (size_of x.1.cert)) as (λ b. nat_lt limit (size_of x.1.cert) ≡ b →
    (if b then 1 else 0) + weigh_kept (long_of limit) es ≡ 0 → AreSized limit (x ∷ es)) [
      | true ↦ λ t g. absurd (no_first _ g)
      | false ↦ λ f g. (at_most limit (size_of x.1.cert) f, all_sized limit es (no_second _ g))
    ]) refl e
