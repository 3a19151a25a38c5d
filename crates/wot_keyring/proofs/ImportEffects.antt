-- What an import leaves when nothing is refused.
use Rattle.std.proofs.Common.{◌≡◌, ◌≢◌, ◌≤◌, ◌+◌, ◌-◌, inl, inr, ℕ, Bool, true, false, ◌||◌, if◌then◌else◌, nat_lt}
use Rattle.std.proofs.Common.{List, [], ◌∷◌, length, Option, Some, None, Ok, sym, ap, ◌∙◌, subst, refl, arith}
use Rattle.std.specs.List.{AllByRecursion}
use Rattle.std.specs.Map.{lookup}
use Rattle.std.specs.Option.{option_map}
use Rattle.std.proofs.lemmas.Bool.Decides.{nat_tests}
use Rattle.wot_key.specs.Key.{fpr_of}
use Rattle.wot_policy.specs.declared.rows.PolicyRows.{PolicyRows}
use Rattle.wot_types.specs.declared.limits.Limit.{Limit}
use Rattle.wot_component.specs.Certificate.{Certificate, unite}
use Rattle.wot_component.specs.Counts.{items_of, signatures_of}
use Rattle.wot_component.specs.Judged.{judged, sound_of}
use Rattle.wot_component.specs.Text.{size_of}
use Rattle.wot_component.specs.Whole.{IsCertificate}
use Rattle.wot_keyring_spec.specs.declared.imported.Imported.{Imported}
use Rattle.wot_keyring_spec.specs.declared.kept.Kept.{Kept}
use Rattle.wot_keyring_spec.specs.declared.refusal.Refusal.TheVariants.{Clash, Full}
use Rattle.wot_merge.specs.declared.tally.Weight.{Weight}
use Rattle.wot_keyring_spec.specs.Import.{weigh, with_certs, fresh_in, holding, answer_united, first_full, IsOneChange}
use Rattle.wot_keyring_spec.specs.Import.{KeepsAll, ◌>>◌, refuse_if}
use Rattle.wot_keyring_spec.specs.Held.{Held, held_of}
use Rattle.wot_keyring_spec.specs.Importing.{MayUnite}
use Rattle.wot_keyring_spec.specs.Keyring.{Entries, Keyring, certificates_in, is_fpr, stripped}
use Rattle.wot_keyring_spec.specs.Later.{IsLater}
use Rattle.wot_keyring_spec.specs.Kept.{AreNamed, AreWhole, AreSortedByFpr, AreSized, AreStamped, IsKeyring, AreTotals}
use Rattle.wot_merge.specs.Staging.{found_for, kept_as, kept_with, kept_all, clash_at, clash_in, weigh_kept, long_of}
use Rattle.wot_merge.specs.Staging.{IsTally}
use Rattle.wot_merge.proofs.Clashes.{keys_same}
use Rattle.wot_keyring_spec.proofs.Inserts.{put_at, found_at}
use Rattle.wot_keyring.proofs.Marks.{kept_present, stamped_all, stamped_after}
use Rattle.wot_keyring_spec.proofs.Stamps.{still_stamped}
use Rattle.wot_merge.proofs.Transport.{certs_all, seen_weighs, seen_length}
use Rattle.wot_merge.proofs.Unchanged.{all_same}
use Rattle.wot_merge.proofs.Within.{full_is, Fits, fits_of, all_sized}

-- ---- names, and what is true of certificates

pub named_all : (rows : PolicyRows) (stamp : ℕ) (es : Entries) (cs : List Certificate) → AreNamed es →
    AreNamed (kept_all rows stamp es cs)
named_all rows stamp es [] all = all
named_all rows stamp es (c ∷ cs) all =
    named_all rows stamp (kept_with rows stamp es c) cs (put_at (λ fpr x. fpr ≡ fpr_of x.cert.key) es (fpr_of c.key)
    (kept_as rows stamp (found_for es c) c) all
    ((elim (found_for es c) as (λ (o : Option Kept). found_for es c ≡ o →
    fpr_of c.key ≡ fpr_of (kept_as rows stamp o c).cert.key) [
      | None ↦ λ none. refl
      | Some x ↦ λ found. found_at (λ fpr y. fpr ≡ fpr_of y.cert.key) (fpr_of c.key) es x all found
    ]) refl))

neither : (a b : Bool) → a || b ≡ false → (a ≡ false) × (b ≡ false)
neither true b h = absurd cc
neither false b h = (refl, h)

module _ (united : (a b : Certificate) → IsCertificate a → IsCertificate b → a.key ≡ b.key → IsCertificate (unite a b))
    (marked : (rows : PolicyRows) (c : Certificate) → IsCertificate c → IsCertificate (judged rows c))
    (rows : PolicyRows) (stamp : ℕ) where
  whole_as : (found : Option Kept) (c : Certificate) (es : Entries) → found_for es c ≡ found → AreWhole es →
      IsCertificate c → clash_at found c ≡ false → IsCertificate (kept_as rows stamp found c).cert
  whole_as None c es found all whole none = marked rows c whole
  whole_as (Some x) c es found all whole none =
      united x.cert (judged rows c) (found_at (λ fpr y. IsCertificate y.cert) (fpr_of c.key) es x all found)
      (marked rows c whole) (sym (keys_same c.key x.cert.key none))

  pub whole_all : (es : Entries) (cs : List Certificate) → AreWhole es → AllByRecursion IsCertificate cs →
      clash_in rows stamp es cs ≡ false → AreWhole (kept_all rows stamp es cs)
  whole_all es [] all whole none = all
  whole_all es (c ∷ cs) all whole none =
      let n = neither (clash_at (found_for es c) c) (clash_in rows stamp (kept_with rows stamp es c) cs) none in
      whole_all (kept_with rows stamp es c) cs
      (put_at (λ fpr x. IsCertificate x.cert) es (fpr_of c.key) (kept_as rows stamp (found_for es c) c) all
      (whole_as (found_for es c) c es refl all whole.0 n.0))
      whole.1 n.1

-- ---- numbers

less_is : (f a b : ℕ) → f + a ≡ b → f ≡ b - a
less_is f a b h = omega arith

at_most_is : (f a b : ℕ) → f + a ≤ b → f ≤ b - a
at_most_is f a b h = omega arith

pub weighs_stripped : (measure : Certificate → ℕ) (es : Entries) → weigh measure (stripped es) ≡ weigh_kept measure es
weighs_stripped measure es = seen_weighs measure (λ (c : Certificate). c) (λ c. refl) es

pub weighs_all : (measure : Certificate → ℕ) (rows : PolicyRows) (stamp : ℕ) (es : Entries) (cs : List Certificate) →
    weigh_kept measure (kept_all rows stamp es cs) ≡ weigh measure (with_certs rows (stripped es) cs)
weighs_all measure rows stamp es cs = sym (weighs_stripped measure (kept_all rows stamp es cs))
    ∙ ap (weigh measure) (certs_all rows stamp es cs)

not_long : (s limit : ℕ) → s ≤ limit → nat_lt limit s ≡ false
not_long s limit h = grind (arith, nat_tests)

nothing_more : (n : ℕ) → 0 ≡ n → 0 ≡ 0 + n
nothing_more n e = omega arith

none_long : (limit : ℕ) (es : Entries) → AreSized limit es → 0 ≡ weigh_kept (long_of limit) es
none_long limit [] all = refl
none_long limit (e ∷ es) all =
    nothing_more _ (none_long limit es all.1) ∙ ap (λ b. (if b then 1 else 0) + weigh_kept (long_of limit) es)
    (sym (not_long (size_of e.1.cert) limit all.0))

-- The totals of a keyring.
pub tally_of : (k : Keyring) (octets signatures : ℕ) → IsKeyring k → AreTotals k octets signatures →
    IsTally k.limits.certificate k.certs (record { octets = octets; signatures = signatures; long = 0 })
tally_of k octets signatures h t = record {
  octets = t.octets ∙ weighs_stripped size_of k.certs;
  signatures = t.signatures ∙ weighs_stripped signatures_of k.certs;
  long = none_long k.limits.certificate k.certs h.within.certificate;
}

-- how often the policy was asked
pub asked_all : (rows : PolicyRows) (stamp : ℕ) (es : Entries) (cs : List Certificate) (n : ℕ) →
    n + weigh_kept sound_of es ≡ weigh_kept sound_of (kept_all rows stamp es cs) →
    n ≡ weigh sound_of (with_certs rows (stripped es) cs) - weigh sound_of (stripped es)
asked_all rows stamp es cs n e =
    less_is n (weigh_kept sound_of es) _ e
    ∙ (λ i. weighs_all sound_of rows stamp es cs i - sym (weighs_stripped sound_of es) i)

pub asked_some : (rows : PolicyRows) (stamp : ℕ) (es : Entries) (cs : List Certificate) (n : ℕ) →
    n + weigh_kept sound_of es ≤ weigh_kept sound_of (kept_all rows stamp es cs) →
    n ≤ weigh sound_of (with_certs rows (stripped es) cs) - weigh sound_of (stripped es)
asked_some rows stamp es cs n h =
    let Least : ℕ → Type 0 = λ m. n ≤ m in
    subst Least (λ i. weighs_all sound_of rows stamp es cs i - sym (weighs_stripped sound_of es) i)
    (at_most_is n (weigh_kept sound_of es) _ h)

none_fresh : (f a b : ℕ) → f + a ≡ b → nat_lt 0 f ≡ false → b ≡ a
none_fresh f a b e h = let z : f ≡ 0 = grind (arith, nat_tests) in omega arith

some_more : (f a b : ℕ) → f + a ≡ b → b ≡ a → nat_lt 0 f ≡ true → ⊥
some_more f a b e same h = let z : nat_lt 0 f ≡ false = grind (arith, nat_tests) in cc

module _ (rows : PolicyRows) (k : Keyring) (cs : List Certificate) (new : Entries) (fresh : ℕ) (h : IsKeyring k)
    (put : new ≡ kept_all rows (k.changes + 1) k.certs cs) (more : fresh + weigh_kept items_of k.certs ≡ weigh_kept
    items_of new) (grows_items : (a b : Certificate) → items_of a ≤ items_of (unite a b)) where
  pub fresh_is : fresh ≡ fresh_in (certificates_in k) (with_certs rows (certificates_in k) cs)
  fresh_is =
      less_is fresh (weigh_kept items_of k.certs) _ more
      ∙ (λ i. (ap (weigh_kept items_of) put ∙ weighs_all items_of rows (k.changes + 1) k.certs cs) i - sym
      (weighs_stripped items_of k.certs) i)

  abbrev with_changes : ℕ → Keyring
  with_changes n = record { limits = k.limits; certs = new; verdicts = k.verdicts; changes = n }

  abbrev after : Keyring
  after = with_changes (if nat_lt 0 fresh then k.changes + 1 else k.changes)

  -- It is the keyring of the definition.
  pub held : after ≡ holding k (with_certs rows (certificates_in k) cs)
  held = λ i. record {
    limits = k.limits;
    certs = (put ∙ stamped_all rows k grows_items cs h.sorted) i;
    verdicts = k.verdicts;
    changes = if nat_lt 0 (fresh_is i) then k.changes + 1 else k.changes;
  }

  abbrev counts : ℕ → Imported
  counts skipped = record {
    taken = length cs;
    skipped = skipped;
    fresh =
        fresh_in (certificates_in k) (with_certs rows (certificates_in k) cs);
  }

  -- The answer is that of the definition.
  pub answered : (skipped : ℕ) → MayUnite k.limits (certificates_in k) cs →
      Ok (record { taken = length cs; skipped = skipped; fresh = fresh }) ≡ answer_united rows k.limits
      (certificates_in k) cs skipped
  answered skipped may =
      ap (λ n. Ok (record { taken = length cs; skipped = skipped; fresh = n })) fresh_is
      ∙ sym (
      ap (λ b. refuse_if b Clash >> (option_map Full (first_full k.limits (with_certs rows (certificates_in k) cs))
      >> Ok (counts skipped))) may.clash
      ∙ ap (λ (o : Option Limit). option_map Full o >> Ok (counts skipped)) (may.full rows)
      )

  module _ (still : (a b : Certificate) → items_of (unite a b) ≡ items_of a → unite a b ≡ a) where
    unchanged : nat_lt 0 fresh ≡ false → new ≡ k.certs
    unchanged none =
        put ∙ all_same rows (k.changes + 1) still grows_items k.certs cs h.sorted (ap (weigh_kept items_of) (sym put)
        ∙ none_fresh fresh _ _ more none)

    more_held : nat_lt 0 fresh ≡ true → held_of after ≢ held_of k
    more_held some = λ same.
        some_more fresh (weigh_kept items_of k.certs) (weigh_kept items_of new) more
        (sym (weighs_stripped items_of new) ∙ ap (λ (h : Held). weigh items_of h.certs) same
        ∙ weighs_stripped items_of k.certs) some

    all_kept : KeepsAll k after
    all_kept fpr none = kept_present rows (k.changes + 1) fpr k.certs cs (ap (λ (es : Entries). lookup (is_fpr fpr) es)
        (sym put) ∙ none)

    -- Nothing was altered, or something was and counts as one change.
    pub changed_once : IsLater k after → IsOneChange k after
    changed_once =
        (elim (nat_lt 0 fresh) as (λ b. nat_lt 0 fresh ≡ b →
        IsLater k (with_changes (if b then k.changes + 1 else k.changes)) →
        IsOneChange k (with_changes (if b then k.changes + 1 else k.changes))) [
          | true ↦ λ t later. inr (record { counted = refl; altered = more_held t; later = later; kept = inl all_kept })
          | false ↦ λ f later. inl (ap (λ (es : Entries). record {
            limits = k.limits;
            certs = es;
            verdicts =
                k.verdicts;
            changes = k.changes;
          }) (unchanged f))
        ]) refl

    module _ (united : (a b : Certificate) → IsCertificate a → IsCertificate b → a.key ≡ b.key →
        IsCertificate (unite a b)) (marked : (rows : PolicyRows) (c : Certificate) → IsCertificate c →
        IsCertificate (judged rows c)) (total : Weight) (sorted : AreSortedByFpr new)
        (t : IsTally k.limits.certificate new total) (none : clash_in rows (k.changes + 1) k.certs cs ≡ false)
        (whole : AllByRecursion IsCertificate cs) (may : MayUnite k.limits (certificates_in k) cs) where
      fits : Fits k.limits total (length new)
      fits =
          fits_of k.limits total (length new)
          (full_is k.limits (with_certs rows (certificates_in k) cs) total (length new)
          (t.octets ∙ ap (weigh_kept size_of) put ∙ weighs_all size_of rows (k.changes + 1) k.certs cs)
          (t.signatures ∙ ap (weigh_kept signatures_of) put ∙ weighs_all signatures_of rows (k.changes + 1) k.certs cs)
          (t.long ∙ ap (weigh_kept (long_of k.limits.certificate)) put ∙ weighs_all (long_of k.limits.certificate) rows
          (k.changes + 1) k.certs cs)
          (ap length put ∙ sym (seen_length (λ (c : Certificate). c) (kept_all rows (k.changes + 1) k.certs cs))
          ∙ ap length (certs_all rows (k.changes + 1) k.certs cs))
          ∙ may.full rows)

      pub totals_after : AreTotals after total.octets total.signatures
      totals_after = record {
        octets = t.octets ∙ sym (weighs_stripped size_of new);
        signatures = t.signatures
            ∙ sym (weighs_stripped signatures_of new);
      }

      stamps_after : AreStamped after.changes new
      stamps_after =
          (elim (nat_lt 0 fresh) as (λ b. nat_lt 0 fresh ≡ b → AreStamped (if b then k.changes + 1 else k.changes)
          new) [
            | true ↦ λ g. subst (AreStamped (k.changes + 1)) (sym put) (stamped_after rows k.changes k.certs cs
                (still_stamped k.changes k.certs h.stamped))
            | false ↦ λ f. subst (AreStamped k.changes) (sym (unchanged f)) h.stamped
          ]) refl

      -- It is a keyring.
      pub keyring_after : IsKeyring after
      keyring_after =
          let f = fits in
          let Below : ℕ → ℕ → Type 0 = λ limit n. n ≤ limit in
          record {
            small = h.small;
            named = subst AreNamed (sym put) (named_all rows (k.changes + 1) k.certs cs h.named);
            whole = subst AreWhole (sym put) (whole_all united marked rows (k.changes + 1) k.certs cs h.whole whole
                none);
            sorted = sorted;
            within = record {
              certificate = all_sized k.limits.certificate new (sym t.long ∙ f.long);
              certificates = f.certificates;
              octets = subst (Below k.limits.octets) totals_after.octets f.octets;
              signatures = subst (Below k.limits.signatures) totals_after.signatures f.signatures;
              verdicts = h.within.verdicts;
            };
            stamped = stamps_after;
          }
