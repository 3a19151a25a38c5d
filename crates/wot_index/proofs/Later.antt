-- "Later" is reflexive, transitive, and kept by each change.
use Rattle.std.proofs.Common.{◌≡◌, ◌≤◌, ◌<◌, ◌+◌, inl, inr, ℕ, Bool, true, false, ◌||◌, cond, List, [], ◌∷◌, ◌++◌}
use Rattle.std.proofs.Common.{Option, Some, None, refl, sym, ap, ◌∙◌, subst, arith}
use Rattle.std.specs.List.{AllByRecursion, list_any}
use Rattle.std.specs.Option.{option_map, option_map_or}
use Rattle.std.specs.declared.cmp.Ordering.TheVariants.{Less, Equal, Greater}
use Rattle.std.specs.Ordering.{match_ordering}
use Rattle.std.specs.BTreeMap.{insert_entry}
use Rattle.std.specs.Map.{lookup, remove_entry}
use Rattle.std.proofs.lemmas.Bool.{or_parts}
use Rattle.std.proofs.lemmas.List.Folds.{list_any-append}
use Rattle.std.proofs.lemmas.Map.Made.{lookup-map_values}
use Rattle.wot_types.specs.declared.fpr.Fpr.{Fpr}
use Rattle.wot_types.specs.declared.number.SigNumber.{SigNumber}
use Rattle.wot_types.specs.SigNumber.{number_cmp}
use Rattle.wot_verdict.specs.Verdicts as verdicts
use Rattle.wot_verdict.specs.Verdicts.{verdict_at, is_number}
use Rattle.wot_verdict.specs.declared.verdict.Verdict.{Verdict}
use Rattle.wot_component.specs.Certificate.{Signature, Component, Certificate}
use Rattle.wot_component.specs.Counts.{all_sigs, parts_in, sigs_on}
use Rattle.wot_keyring_spec.specs.declared.kept.Kept.{Kept}
use Rattle.wot_keyring_spec.specs.Keyring.{Entries, Keyring, kept_at, stamp_at, is_fpr}
use Rattle.wot_keyring_spec.specs.Kept.{IsKeyring}
use Rattle.wot_keyring_spec.specs.Later.{SaysSame, IsUnaltered, IsLaterAt, IsLater}
use Rattle.wot_keyring_spec.specs.Removal.{without_cert}
use Rattle.wot_keyring_spec.specs.Verdict.{has_number, is_among, is_on, restamped, counted_at, with_verdict_on}
use Rattle.wot_keyring_spec.specs.Verdict.{without_verdict_on}
use Rattle.wot_index.proofs.Choices.{or_more}
use Rattle.wot_slots.proofs.Numbers.{exact, turned, same_number}
use Rattle.wot_index.proofs.Noted.{found_without}

itself : (n : ℕ) → n ≤ n
itself n = omega arith

one_more : (n : ℕ) → n ≤ n + 1
one_more n = omega arith

pub above : (n : ℕ) → n < n + 1
above n = omega arith

chain : (a b c : ℕ) → a ≤ b → b ≤ c → a ≤ c
chain a b c h k = omega arith

risen : (a b c : ℕ) → a ≤ b → b < c → a < c
risen a b c h k = omega arith

pub stamp_by : (k : Keyring) (fpr : Fpr) (found : Option Kept) → kept_at k fpr ≡ found →
    stamp_at k fpr ≡ option_map_or (λ (x : Kept). x.stamp) found 0
stamp_by k fpr found e = ap (λ (o : Option Kept). option_map_or (λ (x : Kept). x.stamp) o 0) e

-- ---- an order

pub says_same : (said : verdicts.Entries) (sigs : List Signature) → AllByRecursion (SaysSame said said) sigs
says_same said [] = tt
says_same said (s ∷ sigs) = (refl, says_same said sigs)

says_on : (a b c : verdicts.Entries) (sigs : List Signature) → AllByRecursion (SaysSame a b) sigs →
    AllByRecursion (SaysSame b c) sigs → AllByRecursion (SaysSame a c) sigs
says_on a b c [] h k = tt
says_on a b c (s ∷ sigs) h k = (h.0 ∙ k.0, says_on a b c sigs h.1 k.1)

pub later_itself : (k : Keyring) → IsLater k k
later_itself k = record {
  counted = itself k.changes;
  at = λ fpr. inl (record { kept = refl; said = λ x e. says_same k.verdicts (all_sigs x.cert) });
}

unaltered_on : (old mid new : Keyring) (fpr : Fpr) → IsUnaltered old mid fpr → IsUnaltered mid new fpr →
    IsUnaltered old new fpr
unaltered_on old mid new fpr h k = record {
  kept = k.kept ∙ h.kept;
  said = λ x e. says_on old.verdicts mid.verdicts new.verdicts (all_sigs x.cert) (h.said x e) (k.said x (h.kept ∙ e));
}

pub later_further : (old mid new : Keyring) → IsLater old mid → IsLater mid new → IsLater old new
later_further old mid new first second = record {
  counted = chain _ _ _ first.counted second.counted;
  at = λ fpr. by fpr (first.at fpr) (second.at fpr);
}
  where
    same_stamp : (fpr : Fpr) → IsUnaltered mid new fpr → stamp_at new fpr ≡ stamp_at mid fpr
    same_stamp fpr k = stamp_by new fpr (kept_at mid fpr) k.kept

    by : (fpr : Fpr) → IsLaterAt old mid fpr → IsLaterAt mid new fpr → IsLaterAt old new fpr
    by fpr h (inr (inl gone)) = inr (inl gone)
    by fpr h (inr (inr given)) = inr (inr (risen _ _ _ first.counted given))
    by fpr (inl h) (inl k) = inl (unaltered_on old mid new fpr h k)
    by fpr (inr (inl gone)) (inl k) = inr (inl (k.kept ∙ gone))
    by fpr (inr (inr given)) (inl k) = inr (inr (subst (λ n. old.changes < n) (sym (same_stamp fpr k)) given))

-- ---- a certificate removed

pub removed_later : (k : Keyring) (fpr : Fpr) → IsKeyring k → IsLater k (without_cert fpr k)
removed_later k fpr h = record { counted = one_more k.changes; at = λ q. by q (is_fpr fpr q) refl }
  where
    by : (q : Fpr) (b : Bool) → is_fpr fpr q ≡ b → IsLaterAt k (without_cert fpr k) q
    by q true e = inr (inl (found_without q fpr k.certs h.sorted ∙ ap (λ b. cond b None (kept_at k q)) e))
    by q false e =
        inl (record {
          kept = found_without q fpr k.certs h.sorted ∙ ap (λ b. cond b None (kept_at k q)) e;
          said = λ x f. says_same k.verdicts (all_sigs x.cert);
        })

-- ---- a verdict altered

on_both : (n : SigNumber) (ps qs : List Component) → is_on n (ps ++ qs) ≡ is_on n ps || is_on n qs
on_both n [] qs = refl
on_both n (p ∷ ps) qs =
    list_any-append (λ (s : Signature). is_number n s.number) p.sigs (sigs_on (ps ++ qs))
    ∙ ap (λ b. list_any (λ (s : Signature). is_number n s.number) p.sigs || b) (on_both n ps qs)
    ∙ sym (or_more (list_any (λ (s : Signature). is_number n s.number) p.sigs) (is_on n ps) (is_on n qs))
    ∙ ap (λ b. b || is_on n qs) (sym (list_any-append (λ (s : Signature). is_number n s.number) p.sigs (sigs_on ps)))

-- a number that is on no certificate is the number of no signature
stands_nowhere : (n : SigNumber) (c : Certificate) → has_number n c ≡ false →
    list_any (λ (s : Signature). is_number n s.number) (all_sigs c) ≡ false
stands_nowhere n c none =
    let parts : list_any (λ (s : Signature). is_number n s.number) (all_sigs c) ≡ is_among n c.direct || is_on n
    (parts_in c) = list_any-append (λ (s : Signature). is_number n s.number) c.direct (sigs_on (parts_in c)) in
    let split : is_on n (parts_in c) ≡ is_on n c.user_ids || (is_on n c.attributes || is_on n c.subkeys) =
    on_both n (c.user_ids ++ c.attributes) c.subkeys ∙ ap (λ b. b || is_on n c.subkeys)
    (on_both n c.user_ids c.attributes) ∙ or_more (is_on n c.user_ids) (is_on n c.attributes) (is_on n c.subkeys) in
    parts
    ∙ ap (λ b. is_among n c.direct || b) split
    ∙ none

-- Both have the same verdicts except on this number.
abbrev pub DiffersAt : SigNumber → verdicts.Entries → verdicts.Entries → Type 0
DiffersAt n said other = (m : SigNumber) → is_number n m ≡ false → verdict_at said m ≡ verdict_at other m

says_elsewhere : (n : SigNumber) (said other : verdicts.Entries) → DiffersAt n said other → (sigs : List Signature) →
    list_any (λ (s : Signature). is_number n s.number) sigs ≡ false → AllByRecursion (SaysSame said other) sigs
says_elsewhere n said other differs [] none = tt
says_elsewhere n said other differs (s ∷ sigs) none =
    let apart = or_parts (is_number n s.number) (list_any (λ (s : Signature). is_number n s.number) sigs) none in
    (differs s.number apart.0, says_elsewhere n said other differs sigs apart.1)

module _ (k : Keyring) (n : SigNumber) (said : verdicts.Entries) (differs : DiffersAt n k.verdicts said) where
  abbrev counted : Keyring
  counted = counted_at n (record k { verdicts = said })

  now : (q : Fpr) (found : Option Kept) → kept_at k q ≡ found →
      kept_at counted q ≡ option_map (restamped n (k.changes + 1)) found
  now q found e = lookup-map_values (restamped n (k.changes + 1)) (is_fpr q) k.certs
      ∙ ap (option_map (restamped n (k.changes + 1))) e

  some_later : (q : Fpr) (x : Kept) → kept_at k q ≡ Some x → (b : Bool) → has_number n x.cert ≡ b →
      IsLaterAt k counted q
  some_later q x e true h =
      inr (inr (subst (λ m. k.changes < m)
      (sym (stamp_by counted q (Some (restamped n (k.changes + 1) x)) (now q (Some x) e)
      ∙ ap (λ b. cond b (k.changes + 1) x.stamp) h)) (above k.changes)))
  some_later q x e false h =
      inl (record {
        kept = now q (Some x) e ∙ (λ i. Some (record { cert = x.cert; stamp = cond (h i) (k.changes + 1) x.stamp }))
            ∙ sym e;
        said = λ y f.
            let same : y ≡ x = (let g : Some y ≡ Some x = sym f ∙ e in cc) in
            says_elsewhere n k.verdicts said differs (all_sigs y.cert)
            (stands_nowhere n y.cert (ap (λ (z : Kept). has_number n z.cert) same ∙ h));
      })

  at_later : (q : Fpr) (found : Option Kept) → kept_at k q ≡ found → IsLaterAt k counted q
  at_later q None e = inl (record { kept = now q None e ∙ sym e; said = λ x f. absurd (none_some (sym e ∙ f)) })
    where
      none_some : {x : Kept} → None ≡ Some x → ⊥
      none_some h = cc
  at_later q (Some x) e = some_later q x e (has_number n x.cert) refl

  pub counted_later : IsLater k counted
  counted_later = record { counted = one_more k.changes; at = λ q. at_later q (kept_at k q) refl }

-- an inserted verdict is the verdict on its number alone
put_elsewhere : (n m : SigNumber) (v : Verdict) → is_number n m ≡ false → (es : verdicts.Entries) →
    lookup (is_number m) es ≡ lookup (is_number m) (insert_entry number_cmp es n v)
put_elsewhere n m v other [] = sym (ap (λ b. cond b (Some v) None) (turned m n ∙ other))
put_elsewhere n m v other (e ∷ es) =
    elim (number_cmp n e.0) as (λ r. number_cmp n e.0 ≡ r → lookup (is_number m) (e ∷ es) ≡ lookup (is_number m)
    (match_ordering r ((n, v) ∷ e ∷ es) ((e.0, v) ∷ es) (e ∷ insert_entry number_cmp es n v))) [
      | Less ↦ λ less. sym (ap (λ b. cond b (Some v) (lookup (is_number m) (e ∷ es))) (turned m n ∙ other))
      | Equal ↦ λ equal.
          let away : is_number m e.0 ≡ false = ap (is_number m) (sym (exact n e.0 equal)) ∙ turned m n ∙ other in
          ap (λ b. cond b (Some e.1) (lookup (is_number m) es)) away
          ∙ sym (ap (λ b. cond b (Some v) (lookup (is_number m) es)) away)
      | Greater ↦ λ greater. ap (cond (is_number m e.0) (Some e.1)) (put_elsewhere n m v other es)
    ] refl

pub set_later : (k : Keyring) (n : SigNumber) (v : Verdict) → IsLater k (with_verdict_on n v k)
set_later k n v = counted_later k n (verdicts.with_verdict k.verdicts n v)
    (λ m other. put_elsewhere n m v other k.verdicts)

-- a removed verdict was the verdict on its number alone
gone_elsewhere : (n m : SigNumber) → is_number n m ≡ false → (es : verdicts.Entries) →
    lookup (is_number m) es ≡ lookup (is_number m) (remove_entry (is_number n) es)
gone_elsewhere n m other [] = refl
gone_elsewhere n m other (e ∷ es) =
    elim (is_number n e.0) as (λ b. is_number n e.0 ≡ b → lookup (is_number m) (e ∷ es) ≡ lookup (is_number m)
    (cond b es (e ∷ remove_entry (is_number n) es))) [
      | true ↦ λ same. ap (λ b. cond b (Some e.1) (lookup (is_number m) es))
          (ap (is_number m) (sym (same_number n e.0 same)) ∙ turned m n ∙ other)
      | false ↦ λ apart. ap (cond (is_number m e.0) (Some e.1)) (gone_elsewhere n m other es)
    ] refl

pub cleared_later : (k : Keyring) (n : SigNumber) → IsLater k (without_verdict_on n k)
cleared_later k n = counted_later k n (verdicts.without_verdict k.verdicts n)
    (λ m other. gone_elsewhere n m other k.verdicts)

-- ---- these facts in the shape that the code has them

pub removed_later_now : (k now : Keyring) (fpr : Fpr) (es : Entries) → k ≡ now → IsKeyring k →
    es ≡ remove_entry (is_fpr fpr) k.certs
    → IsLater now (record { limits = k.limits; certs = es; verdicts = k.verdicts; changes = k.changes + 1 })
removed_later_now k now fpr es seen h out = rw (out, ← seen) (removed_later k fpr h)

pub set_later_now : (k now new : Keyring) (n : SigNumber) (v : Verdict) (said : verdicts.Entries) → k ≡ now
    → said ≡ verdicts.with_verdict k.verdicts n v → new ≡ counted_at n (record k { verdicts = said }) → IsLater now new
set_later_now k now new n v said seen set counted = rw (counted, set, ← seen) (set_later k n v)

pub cleared_later_now : (k now new : Keyring) (n : SigNumber) (said : verdicts.Entries) → k ≡ now
    → said ≡ verdicts.without_verdict k.verdicts n → new ≡ counted_at n (record k { verdicts = said }) → IsLater now new
cleared_later_now k now new n said seen cleared counted = rw (counted, cleared, ← seen) (cleared_later k n)
