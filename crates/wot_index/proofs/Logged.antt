-- The log, step by step; it stays the log of what is kept.
use Rattle.std.proofs.Common.{◌≡◌, ◌≤◌, ◌<◌, ◌+◌, ◌⊎◌, inl, inr, ℕ, Bool, true, false, ◌&&◌, ◌||◌, cond, nat_eq, List}
use Rattle.std.proofs.Common.{[], ◌∷◌, ◌++◌, Option, Some, None, refl, sym, ap, ◌∙◌, subst, arith}
use Rattle.std.specs.List.{AllByRecursion}
use Rattle.std.specs.Option.{option_map, option_map_or}
use Rattle.std.specs.Map.{lookup, remove_entry}
use Rattle.std.proofs.lemmas.Bool.Decides.{nat_tests}
use Rattle.std.proofs.lemmas.List.Folds.{list_any-append}
use Rattle.std.proofs.lemmas.Map.Made.{lookup-map_values}
use Rattle.wot_types.specs.declared.fpr.Fpr.{Fpr}
use Rattle.wot_types.specs.declared.number.SigNumber.{SigNumber}
use Rattle.wot_types.specs.FprLaws.{same_fpr-true, same_fpr-refl}
use Rattle.wot_key.specs.Key.{fpr_of}
use Rattle.wot_component.specs.Certificate.{Certificate}
use Rattle.wot_keyring_spec.specs.declared.kept.Kept.{Kept}
use Rattle.wot_index.specs.declared.log.Log.{Log}
use Rattle.wot_index.specs.Index.{stands_at}
use Rattle.wot_keyring_spec.specs.Keyring.{Entries, is_fpr}
use Rattle.wot_keyring_spec.specs.Kept.{AreSortedByFpr, AreStamped}
use Rattle.wot_index.specs.Log.{Logged, AreRising, IsLogOf, LogsAt, RestampsThese, is_logged_at, is_named_in}
use Rattle.wot_keyring_spec.specs.Verdict.{has_number, restamped, restamped_all}
use Rattle.wot_index.proofs.Noted.{found_without}
use Rattle.wot_keyring_spec.proofs.Stamps.{stamp_found}

same_number : (n : ℕ) → nat_eq n n ≡ true
same_number n = grind (arith, nat_tests)

reach : (n : ℕ) → n ≤ n
reach n = omega arith

or_left : (a b : Bool) → a ≡ true → a || b ≡ true
or_left true b h = refl
or_left false b h = cc

or_right : (a b : Bool) → b ≡ true → a || b ≡ true
or_right true b h = refl
or_right false b h = h

pub one_on : (n : ℕ) → n ≤ n + 1
one_on n = omega arith

not_past : (a b : ℕ) → a ≤ b → b < a → ⊥
not_past a b h k = omega arith

chain : (a b c : ℕ) → a ≤ b → b ≤ c → a ≤ c
chain a b c h k = omega arith

below : (a b c : ℕ) → a ≤ b → b < c → a < c
below a b c h k = omega arith

within : (a b c : ℕ) → a < b → b ≤ c → a ≤ c
within a b c h k = omega arith

-- ---- one entry

all_and : (P : ℕ × Fpr → Type 0) (es : Logged) (e : ℕ × Fpr) → AllByRecursion P es → P e →
    AllByRecursion P (es ++ e ∷ [])
all_and P [] e all p = (p, tt)
all_and P (x ∷ es) e all p = (all.0, all_and P es e all.1 p)

rising_and : (stamp : ℕ) (fpr : Fpr) (es : Logged) → AreRising es → AllByRecursion (λ (e : ℕ × Fpr). e.0 ≤ stamp) es →
    AreRising (es ++ (stamp, fpr) ∷ [])
rising_and stamp fpr [] rising past = (tt, tt)
rising_and stamp fpr (x ∷ es) rising past = (
  all_and (λ later. x.0 ≤ later.0) es (stamp, fpr) rising.0 past.0,
  rising_and stamp fpr es rising.1 past.1,
)

logged_and : (s : ℕ) (q : Fpr) (es : Logged) (e : ℕ × Fpr) → is_logged_at s q (es ++ e ∷ []) ≡ is_logged_at s q
    es || ((nat_eq s e.0 && is_fpr q e.1) || false)
logged_and s q es e = list_any-append (λ (x : ℕ × Fpr). nat_eq s x.0 && is_fpr q x.1) es (e ∷ [])

pub logs_one : (stamp : ℕ) (fpr : Fpr) (old new : Log) → old.from ≤ stamp → new.from ≡ old.from →
    new.entries.items ≡ old.entries.items ++ (stamp, fpr) ∷ [] → LogsAt stamp (is_fpr fpr) old new
logs_one stamp fpr old new past from put = record {
  from = subst (λ n. old.from ≤ n) (sym from) (reach old.from);
  past = subst (λ n. n ≤ stamp) (sym from) past;
  kept = λ s q h k logged. ap (is_logged_at s q) put ∙ logged_and s q old.entries.items (stamp, fpr)
      ∙ or_left (is_logged_at s q old.entries.items) _ logged;
  logged = λ q h k.
      let same : q ≡ fpr = sym (same_fpr-true fpr q k) in
      ap (is_logged_at stamp q) put
      ∙ logged_and stamp q old.entries.items (stamp, fpr)
      ∙ or_right (is_logged_at stamp q old.entries.items) _ (or_left (nat_eq stamp stamp && is_fpr q fpr) false
      (ap (λ b. b && is_fpr q fpr) (same_number stamp) ∙ ap (λ (f : Fpr). is_fpr f fpr) same ∙ same_fpr-refl fpr));
  rising = λ r. record {
    rising = subst AreRising (sym put) (rising_and stamp fpr old.entries.items r.rising r.past);
    past = subst (AllByRecursion (λ (e : ℕ × Fpr). e.0 ≤ stamp)) (sym put) (all_and (λ e. e.0 ≤ stamp) old.entries.items
        (stamp, fpr) r.past (reach stamp));
  };
}

-- a log that restarts claims nothing of stamps up to the new one
pub logs_anew : (stamp : ℕ) (these : Fpr → Bool) (old new : Log) → old.from ≤ stamp → new.from ≡ stamp →
    new.entries.items ≡ [] → LogsAt stamp these old new
logs_anew stamp these old new past from none = record {
  from = subst (λ n. old.from ≤ n) (sym from) past;
  past = subst (λ n. n ≤ stamp) (sym from) (reach stamp);
  kept = λ s q h k logged. absurd (not_past s stamp h (subst (λ n. n < s) from k));
  logged = λ q h k. absurd (not_past stamp stamp (reach stamp) (subst (λ n. n < stamp) from h));
  rising = λ r. record {
    rising = subst AreRising (sym none) tt;
    past = subst (AllByRecursion (λ (e : ℕ × Fpr). e.0 ≤ stamp)) (sym none) tt;
  };
}

-- ---- several entries

pub logs_none : (stamp : ℕ) (these : Fpr → Bool) (log : Log) → log.from ≤ stamp → ((q : Fpr) → these q ≡ true → ⊥) →
    LogsAt stamp these log log
logs_none stamp these log past none = record {
  from = reach log.from;
  past = past;
  kept = λ s q h k logged. logged;
  logged = λ q h k. absurd (none q k);
  rising = λ r. r;
}

-- these were logged, and those after them
pub logs_both : (stamp : ℕ) (these those all : Fpr → Bool) (old mid new : Log) →
    ((q : Fpr) → all q ≡ true → (these q ≡ true) ⊎ (those q ≡ true)) → LogsAt stamp these old mid →
    LogsAt stamp those mid new → LogsAt stamp all old new
logs_both stamp these those all old mid new split first second = record {
  from = chain _ _ _ first.from second.from;
  past = second.past;
  kept = λ s q h k logged. second.kept s q h k (first.kept s q h (below _ _ _ second.from k) logged);
  logged = λ q h k. by q h (split q k);
  rising = λ r. second.rising (first.rising r);
}
  where
    by : (q : Fpr) → new.from < stamp → (these q ≡ true) ⊎ (those q ≡ true) →
        is_logged_at stamp q new.entries.items ≡ true
    by q h (inl a) = second.kept stamp q (reach stamp) h (first.logged q (below _ _ _ second.from h) a)
    by q h (inr b) = second.logged q h b

-- shorter logs
pub logs_these : (stamp : ℕ) (these those : Fpr → Bool) (old new : Log) →
    ((q : Fpr) → those q ≡ true → these q ≡ true) → LogsAt stamp these old new → LogsAt stamp those old new
logs_these stamp these those old new among logs = record {
  from = logs.from;
  past = logs.past;
  kept = logs.kept;
  logged = λ q h k. logs.logged q h (among q k);
  rising = logs.rising;
}

-- What was logged of a list so far and what is left make up the list.
pub record LogsUpTo (stamp : ℕ) (left all : List Certificate) (old new : Log) : Type 0 where
  pub from : old.from ≤ stamp
  pub done : Fpr → Bool
  pub split : (q : Fpr) → is_named_in all q ≡ true → (done q ≡ true) ⊎ (is_named_in left q ≡ true)
  pub logs : LogsAt stamp done old new

pub none_logged : (stamp : ℕ) (all : List Certificate) (log : Log) → log.from ≤ stamp → LogsUpTo stamp all all log log
none_logged stamp all log past = record {
  from = past;
  done = λ q. false;
  split = λ q h. inr h;
  logs = logs_none stamp (λ q. false) log past (λ q h. let e : false ≡ true = h in cc);
}

pub one_logged : (stamp : ℕ) (left rest all : List Certificate) (c : Certificate) (old mid new : Log) →
    left ≡ c ∷ rest → LogsUpTo stamp left all old mid → LogsAt stamp (is_fpr (fpr_of c.key)) mid new →
    LogsUpTo stamp rest all old new
one_logged stamp left rest all c old mid new step before one = record {
  from = before.from;
  done = λ q. before.done q || is_fpr (fpr_of c.key) q;
  split = λ q h. by q (before.split q h);
  logs = logs_both stamp before.done (is_fpr (fpr_of c.key)) (λ q. before.done q || is_fpr (fpr_of c.key) q) old mid new
      (λ q h. either (before.done q) (is_fpr (fpr_of c.key) q) h) before.logs one;
}
  where
    either : (a b : Bool) → a || b ≡ true → (a ≡ true) ⊎ (b ≡ true)
    either true b h = inl refl
    either false b h = inr h

    named : (q : Fpr) → (is_fpr (fpr_of c.key) q ≡ true) ⊎ (is_named_in rest q ≡ true) →
        (before.done q || is_fpr (fpr_of c.key) q ≡ true) ⊎ (is_named_in rest q ≡ true)
    named q (inl a) = inl (or_right (before.done q) _ a)
    named q (inr b) = inr b

    by : (q : Fpr) → (before.done q ≡ true) ⊎ (is_named_in left q ≡ true) →
        (before.done q || is_fpr (fpr_of c.key) q ≡ true) ⊎ (is_named_in rest q ≡ true)
    by q (inl a) = inl (or_left (before.done q) _ a)
    by q (inr b) = named q (either (is_fpr (fpr_of c.key) q) (is_named_in rest q)
        (ap (λ (cs : List Certificate). is_named_in cs q) (sym step) ∙ b))

-- ---- it stays the log of what is kept

risen_on : (changes stamp : ℕ) (es : Logged) → changes ≤ stamp → AllByRecursion (λ (e : ℕ × Fpr). e.0 ≤ changes) es →
    AllByRecursion (λ (e : ℕ × Fpr). e.0 ≤ stamp) es
risen_on changes stamp [] h all = tt
risen_on changes stamp (e ∷ es) h all = (chain _ _ _ all.0 h, risen_on changes stamp es h all.1)

pub logged_on : (old new : Log) (es es' : Entries) (changes stamp : ℕ) (these : Fpr → Bool) → changes ≤ stamp →
    AreStamped changes es → RestampsThese stamp these es es' → LogsAt stamp these old new → IsLogOf old es changes →
    IsLogOf new es' stamp
logged_on old new es es' changes stamp these le stamps restamps logs before = record {
  from = logs.past;
  rising = logs.rising (record {
    rising = before.rising.rising;
    past =
        risen_on changes stamp old.entries.items le before.rising.past;
  });
  whole = λ q x found above. by q x above (restamps q x found);
}
  where
    by : (q : Fpr) (x : Kept) → new.from < x.stamp →
        ((x.stamp ≡ stamp) × (these q ≡ true)) ⊎ ((y : Kept) × (lookup (is_fpr q) es ≡ Some y) × (y.stamp ≡ x.stamp)) →
        is_logged_at x.stamp q new.entries.items ≡ true
    by q x above (inl s) = ap (λ n. is_logged_at n q new.entries.items) s.0
        ∙ logs.logged q (subst (λ n. new.from < n) s.0 above) s.1
    by q x above (inr s) =
        let y = s.0 in
        let up : new.from < y.stamp = subst (λ n. new.from < n) (sym s.2) above in
        let past = (stamp_found changes (is_fpr q) es y stamps (sym s.1)).1 in
        ap (λ n. is_logged_at n q new.entries.items) (sym s.2) ∙ logs.kept y.stamp q (chain _ _ _ past le) up
        (before.whole q y s.1 (below _ _ _ logs.from up))

-- a log of entries is the log of equal entries
pub logged_again : (old new : Log) (es : Entries) (changes : ℕ) → new.from ≡ old.from →
    new.entries.items ≡ old.entries.items → IsLogOf old es changes → IsLogOf new es changes
logged_again old new es changes from same before = record {
  from = subst (λ n. n ≤ changes) (sym from) before.from;
  rising = record {
    rising = subst AreRising (sym same) before.rising.rising;
    past =
        subst (AllByRecursion (λ (e : ℕ × Fpr). e.0 ≤ changes)) (sym same) before.rising.past;
  };
  whole = λ q x found above. ap (is_logged_at x.stamp q) same ∙ before.whole q x found
      (subst (λ n. n < x.stamp) from above);
}

-- ---- what is stamped

-- after a certificate was removed
pub restamps_none : (fpr : Fpr) (stamp : ℕ) (es : Entries) → AreSortedByFpr es →
    RestampsThese stamp (is_fpr fpr) es (remove_entry (is_fpr fpr) es)
restamps_none fpr stamp es sorted q x e = inr (x, found (is_fpr fpr q) (sym (found_without q fpr es sorted) ∙ e), refl)
  where
    found : (b : Bool) → cond b None (lookup (is_fpr q) es) ≡ Some x → lookup (is_fpr q) es ≡ Some x
    found true h = absurd cc
    found false h = h

-- after a verdict was altered
pub restamps_noted : (n : SigNumber) (stamp : ℕ) (es : Entries) → RestampsThese stamp (stands_at es n) es
    (restamped_all n stamp es)
restamps_noted n stamp es q x e =
    by (lookup (is_fpr q) es) refl (sym (lookup-map_values (restamped n stamp) (is_fpr q) es) ∙ e)
  where
    same : (y : Kept) → lookup (is_fpr q) es ≡ Some y → restamped n stamp y ≡ x → (b : Bool) → has_number n y.cert ≡ b
        → ((x.stamp ≡ stamp) × (stands_at es n q ≡ true)) ⊎
        ((z : Kept) × (lookup (is_fpr q) es ≡ Some z) × (z.stamp ≡ x.stamp))
    same y f r true h =
        inl (
          sym (ap (λ (k : Kept). k.stamp) r) ∙ ap (λ b. cond b stamp y.stamp) h,
          ap (λ (o : Option Kept). option_map_or (λ (k : Kept). has_number n k.cert) o false) f ∙ h,
        )
    same y f r false h = inr (y, f, sym (ap (λ b. cond b stamp y.stamp) h) ∙ ap (λ (k : Kept). k.stamp) r)

    by : (o : Option Kept) → lookup (is_fpr q) es ≡ o → option_map (restamped n stamp) o ≡ Some x
        → ((x.stamp ≡ stamp) × (stands_at es n q ≡ true)) ⊎
        ((z : Kept) × (lookup (is_fpr q) es ≡ Some z) × (z.stamp ≡ x.stamp))
    by None f r = absurd cc
    by (Some y) f r = same y f (let g : Some (restamped n stamp y) ≡ Some x = r in cc) (has_number n y.cert) refl
