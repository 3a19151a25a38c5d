-- What is noted for one number was changed: its verdict or its certificate of version 4, and how many verdicts there
-- are.
use Rattle.std.proofs.Common.{◌≡◌, ◌<◌, ◌+◌, ◌-◌, ◌^◌, ℕ, Bool, true, false, cond, [], ◌∷◌, length, Option, Some, None}
use Rattle.std.proofs.Common.{is_some, Result, Ok, Err, OnOk, OnErr, sym, ap, ◌∙◌, subst, refl, arith}
use Rattle.wot_types.specs.declared.number.SigNumber.{SigNumber}
use Rattle.wot_slots.specs.declared.slots.Slots.{Slots}
use Rattle.wot_slots.specs.Above.{AreNumbers, IsNextEntry, IsNumber}
use Rattle.wot_slots.specs.Near.{HoldsSame, Puts, held_of, is_number}
use Rattle.wot_slots.proofs.Entries.{first_left, found_by, none_left, sorted_by}
use Rattle.wot_slots.proofs.Listed.{counted_out, counted_put, found_out, found_put, same_entries}
use Rattle.wot_slots.proofs.Listed.{sorted_none, sorted_out, sorted_put}
use Rattle.wot_slots.proofs.Numbers.{same_number}
use Rattle.wot_verdict.specs.declared.noted.Noted.{Noted}
use Rattle.wot_verdict.specs.declared.noted.Short.{Short}
use Rattle.wot_verdict.specs.declared.verdict.Verdict.{Verdict}
use Rattle.wot_verdict.specs.Kept.{IsKept, KeepsCount, SameShorts, ShortsAt, said_in, short_in, shorts_in}
use Rattle.wot_verdict.specs.Kept.{verdict_in, verdicts_above, verdicts_in}
use Rattle.wot_verdict.specs.Verdicts.{ChangesAt, verdict_at, with_verdict, without_verdict, AreSortedByNumber}

pub on_err : {T E : Type 0} (P : Type 0) (r : Result T E) → P → OnErr r P
on_err P (Ok done) p = tt
on_err P (Err fault) p = p

pub on_err_of : {T E : Type 0} (P Q : Type 0) (r : Result T E) → (P → Q) → OnErr r P → OnErr r Q
on_err_of P Q (Ok done) f h = tt
on_err_of P Q (Err fault) f h = f h

pub on_ok : {T E : Type 0} (P Q : Type 0) (r : Result T E) → (P → Q) → OnOk r P → OnOk r Q
on_ok P Q (Ok done) f h = f h
on_ok P Q (Err fault) f h = tt

pub on_ok_if : {T E : Type 0} (P : Type 0) (r : Result T E) → P → OnOk r P
on_ok_if P (Ok done) p = p
on_ok_if P (Err fault) p = tt

nothing : false ≡ true → ⊥
nothing h = cc

-- A number without a slot has no verdict.
pub none_said : (held : Slots Noted) (q : SigNumber) → held_of held q ≡ None → said_in held q ≡ None
none_said held q none = ap verdict_in none

pub found_in : (held : Slots Noted) (q : SigNumber) → verdict_at (verdicts_in held) q ≡ said_in held q
found_in held q = found_by held (said_in held) (none_said held) None q

pub sorted_in : (held : Slots Noted) → AreSortedByNumber (verdicts_in held)
sorted_in held = sorted_by held (said_in held) (none_said held) None

-- A number that has a verdict has 32 octets.
said_whole : (held : Slots Noted) → AreNumbers held → (q : SigNumber) → is_some (said_in held q) ≡ true → IsNumber q
said_whole held whole q = by (held_of held q) refl
  where
    by : (o : Option Noted) → held_of held q ≡ o → is_some (verdict_in o) ≡ true → IsNumber q
    by None e there = absurd (nothing there)
    by (Some noted) e there = whole q (ap is_some e)

module _ (held : Slots Noted) (last : Option SigNumber) (whole : AreNumbers held) where
  pub none_said_above : IsNextEntry (said_in held) last None → verdicts_above last held ≡ []
  none_said_above next = none_left held (said_in held) (none_said held) last (said_whole held whole) next

  pub first_said : (n : SigNumber) (verdict : Verdict) → IsNextEntry (said_in held) last (Some (n, verdict)) →
      verdicts_above last held ≡ (n, verdict) ∷ verdicts_above (Some n) held
  first_said n verdict next =
      first_left held (said_in held) (none_said held) last (said_whole held whole) n verdict next

-- ---- one slot changed

-- what one number has now, if it is told apart by the test
chosen : {T U : Type 0} (b : Bool) (f : Option T → Option U) (w o : Option T) (v : Option U) → f w ≡ v →
    f (cond b w o) ≡ cond b v (f o)
chosen true f w o v is = is
chosen false f w o v is = refl

-- Nothing changes if one number is given what it has.
unchanged : {U : Type 0} (n q : SigNumber) (has : SigNumber → Option U) (v : Option U) → v ≡ has n →
    cond (is_number n q) v (has q) ≡ has q
unchanged n q has v is = by (is_number n q) refl
  where
    by : (b : Bool) → is_number n q ≡ b → cond b v (has q) ≡ has q
    by true t = is ∙ ap has (same_number n q t)
    by false t = refl

module _ (old new : Slots Noted) (n : SigNumber) (w : Option Noted) (put : Puts n w old new) where
  pub says_at : (v : Option Verdict) → verdict_in w ≡ v → (q : SigNumber) →
      said_in new q ≡ cond (is_number n q) v (said_in old q)
  says_at v is q = ap verdict_in (put q) ∙ chosen (is_number n q) verdict_in w (held_of old q) v is

  pub shorts_at : (s : Option Short) → short_in w ≡ s → ShortsAt n s old new
  shorts_at s is q = ap short_in (put q) ∙ chosen (is_number n q) short_in w (held_of old q) s is

  pub says_same : verdict_in w ≡ said_in old n → (q : SigNumber) → said_in new q ≡ said_in old q
  says_same is q = says_at (verdict_in w) refl q ∙ unchanged n q (said_in old) (verdict_in w) is

  pub shorts_same : short_in w ≡ shorts_in old n → SameShorts old new
  shorts_same is q = shorts_at (short_in w) refl q ∙ unchanged n q (shorts_in old) (short_in w) is

  pub numbers_still : (is_some w ≡ true → IsNumber n) → AreNumbers old → AreNumbers new
  numbers_still own all q there = by (is_number n q) refl (sym (ap is_some (put q)) ∙ there)
    where
      by : (b : Bool) → is_number n q ≡ b → is_some (cond b w (held_of old q)) ≡ true → IsNumber q
      by true t h = subst IsNumber (same_number n q t) (own h)
      by false t h = all q h

  -- A number that had a slot has less now.
  pub numbers_lessened : (had : Option Noted) → had ≡ held_of old n → (is_some w ≡ true → is_some had ≡ true) →
      AreNumbers old → AreNumbers new
  numbers_lessened had is less all =
      numbers_still (λ there. all n (sym (ap is_some is) ∙ less there)) all

-- ---- one verdict changed

module _ (old new : Slots Noted) (n : SigNumber) (w : Option Verdict) (says : (q : SigNumber) →
    said_in new q ≡ cond (is_number n q) w (said_in old q)) where
  pub changes_at : ChangesAt n w (verdicts_in old) (verdicts_in new)
  changes_at q = found_in new q ∙ says q ∙ ap (cond (is_number n q) w) (sym (found_in old q))

  pub set_now : (v : Verdict) → w ≡ Some v → verdicts_in new ≡ with_verdict (verdicts_in old) n v
  set_now v is =
      same_entries (verdicts_in new) (with_verdict (verdicts_in old) n v) (sorted_in new)
      (sorted_put (verdicts_in old) n v (sorted_in old))
      (λ q. changes_at q ∙ ap (λ o. cond (is_number n q) o (verdict_at (verdicts_in old) q)) is
      ∙ sym (found_put (verdicts_in old) n q v))

  pub cleared_now : w ≡ None → verdicts_in new ≡ without_verdict (verdicts_in old) n
  cleared_now is =
      same_entries (verdicts_in new) (without_verdict (verdicts_in old) n) (sorted_in new)
      (sorted_out (verdicts_in old) n (sorted_in old))
      (λ q. changes_at q ∙ ap (λ o. cond (is_number n q) o (verdict_at (verdicts_in old) q)) is
      ∙ sym (found_out (verdicts_in old) n q (sorted_in old)))

  pub kept_set : (v : Verdict) → w ≡ Some v → AreNumbers new → (count counted : ℕ) → IsKept old count →
      counted ≡ cond (is_some (said_in old n)) count (count + 1) → counted < 2 ^ 63 → IsKept new counted
  kept_set v is numbers count counted kept e few = record {
    numbers = numbers;
    counted = e
        ∙ (λ i. cond (is_some (sym (found_in old n) i)) (kept.counted i) (kept.counted i + 1))
        ∙ sym (ap length (set_now v is) ∙ counted_put (verdicts_in old) n v (sorted_in old));
    few = few;
  }

  pub kept_cleared : w ≡ None → AreNumbers new → (count counted : ℕ) (there : Bool) → IsKept old count →
      there ≡ is_some (said_in old n) → counted ≡ cond there (count - 1) count → IsKept new counted
  kept_cleared is numbers count counted there kept was e = record {
    numbers = numbers;
    counted = by there counted e
        (ap (λ k. k + cond there 1 0) (ap length (cleared_now is))
        ∙ ap (λ b. length (without_verdict (verdicts_in old) n) + cond b 1 0)
        (was ∙ sym (ap is_some (found_in old n)))
        ∙ counted_out (verdicts_in old) n ∙ sym kept.counted);
    few = less there counted e;
  }
    where
      by : (b : Bool) (m : ℕ) → m ≡ cond b (count - 1) count → length (verdicts_in new) + cond b 1 0 ≡ count →
          m ≡ length (verdicts_in new)
      by true m x y = omega (arith, x, y)
      by false m x y = omega (arith, x, y)

      less : (b : Bool) (m : ℕ) → m ≡ cond b (count - 1) count → m < 2 ^ 63
      less true m x = let few = kept.few in omega (arith, x, few)
      less false m x = let few = kept.few in omega (arith, x, few)

-- ---- no verdict changed

module _ (old new : Slots Noted) (same : (q : SigNumber) → said_in new q ≡ said_in old q) where
  pub entries_same : verdicts_in new ≡ verdicts_in old
  entries_same =
      same_entries (verdicts_in new) (verdicts_in old) (sorted_in new) (sorted_in old)
      (λ q. found_in new q ∙ same q ∙ sym (found_in old q))

  pub kept_same : (AreNumbers old → AreNumbers new) → KeepsCount old new
  kept_same numbers count kept = record {
    numbers = numbers kept.numbers;
    counted = kept.counted ∙ sym (ap length entries_same);
    few = kept.few;
  }

-- No slot changed.
module _ (old new : Slots Noted) (same : HoldsSame old new) where
  pub said_still : (q : SigNumber) → said_in new q ≡ said_in old q
  said_still q = ap verdict_in (same q)

  pub shorts_still : SameShorts old new
  shorts_still q = ap short_in (same q)

  pub numbers_kept : AreNumbers old → AreNumbers new
  numbers_kept all q there = all q (sym (ap is_some (same q)) ∙ there)

-- ---- nothing noted

pub kept_none : (held : Slots Noted) → ((n : SigNumber) → held_of held n ≡ None) →
    (verdicts_in held ≡ []) × IsKept held 0
kept_none held empty = (
  none,
  record {
    numbers = λ q there. absurd (nothing (ap is_some (sym (empty q)) ∙ there));
    counted = sym (ap length none);
    few = omega arith;
  },
)
  where
    none : verdicts_in held ≡ []
    none =
        same_entries (verdicts_in held) [] (sorted_in held) sorted_none
        (λ q. found_in held q ∙ none_said held q (empty q))

-- Either way, this holds.
pub either_way : {T E : Type 0} (P Q R : Type 0) (r : Result T E) → (P → R) → (Q → R) → OnOk r P → OnErr r Q → R
either_way P Q R (Ok done) f g p q = f p
either_way P Q R (Err fault) f g p q = g q
