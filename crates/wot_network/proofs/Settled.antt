-- The end of a refresh: every line is of a kept certificate and up to date.
use Rattle.std.proofs.Common.{◌≡◌, ◌≤◌, ◌<◌, ◌+◌, ◌-◌, ◌^◌, min, ◌⊎◌, inl, inr, ℕ, Bool, true, false, ◌||◌, nat_le}
use Rattle.std.proofs.Common.{cond, if◌then◌else◌, length, List, [], ◌∷◌, Option, Some, None, is_some, refl, sym, ap}
use Rattle.std.proofs.Common.{◌∙◌, subst, arith}
use Rattle.std.specs.declared.cmp.Ordering.TheVariants.{Less}
use Rattle.std.specs.Prelude.{IsSomeAnd, filter}
use Rattle.std.specs.List.{AllByRecursion, list_any}
use Rattle.std.specs.List.Sorted.{IsStrictlySortedBy}
use Rattle.std.specs.Option.{option_map, option_map_or, MatchOption}
use Rattle.std.specs.Map.{lookup, keys_of}
use Rattle.std.proofs.lemmas.Bool.Decides.{nat_tests}
use Rattle.std.proofs.lemmas.Map.Entries.{lookup-filter-keys}
use Rattle.std.proofs.lemmas.Map.Keys.{sorted_head, sorted_tail}
use Rattle.wot_types.specs.declared.fpr.Fpr.{Fpr}
use Rattle.wot_types.specs.Fpr.{fpr_cmp}
use Rattle.wot_component.specs.Certificate.{Certificate}
use Rattle.wot_cert.specs.Span.{InSpan}
use Rattle.wot_cert.specs.declared.moments.Span.{Span}
use Rattle.wot_keyring_spec.specs.declared.kept.Kept.{Kept}
use Rattle.wot_keyring_spec.specs.Keyring.{Entries, Keyring, kept_at, stamp_at, is_fpr}
use Rattle.wot_keyring_spec.specs.Kept.{AreSortedByFpr, AreStamped}
use Rattle.wot_index.specs.Log.{Logged, HasChangedSince, is_listed}
use Rattle.wot_live.specs.Rows.{edges_of}
use Rattle.wot_network.specs.Net.{Line, Lines, Net, Fits, AreFit, AreKnown, AreMarksOf, HasStamp, IsRight, IsLineNow}
use Rattle.wot_network.specs.Net.{StayCurrent, line_at, marks_of, has_current, stale_edges, weigh_stale}
use Rattle.wot_network.specs.Refreshing.{Advances, AreDone, AreDoneBut, AreOpen, KeepsPresent}
use Rattle.wot_network.proofs.Current.{IsCurrentLine, current_line, line_current, current_same, mark_at, stale_none}
use Rattle.wot_network.proofs.Fprs.{fprs_total, away, same_fpr, itself, found_each}

-- ---- as many lines as certificates

abbrev among : Fpr → List Fpr → Bool
among q keys = list_any (is_fpr q) keys

one_longer : (k l : Fpr) (keys more : List Fpr) → length keys ≤ length more → length (k ∷ keys) ≤ length (l ∷ more)
one_longer k l keys more h = omega (arith, h)

shorter : (l : Fpr) (keys more : List Fpr) → length keys ≤ length more → length keys ≤ length (l ∷ more)
shorter l keys more h = omega (arith, h)

too_long : (l : Fpr) (keys more : List Fpr) → length keys ≤ length more → length (l ∷ more) ≡ length keys → ⊥
too_long l keys more h e = omega (arith, h, e)

one_less : (k l : Fpr) (keys more : List Fpr) → length (l ∷ more) ≡ length (k ∷ keys) → length more ≡ length keys
one_less k l keys more e = omega (arith, e)

none_less : (b : ℕ) → 0 ≤ b
none_less b = omega arith

true_false : {b : Bool} → b ≡ true → b ≡ false → ⊥
true_false h k = cc

below_one : (f q : Fpr) (keys : List Fpr) → AllByRecursion (λ y. fpr_cmp f y ≡ Less) keys → among q keys ≡ true →
    fpr_cmp f q ≡ Less
below_one f q [] below h = absurd cc
below_one f q (y ∷ keys) below h = by (is_fpr q y) refl h (below_one f q keys below.1)
  where
    by : (b : Bool) → is_fpr q y ≡ b → b || among q keys ≡ true → (among q keys ≡ true → fpr_cmp f q ≡ Less) →
        fpr_cmp f q ≡ Less
    by true e g later = ap (fpr_cmp f) (same_fpr q y e) ∙ below.0
    by false e g later = later g

-- All of the first list are in the second, so it isn't longer; if it is as long, all of the second are in the first.
pub record Covers (keys more : List Fpr) : Type 0 where
  pub fewer : length keys ≤ length more
  pub all : length more ≡ length keys → (q : Fpr) → among q more ≡ true → among q keys ≡ true

pub covers : (keys more : List Fpr) → IsStrictlySortedBy fpr_cmp keys → IsStrictlySortedBy fpr_cmp more →
    ((q : Fpr) → among q keys ≡ true → among q more ≡ true) → Covers keys more
covers [] [] s r sub = record { fewer = none_less 0; all = λ e q h. h }
covers [] (l ∷ more) s r sub = record { fewer = none_less (length (l ∷ more)); all = λ e. absurd (not_empty e) }
  where
    not_empty : length (l ∷ more) ≡ length {A = Fpr} [] → ⊥
    not_empty e = omega (arith, e)
covers (k ∷ keys) [] s r sub = absurd (true_false (sub k (ap (λ b. b || among k keys) (itself k))) refl)
covers (k ∷ keys) (l ∷ more) s r sub =
    by (is_fpr k l) refl (covers keys more (sorted_tail fpr_cmp k keys s) (sorted_tail fpr_cmp l more r))
    (covers (k ∷ keys) more s (sorted_tail fpr_cmp l more r))
  where
    above_k : AllByRecursion (λ y. fpr_cmp k y ≡ Less) keys
    above_k = sorted_head fpr_cmp k keys s

    above_l : AllByRecursion (λ y. fpr_cmp l y ≡ Less) more
    above_l = sorted_head fpr_cmp l more r

    in_more : (q : Fpr) → is_fpr q l ≡ false → among q (k ∷ keys) ≡ true → among q more ≡ true
    in_more q e h = ap (λ b. b || among q more) (sym e) ∙ sub q h

    or_later : (a b : Bool) → b ≡ true → a || b ≡ true
    or_later true b h = refl
    or_later false b h = h

    -- both begin with the same element
    rest_in : k ≡ l → (q : Fpr) → among q keys ≡ true → among q more ≡ true
    rest_in same q h = in_more q (ap (is_fpr q) (sym same) ∙ away k q (below_one k q keys above_k h))
        (or_later (is_fpr q k) (among q keys) h)

    back : k ≡ l → ((q : Fpr) → among q more ≡ true → among q keys ≡ true) → (q : Fpr) → among q (l ∷ more) ≡ true →
        among q (k ∷ keys) ≡ true
    back same f q h = again (is_fpr q l) refl h
      where
        again : (b : Bool) → is_fpr q l ≡ b → b || among q more ≡ true → is_fpr q k || among q keys ≡ true
        again true e g = ap (λ b. b || among q keys) (ap (is_fpr q) same ∙ e)
        again false e g = or_later (is_fpr q k) (among q keys) (f q g)

    not_l : (q : Fpr) → among q (k ∷ keys) ≡ true → fpr_cmp l k ≡ Less → is_fpr q l ≡ false
    not_l q h less = at (is_fpr q k) refl h
      where
        at : (b : Bool) → is_fpr q k ≡ b → b || among q keys ≡ true → is_fpr q l ≡ false
        at true t g = away l q (ap (fpr_cmp l) (same_fpr q k t) ∙ less)
        at false t g = away l q (fprs_total.trans l k q less (below_one k q keys above_k g))

    by : (b : Bool) → is_fpr k l ≡ b → (((q : Fpr) → among q keys ≡ true → among q more ≡ true) → Covers keys more) →
        (((q : Fpr) → among q (k ∷ keys) ≡ true → among q more ≡ true) → Covers (k ∷ keys) more) →
        Covers (k ∷ keys) (l ∷ more)
    by true e both other =
        let same = same_fpr k l e in
        let rest = both (rest_in same) in
        record {
          fewer = one_longer k l keys more rest.fewer;
          all = λ n. back same (rest.all (one_less k l keys more n));
        }
    by false e both other =
        let k_in : among k more ≡ true = in_more k e (ap (λ b. b || among k keys) (itself k)) in
        let l_below : fpr_cmp l k ≡ Less = below_one l k more above_l k_in in
        let rest = other (λ q h. in_more q (not_l q h l_below) h) in
        record {
          fewer = shorter l (k ∷ keys) more rest.fewer;
          all =
              λ n. absurd (too_long l (k ∷ keys) more rest.fewer n);
        }

-- ---- no line of a certificate that isn't kept

is_there : {X : Type 0} (q : Fpr) (es : List (Fpr × X)) → is_some (lookup (is_fpr q) es) ≡ among q (keys_of es)
is_there q [] = refl
is_there {X} q (e ∷ es) =
    elim (is_fpr q e.0) as (λ b. is_some (cond b (Some e.1) (lookup (is_fpr q) es)) ≡ b || among q (keys_of es)) [
      | true ↦ refl
      | false ↦ is_there q es
    ]

keys_length : {X : Type 0} (es : List (Fpr × X)) → length (keys_of es) ≡ length es
keys_length [] = refl
keys_length (e ∷ es) = let h = keys_length es in omega (arith, h)

none_there : {X : Type 0} (o : Option X) → is_some o ≡ false → o ≡ None
none_there None h = refl
none_there (Some x) h = cc

some_there : {X : Type 0} (o : Option X) → is_some o ≡ true → (x : X) × (o ≡ Some x)
some_there None h = absurd cc
some_there (Some x) h = (x, refl)

pub has_line : (k : Keyring) (t : ℕ) (lines : Lines) → AreDone k t lines → (q : Fpr) (x : Kept) → kept_at k q ≡ Some x →
    is_some (line_at lines q) ≡ true
has_line k t lines done q x f = ap is_some (current_line lines t q x.stamp (done q x f)).found

-- if there are as many lines as certificates
pub as_many : (k : Keyring) (t : ℕ) (lines : Lines) → AreSortedByFpr k.certs →
    IsStrictlySortedBy fpr_cmp (keys_of lines) → AreDone k t lines → length lines ≡ length k.certs →
    KeepsPresent k lines lines
as_many k t lines sorted rises done same q = by (is_some (kept_at k q)) refl
  where
    sub : (p : Fpr) → among p (keys_of k.certs) ≡ true → among p (keys_of lines) ≡ true
    sub p h = let (x, f) = some_there (kept_at k p) (is_there p k.certs ∙ h) in sym (is_there p lines)
        ∙ has_line k t lines done p x f

    all : (p : Fpr) → among p (keys_of lines) ≡ true → among p (keys_of k.certs) ≡ true
    all = (covers (keys_of k.certs) (keys_of lines) sorted rises sub).all (keys_length lines ∙ same
        ∙ sym (keys_length k.certs))

    absent : is_some (kept_at k q) ≡ false → (b : Bool) → is_some (line_at lines q) ≡ b → line_at lines q ≡ None
    absent none true h = absurd (true_false (is_there q k.certs ∙ all q (sym (is_there q lines) ∙ h)) none)
    absent none false h = none_there (line_at lines q) h

    by : (b : Bool) → is_some (kept_at k q) ≡ b →
        line_at lines q ≡ (if is_some (kept_at k q) then line_at lines q else None)
    by true e = sym (ap (λ b. if b then line_at lines q else None) e)
    by false e = absent e (is_some (line_at lines q)) refl ∙ sym (ap (λ b. if b then line_at lines q else None) e)

-- if those that aren't kept are removed
pub is_kept_some : (o : Option Kept) → is_some (option_map (λ (x : Kept). x.cert) o) ≡ is_some o
is_kept_some None = refl
is_kept_some (Some x) = refl

pub kept_alone : (k : Keyring) (lines : Lines) (p : Fpr → Bool) → ((q : Fpr) → p q ≡ is_some (kept_at k q)) →
    KeepsPresent k lines (filter (λ (e : Fpr × Line). p e.0) lines)
kept_alone k lines p is q =
    lookup-filter-keys (is_fpr q) p (p q) (λ r h. ap p (sym (same_fpr q r h))) lines
    ∙ ap (λ b. if b then line_at lines q else None) (is q)

-- ---- the end

module _ (k : Keyring) (t : ℕ) (old new : Lines) (present : KeepsPresent k old new) where
  pub still : (q : Fpr) (x : Kept) → kept_at k q ≡ Some x → line_at new q ≡ line_at old q
  still q x f = present q ∙ ap (λ (o : Option Kept). if is_some o then line_at old q else None) f

  pub gone : (q : Fpr) → kept_at k q ≡ None → line_at new q ≡ None
  gone q f = present q ∙ ap (λ (o : Option Kept). if is_some o then line_at old q else None) f

  pub was : (q : Fpr) (l : Line) → line_at new q ≡ Some l → line_at old q ≡ Some l
  was q l f = by (is_some (kept_at k q)) (sym (present q) ∙ f)
    where
      by : (b : Bool) → (if b then line_at old q else None) ≡ Some l → line_at old q ≡ Some l
      by true h = h
      by false h = absurd cc

  pub stays_on : (first : Lines) → StayCurrent k t (marks_of first) (marks_of old) →
      StayCurrent k t (marks_of first) (marks_of new)
  stays_on first stay q x f h = current_same old new t q x.stamp (still q x f) ∙ stay q x f h

  module _ (done : AreDone k t old) where
    now_at : (q : Fpr) (x : Kept) → kept_at k q ≡ Some x → IsCurrentLine old t q x.stamp
    now_at q x f = current_line old t q x.stamp (done q x f)

    line_now : AreFit k old → (q : Fpr) (x : Kept) (l : Line) → kept_at k q ≡ Some x → line_at new q ≡ Some l →
        IsLineNow k.verdicts t x l
    line_now fit q x l f g =
        let now = now_at q x f in
        let same : now.line ≡ l = (let h : Some now.line ≡ Some l = sym (still q x f ∙ now.found) ∙ g in cc) in
        subst (λ (z : Line). IsLineNow k.verdicts t x z) same
        (record {
          stamp = now.stamped;
          span = now.within;
          tells =
              (fit q now.line now.found).right x f (sym now.stamped) t now.within;
        })

    pub right_now : AreFit k old → (n : Net) → n.time ≡ t → n.lines ≡ new → IsRight n k t
    right_now fit n time lines = record {
      time = time;
      present = λ q x f. ap (λ (ls : Lines). is_some (line_at ls q)) lines
          ∙ ap is_some (still q x f ∙ (now_at q x f).found);
      tells = λ q x l f g. line_now fit q x l f (ap (λ (ls : Lines). line_at ls q) (sym lines) ∙ g);
      absent = λ q f. ap (λ (ls : Lines). line_at ls q) lines ∙ gone q f;
    }

    pub marks_now : AreMarksOf (marks_of new) k t
    marks_now q = by (kept_at k q) refl
      where
        by : (o : Option Kept) → kept_at k q ≡ o → MatchOption o (lookup (is_fpr q) (marks_of new) ≡ None)
            (λ (x : Kept). has_current (marks_of new) t q x.stamp ≡ true)
        by None f = mark_at new q ∙ ap (option_map (λ (l : Line). record { stamp = l.stamp; span = l.span })) (gone q f)
        by (Some x) f = current_same old new t q x.stamp (still q x f) ∙ done q x f

    has_stamp : (q : Fpr) (x : Kept) → kept_at k q ≡ Some x → HasStamp new q x.stamp
    has_stamp q x f =
        let now = current_line old t q x.stamp (done q x f) in
        subst (λ (o : Option Line). IsSomeAnd o (λ (l : Line). l.stamp ≡ x.stamp)) (sym (still q x f ∙ now.found))
        now.stamped

    pub fits_now : AreFit k old → (n : Net) → n.lines ≡ new → n.count ≡ k.changes → Fits n k
    fits_now fit n lines count = record {
      past = subst (λ m. m ≤ k.changes) (sym count) (itself_le k.changes);
      lines = λ q l f. fit q l (was q l (ap (λ (ls : Lines). line_at ls q) (sym lines) ∙ f));
      known = λ q x f g p. subst (λ (ls : Lines). HasStamp ls q x.stamp) (sym lines) (has_stamp q x f);
    }
      where
        itself_le : (n : ℕ) → n ≤ n
        itself_le n = omega arith

  pub open_now : (window : Span) → AreOpen window old → AreOpen window new
  open_now window before q l f = before q l (was q l f)

-- ---- what was made

all_current : (k : Keyring) (t : ℕ) (lines : Lines) → AreDone k t lines → (es : Entries) →
    AllByRecursion (λ (e : Fpr × Kept). kept_at k e.0 ≡ Some e.1) es →
    AllByRecursion (λ (e : Fpr × Kept). has_current (marks_of lines) t e.0 e.1.stamp ≡ true) es
all_current k t lines done [] all = tt
all_current k t lines done (e ∷ es) all = (done e.0 e.1 all.0, all_current k t lines done es all.1)

nothing_more : (a b w : ℕ) → w ≡ 0 → b ≤ a + w → b ≤ a
nothing_more a b w e h = omega arith

pub nothing_left : (weight : Certificate → ℕ) (k : Keyring) (t : ℕ) (lines : Lines) → AreSortedByFpr k.certs →
    AreDone k t lines → weigh_stale weight (marks_of lines) t k.certs ≡ 0
nothing_left weight k t lines sorted done = stale_none weight t (marks_of lines) k.certs
    (all_current k t lines done k.certs (found_each k.certs sorted))

pub made_enough : (k : Keyring) (t : ℕ) (old new : Lines) (before after : ℕ) → AreSortedByFpr k.certs →
    AreDone k t new → Advances k t old new before after → min (before + stale_edges (marks_of old) t k)
    (2 ^ 64 - 1) ≤ after
made_enough k t old new before after sorted done advances =
    nothing_more after _ _ (nothing_left (λ c. length (edges_of k.verdicts c t)) k t new sorted done) advances.least

-- ---- what may be stale

found_stamped : (changes : ℕ) (q : Fpr) (es : Entries) (x : Kept) → AreStamped changes es →
    lookup (is_fpr q) es ≡ Some x → 0 < x.stamp
found_stamped changes q [] x all f = absurd cc
found_stamped changes q (e ∷ es) x all f = by (is_fpr q e.0) f (found_stamped changes q es x all.1)
  where
    by : (b : Bool) → cond b (Some e.1) (lookup (is_fpr q) es) ≡ Some x →
        (lookup (is_fpr q) es ≡ Some x → 0 < x.stamp) → 0 < x.stamp
    by true g later = let same : e.1 ≡ x = cc in subst (λ (z : Kept). 0 < z.stamp) same all.0.0
    by false g later = later g

pub but_changed : (k : Keyring) (t count : ℕ) (lines : Lines) (window : Span) (changed : Logged) →
    AreOpen window lines → InSpan window t → AreKnown k count lines → AreStamped k.changes k.certs →
    HasChangedSince k count changed → AreDoneBut k t lines (λ (q : Fpr). is_listed q changed)
but_changed k t count lines window changed unbroken within known stamped since q x f = by (nat_le x.stamp count) refl
  where
    le_of : (a b : ℕ) → nat_le a b ≡ true → a ≤ b
    le_of a b h = grind (arith, nat_tests)

    lt_of : (a b : ℕ) → nat_le a b ≡ false → b < a
    lt_of a b h = grind (arith, nat_tests)

    at : (o : Option Line) → line_at lines q ≡ o → IsSomeAnd o (λ (l : Line). l.stamp ≡ x.stamp) →
        has_current (marks_of lines) t q x.stamp ≡ true
    at None e h = absurd h
    at (Some l) e h = line_current lines t q x.stamp l e h (unbroken q l e t within)

    stamp_above : count < x.stamp → count < stamp_at k q
    stamp_above h = subst (λ (o : Option Kept). count < option_map_or (λ (y : Kept). y.stamp) o 0) (sym f) h

    by : (b : Bool) → nat_le x.stamp count ≡ b → (has_current (marks_of lines) t q x.stamp ≡ true) ⊎
        (is_listed q changed ≡ true)
    by true e = inl (at (line_at lines q) refl (known q x f (found_stamped k.changes q k.certs x stamped f)
        (le_of x.stamp count e)))
    by false e = inr (since q (stamp_above (lt_of x.stamp count e)))
