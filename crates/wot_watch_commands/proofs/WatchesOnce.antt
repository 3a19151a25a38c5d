-- What is stale counts once for each view, however many watches ask it, and whichever of them has no answer.
use Rattle.std.proofs.Common.{◌≡◌, ◌≤◌, ◌+◌, ◌||◌, ℕ, zero, suc, Bool, true, false, cond, if◌then◌else◌}
use Rattle.std.proofs.Common.{List, [], ◌∷◌, Option, Some, None, Result, Ok, Err, OnOk, refl, sym, ap, subst, ◌∙◌, arith}
use Rattle.std.specs.Prelude.{is_ok}
use Rattle.std.specs.declared.cmp.Ordering.{Ordering}
use Rattle.std.specs.declared.cmp.Ordering.TheVariants.{Less, Equal, Greater}
use Rattle.std.specs.List.{AllByRecursion, list_any}
use Rattle.std.specs.Map.{lookup, keys_of}
use Rattle.std.specs.Option.{option_map_or, MatchOption}
use Rattle.std.specs.Ordering.{is_eq}
use Rattle.std.proofs.lemmas.Cmp.{tied_itself}
use Rattle.std.proofs.lemmas.Map.{lookup-none}
use Rattle.std.proofs.lemmas.Map.Keys.{sorted_head, sorted_tail}
use Rattle.wot_types.specs.declared.fpr.Fpr.{Fpr}
use Rattle.wot_types.specs.Fpr.{fpr_cmp}
use Rattle.wot_types.specs.FprLaws.{fpr_total}
use Rattle.wot_component.specs.Certificate.{Certificate}
use Rattle.wot_component.specs.Counts.{sum_of}
use Rattle.wot_keyring_spec.specs.declared.kept.Kept.{Kept}
use Rattle.wot_keyring_spec.specs.Kept.{AreSortedByFpr}
use Rattle.wot_keyring_spec.specs.Keyring.{Entries, Keyring, is_fpr}
use Rattle.wot_network.specs.Net.{AreMarksOf, Marks, has_current, stale_signatures, stale_weight, weigh_stale}
use Rattle.wot_cache.specs.declared.view.View.{View}
use Rattle.wot_cache.specs.Marks.{IsMadeFor, IsRefreshed, end_at}
use Rattle.wot_cache.specs.State.{Engine, marks_at}
use Rattle.wot_cache.specs.Views.{Views, is_name, view_at}
use Rattle.wot_plain.specs.Made.{WatchMakes}
use Rattle.wot_plain.proofs.Viewed.{same_name}
use Rattle.wot_watch.specs.Watches.{Watch, Watches}
use Rattle.wot_watch_commands.specs.Stale.{stale_for, stale_in, views_of, with_name}

-- ---- sums over names

module _ (f g : List ℕ → ℕ) (w : List ℕ) (nothing : g w ≡ 0)
    (others : (n : List ℕ) → is_name w n ≡ false → g n ≡ f n) where
  nothing_here : (n : List ℕ) → is_name w n ≡ true → g n ≡ 0
  nothing_here n e = subst (λ (x : List ℕ). g x ≡ 0) (same_name w n e) nothing

  each : (n : List ℕ) → g n ≤ f n
  each n = by (is_name w n) refl
    where
      by : (b : Bool) → is_name w n ≡ b → g n ≤ f n
      by true e = let z = nothing_here n e in omega (arith, z)
      by false e = let s = others n e in omega (arith, s)

  less : (ns : List (List ℕ)) → sum_of g ns ≤ sum_of f ns
  less [] = omega arith
  less (n ∷ ns) = let a = each n in let b = less ns in omega (arith, a, b)

  among : (ns : List (List ℕ)) → list_any (is_name w) ns ≡ true → f w + sum_of g ns ≤ sum_of f ns
  among [] h = absurd cc
  among (n ∷ ns) h = by (is_name w n) refl h (among ns)
    where
      by : (b : Bool) → is_name w n ≡ b → b || list_any (is_name w) ns ≡ true
          → (list_any (is_name w) ns ≡ true → f w + sum_of g ns ≤ sum_of f ns)
          → f w + (g n + sum_of g ns) ≤ f n + sum_of f ns
      by true e h later =
          let z = nothing_here n e in
          let s : f w ≡ f n = ap f (same_name w n e) in
          let l = less ns in
          omega (arith, z, s, l)
      by false e h later = let s = others n e in let l = later h in omega (arith, s, l)

  -- what is counted for one name isn't counted for it again
  counted_once : (ns : List (List ℕ)) → f w + sum_of g ns ≤ sum_of f (with_name w ns)
  counted_once ns = by (list_any (is_name w) ns) refl
    where
      by : (b : Bool) → list_any (is_name w) ns ≡ b → f w + sum_of g ns ≤ sum_of f (if b then ns else w ∷ ns)
      by true e = among ns e
      by false e = let l = less ns in omega (arith, l)

module _ (f : List ℕ → ℕ) (w : List ℕ) where
  rest_counted : (ns : List (List ℕ)) → sum_of f ns ≤ sum_of f (with_name w ns)
  rest_counted ns = by (list_any (is_name w) ns)
    where
      by : (b : Bool) → sum_of f ns ≤ sum_of f (if b then ns else w ∷ ns)
      by true = omega arith
      by false = omega arith

  one_among : (ns : List (List ℕ)) → list_any (is_name w) ns ≡ true → f w ≤ sum_of f ns
  one_among [] h = absurd cc
  one_among (n ∷ ns) h = by (is_name w n) refl h (one_among ns)
    where
      by : (b : Bool) → is_name w n ≡ b → b || list_any (is_name w) ns ≡ true
          → (list_any (is_name w) ns ≡ true → f w ≤ sum_of f ns) → f w ≤ f n + sum_of f ns
      by true e h later = let s : f w ≡ f n = ap f (same_name w n e) in omega (arith, s)
      by false e h later = let l = later h in omega (arith, l)

  one_counted : (ns : List (List ℕ)) → f w ≤ sum_of f (with_name w ns)
  one_counted ns = by (list_any (is_name w) ns) refl
    where
      by : (b : Bool) → list_any (is_name w) ns ≡ b → f w ≤ sum_of f (if b then ns else w ∷ ns)
      by true e = one_among ns e
      by false e = omega arith

-- ---- nothing is stale once all marks are current

equal_if : (r : Ordering) → is_eq r ≡ true → r ≡ Equal
equal_if Less e = absurd cc
equal_if Equal e = refl
equal_if Greater e = absurd cc

apart : (k key : Fpr) (es : Entries) → fpr_cmp k key ≡ Equal → AllByRecursion (λ y. fpr_cmp key y ≡ Less) (keys_of es)
    → AllByRecursion (λ (e : Fpr × Kept). is_fpr k e.0 ≡ false) es
apart k key [] tied below = tt
apart k key (e ∷ es) tied below =
    (ap is_eq (fpr_total.congr k key e.0 tied ∙ below.0), apart k key es tied below.1)

later : (k : Fpr) (x : Kept) (e : Fpr × Kept) (es : Entries) → AreSortedByFpr (e ∷ es)
    → lookup (is_fpr k) es ≡ Some x → lookup (is_fpr k) (e ∷ es) ≡ Some x
later k x e es sorted found = by (is_fpr k e.0) refl
  where
    by : (b : Bool) → is_fpr k e.0 ≡ b → cond b (Some e.1) (lookup (is_fpr k) es) ≡ Some x
    by false h = found
    by true h =
        let none = lookup-none (is_fpr k) es (apart k e.0 es (equal_if (fpr_cmp k e.0) h)
        (sorted_head fpr_cmp e.0 (keys_of es) sorted)) in
        absurd (let never : None ≡ Some x = sym none ∙ found in cc)

-- if whatever is found is current, nothing is stale
none_stale : (weight : Certificate → ℕ) (marks : Marks) (t : ℕ) (es : Entries) → AreSortedByFpr es
    → ((k : Fpr) (x : Kept) → lookup (is_fpr k) es ≡ Some x → has_current marks t k x.stamp ≡ true)
    → weigh_stale weight marks t es ≡ 0
none_stale weight marks t [] sorted current = refl
none_stale weight marks t (e ∷ es) sorted current =
    let found : lookup (is_fpr e.0) (e ∷ es) ≡ Some e.1 =
    ap (λ r. cond (is_eq r) (Some e.1) (lookup (is_fpr e.0) es)) (tied_itself fpr_total e.0) in
    let first : stale_weight weight marks t e ≡ 0 =
    ap (λ b. if b then 0 else weight e.1.cert) (current e.0 e.1 found) in
    let rest = none_stale weight marks t es (sorted_tail fpr_cmp e.0 (keys_of es) sorted)
    (λ k x f. current k x (later k x e es sorted f)) in
    omega (arith, first, rest)

marked : (marks : Marks) (k : Keyring) (t : ℕ) → AreSortedByFpr k.certs → AreMarksOf marks k t
    → stale_signatures marks t k ≡ 0
marked marks k t sorted are =
    none_stale _ marks t k.certs sorted (λ fpr x found. subst (λ (o : Option Kept). MatchOption o
    (lookup (is_fpr fpr) marks ≡ None) (λ (y : Kept). has_current marks t fpr y.stamp ≡ true)) found (are fpr))

-- ---- one question

of_ok : {A B : Type 0} (r : Result A B) (P : Type 0) → is_ok r ≡ true → OnOk r P → P
of_ok (Ok a) P ok p = p
of_ok (Err e) P ok p = absurd cc

module _ {A B : Type 0} (r : Result A B) (view : List ℕ) (now next : Engine) (made more : ℕ)
    (asked : IsRefreshed r view now next made more) where
  for_view : (o : Option View) → view_at now.views view ≡ o
      → IsMadeFor r o now.keyring (end_at now view made) (end_at next view more)
  for_view o e = subst (λ (o : Option View). IsMadeFor r o now.keyring (end_at now view made) (end_at next view more)) e
      asked.made

  asked_most : more ≤ made + stale_for now view
  asked_most = by (view_at now.views view) refl
    where
      by : (o : Option View) → view_at now.views view ≡ o → more ≤ made
          + option_map_or (λ (v : View). stale_signatures (marks_at now view) v.time now.keyring) o 0
      by None e = let same = (asked.closed e).1 in omega (arith, same)
      by (Some v) e = (for_view (Some v) e).most

  -- nothing is stale for the view then
  asked_done : is_ok r ≡ true → AreSortedByFpr now.keyring.certs → stale_for next view ≡ 0
  asked_done ok sorted = by (view_at next.views view) refl
    where
      by : (o : Option View) → view_at next.views view ≡ o
          → option_map_or (λ (v : View). stale_signatures (marks_at next view) v.time next.keyring) o 0 ≡ 0
      by None e = refl
      by (Some v) e =
          let open_then = sym (ap (λ (vs : Views). view_at vs view) asked.stays.views) ∙ e in
          let current = of_ok r _ ok (for_view (Some v) open_then).marks in
          subst (λ (k : Keyring). stale_signatures (marks_at next view) v.time k ≡ 0) (sym asked.stays.keyring)
          (marked (marks_at next view) now.keyring v.time sorted current)

  asked_others : (other : List ℕ) → is_name view other ≡ false → stale_for next other ≡ stale_for now other
  asked_others other e = λ i.
      option_map_or (λ (v : View). stale_signatures (asked.others other e i) v.time (asked.stays.keyring i))
      (view_at (asked.stays.views i) other) 0

-- ---- one watch after another

-- What was made, and what is stale for the watches that are left, is no more than was stale in the beginning.
abbrev pub CountsSoFar : Engine → ℕ → Watches → Watches → Engine → ℕ → Type 0
CountsSoFar old before all rest now made = made + stale_in now rest ≤ before + stale_in old all

module _ (old : Engine) (before : ℕ) (all : Watches) where
  module _ {A B : Type 0} (r : Result A B) (rest : Watches) (name : List ℕ) (watch : Watch) (now next : Engine)
      (made more : ℕ) (makes : WatchMakes r watch now next made more)
      (so : CountsSoFar old before all ((name, watch) ∷ rest) now made) where
    pub counts_more : is_ok r ≡ true → AreSortedByFpr now.keyring.certs → CountsSoFar old before all rest next more
    counts_more ok sorted = by watch.wanted refl
      where
        by : (n : ℕ) → watch.wanted ≡ n → CountsSoFar old before all rest next more
        by zero e =
            let same = makes.none e in
            let count = same.1 in
            let left : stale_in next rest ≡ stale_in now rest = ap (λ (x : Engine). stale_in x rest) same.0 in
            let fewer = rest_counted (stale_for now) watch.view (views_of rest) in
            omega (arith, count, left, fewer, so)
        by (suc n) e =
            let asked = makes.asked (omega (arith, e)) in
            let most = asked_most r watch.view now next made more asked in
            let once = counted_once (stale_for now) (stale_for next) watch.view
            (asked_done r watch.view now next made more asked ok sorted)
            (asked_others r watch.view now next made more asked) (views_of rest) in
            omega (arith, most, once, so)

    -- asking this one may have failed
    pub counts_last : more ≤ before + stale_in old all
    counts_last = by watch.wanted refl
      where
        by : (n : ℕ) → watch.wanted ≡ n → more ≤ before + stale_in old all
        by zero e =
            let count = (makes.none e).1 in
            omega (arith, count, so)
        by (suc n) e =
            let most = asked_most r watch.view now next made more (makes.asked (omega (arith, e))) in
            let one = one_counted (stale_for now) watch.view (views_of rest) in
            omega (arith, most, one, so)

  pub counts_all : (rest : Watches) (now : Engine) (made : ℕ) → CountsSoFar old before all rest now made
      → made ≤ before + stale_in old all
  counts_all rest now made so = omega (arith, so)
