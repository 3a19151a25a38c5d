-- Current lines, and the weight of the stale certificates.
use Rattle.std.proofs.Common.{◌≡◌, ◌≤◌, ◌+◌, ℕ, Bool, true, false, ◌&&◌, cond, if◌then◌else◌, nat_eq, nat_le, [], ◌∷◌}
use Rattle.std.proofs.Common.{Option, Some, None, refl, sym, ap, ◌∙◌, subst, arith}
use Rattle.std.specs.declared.cmp.Ordering.TheVariants.{Less}
use Rattle.std.specs.List.{AllByRecursion}
use Rattle.std.specs.Option.{option_map, option_map_or}
use Rattle.std.specs.Map.{lookup, keys_of}
use Rattle.std.proofs.lemmas.Bool.Decides.{nat_tests}
use Rattle.std.proofs.lemmas.Map.Keys.{sorted_head, sorted_tail}
use Rattle.std.proofs.lemmas.Map.Made.{lookup-map_values}
use Rattle.wot_types.specs.declared.fpr.Fpr.{Fpr}
use Rattle.wot_types.specs.Fpr.{fpr_cmp}
use Rattle.wot_component.specs.Certificate.{Certificate}
use Rattle.wot_cert.specs.Span.{InSpan}
use Rattle.wot_keyring_spec.specs.declared.kept.Kept.{Kept}
use Rattle.wot_keyring_spec.specs.Import.{weigh}
use Rattle.wot_keyring_spec.specs.Keyring.{Entries, is_fpr, stripped}
use Rattle.wot_keyring_spec.specs.Kept.{AreSortedByFpr}
use Rattle.wot_network.specs.Net.{Line, Lines, Mark, Marks, line_at, mark_of, marks_of, is_current, has_current}
use Rattle.wot_network.specs.Net.{stale_weight, weigh_stale}
use Rattle.wot_network.proofs.Fprs.{same_fpr, apart}

-- ---- a current line

pub mark_at : (lines : Lines) (fpr : Fpr) → lookup (is_fpr fpr) (marks_of lines) ≡ option_map mark_of
    (line_at lines fpr)
mark_at lines fpr = lookup-map_values mark_of (is_fpr fpr) lines

-- whether there is a current line, by what is found
abbrev pub current_by : ℕ → ℕ → Option Line → Bool
current_by t stamp found = option_map_or (is_current t stamp) (option_map mark_of found) false

pub current_found : (lines : Lines) (t : ℕ) (fpr : Fpr) (stamp : ℕ) (found : Option Line) → line_at lines fpr ≡ found →
    has_current (marks_of lines) t fpr stamp ≡ current_by t stamp found
current_found lines t fpr stamp found e =
    ap (λ (o : Option Mark). option_map_or (is_current t stamp) o false) (mark_at lines fpr ∙ ap (option_map mark_of) e)

pub record IsCurrentLine (lines : Lines) (t : ℕ) (fpr : Fpr) (stamp : ℕ) : Type 0 where
  pub line : Line
  pub found : line_at lines fpr ≡ Some line
  pub stamped : line.stamp ≡ stamp
  pub within : InSpan line.span t

both : (a b : Bool) → a && b ≡ true → (a ≡ true) × (b ≡ true)
both true true h = (refl, refl)
both true false h = absurd cc
both false b h = absurd cc

eq_of : (a b : ℕ) → nat_eq a b ≡ true → a ≡ b
eq_of a b h = grind (arith, nat_tests)

le_of : (a b : ℕ) → nat_le a b ≡ true → a ≤ b
le_of a b h = grind (arith, nat_tests)

eq_is : (a b : ℕ) → a ≡ b → nat_eq a b ≡ true
eq_is a b h = grind (arith, nat_tests)

le_is : (a b : ℕ) → a ≤ b → nat_le a b ≡ true
le_is a b h = grind (arith, nat_tests)

pub current_line : (lines : Lines) (t : ℕ) (fpr : Fpr) (stamp : ℕ) → has_current (marks_of lines) t fpr stamp ≡ true →
    IsCurrentLine lines t fpr stamp
current_line lines t fpr stamp h = by (line_at lines fpr) refl
  where
    by : (o : Option Line) → line_at lines fpr ≡ o → IsCurrentLine lines t fpr stamp
    by None e = absurd (let g : false ≡ true = sym (current_found lines t fpr stamp None e) ∙ h in cc)
    by (Some line) e =
        let is : nat_eq line.stamp stamp && (nat_le line.span.from t && nat_le t line.span.to) ≡ true =
        sym (current_found lines t fpr stamp (Some line) e) ∙ h in
        let parts = both _ _ is in
        let times = both _ _ parts.1 in
        record {
          line = line;
          found = e;
          stamped = eq_of line.stamp stamp parts.0;
          within =
              record { from = le_of line.span.from t times.0; to = le_of t line.span.to times.1 };
        }

and_both : (a b : Bool) → a ≡ true → b ≡ true → a && b ≡ true
and_both true b h k = k
and_both false b h k = cc

pub line_current : (lines : Lines) (t : ℕ) (fpr : Fpr) (stamp : ℕ) (line : Line) → line_at lines fpr ≡ Some line →
    line.stamp ≡ stamp → InSpan line.span t → has_current (marks_of lines) t fpr stamp ≡ true
line_current lines t fpr stamp line e s w =
    current_found lines t fpr stamp (Some line) e
    ∙ and_both (nat_eq line.stamp stamp) _ (eq_is line.stamp stamp s) (and_both (nat_le line.span.from t) _
    (le_is line.span.from t w.from) (le_is t line.span.to w.to))

pub current_same : (old new : Lines) (t : ℕ) (fpr : Fpr) (stamp : ℕ) → line_at new fpr ≡ line_at old fpr →
    has_current (marks_of new) t fpr stamp ≡ has_current (marks_of old) t fpr stamp
current_same old new t fpr stamp e = current_found new t fpr stamp (line_at old fpr) e
    ∙ sym (current_found old t fpr stamp (line_at old fpr) refl)

-- ---- what is stale

module _ (weight : Certificate → ℕ) (t : ℕ) where
  pub stale_same : (old new : Marks) (es : Entries) →
      AllByRecursion (λ (e : Fpr × Kept). has_current new t e.0 e.1.stamp ≡ has_current old t e.0 e.1.stamp) es →
      weigh_stale weight old t es ≡ weigh_stale weight new t es
  stale_same old new [] same = refl
  stale_same old new (e ∷ es) same =
      ap (λ b. (if b then 0 else weight e.1.cert) + weigh_stale weight old t es) (sym same.0)
      ∙ ap (λ n. stale_weight weight new t e + n) (stale_same old new es same.1)

  pub stale_none : (marks : Marks) (es : Entries) →
      AllByRecursion (λ (e : Fpr × Kept). has_current marks t e.0 e.1.stamp ≡ true) es →
      weigh_stale weight marks t es ≡ 0
  stale_none marks [] done = refl
  stale_none marks (e ∷ es) done =
      let h : stale_weight weight marks t e ≡ 0 = ap (λ b. if b then 0 else weight e.1.cert) done.0 in
      let rest = stale_none marks es done.1 in
      omega (arith, h, rest)

  in_front : (a b : ℕ) → a ≤ a + b
  in_front a b = omega arith

  behind : (a b c : ℕ) → c ≤ b → c ≤ a + b
  behind a b c h = omega arith

  -- one that is stale is among them
  pub stale_at_least : (marks : Marks) (fpr : Fpr) (x : Kept) (es : Entries) → lookup (is_fpr fpr) es ≡ Some x →
      has_current marks t fpr x.stamp ≡ false → weight x.cert ≤ weigh_stale weight marks t es
  stale_at_least marks fpr x [] found stale = absurd cc
  stale_at_least marks fpr x (e ∷ es) found stale =
      by (is_fpr fpr e.0) refl found (λ f. stale_at_least marks fpr x es f stale)
    where
      by : (b : Bool) → is_fpr fpr e.0 ≡ b → cond b (Some e.1) (lookup (is_fpr fpr) es) ≡ Some x →
          (lookup (is_fpr fpr) es ≡ Some x → weight x.cert ≤ weigh_stale weight marks t es) →
          weight x.cert ≤ weigh_stale weight marks t (e ∷ es)
      by true h f later =
          let same : e.1 ≡ x = cc in
          let before : has_current marks t e.0 e.1.stamp ≡ false =
          sym (λ i. has_current marks t (same_fpr fpr e.0 h i) (sym same i).stamp) ∙ stale in
          let here : stale_weight weight marks t e ≡ weight x.cert = ap (λ b. if b then 0 else weight e.1.cert) before
          ∙ ap (λ (z : Kept). weight z.cert) same in
          subst (λ n. weight x.cert ≤ n + weigh_stale weight marks t es) (sym here)
          (in_front (weight x.cert) (weigh_stale weight marks t es))
      by false h f later = behind (stale_weight weight marks t e) (weigh_stale weight marks t es) (weight x.cert)
          (later f)

  module _ (old new : Marks) (fpr : Fpr) (elsewhere : (q : Fpr) (s : ℕ) → is_fpr fpr q ≡ false →
      has_current new t q s ≡ has_current old t q s) where
    others : (es : Entries) → AllByRecursion (λ (e : Fpr × Kept). is_fpr fpr e.0 ≡ false) es →
        AllByRecursion (λ (e : Fpr × Kept). has_current new t e.0 e.1.stamp ≡ has_current old t e.0 e.1.stamp) es
    others [] all = tt
    others (e ∷ es) all = (elsewhere e.0 e.1.stamp all.0, others es all.1)

    pub stale_elsewhere : (es : Entries) → AllByRecursion (λ (e : Fpr × Kept). is_fpr fpr e.0 ≡ false) es →
        weigh_stale weight old t es ≡ weigh_stale weight new t es
    stale_elsewhere es all = stale_same old new es (others es all)

    here : (a b : ℕ) → a + b ≡ (0 + b) + a
    here a b = omega arith

    there : (a b c w : ℕ) → b ≡ c + w → a + b ≡ (a + c) + w
    there a b c w h = omega arith

    -- one that was stale is current now
    pub stale_less : (x : Kept) (es : Entries) → AreSortedByFpr es → lookup (is_fpr fpr) es ≡ Some x →
        has_current old t fpr x.stamp ≡ false → has_current new t fpr x.stamp ≡ true
        → weigh_stale weight old t es ≡ weigh_stale weight new t es + weight x.cert
    stale_less x [] sorted found was is = absurd cc
    stale_less x (e ∷ es) sorted found was is =
        by (is_fpr fpr e.0) refl found (λ f. stale_less x es (sorted_tail fpr_cmp e.0 (keys_of es) sorted) f was is)
      where
        by : (b : Bool) → is_fpr fpr e.0 ≡ b → cond b (Some e.1) (lookup (is_fpr fpr) es) ≡ Some x →
            (lookup (is_fpr fpr) es ≡ Some x → weigh_stale weight old t es ≡ weigh_stale weight new t es + weight
            x.cert)
            → weigh_stale weight old t (e ∷ es) ≡ weigh_stale weight new t (e ∷ es) + weight x.cert
        by true h f later =
            let same : e.1 ≡ x = cc in
            let name : fpr ≡ e.0 = same_fpr fpr e.0 h in
            let before : has_current old t e.0 e.1.stamp ≡ false =
            sym (λ i. has_current old t (name i) (sym same i).stamp) ∙ was in
            let after : has_current new t e.0 e.1.stamp ≡ true =
            sym (λ i. has_current new t (name i) (sym same i).stamp) ∙ is in
            let rest : weigh_stale weight old t es ≡ weigh_stale weight new t es =
            stale_elsewhere es (apart fpr es
            (subst (λ (f : Fpr). AllByRecursion (λ y. fpr_cmp f y ≡ Less) (keys_of es)) (sym name)
            (sorted_head fpr_cmp e.0 (keys_of es) sorted))) in
            ap (λ b. (if b then 0 else weight e.1.cert) + weigh_stale weight old t es) before
            ∙ ap (λ n. weight e.1.cert + n) rest
            ∙ here (weight e.1.cert) (weigh_stale weight new t es)
            ∙ (λ i. ((if sym after i then 0 else weight e.1.cert) + weigh_stale weight new t es) + weight (same i).cert)
        by false h f later =
            ap (λ b. (if b then 0 else weight e.1.cert) + weigh_stale weight old t es) (sym (elsewhere e.0 e.1.stamp h))
            ∙ there (stale_weight weight new t e) _ _ (weight x.cert) (later f)

-- ---- what is stale is some of all

none_or_all : (b : Bool) (w a c : ℕ) → a ≤ c → (if b then 0 else w) + a ≤ w + c
none_or_all true w a c h = omega arith
none_or_all false w a c h = omega arith

zero_le : 0 ≤ 0
zero_le = omega arith

pub stale_some : (weight : Certificate → ℕ) (marks : Marks) (t : ℕ) (es : Entries) →
    weigh_stale weight marks t es ≤ weigh weight (stripped es)
stale_some weight marks t [] = zero_le
stale_some weight marks t (e ∷ es) = none_or_all (has_current marks t e.0 e.1.stamp) (weight e.1.cert) _ _
    (stale_some weight marks t es)
