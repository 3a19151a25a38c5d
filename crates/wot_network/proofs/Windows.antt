-- A window is within the spans that were walked over.
use Rattle.std.proofs.Common.{◌≡◌, Bool, true, false, cond, [], ◌∷◌, Some, subst, sym}
use Rattle.std.specs.List.{AllByRecursion}
use Rattle.std.specs.Map.{lookup}
use Rattle.wot_types.specs.declared.fpr.Fpr.{Fpr}
use Rattle.wot_cert.specs.declared.moments.Span.{Span}
use Rattle.wot_keyring_spec.specs.Keyring.{is_fpr}
use Rattle.wot_network.specs.Net.{Line, Lines}
use Rattle.wot_network.specs.Refreshing.{AreOpen, IsInside}

abbrev pub AreAround : Span → Lines → Type 0
AreAround window lines = AllByRecursion (λ (e : Fpr × Line). IsInside window e.1.span) lines

-- What is within the window and the rest is within all.
abbrev pub InsideBut : Span → Lines → Lines → Type 0
InsideBut window all rest = (w : Span) → IsInside w window → AreAround w rest → AreAround w all

pub one_more : (window window' : Span) (all rest later : Lines) (fpr : Fpr) (line : Line) → rest ≡ (fpr, line) ∷ later →
    IsInside window' window → IsInside window' line.span → InsideBut window all rest → InsideBut window' all later
one_more window window' all rest later fpr line step narrow span before w inside around =
    before w (λ t h. narrow t (inside t h)) (subst (AreAround w) (sym step) ((λ t h. span t (inside t h)), around))

found_in : (w : Span) (all : Lines) → AreAround w all → AreOpen w all
found_in w [] around fpr line found = absurd cc
found_in w (e ∷ all) around fpr line found = by (is_fpr fpr e.0) found (found_in w all around.1 fpr line)
  where
    by : (b : Bool) → cond b (Some e.1) (lookup (is_fpr fpr) all) ≡ Some line →
        (lookup (is_fpr fpr) all ≡ Some line → IsInside w line.span) → IsInside w line.span
    by true f later = let same : e.1 ≡ line = cc in subst (λ (l : Line). IsInside w l.span) same around.0
    by false f later = later f

pub all_open : (window : Span) (all rest : Lines) → rest ≡ [] → InsideBut window all rest → AreOpen window all
all_open window all rest none but = found_in window all (but window (λ t h. h) (subst (AreAround window) (sym none) tt))
