-- What the parser has read is in the grammar.
use Rattle.std.specs.Prelude.{◌≡◌, ℕ, suc, List, [], ◌∷◌, Option, Some, None}
use Rattle.std.proofs.Common.{sym, refl, subst}
use Rattle.wot_pattern.specs.declared.mark.Mark.{Mark}
use Rattle.wot_pattern.specs.declared.mark.Mark.TheVariants as m
use Rattle.wot_pattern.specs.Marks.{mark_of}
use Rattle.wot_pattern.specs.Reading.{exactly, any, start, end, Reading, nothing, single, star, plus, optional}
use Rattle.wot_pattern.specs.Grammar as g
use Rattle.wot_pattern.specs.Grammar.{Reads}
use Rattle.wot_pattern.specs.Steps.{Level, Last, none, atom, piece, State, at, flushed, joined, level_so_far, with_atom}
use Rattle.wot_pattern.specs.Steps.{entered, left, barred, with_piece, ParserStepBy, ParserStep}

-- the current branch begins at v, after the branches before it, which begin at t
abbrev pub Begun : ℕ → List ℕ → Option Reading → List ℕ → Type 0
Begun n t None v = v ≡ t
Begun n t (Some p) v = (c : ℕ) × Reads g.pattern n t p (c ∷ v) × (mark_of c ≡ m.Bar)

abbrev pub Ends : ℕ → List ℕ → Last → List ℕ → Type 0
Ends n w none u = w ≡ u
Ends n w (atom a) u = Reads g.atom n w a u
Ends n w (piece a) u = Reads g.piece n w a u

-- the level with n more levels begins at t, after what the levels around it have read of the text
abbrev pub Encloses : List ℕ → ℕ → List ℕ → List Level → Type 0
Encloses text n t [] = (t ≡ text) × (n ≡ 64)
Encloses text n t (f ∷ fs) =
    (c : ℕ) × (t₀ : List ℕ) × (v : List ℕ) × (mark_of c ≡ m.Open) × Begun (suc n) t₀ f.earlier v
    × Reads g.branch (suc n) v f.branch (c ∷ t) × Encloses text (suc n) t₀ fs

-- The state says what comes before u in the text.
pub record SoFar (text : List ℕ) (s : State) (u : List ℕ) : Type 0 where
  pub level : List ℕ
  pub branch_at : List ℕ
  pub last_at : List ℕ
  pub encloses : Encloses text s.levels level s.outer
  pub begun : Begun s.levels level s.earlier branch_at
  pub branch : Reads g.branch s.levels branch_at s.branch last_at
  pub ends : Ends s.levels last_at s.last u

flush : (n : ℕ) (v w u : List ℕ) (b : Reading) (l : Last) → Reads g.branch n v b w → Ends n w l u
    → Reads g.branch n v (flushed l b) u
flush n v w u b none h e = subst (λ x. Reads g.branch n v b x) e h
flush n v w u b (atom a) h e = g.next_piece h (g.once e)
flush n v w u b (piece a) h e = g.next_piece h e

join : (n : ℕ) (t v u : List ℕ) (e : Option Reading) (b : Reading) → Begun n t e v → Reads g.branch n v b u
    → Reads g.pattern n t (joined e b) u
join n t v u None b h k = g.first_branch (subst (λ x. Reads g.branch n x b u) h k)
join n t v u (Some p) b h k = g.next_branch h.1 h.2 k

pub level_read : (text : List ℕ) (s : State) (u : List ℕ) (h : SoFar text s u)
    → Reads g.pattern s.levels h.level (level_so_far s) u
level_read text s u h =
    join s.levels h.level h.branch_at u s.earlier (flushed s.last s.branch) h.begun
    (flush s.levels h.branch_at h.last_at u s.branch s.last h.branch h.ends)

pub SoFar-with_atom :
    (text : List ℕ) (s : State) (u u' : List ℕ) (a : Reading)
    → SoFar text s u → Reads g.atom s.levels u a u' → SoFar text (with_atom s a) u'
SoFar-with_atom text s u u' a h k = record {
  level = h.level;
  branch_at = h.branch_at;
  last_at = u;
  encloses = h.encloses;
  begun = h.begun;
  branch = flush s.levels h.branch_at h.last_at u s.branch s.last h.branch h.ends;
  ends = k;
}

SoFar-entered :
    (text : List ℕ) (s : State) (n c : ℕ) (u : List ℕ)
    → SoFar text s (c ∷ u) → mark_of c ≡ m.Open → s.levels ≡ suc n → SoFar text (entered s n) u
SoFar-entered text s n c u h o e =
    let b = flush s.levels h.branch_at h.last_at (c ∷ u) s.branch s.last h.branch h.ends in
    record {
      level = u;
      branch_at = u;
      last_at = u;
      encloses = (
        c,
        h.level,
        h.branch_at,
        o,
        subst (λ x. Begun x h.level s.earlier h.branch_at) e h.begun,
        subst (λ x. Reads g.branch x h.branch_at (flushed s.last s.branch) (c ∷ u)) e b,
        subst (λ x. Encloses text x h.level s.outer) e h.encloses,
      );
      begun = refl;
      branch = g.no_piece;
      ends = refl;
    }

SoFar-left :
    (text : List ℕ) (s : State) (f : Level) (fs : List Level) (c : ℕ) (u : List ℕ)
    → SoFar text s (c ∷ u) → mark_of c ≡ m.Close → s.outer ≡ f ∷ fs → SoFar text (left s f fs) u
SoFar-left text s f fs c u h o e =
    let k = subst (λ x. Encloses text s.levels h.level x) e h.encloses in
    record {
      level = k.1;
      branch_at = k.2;
      last_at = k.0 ∷ h.level;
      encloses = k.6;
      begun = k.4;
      branch = k.5;
      ends = g.group k.3 (level_read text s (c ∷ u) h) o;
    }

SoFar-barred :
    (text : List ℕ) (s : State) (c : ℕ) (u : List ℕ) → SoFar text s (c ∷ u) → mark_of c ≡ m.Bar
    → SoFar text (barred s) u
SoFar-barred text s c u h o = record {
  level = h.level;
  branch_at = u;
  last_at = u;
  encloses = h.encloses;
  begun = (c, level_read text s (c ∷ u) h, o);
  branch = g.no_piece;
  ends = refl;
}

SoFar-with_piece :
    (text : List ℕ) (s : State) (a p : Reading) (u u' : List ℕ)
    → SoFar text s u → s.last ≡ atom a → ((w : List ℕ) → Reads g.atom s.levels w a u → Reads g.piece s.levels w p u')
    → SoFar text (with_piece s p) u'
SoFar-with_piece text s a p u u' h e f = record {
  level = h.level;
  branch_at = h.branch_at;
  last_at = h.last_at;
  encloses = h.encloses;
  begun = h.begun;
  branch = h.branch;
  ends = f h.last_at (subst (λ x. Ends s.levels h.last_at x u) e h.ends);
}

same : (text : List ℕ) (s s' : State) (u u' : List ℕ) → u' ≡ u → s' ≡ s → SoFar text s u → SoFar text s' u'
same text s s' u u' e f h = subst (λ x. SoFar text x u') (sym f) (subst (λ x. SoFar text s x) (sym e) h)

step_by :
    (text : List ℕ) (k : Mark) (s s' : State) (c : ℕ) (t t' : List ℕ)
    → mark_of c ≡ k → SoFar text s (c ∷ t) → ParserStepBy k s c t s' t' → SoFar text s' t'
step_by text m.Escape s s' c t t' o h (d, e, f) =
    subst (λ x. SoFar text x t') (sym f)
    (SoFar-with_atom text s (c ∷ t) t' (single (exactly d)) h
    (subst (λ x. Reads g.atom s.levels (c ∷ x) (single (exactly d)) t') (sym e) (g.escaped o)))
step_by text m.Bracket s s' c t t' o h (a, k, f) =
    subst (λ x. SoFar text x t') (sym f) (SoFar-with_atom text s (c ∷ t) t' (single a) h (g.ranged o k))
step_by text m.Open s s' c t t' o h (n, l, e, f) =
    same text (entered s n) s' t t' e f (SoFar-entered text s n c t h o l)
step_by text m.Close s s' c t t' o h (g, gs, l, e, f) =
    same text (left s g gs) s' t t' e f (SoFar-left text s g gs c t h o l)
step_by text m.Bar s s' c t t' o h (e, f) = same text (barred s) s' t t' e f (SoFar-barred text s c t h o)
step_by text m.Any s s' c t t' o h (e, f) =
    same text (with_atom s (single any)) s' t t' e f (SoFar-with_atom text s (c ∷ t) t (single any) h (g.dotted o))
step_by text m.Start s s' c t t' o h (e, f) =
    same text (with_atom s (single start)) s' t t' e f (SoFar-with_atom text s (c ∷ t) t (single start) h (g.started o))
step_by text m.End s s' c t t' o h (e, f) =
    same text (with_atom s (single end)) s' t t' e f (SoFar-with_atom text s (c ∷ t) t (single end) h (g.ended o))
step_by text m.Star s s' c t t' o h (a, l, e, f) =
    same text (with_piece s (star a)) s' t t' e f
    (SoFar-with_piece text s a (star a) (c ∷ t) t h l (λ w k. g.starred k o))
step_by text m.Plus s s' c t t' o h (a, l, e, f) =
    same text (with_piece s (plus a)) s' t t' e f
    (SoFar-with_piece text s a (plus a) (c ∷ t) t h l (λ w k. g.repeated k o))
step_by text m.Optional s s' c t t' o h (a, l, e, f) =
    same text (with_piece s (optional a)) s' t t' e f
    (SoFar-with_piece text s a (optional a) (c ∷ t) t h l (λ w k. g.optioned k o))
step_by text m.Plain s s' c t t' o h (e, f) =
    same text (with_atom s (single (exactly c))) s' t t' e f
    (SoFar-with_atom text s (c ∷ t) t (single (exactly c)) h (g.plain o))

pub SoFar-step : (text : List ℕ) (s s' : State) (t t' : List ℕ) → SoFar text s t → ParserStep s t s' t'
    → SoFar text s' t'
SoFar-step text s s' [] t' h k = absurd k
SoFar-step text s s' (c ∷ t) t' h k = step_by text (mark_of c) s s' c t t' refl h k

pub SoFar-fresh : (text : List ℕ) → SoFar text (at 64 [] None nothing none) text
SoFar-fresh text =
    record {
      level = text;
      branch_at = text;
      last_at = text;
      encloses = (refl, refl);
      begun = refl;
      branch = g.no_piece;
      ends = refl;
    }

pub SoFar-end : (text : List ℕ) (s : State) → SoFar text s [] → s.outer ≡ []
    → Reads g.pattern 64 text (level_so_far s) []
SoFar-end text s h e =
    let k = subst (λ x. Encloses text s.levels h.level x) e h.encloses in
    subst (λ x. Reads g.pattern x text (level_so_far s) []) k.1
    (subst (λ x. Reads g.pattern s.levels x (level_so_far s) []) k.0 (level_read text s [] h))
