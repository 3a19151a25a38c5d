-- The paths that claims show.
use Rattle.std.proofs.Common.{◌≡◌, ◌⊎◌, inl, inr, ℕ, suc, ◌+◌, ◌*◌, ◌<◌, ◌≤◌, true, List, [], ◌∷◌, ◌++◌, length, map}
use Rattle.std.proofs.Common.{Some, None, refl, sym, ap, subst, ◌∙◌, arith, append_assoc}
use Rattle.std.proofs.lemmas.List.{append-nil}
use Rattle.wot_types.specs.declared.fpr.Fpr.{Fpr}
use Rattle.wot_edge.specs.declared.path.Path.{Path}
use Rattle.wot_edge.specs.declared.path.Step.{Step}
use Rattle.wot_edge.specs.Record.{Has, IsRecord}
use Rattle.wot_edge.specs.Path.{Question, Use, use_of, Distinct, issuers, start, path_amount, root_left}
use Rattle.wot_edge.specs.Sums.{Sums, use_in}
use Rattle.wot_check.specs.declared.claimed.ClaimedStep.{ClaimedStep}
use Rattle.wot_check.specs.Absence.{is_in_order}
use Rattle.wot_check.specs.Claim.{Claim, claimed_step, Shows, EachShows, AreGood}
use Rattle.wot_check.specs.Trace.{Traces, IsShown}
use Rattle.wot_check.specs.Using.{AreBelow}
use Rattle.wot_check.proofs.Sums.{below_push}
use Rattle.wot_check.proofs.Trails.{Trail, chain_trail, trail_chain, least_most}
use Rattle.wot_check.proofs.ClaimedSteps.{traces_one, traces_steps, traces_trail, trail_traces}

pub no_issuers : (steps : List Step) (fpr : Fpr) → length steps ≡ 0 → Has (issuers steps) fpr → ⊥
no_issuers [] fpr e h = h
no_issuers (x ∷ steps) fpr e h = omega (arith, e)

pub none_distinct : (steps : List Step) → length steps ≡ 0 → Distinct (issuers steps)
none_distinct [] e = tt
none_distinct (x ∷ steps) e = absurd (omega (arith, e))

pub none_is : {X : Type 0} (xs : List X) → length xs ≡ 0 → xs ≡ []
none_is {X} [] e = refl
none_is {X} (x ∷ xs) e = absurd (omega (arith, e))

module _ (q : Question) (used : Use) where
  shows_trail : (claim : Claim) (path : Path) → Shows q used claim path → Trail q used path.steps
  shows_trail claim path s =
      let e = s.amount in let p = s.positive in
      chain_trail q used (root_left q used (start q.target path.steps)) path.steps s.valid.chain (omega (arith, e, p))

  -- the steps of a path that is shown are the claimed ones
  pub shows_traces : (claim : Claim) (path : Path) → Shows q used claim path → Traces q used claim.steps path.steps
  shows_traces claim path s =
      subst (λ (c : Claim). Traces q used c.steps path.steps) (sym s.same)
      (trail_traces q used path.steps (shows_trail claim path s))

  pub shows_one : IsRecord q.network → (claim : Claim) (a b : Path) → Shows q used claim a → Shows q used claim b → a ≡ b
  shows_one good claim a b s t =
      let steps : a.steps ≡ b.steps =
      traces_one q used good claim.steps a.steps b.steps (shows_traces claim a s) (shows_traces claim b t) in
      let root : a.root ≡ b.root = s.root ∙ ap (start q.target) steps ∙ sym t.root in
      let amount : a.amount ≡ b.amount = ap (λ (c : Claim). c.amount) (sym s.same ∙ t.same) in
      λ i. record { amount = amount i; root = root i; steps = steps i }

  -- a claim without steps, or with too many, shows nothing
  steps_long : (path : Path) → length (map claimed_step path.steps) ≡ length path.steps
  steps_long path = by path.steps
    where
      by : (steps : List Step) → length (map claimed_step steps) ≡ length steps
      by [] = refl
      by (x ∷ steps) = ap suc (by steps)

  pub none_shown : (claim : Claim) → (length claim.steps ≡ 0) ⊎ (255 < length claim.steps) → IsShown q used claim None
  none_shown claim o path s =
      let e : length claim.steps ≡ length path.steps = ap (λ (c : Claim). length c.steps) s.same ∙ steps_long path in
      let some = s.valid.some in
      let few = s.valid.few in
      elim o [ inl z ↦ omega (arith, e, z, some) | inr lt ↦ omega (arith, e, lt, few) ]

  pub untraced : (claim : Claim) → ((steps : List Step) → Traces q used claim.steps steps → ⊥)
      → IsShown q used claim None
  untraced claim none path s = none path.steps (shows_traces claim path s)

  -- ---- from traced steps

  module _ (good : IsRecord q.network) (items : List ClaimedStep) (steps : List Step) (t : Traces q used items steps)
      (amount : ℕ) where
    abbrev stated : Claim
    stated = record { amount = amount; steps = items }

    same_steps : (path : Path) → Shows q used stated path → path.steps ≡ steps
    same_steps path s = traces_one q used good items path.steps steps (shows_traces stated path s) t

    same_amount : (path : Path) → Shows q used stated path → amount ≡ path.amount
    same_amount path s = ap (λ (c : Claim). c.amount) s.same

    left_is : (path : Path) → Shows q used stated path → path.amount ≡ path_amount q used steps
    left_is path s = s.amount ∙ ap (path_amount q used) (same_steps path s)

    pub no_steps : steps ≡ [] → IsShown q used stated None
    no_steps e path s =
        let some = s.valid.some in let l : length path.steps ≡ 0 = ap length (same_steps path s ∙ e) in
        omega (arith, some, l)

    pub nothing_left : path_amount q used steps ≡ 0 → IsShown q used stated None
    nothing_left e path s = let l = left_is path s in let p = s.positive in omega (arith, l, p, e)

    pub other_amount : (path_amount q used steps ≡ amount → ⊥) → IsShown q used stated None
    other_amount n path s = n (sym (left_is path s) ∙ sym (same_amount path s))

    pub twice : (Distinct (issuers steps) → ⊥) → IsShown q used stated None
    twice n path s = n (subst (λ (xs : List Step). Distinct (issuers xs)) (same_steps path s) s.valid.distinct)

    pub shown : is_in_order q ≡ true → 1 ≤ length steps → length steps ≤ 255 → Distinct (issuers steps)
        → path_amount q used steps ≡ amount → 0 < amount
        → (root : Fpr) → root ≡ start q.target steps
        → IsShown q used stated (Some (record { amount = amount; root = root; steps = steps }))
    shown ok some few distinct left pos root e = record {
      same = λ i. record { amount = amount; steps = traces_steps q used items steps t i };
      valid = record {
        some = some;
        few = few;
        chain = trail_chain q used steps (traces_trail q used items steps t);
        distinct = distinct;
        root = let le = least_most used (root_left q used (start q.target steps)) steps in omega (arith, le, left, pos);
        in_order = ok;
      };
      root = e;
      amount = sym left;
      positive = pos;
    }

-- ---- claim after claim

-- these paths were shown and are used, and the claims are still to be gone through
pub record Shown (q : Question) (sums : Sums) (claims : List Claim) (paths : List Path) (rest : List Claim) : Type 0
  where
    pub goes : (more : List Path) → EachShows q paths rest more → EachShows q [] claims (paths ++ more)
    pub only : (all : List Path) → EachShows q [] claims all
        → (more : List Path) × (all ≡ paths ++ more) × EachShows q paths rest more
    pub used : use_in sums ≡ use_of paths
    pub below : AreBelow (255 * length paths) sums
    pub count : length paths + length rest ≡ length claims

-- these paths were shown and are used, for some paths
pub record SomeShown (q : Question) (sums : Sums) (claims : List Claim) (rest : List Claim) : Type 0 where
  pub paths : List Path
  pub shown : Shown q sums claims paths rest

module _ (q : Question) (good : IsRecord q.network) where
  pub each_shows_one : (earlier : List Path) (claims : List Claim) (a b : List Path) → EachShows q earlier claims a
      → EachShows q earlier claims b → a ≡ b
  each_shows_one earlier [] [] [] s t = refl
  each_shows_one earlier [] [] (y ∷ b) s t = absurd t
  each_shows_one earlier [] (x ∷ a) b s t = absurd s
  each_shows_one earlier (claim ∷ claims) [] b s t = absurd s
  each_shows_one earlier (claim ∷ claims) (x ∷ a) [] s t = absurd t
  each_shows_one earlier (claim ∷ claims) (x ∷ a) (y ∷ b) s t =
      let first : x ≡ y = shows_one q (use_of earlier) good claim x y s.0 t.0 in
      let rest : a ≡ b =
      each_shows_one (earlier ++ y ∷ []) claims a b
      (subst (λ (p : Path). EachShows q (earlier ++ p ∷ []) claims a) first s.1) t.1 in
      ap (λ (p : Path). p ∷ a) first ∙ ap (λ (ps : List Path). y ∷ ps) rest

  pub shown_none : (sums : Sums) (claims : List Claim) → use_in sums ≡ use_of [] → AreBelow 0 sums
      → Shown q sums claims [] claims
  shown_none sums claims u b = record {
    goes = λ more t. t;
    only = λ all t. (all, refl, t);
    used = u;
    below = b;
    count = omega arith;
  }

  first_shows : (earlier : List Path) (claim : Claim) (claims : List Claim) (paths : List Path)
      → EachShows q earlier (claim ∷ claims) paths
      → (path : Path) × (rest : List Path) × (paths ≡ path ∷ rest) × Shows q (use_of earlier) claim path
      × EachShows q (earlier ++ path ∷ []) claims rest
  first_shows earlier claim claims [] s = absurd s
  first_shows earlier claim claims (x ∷ rest) s = (x, rest, refl, s.0, s.1)

  push_length : (xs : List Path) (x : Path) → length (xs ++ x ∷ []) ≡ length xs + 1
  push_length [] x = refl
  push_length (y ∷ xs) x = let e = push_length xs x in omega (arith, e)

  pub shown_more : (old new : Sums) (claims : List Claim) (paths : List Path) (rest later : List Claim) (claim : Claim)
      (path : Path) → rest ≡ claim ∷ later
      → Shown q old claims paths rest → Shows q (use_in old) claim path → use_in new ≡ use_of (paths ++ path ∷ [])
      → AreBelow (255 * length paths + 255) new → Shown q new claims (paths ++ path ∷ []) later
  shown_more old new claims paths rest later claim path e s shows u b = record {
    goes = λ ps t. subst (λ (xs : List Path). EachShows q [] claims xs) (sym (append_assoc paths (path ∷ []) ps))
        (s.goes (path ∷ ps) (subst (λ (cs : List Claim). EachShows q paths cs (path ∷ ps)) (sym e) (shows', t)));
    only = λ all t.
        let o = s.only all t in
        let f = first_shows paths claim later o.0 (subst (λ (cs : List Claim). EachShows q paths cs o.0) e o.2) in
        let same : f.0 ≡ path = shows_one q (use_of paths) good claim f.0 path f.3 shows' in (
          f.1,
          o.1 ∙ ap (λ (ps : List Path). paths ++ ps) (f.2 ∙ ap (λ (p : Path). p ∷ f.1) same)
              ∙ sym (append_assoc paths (path ∷ []) f.1),
          subst (λ (p : Path). EachShows q (paths ++ p ∷ []) later f.1) same f.4,
        );
    used = u;
    below = below_push new paths path b;
    count = let l =
        push_length paths path in let c =
        s.count in let r : length rest ≡ length (claim ∷ later) = ap length e in omega (arith, l, c, r);
  }
    where
      shows' : Shows q (use_of paths) claim path
      shows' = subst (λ (x : Use). Shows q x claim path) s.used shows

  pub shown_stop : (sums : Sums) (claims : List Claim) (paths : List Path) (rest later : List Claim) (claim : Claim)
      → rest ≡ claim ∷ later → Shown q sums claims paths rest → IsShown q (use_in sums) claim None → AreGood q claims
      → ⊥
  shown_stop sums claims paths rest later claim e s none g =
      let o = s.only g.0 g.1 in
      let f = first_shows paths claim later o.0 (subst (λ (cs : List Claim). EachShows q paths cs o.0) e o.2) in
      none f.0 (subst (λ (x : Use). Shows q x claim f.0) (sym s.used) f.3)

  pub shown_end : (sums : Sums) (claims : List Claim) (paths : List Path) (rest : List Claim) → length rest ≡ 0
      → Shown q sums claims paths rest → EachShows q [] claims paths
  shown_end sums claims paths [] e s =
      subst (λ (ps : List Path). EachShows q [] claims ps) (append-nil paths) (s.goes [] tt)
  shown_end sums claims paths (c ∷ rest) e s = absurd (omega (arith, e))
