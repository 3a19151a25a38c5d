-- Lists of bindings, joined.
use Rattle.std.proofs.Common.{◌≡◌, ◌≤◌, ℕ, Bool, true, false, cond, List, [], ◌∷◌, ◌++◌, length, map, arith, refl, sym}
use Rattle.std.proofs.Common.{ap, subst, ◌∙◌, append_assoc, append-nil}
use Rattle.std.specs.Prelude.{filter, if◌then◌else◌, nat_le}
use Rattle.std.specs.List.{AllByRecursion}
use Rattle.wot_types.specs.PlainLaws.{all_then}
use Rattle.wot_types.specs.declared.fpr.Fpr.{Fpr}
use Rattle.wot_component.specs.Certificate.{Component, Certificate}
use Rattle.wot_edge.specs.Answer.{IsAnswer, amount_of}
use Rattle.wot_edge.specs.Path.{Question, asks}
use Rattle.wot_edge.specs.declared.path.Path.{Path}
use Rattle.wot_edge.specs.Record.{IsRecord, Record}
use Rattle.wot_keyring_spec.specs.declared.kept.Kept.{Kept}
use Rattle.wot_keyring_spec.specs.Keyring.{Entries, stripped}
use Rattle.wot_keyring_spec.specs.Kept.{AreNamed}
use Rattle.wot_explain.specs.declared.bind.Bind.{Bind}
use Rattle.wot_explain.specs.Listing.{Pair, pair_in, pair_of, pairs_in, pairs_of, pairs_of_all, IsListed, IsTheList}
use Rattle.wot_explain.specs.Listing.{AddsListed, IsSummed, is_authenticated_to}

-- ---- pair by pair

-- the list with the binding in front, if its sum reaches the wanted amount
abbrev pub with_bind : ℕ → Pair → ℕ → List Bind → List Bind
with_bind wanted pair sum binds =
    if nat_le wanted sum then record { sum = sum; fpr = pair.0; uid = pair.1 } ∷ binds else binds

-- an answer for the first pair, then the list of the others
pub record IsWithFirst (q : Question) (wanted : ℕ) (pair : Pair) (Others : List Bind → Type 0) (binds : List Bind)
    : Type 0 where
  pub paths : List Path
  pub others : List Bind
  pub answer : IsAnswer q wanted paths
  pub listed : Others others
  pub whole : binds ≡ with_bind wanted pair (amount_of paths) others

-- the list, as a walk over the pairs makes it
abbrev pub IsWalked : (List ℕ → Record) → List (Fpr × ℕ) → ℕ → List Pair → List Bind → Type 0
IsWalked network roots wanted [] binds = binds ≡ []
IsWalked network roots wanted (pair ∷ pairs) binds =
    IsWithFirst (asks (network pair.1) roots pair.0) wanted pair (IsWalked network roots wanted pairs) binds

module _ (network : List ℕ → Record) (roots : List (Fpr × ℕ)) (wanted : ℕ) where
  walked_sums : (sums : List Bind) → AllByRecursion (IsSummed network roots wanted) sums →
      IsWalked network roots wanted (map pair_in sums) (filter (is_authenticated_to wanted) sums)
  walked_sums [] h = refl
  walked_sums (bind ∷ sums) h = record {
    paths = h.0.0;
    others = filter (is_authenticated_to wanted) sums;
    answer = h.0.1;
    listed = walked_sums sums h.1;
    whole = ap (λ (sum : ℕ). with_bind wanted (pair_in bind) sum (filter (is_authenticated_to wanted) sums)) h.0.2;
  }

  pub walked : (pairs : List Pair) (binds : List Bind) → IsListed network roots wanted pairs binds →
      IsWalked network roots wanted pairs binds
  walked pairs binds h =
      subst (λ (ps : List Pair). IsWalked network roots wanted ps binds) h.each
      (subst (λ (bs : List Bind). IsWalked network roots wanted (map pair_in h.sums) bs) (sym h.chosen)
      (walked_sums h.sums h.summed))

  pub listed_by : (pairs : List Pair) (binds : List Bind) → IsWalked network roots wanted pairs binds →
      IsListed network roots wanted pairs binds
  listed_by [] binds h = record { sums = []; each = refl; summed = tt; chosen = h }
  listed_by (pair ∷ pairs) binds h =
      let rest = listed_by pairs h.others h.listed in record {
        sums = record { sum = amount_of h.paths; fpr = pair.0; uid = pair.1 } ∷ rest.sums;
        each = ap (λ (ps : List Pair). pair ∷ ps) rest.each;
        summed = ((h.paths, h.answer, refl), rest.summed);
        chosen = h.whole ∙ ap (with_bind wanted pair (amount_of h.paths)) rest.chosen;
      }

with_more : (wanted : ℕ) (pair : Pair) (sum : ℕ) (xs ys : List Bind) →
    with_bind wanted pair sum xs ++ ys ≡ with_bind wanted pair sum (xs ++ ys)
with_more wanted pair sum xs ys = by (nat_le wanted sum)
  where
    by : (b : Bool) → cond b (record { sum = sum; fpr = pair.0; uid = pair.1 } ∷ xs) xs ++ ys ≡ cond b
        (record { sum = sum; fpr = pair.0; uid = pair.1 } ∷ xs ++ ys) (xs ++ ys)
    by true = refl
    by false = refl

module _ (network : List ℕ → Record) (roots : List (Fpr × ℕ)) (wanted : ℕ) where
  joined_walks : (xs ys : List Pair) (a b : List Bind) → IsWalked network roots wanted xs a →
      IsWalked network roots wanted ys b → IsWalked network roots wanted (xs ++ ys) (a ++ b)
  joined_walks [] ys a b h g = subst (λ (front : List Bind). IsWalked network roots wanted ys (front ++ b)) (sym h) g
  joined_walks (x ∷ xs) ys a b h g = record {
    paths = h.paths;
    others = h.others ++ b;
    answer = h.answer;
    listed = joined_walks xs ys h.others b h.listed g;
    whole = ap (λ (front : List Bind). front ++ b) h.whole ∙ with_more wanted x (amount_of h.paths) h.others b;
  }

  pub joined : (xs ys : List Pair) (a b : List Bind) → IsListed network roots wanted xs a →
      IsListed network roots wanted ys b → IsListed network roots wanted (xs ++ ys) (a ++ b)
  joined xs ys a b h g =
      listed_by network roots wanted (xs ++ ys) (a ++ b) (joined_walks xs ys a b (walked network roots wanted xs a h)
      (walked network roots wanted ys b g))

  split_walk : (xs ys : List Pair) (binds : List Bind) → IsWalked network roots wanted (xs ++ ys) binds
      → (a : List Bind) × (b : List Bind) × IsWalked network roots wanted xs a × IsWalked network roots wanted ys
      b × (binds ≡ a ++ b)
  split_walk [] ys binds h = ([], binds, refl, h, refl)
  split_walk (x ∷ xs) ys binds h =
      let rest = split_walk xs ys h.others h.listed in
      let a = with_bind wanted x (amount_of h.paths) rest.0 in (
        a,
        rest.1,
        record { paths = h.paths; others = rest.0; answer = h.answer; listed = rest.2; whole = refl },
        rest.3,
        h.whole ∙ ap (with_bind wanted x (amount_of h.paths)) rest.4
            ∙ sym (with_more wanted x (amount_of h.paths) rest.0 rest.1),
      )

  -- the list of joined pairs is two lists
  pub split : (xs ys : List Pair) (binds : List Bind) → IsListed network roots wanted (xs ++ ys) binds
      → (a : List Bind) × (b : List Bind) × IsListed network roots wanted xs a × IsListed network roots wanted ys
      b × (binds ≡ a ++ b)
  split xs ys binds h =
      let s = split_walk xs ys binds (walked network roots wanted (xs ++ ys) binds h) in
      (s.0, s.1, listed_by network roots wanted xs s.0 s.2, listed_by network roots wanted ys s.1 s.3, s.4)

  joined_one : (xs ys : List Pair) (a b : List Bind) → IsTheList network roots wanted xs a →
      IsTheList network roots wanted ys b → IsTheList network roots wanted (xs ++ ys) (a ++ b)
  joined_one xs ys a b h g = record {
    listed = joined xs ys a b h.listed g.listed;
    one = λ others l.
        let s = split xs ys others l in
        s.4 ∙ ap (λ (front : List Bind). front ++ s.1) (h.one s.0 s.2) ∙ ap (λ (bs : List Bind). a ++ bs)
        (g.one s.1 s.3);
  }

  pub joined_adds : (xs ys : List Pair) (old mid new : List Bind) → AddsListed network roots wanted xs old mid →
      AddsListed network roots wanted ys mid new → AddsListed network roots wanted (xs ++ ys) old new
  joined_adds xs ys old mid new h g = (
    h.0 ++ g.0,
    joined_one xs ys h.0 g.0 h.1 g.1,
    g.2 ∙ ap (λ (m : List Bind). m ++ g.0) h.2
        ∙ append_assoc old h.0 g.0,
  )

  pub none_added : (out : List Bind) → AddsListed network roots wanted [] out out
  none_added out = (
    [],
    record { listed = listed_by network roots wanted [] [] refl; one = λ others h. walked network roots wanted [] others h },
    sym (append-nil out),
  )

  -- the list of one pair
  pub one_added : (pair : Pair) (paths : List Path) (old new : List Bind) →
      IsAnswer (asks (network pair.1) roots pair.0) wanted paths
      → ((others : List Path) → IsAnswer (asks (network pair.1) roots pair.0) wanted others → others ≡ paths)
      → new ≡ old ++ with_bind wanted pair (amount_of paths) [] → AddsListed network roots wanted (pair ∷ []) old new
  one_added pair paths old new h one e = (
    with_bind wanted pair (amount_of paths) [],
    record {
      listed = listed_by network roots wanted (pair ∷ []) (with_bind wanted pair (amount_of paths) []) (record {
        paths = paths;
        others = [];
        answer = h;
        listed = refl;
        whole = refl;
      });
      one = λ others l.
          let w = walked network roots wanted (pair ∷ []) others l in
          w.whole
          ∙ ap (λ (ps : List Path). with_bind wanted pair (amount_of ps) w.others) (one w.paths w.answer)
          ∙ ap (λ (bs : List Bind). with_bind wanted pair (amount_of paths) bs) w.listed;
    },
    e,
  )

  -- ---- loops

  pub one_more : (fpr : Fpr) (uid : Component) (others rest : List Component) (body : List ℕ) (old mid new : List Bind)
      → rest ≡ uid ∷ others → body ≡ uid.body
      → AddsListed network roots wanted ((fpr, body) ∷ []) old mid →
      AddsListed network roots wanted (map (pair_of fpr) others) mid new →
      AddsListed network roots wanted (map (pair_of fpr) rest) old new
  one_more fpr uid others rest body old mid new e f h g =
      subst (λ (ps : List Component). AddsListed network roots wanted (map (pair_of fpr) ps) old new) (sym e)
      (joined_adds ((fpr, uid.body) ∷ []) (map (pair_of fpr) others) old mid new
      (subst (λ (b : List ℕ). AddsListed network roots wanted ((fpr, b) ∷ []) old mid) f h) g)

  pub none_more : (fpr : Fpr) (rest : List Component) (out : List Bind) → length rest ≡ 0 →
      AddsListed network roots wanted (map (pair_of fpr) rest) out out
  none_more fpr [] out e = none_added out
  none_more fpr (uid ∷ uids) out e = absurd (omega arith)

  pub one_cert : (c : Certificate) (others rest : List Certificate) (old mid new : List Bind) → rest ≡ c ∷ others
      → AddsListed network roots wanted (pairs_of c) old mid → AddsListed network roots wanted (pairs_of_all others) mid new →
      AddsListed network roots wanted (pairs_of_all rest) old new
  one_cert c others rest old mid new e h g =
      subst (λ (cs : List Certificate). AddsListed network roots wanted (pairs_of_all cs) old new) (sym e)
      (joined_adds (pairs_of c) (pairs_of_all others) old mid new h g)

-- roads with equal records have equal lists
pub listed_same : (network other : List ℕ → Record) (roots : List (Fpr × ℕ)) (wanted : ℕ) →
    ((u : List ℕ) → network u ≡ other u) → (pairs : List Pair) (binds : List Bind) →
    IsListed network roots wanted pairs binds → IsListed other roots wanted pairs binds
listed_same network other roots wanted e pairs binds h = record {
  sums = h.sums;
  each = h.each;
  summed = all_then (IsSummed network roots wanted) (IsSummed other roots wanted)
      (λ bind s. (s.0, subst (λ (r : Record). IsAnswer (asks r roots bind.fpr) wanted s.0) (e bind.uid) s.1, s.2))
      h.sums h.summed;
  chosen = h.chosen;
}

pub the_list_same : (network other : List ℕ → Record) (roots : List (Fpr × ℕ)) (wanted : ℕ) →
    ((u : List ℕ) → network u ≡ other u) → (pairs : List Pair) (binds : List Bind) →
    IsTheList network roots wanted pairs binds → IsTheList other roots wanted pairs binds
the_list_same network other roots wanted e pairs binds h = record {
  listed = listed_same network other roots wanted e pairs binds h.listed;
  one = λ others l. h.one others (listed_same other network roots wanted (λ u. sym (e u)) pairs others l);
}

-- what was appended to nothing is the list
pub listed_here : (network : List ℕ → Record) (roots : List (Fpr × ℕ)) (wanted : ℕ) (xs ys : List Pair)
    (old new : List Bind) → xs ≡ ys → old ≡ [] → AddsListed network roots wanted xs old new →
    IsTheList network roots wanted ys new
listed_here network roots wanted xs ys old new e f h =
    let here : h.0 ≡ new = sym (h.2 ∙ ap (λ (bs : List Bind). bs ++ h.0) f) in
    subst (λ (bs : List Bind). IsTheList network roots wanted ys bs) here
    (subst (λ (ps : List Pair). IsTheList network roots wanted ps h.0) e h.1)

-- Certificates are under their own fingerprints.
pub pairs_named : (entries : Entries) → AreNamed entries →
    pairs_of_all (map (λ (e : Fpr × Kept). e.1.cert) entries) ≡ pairs_in (stripped entries)
pairs_named [] h = refl
pairs_named (e ∷ entries) h =
    ap (λ (f : Fpr). map (pair_of f) e.1.cert.user_ids ++ pairs_of_all (map (λ (e : Fpr × Kept). e.1.cert) entries))
    (sym h.0)
    ∙ ap (λ (ps : List Pair). map (pair_of e.0) e.1.cert.user_ids ++ ps) (pairs_named entries h.1)

-- ---- one list

some_walk : ((q : Question) (wanted : ℕ) → 1 ≤ wanted → (paths : List Path) × IsAnswer q wanted paths)
    → (network : List ℕ → Record) (roots : List (Fpr × ℕ)) (wanted : ℕ) (pairs : List Pair) → 1 ≤ wanted →
    (binds : List Bind) × IsWalked network roots wanted pairs binds
some_walk answer network roots wanted [] h = ([], refl)
some_walk answer network roots wanted (pair ∷ pairs) h =
    let a = answer (asks (network pair.1) roots pair.0) wanted h in
    let rest = some_walk answer network roots wanted pairs h in (
      with_bind wanted pair (amount_of a.0) rest.0,
      record { paths = a.0; others = rest.0; answer = a.1; listed = rest.1; whole = refl },
    )

pub listed_some : ((q : Question) (wanted : ℕ) → 1 ≤ wanted → (paths : List Path) × IsAnswer q wanted paths)
    → (network : List ℕ → Record) (roots : List (Fpr × ℕ)) (wanted : ℕ) (pairs : List Pair) → 1 ≤ wanted →
    (binds : List Bind) × IsListed network roots wanted pairs binds
listed_some answer network roots wanted pairs h =
    let walk = some_walk answer network roots wanted pairs h in
    (walk.0, listed_by network roots wanted pairs walk.0 walk.1)

one_walk : ((q : Question) (wanted : ℕ) (a b : List Path) → IsRecord q.network → IsAnswer q wanted a →
    IsAnswer q wanted b → a ≡ b)
    → (network : List ℕ → Record) (roots : List (Fpr × ℕ)) (wanted : ℕ) (pairs : List Pair) (a b : List Bind) →
    ((u : List ℕ) → IsRecord (network u)) → IsWalked network roots wanted pairs a → IsWalked network roots wanted pairs b →
    a ≡ b
one_walk answer network roots wanted [] a b lawful h g = h ∙ sym g
one_walk answer network roots wanted (pair ∷ pairs) a b lawful h g =
    let paths = answer (asks (network pair.1) roots pair.0) wanted h.paths g.paths (lawful pair.1) h.answer g.answer in
    let others = one_walk answer network roots wanted pairs h.others g.others lawful h.listed g.listed in
    h.whole
    ∙ ap (λ (ps : List Path). with_bind wanted pair (amount_of ps) h.others) paths
    ∙ ap (λ (bs : List Bind). with_bind wanted pair (amount_of g.paths) bs) others
    ∙ sym g.whole

pub listed_one : ((q : Question) (wanted : ℕ) (a b : List Path) → IsRecord q.network → IsAnswer q wanted a →
    IsAnswer q wanted b → a ≡ b)
    → (network : List ℕ → Record) (roots : List (Fpr × ℕ)) (wanted : ℕ) (pairs : List Pair) (a b : List Bind) →
    ((u : List ℕ) → IsRecord (network u)) → IsListed network roots wanted pairs a → IsListed network roots wanted pairs b →
    a ≡ b
listed_one answer network roots wanted pairs a b lawful h g =
    one_walk answer network roots wanted pairs a b lawful (walked network roots wanted pairs a h)
    (walked network roots wanted pairs b g)
