-- What makes paths offers.
use Rattle.std.proofs.Common.{◌≡◌, ◌≢◌, inl, inr, ℕ, ◌<◌, ◌≤◌, true, List, [], ◌∷◌, length, refl, sym, ap, subst, ◌∙◌}
use Rattle.std.proofs.Common.{arith, leb-true, le-leb}
use Rattle.std.specs.Prelude.{nat_le}
use Rattle.std.specs.declared.cmp.Ordering.TheVariants.{Less, Greater}
use Rattle.std.specs.Ordering.{nat_cmp, ordering_reverse, ordering_then}
use Rattle.std.proofs.lemmas.Bool.{cases_lt, and_parts, and_from}
use Rattle.wot_types.specs.declared.fpr.Fpr.{Fpr}
use Rattle.wot_types.specs.Fpr.{fpr_cmp}
use Rattle.wot_types.specs.FprLaws.{fpr_total}
use Rattle.wot_edge.specs.declared.path.Path.{Path}
use Rattle.wot_edge.specs.declared.path.Step.{Step}
use Rattle.wot_edge.specs.Agree.{Agree}
use Rattle.wot_edge.specs.Order.{steps_cmp}
use Rattle.wot_edge.specs.Record.{Has}
use Rattle.wot_edge.specs.Roots.{root_amount}
use Rattle.wot_edge.specs.Path.{Question, Use, start, least_left, step_left, root_left, path_amount, IsOpen, IsNextPath}
use Rattle.wot_edge.specs.Path.{Precedes}
use Rattle.wot_first_path.specs.Looked.{IsLooked}
use Rattle.wot_search.specs.Offers.{IsLater, left_at, is_left, AreOffers, AreNext}
use Rattle.wot_first_path.proofs.Rooted.{widest_quest, valid_suffix}
use Rattle.wot_reach.proofs.Within.{open_within}
use Rattle.wot_first_path.proofs.Local.{root_same, open_there, open_here, open_amount, start_there}
use Rattle.wot_first_path.proofs.PickedRoot.{then_Greater}

-- ---- later uses

pub later_refl : (used : Use) → IsLater used used
later_refl used = record { pair = λ issuer target. omega arith; root = λ fpr. omega arith }

pub later_trans : (a b c : Use) → IsLater a b → IsLater b c → IsLater a c
later_trans a b c m n = record {
  pair = λ issuer target. (let x = m.pair issuer target in let y = n.pair issuer target in omega (arith, x, y));
  root = λ fpr. (let x = m.root fpr in let y = n.root fpr in omega (arith, x, y));
}

least_falls : (used later : Use) → IsLater used later → (m n : ℕ) → n ≤ m → (steps : List Step)
    → least_left later n steps ≤ least_left used m steps
least_falls used later l m n le [] = le
least_falls used later l m n le (step ∷ rest) =
    let a = least_falls used later l m n le rest in
    let b = l.pair step.issuer step.target in
    omega (arith, a, b)

-- a path's amount only falls
amount_falls : (q : Question) (used later : Use) → IsLater used later → (steps : List Step)
    → path_amount q later steps ≤ path_amount q used steps
amount_falls q used later l steps =
    let b = l.root (start q.target steps) in
    least_falls used later l (root_left q used (start q.target steps)) (root_left q later (start q.target steps))
    (omega (arith, b)) steps

open_before : (q : Question) (used later : Use) → IsLater used later → (steps : List Step) → IsOpen q later steps
    → IsOpen q used steps
open_before q used later l steps o =
    (o.0, let a = amount_falls q used later l steps in let b = o.1 in omega (arith, a, b))

-- ---- what is left

left_least : (used : Use) (amount most : ℕ) (steps : List Step) → is_left used amount steps ≡ true → amount ≤ most
    → amount ≤ least_left used most steps
left_least used amount most [] t le = le
left_least used amount most (step ∷ rest) t le =
    let a = and_parts (nat_le amount (step_left used step)) (is_left used amount rest) t in
    let b = leb-true amount (step_left used step) a.0 in
    let c = left_least used amount most rest a.1 le in
    omega (arith, b, c)

least_is_left : (used : Use) (amount most : ℕ) (steps : List Step) → amount ≤ least_left used most steps
    → is_left used amount steps ≡ true
least_is_left used amount most [] le = refl
least_is_left used amount most (step ∷ rest) le =
    and_from (nat_le amount (step_left used step)) (is_left used amount rest)
    (le-leb amount (step_left used step) (omega (arith, le)))
    (least_is_left used amount most rest (omega (arith, le)))

pub least_most : (used : Use) (most : ℕ) (steps : List Step) → least_left used most steps ≤ most
least_most used most [] = omega arith
least_most used most (step ∷ rest) = let a = least_most used most rest in omega (arith, a)

-- ---- the order of roots is the order of their paths

starts_less : (target : Fpr) (a b : List Step) → 1 ≤ length a → 1 ≤ length b
    → fpr_cmp (start target a) (start target b) ≡ Less → steps_cmp b a ≢ Less
starts_less target [] b some more l = absurd (omega (arith, some))
starts_less target (x ∷ a) [] some more l = absurd (omega (arith, more))
starts_less target (x ∷ a) (y ∷ b) some more l = λ less.
    let f : fpr_cmp y.issuer x.issuer ≡ Greater = fpr_total.antisymm y.issuer x.issuer ∙ ap ordering_reverse l in
    let h : steps_cmp (y ∷ b) (x ∷ a) ≡ Greater =
    then_Greater (fpr_cmp y.issuer x.issuer) (ordering_then (fpr_cmp y.target x.target) (nat_cmp y.uid x.uid))
    (steps_cmp b a) f in
    absurd cc

-- ---- the first paths

-- an open path of this many edges and at least this amount
pub record IsOne (q : Question) (used : Use) (n a : ℕ) (path : Path) : Type 0 where
  pub free : IsOpen q used path.steps
  pub long : length path.steps ≡ n
  pub enough : a ≤ path_amount q used path.steps
  pub root : path.root ≡ start q.target path.steps
  pub amount : path.amount ≡ a

-- each path's root is less than those of the paths after it
abbrev pub Ascend : List Path → Type 0
Ascend [] = Unit {0}
Ascend (path ∷ paths) = ((other : Path) → Has paths other → fpr_cmp path.root other.root ≡ Less) × Ascend paths

-- an open path of this many edges and this amount isn't less than one of these from its root
abbrev pub IsMet : Question → Use → ℕ → ℕ → List Path → Type 0
IsMet q used n a paths =
    (other : List Step) → IsOpen q used other → length other ≡ n → a ≤ path_amount q used other
    → (path : Path) × Has paths path × (path.root ≡ start q.target other) × (steps_cmp other path.steps ≢ Less)

-- Of fewest edges and of the greatest amount: of each root from which there is such a path, the least list.
pub record AreFirst (q : Question) (used : Use) (n a : ℕ) (paths : List Path) : Type 0 where
  pub each : (path : Path) → Has paths path → IsOne q used n a path
  pub order : Ascend paths
  pub fewest : (other : List Step) → IsOpen q used other → n ≤ length other
  pub widest : (other : List Step) → IsOpen q used other → length other ≡ n → path_amount q used other ≤ a
  pub met : IsMet q used n a paths

module _ (roots : List (Fpr × ℕ)) (q : Question) (used : Use) (n a : ℕ) (pos : 0 < a)
    (fewest : (other : List Step) → IsOpen q used other → n ≤ length other)
    (widest : (other : List Step) → IsOpen q used other → length other ≡ n → path_amount q used other ≤ a) where
  -- each is such a path, and its root has the amount in the list
  abbrev AreEach : List Path → Type 0
  AreEach paths =
      (path : Path) → Has paths path
      → IsOne q used n a path × (root_amount roots path.root ≡ root_amount q.roots path.root)

  -- what is left of the root that a path has
  left_root : (path : Path) → IsOne q used n a path → root_amount roots path.root ≡ root_amount q.roots path.root
      → (later : Use) → left_at roots later path.root ≡ root_left q later (start q.target path.steps)
  left_root path one same later =
      let e : root_amount roots path.root ≡ root_amount q.roots (start q.target path.steps) =
      same ∙ ap (root_amount q.roots) one.root in
      let f : later.root path.root ≡ later.root (start q.target path.steps) = ap later.root one.root in
      omega (arith, e, f)

  is_next : (path : Path) (paths : List Path) → AreEach (path ∷ paths) → Ascend (path ∷ paths) → (now : Use)
      → IsLater used now → IsMet q now n a (path ∷ paths)
      → (later : Use) → IsLater now later → path.amount ≤ left_at roots later path.root
      → is_left later path.amount path.steps ≡ true → IsNextPath q later path
  is_next path paths each order now past met later l le left =
      record {
        steps = ((one.free.0, omega (arith, pos, enough)), no);
        root = one.root;
        amount = omega (arith, amount, enough, most);
      }
    where
      one : IsOne q used n a path
      one = (each path (inl refl)).0

      amount : path.amount ≡ a
      amount = one.amount

      enough : a ≤ path_amount q later path.steps
      enough =
          let e = left_root path one (each path (inl refl)).1 later in
          let m = left_least later path.amount (root_left q later (start q.target path.steps)) path.steps left
          (omega (arith, le, e)) in
          omega (arith, m, amount)

      most : path_amount q later path.steps ≤ a
      most =
          let m = widest path.steps one.free one.long in
          let f = amount_falls q used later (later_trans used now later past l) path.steps in
          omega (arith, m, f)

      meets : (other : List Step) → (x : Path) → Has (path ∷ paths) x → x.root ≡ start q.target other
          → steps_cmp other x.steps ≢ Less → 1 ≤ length other → steps_cmp other path.steps ≢ Less
      meets other x (inl e) r n some = subst (λ (p : Path). steps_cmp other p.steps ≢ Less) e n
      meets other x (inr h) r n some =
          let less : fpr_cmp (start q.target path.steps) (start q.target other) ≡ Less =
          subst (λ (f : Fpr). fpr_cmp f (start q.target other) ≡ Less) one.root
          (subst (λ (f : Fpr). fpr_cmp path.root f ≡ Less) r (order.0 x h)) in
          starts_less q.target path.steps other one.free.0.some some less

      no : (other : List Step) → IsOpen q later other → Precedes q later other path.steps → ⊥
      no other o (inl lt) =
          let m = fewest other (open_before q used later (later_trans used now later past l) other o) in
          let long = one.long in
          absurd (omega (arith, m, lt, long))
      no other o (inr (e, inl gt)) =
          let b = open_before q used later (later_trans used now later past l) other o in
          let m = widest other b (e ∙ one.long) in
          let f = amount_falls q used later (later_trans used now later past l) other in
          let en = enough in
          absurd (omega (arith, m, f, gt, en))
      no other o (inr (e, inr (same, less))) =
          let f = amount_falls q now later l other in
          let en = enough in
          let x = met other (open_before q now later l other o) (e ∙ one.long) (omega (arith, f, en, same)) in
          meets other x.0 x.1 x.2 x.3 o.0.some less

  offers_from : (paths : List Path) → AreEach paths → Ascend paths → (now : Use) → IsLater used now
      → IsMet q now n a paths → AreOffers roots q now paths
  offers_from [] each order now past met = tt
  offers_from (path ∷ paths) each order now past met = (
    λ later l le left. is_next path paths each order now past met later l le left,
    λ later l lt. offers_from paths (λ x h. each x (inr h)) order.1 later (later_trans used now later past l)
        (λ other o long enough.
        let f = amount_falls q now later l other in
        let x = met other (open_before q now later l other o) long (omega (arith, f, enough)) in
        rest later lt other enough x.0 x.1 x.2 x.3),
  )
    where
      rest : (later : Use) → left_at roots later path.root < path.amount → (other : List Step)
          → a ≤ path_amount q later other → (x : Path) → Has (path ∷ paths) x → x.root ≡ start q.target other
          → steps_cmp other x.steps ≢ Less
          → (y : Path) × Has paths y × (y.root ≡ start q.target other) × (steps_cmp other y.steps ≢ Less)
      rest later lt other enough x (inr h) r n = (x, h, r, n)
      rest later lt other enough x (inl e) r n =
          let one = each path (inl refl) in
          let amount = one.0.amount in
          let same : root_left q later (start q.target other) ≡ left_at roots later path.root =
          ap (root_left q later) (sym r ∙ ap (λ (p : Path). p.root) e ∙ one.0.root)
          ∙ sym (left_root path one.0 one.1 later) in
          let m = least_most later (root_left q later (start q.target other)) other in
          absurd (omega (arith, lt, enough, amount, same, m))

-- The first paths are offers, and the first of them is the next path.
pub first_offers : (roots : List (Fpr × ℕ)) (q : Question) (used : Use) (n a : ℕ) (path : Path) (paths : List Path)
    → 0 < a → AreFirst q used n a (path ∷ paths)
    → ((x : Path) → Has (path ∷ paths) x → root_amount roots x.root ≡ root_amount q.roots x.root)
    → AreNext roots q used (path ∷ paths)
first_offers roots q used n a path paths pos f same =
    let offers = offers_from roots q used n a pos f.fewest f.widest (path ∷ paths) (λ x h. (f.each x h, same x h))
    f.order used (later_refl used) f.met in
    let one = f.each path (inl refl) in
    let amount = one.amount in
    let enough = one.enough in
    let e = left_root roots q used n a pos f.fewest f.widest path one (same path (inl refl)) used in
    let m = least_most used (root_left q used (start q.target path.steps)) path.steps in (
      offers.0 used (later_refl used) (omega (arith, amount, enough, e, m))
          (least_is_left used path.amount (root_left q used (start q.target path.steps)) path.steps
          (omega (arith, amount, enough))),
      offers,
    )

-- ---- questions that agree

module _ (reach : Fpr → ℕ) (all : (fpr : Fpr) → reach fpr ≡ 255) (q other : Question) (used : Use) (n a : ℕ)
    (set : List Fpr) (agree : Agree q other set) (looked : IsLooked (widest_quest reach q used) n (Has set)) where
  one_there : (path : Path) → IsOne q used n a path → IsOne other used n a path
  one_there path one =
      let long = one.long in
      let le : length path.steps ≤ n = omega (arith, long) in
      let e = open_amount reach all q other used n set agree looked path.steps le one.free in
      let enough = one.enough in
      record {
        free = open_there reach all q other used n set agree looked path.steps le one.free;
        long = one.long;
        enough = omega (arith, enough, e);
        root = one.root ∙ start_there reach all q other used n set agree looked path.steps one.free.0.some;
        amount = one.amount;
      }

  -- the first paths of one are those of the other
  pub first_there : (paths : List Path) → AreFirst q used n a paths → AreFirst other used n a paths
  first_there paths f = record {
    each = λ path h. one_there path (f.each path h);
    order = f.order;
    fewest = λ steps o. elim (cases_lt (length steps) n) [
      | inl lt ↦ f.fewest steps (open_here reach all q other used n set agree looked steps (omega (arith, lt)) o)
      | inr le ↦ le
    ];
    widest = λ steps o long.
        let h = open_here reach all q other used n set agree looked steps (omega (arith, long)) o in
        let e = open_amount reach all q other used n set agree looked steps (omega (arith, long)) h in
        let m = f.widest steps h long in
        omega (arith, e, m);
    met = λ steps o long enough.
        let h = open_here reach all q other used n set agree looked steps (omega (arith, long)) o in
        let e = open_amount reach all q other used n set agree looked steps (omega (arith, long)) h in
        let x = f.met steps h long (omega (arith, e, enough)) in
        (x.0, x.1, x.2 ∙ start_there reach all q other used n set agree looked steps o.0.some, x.3);
  }

  -- their roots have the same amounts
  pub roots_there : (paths : List Path) → AreFirst q used n a paths → (path : Path) → Has paths path
      → root_amount q.roots path.root ≡ root_amount other.roots path.root
  roots_there paths f path h =
      let one = f.each path h in
      let long = one.long in
      let t = valid_suffix reach q used (open_within reach all q used) path.steps one.free in
      let e = root_same reach all q other used n set agree looked path.steps one.free.0.some (omega (arith, long)) t in
      ap (root_amount q.roots) one.root ∙ e
      ∙ ap (root_amount other.roots)
      (sym (one.root ∙ start_there reach all q other used n set agree looked path.steps one.free.0.some))
