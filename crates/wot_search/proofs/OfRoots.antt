-- What a search for the least lists finds of each root.
use Rattle.std.proofs.Common.{◌≡◌, ◌≢◌, ◌⊎◌, inl, inr, ℕ, ◌<◌, ◌≤◌, Bool, true, false, cond, List, [], ◌∷◌, ◌++◌}
use Rattle.std.proofs.Common.{length, Option, Some, None, refl, sym, ap, subst, ◌∙◌, arith, append_assoc}
use Rattle.std.specs.declared.cmp.Ordering.TheVariants.{Less}
use Rattle.std.specs.Option.{unwrap_or}
use Rattle.std.specs.BTreeMap.{is_at}
use Rattle.std.specs.List.{AllByRecursion}
use Rattle.std.specs.List.Sorted.{IsStrictlySortedBy}
use Rattle.std.specs.Map.{lookup, keys_of}
use Rattle.std.proofs.lemmas.Bool.{cases_lt}
use Rattle.std.proofs.lemmas.List.{append-nil}
use Rattle.std.proofs.lemmas.Map.Keys.{sorted_head, sorted_tail}
use Rattle.wot_types.specs.declared.fpr.Fpr.{Fpr}
use Rattle.wot_types.specs.Fpr.{fpr_cmp, same_fpr}
use Rattle.wot_types.specs.FprLaws.{same_fpr-true}
use Rattle.wot_edge.specs.declared.path.Path.{Path}
use Rattle.wot_edge.specs.declared.path.Step.{Step}
use Rattle.wot_edge.specs.Agree.{Agree}
use Rattle.wot_edge.specs.Order.{steps_cmp}
use Rattle.wot_edge.specs.Record.{Has, IsRecord, entry_at}
use Rattle.wot_edge.specs.Roots.{root_amount}
use Rattle.wot_edge.specs.Path.{Question, Use, start, root_left, path_amount, IsOpen}
use Rattle.wot_first_path.specs.declared.node.Node.{Node}
use Rattle.wot_first_path.specs.Growth.{IsResult}
use Rattle.wot_first_path.specs.Layer.{AtMost, IsComplete, IsEntry}
use Rattle.wot_first_path.specs.Looked.{IsLooked}
use Rattle.wot_search.specs.Offers.{AddsOffer, AreFoundOffers, AreNext, AreOfferedBy, IsOfferIf, IsOfferOf, with_offer}
use Rattle.wot_first_path.specs.Quest.{Quest}
use Rattle.wot_first_path.specs.Reached.{look}
use Rattle.wot_first_path.specs.Rooted.{Rooted}
use Rattle.wot_first_path.specs.Suffix.{Found, Kept, node_of}
use Rattle.wot_first_path.proofs.SuffixOrder.{AtMost-le}
use Rattle.wot_first_path.proofs.OneSuffixMore.{entry_is}
use Rattle.wot_first_path.proofs.Suffixes.{kept_suffix}
use Rattle.wot_reach.proofs.Within.{Holds}
use Rattle.wot_first_path.proofs.Rooted.{widest_quest, least_quest, rooted_wide, rooted_fewer, rooted_amount, valid_rooted}
use Rattle.wot_first_path.proofs.Rooted.{first_le, IsShortest, shortest_distinct, suffix_chain}
use Rattle.wot_search.proofs.PathsAreOffers.{IsOne, Ascend, AreFirst, first_offers, first_there, roots_there}

-- ---- lists

all_has : (P : Fpr → Type 0) (xs : List Fpr) (x : Fpr) → AllByRecursion P xs → Has xs x → P x
all_has P [] x a h = absurd h
all_has P (y ∷ xs) x a (inl e) = subst P (sym e) a.0
all_has P (y ∷ xs) x a (inr h) = all_has P xs x a.1 h

has_more : (o : Option Path) (paths : List Path) (path : Path) → Has paths path → Has (with_offer o paths) path
has_more None paths path h = h
has_more (Some p) paths path h = inr h

-- a fingerprint that has an amount is one of the roots
root_has : (roots : List (Fpr × ℕ)) (fpr : Fpr) → 0 < root_amount roots fpr → Has (keys_of roots) fpr
root_has [] fpr pos = absurd (omega (arith, pos))
root_has (x ∷ roots) fpr pos = by (root_has roots fpr) (same_fpr fpr x.0) refl pos
  where
    by : (0 < root_amount roots fpr → Has (keys_of roots) fpr) → (b : Bool) → same_fpr fpr x.0 ≡ b
        → 0 < unwrap_or (cond b (Some x.1) (lookup (is_at (fpr_cmp fpr)) roots)) 0 → Has (keys_of (x ∷ roots)) fpr
    by ih true e p = inl (same_fpr-true fpr x.0 e)
    by ih false e p = inr (ih p)

-- ---- the offers of roots

module _ (quest : Quest) (found : Found) (size : ℕ) where
  offered_each : (roots : List (Fpr × ℕ)) (paths : List Path) → AreOfferedBy quest found size roots paths
      → (path : Path) → Has paths path
      → (fpr : Fpr) × Has (keys_of roots) fpr × IsOfferOf quest found size fpr path
  offered_each [] paths b path h = absurd (subst (λ (ps : List Path). Has ps path) b h)
  offered_each (root ∷ roots) paths b path h =
      by (λ k. let x = offered_each roots b.1 b.3 path k in (x.0, inr x.1, x.2)) b.0 b.2
      (subst (λ (ps : List Path). Has ps path) b.4 h)
    where
      by : (Has b.1 path → (fpr : Fpr) × Has (keys_of (root ∷ roots)) fpr × IsOfferOf quest found size fpr path)
          → (o : Option Path) → IsOfferIf quest found size root.0 o → Has (with_offer o b.1) path
          → (fpr : Fpr) × Has (keys_of (root ∷ roots)) fpr × IsOfferOf quest found size fpr path
      by more None is k = more k
      by more (Some p) is (inl e) =
          (root.0, inl refl, subst (λ (x : Path). IsOfferOf quest found size root.0 x) (sym e) is)
      by more (Some p) is (inr k) = more k

  offered_met : (roots : List (Fpr × ℕ)) (paths : List Path) → AreOfferedBy quest found size roots paths → (fpr : Fpr)
      → Has (keys_of roots) fpr
      → quest.least ≤ root_left quest.question quest.used fpr → (node : Node) → found fpr ≡ Some node → node.size ≡ size
      → (path : Path) × Has paths path × IsOfferOf quest found size fpr path
  offered_met [] paths b fpr h le node at long = absurd h
  offered_met (root ∷ roots) paths b fpr (inr h) le node at long =
      let x = offered_met roots b.1 b.3 fpr h le node at long in
      (x.0, subst (λ (ps : List Path). Has ps x.0) (sym b.4) (has_more b.0 b.1 x.0 x.1), x.2)
  offered_met (root ∷ roots) paths b fpr (inl e) le node at long = by b.0 b.2 refl
    where
      by : (o : Option Path) → IsOfferIf quest found size root.0 o → b.0 ≡ o
          → (path : Path) × Has paths path × IsOfferOf quest found size fpr path
      by None is f =
          absurd (is (subst (λ (x : Fpr). quest.least ≤ root_left quest.question quest.used x) e le) node
          (ap found (sym e) ∙ at) long)
      by (Some p) is f =
          let w : paths ≡ p ∷ b.1 = b.4 ∙ ap (λ (o : Option Path). with_offer o b.1) f in (
            p,
            subst (λ (ps : List Path). Has ps p) (sym w) (inl refl),
            subst (λ (x : Fpr). IsOfferOf quest found size x p) (sym e) is,
          )

  offered_order : (roots : List (Fpr × ℕ)) (paths : List Path) → IsStrictlySortedBy fpr_cmp (keys_of roots)
      → AreOfferedBy quest found size roots paths → Ascend paths
  offered_order [] paths s b = subst Ascend (sym b) tt
  offered_order (root ∷ roots) paths s b =
      subst Ascend (sym b.4) (by (offered_order roots b.1 (sorted_tail fpr_cmp root.0 (keys_of roots) s) b.3) b.0 b.2)
    where
      less : (x : Path) → IsOfferOf quest found size root.0 x → (other : Path) → Has b.1 other
          → fpr_cmp x.root other.root ≡ Less
      less x is other h =
          let y = offered_each roots b.1 b.3 other h in
          let l = all_has (λ (z : Fpr). fpr_cmp root.0 z ≡ Less) (keys_of roots) y.0
          (sorted_head fpr_cmp root.0 (keys_of roots) s) y.1 in
          subst (λ (z : Fpr). fpr_cmp x.root z ≡ Less) (sym y.2.root)
          (subst (λ (z : Fpr). fpr_cmp z y.0 ≡ Less) (sym is.root) l)

      by : Ascend b.1 → (o : Option Path) → IsOfferIf quest found size root.0 o → Ascend (with_offer o b.1)
      by tail None is = tail
      by tail (Some p) is = (λ other h. less p is other h, tail)

  with_append : (old : List Path) (o : Option Path) (others : List Path)
      → (old ++ with_offer o []) ++ others ≡ old ++ with_offer o others
  with_append old None others = ap (λ (ps : List Path). ps ++ others) (append-nil old)
  with_append old (Some p) others = append_assoc old (p ∷ []) others

  -- the offer of one root more was appended
  pub offered_more : (root : Fpr × ℕ) (rest roots : List (Fpr × ℕ)) (old new : List Path)
      → AddsOffer quest found size root.0 old new
      → ((others : List Path) → AreOfferedBy quest found size (root ∷ rest) others
      → AreOfferedBy quest found size roots (old ++ others))
      → (others : List Path) → AreOfferedBy quest found size rest others
      → AreOfferedBy quest found size roots (new ++ others)
  offered_more root rest roots old new a before others b =
      let e : new ++ others ≡ old ++ with_offer a.offer others =
      ap (λ (ps : List Path). ps ++ others) a.whole ∙ with_append old a.offer others in
      subst (AreOfferedBy quest found size roots) (sym e)
      (before (with_offer a.offer others) (a.offer, others, a.is, b, refl))

-- ---- the first paths

module _ (reach : Fpr → ℕ) (q : Question) (good : IsRecord q.network) (used : Use) (holds : Holds reach q used)
    (ok : (entry_at q.network q.target).in_order ≡ true)
    (wide : Path) (first : IsResult (widest_quest reach q used) (Some wide)) (found : Found)
    (entries : (fpr : Fpr) (node : Node) → found fpr ≡ Some node
    → IsEntry (least_quest reach q used wide.amount) found (length wide.steps) fpr node)
    (complete : IsComplete (least_quest reach q used wide.amount) found (length wide.steps))
    (paths : List Path) (sorted : IsStrictlySortedBy fpr_cmp (keys_of q.roots))
    (offered : AreOfferedBy (least_quest reach q used wide.amount) found (length wide.steps) q.roots paths) where
  abbrev quest : Quest
  quest = least_quest reach q used wide.amount

  pos : 1 ≤ wide.amount
  pos = let a =
      rooted_amount (widest_quest reach q used) wide.steps first.first.rooted in let b =
      first.amount in omega (arith, a, b)

  -- no such path has fewer edges
  no_fewer : (other : List Step) → Rooted quest other → length wide.steps ≤ length other
  no_fewer other r =
      first_le (widest_quest reach q used) wide.steps other first.first
      (rooted_fewer reach q used wide.amount other pos r)

  rooted_open : (steps : List Step) → Rooted quest steps → length steps ≡ length wide.steps → IsOpen q used steps
  rooted_open steps r long = (
    record {
      some = r.some;
      few = r.few;
      chain = suffix_chain quest steps r.suffix;
      distinct = shortest_distinct quest steps r.suffix shortest;
      root = let a = r.root in let p = pos in omega (arith, a, p);
      in_order = ok;
    },
    let a = rooted_amount quest steps r in let p = pos in omega (arith, a, p),
  )
    where
      shortest : IsShortest quest steps
      shortest other some t e = elim (cases_lt 255 (length other)) [
        | inl lt ↦ let b = r.few in omega (arith, b, lt)
        | inr le ↦
            let m = no_fewer other
            (record {
              some = some;
              few = le;
              suffix = t;
              root = subst (λ (x : Fpr). wide.amount ≤ root_left q used x) (sym e) r.root;
            }) in
            omega (arith, m, long)
      ]

  one : (path : Path) → Has paths path → IsOne q used (length wide.steps) wide.amount path
  one path h =
      let x = offered_each quest found (length wide.steps) q.roots paths offered path h in
      let o = x.2 in
      let e = entries x.0 o.node o.at in
      let is = entry_is quest found (length wide.steps) x.0 o.node o.at e in
      let long : length (o.node.step ∷ e.rest) ≡ length wide.steps = sym (ap (λ (n : Node). n.size) is) ∙ o.long in
      let same : path.steps ≡ o.node.step ∷ e.rest = o.steps quest good (o.node.step ∷ e.rest) e.kept long e.there in
      let few = first.first.rooted.few in
      let r : Rooted quest (o.node.step ∷ e.rest) = record {
        some = omega arith;
        few = omega (arith, few, long);
        suffix = kept_suffix quest found (o.node.step ∷ e.rest) e.kept;
        root = subst (λ (f : Fpr). wide.amount ≤ root_left q used f) (sym e.there) o.left;
      } in
      record {
        free = subst (IsOpen q used) (sym same) (rooted_open (o.node.step ∷ e.rest) r long);
        long = ap length same ∙ long;
        enough = subst (λ (s : List Step). wide.amount ≤ path_amount q used s) (sym same)
            (rooted_amount quest (o.node.step ∷ e.rest) r);
        root = o.root ∙ sym e.there ∙ ap (start q.target) (sym same);
        amount = o.amount;
      }

  -- one of as many edges is not less than the offer of its root
  met : (other : List Step) → Rooted quest other → length other ≡ length wide.steps
      → (path : Path) × Has paths path × (path.root ≡ start q.target other) × (steps_cmp other path.steps ≢ Less)
  met other r long =
      (let c = complete other r.some (omega (arith, long)) r.suffix in by c.steps c.kept c.some c.same c.most)
    where
      by : (steps : List Step) → Kept quest found steps → 1 ≤ length steps → start q.target steps ≡ start q.target other
          → AtMost quest.used quest.goal steps other
          → (path : Path) × Has paths path × (path.root ≡ start q.target other) × (steps_cmp other path.steps ≢ Less)
      by [] k some same most = absurd (omega (arith, some))
      by (x ∷ xs) k some same most =
          let left : wide.amount ≤ root_left q used x.issuer =
          subst (λ (f : Fpr). wide.amount ≤ root_left q used f) (sym same) r.root in
          let m = AtMost-le quest.used quest.goal (x ∷ xs) other most in
          let few = r.few in
          let least = no_fewer (x ∷ xs)
          (record {
            some = some;
            few = omega (arith, m, few);
            suffix = kept_suffix quest found (x ∷ xs) k;
            root = left;
          }) in
          let size : length (x ∷ xs) ≡ length wide.steps = omega (arith, m, least, long) in
          let p = pos in
          let y = offered_met quest found (length wide.steps) q.roots paths offered x.issuer
          (root_has q.roots x.issuer (omega (arith, left, p))) left (node_of used x xs) k.0 size in
          let steps : y.0.steps ≡ x ∷ xs = y.2.steps quest good (x ∷ xs) k size refl in (
            y.0,
            y.1,
            y.2.root ∙ same,
            subst (λ (s : List Step). steps_cmp other s ≢ Less) (sym steps)
                (good_as most (omega (arith, size, long))),
          )
        where
          good_as : AtMost quest.used quest.goal (x ∷ xs) other → length (x ∷ xs) ≡ length other
              → steps_cmp other (x ∷ xs) ≢ Less
          good_as (inl lt) e = absurd (omega (arith, lt, e))
          good_as (inr n) e = n.1

  are_first : AreFirst q used (length wide.steps) wide.amount paths
  are_first = record {
    each = one;
    order = offered_order quest found (length wide.steps) q.roots paths sorted offered;
    fewest = λ other o. first_le (widest_quest reach q used) wide.steps other first.first
        (valid_rooted (widest_quest reach q used) other o.0 (holds other o) (let p = o.1 in omega (arith, p)));
    widest = λ other o long. by other long
        (first.first.first other
        (valid_rooted (widest_quest reach q used) other o.0 (holds other o) (let p = o.1 in omega (arith, p))));
    met = λ other o long enough. met other (valid_rooted quest other o.0 (holds other o) enough) long;
  }
    where
      by : (other : List Step) → length other ≡ length wide.steps
          → (length wide.steps < length other)
          ⊎ ((length wide.steps ≡ length other) × (path_amount q used other ≤ path_amount q used wide.steps))
          → path_amount q used other ≤ wide.amount
      by other long (inl lt) = absurd (omega (arith, lt, long))
      by other long (inr m) = (let a = m.1 in let e = first.amount in omega (arith, a, e))

  -- there is one
  none_not : paths ≡ [] → ⊥
  none_not e =
      let r = subst (λ (n : ℕ). Rooted (least_quest reach q used n) wide.steps) (sym first.amount)
      (rooted_wide reach q used wide.steps first.first.rooted) in
      let x = met wide.steps r refl in
      subst (λ (ps : List Path). Has ps x.0) e x.1

  pub found_next : AreNext q.roots q used paths
  found_next = by paths refl
    where
      by : (ps : List Path) → paths ≡ ps → AreNext q.roots q used ps
      by [] e = absurd (none_not e)
      by (p ∷ ps) e =
          first_offers q.roots q used (length wide.steps) wide.amount p ps pos
          (subst (AreFirst q used (length wide.steps) wide.amount) e are_first) (λ x h. refl)

  pub found_there : ((fpr : Fpr) → reach fpr ≡ 255) → (other : Question) (set : List Fpr) → Agree q other set
      → IsLooked (widest_quest reach q used) (length wide.steps) (Has set) → AreNext q.roots other used paths
  found_there all other set agree looked = by paths refl
    where
      by : (ps : List Path) → paths ≡ ps → AreNext q.roots other used ps
      by [] e = absurd (none_not e)
      by (p ∷ ps) e =
          let f = subst (AreFirst q used (length wide.steps) wide.amount) e are_first in
          first_offers q.roots other used (length wide.steps) wide.amount p ps pos
          (first_there reach all q other used (length wide.steps) wide.amount set agree looked (p ∷ ps) f)
          (roots_there reach all q other used (length wide.steps) wide.amount set agree looked (p ∷ ps) f)

-- what a search in as many layers as the widest path has edges found of the roots
pub found_offers : (reach : Fpr → ℕ) (q : Question) → IsRecord q.network → (used : Use) → Holds reach q used
    → (entry_at q.network q.target).in_order ≡ true → (wide : Path) → IsResult (widest_quest reach q used) (Some wide)
    → (n : ℕ) → n ≡ length wide.steps → (paths : List Path) → IsStrictlySortedBy fpr_cmp (keys_of q.roots)
    → AreFoundOffers (least_quest reach q used wide.amount) n q.roots paths → AreNext q.roots q used paths
found_offers reach q good used holds ok wide f n same paths rise found =
    let o = subst (λ (m : ℕ). AreFoundOffers (least_quest reach q used wide.amount) m q.roots paths) same found in
    found_next reach q good used holds ok wide f (look o.reached.nodes) o.after.entries o.after.complete paths rise
    o.offered
