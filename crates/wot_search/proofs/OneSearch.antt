-- When one search serves as two: everything that it found has the greatest amount.
use Rattle.std.proofs.Common.{◌≡◌, ◌⊎◌, inl, inr, ℕ, ◌<◌, ◌≤◌, Bool, true, false, cond, nat_le, List, [], ◌∷◌, length}
use Rattle.std.proofs.Common.{Option, Some, None, ap, subst, arith}
use Rattle.std.proofs.lemmas.Bool.{and_parts, leb-true}
use Rattle.std.specs.BTreeMap.{is_at}
use Rattle.std.specs.List.{list_all}
use Rattle.std.specs.Map.{lookup, values_of}
use Rattle.std.specs.Option.{unwrap_or}
use Rattle.wot_types.specs.declared.fpr.Fpr.{Fpr}
use Rattle.wot_types.specs.Fpr.{fpr_cmp, same_fpr}
use Rattle.wot_edge.specs.declared.path.Path.{Path}
use Rattle.wot_edge.specs.declared.path.Step.{Step}
use Rattle.wot_edge.specs.Path.{Question, Use, start, root_left, path_amount}
use Rattle.wot_edge.specs.Roots.{NoneOver}
use Rattle.wot_first_path.specs.declared.node.Node.{Node}
use Rattle.wot_first_path.specs.declared.node.Goal.TheVariants.{Least}
use Rattle.wot_first_path.specs.declared.reached.Reached.{Reached}
use Rattle.wot_first_path.specs.Growth.{IsAfter, IsResult}
use Rattle.wot_first_path.specs.Layer.{Covered, IsComplete, IsEntry, IsLayer}
use Rattle.wot_first_path.specs.Looked.{IsLooked}
use Rattle.wot_first_path.specs.Quest.{Quest}
use Rattle.wot_first_path.specs.Reached.{look}
use Rattle.wot_first_path.specs.Rooted.{Rooted, IsFirst, IsGood}
use Rattle.wot_first_path.specs.Suffix.{Found, Kept, Suffix, node_of}
use Rattle.wot_search.proofs.PathsAreOffers.{least_most}
use Rattle.wot_first_path.proofs.Rooted.{widest_quest, least_quest, rooted_amount}

-- ---- roots

pub none_over_more : (most : ℕ) (root : Fpr × ℕ) (roots : List (Fpr × ℕ)) → root.1 ≤ most → NoneOver most roots
    → NoneOver most (root ∷ roots)
none_over_more most root roots le none fpr = by (same_fpr fpr root.0)
  where
    by : (b : Bool) → unwrap_or (cond b (Some root.1) (lookup (is_at (fpr_cmp fpr)) roots)) 0 ≤ most
    by true = le
    by false = none fpr

-- nor is more left of one
pub roots_left : (q : Question) (used : Use) (most : ℕ) → NoneOver most q.roots → (fpr : Fpr)
    → root_left q used fpr ≤ most
roots_left q used most none fpr = (let n = none fpr in omega (arith, n))

-- ---- widths

some_is : (a b : Node) → Some a ≡ Some b → a ≡ b
some_is a b e = ap (λ (o : Option Node). unwrap_or o a) e

-- each node that a look-up finds has at least this width
pub all_wide : (amount : ℕ) (entries : List (Fpr × Node))
    → list_all (λ (node : Node). nat_le amount node.width) (values_of entries) ≡ true
    → (fpr : Fpr) (node : Node) → lookup (is_at (fpr_cmp fpr)) entries ≡ Some node → amount ≤ node.width
all_wide amount [] t fpr node at = absurd cc
all_wide amount (x ∷ entries) t fpr node at =
    let both = and_parts (nat_le amount x.1.width) (list_all (λ (n : Node). nat_le amount n.width) (values_of entries))
    t in
    by both.0 (all_wide amount entries both.1 fpr node) (same_fpr fpr x.0) at
  where
    by : nat_le amount x.1.width ≡ true → (lookup (is_at (fpr_cmp fpr)) entries ≡ Some node → amount ≤ node.width)
        → (b : Bool) → cond b (Some x.1) (lookup (is_at (fpr_cmp fpr)) entries) ≡ Some node → amount ≤ node.width
    by le later true e = subst (λ (n : Node). amount ≤ n.width) (some_is x.1 node e) (leb-true amount x.1.width le)
    by le later false e = later e

module _ (reach : Fpr → ℕ) (q : Question) (used : Use) where
  -- ---- the least list of any amount

  abbrev any : Quest
  any = least_quest reach q used 1

  abbrev wide : Quest
  wide = widest_quest reach q used

  suffix_any : (steps : List Step) → Suffix wide steps → Suffix any steps
  suffix_any [] t = tt
  suffix_any (step ∷ rest) t = (record { usable_edge = t.0.usable_edge; left = t.0.left; high = t.0.high }, suffix_any rest t.1)

  suffix_wide : (steps : List Step) → Suffix any steps → Suffix wide steps
  suffix_wide [] t = tt
  suffix_wide (step ∷ rest) t = (record { usable_edge = t.0.usable_edge; left = t.0.left; high = t.0.high }, suffix_wide rest t.1)

  rooted_any : (steps : List Step) → Rooted wide steps → Rooted any steps
  rooted_any steps r = record { some = r.some; few = r.few; suffix = suffix_any steps r.suffix; root = r.root }

  rooted_as_wide : (steps : List Step) → Rooted any steps → Rooted wide steps
  rooted_as_wide steps r = record { some = r.some; few = r.few; suffix = suffix_wide steps r.suffix; root = r.root }

  -- if no root has more than this path, it is a widest one
  first_wide : (path : Path) → ((fpr : Fpr) → root_left q used fpr ≤ path.amount)
      → path.amount ≡ path_amount q used path.steps → IsFirst any path.steps → IsFirst wide path.steps
  first_wide path most amount f =
      record {
        rooted = rooted_as_wide path.steps f.rooted;
        first = λ other r. by other (f.first other (rooted_any other r));
      }
    where
      by : (other : List Step)
          → (length path.steps < length other)
          ⊎ ((length path.steps ≡ length other) × IsGood q used Least path.steps other)
          → (length path.steps < length other)
          ⊎ ((length path.steps ≡ length other) × (path_amount q used other ≤ path_amount q used path.steps))
      by other (inl lt) = inl lt
      by other (inr m) =
          let a = least_most used (root_left q used (start q.target other)) other in
          let b = most (start q.target other) in
          inr (m.0, omega (arith, a, b, amount))

  pub none_wide : IsResult any None → IsResult wide None
  none_wide none other r = none other (rooted_any other r)

  pub some_wide : (path : Path) → ((fpr : Fpr) → root_left q used fpr ≤ path.amount) → IsResult any (Some path)
      → IsResult wide (Some path)
  some_wide path most f =
      record { first = first_wide path most f.amount f.first; root = f.root; amount = f.amount; long = f.long }

  -- the path has some amount
  pub path_some : (path : Path) → IsResult any (Some path) → 1 ≤ path.amount
  path_some path f = (let a = rooted_amount any path.steps f.first.rooted in let e = f.amount in omega (arith, a, e))

  pub looked_wide : (size : ℕ) (set : Fpr → Type 0) → IsLooked any size set → IsLooked wide size set
  looked_wide size set looked rest lt t =
      (let seen = looked rest lt (suffix_any rest t) in record { it = seen.it; issuers = seen.issuers })

  -- ---- if all that was found has this width, a search for this amount finds the same

  module _ (amount : ℕ) (pos : 1 ≤ amount) (found : Found)
      (each : (fpr : Fpr) (node : Node) → found fpr ≡ Some node → amount ≤ node.width) where
    abbrev more : Quest
    more = least_quest reach q used amount

    suffix_less : (steps : List Step) → Suffix more steps → Suffix any steps
    suffix_less [] t = tt
    suffix_less (step ∷ rest) t = (
      record { usable_edge = t.0.usable_edge; left = let a = t.0.left in omega (arith, pos, a); high = t.0.high },
      suffix_less rest t.1,
    )

    kept_less : (steps : List Step) → Kept more found steps → Kept any found steps
    kept_less [] k = tt
    kept_less (step ∷ rest) k = (
      k.0,
      record { usable_edge = k.1.usable_edge; left = let a = k.1.left in omega (arith, pos, a); high = k.1.high },
      kept_less rest k.2,
    )

    kept_more : (steps : List Step) → Kept any found steps → Kept more found steps
    kept_more [] k = tt
    kept_more (step ∷ rest) k = (
      k.0,
      record {
        usable_edge = k.1.usable_edge;
        left = let w = each step.issuer (node_of used step rest) k.0 in
            omega (arith, w);
        high = k.1.high;
      },
      kept_more rest k.2,
    )

    entry_more : (most : ℕ) (fpr : Fpr) (node : Node) → IsEntry any found most fpr node
        → IsEntry more found most fpr node
    entry_more most fpr node e =
        record { rest = e.rest; kept = kept_more (node.step ∷ e.rest) e.kept; few = e.few; there = e.there }

    covered_more : (other : List Step) → Covered any found other → Covered more found other
    covered_more other c =
        record { steps = c.steps; kept = kept_more c.steps c.kept; some = c.some; same = c.same; most = c.most }

    pub complete_more : (most : ℕ) → IsComplete any found most → IsComplete more found most
    complete_more most complete other some few t = covered_more other (complete other some few (suffix_less other t))

    pub layer_more : (size : ℕ) (layer : List Fpr) → IsLayer any found size layer → IsLayer more found size layer
    layer_more size layer l = record {
      each = λ fpr h.
          (let b = l.each fpr h in
          record { steps = b.steps; kept = kept_more b.steps b.kept; long = b.long; there = b.there });
      all = λ steps k long. l.all steps (kept_less steps k) long;
    }

  pub after_more : (amount size : ℕ) (reached : Reached) (set : Fpr → Type 0) → 1 ≤ amount
      → ((fpr : Fpr) (node : Node) → look reached.nodes fpr ≡ Some node → amount ≤ node.width)
      → IsAfter any size reached set → IsAfter (least_quest reach q used amount) size reached (λ fpr. Unit {0})
  after_more amount size reached set pos each after = record {
    entries = λ fpr node at. entry_more amount pos (look reached.nodes) each size fpr node (after.entries fpr node at);
    complete = complete_more amount pos (look reached.nodes) each size after.complete;
    layer = layer_more amount pos (look reached.nodes) each size reached.layer.items after.layer;
    noted = λ fpr node at. tt;
    looked = λ rest lt t. record { it = tt; issuers = λ row h r l high. tt };
  }
