-- Suffixes, and those that were found.
use Rattle.std.proofs.Common.{◌≡◌, ◌≤◌, List, [], ◌∷◌, length, Ordering, Some, refl, sym, ap, subst, ◌∙◌, arith}
use Rattle.std.specs.declared.cmp.Ordering.TheVariants.{Less, Equal, Greater}
use Rattle.std.specs.Ordering.{ordering_then, nat_cmp}
use Rattle.std.proofs.lemmas.Cmp.{tied_itself}
use Rattle.wot_types.specs.declared.fpr.Fpr.{Fpr}
use Rattle.wot_types.specs.Fpr.{fpr_cmp}
use Rattle.wot_types.specs.FprLaws.{fpr_total, fpr_exact}
use Rattle.wot_types.specs.PlainLaws.{then-Equal}
use Rattle.wot_edge.specs.declared.path.Step.{Step}
use Rattle.wot_edge.specs.Order.{steps_cmp}
use Rattle.wot_edge.specs.StepLaws.{steps_total}
use Rattle.wot_edge.specs.Record.{Row, Has, IsRecord, rows_into}
use Rattle.wot_edge.specs.Path.{Question, Reaches, start}
use Rattle.wot_first_path.specs.declared.node.Node.{Node}
use Rattle.wot_first_path.specs.Quest.{Quest}
use Rattle.wot_first_path.specs.Suffix.{Serves, Suffix, Found, Kept, node_of}
use Rattle.wot_first_path.specs.Layer.{link_cmp}

-- An edge may also come before fewer edges from the same issuer.
pub reaches_shorter : (q : Question) (row : Row) (rest other : List Step) → 1 ≤ length rest → 1 ≤ length other
    → length other ≤ length rest → Reaches q row rest → Reaches q row other
reaches_shorter q row [] other a b le r = absurd (omega arith)
reaches_shorter q row (x ∷ rest) [] a b le r = absurd (omega arith)
reaches_shorter q row (x ∷ rest) (y ∷ other) a b le r = (let d = r.0 in omega (arith, d, le), r.1, r.2)

pub serves_shorter : (quest : Quest) (step : Step) (rest other : List Step) → 1 ≤ length rest → 1 ≤ length other
    → length other ≤ length rest → start quest.question.target other ≡ start quest.question.target rest
    → Serves quest step rest → Serves quest step other
serves_shorter quest step rest other a b le e s = record {
  usable_edge = record {
    row = s.usable_edge.row;
    into = subst (λ (f : Fpr). Has (rows_into quest.question.network f) s.usable_edge.row) (sym e) s.usable_edge.into;
    usable = s.usable_edge.usable;
    shown = s.usable_edge.shown;
    reaches = reaches_shorter quest.question s.usable_edge.row rest other a b le s.usable_edge.reaches;
  };
  left = s.left;
  high = let h = s.high in omega (arith, h, le);
}

-- an edge that may come before others leads to where they begin
pub serves_into : (quest : Quest) → IsRecord quest.question.network → (step : Step) (rest : List Step)
    → Serves quest step rest → step.target ≡ start quest.question.target rest
serves_into quest good step rest s =
    ap (λ (x : Step). x.target) (sym s.usable_edge.shown)
    ∙ good.into (start quest.question.target rest) s.usable_edge.row s.usable_edge.into

pub kept_suffix : (quest : Quest) (found : Found) (steps : List Step) → Kept quest found steps → Suffix quest steps
kept_suffix quest found [] k = tt
kept_suffix quest found (step ∷ rest) k = (k.1, kept_suffix quest found rest k.2)

some_is : (a b : Node) → Some a ≡ Some b → a ≡ b
some_is a b e = cc

-- Of as many edges one suffix was found that begins there.
pub kept_one : (quest : Quest) → IsRecord quest.question.network → (found : Found) (a b : List Step) → length a ≡ length b
    → start quest.question.target a ≡ start quest.question.target b → Kept quest found a → Kept quest found b → a ≡ b
kept_one quest good found [] [] l e j k = refl
kept_one quest good found [] (y ∷ b) l e j k = absurd (omega arith)
kept_one quest good found (x ∷ a) [] l e j k = absurd (omega arith)
kept_one quest good found (x ∷ a) (y ∷ b) l e j k =
    let same : node_of quest.used x a ≡ node_of quest.used y b =
    some_is (node_of quest.used x a) (node_of quest.used y b) (sym j.0 ∙ ap found e ∙ k.0) in
    let first : x ≡ y = ap (λ (n : Node). n.step) same in
    let there : start quest.question.target a ≡ start quest.question.target b =
    sym (serves_into quest good x a j.1) ∙ ap (λ (z : Step). z.target) first ∙ serves_into quest good y b k.1 in
    let rest : a ≡ b = kept_one quest good found a b (omega (arith, l)) there j.2 k.2 in
    ap (λ (z : Step). z ∷ a) first ∙ ap (λ (z : List Step). y ∷ z) rest

then_of : (o p : Ordering) → (o ≡ Equal → p ≡ Equal) → ordering_then o p ≡ o
then_of Less p f = refl
then_of Equal p f = f refl
then_of Greater p f = refl

then_then : (o p r : Ordering) → o ≡ Equal → ordering_then (ordering_then o p) r ≡ ordering_then p r
then_then Less p r e = absurd cc
then_then Equal p r e = refl
then_then Greater p r e = absurd cc

-- Two suffixes of one issuer, and of as many edges, compare as their first edges do.
pub links : (quest : Quest) → IsRecord quest.question.network
    → (found : Found) (x : Step) (a : List Step) (y : Step) (b : List Step) → x.issuer ≡ y.issuer → length a ≡ length b
    → Serves quest x a → Serves quest y b → Kept quest found a → Kept quest found b
    → steps_cmp (x ∷ a) (y ∷ b) ≡ link_cmp x y
links quest good found x a y b e l s t j k =
    let tied : fpr_cmp x.issuer y.issuer ≡ Equal =
    subst (λ (f : Fpr). fpr_cmp x.issuer f ≡ Equal) e (tied_itself fpr_total x.issuer) in
    then_then (fpr_cmp x.issuer y.issuer) (link_cmp x y) (steps_cmp a b) tied
    ∙ then_of (link_cmp x y) (steps_cmp a b) (λ f.
    let same : x.target ≡ y.target =
    fpr_exact x.target y.target (then-Equal (fpr_cmp x.target y.target) (nat_cmp x.uid y.uid) f).0 in
    let there : start quest.question.target a ≡ start quest.question.target b =
    sym (serves_into quest good x a s) ∙ same ∙ serves_into quest good y b t in
    subst (λ (z : List Step). steps_cmp a z ≡ Equal) (kept_one quest good found a b l there j k)
    (tied_itself steps_total a))
