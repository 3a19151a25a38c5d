-- Offers: next paths that one search finds at once, one for each root.
use Rattle.std.specs.Prelude.{◌≡◌, ℕ, ◌<◌, ◌≤◌, ◌-◌, ◌++◌, nat_le, nat_lt, Bool, true, false}
use Rattle.std.specs.Prelude.{List, [], ◌∷◌, Option, Some, None}
use Rattle.std.specs.List.{list_all}
use Rattle.wot_types.specs.declared.fpr.Fpr.{Fpr}
use Rattle.wot_edge.specs.declared.path.Path.{Path}
use Rattle.wot_edge.specs.declared.path.Step.{Step}
use Rattle.wot_edge.specs.Agree.{Agree}
use Rattle.wot_edge.specs.Answer.{IsNextOrSpent}
use Rattle.wot_edge.specs.Path.{Question, Use, IsNextPath, IsSpent, root_left, step_left}
use Rattle.wot_edge.specs.Record.{Has}
use Rattle.wot_edge.specs.Roots.{root_amount}
use Rattle.wot_first_path.specs.declared.node.Node.{Node}
use Rattle.wot_first_path.specs.Growth.{IsAfter, IsFoundFrom}
use Rattle.wot_first_path.specs.Looked.{Widens}
use Rattle.wot_first_path.specs.Quest.{Quest}
use Rattle.wot_first_path.specs.Reached.{look}
use Rattle.wot_first_path.specs.declared.reached.Reached.{Reached}
use Rattle.wot_first_path.specs.Suffix.{Found}

-- each pair and each root is used at least as much
pub record IsLater (used later : Use) : Type 0 where
  pub pair : (issuer target : Fpr) → used.pair issuer target ≤ later.pair issuer target
  pub root : (fpr : Fpr) → used.root fpr ≤ later.root fpr

-- the residual amount of a root
abbrev pub left_at : List (Fpr × ℕ) → Use → Fpr → ℕ
left_at roots used fpr = root_amount roots fpr - used.root fpr

-- whether each of these edges has at least this residual amount
abbrev pub is_left : Use → ℕ → List Step → Bool
is_left used amount steps = list_all (λ step. nat_le amount (step_left used step)) steps

-- Offers, whatever is used later: the first is the next path as long as its root and its edges still have its amount.
-- Once its root has less, the others are offers.
abbrev pub AreOffers : List (Fpr × ℕ) → Question → Use → List Path → Type 0
AreOffers roots q used [] = Unit {0}
AreOffers roots q used (path ∷ paths) =
    ((later : Use) → IsLater used later → path.amount ≤ left_at roots later path.root
    → is_left later path.amount path.steps ≡ true → IsNextPath q later path)
    × ((later : Use) → IsLater used later → left_at roots later path.root < path.amount → AreOffers roots q later paths)

-- with the roots of the question
abbrev pub AreOffersFor : Question → Use → List Path → Type 0
AreOffersFor q used paths = AreOffers q.roots q used paths

-- the next path and offers after it; or no path, if none is left
abbrev pub AreNext : List (Fpr × ℕ) → Question → Use → List Path → Type 0
AreNext roots q used [] = IsSpent q used
AreNext roots q used (path ∷ paths) = IsNextPath q used path × AreOffers roots q used (path ∷ paths)

-- with the roots of the question
abbrev pub AreNextFor : Question → Use → List Path → Type 0
AreNextFor q used paths = AreNext q.roots q used paths

-- this holds for every question that agrees with this one on a set that contains what was noted
abbrev pub AreNextWhereAgreed : List (Fpr × ℕ) → Question → Use → (Fpr → Type 0) → List Path → Type 0
AreNextWhereAgreed roots q used noted paths =
    (set : List Fpr) → Widens noted (Has set) → (other : Question) → Agree q other set → AreNext roots other used paths

-- ---- which offer is taken

-- whether the first one's root has less left than its amount
abbrev pub is_first_spent : List (Fpr × ℕ) → Use → List Path → Bool
is_first_spent roots used [] = false
is_first_spent roots used (path ∷ paths) = nat_lt (left_at roots used path.root) path.amount

abbrev pub first_path : List Path → Option Path
first_path [] = None
first_path (path ∷ paths) = Some path

abbrev pub IsNextIfSome : Question → Use → Option Path → Type 0
IsNextIfSome q used None = Unit {0}
IsNextIfSome q used (Some path) = IsNextPath q used path

-- the next path for every question with these offers
abbrev pub IsOpenOffer : List (Fpr × ℕ) → Use → List Path → Option Path → Type 0
IsOpenOffer roots used offers found = (q : Question) → AreOffers roots q used offers → IsNextIfSome q used found

-- the new ones are offers for every question with the old ones
abbrev pub KeepsOffers : List (Fpr × ℕ) → Use → List Path → List Path → Type 0
KeepsOffers roots used old new = (q : Question) → AreOffers roots q used old → AreOffers roots q used new

-- the next path for every question that agrees with this one on a set that contains what was noted, and that had the
-- old offers: then it has the new ones too
abbrev pub TakesWhereAgreed :
    List (Fpr × ℕ) → Question → Use → (Fpr → Type 0) → List Path → List Path → Option Path → Type 0
TakesWhereAgreed roots q used noted old new found =
    (set : List Fpr) → Widens noted (Has set) → (other : Question) → Agree q other set → AreOffers roots other used old
    → IsNextOrSpent other used found × AreOffers roots other used new

-- ---- the offers of each root

-- the path of this many edges that was found from a root with this residual amount
pub record IsOfferOf (quest : Quest) (found : Found) (size : ℕ) (fpr : Fpr) (path : Path) : Type 0 where
  pub left : quest.least ≤ root_left quest.question quest.used fpr
  pub node : Node
  pub at : found fpr ≡ Some node
  pub long : node.size ≡ size
  pub steps : IsFoundFrom found fpr size path.steps
  pub root : path.root ≡ fpr
  pub amount : path.amount ≡ quest.least

-- that path, or that there is none
abbrev pub IsOfferIf : Quest → Found → ℕ → Fpr → Option Path → Type 0
IsOfferIf quest found size fpr None =
    quest.least ≤ root_left quest.question quest.used fpr → (node : Node) → found fpr ≡ Some node → node.size ≡ size → ⊥
IsOfferIf quest found size fpr (Some path) = IsOfferOf quest found size fpr path

abbrev pub with_offer : Option Path → List Path → List Path
with_offer None paths = paths
with_offer (Some path) paths = path ∷ paths

-- the offer of a root was appended, if it has one
pub record AddsOffer (quest : Quest) (found : Found) (size : ℕ) (fpr : Fpr) (old new : List Path) : Type 0 where
  pub offer : Option Path
  pub is : IsOfferIf quest found size fpr offer
  pub whole : new ≡ old ++ with_offer offer []

-- the offers of these roots, in order
abbrev pub AreOfferedBy : Quest → Found → ℕ → List (Fpr × ℕ) → List Path → Type 0
AreOfferedBy quest found size [] paths = paths ≡ []
AreOfferedBy quest found size (root ∷ roots) paths =
    (offer : Option Path) × (others : List Path) × IsOfferIf quest found size root.0 offer
    × AreOfferedBy quest found size roots others × (paths ≡ with_offer offer others)

-- each found suffix has at least this width
abbrev pub AreWide : ℕ → Found → Type 0
AreWide amount found = (fpr : Fpr) (node : Node) → found fpr ≡ Some node → amount ≤ node.width

-- each suffix found in this many layers has at least this width
pub record AreFoundOffers (quest : Quest) (size : ℕ) (roots : List (Fpr × ℕ)) (paths : List Path) : Type 0 where
  pub reached : Reached
  pub after : IsAfter quest size reached (λ fpr. Unit {0})
  pub offered : AreOfferedBy quest (look reached.nodes) size roots paths
