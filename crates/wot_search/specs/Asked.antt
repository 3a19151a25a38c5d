-- A question to a search, and to the network that it searches.
use Rattle.std.specs.Prelude.{◌≡◌, ℕ, List, Vec, Option, Some, None}
use Rattle.std.specs.declared.alloc.Global.{Global}
use Rattle.wot_types.specs.declared.fpr.Fpr.{Fpr}
use Rattle.wot_edge.specs.declared.path.Path.{Path}
use Rattle.wot_edge.specs.Path.{Question, asks}
use Rattle.wot_edge.specs.Record.{Record}
use Rattle.wot_edge.specs.Sums.{Sums, use_in}
use Rattle.wot_search.specs.Nexting.{IsNextWhereAgreed}
use Rattle.wot_search.specs.Offers.{AreNextFor, AreNextWhereAgreed, TakesWhereAgreed}
use Rattle.wot_reach.specs.Reach.{Table, IsReach, number_at}
use Rattle.wot_first_path.specs.declared.asked.Asked.{Asked}

-- the question, given what the network says
abbrev pub question_of : (List ℕ → Record) → Asked → Question
question_of network asked = asks (network asked.uid.now) asked.roots.now asked.target.now

-- the reach is one of this network and of the roots
abbrev pub HasItsReach : (List ℕ → Record) → Asked → Type 0
HasItsReach network asked = IsReach network asked.roots.now asked.reach.now

-- a reach that leaves nothing out
abbrev pub HasAll : Table → Type 0
HasAll table = (fpr : Fpr) → number_at table fpr ≡ 255

-- ---- what depends only on what was noted, if the reach leaves nothing out

-- the next path after what is used, or that there is none, for every question that agrees on it
abbrev pub IsNextLocally : (List ℕ → Record) → Asked → Sums → (Fpr → Type 0) → Option Path → Type 0
IsNextLocally network asked used noted found =
    HasAll asked.reach.now → IsNextWhereAgreed (question_of network asked) (use_in used) noted found

-- the next path and offers after it, for every question that agrees on it
abbrev pub AreNextLocally : (List ℕ → Record) → Asked → Sums → (Fpr → Type 0) → List Path → Type 0
AreNextLocally network asked used noted paths =
    HasAll asked.reach.now → AreNextWhereAgreed asked.roots.now (question_of network asked) (use_in used) noted paths

-- the next path and offers after it, for every question that agrees on it and had the old offers
abbrev pub TakesLocally :
    (List ℕ → Record) → Asked → Sums → (Fpr → Type 0) → List Path → List Path → Option Path → Type 0
TakesLocally network asked used noted old new found =
    HasAll asked.reach.now
    → TakesWhereAgreed asked.roots.now (question_of network asked) (use_in used) noted old new found

-- ---- what a search found, if it served

abbrev pub AreNextIfSome : (List ℕ → Record) → Asked → Sums → Option (Vec Path Global) → Type 0
AreNextIfSome network asked used None = Unit {0}
AreNextIfSome network asked used (Some paths) = AreNextFor (question_of network asked) (use_in used) paths.items

abbrev pub AreNextLocallyIfSome :
    (List ℕ → Record) → Asked → Sums → (Fpr → Type 0) → Option (Vec Path Global) → Type 0
AreNextLocallyIfSome network asked used noted None = Unit {0}
AreNextLocallyIfSome network asked used noted (Some paths) = AreNextLocally network asked used noted paths.items
