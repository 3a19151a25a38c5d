-- Edges that lead on: those that can have another edge after them on a path within reach.
use Rattle.std.specs.Prelude.{◌≡◌, ◌⊎◌, ℕ, ◌<◌, nat_le, ◌&&◌, Bool, true, List, Option, IfSome}
use Rattle.std.specs.Borrow.{Bor}
use Rattle.std.specs.List.{All}
use Rattle.wot_types.specs.declared.fpr.Fpr.{Fpr}
use Rattle.wot_edge.specs.declared.edge.EdgeFacts.{EdgeFacts}
use Rattle.wot_edge.specs.Record.{Record, EachRow, Has, edges_into}
use Rattle.wot_reach.specs.declared.onward.Onward.{Onward}

-- An edge with n edges after it has a depth of at least n, and an issuer whose number is above n: so with one or more
-- it has a depth of at least 1, and an issuer whose number is at least 2.
abbrev pub leads_on : (Fpr → ℕ) → EdgeFacts → Bool
leads_on number edge = nat_le 1 edge.depth && nat_le 2 (number edge.issuer)

-- an edge is usable by each of its rows
abbrev pub IsUsable : (List ℕ → Record) → EdgeFacts → Type 0
IsUsable network edge = (uid : List ℕ) → EachRow (network uid) edge (λ row. row.usable ≡ true)

-- these are edges into a fingerprint
abbrev pub AreInto : (List ℕ → Record) → Fpr → List EdgeFacts → Type 0
AreInto network fpr edges = (uid : List ℕ) (edge : EdgeFacts) → Has edges edge → Has (edges_into (network uid) fpr) edge

-- each edge into a fingerprint that leads on is one of these
abbrev pub Covers : (List ℕ → Record) → (Fpr → ℕ) → Fpr → List EdgeFacts → Type 0
Covers network number fpr edges =
    (uid : List ℕ) (edge : EdgeFacts) → Has (edges_into (network uid) fpr) edge
    → leads_on number edge ≡ true → Has edges edge

-- what is known if these are known to be usable
abbrev pub AreUsableIf : (List ℕ → Record) → Bool → List EdgeFacts → Type 0
AreUsableIf network usable edges = usable ≡ true → (edge : EdgeFacts) → Has edges edge → IsUsable network edge

-- what is known if all edges into a fingerprint are known to be usable
abbrev pub AreAllUsableIf : (List ℕ → Record) → Bool → Fpr → Type 0
AreAllUsableIf network usable fpr = (uid : List ℕ) → AreUsableIf network usable (edges_into (network uid) fpr)

-- if all are known to be usable, so were those before, and so is this edge
abbrev pub IsUsableIf : (List ℕ → Record) → Bool → Bool → EdgeFacts → Type 0
IsUsableIf network old new edge = new ≡ true → (old ≡ true) × IsUsable network edge

-- the edges into a fingerprint that lead on
pub record LeadsOnInto (network : List ℕ → Record) (number : Fpr → ℕ) (fpr : Fpr) (one : Onward) : Type 0 where
  pub into : AreInto network fpr one.edges.items
  pub covers : Covers network number fpr one.edges.items
  pub usable : AreUsableIf network one.usable one.edges.items
  pub all : AreAllUsableIf network one.all_usable fpr

-- this holds for each of these
abbrev pub AreOnward : (List ℕ → Record) → (Fpr → ℕ) → List Onward → Type 0
AreOnward network number onward = All (λ (one : Onward). LeadsOnInto network number one.fpr one) onward

-- what is found for a fingerprint among these belongs to that fingerprint
abbrev pub GivesOnward : (Fpr → ℕ) → List Onward → Fpr → Option (Bor Onward) → Type 0
GivesOnward number onward fpr found =
    (network : List ℕ → Record) → AreOnward network number onward
    → IfSome found (λ (one : Bor Onward). LeadsOnInto network number fpr one.now)

-- an edge was looked at, and appended if it leads on
pub record AddsLead (network : List ℕ → Record) (number : Fpr → ℕ) (edge : EdgeFacts) (old new : Onward) : Type 0 where
  pub fpr : new.fpr ≡ old.fpr
  pub put : leads_on number edge ≡ true → Has new.edges.items edge
  pub keeps : (other : EdgeFacts) → Has old.edges.items other → Has new.edges.items other
  pub only : (other : EdgeFacts) → Has new.edges.items other → Has old.edges.items other ⊎ (other ≡ edge)
  pub usable : AreUsableIf network old.usable old.edges.items → AreUsableIf network new.usable new.edges.items
  pub all : IsUsableIf network old.all_usable new.all_usable edge

-- of the edges into a fingerprint these are all that matter before this many others: before one or more, those that
-- lead on
pub record MatterBefore (network : List ℕ → Record) (number : Fpr → ℕ) (size : ℕ) (fpr : Fpr) (edges : List EdgeFacts)
    : Type 0 where
  pub into : AreInto network fpr edges
  pub all : (uid : List ℕ) (edge : EdgeFacts) → Has (edges_into (network uid) fpr) edge
      → (0 < size → leads_on number edge ≡ true) → Has edges edge
