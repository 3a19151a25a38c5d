-- What is asked, and what earlier paths use.
use Rattle.std.specs.Prelude.{◌≡◌, ℕ, Bool, List}
use Rattle.wot_types.specs.declared.fpr.Fpr.{Fpr}
use Rattle.wot_edge.specs.declared.edge.EdgeFacts.{EdgeFacts}
use Rattle.wot_edge.specs.declared.path.Step.{Step}
use Rattle.wot_edge.specs.Record.{EachRow, Record, Row}
use Rattle.wot_edge.specs.Path.{Question, Use, asks, path_amount}
use Rattle.wot_edge.specs.Sums.{use_in}
use Rattle.wot_check.specs.declared.asked.Asked.{Asked}

-- the program's question, given what the network says
abbrev pub question_of : (List ℕ → Record) → Asked → Question
question_of network asked = asks (network asked.uid.now) asked.roots.now asked.target.now

abbrev pub used_in : Asked → Use
used_in asked = use_in asked.used.now

-- what holds for the program's question and what is used
abbrev pub Asking : (List ℕ → Record) → Asked → (Question → Use → Type 0) → Type 0
Asking network asked fact = fact (question_of network asked) (used_in asked)

-- what holds for each row of an edge, the target and what is used
abbrev pub EachAsked : (List ℕ → Record) → Asked → EdgeFacts → (Fpr → Use → Row → Type 0) → Type 0
EachAsked network asked edge fact = EachRow (network asked.uid.now) edge (fact asked.target.now (used_in asked))

-- a test of each row of an edge has this result
abbrev pub TellsEach : (List ℕ → Record) → Asked → EdgeFacts → (Fpr → Use → Row → Bool) → Bool → Type 0
TellsEach network asked edge test comes = EachAsked network asked edge (λ target used row. test target used row ≡ comes)

-- the amount of a path by these steps
abbrev pub amount_left : (List ℕ → Record) → Asked → List Step → ℕ
amount_left network asked steps = path_amount (question_of network asked) (used_in asked) steps
