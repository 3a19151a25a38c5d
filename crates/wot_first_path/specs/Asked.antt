-- What a question to a search means, given what the network says.
use Rattle.std.specs.Prelude.{ℕ, List}
use Rattle.wot_types.specs.declared.fpr.Fpr.{Fpr}
use Rattle.wot_edge.specs.Leads.{Leads}
use Rattle.wot_edge.specs.Record.{Record}
use Rattle.wot_first_path.specs.declared.asked.Asked.{Asked}

-- what leads to the target by rows
abbrev pub LeadsToAsked : (List ℕ → Record) → Asked → Fpr → Type 0
LeadsToAsked network asked fpr = Leads (network asked.uid.now) asked.target.now fpr
