-- What a next path depends on.
use Rattle.std.specs.Prelude.{List, Option}
use Rattle.wot_types.specs.declared.fpr.Fpr.{Fpr}
use Rattle.wot_edge.specs.declared.path.Path.{Path}
use Rattle.wot_edge.specs.Agree.{Agree}
use Rattle.wot_edge.specs.Answer.{IsNextOrSpent}
use Rattle.wot_edge.specs.Path.{Question, Use}
use Rattle.wot_edge.specs.Record.{Has}
use Rattle.wot_first_path.specs.Looked.{Widens}

-- the next path, or that there is none, for every question that agrees with this one on a set
abbrev pub IsNextOfAgreeing : Question → Use → List Fpr → Option Path → Type 0
IsNextOfAgreeing q used set found = (other : Question) → Agree q other set → IsNextOrSpent other used found

-- this holds for every set that contains what was noted
abbrev pub IsNextWhereAgreed : Question → Use → (Fpr → Type 0) → Option Path → Type 0
IsNextWhereAgreed q used noted found = (set : List Fpr) → Widens noted (Has set) → IsNextOfAgreeing q used set found
