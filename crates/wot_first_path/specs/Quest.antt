-- What a search looks for.
use Rattle.std.specs.Prelude.{ℕ, List}
use Rattle.wot_types.specs.declared.fpr.Fpr.{Fpr}
use Rattle.wot_edge.specs.Record.{Record}
use Rattle.wot_edge.specs.Path.{Question, Use, asks}
use Rattle.wot_edge.specs.Sums.{use_in}
use Rattle.wot_reach.specs.Onward.{AreOnward}
use Rattle.wot_reach.specs.Reach.{number_at}
use Rattle.wot_first_path.specs.declared.node.Goal.{Goal}
use Rattle.wot_first_path.specs.declared.quest.Quest.{Quest as Told}

-- The paths that answer the question after what is used and have this residual amount, and which of the shortest of
-- them. Issuers are looked for within their reach only.
pub record Quest : Type 0 where
  pub question : Question
  pub used : Use
  pub reach : Fpr → ℕ
  pub least : ℕ
  pub goal : Goal

-- the reach of an issuer, by the table of a quest
abbrev pub reach_in : Told → Fpr → ℕ
reach_in quest = number_at quest.asked.reach.now

-- the program's quest, given what the network says
abbrev pub quest_of : (List ℕ → Record) → Told → Quest
quest_of network quest = record {
  question = asks (network quest.asked.uid.now) quest.asked.roots.now quest.asked.target.now;
  used = use_in quest.used.now;
  reach = reach_in quest;
  least = quest.least;
  goal = quest.goal;
}

-- the places of the quest's table are those of all edges that lead on
abbrev pub LeadsOn : (List ℕ → Record) → Told → Type 0
LeadsOn network quest = AreOnward network (reach_in quest) quest.asked.reach.now.onward

-- what holds for the quest whatever the network says
abbrev pub WhateverTold : Told → (Quest → Type 0) → Type 0
WhateverTold quest holds = (network : List ℕ → Record) → holds (quest_of network quest)
