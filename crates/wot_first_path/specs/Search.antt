-- One layer of a search, given what the network says.
use Rattle.std.specs.Prelude.{ℕ, List}
use Rattle.wot_edge.specs.Record.{Record}
use Rattle.wot_first_path.specs.declared.search.Search.{Search}
use Rattle.wot_first_path.specs.Quest.{Quest, quest_of}

-- its quest
abbrev pub quest_in : {R : Type 0} → (R → List ℕ → Record) → Search R → Quest
quest_in network search = quest_of (network search.roads.now) search.quest.now

-- what the network says if asked for its user ID
abbrev pub record_in : {R : Type 0} → (R → List ℕ → Record) → Search R → Record
record_in network search = network search.roads.now search.quest.now.asked.uid.now
