-- What contracts see of the values of a search.
use Rattle.std.specs.BTreeMap.{BTreeMap, get}
use Rattle.wot_types.specs.declared.fpr.Fpr.{Fpr}
use Rattle.wot_types.specs.Fpr.{fpr_cmp}
use Rattle.wot_first_path.specs.declared.node.Node.{Node}
use Rattle.wot_first_path.specs.Suffix.{Found}

-- what was found
abbrev pub look : BTreeMap Fpr Node → Found
look nodes fpr = get fpr_cmp nodes fpr
