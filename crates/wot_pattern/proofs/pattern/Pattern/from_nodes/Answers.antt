use Rattle.wot_pattern.specs.Nodes.{tokens_of}
use Rattle.wot_pattern.proofs.BuiltNodes.{tree_is, one_tree}
use Rattle.wot_pattern.proofs.pattern.Pattern.from_nodes.Goals as goal

pub invariant_of-result : goal.invariant_of-result
invariant_of-result c = one_tree (tokens_of c.args.nodes.items) c.requires.0 c.requires.1

pub returns : goal.returns
returns c = λ r e. tree_is (tokens_of c.args.nodes.items) r e
