-- The tree that a list of nodes stands for. Each node comes after those that it is made of.
use Rattle.std.specs.Prelude.{◌≡◌, List, map}
use Rattle.wot_pattern.specs.declared.node.Leaf.{Leaf}
use Rattle.wot_pattern.specs.declared.node.Leaf.TheVariants as l
use Rattle.wot_pattern.specs.declared.node.Node.{Node}
use Rattle.wot_pattern.specs.declared.node.Node.TheVariants as n
use Rattle.wot_pattern.specs.Reading.{Atom, exactly, any, start, end, range}
use Rattle.wot_pattern.specs.Tokens.{Token, tokens, tree}
use Rattle.wot_pattern.specs.Tokens as t

abbrev pub atom_of : Leaf → Atom
atom_of (l.Exactly c) = exactly c
atom_of l.Any = any
atom_of l.Start = start
atom_of l.End = end
atom_of (l.Range negated items) = range negated items.items

abbrev pub token_of : Node → Token
token_of n.Nothing = t.nothing
token_of (n.Single x) = t.single (atom_of x)
token_of n.Sequence = t.sequence
token_of n.Either = t.either
token_of n.Star = t.star
token_of n.Plus = t.plus
token_of n.Optional = t.optional

abbrev pub tokens_of : List Node → List Token
tokens_of nodes = map token_of nodes

-- these are the nodes of one tree
abbrev pub OneTree : List Node → Type 0
OneTree nodes = tokens_of nodes ≡ tokens (tree (tokens_of nodes))
