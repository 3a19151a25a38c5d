use Rattle.std.proofs.Common.{◌≡◌, ◌≤◌, length, vec_capacity}
use Rattle.std.specs.Str.{IsUtf8, chars}
use Rattle.std.specs.Str.Iter.{chars_rest}
use Rattle.wot_pattern.specs.Reading.{Reading}
use Rattle.wot_pattern.specs.Tokens.{tokens}
use Rattle.wot_pattern.specs.Nodes.{tokens_of}
use Rattle.wot_pattern.proofs.Walk.{Walking}
use Rattle.wot_pattern.proofs.matcher.finds.Given as goal

abbrev pub invariant-places : goal.invariant-places
invariant-places l = record {
  can : (goal.iterator-places).can_next l.rest;
  ends : (goal.iterator-places).is_finite l.rest;
  utf8 : IsUtf8 (chars_rest l.rest);
  slots : length l.slots ≡ length l.nodes;
  ready : vec_capacity l.fn.ready ≤ vec_capacity l.ready;
  begins : vec_capacity l.fn.begins ≤ vec_capacity l.begins;
  walks : (r : Reading) → tokens_of l.nodes ≡ tokens r
      → Walking (chars l.text) r (chars (chars_rest l.rest)) l.first l.slots;
}
