use Rattle.std.proofs.Common.{sym}
use Rattle.wot_component.specs.Certificate.{part_cmp, unite_part}
use Rattle.wot_component.specs.Fitting.{PartFits}
use Rattle.wot_component.specs.Sizes.{part_items, part_signatures, part_size}
use Rattle.wot_component.proofs.AddedInOrder.{adding_less, adding_new, adding_ended, ahead_greater, ahead_none}
use Rattle.wot_component.proofs.AddingParts.{parts_few, parts_equal, parts_few_equal, union_few, part_few, brings_same}
use Rattle.wot_component.proofs.Walk.{parts_total, parts_same}
use Rattle.wot_component.proofs.adds.added_parts.Goals as goal

pub plus-adds-requires : goal.plus-adds-requires
plus-adds-requires c =
    parts_few c.walk.adds _ _ _ c.walk.left.now c.walk.right.now c.in-Some.ys.now c.in-Some.y.now c.walk.invariant
    (ahead_none part_cmp unite_part parts_total parts_same part_items part_signatures part_size PartFits _ _ _ _
    c.in_default-split_first.ensures.cases c.in-Some.ensures.cases.0 c.walk.invariant.right_rises) c.of_part.ensures
    c.requires.few

pub plus-adds-requires-in-Greater : goal.plus-adds-requires-in-Greater
plus-adds-requires-in-Greater c =
    parts_few c.walk.adds _ _ _ c.walk.left.now c.walk.right.now c.in-Some.ys.now c.in-Some.y.now c.walk.invariant
    (ahead_greater part_cmp unite_part parts_total parts_same part_items part_signatures part_size PartFits _ _ _ _ _ _
    c.in-Some-split_first.ensures.cases.0 c.in-Some.ensures.cases.0 c.walk.invariant.left_rises
    c.walk.invariant.right_rises (sym c.in-Greater.ensures)) c.of_part-in-Greater.ensures c.requires.few

pub walk-preserved-in_default-split_first : goal.walk-preserved-in_default-split_first
walk-preserved-in_default-split_first c =
    adding_new part_cmp unite_part parts_total parts_same part_items part_signatures part_size PartFits c.walk.adds _ _
    _ _ c.walk.left.now c.walk.right.now c.in-Some.ys.now c.in-Some.y.now c.walk.invariant
    (ahead_none part_cmp unite_part parts_total parts_same part_items part_signatures part_size PartFits _ _ _ _
    c.in_default-split_first.ensures.cases c.in-Some.ensures.cases.0 c.walk.invariant.right_rises)
    c.plus-adds.ensures c.of_part.ensures

pub walk-preserved : goal.walk-preserved
walk-preserved c =
    adding_new part_cmp unite_part parts_total parts_same part_items part_signatures part_size PartFits c.walk.adds _ _
    _ _ c.walk.left.now c.walk.right.now c.in-Some.ys.now c.in-Some.y.now c.walk.invariant
    (ahead_greater part_cmp unite_part parts_total parts_same part_items part_signatures part_size PartFits _ _ _ _ _ _
    c.in-Some-split_first.ensures.cases.0 c.in-Some.ensures.cases.0 c.walk.invariant.left_rises
    c.walk.invariant.right_rises (sym c.in-Greater.ensures)) c.plus-adds-in-Greater.ensures
    c.of_part-in-Greater.ensures

pub walk-preserved-in-Less : goal.walk-preserved-in-Less
walk-preserved-in-Less c =
    adding_less part_cmp unite_part parts_total parts_same part_items part_signatures part_size PartFits c.walk.adds _ _
    _ _ _ _ _ _ c.walk.invariant c.in-Some-split_first.ensures.cases.0 c.in-Some.ensures.cases.0 (sym c.in-Less.ensures)

pub returns : goal.returns
returns c = adding_ended part_cmp unite_part parts_total parts_same part_items part_signatures part_size PartFits
    c.walk.adds _ _ _ _ c.walk.invariant c.in_default.ensures.cases

pub of_part-requires-clause-few : goal.of_part-requires-clause-few
of_part-requires-clause-few c =
    part_few c.walk.adds _ _ c.walk.left.now c.walk.right.now c.in-Some.ys.now c.in-Some.y.now c.walk.invariant
    (ahead_none part_cmp unite_part parts_total parts_same part_items part_signatures part_size PartFits _ _ _ _
    c.in_default-split_first.ensures.cases c.in-Some.ensures.cases.0 c.walk.invariant.right_rises) c.requires.few

pub of_part-requires-in-Greater-clause-few : goal.of_part-requires-in-Greater-clause-few
of_part-requires-in-Greater-clause-few c =
    part_few c.walk.adds _ _ c.walk.left.now c.walk.right.now c.in-Some.ys.now c.in-Some.y.now c.walk.invariant
    (ahead_greater part_cmp unite_part parts_total parts_same part_items part_signatures part_size PartFits _ _ _ _ _ _
    c.in-Some-split_first.ensures.cases.0 c.in-Some.ensures.cases.0 c.walk.invariant.left_rises
    c.walk.invariant.right_rises (sym c.in-Greater.ensures)) c.requires.few

pub added_sigs-requires-clause-few : goal.added_sigs-requires-clause-few
added_sigs-requires-clause-few c =
    rw (c.sigs.ensures.sigs, c.sigs-in-Equal.ensures.sigs)
    (union_few c.walk.adds _ _ c.walk.left.now c.walk.right.now c.in-Some-split_first.x.now c.in-Some-split_first.xs.now
    c.in-Some.y.now c.in-Some.ys.now c.walk.invariant c.in-Some-split_first.ensures.cases.0
    c.in-Some.ensures.cases.0 (sym c.in-Equal.ensures) c.requires.few)

pub plus-adds-requires-in-Equal : goal.plus-adds-requires-in-Equal
plus-adds-requires-in-Equal c =
    parts_few_equal c.walk.adds c.added_sigs.result _ _ c.walk.left.now c.walk.right.now c.in-Some-split_first.x.now
    c.in-Some-split_first.xs.now c.in-Some.y.now c.in-Some.ys.now c.walk.invariant c.in-Some-split_first.ensures.cases.0
    c.in-Some.ensures.cases.0 (sym c.in-Equal.ensures)
    (brings_same _ _ _ _ _ c.sigs.ensures.sigs c.sigs-in-Equal.ensures.sigs c.added_sigs.ensures) c.requires.few

pub walk-preserved-in-Equal : goal.walk-preserved-in-Equal
walk-preserved-in-Equal c =
    parts_equal c.walk.adds c.plus-adds-in-Equal.result c.added_sigs.result _ _ c.walk.left.now c.walk.right.now
    c.in-Some-split_first.x.now c.in-Some-split_first.xs.now c.in-Some.y.now c.in-Some.ys.now c.walk.invariant
    c.in-Some-split_first.ensures.cases.0 c.in-Some.ensures.cases.0 (sym c.in-Equal.ensures)
    c.plus-adds-in-Equal.ensures
    (brings_same _ _ _ _ _ c.sigs.ensures.sigs c.sigs-in-Equal.ensures.sigs c.added_sigs.ensures)
