use Rattle.std.proofs.Common.{sym}
use Rattle.wot_component.specs.Certificate.{sig_cmp, kept}
use Rattle.wot_component.specs.Fitting.{SigFits}
use Rattle.wot_component.specs.Sizes.{sig_size}
use Rattle.wot_component.proofs.AddedInOrder.{adding_less, adding_new, adding_ended, ahead_greater, ahead_none}
use Rattle.wot_component.proofs.AddingSigs.{one, sigs_few, sigs_equal}
use Rattle.wot_component.proofs.Walk.{sigs_total, kept_same}
use Rattle.wot_component.proofs.adds.added_sigs.Goals as goal

pub plus-adds-requires : goal.plus-adds-requires
plus-adds-requires c =
    sigs_few c.walk.adds _ _ _ c.walk.left.now c.walk.right.now c.in-Some.ys.now c.in-Some.y.now c.walk.invariant
    (ahead_none sig_cmp kept sigs_total kept_same one one sig_size SigFits _ _ _ _
    c.in_default-split_first.ensures.cases c.in-Some.ensures.cases.0 c.walk.invariant.right_rises) c.of_sig.ensures
    c.requires.few

pub plus-adds-requires-in-Greater : goal.plus-adds-requires-in-Greater
plus-adds-requires-in-Greater c =
    sigs_few c.walk.adds _ _ _ c.walk.left.now c.walk.right.now c.in-Some.ys.now c.in-Some.y.now c.walk.invariant
    (ahead_greater sig_cmp kept sigs_total kept_same one one sig_size SigFits _ _ _ _ _ _
    c.in-Some-split_first.ensures.cases.0 c.in-Some.ensures.cases.0 c.walk.invariant.left_rises
    c.walk.invariant.right_rises (sym c.in-Greater.ensures)) c.of_sig-in-Greater.ensures c.requires.few

pub walk-preserved-in_default-split_first : goal.walk-preserved-in_default-split_first
walk-preserved-in_default-split_first c =
    adding_new sig_cmp kept sigs_total kept_same one one sig_size SigFits c.walk.adds _ _ _ _ c.walk.left.now
    c.walk.right.now c.in-Some.ys.now c.in-Some.y.now c.walk.invariant
    (ahead_none sig_cmp kept sigs_total kept_same one one sig_size SigFits _ _ _ _
    c.in_default-split_first.ensures.cases c.in-Some.ensures.cases.0 c.walk.invariant.right_rises)
    c.plus-adds.ensures c.of_sig.ensures

pub walk-preserved : goal.walk-preserved
walk-preserved c =
    adding_new sig_cmp kept sigs_total kept_same one one sig_size SigFits c.walk.adds _ _ _ _ c.walk.left.now
    c.walk.right.now c.in-Some.ys.now c.in-Some.y.now c.walk.invariant
    (ahead_greater sig_cmp kept sigs_total kept_same one one sig_size SigFits _ _ _ _ _ _
    c.in-Some-split_first.ensures.cases.0 c.in-Some.ensures.cases.0 c.walk.invariant.left_rises
    c.walk.invariant.right_rises (sym c.in-Greater.ensures)) c.plus-adds-in-Greater.ensures
    c.of_sig-in-Greater.ensures

pub walk-preserved-in-Less : goal.walk-preserved-in-Less
walk-preserved-in-Less c =
    adding_less sig_cmp kept sigs_total kept_same one one sig_size SigFits c.walk.adds _ _ _ _ _ _ _ _ c.walk.invariant
    c.in-Some-split_first.ensures.cases.0 c.in-Some.ensures.cases.0 (sym c.in-Less.ensures)

pub returns : goal.returns
returns c = adding_ended sig_cmp kept sigs_total kept_same one one sig_size SigFits c.walk.adds _ _ _ _ c.walk.invariant
    c.in_default.ensures.cases

pub walk-preserved-in-Equal : goal.walk-preserved-in-Equal
walk-preserved-in-Equal c =
    sigs_equal c.walk.adds _ _ _ _ _ _ _ _ c.walk.invariant c.in-Some-split_first.ensures.cases.0
    c.in-Some.ensures.cases.0 (sym c.in-Equal.ensures)
