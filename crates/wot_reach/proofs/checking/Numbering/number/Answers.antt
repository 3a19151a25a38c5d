use Rattle.std.proofs.Common.{◌<◌, length, sym, subst, arith}
use Rattle.wot_types.specs.Fpr.{fpr_cmp}
use Rattle.wot_edge.specs.Record.{Has}
use Rattle.wot_reach.proofs.Checked.{keys_inserted}
use Rattle.wot_edge.specs.RowLaws.{has_at}
use Rattle.wot_reach.proofs.checking.Numbering.number.Goals as goal

pub returns : goal.returns
returns c =
    let fprs = c.args.self.fprs.items in
    let next = c.args.self.next in
    let lt : next < length fprs = omega (arith, c.if-self-len.false) in
    let has = subst (Has fprs) (sym c.index.ensures) (has_at fprs next c.index.result.now lt) in
    record {
      making = λ network roots.
          rw c.in_ok-put.ensures.entries
          (keys_inserted fpr_cmp fprs c.args.self.table c.index.result.now c.unwrap_or-number.result c.requires.keys
          has);
    }
