use Rattle.std.proofs.Common.{rules}
use Rattle.wot_plain.proofs.Absences.{first_put, first_some}
use Rattle.wot_command.proofs.checking.claimed_table.Goals as goal

pub set-requires : goal.set-requires
set-requires c = record {
  some = first_some c.args.labels.now c.labels.left.now c.in-Some.others.now c.in-Some.label.now c.labels.table
      c.requires.table (search rules) c.labels.invariant;
}

pub labels-preserved : goal.labels-preserved
labels-preserved c =
    first_put c.args.labels.now c.labels.left.now c.in-Some.others.now c.in-Some.label.now c.labels.table c.set.new.self
    c.requires.table (search rules) c.labels.invariant c.in_ok-set.ensures.set
