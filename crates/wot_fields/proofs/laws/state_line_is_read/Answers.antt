use Rattle.std.proofs.Common.{arith}
use Rattle.wot_fields.proofs.StateLines.{bad_printed, close_printed, good_printed, import_printed, root_printed}
use Rattle.wot_fields.proofs.StateLines.{time_printed, unjudge_printed}
use Rattle.wot_fields.proofs.laws.state_line_is_read.Goals as goal

pub returns-in-Import : goal.returns-in-Import
returns-in-Import c =
    rw c.in-Import.is (import_printed c.in-Import.octets (rw c.items.ensures.whole at c.hex_is_read.ensures))

pub returns-in-Good : goal.returns-in-Good
returns-in-Good c =
    rw c.in-Good.is (good_printed c.in-Good.number c.in-Good.fpr c.printed_is_read.ensures.read_back
    c.printed_is_read-in-Good.ensures.read_back)

pub returns-in-Bad : goal.returns-in-Bad
returns-in-Bad c = rw c.in-Bad.is (bad_printed c.in-Bad.number c.printed_is_read-in-Bad.ensures.read_back)

pub returns-in-Unjudge : goal.returns-in-Unjudge
returns-in-Unjudge c =
    rw c.in-Unjudge.is (unjudge_printed c.in-Unjudge.number c.printed_is_read-in-Unjudge.ensures.read_back)

pub returns-in-Time : goal.returns-in-Time
returns-in-Time c =
    rw c.in-Time.is (time_printed c.in-Time.view c.in-Time.t c.name_is_valid.ensures c.decimal_is_read.ensures
    (omega arith))

pub returns-in-Root : goal.returns-in-Root
returns-in-Root c =
    rw c.in-Root.is (root_printed c.in-Root.view c.in-Root.fpr c.in-Root.amount c.name_is_valid-in-Root.ensures
    c.printed_is_read-in-Root.ensures.read_back (rw c.from.ensures at c.decimal_is_read-in-Root.ensures) (omega arith))

pub returns-in-Close : goal.returns-in-Close
returns-in-Close c = rw c.in-Close.is (close_printed c.in-Close.view c.name_is_valid-in-Close.ensures)
