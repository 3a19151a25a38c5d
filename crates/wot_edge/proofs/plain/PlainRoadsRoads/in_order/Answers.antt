use Rattle.std.proofs.Common.{ap, ◌∙◌, sym, ℕ, Option}
use Rattle.std.specs.Prelude.{◌&&◌}
use Rattle.wot_edge.specs.Record.{Entry}
use Rattle.wot_edge.specs.Plain.{is_place}
use Rattle.wot_edge.proofs.PlainTold.{told_line, told_none, told_is_record}
use Rattle.wot_edge.proofs.plain.PlainRoadsRoads.in_order.Goals as goal

pub returns-in-Some-clause-in_order : goal.returns-in-Some-clause-in_order
returns-in-Some-clause-in_order c =
    c.is_in_order.ensures.in_order
    ∙ ap (λ (p : Option ℕ). c.in-Some.line.now.in_order && is_place p) c.place_in.ensures.place
    ∙ ap (λ (e : Entry). e.in_order)
    (sym (told_line c.args.self.now c.args.uid.now c.args.target.now c.in-Some.line.now (sym c.in-Some.ensures.line)))

pub returns-in-Some-clause-lawful : goal.returns-in-Some-clause-lawful
returns-in-Some-clause-lawful c id = told_is_record c.args.self.now id c.line_at.ensures.lines

pub returns-in-None-clause-in_order : goal.returns-in-None-clause-in_order
returns-in-None-clause-in_order c =
    ap (λ (e : Entry). e.in_order)
    (sym (told_none c.args.self.now c.args.uid.now c.args.target.now (sym c.in-None.ensures.line)))

pub returns-in-None-clause-lawful : goal.returns-in-None-clause-lawful
returns-in-None-clause-lawful c id = told_is_record c.args.self.now id c.line_at.ensures.lines
