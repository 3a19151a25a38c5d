use Rattle.std.proofs.Common.{ap, ◌∙◌, sym}
use Rattle.wot_edge.specs.Record.{Entry}
use Rattle.wot_edge.proofs.PlainTold.{told_line, told_none}
use Rattle.wot_edge.proofs.plain.PlainRoadsRoads.place.Goals as goal

pub returns-in-Some : goal.returns-in-Some
returns-in-Some c = record {
  place = c.place_in.ensures.place
      ∙ ap (λ (e : Entry). e.place)
      (sym (told_line c.args.self.now c.args.uid.now c.args.target.now c.in-Some.field-0.now
      (sym c.in-Some.ensures.line)));
}

pub returns-in-None : goal.returns-in-None
returns-in-None c =
    record {
      place = ap (λ (e : Entry). e.place)
          (sym (told_none c.args.self.now c.args.uid.now c.args.target.now (sym c.in-None.ensures.line)));
    }
