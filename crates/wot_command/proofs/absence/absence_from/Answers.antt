use Rattle.std.proofs.Common.{◌<◌, ◌^◌, List, length, subst, sym}
use Rattle.wot_edge.specs.declared.path.Path.{Path}
use Rattle.wot_edge.specs.Path.{asks}
use Rattle.wot_network.specs.Net.{network_for}
use Rattle.wot_network.specs.Roads.{present_of}
use Rattle.wot_plain.proofs.Absences.{told_misses}
use Rattle.wot_command.proofs.ReachedOrMissed.{never_left, told_reached}
use Rattle.wot_command.proofs.absence.absence_from.Goals as goal

pub authenticate-requires : goal.authenticate-requires
authenticate-requires c = record { wanted = c.requires.wanted; few = c.requires.few }

pub returns-then-wanted-answer : goal.returns-then-wanted-answer
returns-then-wanted-answer c =
    let q = asks (network_for (present_of c.args.parts.now.roads) c.args.uid.now) c.args.parts.now.roots.now
    c.args.target.now in
    record {
      misses = told_reached q c.args.wanted c.in_ok-answer.answer.sum c.in_ok-answer.answer.paths
          c.in_ok-answer.ensures.answer c.in_ok-answer.ensures.sum c.if-wanted-answer.true;
    }

pub absence-requires : goal.absence-requires
absence-requires c =
    let q = asks (network_for (present_of c.args.parts.now.roads) c.args.uid.now) c.args.parts.now.roots.now
    c.args.target.now in
    record {
      few = subst (λ (ps : List Path). length ps < 2 ^ 24) (sym c.as_slice-paths.ensures.items)
          (c.answers_are_few.ensures.few q c.in_ok-answer.answer.paths c.in_ok-answer.ensures.answer.each
          c.len-count.ensures.roots c.requires.few);
    }

pub unreachable-requires : goal.unreachable-requires
unreachable-requires c =
    let q = asks (network_for (present_of c.args.parts.now.roads) c.args.uid.now) c.args.parts.now.roots.now
    c.args.target.now in
    never_left q c.args.wanted c.in_ok-answer.answer.sum c.in_ok-answer.answer.paths c.as_slice-paths.result.now
    c.in_ok-table.field-0 c.in_ok-answer.ensures.answer c.in_ok-answer.ensures.sum c.if-wanted-answer.false
    c.as_slice-paths.ensures.items c.in_ok-table.ensures.made c.in-None.is

pub returns : goal.returns
returns c = record {
  misses = told_misses (asks (network_for (present_of c.args.parts.now.roads) c.args.uid.now) c.args.parts.now.roots.now
      c.args.target.now) c.args.wanted
      c.in_ok-answer.answer.sum c.in_ok-answer.answer.paths c.as_slice-paths.result.now c.in_ok-table.field-0
      c.in-Some.table c.absence_reply.result
      c.in_ok-answer.ensures.answer c.in_ok-answer.ensures.sum c.if-wanted-answer.false c.as_slice-paths.ensures.items
      c.in_ok-table.ensures.made
      c.in-Some.is c.absence_reply.ensures.reported;
}
