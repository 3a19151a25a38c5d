use Rattle.std.proofs.Common.{length}
use Rattle.wot_index.specs.Index.{stands_among, NotesOn, SaysSame, StillLogged}
use Rattle.wot_index.proofs.noting.note_certs.Given as goal

abbrev pub invariant-certs : goal.invariant-certs
invariant-certs l = record {
  noted : NotesOn l.initial.index l.index (stands_among l.left) (stands_among l.certs);
  log : StillLogged l.initial.index l.initial.log.items l.index l.log.items;
  verdicts : SaysSame l.initial.index.verdicts l.index.verdicts;
}

abbrev pub decreases-certs : goal.decreases-certs
decreases-certs l = length l.left
