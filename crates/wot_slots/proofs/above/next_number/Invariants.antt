use Rattle.std.proofs.Common.{◌≡◌, ◌≤◌, ◌-◌, length, true}
use Rattle.std.specs.Option.{IfSome}
use Rattle.wot_types.specs.declared.number.SigNumber.{SigNumber}
use Rattle.wot_slots.specs.Above.{IsCandidate, is_below}
use Rattle.wot_slots.specs.Near.{holder_in}
use Rattle.wot_slots.proofs.Nexts.{EndsAt, NoneBefore}
use Rattle.wot_slots.proofs.above.next_number.Given as goal

abbrev pub invariant-slots : goal.invariant-slots
invariant-slots g l = record {
  within : l.end ≤ length l.row.items;
  candidate : IfSome l.best (IsCandidate (holder_in l.row.items l.rest.entries) l.last);
  ends : EndsAt l.row.items l.best l.end;
  lower : (q : SigNumber) → is_below l.best q ≡ true → is_below l.initial.best q ≡ true;
  none : NoneBefore l.row.items l.last l.best l.at;
}

abbrev pub decreases-slots : goal.decreases-slots
decreases-slots g l = length l.row.items - l.at
