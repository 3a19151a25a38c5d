use Rattle.wot_policy.specs.Kept.{rows_of}
use Rattle.wot_keyring.proofs.HeldChanges.{imported_in_place}
use Rattle.wot_keyring.proofs.Imports.{judging_still, next_itself}
use Rattle.wot_keyring.proofs.keyring.Keyring.load.Goals as goal

pub take-requires : goal.take-requires
take-requires g c = record {
  countable = c.requires.countable;
  judging = c.requires.judging;
}

pub returns-clause-held : goal.returns-clause-held
returns-clause-held g c =
    imported_in_place c.take.result (rows_of c.args.policy.now) c.args.self.now c.take.new.self c.args.bytes.now
    c.in-Ok.found.certs
    c.take.ensures.united c.in-Ok.ensures.read.spelled

pub returns-clause-next : goal.returns-clause-next
returns-clause-next g c = c.take.ensures.next

pub returns-clause-judging : goal.returns-clause-judging
returns-clause-judging g c = c.take.ensures.judging

pub returns-in-Err-clause-next : goal.returns-in-Err-clause-next
returns-in-Err-clause-next g c = next_itself c.args.self.now

pub returns-in-Err-clause-judging : goal.returns-in-Err-clause-judging
returns-in-Err-clause-judging g c = judging_still _ c.args.policy.now c.args.self.now c.requires.judging

pub returns-then-not-is_entry-clause-next : goal.returns-then-not-is_entry-clause-next
returns-then-not-is_entry-clause-next g c = next_itself c.args.self.now

pub returns-then-not-is_entry-clause-judging : goal.returns-then-not-is_entry-clause-judging
returns-then-not-is_entry-clause-judging g c = judging_still _ c.args.policy.now c.args.self.now c.requires.judging
