use Rattle.std.proofs.Common.{sym}
use Rattle.wot_index.specs.Index.{stands_at}
use Rattle.wot_index.proofs.Logged.{logs_anew, logs_none, logs_these}
use Rattle.wot_index.proofs.Noted.{restamped_nowhere, restamped_there, noted_nowhere, noted_there}
use Rattle.wot_index.proofs.restamp.restamp_noted.Goals as goal

pub returns : goal.returns
returns c = record {
  restamped =
      restamped_there c.args.number.now c.args.stamp c.args.index.now c.args.certs.now.entries
      c.restamp_at.new.certs.entries c.in-Some.fpr c.requires.sorted c.requires.indexed c.if-not-index.false
      (sym c.in-Some.ensures.holder) c.restamp_at.ensures.restamped;
  logged =
      logs_these c.args.stamp _ (stands_at c.args.certs.now.entries c.args.number.now) c.args.log.now c.log_at.new.log
      (noted_there c.args.number.now c.args.index.now c.args.certs.now.entries c.in-Some.fpr c.requires.indexed
      c.if-not-index.false (sym c.in-Some.ensures.holder)) c.log_at.ensures.logged;
}

pub returns-in_default : goal.returns-in_default
returns-in_default c = record {
  restamped = restamped_nowhere c.args.number.now c.args.stamp c.args.index.now c.args.certs.now.entries
      c.requires.sorted c.requires.indexed c.if-not-index.false (sym c.in_default.ensures.holder);
  logged = logs_none c.args.stamp (stands_at c.args.certs.now.entries c.args.number.now) c.args.log.now c.requires.from
      (noted_nowhere c.args.number.now c.args.index.now c.args.certs.now.entries c.requires.indexed c.if-not-index.false
      (sym c.in_default.ensures.holder));
}

pub returns-then-not-index-clause-logged : goal.returns-then-not-index-clause-logged
returns-then-not-index-clause-logged c = logs_anew c.args.stamp (stands_at c.args.certs.now.entries c.args.number.now)
    c.args.log.now c.begin_anew.new.log c.requires.from c.begin_anew.ensures.from c.begin_anew.ensures.empty
