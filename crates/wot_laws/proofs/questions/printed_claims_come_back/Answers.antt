use Rattle.wot_cache.specs.Question.{question_in}
use Rattle.wot_laws.proofs.ClaimsAccepted.{told_accepted}
use Rattle.wot_laws.proofs.SentBack.{comes_back}
use Rattle.wot_laws.proofs.questions.printed_claims_come_back.Goals as goal

pub returns : goal.returns
returns c = record {
  back = comes_back
      (λ s view target wanted uid sum claims labels misses.
      told_accepted c.least_tables_are_accepted.ensures.accepted (question_in s view target uid) wanted sum claims
      labels misses.0 misses.1 misses.2)
      (λ s view uid target can. c.record_is_lawful.ensures.lawful s.held.certs s.held.verdicts view.time uid can)
      c.check_is_one.ensures.one c.args.check.now c.printed_claim_is_read.ensures.printed;
}
