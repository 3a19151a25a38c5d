use Rattle.wot_cache.specs.Question.{question_in}
use Rattle.wot_laws.proofs.ClaimsAccepted.{told_accepted, yes_spent}
use Rattle.wot_laws.proofs.SentBack.{missed_spelled}
use Rattle.wot_laws.proofs.questions.claims_of_absence_hold.Goals as goal

pub returns-clause-accepted : goal.returns-clause-accepted
returns-clause-accepted c s view target wanted uid sum claims labels misses =
    told_accepted c.least_tables_are_accepted.ensures.accepted (question_in s view target uid) wanted sum claims labels
    misses.0 misses.1 misses.2

pub returns-clause-nothing : goal.returns-clause-nothing
returns-clause-nothing c s view target uid sum claims labels can checks =
    yes_spent c.accepted_paths_leave_nothing.ensures.spent (question_in s view target uid) sum claims labels
    (c.record_is_lawful.ensures.lawful s.held.certs s.held.verdicts view.time uid can) checks

pub returns-clause-spelled : goal.returns-clause-spelled
returns-clause-spelled c s view name target wanted uid sum claims labels misses =
    missed_spelled (question_in s view target uid) wanted sum claims labels misses.0 misses.1 misses.2
