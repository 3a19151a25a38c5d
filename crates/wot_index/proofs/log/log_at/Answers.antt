use Rattle.wot_keyring_spec.specs.Keyring.{is_fpr}
use Rattle.wot_index.proofs.Logged.{logs_one, logs_anew}
use Rattle.wot_index.proofs.log.log_at.Goals as goal

pub returns-then-len-capacity : goal.returns-then-len-capacity
returns-then-len-capacity c =
    record {
      logged = logs_one c.args.stamp c.args.fpr c.args.log.now c.put.new.log c.requires.from c.put.ensures.from
          c.put.ensures.entries;
    }

pub returns-else-len-capacity : goal.returns-else-len-capacity
returns-else-len-capacity c =
    record {
      logged = logs_anew c.args.stamp (is_fpr c.args.fpr) c.args.log.now c.begin_anew.new.log c.requires.from
          c.begin_anew.ensures.from c.begin_anew.ensures.empty;
    }
