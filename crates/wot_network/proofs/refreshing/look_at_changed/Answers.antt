use Rattle.wot_types.specs.declared.fpr.Fpr.{Fpr}
use Rattle.wot_index.specs.Log.{is_listed}
use Rattle.wot_network.proofs.Steps.{progress_on, advance_on, done_on, listed_split}
use Rattle.wot_network.proofs.refreshing.look_at_changed.Goals as goal

pub left-preserved : goal.left-preserved
left-preserved c =
    let i = c.left.invariant in
    let e = c.in_ok-look_at.ensures in
    record {
      kept = e.kept;
      progress = progress_on c.args.at.now.keyring.now c.args.at.now.t c.args.lines.now.entries c.left.lines.entries
          c.look_at.new.lines.entries c.args.steps.now.made c.left.steps.made c.look_at.new.steps.made i.progress
          i.advances e.progress;
      advances = advance_on c.args.at.now.keyring.now c.args.at.now.t c.args.lines.now.entries c.left.lines.entries
          c.look_at.new.lines.entries c.args.steps.now.made c.left.steps.made c.look_at.new.steps.made i.advances
          e.advances;
      others = done_on c.args.at.now.keyring.now c.args.at.now.t c.left.lines.entries c.look_at.new.lines.entries
          c.in-Some.entry.now.1 (λ (q : Fpr). is_listed q c.left.left.now) (λ (q : Fpr). is_listed q c.in-Some.rest.now)
          (λ q h. listed_split c.in-Some.entry.now q c.left.left.now c.in-Some.rest.now c.in-Some.ensures.cases.0 h)
          i.others e.progress.stay e.done;
    }
