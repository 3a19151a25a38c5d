use Rattle.std.proofs.Common.{◌∙◌, ap, inr, List}
use Rattle.wot_component.specs.Certificate.{Certificate}
use Rattle.wot_index.specs.Log.{is_named_in}
use Rattle.wot_network.proofs.Fprs.{found_named}
use Rattle.wot_network.proofs.Steps.{no_progress, no_advance, progress_on, advance_on, done_on, named_split}
use Rattle.wot_network.proofs.refreshing.look_at_all.Goals as goal

pub certs-init : goal.certs-init
certs-init c = record {
  kept = c.requires.kept;
  progress = no_progress c.args.at.now.keyring.now c.args.at.now.t c.args.lines.now.entries c.args.steps.now.made;
  advances = no_advance c.args.at.now.keyring.now c.args.at.now.t c.args.lines.now.entries c.args.steps.now.made;
  others = λ q x f. inr (ap (λ (cs : List Certificate). is_named_in cs q)
      (c.into_iter-cert-iterator.ensures.into_iter_gives ∙ c.certs-cert-items.ensures.certs)
      ∙ found_named q c.args.at.now.keyring.now.certs x c.requires.named f);
}

pub certs-preserved : goal.certs-preserved
certs-preserved c =
    let i = c.certs.invariant in
    let e = c.in_ok-look_at.ensures in
    record {
      kept = e.kept;
      progress = progress_on c.args.at.now.keyring.now c.args.at.now.t c.args.lines.now.entries c.certs.lines.entries
          c.look_at.new.lines.entries c.args.steps.now.made c.certs.steps.made c.look_at.new.steps.made i.progress
          i.advances e.progress;
      advances = advance_on c.args.at.now.keyring.now c.args.at.now.t c.args.lines.now.entries c.certs.lines.entries
          c.look_at.new.lines.entries c.args.steps.now.made c.certs.steps.made c.look_at.new.steps.made i.advances
          e.advances;
      others = done_on c.args.at.now.keyring.now c.args.at.now.t c.certs.lines.entries c.look_at.new.lines.entries
          c.fpr.result (is_named_in c.certs.cert-iterator) (is_named_in c.next.new.self)
          (λ q h. named_split c.in-Some.cert.now c.fpr.result q c.certs.cert-iterator c.next.new.self
          c.in-Some.ensures.steps c.fpr.ensures.fpr h) i.others e.progress.stay e.done;
    }
