use Rattle.std.proofs.Common.{◌≤◌, refl, sym, subst, min, ◌+◌, ◌-◌, ◌^◌}
use Rattle.wot_network.specs.Net.{Net, AreFit, StayCurrent, marks_of, stale_edges}
use Rattle.wot_network.proofs.Settled.{was, stays_on, right_now, marks_now, fits_now, open_now, made_enough}
use Rattle.wot_network.proofs.network.Network.refresh.Goals as goal

pub look_at_stale-requires-clause-kept : goal.look_at_stale-requires-clause-kept
look_at_stale-requires-clause-kept c = record {
  fit = subst (λ (n : Net). AreFit c.args.keyring.now n.lines) (sym c.self.view_is) c.requires.fits.lines;
  lawful = c.self.invariant.0;
  unbroken = c.self.invariant.1;
}

pub returns-in_err-look_at_stale-clause-stay : goal.returns-in_err-look_at_stale-clause-stay
returns-in_err-look_at_stale-clause-stay c =
    subst (λ (n : Net). StayCurrent c.args.keyring.now c.args.t (marks_of n.lines)
    (marks_of c.look_at_stale.new.lines.entries)) c.self.view_is c.in_err-look_at_stale.ensures.progress.stay

pub invariant_of-self-2 : goal.invariant_of-self-2
invariant_of-self-2 c =
    let k = c.args.keyring.now in
    let old = c.look_at_stale.new.lines.entries in
    let new = c.drop_absent.new.lines.entries in
    let kept = c.in_ok-look_at_stale.ensures.kept in (
      λ q l f. kept.lawful q l (was k c.args.t old new c.drop_absent.ensures.present q l f),
      open_now k c.args.t old new c.drop_absent.ensures.present c.look_at_stale.new.window kept.unbroken,
    )

pub returns-clause-right : goal.returns-clause-right
returns-clause-right c =
    let e = c.in_ok-look_at_stale.ensures in
    right_now c.args.keyring.now c.args.t c.look_at_stale.new.lines.entries c.drop_absent.new.lines.entries
    c.drop_absent.ensures.present e.done e.kept.fit _ refl refl

pub returns-clause-fits : goal.returns-clause-fits
returns-clause-fits c =
    let e = c.in_ok-look_at_stale.ensures in
    fits_now c.args.keyring.now c.args.t c.look_at_stale.new.lines.entries c.drop_absent.new.lines.entries
    c.drop_absent.ensures.present e.done e.kept.fit _ refl c.changes-self-inside.ensures.changes

pub returns-clause-marks : goal.returns-clause-marks
returns-clause-marks c =
    marks_now c.args.keyring.now c.args.t c.look_at_stale.new.lines.entries c.drop_absent.new.lines.entries
    c.drop_absent.ensures.present c.in_ok-look_at_stale.ensures.done

pub returns-clause-stay : goal.returns-clause-stay
returns-clause-stay c =
    subst (λ (n : Net). StayCurrent c.args.keyring.now c.args.t (marks_of n.lines)
    (marks_of c.drop_absent.new.lines.entries)) c.self.view_is
    (stays_on c.args.keyring.now c.args.t c.look_at_stale.new.lines.entries c.drop_absent.new.lines.entries
    c.drop_absent.ensures.present c.self.inside.lines.entries c.in_ok-look_at_stale.ensures.progress.stay)

pub returns-clause-made_least : goal.returns-clause-made_least
returns-clause-made_least c =
    subst (λ (n : Net). min (c.args.steps.now.made + stale_edges (marks_of n.lines) c.args.t c.args.keyring.now)
    (2 ^ 64 - 1) ≤ c.look_at_stale.new.steps.made) c.self.view_is
    (made_enough c.args.keyring.now c.args.t c.self.inside.lines.entries c.look_at_stale.new.lines.entries
    c.args.steps.now.made c.look_at_stale.new.steps.made c.ordered.ensures.sorted c.in_ok-look_at_stale.ensures.done
    c.in_ok-look_at_stale.ensures.advances)
