use Rattle.std.proofs.Common.{◌+◌}
use Rattle.wot_index.specs.Index.{stands_at}
use Rattle.wot_keyring.proofs.InvariantKept.{restamped_keyring, restamped_totals}
use Rattle.wot_index.proofs.Logged.{one_on, logged_on, restamps_noted}
use Rattle.wot_index.proofs.Noted.{indexed_restamped}
use Rattle.wot_keyring.proofs.keyring.Keyring.altered_at.Goals as goal

pub invariant_of-self : goal.invariant_of-self
invariant_of-self c = rw c.restamp_noted.ensures.restamped (
  restamped_keyring _ c.args.number.now c.self.invariant.0,
  restamped_totals _ c.args.number.now _ _ c.self.invariant.1,
  indexed_restamped c.self.inside.index c.args.number.now _ c.self.inside.certs.entries c.self.invariant.2,
  logged_on c.self.inside.log c.restamp_noted.new.log c.self.inside.certs.entries _ c.self.inside.changes
      (c.self.inside.changes + 1) (stands_at c.self.inside.certs.entries c.args.number.now)
      (one_on c.self.inside.changes) c.self.invariant.0.stamped
      (restamps_noted c.args.number.now (c.self.inside.changes + 1) c.self.inside.certs.entries)
      c.restamp_noted.ensures.logged c.self.invariant.3,
)
