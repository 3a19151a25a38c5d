use Rattle.std.proofs.Common.{◌+◌, sym, refl}
use Rattle.wot_keyring_spec.specs.Keyring.{is_fpr}
use Rattle.wot_keyring.proofs.InvariantKept.{removed_keyring, removed_totals, kept_small, few_octets}
use Rattle.wot_keyring.proofs.Altered.{removed_once}
use Rattle.wot_keyring.proofs.HeldChanges.{removed_in_place}
use Rattle.wot_index.proofs.Noted.{indexed_without}
use Rattle.wot_index.proofs.Later.{later_itself, removed_later_now}
use Rattle.wot_index.proofs.Logged.{one_on, logged_on, restamps_none}
use Rattle.wot_keyring.proofs.keyring.Keyring.remove.Goals as goal

pub signatures-signatures-requires : goal.signatures-signatures-requires
signatures-signatures-requires c =
    few_octets _ (kept_small _ (is_fpr c.args.fpr.now) c.in-Some.kept.now c.self.invariant.0
    (sym c.in-Some.ensures.found))

pub overflow_sub-self : goal.overflow_sub-self
overflow_sub-self c =
    (removed_totals _ c.args.fpr.now c.in-Some.kept.now _ _ _ _ c.self.invariant.0 c.self.invariant.1
    c.in-Some.ensures.found c.size-octets.ensures.size c.signatures-signatures.ensures.signatures).size

pub overflow_sub-self-2 : goal.overflow_sub-self-2
overflow_sub-self-2 c =
    (removed_totals _ c.args.fpr.now c.in-Some.kept.now _ _ _ _ c.self.invariant.0 c.self.invariant.1
    c.in-Some.ensures.found c.size-octets.ensures.size c.signatures-signatures.ensures.signatures).signed

pub invariant_of-self : goal.invariant_of-self
invariant_of-self c = rw (c.take_out.ensures.out, c.forget_cert.ensures.verdicts) (
  removed_keyring _ c.args.fpr.now c.self.invariant.0 (rw c.take_out.ensures.out at c.take_out.ensures.sorted),
  (removed_totals _ c.args.fpr.now c.in-Some.kept.now _ _ _ _ c.self.invariant.0 c.self.invariant.1
      c.in-Some.ensures.found c.size-octets.ensures.size c.signatures-signatures.ensures.signatures).rest,
  indexed_without c.self.inside.index (record {
    verdicts = c.forget_cert.new.verdicts;
    exact = c.self.inside.index.exact;
  }) c.self.inside.certs.entries c.args.fpr.now c.in-Some.kept.now
      c.self.invariant.0.sorted c.in-Some.ensures.found refl c.forget_cert.ensures.forgotten c.self.invariant.2,
  logged_on c.self.inside.log c.log_at.new.log c.self.inside.certs.entries _ c.self.inside.changes
      (c.self.inside.changes + 1) (is_fpr c.args.fpr.now) (one_on c.self.inside.changes) c.self.invariant.0.stamped
      (restamps_none c.args.fpr.now (c.self.inside.changes + 1) c.self.inside.certs.entries c.self.invariant.0.sorted)
      c.log_at.ensures.logged c.self.invariant.3,
)

pub returns-clause-later : goal.returns-clause-later
returns-clause-later c =
    rw c.forget_cert.ensures.verdicts (removed_later_now _ c.args.self.now c.args.fpr.now c.take_out.new.certs.entries
    c.self.view_is c.self.invariant.0 c.take_out.ensures.out)

pub returns-in_default-clause-later : goal.returns-in_default-clause-later
returns-in_default-clause-later c = later_itself c.args.self.now

pub returns-clause-counted : goal.returns-clause-counted
returns-clause-counted c =
    rw c.forget_cert.ensures.verdicts (removed_once _ c.args.self.now c.args.fpr.now c.in-Some.kept.now
    c.take_out.new.certs.entries c.self.view_is c.self.invariant.0 c.in-Some.ensures.found c.take_out.ensures.out)

pub returns-clause-held : goal.returns-clause-held
returns-clause-held c =
    rw c.forget_cert.ensures.verdicts (removed_in_place _ c.args.self.now c.args.fpr.now c.take_out.new.certs.entries
    c.self.view_is c.take_out.ensures.out)
