use Rattle.std.proofs.Common.{◌≡◌, true, refl, sym, ap, ◌∙◌, subst}
use Rattle.std.specs.Prelude.{is_some}
use Rattle.wot_verdict.specs.Verdicts.{verdict_at}
use Rattle.wot_keyring_spec.specs.Keyring.{Keyring}
use Rattle.wot_keyring_spec.specs.Kept.{IsJudgedBy}
use Rattle.wot_keyring.proofs.Altered.{cleared_once}
use Rattle.wot_keyring.proofs.HeldChanges.{cleared_in_place}
use Rattle.wot_keyring.proofs.InvariantKept.{judged_keyring, cleared_few}
use Rattle.wot_index.proofs.Later.{cleared_later_now}
use Rattle.wot_index.proofs.Noted.{indexed_same}
use Rattle.wot_keyring.proofs.keyring.Keyring.clear_verdict.Goals as goal

pub returns-clause-judged : goal.returns-clause-judged
returns-clause-judged c = λ rows all. c.altered_at.ensures.judged rows (subst (λ (k : Keyring). IsJudgedBy rows k)
    (sym c.self.view_is) all)

pub invariant_of-self : goal.invariant_of-self
invariant_of-self c = rw c.clear.ensures.cleared (
  judged_keyring (record {
    limits = c.self.inside.limits;
    certs = c.self.inside.certs.entries;
    verdicts = c.self.inside.index.verdicts.entries;
    changes = c.self.inside.changes;
  }) _ c.self.invariant.0
      (cleared_few c.self.inside.limits c.self.inside.index.verdicts.entries c.args.number.now
      c.self.invariant.0.within.verdicts),
  record { octets = c.self.invariant.1.octets; signatures = c.self.invariant.1.signatures },
  indexed_same c.self.inside.index (record {
    verdicts = c.clear.new.self;
    exact = c.self.inside.index.exact;
  }) c.self.inside.certs.entries refl c.clear.ensures.holders c.self.invariant.2,
  c.self.invariant.3,
)

pub returns-clause-later : goal.returns-clause-later
returns-clause-later c =
    cleared_later_now (record {
      limits = c.self.inside.limits;
      certs = c.self.inside.certs.entries;
      verdicts = c.self.inside.index.verdicts.entries;
      changes = c.self.inside.changes;
    }) c.args.self.now c.altered_at.new.self
    c.args.number.now _ c.self.view_is c.clear.ensures.cleared c.altered_at.ensures.counted

pub returns-clause-held : goal.returns-clause-held
returns-clause-held c =
    cleared_in_place (record {
      limits = c.self.inside.limits;
      certs = c.self.inside.certs.entries;
      verdicts = c.self.inside.index.verdicts.entries;
      changes = c.self.inside.changes;
    }) c.args.self.now c.altered_at.new.self
    c.args.number.now _ c.self.view_is c.clear.ensures.cleared c.altered_at.ensures.counted

pub returns-clause-counted : goal.returns-clause-counted
returns-clause-counted c =
    let there : is_some (verdict_at c.self.inside.index.verdicts.entries c.args.number.now) ≡ true =
    ap is_some (sym c.get.ensures.found) ∙ c.if-is_none.ensures in
    cleared_once (record {
      limits = c.self.inside.limits;
      certs = c.self.inside.certs.entries;
      verdicts = c.self.inside.index.verdicts.entries;
      changes = c.self.inside.changes;
    }) c.args.self.now c.altered_at.new.self
    c.args.number.now _ c.self.view_is there c.clear.ensures.cleared c.altered_at.ensures.counted
