use Rattle.std.proofs.Common.{inr, sym, subst, refl}
use Rattle.wot_policy.specs.Kept.{rows_of}
use Rattle.wot_index.specs.Index.{IsIndexOf}
use Rattle.wot_keyring_spec.specs.Keyring.{Entries, Keyring}
use Rattle.wot_keyring_spec.specs.Kept.{IsJudgedBy}
use Rattle.wot_keyring.proofs.Accepted.{asked_now, asked_by_now, answered_now, held_now, next_now, keyring_now}
use Rattle.wot_keyring.proofs.Imports.{judging_asked, next_still}
use Rattle.wot_keyring.proofs.ImportStamps.{logged_now, united_later_now}
use Rattle.wot_keyring.proofs.Undone.{same_parts, together_still, tally_now, from_now}
use Rattle.wot_keyring.proofs.UnionNoted.{indexed_all}
use Rattle.wot_keyring.proofs.keyring.Keyring.accept.Goals as goal

pub invariant_of-self : goal.invariant_of-self
invariant_of-self g c =
    let kept = keyring_now (rows_of c.args.policy.now) (record {
      limits = c.self.inside.limits;
      certs =
          c.self.inside.certs.entries;
      verdicts = c.self.inside.index.verdicts.entries;
      changes = c.self.inside.changes;
    })
    c.args.self.now c.self.view_is c.terms-terms.result.stamp c.terms-terms.ensures.stamp c.args.list.items
    c.args.list.items refl c.self.invariant.0 c.unite_all.new.certs.entries c.in-Ok.tally.fresh
    c.raised-self-inside.result c.in-Ok.ensures.put c.in-Ok.ensures.fresh c.united_grows.ensures.items
    c.raised-self-inside.ensures.raised c.nothing_added.ensures.items c.united_whole.ensures.united
    c.united_whole.ensures.judged c.in-Ok.tally.total c.terms-terms.result.limit c.terms-terms.ensures.limit
    c.in-Ok.ensures.sorted c.in-Ok.ensures.tallied c.in-Ok.ensures.clash c.requires.whole c.requires.may in
    rw c.in-Ok.ensures.noted.0 (
      kept.0,
      kept.1,
      subst (λ (es : Entries). IsIndexOf c.unite_all.new.index es) (sym c.in-Ok.ensures.put)
          (indexed_all c.united_whole.ensures.united c.united_whole.ensures.judged (rows_of c.args.policy.now)
          c.terms-terms.result.stamp c.self.inside.index c.unite_all.new.index c.self.inside.certs.entries
          c.args.list.items c.self.invariant.0.whole c.requires.whole c.in-Ok.ensures.clash c.in-Ok.ensures.noted.1
          c.self.invariant.2),
      logged_now (rows_of c.args.policy.now) c.terms-terms.result.stamp c.nothing_added.ensures.items
          c.united_grows.ensures.items (record {
            limits = c.self.inside.limits;
            certs = c.self.inside.certs.entries;
            verdicts = c.self.inside.index.verdicts.entries;
            changes = c.self.inside.changes;
          }) c.args.self.now c.self.view_is
          c.terms-terms.ensures.stamp c.args.list.items c.self.inside.log c.make_room.new.log c.unite_all.new.log
          c.unite_all.new.certs.entries c.in-Ok.tally.fresh c.raised-self-inside.result c.self.invariant.0
          c.in-Ok.ensures.put c.raised-self-inside.ensures.raised c.in-Ok.ensures.fresh c.make_room.ensures.from
          c.make_room.ensures.entries c.in-Ok.ensures.logged c.self.invariant.3,
    )

pub returns-in-Ok-clause-answer : goal.returns-in-Ok-clause-answer
returns-in-Ok-clause-answer g c =
    answered_now (rows_of c.args.policy.now) (record {
      limits = c.self.inside.limits;
      certs = c.self.inside.certs.entries;
      verdicts = c.self.inside.index.verdicts.entries;
      changes = c.self.inside.changes;
    })
    c.args.self.now c.self.view_is c.terms-terms.result.stamp c.terms-terms.ensures.stamp c.args.list.items
    c.args.list.items refl c.self.invariant.0 c.unite_all.new.certs.entries c.in-Ok.tally.fresh
    c.raised-self-inside.result c.in-Ok.ensures.put c.in-Ok.ensures.fresh c.united_grows.ensures.items
    c.raised-self-inside.ensures.raised c.args.taken c.args.skipped c.requires.may

pub returns-in-Ok-clause-united : goal.returns-in-Ok-clause-united
returns-in-Ok-clause-united g c =
    rw c.in-Ok.ensures.noted.0 (held_now (rows_of c.args.policy.now) (record {
      limits = c.self.inside.limits;
      certs = c.self.inside.certs.entries;
      verdicts = c.self.inside.index.verdicts.entries;
      changes = c.self.inside.changes;
    }) c.args.self.now c.self.view_is
    c.terms-terms.result.stamp c.terms-terms.ensures.stamp c.args.list.items c.args.list.items refl c.self.invariant.0
    c.unite_all.new.certs.entries c.in-Ok.tally.fresh c.raised-self-inside.result c.in-Ok.ensures.put
    c.in-Ok.ensures.fresh c.united_grows.ensures.items c.raised-self-inside.ensures.raised)

pub returns-in-Ok-clause-asked : goal.returns-in-Ok-clause-asked
returns-in-Ok-clause-asked g c =
    let a = c.in-Ok.ensures.asked in (
      a.0,
      a.1,
      asked_now (rows_of c.args.policy.now) (record {
        limits = c.self.inside.limits;
        certs =
            c.self.inside.certs.entries;
        verdicts = c.self.inside.index.verdicts.entries;
        changes = c.self.inside.changes;
      })
          c.args.self.now c.self.view_is c.terms-terms.result.stamp c.terms-terms.ensures.stamp c.args.list.items
          c.args.list.items refl c.self.invariant.0 a.0 a.2,
    )

pub returns-in-Ok-clause-next : goal.returns-in-Ok-clause-next
returns-in-Ok-clause-next g c =
    rw c.in-Ok.ensures.noted.0 (next_now (rows_of c.args.policy.now) (record {
      limits = c.self.inside.limits;
      certs =
          c.self.inside.certs.entries;
      verdicts = c.self.inside.index.verdicts.entries;
      changes = c.self.inside.changes;
    })
    c.args.self.now c.self.view_is c.terms-terms.result.stamp c.terms-terms.ensures.stamp c.args.list.items
    c.args.list.items refl c.self.invariant.0 c.unite_all.new.certs.entries c.in-Ok.tally.fresh
    c.raised-self-inside.result c.in-Ok.ensures.put c.in-Ok.ensures.fresh c.united_grows.ensures.items
    c.raised-self-inside.ensures.raised c.nothing_added.ensures.items
    (united_later_now (rows_of c.args.policy.now) c.terms-terms.result.stamp c.nothing_added.ensures.items
    c.united_grows.ensures.items (record {
      limits = c.self.inside.limits;
      certs = c.self.inside.certs.entries;
      verdicts = c.self.inside.index.verdicts.entries;
      changes = c.self.inside.changes;
    }) c.args.self.now c.self.view_is
    c.terms-terms.ensures.stamp c.args.list.items c.unite_all.new.certs.entries c.in-Ok.tally.fresh
    c.raised-self-inside.result c.in-Ok.ensures.put c.raised-self-inside.ensures.raised))

pub returns-in-Err-clause-asked : goal.returns-in-Err-clause-asked
returns-in-Err-clause-asked g c =
    let a = c.in-Err.ensures.asked in (
      a.0,
      a.1,
      asked_by_now (rows_of c.args.policy.now) (record {
        limits = c.self.inside.limits;
        certs =
            c.self.inside.certs.entries;
        verdicts = c.self.inside.index.verdicts.entries;
        changes = c.self.inside.changes;
      })
          c.args.self.now c.self.view_is c.terms-terms.result.stamp c.terms-terms.ensures.stamp c.args.list.items
          c.args.list.items refl c.self.invariant.0 a.0 a.2,
    )

pub returns-in-Ok-clause-judging : goal.returns-in-Ok-clause-judging
returns-in-Ok-clause-judging g c =
    judging_asked _ c.args.policy.now c.in-Ok.ensures.asked.0 c.unite_all.new.policy _ c.in-Ok.ensures.asked.1
    (c.in-Ok.ensures.judged (subst (λ (k : Keyring). IsJudgedBy (rows_of c.args.policy.now) k) (sym c.self.view_is)
    c.requires.judging.judged)) c.in-Ok.ensures.faithful

pub returns-in-Err-clause-answer : goal.returns-in-Err-clause-answer
returns-in-Err-clause-answer g c = inr refl

pub returns-in-Err-clause-kept : goal.returns-in-Err-clause-kept
returns-in-Err-clause-kept g c =
    same_parts _ _ _ _ _ _ c.args.self.now c.self.view_is c.in-Err.ensures.same c.in-Err.ensures.noted.0

pub returns-in-Err-clause-next : goal.returns-in-Err-clause-next
returns-in-Err-clause-next g c =
    next_still c.args.self.now _ (same_parts _ _ _ _ _ _ c.args.self.now c.self.view_is c.in-Err.ensures.same
    c.in-Err.ensures.noted.0)

pub returns-in-Err-clause-judging : goal.returns-in-Err-clause-judging
returns-in-Err-clause-judging g c =
    judging_asked _ c.args.policy.now c.in-Err.ensures.asked.0 c.unite_all.new.policy _ c.in-Err.ensures.asked.1
    (subst (λ (k : Keyring). IsJudgedBy (rows_of c.args.policy.now) k)
    (sym (same_parts _ _ _ _ _ _ c.args.self.now c.self.view_is c.in-Err.ensures.same c.in-Err.ensures.noted.0))
    c.requires.judging.judged) c.in-Err.ensures.faithful

pub invariant_of-self-in-Err : goal.invariant_of-self-in-Err
invariant_of-self-in-Err g c =
    together_still _ _ _ _ c.self.inside.octets c.self.inside.signatures c.self.inside.index c.self.inside.log
    c.unite_all.new.certs.entries c.unite_all.new.index.verdicts.entries c.unite_all.new.index c.make_room.new.log
    c.unite_all.new.log c.self.invariant c.in-Err.ensures.same c.in-Err.ensures.noted.0 c.in-Err.ensures.noted.1
    c.make_room.ensures.from c.make_room.ensures.entries c.in-Err.ensures.logged

pub unite_all-requires : goal.unite_all-requires
unite_all-requires g c = record {
  faithful = c.requires.judging.faithful;
  sorted = c.self.invariant.0.sorted;
  tallied = tally_now _ _ _ _ c.args.self.now c.terms-terms.result.limit c.terms-terms.result.total c.self.view_is
      c.terms-terms.ensures.limit c.terms-terms.ensures.total;
  from = from_now _ _ _ _ c.args.self.now c.self.inside.log.from c.make_room.new.log.from c.terms-terms.result.stamp
      c.self.view_is c.terms-terms.ensures.stamp c.make_room.ensures.from c.self.invariant.3.from;
}
