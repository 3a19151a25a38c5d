use Rattle.std.proofs.Common.{◌≡◌, Some, sym, ap, ◌∙◌, subst}
use Rattle.std.specs.declared.cmp.Ordering.{Ordering}
use Rattle.std.specs.BTreeMap.{is_at}
use Rattle.std.specs.Map.{lookup, set_value}
use Rattle.wot_types.specs.declared.fpr.Fpr.{Fpr}
use Rattle.wot_types.specs.FprLaws.{same_cmp}
use Rattle.wot_policy.specs.Kept.{rows_of}
use Rattle.wot_keyring_spec.specs.Keyring.{Entries, is_fpr}
use Rattle.wot_merge.specs.Staging.{IsLog}
use Rattle.wot_merge.proofs.InPlace.{asked_found, grown_at, grown_goes_on, set_here}
use Rattle.wot_merge.proofs.in_place.grow_at.Goals as goal

pub returns-in-Ok-clause-merged : goal.returns-in-Ok-clause-merged
returns-in-Ok-clause-merged g c =
    let es = c.args.certs.now.entries in
    let fpr = c.fpr-fpr.result in
    let new = c.grow_kept.new.kept in
    let leap = c.in-Ok.leap in
    let found = subst (λ (cmp : Fpr → Fpr → Ordering). Some c.in-Some.kept.now ≡ lookup (is_at (cmp fpr)) es) same_cmp
    c.in-Some.ensures.value in
    let written = subst (λ (cmp : Fpr → Fpr → Ordering). (c.get_mut.follows.lender new).entries ≡ set_value
    (is_at (cmp fpr)) es new) same_cmp (c.get_mut.follows.holds new).0 in
    grown_at (rows_of c.args.policy.now) c.args.terms.now.stamp c.args.terms.now.limit c.args.cert.now es
    (c.get_mut.follows.lender new).entries fpr c.in-Some.kept.now new (record {
      before = leap.before;
      after = leap.after;
      items = leap.items;
      keys = 0;
    })
    c.in-Ok.ensures.grows.staged found c.fpr-fpr.ensures.fpr c.requires.sorted written

pub returns-in-Ok-clause-log : goal.returns-in-Ok-clause-log
returns-in-Ok-clause-log g c =
    let es = c.args.certs.now.entries in
    let fpr = c.fpr-fpr.result in
    let new = c.grow_kept.new.kept in
    let leap = c.in-Ok.leap in
    let found = subst (λ (cmp : Fpr → Fpr → Ordering). Some c.in-Some.kept.now ≡ lookup (is_at (cmp fpr)) es) same_cmp
    c.in-Some.ensures.value in
    let written = subst (λ (cmp : Fpr → Fpr → Ordering). (c.get_mut.follows.lender new).entries ≡ set_value
    (is_at (cmp fpr)) es new) same_cmp (c.get_mut.follows.holds new).0 in
    grown_goes_on es (c.get_mut.follows.lender new).entries c.args.log.now.items c.note.new.log.items fpr
    c.in-Some.kept.now new leap.growth leap.stamp (sym found) written c.in-Ok.ensures.grows.back
    c.in-Ok.ensures.grows.was c.note.ensures.noted

pub returns-in-Err-clause-log : goal.returns-in-Err-clause-log
returns-in-Err-clause-log g c =
    let es = c.args.certs.now.entries in
    let fpr = c.fpr-fpr.result in
    let new = c.grow_kept.new.kept in
    let found = subst (λ (cmp : Fpr → Fpr → Ordering). Some c.in-Some.kept.now ≡ lookup (is_at (cmp fpr)) es) same_cmp
    c.in-Some.ensures.value in
    let written = subst (λ (cmp : Fpr → Fpr → Ordering). (c.get_mut.follows.lender new).entries ≡ set_value
    (is_at (cmp fpr)) es new) same_cmp (c.get_mut.follows.holds new).0 in
    let same : (c.get_mut.follows.lender new).entries ≡ es =
    written ∙ ap (set_value (is_fpr fpr) es) c.in-Err.ensures.same ∙ set_here es fpr c.in-Some.kept.now
    (sym found) in
    λ first led. subst (λ (x : Entries). IsLog first c.args.log.now.items x) (sym same) led

pub returns-in-Ok-clause-asked : goal.returns-in-Ok-clause-asked
returns-in-Ok-clause-asked g c =
    let es = c.args.certs.now.entries in
    let fpr = c.fpr-fpr.result in
    let a = c.in-Ok.ensures.asked in
    let found = subst (λ (cmp : Fpr → Fpr → Ordering). Some c.in-Some.kept.now ≡ lookup (is_at (cmp fpr)) es) same_cmp
    c.in-Some.ensures.value in (
      a.0,
      a.1,
      asked_found (rows_of c.args.policy.now) es c.args.cert.now fpr c.in-Some.kept.now a.0 found
          c.fpr-fpr.ensures.fpr a.2,
    )
