use Rattle.std.proofs.Common.{arith, refl}
use Rattle.wot_cert.proofs.Narrow.{whole, whole_ends}
use Rattle.wot_cert.proofs.SpanLaw.{alike, live_at_same}
use Rattle.wot_cert.proofs.spans.span.Goals as goal

pub overflow_sub-result : goal.overflow_sub-result
overflow_sub-result c =
    let w = whole c.args.cert.now c.args.t _ _ _ _ _ _ _ _ _ _ _ c.created-created.ensures c.direct.ensures.direct
    c.user_ids.ensures.user_ids c.attributes.ensures.attributes c.subkeys.ensures.subkeys refl refl c.narrow.ensures
    c.narrow_sigs.ensures c.narrow_parts.ensures c.narrow_parts-2.ensures c.narrow_parts-3.ensures in
    (whole_ends c.args.cert.now c.args.t c.narrow_parts-3.new.bounds (omega arith) w).0

pub overflow_cast-result : goal.overflow_cast-result
overflow_cast-result c =
    let w = whole c.args.cert.now c.args.t _ _ _ _ _ _ _ _ _ _ _ c.created-created.ensures c.direct.ensures.direct
    c.user_ids.ensures.user_ids c.attributes.ensures.attributes c.subkeys.ensures.subkeys refl refl c.narrow.ensures
    c.narrow_sigs.ensures c.narrow_parts.ensures c.narrow_parts-2.ensures c.narrow_parts-3.ensures in
    let e = whole_ends c.args.cert.now c.args.t c.narrow_parts-3.new.bounds (omega arith) w in
    omega (arith, e.0, e.1)

pub returns-clause-span : goal.returns-clause-span
returns-clause-span c =
    let w = whole c.args.cert.now c.args.t _ _ _ _ _ _ _ _ _ _ _ c.created-created.ensures c.direct.ensures.direct
    c.user_ids.ensures.user_ids c.attributes.ensures.attributes c.subkeys.ensures.subkeys refl refl c.narrow.ensures
    c.narrow_sigs.ensures c.narrow_parts.ensures c.narrow_parts-2.ensures c.narrow_parts-3.ensures in
    rw (w.from, w.until) refl

pub returns-clause-live : goal.returns-clause-live
returns-clause-live c =
    let w = whole c.args.cert.now c.args.t _ _ _ _ _ _ _ _ _ _ _ c.created-created.ensures c.direct.ensures.direct
    c.user_ids.ensures.user_ids c.attributes.ensures.attributes c.subkeys.ensures.subkeys refl refl c.narrow.ensures
    c.narrow_sigs.ensures c.narrow_parts.ensures c.narrow_parts-2.ensures c.narrow_parts-3.ensures in
    λ u h. live_at_same c.args.cert.now c.args.t u (rw (w.from, w.until) at h)

pub returns-clause-alike : goal.returns-clause-alike
returns-clause-alike c =
    let w = whole c.args.cert.now c.args.t _ _ _ _ _ _ _ _ _ _ _ c.created-created.ensures c.direct.ensures.direct
    c.user_ids.ensures.user_ids c.attributes.ensures.attributes c.subkeys.ensures.subkeys refl refl c.narrow.ensures
    c.narrow_sigs.ensures c.narrow_parts.ensures c.narrow_parts-2.ensures c.narrow_parts-3.ensures in
    λ u h. alike c.args.cert.now c.args.t u (rw (w.from, w.until) at h)
