use Rattle.std.proofs.Common.{◌∙◌, ap, Option, None, refl, sym}
use Rattle.std.specs.List.{slice_get}
use Rattle.std.specs.Option.{option_and_then}
use Rattle.wot_types.specs.declared.fpr.Fpr.{Fpr}
use Rattle.wot_component.specs.Certificate.{Signature}
use Rattle.wot_component.specs.Ranked.{higher_of}
use Rattle.wot_cert.specs.Time.{newness}
use Rattle.wot_standing.specs.Certifiers.{kept_for, newer_by, place_for}
use Rattle.wot_standing.proofs.NumbersByIssuer.{unchanged, none_newer, others_newer, not_newer, valid_by}
use Rattle.wot_standing.proofs.Taking.{comes_back, takes}
use Rattle.wot_standing.proofs.certifiers.note_certification.Goals as goal

pub returns-in_default-clause-takes : goal.returns-in_default-clause-takes
returns-in_default-clause-takes c q =
    let a = c.args in
    let v = a.validity.now in
    let places = place_for a.places.now.entries v.uid in
    sym (none_newer v.verdicts.now.entries v.t a.sigs.now a.sig.now (sym c.in_default.is ∙ c.requires.by) q
    (kept_for places a.sigs.now q))

pub returns-then-not-stays-clause-takes : goal.returns-then-not-stays-clause-takes
returns-then-not-stays-clause-takes c =
    let a = c.args in
    let v = a.validity.now in
    let places = place_for a.places.now.entries v.uid in
    let old : Fpr → Option Signature = λ q. kept_for places a.sigs.now q in
    let issuer = c.in-Some.issuer in
    let whose = sym c.in-Some.is ∙ c.requires.by in
    unchanged issuer old (λ q best. newer_by v.verdicts.now.entries q v.t a.sigs.now a.sig.now best)
    (others_newer v.verdicts.now.entries v.t a.sigs.now a.sig.now issuer whose)
    (not_newer v.verdicts.now.entries issuer v.t a.sigs.now a.sig.now (old issuer) c.number.result
    (c.number.ensures ∙ c.requires.latest issuer)
    (valid_by v.verdicts.now.entries issuer v.t c.number.result a.sig.now _ whose c.if-not-stays.ensures))

pub returns-in_default-2-clause-takes : goal.returns-in_default-2-clause-takes
returns-in_default-2-clause-takes c =
    let a = c.args in
    let v = a.validity.now in
    let places = place_for a.places.now.entries v.uid in
    let issuer = c.in-Some.issuer in
    let whose = sym c.in-Some.is ∙ c.requires.by in
    takes v.verdicts.now.entries v.t a.sigs.now a.sig.now issuer places c.number.result whose
    (c.number.ensures ∙ c.requires.latest issuer) c.if-not-stays.ensures a.at
    (place_for c.keep_place.new.places.entries v.uid) None c.requires.here c.in_ok-other.ensures.keeps
    (ap (option_and_then (slice_get a.sigs.now)) (sym c.in_default-2.is ∙ c.in_ok-other.ensures.old)) refl

pub returns-then-is_newest-clause-takes : goal.returns-then-is_newest-clause-takes
returns-then-is_newest-clause-takes c =
    let a = c.args in
    let v = a.validity.now in
    let places = place_for a.places.now.entries v.uid in
    let issuer = c.in-Some.issuer in
    let whose = sym c.in-Some.is ∙ c.requires.by in
    takes v.verdicts.now.entries v.t a.sigs.now a.sig.now issuer places c.number.result whose
    (c.number.ensures ∙ c.requires.latest issuer) c.if-not-stays.ensures a.at
    (place_for c.keep_place.new.places.entries v.uid)
    (slice_get a.sigs.now c.in-Some-2.other) c.requires.here c.in_ok-other.ensures.keeps
    (ap (option_and_then (slice_get a.sigs.now)) (sym c.in-Some-2.is ∙ c.in_ok-other.ensures.old))
    (ap (higher_of newness a.sig.now) (sym c.sig_at.ensures) ∙ c.if-is_newest.ensures)

pub returns-clause-takes : goal.returns-clause-takes
returns-clause-takes c =
    let a = c.args in
    let v = a.validity.now in
    let places = place_for a.places.now.entries v.uid in
    let issuer = c.in-Some.issuer in
    let whose = sym c.in-Some.is ∙ c.requires.by in
    comes_back v.verdicts.now.entries v.t a.sigs.now a.sig.now issuer places c.number.result whose
    (c.number.ensures ∙ c.requires.latest issuer) c.if-not-stays.ensures a.at c.in-Some-2.other
    (place_for c.keep_place.new.places.entries v.uid) (place_for c.keep_place-2.new.places.entries v.uid)
    (sym c.in_ok-other.ensures.old ∙ c.in-Some-2.is)
    c.in_ok-other.ensures.keeps c.in_ok-keep_place.ensures.keeps
    (ap (higher_of newness a.sig.now) (sym c.sig_at.ensures) ∙ c.if-is_newest.ensures ∙ c.sig_at.ensures)
