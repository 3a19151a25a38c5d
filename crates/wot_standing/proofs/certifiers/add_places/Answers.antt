use Rattle.std.proofs.Common.{◌≡◌, ◌++◌, ◌∷◌, length, map, ap, sym, ◌∙◌, arith}
use Rattle.std.proofs.lemmas.List.{nil_from_length}
use Rattle.std.specs.Prelude.{filter}
use Rattle.std.specs.List.{slice_get}
use Rattle.std.specs.Option.{option_flatten}
use Rattle.wot_types.specs.PlainLaws.{seam}
use Rattle.wot_component.specs.Ranked.{greatest}
use Rattle.wot_cert.specs.Time.{newness}
use Rattle.wot_standing.specs.declared.kinds.Binding.TheVariants.{Certification}
use Rattle.wot_standing.specs.Certifiers.{certifier_of, newer_by}
use Rattle.wot_standing.specs.Latest.{revoked_at, is_valid_after}
use Rattle.wot_standing.proofs.NumbersByIssuer.{greatest_more}
use Rattle.wot_standing.proofs.RevokedByNumber.{newest-latest}
use Rattle.wot_standing.proofs.Taking.{mapped_behind}
use Rattle.wot_standing.proofs.certifiers.add_places.Goals as goal

pub note_certification-requires-clause-by : goal.note_certification-requires-clause-by
note_certification-requires-clause-by c =
    let a = c.args in
    let v = a.validity.now in
    let sig = c.in-Some.sig.now in
    let prefix = c.in-Some.prefix.now in
    c.issuer_at-by.ensures
    ∙ ap (λ issuers. option_flatten (slice_get issuers (length prefix))) c.requires.issuers
    ∙ ap (λ ss. option_flatten (slice_get (map (certifier_of v.verdicts.now.entries v.t) ss) (length prefix)))
    (seam a.sigs.now c.back.rest.now prefix c.back.invariant.seen sig c.back.invariant.all c.in-Some.ensures.cases.0)
    ∙ mapped_behind (certifier_of v.verdicts.now.entries v.t) prefix c.back.invariant.seen sig

pub back-preserved : goal.back-preserved
back-preserved c =
    let a = c.args in
    let v = a.validity.now in
    record {
      seen = c.in-Some.sig.now ∷ c.back.invariant.seen;
      all = seam a.sigs.now c.back.rest.now c.in-Some.prefix.now c.back.invariant.seen c.in-Some.sig.now
          c.back.invariant.all c.in-Some.ensures.cases.0;
      newest = λ q. c.in_ok-note_certification.ensures.takes q
          ∙ ap (newer_by v.verdicts.now.entries q v.t a.sigs.now c.in-Some.sig.now) (c.back.invariant.newest q)
          ∙ greatest_more
          (is_valid_after v.verdicts.now.entries q v.t Certification
          (revoked_at v.verdicts.now.entries q v.t a.sigs.now))
          c.in-Some.sig.now c.back.invariant.seen;
      elsewhere = λ at q apart. c.in_ok-note_certification.ensures.elsewhere at q apart
          ∙ c.back.invariant.elsewhere at q apart;
      count = let more = c.in_ok-note_certification.ensures.count in let before = c.back.invariant.count in
          omega (arith, more, before);
    }

pub returns-clause-newest : goal.returns-clause-newest
returns-clause-newest c q =
    let a = c.args in
    let v = a.validity.now in
    let e : c.back.invariant.seen ≡ a.sigs.now =
    sym (c.back.invariant.all
    ∙ ap (λ r. r ++ c.back.invariant.seen) (nil_from_length c.back.rest.now c.in_default.ensures.cases)) in
    c.back.invariant.newest q
    ∙ ap (λ ss. greatest newness
    (filter (is_valid_after v.verdicts.now.entries q v.t Certification
    (revoked_at v.verdicts.now.entries q v.t a.sigs.now)) ss)) e
    ∙ newest-latest v.verdicts.now.entries q v.t Certification a.sigs.now
