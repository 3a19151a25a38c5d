use Rattle.std.proofs.Common.{◌≡◌, ◌≤◌, ◌++◌, ◌∷◌, List, take, drop, length, subst, sym, ap, ◌∙◌, arith, length-drop}
use Rattle.wot_packet.specs.Spelling.{AreShort, Spelled, spelled_of, spelled_all}
use Rattle.wot_cert.specs.Assembly.{certificates_of, skipped_in}
use Rattle.wot_component.specs.Certificate.{Certificate}
use Rattle.wot_cert.specs.Drafting.{BeginsWithKey, skipped_by}
use Rattle.wot_cert.proofs.Cuts.{KeyTaken, key-taken, key-there, none-before, take-spelled, drop-spelled, short-drop}
use Rattle.wot_cert.proofs.Cuts.{certs-on, skipped-on, skipped-most}
use Rattle.wot_cert.proofs.assembling.certificates.Goals as goal

pub keys-init : goal.keys-init
keys-init c =
    let ps = spelled_all c.args.packets.now in
    let n = c.before_key.result in
    let rest : spelled_all c.split_at.result.1.now ≡ drop n ps =
    ap spelled_all c.split_at.ensures.back ∙ sym (drop-spelled c.args.packets.now n) in
    let none = none-before ps n c.before_key.ensures.behind in
    let skipped : skipped_in (spelled_all c.split_at.result.1.now) ≡ skipped_in ps = ap skipped_in rest ∙ none.1 in
    record {
      certs = ap (λ (x : List Certificate). x ++ certificates_of (spelled_all c.split_at.result.1.now))
          c.new-certs.ensures.items ∙ ap certificates_of rest ∙ none.0;
      skipped = omega (arith, skipped);
      few = omega (arith, ap length c.split_at.ensures.back, length-drop n c.args.packets.now);
      short = subst (λ (x : List Spelled). AreShort x) (sym rest) (short-drop ps n c.requires.short);
      begins = subst (λ (x : List Spelled). BeginsWithKey x) (sym rest) c.before_key.ensures.begins;
    }

pub keys-preserved : goal.keys-preserved
keys-preserved c =
    let p = spelled_of c.in-Some.key.now in
    let behind = spelled_all c.in-Some.behind.now in
    let n = c.before_key-in-Some.result in
    let prefix : spelled_all c.keys.rest.now ≡ p ∷ behind = ap spelled_all c.in-Some.ensures.cases.0 in
    let others : spelled_all c.split_at-in-Some.result.1.now ≡ drop n behind =
    ap spelled_all c.split_at-in-Some.ensures.back ∙ sym (drop-spelled c.in-Some.behind.now n) in
    let section : spelled_all c.split_at-in-Some.result.0.now ≡ take n behind =
    ap spelled_all c.split_at-in-Some.ensures.front ∙ sym (take-spelled c.in-Some.behind.now n) in
    let taken : KeyTaken p behind n =
    key-taken p behind n (key-there p (spelled_all c.keys.rest.now) behind prefix c.keys.invariant.begins)
    c.before_key-in-Some.ensures.before c.before_key-in-Some.ensures.behind in
    let short : AreShort (p ∷ behind) = subst (λ (x : List Spelled). AreShort x) prefix c.keys.invariant.short in
    let most : skipped_by (p, spelled_all c.split_at-in-Some.result.0.now) ≤ 1 =
    skipped-most (p, spelled_all c.split_at-in-Some.result.0.now) in
    record {
      certs = certs-on _ _ _ p _ behind _ _ n prefix taken section others c.in_ok-take_key.ensures.certs
          c.keys.invariant.certs;
      skipped = skipped-on _ _ _ p _ behind _ _ n prefix taken section others c.in_ok-take_key.ensures.skipped
          c.keys.invariant.skipped;
      few = omega (
        arith,
        c.in_ok-take_key.ensures.skipped,
        most,
        c.keys.invariant.few,
        ap length c.in-Some.ensures.cases.0,
        ap length c.split_at-in-Some.ensures.back,
        length-drop n
            c.in-Some.behind.now,
      );
      short = subst (λ (x : List Spelled). AreShort x) (sym others) (short-drop behind n short.1);
      begins = subst (λ (x : List Spelled). BeginsWithKey x) (sym others) c.before_key-in-Some.ensures.begins;
    }
