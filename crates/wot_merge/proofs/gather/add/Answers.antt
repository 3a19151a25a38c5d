use Rattle.std.proofs.Common.{Err, sym, subst}
use Rattle.wot_cert.specs.Answers.{ClashesExactly}
use Rattle.wot_cert.specs.declared.fault.MergeFault.{MergeFault}
use Rattle.wot_merge.proofs.GatheredMerges.{put_beside, clash_there, united_there, united_own}
use Rattle.wot_merge.proofs.gather.add.Goals as goal

pub returns-in-Ok-clause-own : goal.returns-in-Ok-clause-own
returns-in-Ok-clause-own c =
    (put_beside c.args.certs.now.entries c.taken_out.new.certs.entries c.put.new.certs.entries c.args.cert
    c.fpr-fpr.result c.fpr-fpr.ensures.fpr c.in_default.ensures.same c.in_default.ensures.gone c.in-Ok.ensures.put
    c.requires.own c.fpr-fpr.ensures.whole).0

pub returns-in-Ok-clause-gathered : goal.returns-in-Ok-clause-gathered
returns-in-Ok-clause-gathered c =
    (put_beside c.args.certs.now.entries c.taken_out.new.certs.entries c.put.new.certs.entries c.args.cert
    c.fpr-fpr.result c.fpr-fpr.ensures.fpr c.in_default.ensures.same c.in_default.ensures.gone c.in-Ok.ensures.put
    c.requires.own c.fpr-fpr.ensures.whole).1

pub returns-in-Ok-put-clause-own : goal.returns-in-Ok-put-clause-own
returns-in-Ok-put-clause-own c =
    united_own c.united_whole.ensures.united c.united_whole.ensures.judged c.args.certs.now.entries
    c.taken_out.new.certs.entries c.args.cert c.in-Some.there c.fpr-fpr.result c.fpr-fpr.ensures.fpr c.requires.own
    c.in-Some.ensures.out c.in-Some.ensures.gone (sym c.in-Some.ensures.was)
    c.judging.ensures.unmarked c.judging.ensures.united c.united_in_any_order.ensures.groups c.fpr-fpr.ensures.whole
    c.in-Ok-unite.ensures.clash c.unite.new.self c.in-Ok-unite.ensures.union c.put-in-Ok-unite.new.certs.entries
    c.in-Ok-put.ensures.put c.in-Ok-put.ensures.whole

pub returns-in-Ok-put-clause-gathered : goal.returns-in-Ok-put-clause-gathered
returns-in-Ok-put-clause-gathered c =
    united_there c.united_whole.ensures.united c.united_whole.ensures.judged c.args.certs.now.entries
    c.taken_out.new.certs.entries c.args.cert c.in-Some.there c.fpr-fpr.result c.fpr-fpr.ensures.fpr c.requires.own
    c.in-Some.ensures.out c.in-Some.ensures.gone (sym c.in-Some.ensures.was)
    c.judging.ensures.unmarked c.judging.ensures.united c.united_in_any_order.ensures.groups c.fpr-fpr.ensures.whole
    c.in-Ok-unite.ensures.clash c.unite.new.self c.in-Ok-unite.ensures.union c.put-in-Ok-unite.new.certs.entries
    c.in-Ok-put.ensures.put

pub returns-in-Err-Clash-clause-clash : goal.returns-in-Err-Clash-clause-clash
returns-in-Err-Clash-clause-clash c =
    clash_there c.united_whole.ensures.united c.united_whole.ensures.judged c.args.certs.now.entries
    c.taken_out.new.certs.entries c.args.cert c.in-Some.there c.fpr-fpr.result c.fpr-fpr.ensures.fpr c.requires.own
    c.in-Some.ensures.out c.in-Some.ensures.gone (sym c.in-Some.ensures.was)
    (subst (λ (f : MergeFault). ClashesExactly {T = Unit {0}} c.in-Some.there c.args.cert (Err f))
    c.in-Err-Clash.field-0-is c.in-Err-Clash.ensures.clash)
