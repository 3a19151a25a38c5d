use Rattle.std.proofs.Common.{◌+◌, drop, ◌∙◌, arith}
use Rattle.std.proofs.lemmas.Bool.{eq-eqb}
use Rattle.wot_packet.specs.Spelling.{spelled_all}
use Rattle.wot_cert.proofs.Cuts.{spelled-drop, drop-spelled, further, stops, is-other, begins-there}
use Rattle.wot_cert.proofs.assembling.before_key.Goals as goal

pub returns-then-packets-count-eq6-clause-before : goal.returns-then-packets-count-eq6-clause-before
returns-then-packets-count-eq6-clause-before c =
    let ps = c.args.packets.now in
    stops (spelled_all ps) c.packets.count _ _
    (drop-spelled ps c.packets.count ∙ spelled-drop ps c.packets.count _ c.packets-test.true)
    (eq-eqb _ 6 c.if-packets-count-eq6.true) c.packets.invariant.before

pub packets-preserved : goal.packets-preserved
packets-preserved c =
    let ps = c.args.packets.now in
    let f = further (spelled_all ps) c.packets.count _ _
    (drop-spelled ps c.packets.count ∙ spelled-drop ps c.packets.count _ c.packets-test.true)
    (drop-spelled ps (c.packets.count + 1)) (is-other _ c.if-packets-count-eq6.false) c.packets.invariant.before
    c.packets.invariant.behind in
    record { within = omega (arith, c.packets-test.true); before = f.0; behind = f.1 }

pub returns-then-packets-count-eq6-clause-begins : goal.returns-then-packets-count-eq6-clause-begins
returns-then-packets-count-eq6-clause-begins c =
    let ps = c.args.packets.now in
    begins-there (drop c.packets.count (spelled_all ps)) _ _
    (drop-spelled ps c.packets.count ∙ spelled-drop ps c.packets.count _ c.packets-test.true)
    (eq-eqb _ 6 c.if-packets-count-eq6.true)
