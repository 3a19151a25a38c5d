use Rattle.std.proofs.Common.{List, subst}
use Rattle.wot_merge.specs.declared.undo.Was.{Was as TheWas}
use Rattle.wot_keyring_spec.specs.Keyring.{Entries}
use Rattle.wot_merge.specs.Staging.{IsLog}
use Rattle.wot_merge.proofs.Logs.{led_back, log_less}
use Rattle.wot_merge.proofs.undo.take_back.Goals as goal

pub put_back-requires : goal.put_back-requires
put_back-requires c =
    let led = c.log.invariant.some in
    let found = log_less led.0 c.pop.new.self.items c.in-Some.was c.log.certs.entries
    (subst (λ (l : List TheWas). IsLog led.0 l c.log.certs.entries) c.in-Some.ensures.items led.1) in
    record { leads = (found.0, found.1) }

pub log-preserved : goal.log-preserved
log-preserved c =
    let led = c.log.invariant.some in
    let next : (first : Entries) → IsLog first c.log.log.items c.log.certs.entries →
    IsLog first c.pop.new.self.items c.put_back.new.certs.entries =
    λ first leads. led_back first c.log.certs.entries c.put_back.new.certs.entries c.pop.new.self.items c.log.log.items
    c.in-Some.was c.in-Some.ensures.items leads c.put_back.ensures.back in
    record {
      some = (led.0, next led.0 led.1);
      still = λ first leads. next first (c.log.invariant.still first leads);
    }
