use Rattle.std.proofs.Common.{◌≡◌, ◌++◌, map}
use Rattle.std.specs.List.{AllByRecursion}
use Rattle.wot_component.specs.Certificate.{fresh}
use Rattle.wot_cert.specs.Drafting.{IsShort, bodies_in}
use Rattle.wot_cert.proofs.complete.put_fresh_sigs.Given as goal

abbrev pub invariant-loop-body : goal.invariant-loop-body
invariant-loop-body l = record {
  made : l.sigs.items ++ map (fresh l.key l.kind l.component) (map (λ b. b.now) l.body-iterator) ≡ map
      (fresh l.key l.kind l.component) (bodies_in l.bodies);
  short : AllByRecursion IsShort (map (λ b. b.now) l.body-iterator);
}
