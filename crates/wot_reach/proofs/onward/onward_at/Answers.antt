use Rattle.std.proofs.Common.{◌≡◌, ◌<◌, ℕ, List, length, Option, Some, None, sym, subst, arith}
use Rattle.std.specs.Prelude.{IfSome}
use Rattle.std.specs.Borrow.{Bor}
use Rattle.wot_types.specs.declared.fpr.Fpr.{Fpr}
use Rattle.wot_edge.specs.Record.{Record}
use Rattle.wot_reach.specs.declared.onward.Onward.{Onward}
use Rattle.wot_reach.specs.Onward.{LeadsOnInto}
use Rattle.wot_reach.proofs.onward.onward_at.Goals as goal

given : (network : List ℕ → Record) (number : Fpr → ℕ) (fpr : Fpr) (one : Onward) (found : Option (Bor Onward))
    → LeadsOnInto network number one.fpr one
    → IfSome found (λ (x : Bor Onward). (x.now ≡ one) × (one.fpr ≡ fpr))
    → IfSome found (λ (x : Bor Onward). LeadsOnInto network number fpr x.now)
given network number fpr one None here same = record {}
given network number fpr one (Some x) here same =
    subst (LeadsOnInto network number fpr) (sym same.0) (subst (λ (f : Fpr). LeadsOnInto network number f one) same.1 here)

pub returns : goal.returns
returns c = record {
  leads = λ number network are.
      let lt : c.args.place < length c.args.onward.now = omega (arith, c.if-place-onward.false) in
      let one = c.index-onward-place.result in
      let here = subst (λ (x : Onward). LeadsOnInto network number x.fpr x) (sym c.index-onward-place.is)
      (are c.args.place one lt) in
      given network number c.args.fpr.now one c.of_fpr.result here c.of_fpr.ensures.same;
}
