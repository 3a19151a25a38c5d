use Rattle.std.proofs.Common.{◌≡◌, ap, arith}
use Rattle.wot_cache.specs.Basis.{Basis}
use Rattle.wot_answers.specs.RightLaws.{stamp_past}
use Rattle.wot_cache.proofs.basis.Basis.still_current.Goals as goal

pub returns-then-self-changes-clause-calm : goal.returns-then-self-changes-clause-calm
returns-then-self-changes-clause-calm c = λ network fpr there.
    let seen : c.self.inside.changes ≡ c.args.self.now.changes = ap (λ (b : Basis). b.changes) c.self.view_is in
    let past = stamp_past c.args.keyring.now fpr c.len-count.ensures.stamped in
    let same = c.if-self-changes.true in
    let count = c.changes-changes.ensures.changes in
    omega (arith, seen, past, same, count)
