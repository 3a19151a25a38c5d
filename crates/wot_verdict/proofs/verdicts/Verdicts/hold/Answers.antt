use Rattle.std.proofs.Common.{Some, ap, refl, ◌∙◌}
use Rattle.wot_verdict.specs.Kept.{shorts_in}
use Rattle.wot_verdict.specs.Verdicts.{ByNumber, holder_at}
use Rattle.wot_verdict.proofs.Changed.{on_err_of, on_ok, on_ok_if}
use Rattle.wot_verdict.proofs.Holding.{absent_both, holds_at, put_long, put_short, same_kept}
use Rattle.wot_verdict.proofs.verdicts.Verdicts.hold.Goals as goal
use Rattle.wot_verdict.proofs.verdicts.Verdicts.hold.Goals.{in-Ok, in-Err}

pub invariant_of-self : goal.invariant_of-self
invariant_of-self c = c.hold_short.ensures.kept c.self.inside.count c.self.invariant

pub returns-in-Some-clause-held : goal.returns-in-Some-clause-held
returns-in-Some-clause-held c =
    let old = c.self.inside.held in
    let new = c.hold_short.new.held in
    let long = c.self.inside.long.entries in
    rw (← c.self.view_is) (on_ok _ _ c.hold_short.result (λ put. holds_at old new long long c.args.number
    (Some c.args.fpr) (put_short (shorts_in old) long c.args.number (shorts_in new) c.in-Some.short c.args.fpr
    c.in-Some.ensures.short put)) c.hold_short.ensures.held)

pub returns-in-Some-clause-kept : goal.returns-in-Some-clause-kept
returns-in-Some-clause-kept c =
    let long = c.self.inside.long.entries in
    rw (← c.self.view_is) (on_err_of _ _ c.hold_short.result (λ same. same_kept c.self.inside.held
    c.hold_short.new.held long long c.hold_short.ensures.verdicts same refl) c.hold_short.ensures.same)

pub returns-clause-held : goal.returns-clause-held
returns-clause-held c =
    let held = c.self.inside.held in
    let long = c.self.inside.long.entries in
    let long' = c.insert.new.self.entries in
    let absent = absent_both held long c.args.number (ap (λ (v : ByNumber). holder_at v.holders c.args.number)
    c.self.view_is ∙ c.requires.absent) in
    elim c.match-insert.branch [
      | in-Ok w ↦ on_ok_if _ c.match-insert.result (rw (← c.self.view_is) (holds_at held held long long' c.args.number
          (Some c.args.fpr) (put_long (shorts_in held) long c.args.number long' c.args.fpr absent
          w.in-Ok.ensures.updates.0)))
      | in-Err w ↦ rw w.result-is tt
    ]
