use Rattle.std.proofs.Common.{None, Some, List, arith, refl, subst, sym, ◌∷◌, ◌∙◌}
use Rattle.std.specs.List.{AllByRecursion}
use Rattle.wot_script.specs.declared.reply.Reply.{Reply}
use Rattle.wot_keyring_spec.specs.Kept.{AreSortedByFpr}
use Rattle.wot_keyring_spec.specs.Keyring.{Keyring}
use Rattle.wot_cache.specs.Basis.{Basis}
use Rattle.wot_cache.specs.State.{State, state_of}
use Rattle.wot_watch.specs.Watches.{Watch, Watches}
use Rattle.wot_watch_commands.specs.Settled.{IsSettled}
use Rattle.wot_plain.specs.Watching.{IsLine, IsWatchLine}
use Rattle.wot_watch_commands.proofs.WatchEdges.{MakesSoFar, never_ok, so_far_done, so_far_failed, so_far_more}
use Rattle.wot_watch_commands.proofs.WatchesOnce.{CountsSoFar, counts_all, counts_last, counts_more}
use Rattle.wot_plain.proofs.EdgesMadeByLine.{same_state}
use Rattle.wot_watch_commands.proofs.WatchesSettled.{SettlesSoFar, all_later, present_grown, settled_before, settles_all}
use Rattle.wot_watch_commands.proofs.WatchesSettled.{settles_not, settles_still, stays_back}
use Rattle.wot_plain.proofs.Watched.{AreSoFar, all_more, line_is_watch, so_far_all, so_far_line, so_far_still}
use Rattle.wot_watch_commands.proofs.watching.watch_lines.Goals as goal

pub rest-preserved-in-Continue-branch-3 : goal.rest-preserved-in-Continue-branch-3
rest-preserved-in-Continue-branch-3 c =
    let s : State = state_of c.args.engine.now in
    let all : Watches = c.args.watches.now in
    let kept = c.rest.invariant in
    let so_far : AreSoFar s all ((c.in-Some.name.now, c.in-Some.watch.now) ∷ c.next.new.self) c.rest.lines.items =
    subst (λ (ws : Watches). AreSoFar s all ws c.rest.lines.items) c.in-Some.ensures.steps kept.2 in
    let is : IsLine s c.in-Some.name.now c.in-Some.watch.now (Some c.in-Some-2.line) =
    subst (λ (st : State). IsLine st c.in-Some.name.now c.in-Some.watch.now (Some c.in-Some-2.line))
    (same_state c.args.engine.now c.rest.engine kept.4) (rw c.in-Some-2.is at c.in_ok-line.ensures.line) in
    let pushed = c.in_ok-push.ensures.items in (
      tt,
      tt,
      subst (λ (ls : List Reply). AreSoFar s all c.next.new.self ls) (sym pushed)
          (so_far_line s all c.next.new.self c.in-Some.name.now c.in-Some.watch.now c.in-Some-2.line c.rest.lines.items
          so_far is),
      subst (AllByRecursion IsWatchLine) (sym pushed)
          (all_more IsWatchLine c.rest.lines.items c.in-Some-2.line kept.3
          (line_is_watch s c.in-Some.name.now c.in-Some.watch.now c.in-Some-2.line is)),
      record {
        keyring = c.watch_line.ensures.stays.keyring ∙ kept.4.keyring;
        views = c.watch_line.ensures.stays.views ∙ kept.4.views;
        revisions = c.watch_line.ensures.stays.revisions ∙ kept.4.revisions;
      },
      omega (arith, kept.5, c.watch_line.ensures.never_less),
      present_grown c.args.engine.now c.rest.basis c.watch_line.new.basis c.watch_line.ensures.grown kept.6,
      subst (λ (ls : List Reply). SettlesSoFar c.args.engine.now c.watch_line.new.basis all c.next.new.self ls)
          (sym pushed)
          (settles_not c.args.engine.now c.watch_line.new.basis all c.next.new.self c.in-Some-2.line
          c.rest.lines.items),
      so_far_more c.args.engine.now c.args.steps.now.made all c.next.new.self c.in-Some.name.now c.in-Some.watch.now
          c.rest.engine c.watch_line.new.engine
          c.rest.steps.made c.watch_line.new.steps.made _ refl
          (subst (λ (ws : Watches). MakesSoFar c.args.engine.now c.args.steps.now.made all ws c.rest.engine
          c.rest.steps.made) c.in-Some.ensures.steps kept.8)
          c.in_ok-line.ensures.makes,
      counts_more c.args.engine.now c.args.steps.now.made all _ c.next.new.self c.in-Some.name.now c.in-Some.watch.now
          c.rest.engine c.watch_line.new.engine c.rest.steps.made c.watch_line.new.steps.made c.in_ok-line.ensures.makes
          (subst (λ (ws : Watches). CountsSoFar c.args.engine.now c.args.steps.now.made all ws c.rest.engine
          c.rest.steps.made) c.in-Some.ensures.steps kept.9) refl
          (subst (λ (k : Keyring). AreSortedByFpr k.certs) (sym kept.4.keyring) c.ordered.ensures.sorted),
    )

pub rest-preserved : goal.rest-preserved
rest-preserved c =
    let s : State = state_of c.args.engine.now in
    let all : Watches = c.args.watches.now in
    let kept = c.rest.invariant in
    let engine = c.args.engine.now in
    let name = c.in-Some.name.now in
    let watch : Watch = c.in-Some.watch.now in
    let old : Basis = c.rest.basis in
    let new : Basis = c.watch_line.new.basis in
    let none = c.in_default-2.is in
    let back = c.kept_on_is_order.ensures.still c.rest.engine engine (stays_back engine c.rest.engine kept.4) in
    let so_far : AreSoFar s all ((name, watch) ∷ c.next.new.self) c.rest.lines.items =
    subst (λ (ws : Watches). AreSoFar s all ws c.rest.lines.items) c.in-Some.ensures.steps kept.2 in
    let settles : SettlesSoFar engine old all ((name, watch) ∷ c.next.new.self) c.rest.lines.items =
    subst (λ (ws : Watches). SettlesSoFar engine old all ws c.rest.lines.items) c.in-Some.ensures.steps kept.7 in
    let is : IsLine s name watch None =
    subst (λ (st : State). IsLine st name watch None) (same_state engine c.rest.engine kept.4)
    (rw none at c.in_ok-line.ensures.line) in
    let settled : IsSettled engine new watch =
    settled_before c.rests_on.ensures.later engine c.rest.engine new watch back (c.in_ok-line.ensures.settled none) in (
      tt,
      tt,
      so_far_still s all c.next.new.self name watch c.rest.lines.items so_far is,
      kept.3,
      record {
        keyring = c.watch_line.ensures.stays.keyring ∙ kept.4.keyring;
        views = c.watch_line.ensures.stays.views ∙ kept.4.views;
        revisions = c.watch_line.ensures.stays.revisions ∙ kept.4.revisions;
      },
      omega (arith, kept.5, c.watch_line.ensures.never_less),
      present_grown engine old new c.watch_line.ensures.grown kept.6,
      settles_still c.rests_on.ensures.grown engine old new all c.next.new.self name watch c.rest.lines.items settles
          c.watch_line.ensures.grown settled,
      so_far_more engine c.args.steps.now.made all c.next.new.self c.in-Some.name.now c.in-Some.watch.now c.rest.engine
          c.watch_line.new.engine
          c.rest.steps.made c.watch_line.new.steps.made _ refl
          (subst (λ (ws : Watches). MakesSoFar engine c.args.steps.now.made all ws c.rest.engine c.rest.steps.made)
          c.in-Some.ensures.steps kept.8)
          c.in_ok-line.ensures.makes,
      counts_more c.args.engine.now c.args.steps.now.made all _ c.next.new.self c.in-Some.name.now c.in-Some.watch.now
          c.rest.engine c.watch_line.new.engine c.rest.steps.made c.watch_line.new.steps.made c.in_ok-line.ensures.makes
          (subst (λ (ws : Watches). CountsSoFar c.args.engine.now c.args.steps.now.made all ws c.rest.engine
          c.rest.steps.made) c.in-Some.ensures.steps kept.9) refl
          (subst (λ (k : Keyring). AreSortedByFpr k.certs) (sym kept.4.keyring) c.ordered.ensures.sorted),
    )

pub returns-clause-settled : goal.returns-clause-settled
returns-clause-settled c = λ none.
    all_later c.rests_on.ensures.later c.args.engine.now c.rest.engine c.rest.basis c.args.watches.now
    (c.kept_on_is_order.ensures.still c.args.engine.now c.rest.engine c.rest.invariant.4)
    (settles_all c.args.engine.now c.rest.basis c.args.watches.now c.rest.rest c.rest.lines.items c.rest.invariant.7
    c.in_default.ensures.steps.0 none)

pub returns-clause-lines : goal.returns-clause-lines
returns-clause-lines c =
    so_far_all (state_of c.args.engine.now) c.args.watches.now c.rest.rest c.rest.lines.items c.rest.invariant.2
    c.in_default.ensures.steps.0

pub returns-clause-makes : goal.returns-clause-makes
returns-clause-makes c =
    so_far_done c.args.engine.now c.args.steps.now.made c.args.watches.now c.rest.engine c.rest.steps.made c.rest.rest _
    c.in_default.ensures.steps.0 c.rest.invariant.8

pub returns-clause-once : goal.returns-clause-once
returns-clause-once c =
    counts_all c.args.engine.now c.args.steps.now.made c.args.watches.now c.rest.rest c.rest.engine c.rest.steps.made
    c.rest.invariant.9

-- ---- out of memory

pub returns-in_err-line-clause-makes : goal.returns-in_err-line-clause-makes
returns-in_err-line-clause-makes c =
    so_far_failed c.args.engine.now c.args.steps.now.made c.args.watches.now c.next.new.self c.in-Some.name.now
    c.in-Some.watch.now c.rest.engine c.watch_line.new.engine
    c.rest.steps.made c.watch_line.new.steps.made _ c.from_residual.result
    (λ ok. never_ok c.from_residual.result _ c.from_residual.ensures.1 ok)
    (subst (λ (ws : Watches). MakesSoFar c.args.engine.now c.args.steps.now.made c.args.watches.now ws c.rest.engine
    c.rest.steps.made) c.in-Some.ensures.steps c.rest.invariant.8)
    c.watch_line.ensures.makes

pub returns-in_err-push-clause-makes : goal.returns-in_err-push-clause-makes
returns-in_err-push-clause-makes c =
    so_far_failed c.args.engine.now c.args.steps.now.made c.args.watches.now c.next.new.self c.in-Some.name.now
    c.in-Some.watch.now c.rest.engine c.watch_line.new.engine
    c.rest.steps.made c.watch_line.new.steps.made _ c.from_residual-in_err-push.result
    (λ ok. never_ok c.from_residual-in_err-push.result _ c.from_residual-in_err-push.ensures.1 ok)
    (subst (λ (ws : Watches). MakesSoFar c.args.engine.now c.args.steps.now.made c.args.watches.now ws c.rest.engine
    c.rest.steps.made) c.in-Some.ensures.steps c.rest.invariant.8)
    c.watch_line.ensures.makes

pub returns-in_err-line-clause-once : goal.returns-in_err-line-clause-once
returns-in_err-line-clause-once c =
    counts_last c.args.engine.now c.args.steps.now.made c.args.watches.now _ c.next.new.self c.in-Some.name.now
    c.in-Some.watch.now c.rest.engine c.watch_line.new.engine c.rest.steps.made c.watch_line.new.steps.made
    c.watch_line.ensures.makes
    (subst (λ (ws : Watches). CountsSoFar c.args.engine.now c.args.steps.now.made c.args.watches.now ws c.rest.engine
    c.rest.steps.made) c.in-Some.ensures.steps c.rest.invariant.9)

pub returns-in_err-push-clause-once : goal.returns-in_err-push-clause-once
returns-in_err-push-clause-once c =
    counts_last c.args.engine.now c.args.steps.now.made c.args.watches.now _ c.next.new.self c.in-Some.name.now
    c.in-Some.watch.now c.rest.engine c.watch_line.new.engine c.rest.steps.made c.watch_line.new.steps.made
    c.watch_line.ensures.makes
    (subst (λ (ws : Watches). CountsSoFar c.args.engine.now c.args.steps.now.made c.args.watches.now ws c.rest.engine
    c.rest.steps.made) c.in-Some.ensures.steps c.rest.invariant.9)
