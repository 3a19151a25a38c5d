use Rattle.std.proofs.Common.{◌≡◌, true, [], ap, subst, sym, ◌∙◌}
use Rattle.std.specs.Map.{lookup}
use Rattle.std.specs.Option.{unwrap_or, option_map}
use Rattle.wot_cache.specs.declared.view.View.{View}
use Rattle.wot_cache.specs.State.{Engine, ViewMarks}
use Rattle.wot_cache.specs.Revisions.{AreRevisionsOf, IsOneRevision, Revisions, turned}
use Rattle.wot_cache.specs.Views.{MovesTime, is_name, view_at}
use Rattle.wot_cache.proofs.Inside.{moved_within}
use Rattle.wot_cache.proofs.OpenViewsMarks.{moved_open, unmarked}
use Rattle.wot_cache.proofs.RevisionsOfViews.{equal_there, moved_turns, moving, other_there, time_kept}
use Rattle.wot_cache.proofs.engine.Engine.view_time.Goals as goal

pub invariant_of-self : goal.invariant_of-self
invariant_of-self c =
    let moves : MovesTime true c.args.view.now c.args.t c.self.inside.networked.views.entries
    c.move_time.new.views.entries =
    subst (λ b. MovesTime b c.args.view.now c.args.t c.self.inside.networked.views.entries
    c.move_time.new.views.entries) c.if-move_time.true c.move_time.ensures.moved in
    record {
      small = c.self.invariant.small;
      within = moved_within c.self.inside.networked.keyring.limits c.self.inside.networked.views.entries
          c.move_time.new.views.entries c.args.view.now c.args.t c.move_time.result c.move_time.ensures.moved
          c.self.invariant.within;
      fit = c.self.invariant.fit;
      right = c.self.invariant.right;
      of_open = moved_open c.self.inside.networked.views.entries c.move_time.new.views.entries
          c.self.inside.networked.networks.entries c.args.view.now c.args.t
          c.move_time.result c.move_time.ensures.moved c.self.invariant.of_open;
      answered = moved_open c.self.inside.networked.views.entries c.move_time.new.views.entries
          c.self.inside.answers.entries c.args.view.now c.args.t
          c.move_time.result c.move_time.ensures.moved c.self.invariant.answered;
      turned = subst (λ (ts : Revisions). AreRevisionsOf c.move_time.new.views.entries ts) (sym c.raise.ensures.raised)
          (moved_turns c.self.inside.networked.views.entries c.move_time.new.views.entries c.self.inside.revisions
          c.args.view.now c.args.t moves c.self.invariant.turned);
    }

pub returns-then-eq-clause-timed : goal.returns-then-eq-clause-timed
returns-then-eq-clause-timed c =
    sym (time_kept c.args.self.now.views c.args.view.now c.args.t (sym c.time.ensures.time
    ∙ equal_there c.time.result c.args.t (sym c.if-eq.ensures)))

pub returns-then-move_time-clause-turned : goal.returns-then-move_time-clause-turned
returns-then-move_time-clause-turned c =
    let views = c.self.inside.networked.views.entries in
    let revisions = c.self.inside.revisions in
    let name = c.args.view.now in
    let moves : MovesTime true name c.args.t views c.move_time.new.views.entries =
    subst (λ b. MovesTime b name c.args.t views c.move_time.new.views.entries) c.if-move_time.true
    c.move_time.ensures.moved in
    let time : c.time.result ≡ option_map (λ (v : View). v.time) (view_at views name) =
    subst (λ (e : Engine). c.time.result ≡ option_map (λ (v : View). v.time) (view_at e.views name))
    (sym c.self.view_is) c.time.ensures.time in
    subst (λ (e : Engine). IsOneRevision name e.views e.revisions c.move_time.new.views.entries c.raise.new.self) c.self.view_is
    (subst (λ (ts : Revisions). IsOneRevision name views revisions c.move_time.new.views.entries ts) (sym c.raise.ensures.raised)
    (moving views c.move_time.new.views.entries revisions name c.args.t (λ e. other_there c.time.result c.args.t
    (sym c.if-eq.ensures) (time ∙ e)) moves))

pub returns-then-limits-len-clause-unmarked : goal.returns-then-limits-len-clause-unmarked
returns-then-limits-len-clause-unmarked c =
    unmarked c.self.inside.revisions c.args.self.now c.self.inside.networked.keyring c.self.inside.networked.views.entries
    c.move_time.new.views.entries
    c.self.inside.networked.networks.entries c.args.view.now c.self.view_is c.self.invariant.of_open

pub returns-clause-unmarked : goal.returns-clause-unmarked
returns-clause-unmarked c none =
    ap (λ (marks : ViewMarks). unwrap_or (lookup (is_name c.args.view.now) marks) []) c.open.ensures.marks
    ∙ unmarked c.self.inside.revisions c.args.self.now c.self.inside.networked.keyring c.self.inside.networked.views.entries
    c.move_time.new.views.entries
    c.self.inside.networked.networks.entries c.args.view.now c.self.view_is c.self.invariant.of_open none
