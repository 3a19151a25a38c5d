-- Lines that are appended one at a time.
use Rattle.std.proofs.Common.{◌≡◌, ℕ, ◌+◌, ◌*◌, ◌≤◌, ◌<◌, ◌^◌, List, [], ◌∷◌, ◌++◌, length, arith, length-append, refl}
use Rattle.std.proofs.Common.{sym, ap, ◌∙◌, append_assoc, append-nil}
use Rattle.std.proofs.lemmas.Grind.{flat_map-append}
use Rattle.std.proofs.lemmas.List.{length-map}
use Rattle.std.specs.List.{AllByRecursion, flat_map}
use Rattle.wot_types.specs.declared.limits.Limits.{Limits}
use Rattle.wot_keyring_spec.specs.Held.{held_of}
use Rattle.wot_keyring_spec.specs.Kept.{AreSmall}
use Rattle.wot_keyring.specs.Dump as keyrings
use Rattle.wot_edge.specs.Roots.{IsRoots}
use Rattle.wot_fields.specs.declared.state_line.StateLine.{StateLine}
use Rattle.wot_keyring.specs.Dump.{AreLines, command_line_of, lines_of}
use Rattle.wot_cache.specs.Views.{Views, AreWithinLimits}
use Rattle.wot_cache.specs.declared.view.View.{View}
use Rattle.wot_cache.specs.Dump.{HaveRoots, commands_of, root_of, view_commands}
use Rattle.wot_cache.specs.State.{Engine, state_of}

-- the lines of all commands but the rest are appended
pub record PutSoFar (before now : List ℕ) (all rest : List StateLine) : Type 0 where
  pub made : List ℕ
  pub text : now ≡ before ++ made
  pub left : made ++ lines_of rest ≡ lines_of all
  pub lined : AreLines rest → AreLines all

pub none_put : (before : List ℕ) (all : List StateLine) → PutSoFar before before all all
none_put before all = record { made = []; text = sym (append-nil before); left = refl; lined = λ h. h }

lines-append : (cs ds : List StateLine) → lines_of (cs ++ ds) ≡ lines_of cs ++ lines_of ds
lines-append cs ds = flat_map-append command_line_of cs ds

pub both_lines : (cs ds : List StateLine) → AreLines cs → AreLines ds → AreLines (cs ++ ds)
both_lines [] ds h k = k
both_lines (c ∷ cs) ds h k = (h.0, both_lines cs ds h.1 k)

pub some_put : (before now next : List ℕ) (all cs rest : List StateLine) → PutSoFar before now all (cs ++ rest)
    → next ≡ now ++ lines_of cs → AreLines cs → PutSoFar before next all rest
some_put before now next all cs rest so_far added lines = record {
  made = so_far.made ++ lines_of cs;
  text = added ∙ ap (λ text. text ++ lines_of cs) so_far.text ∙ append_assoc before so_far.made (lines_of cs);
  left = append_assoc so_far.made (lines_of cs) (lines_of rest) ∙ ap (λ text. so_far.made ++ text)
      (sym (lines-append cs rest)) ∙ so_far.left;
  lined = λ h. so_far.lined (both_lines cs rest lines h);
}

-- ---- views

-- the commands of all views but the rest are appended
pub record ViewsPut (before now : List ℕ) (all rest : Views) (count : ℕ) : Type 0 where
  pub lines : PutSoFar before now (flat_map view_commands all) (flat_map view_commands rest)
  pub counted : count + length (flat_map view_commands rest) ≡ length (flat_map view_commands all)
  pub roots : HaveRoots rest → HaveRoots all

length-view_commands : (e : List ℕ × View) (rest : List StateLine) →
    length (view_commands e ++ rest) ≡ 1 + length e.1.roots + length rest
length-view_commands e rest = omega (arith, length-append (view_commands e) rest, length-map e.1.roots (root_of e.0))

pub view_put : (before now next : List ℕ) (all : Views) (e : List ℕ × View) (rest : Views) (count : ℕ) →
    ViewsPut before now all (e ∷ rest) count
    → next ≡ now ++ lines_of (view_commands e) → AreLines (view_commands e) → IsRoots e.1.roots
    → ViewsPut before next all rest (count + (1 + length e.1.roots))
view_put before now next all e rest count so_far added lines roots = record {
  lines = some_put before now next (flat_map view_commands all) (view_commands e) (flat_map view_commands rest)
      so_far.lines added lines;
  counted = omega (arith, so_far.counted, length-view_commands e (flat_map view_commands rest));
  roots = λ h. so_far.roots (roots, h);
}

-- counting the next view doesn't overflow
pub countable : (before now : List ℕ) (all : Views) (e : List ℕ × View) (rest : Views) (count : ℕ) →
    ViewsPut before now all (e ∷ rest) count
    → length (flat_map view_commands all) < 2 ^ 32 → count + (1 + length e.1.roots) < 2 ^ 32
countable before now all e rest count so_far few =
    omega (arith, so_far.counted, length-view_commands e (flat_map view_commands rest), few)

-- the limits bound the number of commands
pub few_commands : (l : Limits) (views : Views) → l.roots ≤ 64 →
    AllByRecursion (λ (e : List ℕ × View). length e.1.roots ≤ l.roots) views
    → length (flat_map view_commands views) ≤ 65 * length views
few_commands l [] small few = omega arith
few_commands l (e ∷ views) small few =
    omega (arith, length-view_commands e (flat_map view_commands views), few.0, few_commands l views small few.1)

pub few_lines : (l : Limits) (views : Views) → AreSmall l → AreWithinLimits l views →
    length (flat_map view_commands views) < 2 ^ 32
few_lines l views small within =
    let views_small : l.views ≤ 16 = small.views in
    omega (arith, few_commands l views small.roots within.few_roots, within.few)

-- ---- an engine

pub dumped : (engine : Engine) (before mid now : List ℕ) →
    mid ≡ before ++ lines_of (keyrings.commands_of (held_of engine.keyring))
    → now ≡ mid ++ lines_of (flat_map view_commands engine.views) →
    now ≡ before ++ lines_of (commands_of (state_of engine))
dumped engine before mid now first last =
    let held : List StateLine = keyrings.commands_of (held_of engine.keyring) in
    last
    ∙ ap (λ text. text ++ lines_of (flat_map view_commands engine.views)) first
    ∙ append_assoc before (lines_of held) (lines_of (flat_map view_commands engine.views))
    ∙ ap (λ text. before ++ text) (sym (lines-append held (flat_map view_commands engine.views)))

pub dumped_lines : (engine : Engine) → AreLines (keyrings.commands_of (held_of engine.keyring)) →
    AreLines (flat_map view_commands engine.views)
    → AreLines (commands_of (state_of engine))
dumped_lines engine first last = both_lines (keyrings.commands_of (held_of engine.keyring))
    (flat_map view_commands engine.views) first last
