-- The size of a dump in octets.
use Rattle.std.proofs.Common.{ℕ, ◌+◌, ◌*◌, ◌≤◌, ◌<◌, ◌^◌, List, [], ◌∷◌, ◌++◌, length, map, arith, length-append, ap}
use Rattle.std.proofs.Common.{◌∙◌}
use Rattle.std.proofs.lemmas.Grind.{flat_map-append}
use Rattle.std.specs.List.{AllByRecursion, flat_map}
use Rattle.wot_types.specs.declared.fpr.Fpr.{Fpr}
use Rattle.wot_fields.specs.StateLine.{most_octets, spelling}
use Rattle.wot_fields.specs.declared.state_line.StateLine.{StateLine}
use Rattle.wot_keyring.specs.Dump as keyrings
use Rattle.wot_keyring.specs.Dump.{AreLines, command_line_of, lines_of, most_dumped}
use Rattle.wot_keyring_spec.specs.Held.{held_of}
use Rattle.wot_keyring_spec.specs.Kept.{AreSmall}
use Rattle.wot_cache.specs.Views.{Views, AreWithinLimits}
use Rattle.wot_cache.specs.State.{Engine, state_of}
use Rattle.wot_cache.specs.Dump.{commands_of, root_of, view_commands}
use Rattle.wot_cache.proofs.Lines.{few_commands}

-- the line of the command has at most 128 octets
abbrev IsShort : StateLine → Type 0
IsShort c = most_octets c ≤ 128

abbrev AreShort : List StateLine → Type 0
AreShort commands = AllByRecursion IsShort commands

short_fit : (commands : List StateLine) → AreShort commands → AreLines commands
    → length (lines_of commands) ≤ 129 * length commands
short_fit [] short lines = omega arith
short_fit (c ∷ commands) short lines =
    omega (
      arith,
      length-append (command_line_of c) (lines_of commands),
      length-append (spelling c) (10 ∷ []),
      lines.0.fits,
      short.0,
      short_fit commands short.1 lines.1,
    )

both_short : (first last : List StateLine) → AreShort first → AreShort last → AreShort (first ++ last)
both_short [] last h k = k
both_short (c ∷ first) last h k = (h.0, both_short first last h.1 k)

roots_short : (view : List ℕ) (roots : List (Fpr × ℕ)) → AreShort (map (root_of view) roots)
roots_short view [] = tt
roots_short view (r ∷ roots) = (omega arith, roots_short view roots)

views_short : (views : Views) → AreShort (flat_map view_commands views)
views_short [] = tt
views_short (e ∷ views) =
    both_short (view_commands e) (flat_map view_commands views) (omega arith, roots_short e.0 e.1.roots)
    (views_short views)

last_lines : (first last : List StateLine) → AreLines (first ++ last) → AreLines last
last_lines [] last lines = lines
last_lines (c ∷ first) last lines = last_lines first last lines.1

pub dump_fits : (engine : Engine) → AreSmall engine.keyring.limits → AreWithinLimits engine.keyring.limits engine.views
    → length (lines_of (keyrings.commands_of (held_of engine.keyring))) ≤ most_dumped engine.keyring.limits
    → AreLines (commands_of (state_of engine)) → length (lines_of (commands_of (state_of engine))) < 2 ^ 30
dump_fits engine small within held_fits lines =
    let held : List StateLine = keyrings.commands_of (held_of engine.keyring) in
    let opened : List StateLine = flat_map view_commands engine.views in
    let split = ap length (flat_map-append command_line_of held opened) ∙ length-append (lines_of held)
    (lines_of opened) in
    let views_fit = short_fit opened (views_short engine.views) (last_lines held opened lines) in
    let few = few_commands engine.keyring.limits engine.views small.roots within.few_roots in
    omega (
      arith,
      split,
      views_fit,
      few,
      within.few,
      held_fits,
      small.views,
      small.certificates,
      small.octets,
      small.verdicts,
    )
