-- Each command of a script has a spelling.
use Rattle.std.proofs.Common.{ℕ, ◌-◌, ◌/◌, List, [], ◌∷◌, ◌++◌, map, arith}
use Rattle.std.specs.List.{AllByRecursion, flat_map, range_with_len}
use Rattle.wot_script.specs.declared.command.Command.{Command}
use Rattle.wot_script.specs.declared.command.Command.TheVariants.{Good}
use Rattle.wot_script.specs.Spelling.{HasSpelling}
use Rattle.wot_random.specs.Certifications.{certifications_at}
use Rattle.wot_gen.specs.Script.{certificate_commands, changes, commands_of, questions, view_commands}
use Rattle.wot_random.specs.declared.certification.Certification.{Certification}

abbrev AreSpelled : List Command → Type 0
AreSpelled commands = AllByRecursion HasSpelling commands

both : (xs ys : List Command) → AreSpelled xs → AreSpelled ys → AreSpelled (xs ++ ys)
both [] ys first second = second
both (x ∷ xs) ys first second = (first.0, both xs ys first.1 second)

each : (f : ℕ → List Command) (xs : List ℕ) → ((x : ℕ) → AreSpelled (f x)) → AreSpelled (flat_map f xs)
each f [] all = tt
each f (x ∷ xs) all = both (f x) (flat_map f xs) (all x) (each f xs all)

verdicts : (made : List Certification) → AreSpelled (map (λ (one : Certification). Good one.number one.issuer) made)
verdicts [] = tt
verdicts (one ∷ made) = (tt, verdicts made)

certificates : (start index : ℕ) (made : List Certification) → AreSpelled (certificate_commands start index made)
unfolding certificate_commands
certificates start index made = (tt, (tt, verdicts made))

views : (start count : ℕ) → AreSpelled (view_commands start count)
unfolding view_commands
views start count = (tt, (tt, (tt, (tt, (tt, tt)))))

asked : (start index : ℕ) → AreSpelled (questions start index)
asked start index = (omega arith, (omega arith, tt))

changed : (start count round : ℕ) → AreSpelled (changes start count round)
changed start count round = (tt, (omega arith, (tt, (omega arith, tt))))

pub commands-spelled : (start count : ℕ) → AreSpelled (commands_of start count)
unfolding commands_of
commands-spelled start count =
    let indices = range_with_len 0 count in
    both _ _
    (both _ _
    (both _ _
    (each (λ index. certificate_commands start index (certifications_at start count index)) indices
    (λ index. certificates start index (certifications_at start count index)))
    (views start count))
    (each (questions start) indices (asked start)))
    (each (changes start count) (range_with_len 0 ((count - 1) / 10)) (changed start count))
