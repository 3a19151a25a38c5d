-- How many octets a script has at most.
use Rattle.std.proofs.Common.{◌≡◌, ℕ, zero, suc, ◌+◌, ◌-◌, ◌*◌, ◌/◌, ◌<◌, ◌≤◌, ◌^◌, List, [], ◌∷◌, ◌++◌}
use Rattle.std.proofs.Common.{map, length, length-append, ap, subst, ◌∙◌, arith}
use Rattle.std.specs.List.{AllByRecursion, flat_map}
use Rattle.std.proofs.lemmas.List.Concat.{flat_map-cons}
use Rattle.wot_random.specs.Identities.{packets_at}
use Rattle.wot_random.specs.Certifications.{certifications_at}
use Rattle.wot_random.specs.declared.certification.Certification.{Certification}
use Rattle.wot_random.proofs.PacketSizes.{AreFew, certifications_fit, packets_fit, packets_length}
use Rattle.wot_random.proofs.Shapes.{user_id_fits}
use Rattle.wot_script.specs.Spelling.{most_octets, spelling}
use Rattle.wot_script.specs.declared.command.Command.{Command}
use Rattle.wot_script.specs.declared.command.Command.TheVariants.{Good}
use Rattle.wot_gen.specs.Script.{IsReadBack, below, certificate_commands, changes, commands_of, line_of, questions}
use Rattle.wot_gen.specs.Script.{text_of, view_commands}
use Rattle.wot_gen.proofs.Below.{below_more}

-- the most room that a list of commands takes, each with its line feed
abbrev room : List Command → ℕ
room [] = 0
room (command ∷ commands) = most_octets command + 1 + room commands

room_of_both : (xs ys : List Command) → room (xs ++ ys) ≡ room xs + room ys
room_of_both [] ys = omega arith
room_of_both (x ∷ xs) ys =
    let before = room_of_both xs ys in
    omega (arith, before)

text_fits : (commands : List Command) → AllByRecursion IsReadBack commands → length (text_of commands) ≤ room commands
text_fits [] all = omega arith
text_fits (command ∷ commands) all =
    let others = text_fits commands all.1 in
    let first = all.0.line.short in
    let line = length-append (spelling command) (10 ∷ []) in
    let both = ap length (flat_map-cons line_of command commands) ∙ length-append (line_of command)
    (text_of commands) in
    omega (arith, others, first, line, both)

-- steps that take at most this much each
steps_fit : (f : ℕ → List Command) (most n : ℕ) → ((i : ℕ) → i < n → room (f i) ≤ most) → room (below n f) ≤ most * n
steps_fit f most zero each = omega arith
steps_fit f most (suc n) each =
    let before = steps_fit f most n (λ i less. each i (omega (arith, less))) in
    let last = each n (omega arith) in
    let more : n + 1 ≡ suc n = omega arith in
    let next : below (suc n) f ≡ below n f ++ f n = subst (λ m. below m f ≡ below n f ++ f n) more (below_more f n) in
    let both = ap room next ∙ room_of_both (below n f) (f n) in
    grind (arith, before, last, both)

verdicts_fit : (made : List Certification) →
    room (map (λ (one : Certification). Good one.number one.issuer) made) ≡ 143 * length made
verdicts_fit [] = omega arith
verdicts_fit (one ∷ made) =
    let before = verdicts_fit made in
    omega (arith, before)

certificate_fits : (start index : ℕ) (made : List Certification) → index < 2 ^ 32 → AreFew made
    → room (certificate_commands start index made) ≤ 1100
unfolding certificate_commands
certificate_fits start index made small few =
    let own = packets_length start index small in
    let others = packets_fit made few.small in
    let whole = length-append (packets_at start index) (flat_map (λ (one : Certification). one.packet) made) in
    let verdicts = verdicts_fit made in
    let count = few.count in
    omega (arith, own, others, whole, verdicts, count)

views_fit : (start count : ℕ) → room (view_commands start count) ≤ 645
unfolding view_commands
views_fit start count = omega arith

questions_fit : (start index : ℕ) → index < 2 ^ 32 → room (questions start index) ≤ 600
questions_fit start index small =
    let uid = user_id_fits index small in
    omega (arith, uid)

changes_fit : (start count round : ℕ) → 10 * (round + 1) < 2 ^ 32 → room (changes start count round) ≤ 900
changes_fit start count round small =
    let uid = user_id_fits (10 * (round + 1)) small in
    omega (arith, uid)

all_fit : (a b c d : List Command) (count m : ℕ) → count ≤ 2000 → m ≤ 200
    → room a ≤ 1100 * count → room b ≤ 645 → room c ≤ 600 * count → room d ≤ 900 * m
    → room (((a ++ b) ++ c) ++ d) < 4000000
all_fit a b c d count m few turns first second third fourth =
    let whole = room_of_both ((a ++ b) ++ c) d in
    let three = room_of_both (a ++ b) c in
    let two = room_of_both a b in
    omega (arith, whole, three, two, few, turns, first, second, third, fourth)

commands_fit : (start count : ℕ) → count ≤ 2000 → room (commands_of start count) < 4000000
unfolding commands_of
commands_fit start count few =
    let turns : (count - 1) / 10 ≤ 200 = omega (arith, few) in
    all_fit _ _ _ _ count ((count - 1) / 10) few turns
    (steps_fit (λ i. certificate_commands start i (certifications_at start count i)) 1100 count
    (λ i less. certificate_fits start i (certifications_at start count i) (omega (arith, less, few))
    (certifications_fit start count i)))
    (views_fit start count)
    (steps_fit (questions start) 600 count (λ i less. questions_fit start i (omega (arith, less, few))))
    (steps_fit (changes start count) 900 ((count - 1) / 10) (λ i less. changes_fit start count i
    (omega (arith, less, turns))))

pub script_fits : (start count : ℕ) → count ≤ 2000 → AllByRecursion IsReadBack (commands_of start count)
    → length (text_of (commands_of start count)) < 4000000
script_fits start count few all =
    let fits = text_fits (commands_of start count) all in
    let small = commands_fit start count few in
    omega (arith, fits, small)
