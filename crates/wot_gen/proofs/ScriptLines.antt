-- How many lines a script has.
use Rattle.std.proofs.Common.{◌≡◌, ℕ, zero, suc, ◌+◌, ◌-◌, ◌*◌, ◌/◌, ◌≤◌, List, ◌++◌, length, length-append, refl, ap}
use Rattle.std.proofs.Common.{subst, ◌∙◌, arith}
use Rattle.std.proofs.lemmas.List.{length-map}
use Rattle.wot_script.specs.declared.command.Command.{Command}
use Rattle.wot_script.specs.declared.command.Command.TheVariants.{Good}
use Rattle.wot_random.specs.Certifications.{certifications_at}
use Rattle.wot_gen.specs.Script.{below, certificate_commands, changes, commands_of, line_count, questions}
use Rattle.wot_gen.specs.Script.{view_commands}
use Rattle.wot_random.specs.declared.certification.Certification.{Certification}
use Rattle.wot_gen.proofs.Below.{below_more}
use Rattle.wot_random.proofs.ThreeCertifications.{three_listed}

-- one step more
next_length : (f : ℕ → List Command) (n size : ℕ) → length (f n) ≡ size →
    length (below (suc n) f) ≡ length (below n f) + size
next_length f n size e =
    let more : n + 1 ≡ suc n = omega arith in
    let next : below (suc n) f ≡ below n f ++ f n = subst (λ m. below m f ≡ below n f ++ f n) more (below_more f n) in
    ap length next ∙ length-append (below n f) (f n) ∙ ap (λ more. length (below n f) + more) e

same_lengths : (f : ℕ → List Command) (size : ℕ) → ((i : ℕ) → length (f i) ≡ size) →
    (n : ℕ) → length (below n f) ≡ size * n
same_lengths f size each zero = omega arith
same_lengths f size each (suc n) =
    let before = same_lengths f size each n in
    let next = next_length f n size (each n) in
    grind (arith, before, next)

-- the first step is three shorter than the others
first_shorter : (f : ℕ → List Command) → length (f 0) ≡ 2 → ((i : ℕ) → length (f (suc i)) ≡ 5)
    → (n : ℕ) → length (below (suc n) f) ≡ 2 + 5 * n
first_shorter f first others zero = next_length f 0 2 first
first_shorter f first others (suc n) =
    let before = first_shorter f first others n in
    let next = next_length f (suc n) 5 (others n) in
    omega (arith, before, next)

certificate_length : (start index : ℕ) (made : List Certification)
    → length (certificate_commands start index made) ≡ 2 + length made
unfolding certificate_commands
certificate_length start index made =
    ap (λ n. suc (suc n)) (length-map made (λ (one : Certification). Good one.number one.issuer)) ∙ omega arith

none_first : (start count : ℕ) → length (certifications_at start count 0) ≡ 0
unfolding certifications_at
none_first start count = refl

three_others : (start count index : ℕ) → length (certifications_at start count (suc index)) ≡ 3
three_others start count index = ap length (three_listed start count (suc index) (grind arith))

view_length : (start count : ℕ) → length (view_commands start count) ≡ 5
unfolding view_commands
view_length start count = refl

certificates_length : (start count n : ℕ)
    → length (below (suc n) (λ i. certificate_commands start i (certifications_at start count i))) ≡ 2 + 5 * n
certificates_length start count n =
    first_shorter (λ i. certificate_commands start i (certifications_at start count i))
    (certificate_length start 0 (certifications_at start count 0) ∙ ap (λ k. 2 + k) (none_first start count))
    (λ i. certificate_length start (suc i) (certifications_at start count (suc i))
    ∙ ap (λ k. 2 + k) (three_others start count i))
    n

lengths : (a b c d : List Command) → length (((a ++ b) ++ c) ++ d) ≡ ((length a + length b) + length c) + length d
lengths a b c d = simp length-append refl

summed : (a b c d : List Command) (count n k m : ℕ) → count ≡ suc n → k ≡ n
    → length a ≡ 2 + 5 * n → length b ≡ 5 → length c ≡ 2 * count → length d ≡ 4 * m
    → length (((a ++ b) ++ c) ++ d) ≡ 2 * count + 3 * k + 5 + 2 * count + 4 * m
summed a b c d count n k m is same first second third fourth =
    lengths a b c d ∙ omega (arith, is, same, first, second, third, fourth)

pub commands_counted : (start count : ℕ) → 1 ≤ count → length (commands_of start count) ≡ line_count count
unfolding commands_of
commands_counted start zero some = absurd (omega arith)
commands_counted start (suc n) some =
    let same : suc n - 1 ≡ n = omega arith in
    summed _ _ _ _ (suc n) n (suc n - 1) ((suc n - 1) / 10) refl same
    (certificates_length start (suc n) n)
    (view_length start (suc n))
    (same_lengths (questions start) 2 (λ i. refl) (suc n))
    (same_lengths (changes start (suc n)) 4 (λ i. refl) ((suc n - 1) / 10))
