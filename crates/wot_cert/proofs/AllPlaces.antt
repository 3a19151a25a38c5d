-- All places of a certificate, one after the other.
use Rattle.std.proofs.Common.{◌≡◌, ℕ, ◌+◌, ◌≤◌, List, map, ap, ◌∙◌, arith}
use Rattle.wot_policy.specs.declared.rows.PolicyRows.{PolicyRows}
use Rattle.wot_component.specs.Certificate.{Component, Signature, part_with, unite_parts, unite_sigs}
use Rattle.wot_component.specs.Counts.{sum_of}
use Rattle.wot_component.specs.Growing.{sound_weight}
use Rattle.wot_component.specs.Judged.{if_sound, judged_sig}
use Rattle.wot_component.specs.Totals.{cap, Counts}

pub all_four : (i j k l d u t s D U T S : ℕ) → i + d ≡ D → j + u ≡ U → k + t ≡ T → l + s ≡ S
    → (((i + j) + k) + l) + (d + u + t + s) ≡ D + U + T + S
all_four i j k l d u t s D U T S e f g h = omega arith

pub up_to_one : (i d u t s D U T S : ℕ) → i + d ≤ D → u ≤ U → t ≤ T → s ≤ S → i + (d + u + t + s) ≤ D + U + T + S
up_to_one i d u t s D U T S e f g h = omega arith

pub up_to_two : (i j d u t s D U T S : ℕ) → i + d ≡ D → j + u ≤ U → t ≤ T → s ≤ S
    → (i + j) + (d + u + t + s) ≤ D + U + T + S
up_to_two i j d u t s D U T S e f g h = omega arith

pub up_to_three : (i j k d u t s D U T S : ℕ) → i + d ≡ D → j + u ≡ U → k + t ≤ T → s ≤ S
    → ((i + j) + k) + (d + u + t + s) ≤ D + U + T + S
up_to_three i j k d u t s D U T S e f g h = omega arith

pub up_to_four : (i j k l d u t s D U T S : ℕ) → i + d ≡ D → j + u ≡ U → k + t ≡ T → l + s ≤ S
    → (((i + j) + k) + l) + (d + u + t + s) ≤ D + U + T + S
up_to_four i j k l d u t s D U T S e f g h = omega arith

pub same_sigs : (rows r : PolicyRows) (xs os os' : List Signature) → r ≡ rows → os ≡ os'
    → sum_of if_sound (unite_sigs xs (map (judged_sig r) os)) ≡ sum_of if_sound
    (unite_sigs xs (map (judged_sig rows) os'))
same_sigs rows r xs os os' e f = λ i. sum_of if_sound (unite_sigs xs (map (judged_sig (e i)) (f i)))

pub same_parts : (rows r : PolicyRows) (xs os os' : List Component) → r ≡ rows → os ≡ os'
    → sum_of sound_weight (unite_parts xs (map (part_with (judged_sig r)) os)) ≡ sum_of sound_weight
    (unite_parts xs (map (part_with (judged_sig rows)) os'))
same_parts rows r xs os os' e f = λ i. sum_of sound_weight (unite_parts xs (map (part_with (judged_sig (e i))) (f i)))

pub less_by : (k n a b : ℕ) → k + n ≤ a → a ≡ b → k + n ≤ b
less_by k n a b h e = omega arith

to_first : (n x y z w : ℕ) → n + (x + y + z + w) ≡ (n + (y + z + w)) + x
to_first n x y z w = omega arith

to_second : (n x y z w : ℕ) → (n + (y + z + w)) + x ≡ (n + (x + z + w)) + y
to_second n x y z w = omega arith

to_third : (n x y z w : ℕ) → (n + (x + z + w)) + y ≡ (n + (x + y + w)) + z
to_third n x y z w = omega arith

to_fourth : (n x y z w : ℕ) → (n + (x + y + w)) + z ≡ (n + (x + y + z)) + w
to_fourth n x y z w = omega arith

back_again : (n x y z w : ℕ) → (n + (x + y + z)) + w ≡ n + (x + y + z + w)
back_again n x y z w = omega arith

pub counts_four : (a b c d e x x' y y' z z' w w' : ℕ) → Counts a x b x' → Counts b y c y' → Counts c z d z'
    → Counts d w e w' → Counts a (x + y + z + w) e (x' + y' + z' + w')
counts_four a b c d e x x' y y' z z' w w' f g h i n start =
    let one : b ≡ cap ((n + (y + z + w)) + x') = f (n + (y + z + w)) (start ∙ ap cap (to_first n x y z w)) in
    let two : c ≡ cap ((n + (x' + z + w)) + y') = g (n + (x' + z + w)) (one ∙ ap cap (to_second n x' y z w)) in
    let three : d ≡ cap ((n + (x' + y' + w)) + z') = h (n + (x' + y' + w)) (two ∙ ap cap (to_third n x' y' z w)) in
    let four : e ≡ cap ((n + (x' + y' + z')) + w') = i (n + (x' + y' + z')) (three ∙ ap cap (to_fourth n x' y' z' w)) in
    four ∙ ap cap (back_again n x' y' z' w')
