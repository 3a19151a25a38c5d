-- Slots have the numbers of the table.
use Rattle.std.proofs.Common.{◌≡◌, ℕ, List, [], ◌∷◌, ◌++◌, sym, subst}
use Rattle.std.proofs.lemmas.List.Elements.{All-push}
use Rattle.wot_types.specs.declared.fpr.Fpr.{Fpr}
use Rattle.wot_reach.specs.declared.slots.Slot.{Slot}
use Rattle.wot_reach.specs.Slots.{AreSlots, HasNumber}

pub tells_equal : (numbers : List (Fpr × ℕ)) (a b : Fpr) (n : ℕ) → a ≡ b → HasNumber numbers a n → HasNumber numbers b n
tells_equal numbers a b n same tells = subst (λ (fpr : Fpr). HasNumber numbers fpr n) same tells

pub slot_added : (numbers : List (Fpr × ℕ)) (slots more : List Slot) (slot : Slot) → AreSlots numbers slots
    → HasNumber numbers slot.fpr slot.number
    → more ≡ slots ++ slot ∷ [] → AreSlots numbers more
slot_added numbers slots more slot are tells e =
    subst (AreSlots numbers) (sym e) (All-push (λ (one : Slot). HasNumber numbers one.fpr one.number) slots slot are tells)
