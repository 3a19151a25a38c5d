-- The words after the program's name.
use Rattle.std.specs.Prelude.{◌≡◌, ◌≢◌, ◌⊎◌, ℕ, List, [], ◌∷◌, Option, Some, None, codes}
use Rattle.wot_fields.specs.Decimal.{decimal_up_to, positive_up_to}
use Rattle.wot_engine.specs.declared.form.Form.{Form}
use Rattle.wot_engine.specs.declared.form.Form.TheVariants.{Run, Generate}

-- the words of a run: `run` alone, or with the path of the certificate directory
abbrev pub IsRun : List (List ℕ) → Type 0
IsRun [] = ⊥
IsRun (word ∷ []) = word ≡ codes "run"
IsRun (word ∷ folder ∷ []) = (word ≡ codes "run") × (folder ≢ [])
IsRun (word ∷ folder ∷ third ∷ words) = ⊥

-- the words of a generated run, with the start and the count of its script
abbrev pub IsGenerated : List (List ℕ) → ℕ → ℕ → Type 0
IsGenerated [] start count = ⊥
IsGenerated (word ∷ []) start count = ⊥
IsGenerated (word ∷ first ∷ []) start count = ⊥
IsGenerated (word ∷ first ∷ second ∷ []) start count =
    (word ≡ codes "gen") × (decimal_up_to 18446744073709551615 first ≡ Some start)
    × (positive_up_to 2000 second ≡ Some count)
IsGenerated (word ∷ first ∷ second ∷ fourth ∷ words) start count = ⊥

-- P holds of the script if these are the words of a generated run
abbrev pub OnGenerated : List (List ℕ) → (ℕ → ℕ → Type 0) → Type 0
OnGenerated words P = (start count : ℕ) → IsGenerated words start count → P start count

-- the words of either form
abbrev pub IsForm : List (List ℕ) → Type 0
IsForm words = IsRun words ⊎ ((start count : ℕ) × IsGenerated words start count)

-- the form that words have, or None
abbrev pub IsFormOf : List (List ℕ) → Option Form → Type 0
IsFormOf words None = ¬ IsForm words
IsFormOf words (Some Run) = IsRun words
IsFormOf words (Some (Generate start count)) = IsGenerated words start count
