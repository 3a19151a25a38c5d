-- How many looks are left to a search.
use Rattle.std.specs.Prelude.{ℕ, zero, suc, Option, Some, None}

-- after one more look, if any is left; none once one too many was asked for
abbrev pub looks_after : Option ℕ → Option ℕ
looks_after None = None
looks_after (Some zero) = None
looks_after (Some (suc left)) = Some left

-- how many looks may still be asked for before the answer is that none is left: one more than are left, and 0 once one
-- too many was asked for
abbrev pub looks_in : Option ℕ → ℕ
looks_in None = zero
looks_in (Some left) = suc left
