-- The standard rows, by the hash numbers of RFC 9580, section 9.5.
use Rattle.std.specs.Prelude.{◌≡◌, ℕ, ◌<◌, if◌then◌else◌, nat_eq, List, [], ◌∷◌}
use Rattle.wot_policy.specs.declared.rows.Ask.{Ask}
use Rattle.wot_policy.specs.declared.rows.Row.{Row}
use Rattle.wot_policy.specs.declared.rows.Row.TheVariants.{Never, Before, Always}
use Rattle.wot_policy.specs.declared.rows.PolicyRows.{PolicyRows}
use Rattle.wot_policy.specs.Admits.{is_revoking, row_of}

-- the first moment of 1 February 2013, in seconds since 1970
abbrev pub february_2013 : ℕ
february_2013 = 1359676800

-- the hash numbers that still count, if SHA-1 and RIPEMD-160 have this row
abbrev pub table_with : Row → List (ℕ × Row)
table_with old =
    (2, old)  -- SHA-1
    ∷ (3, old)  -- RIPEMD-160
    ∷ (8, Always)  -- SHA2-256
    ∷ (9, Always)  -- SHA2-384
    ∷ (10, Always)  -- SHA2-512
    ∷ (11, Always)  -- SHA2-224
    ∷ (12, Always)  -- SHA3-256
    ∷ (14, Always)  -- SHA3-512
    ∷ []

-- the row of a hash number in a table; a number that isn't in it never counts
abbrev pub found_in : List (ℕ × Row) → ℕ → Row
found_in [] hash = Never
found_in (entry ∷ rest) hash = if nat_eq hash entry.0 then entry.1 else found_in rest hash

-- The standard row of a signature type and a hash number. A revocation counts whenever it was created, so that no
-- revocation by an old key is lost.
unfoldable pub standard_row : ℕ → ℕ → Row
standard_row kind hash = found_in (table_with (if is_revoking kind then Always else Before february_2013)) hash

-- The row of each question is the standard one of its type and its hash number.
abbrev pub IsStandard : PolicyRows → Type 0
IsStandard rows = (ask : Ask) → ask.hash < 256 → row_of rows ask ≡ standard_row ask.kind ask.hash
