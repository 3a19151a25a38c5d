-- Which signatures a policy admits.
use Rattle.std.specs.Prelude.{ℕ, ◌<◌, ◌^◌, Bool, true, false, ◌||◌, if◌then◌else◌, nat_eq, nat_lt, slice_index_or}
use Rattle.wot_policy.specs.declared.rows.Ask.{Ask}
use Rattle.wot_policy.specs.declared.rows.Row.{Row}
use Rattle.wot_policy.specs.declared.rows.Row.TheVariants.{Never, Before, Always}
use Rattle.wot_policy.specs.declared.rows.PolicyRows.{PolicyRows}

-- whether a row admits what was created at that moment
abbrev pub row_admits : Row → ℕ → Bool
row_admits Never made = false
row_admits (Before moment) made = nat_lt made moment
row_admits Always made = true

-- whether a signature type is a revocation (RFC 9580, section 5.2.1)
abbrev pub is_revoking : ℕ → Bool
is_revoking kind =
    nat_eq kind 32  -- a key revocation, 0x20
    || (nat_eq kind 40  -- a subkey revocation, 0x28
    || nat_eq kind 48)  -- a certification revocation, 0x30

-- the row of what is asked: that of its hash number, among the rows for revocations or for other signature types
abbrev pub row_of : PolicyRows → Ask → Row
row_of rows ask = slice_index_or (if is_revoking ask.kind then rows.revoking else rows.plain) ask.hash Never

-- whether the rows admit what is asked
abbrev pub admits : PolicyRows → Ask → Bool
admits rows ask = row_admits (row_of rows ask) ask.made

-- What is asked fits its types. A policy promises nothing about other questions.
pub record Fits (ask : Ask) : Type 0 where
  pub kind : ask.kind < 256
  pub hash : ask.hash < 256
  pub made : ask.made < 2 ^ 32
