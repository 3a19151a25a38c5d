-- Verdicts and certificates as one row of slots and a tree keep them, and how many verdicts there are.
use Rattle.std.specs.Prelude.{◌≡◌, ◌<◌, ◌^◌, ◌++◌, ℕ, cond, length, Option, Some, None}
use Rattle.std.specs.Map.{keys_of, lookup}
use Rattle.std.specs.Option.{option_map, option_or}
use Rattle.wot_types.specs.declared.fpr.Fpr.{Fpr}
use Rattle.wot_types.specs.declared.fpr.Fpr.TheVariants.{V4}
use Rattle.wot_types.specs.declared.number.SigNumber.{SigNumber}
use Rattle.wot_verdict.specs.declared.noted.Noted.{Noted}
use Rattle.wot_verdict.specs.declared.noted.Noted.TheVariants.{Held, Judged, Both}
use Rattle.wot_verdict.specs.declared.noted.Short.{Short}
use Rattle.wot_verdict.specs.declared.verdict.Verdict.{Verdict}
use Rattle.wot_verdict.specs.Verdicts.{ByNumber, Entries, Holders, is_number}
use Rattle.wot_slots.specs.declared.slots.Slots.{Slots}
use Rattle.wot_slots.specs.Above.{AreNumbers, entries_by, listed, numbers_in}
use Rattle.wot_slots.specs.Near.{held_of}

-- the verdict that is noted, if there is one
abbrev pub verdict_in : Option Noted → Option Verdict
verdict_in None = None
verdict_in (Some (Held short)) = None
verdict_in (Some (Judged verdict)) = Some verdict
verdict_in (Some (Both verdict short)) = Some verdict

-- the certificate of version 4 that is noted, if there is one
abbrev pub short_in : Option Noted → Option Short
short_in None = None
short_in (Some (Held short)) = Some short
short_in (Some (Judged verdict)) = None
short_in (Some (Both verdict short)) = Some short

-- the verdict on a number
abbrev pub said_in : Slots Noted → SigNumber → Option Verdict
said_in held n = verdict_in (held_of held n)

-- the certificate of version 4 with the signature of a number
abbrev pub shorts_in : Slots Noted → SigNumber → Option Short
shorts_in held n = short_in (held_of held n)

-- ---- the verdicts

-- the numbers above the last one that have a verdict, in order
abbrev pub verdicts_above : Option SigNumber → Slots Noted → Entries
verdicts_above last held = entries_by (said_in held) last held

-- all numbers that have a verdict, in order
abbrev pub verdicts_in : Slots Noted → Entries
verdicts_in held = verdicts_above None held

-- `count` verdicts are kept, and each number has 32 octets.
pub record IsKept (held : Slots Noted) (count : ℕ) : Type 0 where
  pub numbers : AreNumbers held
  pub counted : count ≡ length (verdicts_in held)
  pub few : count < 2 ^ 63

-- As many verdicts are kept as before.
abbrev pub KeepsCount : Slots Noted → Slots Noted → Type 0
KeepsCount old new = (count : ℕ) → IsKept old count → IsKept new count

-- ---- the certificates

-- the fingerprint of version 4 with these octets
abbrev pub full : Short → Fpr
full short = V4 short.0

-- the fingerprint that a row and a tree have for a number
abbrev pub holder_in : (SigNumber → Option Short) → Holders → SigNumber → Option Fpr
holder_in short long n = option_or (option_map full (short n)) (lookup (is_number n) long)

-- Both rows have the same certificate for each number.
abbrev pub SameShorts : Slots Noted → Slots Noted → Type 0
SameShorts old new = (n : SigNumber) → shorts_in new n ≡ shorts_in old n

-- The new row has this certificate for one number, or none, and what the old one has for others.
abbrev pub ShortsAt : SigNumber → Option Short → Slots Noted → Slots Noted → Type 0
ShortsAt number w old new = (q : SigNumber) → shorts_in new q ≡ cond (is_number number q) w (shorts_in old q)

-- all numbers that have a certificate, in order
abbrev pub holders_in : Slots Noted → Holders → Holders
holders_in held long =
    listed (holder_in (shorts_in held) long) (numbers_in held.near.items held.rest.entries ++ keys_of long)

-- ---- both

-- what a row and a tree keep
abbrev pub by_number : Slots Noted → Holders → ByNumber
by_number held long = record { entries = verdicts_in held; holders = holders_in held long }
