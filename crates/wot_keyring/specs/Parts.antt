-- How the parts of a keyring hold together.
use Rattle.std.specs.Prelude.{ℕ}
use Rattle.wot_index.specs.declared.index.Index.{Index}
use Rattle.wot_index.specs.declared.log.Log.{Log}
use Rattle.wot_index.specs.Index.{IsIndexOf}
use Rattle.wot_keyring_spec.specs.Keyring.{Keyring}
use Rattle.wot_keyring_spec.specs.Kept.{AreTotals, IsKeyring}
use Rattle.wot_index.specs.Log.{IsLogOf}

-- The totals, the index and the log are those of what is held.
abbrev pub HoldTogether : Keyring → ℕ → ℕ → Index → Log → Type 0
HoldTogether k octets signatures index log =
    IsKeyring k × AreTotals k octets signatures × IsIndexOf index k.certs × IsLogOf log k.certs k.changes
