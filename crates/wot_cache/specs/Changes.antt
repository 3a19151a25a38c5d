-- What a change of the keyring does to an engine.
use Rattle.std.specs.Prelude.{◌≡◌, ℕ, List}
use Rattle.wot_policy.specs.declared.rows.PolicyRows.{PolicyRows}
use Rattle.wot_keyring_spec.specs.Import.{IsOneChange, imported, importing}
use Rattle.wot_cache.specs.State.{Engine, IsStateAfter}

-- Only the keyring changed, and at most once: its limits, the views, their marks, their revisions and what is kept for
-- them stay.
pub record ChangesKeyring (old new : Engine) : Type 0 where
  pub counted : IsOneChange old.keyring new.keyring
  pub limits : new.keyring.limits ≡ old.keyring.limits
  pub views : new.views ≡ old.views
  pub marks : new.marks ≡ old.marks
  pub revisions : new.revisions ≡ old.revisions
  pub answers : new.answers ≡ old.answers

-- These octets were imported: into the keyring, and so into the state.
pub record IsImported (rows : PolicyRows) (octets : List ℕ) (old new : Engine) : Type 0 where
  pub keyring : new.keyring ≡ imported rows old.keyring octets
  pub state : IsStateAfter (importing rows octets) old new
