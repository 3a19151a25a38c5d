-- The merge of an accepted import: where its certificates are afterwards, and what is noted and logged of them.
use Rattle.std.specs.Prelude.{◌≡◌, ℕ, List, [], ◌∷◌, Option, Some, None, Result, Ok, Err, nat_lt, MatchBool}
use Rattle.std.specs.Map.{lookup}
use Rattle.wot_types.specs.declared.fpr.Fpr.{Fpr}
use Rattle.wot_types.specs.declared.number.SigNumber.{SigNumber}
use Rattle.wot_component.specs.Certificate.{Certificate}
use Rattle.wot_keyring_spec.specs.declared.kept.Kept.{Kept}
use Rattle.wot_keyring_spec.specs.Keyring.{Entries, is_fpr}
use Rattle.wot_index.specs.declared.index.Index.{Index}
use Rattle.wot_index.specs.declared.log.Log.{Log}
use Rattle.wot_index.specs.Index.{stands_among, Notes, NotesNothing, SaysSame}
use Rattle.wot_index.specs.Log.{is_named_in, LogsAt}
use Rattle.wot_merge.specs.declared.staging.Fault.{Fault}
use Rattle.wot_merge.specs.declared.tally.Tally.{Tally}
use Rattle.wot_keyring.specs.declared.uniting.Merged.{Merged}
use Rattle.wot_keyring.specs.declared.uniting.Merged.TheVariants.{New, Listed}

-- the certificate that was found, as a list
abbrev pub found_alone : Option Kept → List Certificate
found_alone None = []
found_alone (Some x) = x.cert ∷ []

-- the certificates after the merge: the kept one of the fingerprint, or those of the list
abbrev pub certs_in : Entries → Merged → List Certificate
certs_in es (New fpr) = found_alone (lookup (is_fpr fpr) es)
certs_in es (Listed list) = list.items

-- Both lists have the same fingerprints, and the same signatures under each, by their numbers.
pub record NamesSame (cs ds : List Certificate) : Type 0 where
  pub stands : (n : SigNumber) (fpr : Fpr) → stands_among cs n fpr ≡ stands_among ds n fpr
  pub named : (fpr : Fpr) → is_named_in cs fpr ≡ is_named_in ds fpr

-- The verdicts are left alone. The signatures of these certificates were noted; on an error, nothing was.
abbrev pub NotesOnOk : {T E : Type 0} → Result T E → List Certificate → Index → Index → Type 0
NotesOnOk (Ok done) cs old new = SaysSame old.verdicts new.verdicts × Notes old new (stands_among cs)
NotesOnOk (Err fault) cs old new = SaysSame old.verdicts new.verdicts × NotesNothing old new

-- These certificates were logged with a stamp if anything was new; on an error, nothing was.
abbrev pub LogsOnOk : Result Tally Fault → ℕ → List Certificate → Log → Log → Type 0
LogsOnOk (Ok tally) stamp cs old new =
    MatchBool (nat_lt 0 tally.fresh) (LogsAt stamp (is_named_in cs) old new) (new ≡ old)
LogsOnOk (Err fault) stamp cs old new = new ≡ old
