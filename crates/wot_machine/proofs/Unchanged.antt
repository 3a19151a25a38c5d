-- What leaves the state unchanged leaves the whole engine unchanged except for marks.
use Rattle.std.proofs.Common.{◌≡◌, inl, inr, ap, ◌∙◌}
use Rattle.wot_keyring_spec.specs.Import.{IsOneChange}
use Rattle.wot_keyring_spec.specs.Keyring.{Keyring}
use Rattle.wot_cache.specs.State.{Engine, State, StaysButMarks, state_of}
use Rattle.wot_command.specs.Lasting.{CanRun}
use Rattle.wot_machine.specs.Machine.{RunsOnce}
use Rattle.wot_plain.proofs.Sessions.{same_few}

pub unchanged : (old new : Engine) → IsOneChange old.keyring new.keyring →
    (state_of new ≡ state_of old → new.revisions ≡ old.revisions) → state_of new ≡ state_of old → StaysButMarks old new
unchanged old new (inl same) still e = record { keyring = same; views = ap (λ (s : State). s.views) e; revisions = still e }
unchanged old new (inr changed) still e = absurd (changed.altered (ap (λ (s : State). s.held) e))

-- what leaves all but marks
pub runs_none : (old new : Engine) → CanRun old → StaysButMarks old new → RunsOnce old new
runs_none old new ready stays = record {
  standard = ap (λ (k : Keyring). k.limits) stays.keyring ∙ ready.standard;
  counted = inl stays.keyring;
  turned = same_few old.revisions new.revisions stays.revisions;
  still = λ same. stays.revisions;
}
