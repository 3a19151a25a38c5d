-- What lasts through a call that leaves it alone, and through one that changes it once.
use Rattle.std.proofs.Common.{◌≡◌, ◌≤◌, ℕ, Bool, false, List, length, Option, None, Result, Ok, Err}
use Rattle.std.proofs.Common.{refl, sym, ap, subst, ◌∙◌, inl, arith}
use Rattle.std.specs.Fn.{Shared}
use Rattle.wot_policy.specs.declared.rows.Ask.{Ask}
use Rattle.wot_policy.specs.declared.policy.Policy.{Policy}
use Rattle.wot_policy.specs.Kept.{rows_of}
use Rattle.wot_keyring_spec.specs.Keyring.{Keyring}
use Rattle.wot_keyring_spec.specs.Kept.{IsJudgedBy}
use Rattle.wot_certd.specs.World.{World}
use Rattle.wot_cache.specs.Changes.{ChangesKeyring}
use Rattle.wot_cache.specs.State.{Engine, State}
use Rattle.wot_script.specs.declared.command.Command.{Command}
use Rattle.wot_script.specs.Grammar.{command_of}
use Rattle.wot_plain.specs.Entry.{MayPut, Use, entry_for, use_of}
use Rattle.wot_plain.specs.Lines.{command_in_line, is_silent, longest}
use Rattle.wot_plain.proofs.StepsByKind.{heard_read}
use Rattle.wot_plain.proofs.Results.{any_err}
use Rattle.wot_command.proofs.DirectoryAfterFailure.{puts_still}
use Rattle.wot_command.specs.Lasting.{CanChange, CanRun, ChangesHeld, ChangesOnce, IsJudging, StaysJudging, Touches}

-- what can run can change
pub can_change : (engine : Engine) → CanRun engine → CanChange engine
can_change engine ready = record { standard = ready.standard; countable = ready.counts.changes }

-- a call of the engine that may change what is held
pub changes_held : (old new : Engine) → CanChange old → ChangesKeyring old new → ChangesHeld old new
changes_held old new ready changes = record {
  once = record { counted = changes.counted; standard = changes.limits ∙ ready.standard };
  marks = changes.marks;
  revisions = changes.revisions;
}

-- nothing happened
pub held_still : (engine : Engine) → CanChange engine → ChangesHeld engine engine
held_still engine ready = record {
  once = record { counted = inl refl; standard = ready.standard };
  marks = refl;
  revisions = refl;
}

-- the keyring stays
pub changes_none : (old new : Engine) → CanRun old → new.keyring ≡ old.keyring → ChangesOnce old new
changes_none old new ready same = record {
  counted = inl same;
  standard = ap (λ (k : Keyring). k.limits) same ∙ ready.standard;
}

module _ {F : Type 0} where
  -- neither the policy nor the keyring changes
  pub judging_still : (calls : Shared F (Ask × Unit {0}) Bool) (policy : Policy F) (old new : Keyring) → new ≡ old →
      IsJudging calls policy old → StaysJudging calls policy policy new
  judging_still calls policy old new same judging = record {
    judged = subst (λ (k : Keyring). IsJudgedBy (rows_of policy) k) (sym same) judging.judged;
    faithful = judging.faithful;
    rows = refl;
  }

-- the directory isn't used
pub touches_none : {T E D : Type 0} (r : Result T E) (s : State) (use_ : Use) (world : D → Option World)
    (faults : D → ℕ) (shelf : D) → Touches r s use_ world faults shelf shelf
touches_none r s use_ world faults shelf = record {
  untouched = λ none. refl;
  entries = any_err r _ (puts_still s use_ (world shelf));
  later = omega arith;
}

-- ---- a line that is read as it is heard

read_untouched : {D : Type 0} (line : List ℕ) (s : State) (old new : D) → length line ≤ longest →
    is_silent line ≡ false → (entry_for s (use_of (command_of line)) ≡ None → new ≡ old)
    → entry_for s (use_of (command_in_line line)) ≡ None → new ≡ old
read_untouched line s old new short loud same =
    subst (λ (o : Option Command). entry_for s (use_of o) ≡ None → new ≡ old) (sym (heard_read line short loud)) same

module _ {A B T E D : Type 0} (line : List ℕ) (s : State) (world : D → Option World) (faults : D → ℕ) (old new : D)
    (short : length line ≤ longest) (loud : is_silent line ≡ false) where
  pub touches_ok : (r : Result A B) (done : T) → Touches r s (use_of (command_of line)) world faults old new →
      Touches {T = T} {E = E} (Ok done) s (use_of (command_in_line line)) world faults old new
  touches_ok r done t = record {
    untouched = read_untouched line s old new short loud t.untouched;
    entries = tt;
    later = t.later;
  }

  pub touches_err : (fault : B) (failed : Result T E)
      → Touches {T = A} {E = B} (Err fault) s (use_of (command_of line)) world faults old new →
      Touches failed s (use_of (command_in_line line)) world faults old new
  touches_err fault failed t = record {
    untouched = read_untouched line s old new short loud t.untouched;
    entries = any_err failed _ (subst (λ (o : Option Command). MayPut s (use_of o) (world old) (world new))
        (sym (heard_read line short loud)) t.entries);
    later = t.later;
  }
