-- How often the policy was asked: for what was added, and not at all if nothing was.
use Rattle.std.proofs.Common.{◌≡◌, ◌≢◌, ℕ, ◌+◌, ◌-◌, ◌≤◌, ◌^◌, true, false, List, length, Option, Some, None, Result}
use Rattle.std.proofs.Common.{Ok, Err, OnOk, refl, sym, ap, subst, ◌∙◌, arith}
use Rattle.std.specs.Prelude.{IfOk, is_ok, max, min}
use Rattle.wot_types.specs.declared.memory.Memory.{Memory}
use Rattle.wot_policy.specs.declared.policy.Policy.{Policy}
use Rattle.wot_policy.specs.declared.rows.PolicyRows.{PolicyRows}
use Rattle.wot_policy.specs.Kept.{asked_more}
use Rattle.wot_keyring_spec.specs.declared.imported.Imported.{Imported}
use Rattle.wot_keyring_spec.specs.declared.refusal.Refusal.{Refusal}
use Rattle.wot_keyring_spec.specs.declared.refusal.Refusal.TheVariants as refusals
use Rattle.wot_keyring_spec.specs.Import.{AsksFor, IsAsked, importing}
use Rattle.wot_keyring_spec.specs.Keyring.{Keyring}
use Rattle.wot_script.specs.declared.command.Command.{Command}
use Rattle.wot_script.specs.declared.reply.Reply.{Reply}
use Rattle.wot_script.specs.Grammar.{command_of}
use Rattle.wot_cache.specs.State.{Engine, IsStateAfter, State, state_of}
use Rattle.wot_plain.specs.declared.class.Class.{Class}
use Rattle.wot_plain.specs.declared.class.Class.TheVariants.{State as OfState}
use Rattle.wot_plain.specs.declared.class.StateCommand.TheVariants as kinds
use Rattle.wot_plain.specs.declared.class.Change.{Change}
use Rattle.wot_plain.specs.declared.class.Change.TheVariants as changes
use Rattle.wot_plain.specs.declared.class.ShelfCall.{ShelfCall}
use Rattle.wot_plain.specs.declared.class.ShelfCall.TheVariants as calls
use Rattle.wot_plain.specs.Classes.{class_of}
use Rattle.wot_plain.specs.declared.refusal.Refused.TheVariants.{Keyring as OfKeyring}
use Rattle.wot_command.specs.Asked.{AsksBy, AsksForNew, CallAsks, ChangeAsks, LineAsks, sound_in}
use Rattle.wot_plain.specs.Lines.{command_in_line, is_silent, longest}
use Rattle.wot_plain.specs.Refused.{IsReplyTo}
use Rattle.wot_plain.proofs.StepsByKind.{heard_read}

none_more : (n : ℕ) → n ≡ max n (min (n + 0) (2 ^ 64 - 1))
none_more n = omega arith

nothing_new : (s : State) → 0 ≡ sound_in s - sound_in s
nothing_new s = omega arith

never : (told : Refusal) (rows : PolicyRows) (k : Keyring) (octets : List ℕ) (n : ℕ) → told ≢ refusals.Memory
    → IsAsked (Err told) rows k octets n → n ≡ 0
never (refusals.Packet fault) rows k octets n other a = a
never (refusals.Cert fault) rows k octets n other a = a
never refusals.Misfiled rows k octets n other a = a
never refusals.Clash rows k octets n other a = a
never (refusals.Full limit) rows k octets n other a = a
never refusals.Memory rows k octets n other a = absurd (other refl)

-- what always holds, holds on success
pub always : {T E : Type 0} (r : Result T E) (P : Type 0) → P → OnOk r P
always (Ok x) P p = p
always (Err e) P p = tt

on_less : {A B T E : Type 0} (r : Result A B) (s : Result T E) → (is_ok s ≡ true → is_ok r ≡ true) → (P : Type 0) →
    OnOk r P → OnOk s P
on_less r (Err e) less P p = tt
on_less (Ok a) (Ok b) less P p = p
on_less (Err e) (Ok b) less P p = let never : false ≡ true = less refl in absurd cc

module _ {F : Type 0} where
  -- nothing was asked
  pub not_asked : (p : Policy F) → p ≡ asked_more 0 p
  not_asked p = ap (λ (n : ℕ). record p { asked = n }) (none_more p.asked)

  -- what was added was asked about
  pub asked_new : {T E : Type 0} (x : T) (rows : PolicyRows) (old new : Engine) (octets : List ℕ) (counts : Imported)
      (before after : Policy F)
      → AsksFor (Ok counts) rows old.keyring octets (λ k. after ≡ asked_more k before)
      → IsStateAfter (importing rows octets) old new → AsksForNew {E = E} (Ok x) (state_of old) (state_of new) before
      after
  asked_new x rows old new octets counts before after a is = record {
    times = a.0;
    asked = a.1;
    exact = a.2 ∙ ap (λ (s : State). sound_in s - sound_in (state_of old)) (sym is);
  }

  -- nothing was added, and nothing asked
  pub asked_still : {T E : Type 0} (r : Result T E) (s : State) (p : Policy F) → AsksForNew r s s p p
  asked_still r s p = record { times = 0; asked = not_asked p; exact = always r _ (nothing_new s) }

  -- a refused line added nothing
  pub asked_refused : (r : Result Reply Memory) (rows : PolicyRows) (old new : Engine) (octets : List ℕ)
      (told : Refusal) (before after : Policy F)
      → AsksFor (Err told) rows old.keyring octets (λ k. after ≡ asked_more k before) → new ≡ old
      → IfOk r (IsReplyTo (OfKeyring told)) → AsksForNew r (state_of old) (state_of new) before after
  asked_refused r rows old new octets told before after a same replied = record {
    times = a.0;
    asked = a.1;
    exact = by r replied;
  }
    where
      by : (r : Result Reply Memory) → IfOk r (IsReplyTo (OfKeyring told)) →
          OnOk r (a.0 ≡ sound_in (state_of new) - sound_in (state_of old))
      by (Ok reply) is =
          never told rows old.keyring octets a.0 is.1 a.2 ∙ nothing_new (state_of old)
          ∙ ap (λ (e : Engine). sound_in (state_of e) - sound_in (state_of old)) (sym same)
      by (Err e) is = tt

  -- ---- so for another result that is Ok only if the first one is

  module _ {A B T E : Type 0} (r : Result A B) (s : Result T E) (less : is_ok s ≡ true → is_ok r ≡ true) where
    new_as : (old new : State) (before after : Policy F) → AsksForNew r old new before after →
        AsksForNew s old new before after
    new_as old new before after a = record { times = a.times; asked = a.asked; exact = on_less r s less _ a.exact }

    change_asks_as : (change : Change) (old new : State) (before after : Policy F) →
        ChangeAsks r change old new before after → ChangeAsks s change old new before after
    change_asks_as (changes.Import octets) old new before after a = new_as old new before after a
    change_asks_as change old new before after a = a

    call_asks_as : (call : ShelfCall) (old new : State) (before after : Policy F) →
        CallAsks r call old new before after → CallAsks s call old new before after
    call_asks_as (calls.Load name) old new before after a = new_as old new before after a
    call_asks_as (calls.Store fpr) old new before after a = a

    pub asks_by_as : (class : Class) (old new : State) (before after : Policy F) →
        AsksBy r class old new before after → AsksBy s class old new before after
    asks_by_as (OfState (kinds.Change change)) old new before after a = change_asks_as change old new before after a
    asks_by_as (OfState (kinds.Shelf call)) old new before after a = call_asks_as call old new before after a
    asks_by_as class old new before after a = a

    pub asks_as : (command : Option Command) (old new : State) (before after : Policy F) →
        LineAsks r command old new before after
        → LineAsks s command old new before after
    asks_as None old new before after a = a
    asks_as (Some command) old new before after a = asks_by_as (class_of command) old new before after a

  -- a command that did nothing
  pub asks_nothing : {T E : Type 0} (r : Result T E) (class : Class) (s : State) (p : Policy F) → AsksBy r class s s p p
  asks_nothing r (OfState (kinds.Change (changes.Import octets))) s p = asked_still r s p
  asks_nothing r (OfState (kinds.Shelf (calls.Load name))) s p = asked_still r s p
  asks_nothing r class s p = refl

  -- a line that did nothing
  pub asks_not : {T E : Type 0} (r : Result T E) (command : Option Command) (s : State) (p : Policy F) →
      LineAsks r command s s p p
  asks_not r None s p = refl
  asks_not r (Some command) s p = asks_nothing r (class_of command) s p

  -- the line was read as a command
  pub asks_heard : {T E : Type 0} (s : Result T E) (line : List ℕ) (old new : State) (before after : Policy F) →
      length line ≤ longest
      → is_silent line ≡ false → LineAsks s (command_of line) old new before after →
      LineAsks s (command_in_line line) old new before after
  asks_heard s line old new before after short loud a =
      subst (λ (o : Option Command). LineAsks s o old new before after) (sym (heard_read line short loud)) a
