-- A move that comes with a reply is due: from the state that the line left, a command leads to the same cursors.
use Rattle.std.proofs.Common.{◌≡◌, ℕ, true, Option, None, Some, [], Result, Ok, Err, refl, ap, subst, sym}
use Rattle.std.specs.Prelude.{IfOk, is_ok, is_some}
use Rattle.std.proofs.lemmas.Bool.{true≢false}
use Rattle.wot_script.specs.declared.reply.Reply.{Reply}
use Rattle.wot_keyring_spec.specs.Keyring.{Keyring}
use Rattle.wot_cache.specs.State.{Engine, State, StaysButMarks, state_of}
use Rattle.wot_cache.specs.Revisions.{Revisions}
use Rattle.wot_cursor.specs.Cursors.{Cursors}
use Rattle.wot_watch.specs.Watches.{Watches}
use Rattle.wot_plain.specs.declared.class.Class.{Class}
use Rattle.wot_plain.specs.declared.draft.CursorMove.{CursorMove}
use Rattle.wot_plain.specs.declared.draft.DraftReply.{DraftReply}
use Rattle.wot_plain.specs.Pacing.{Paces, is_pacing, settled}
use Rattle.wot_plain.specs.Session.{session_of}
use Rattle.wot_plain.proofs.EdgesMadeByLine.{same_state}
use Rattle.wot_machine.specs.Machine.{Machine, IsDue}
use Rattle.wot_plain.proofs.Paced.{paces_watched}

-- a reply by itself moves nothing
pub due_alone : {E : Type 0} (r : Result Reply E) (t : Result DraftReply E) (m : Machine)
    → IfOk r (λ reply. t ≡ Ok (record { reply = reply; moved = None })) → is_ok t ≡ is_ok r
    → IfOk t (λ (told : DraftReply). IsDue m told.moved)
due_alone (Err e) (Err d) m is ok = tt
due_alone (Err e) (Ok told) m is ok = absurd (true≢false ok)
due_alone (Ok reply) t m is ok =
    subst (λ (t : Result DraftReply _). IfOk t (λ (told : DraftReply). IsDue m told.moved)) (sym is) tt

-- the move of a command of a cursor, by the reply's two parts
due_moved : (class : Class) (old new : Engine) (before after : Cursors) (watches : Watches) (made : ℕ) (reply : Reply)
    (moved : Option CursorMove) → is_pacing class ≡ true → StaysButMarks old new
    → (is_some moved ≡ true → after ≡ before) → Paces (session_of old before) class reply (settled moved after)
    → IsDue (record { engine = new; cursors = after; watches = watches; made = made }) moved
due_moved class old new before after watches made reply None pacing stays same paces = tt
due_moved class old new before after watches made reply (Some moved) pacing stays same paces =
    let left : Cursors = settled (Some moved) after in
    let here : Paces (session_of old after) class reply left =
    subst (λ (c : Cursors). Paces (session_of old c) class reply left) (sym (same refl)) paces in
    let inState : Paces (record {
      state = state_of new;
      changes = old.keyring.changes;
      revisions = old.revisions;
      cursors = after;
      watches = [];
    }) class reply left =
    subst (λ (s : State). Paces (record {
      state = s;
      changes = old.keyring.changes;
      revisions = old.revisions;
      cursors = after;
      watches = [];
    }) class reply left) (sym (same_state old new stays)) here in
    let counted : Paces (record {
      state = state_of new;
      changes = new.keyring.changes;
      revisions = old.revisions;
      cursors = after;
      watches = [];
    }) class reply left =
    subst (λ (n : ℕ). Paces (record {
      state = state_of new;
      changes = n;
      revisions = old.revisions;
      cursors = after;
      watches = [];
    }) class reply left) (sym (ap (λ (k : Keyring). k.changes) stays.keyring)) inState in
    let turned : Paces (session_of new after) class reply left =
    subst (λ (t : Revisions). Paces (record {
      state = state_of new;
      changes = new.keyring.changes;
      revisions = t;
      cursors = after;
      watches = [];
    }) class reply left) (sym stays.revisions) counted in
    (class, reply, paces_watched (session_of new after) watches class reply left pacing turned)

-- the move of a command of a cursor
pub due_paced : {E : Type 0} (r : Result DraftReply E) (class : Class) (old new : Engine) (before after : Cursors)
    (watches : Watches) (made : ℕ) → is_pacing class ≡ true → StaysButMarks old new
    → IfOk r (λ (told : DraftReply). is_some told.moved ≡ true → after ≡ before)
    → IfOk r (λ (told : DraftReply). Paces (session_of old before) class told.reply (settled told.moved after))
    → IfOk r (λ (told : DraftReply).
    IsDue (record { engine = new; cursors = after; watches = watches; made = made }) told.moved)
due_paced (Err e) class old new before after watches made pacing stays same paces = tt
due_paced (Ok told) class old new before after watches made pacing stays same paces =
    due_moved class old new before after watches made told.reply told.moved pacing stays same paces
