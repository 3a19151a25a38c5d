-- Which lines of a reply to `explain` say `edge`: from the explanation of a user ID to the reply.
use Rattle.std.proofs.Common.{◌≡◌, ◌≤◌, inl, inr, ℕ, List, length, false, Option, Some, None, Result, Ok, Err}
use Rattle.std.proofs.Common.{OnOk, refl, sym, subst}
use Rattle.std.specs.Prelude.{IfOk, IfSome, IsSomeAnd}
use Rattle.wot_script.specs.declared.reply.Reply.{Reply}
use Rattle.wot_types.specs.declared.fpr.Fpr.{Fpr}
use Rattle.wot_keyring_spec.specs.Keyring.{Keyring, certificates_in}
use Rattle.wot_script.specs.declared.command.Command.{Command}
use Rattle.wot_script.specs.Grammar.{command_of}
use Rattle.wot_answers.specs.declared.parts.Parts.{Parts}
use Rattle.wot_cache.specs.declared.view.View.{View}
use Rattle.wot_cache.specs.Parts.{ArePartsOf}
use Rattle.wot_cache.specs.State.{Engine, state_of}
use Rattle.wot_cache.specs.Views.{view_at}
use Rattle.wot_explain.specs.declared.explained.Explained.{Explained}
use Rattle.wot_explain.specs.Explaining.{explanation}
use Rattle.wot_explain.specs.Usable.{TellsEdges}
use Rattle.wot_command.specs.EdgeLines.{EdgesAreTold, LineMarks, MarksEdges, MarksFrom}
use Rattle.wot_plain.specs.Lines.{command_in_line, is_silent, longest}
use Rattle.wot_plain.specs.Listing.{Explains, explained, explained_from}
use Rattle.wot_plain.proofs.StepsByKind.{heard_read}

marked : (k : Keyring) (t : ℕ) (fpr : Fpr) (uid : List ℕ) (o : Option Explained)
    → IfSome o (λ (told : Explained). TellsEdges k t fpr uid told.certs)
    → MarksEdges k t fpr uid (explained o)
marked k t fpr uid None p = inl refl
marked k t fpr uid (Some told) p = inr (record { target = told.target; reasons = told.certs; lines = refl; edges = p })

-- a reply over the parts of a view marks the edges
marked_seen : (engine : Engine) (p : Parts) (fpr : Fpr) (uid : List ℕ) (o : Option View)
    → EdgesAreTold p.keyring.now p.t fpr uid
    → IsSomeAnd o (λ (v : View). ArePartsOf engine.keyring v p)
    → IfSome o (λ (v : View). MarksEdges engine.keyring v.time fpr uid
    (explained_from (state_of engine) (Some v) fpr uid))
marked_seen engine p fpr uid None told seen = tt
marked_seen engine p fpr uid (Some v) told seen =
    marked engine.keyring v.time fpr uid (explanation (certificates_in engine.keyring) engine.keyring.verdicts v.time
    fpr uid)
    (subst (λ (k : Keyring). EdgesAreTold k v.time fpr uid) seen.keyring
    (subst (λ (t : ℕ). EdgesAreTold p.keyring.now t fpr uid) seen.time told))

pub marks_seen : {T E : Type 0} (r : Result T E) (engine : Engine) (name : List ℕ) (p : Parts) (fpr : Fpr)
    (uid : List ℕ)
    → IsSomeAnd (view_at engine.views name) (λ (v : View). ArePartsOf engine.keyring v p)
    → OnOk r (EdgesAreTold p.keyring.now p.t fpr uid) → OnOk r (MarksFrom engine name fpr uid)
marks_seen (Ok reply) engine name p fpr uid seen told =
    marked_seen engine p fpr uid (view_at engine.views name) told seen
marks_seen (Err e) engine name p fpr uid seen told = tt

explains_seen : (engine : Engine) (p : Parts) (fpr : Fpr) (uid : List ℕ) (reply : Reply) (o : Option View)
    → IsSomeAnd o (λ (v : View). ArePartsOf engine.keyring v p) → Explains p.keyring.now p.t fpr uid reply
    → reply ≡ explained_from (state_of engine) o fpr uid
explains_seen engine p fpr uid reply None seen e = absurd seen
explains_seen engine p fpr uid reply (Some v) seen e =
    subst (λ (k : Keyring). Explains k v.time fpr uid reply) seen.keyring
    (subst (λ (t : ℕ). Explains p.keyring.now t fpr uid reply) seen.time e)

-- the reply is the one at the view's time
pub replies_seen : {E : Type 0} (r : Result Reply E) (engine : Engine) (name : List ℕ) (p : Parts) (fpr : Fpr)
    (uid : List ℕ)
    → IsSomeAnd (view_at engine.views name) (λ (v : View). ArePartsOf engine.keyring v p)
    → IfOk r (Explains p.keyring.now p.t fpr uid)
    → IfOk r (λ (reply : Reply). reply ≡ explained_from (state_of engine) (view_at engine.views name) fpr uid)
replies_seen (Ok reply) engine name p fpr uid seen e =
    explains_seen engine p fpr uid reply (view_at engine.views name) seen e
replies_seen (Err fault) engine name p fpr uid seen e = tt

-- a line that is no command asks for nothing
pub none_marks : (engine : Engine) (o : Option Command) → o ≡ None → LineMarks engine o
none_marks engine None e = tt
none_marks engine (Some command) e = absurd cc

-- the line was read as a command
pub heard_marks : (engine : Engine) (line : List ℕ) → length line ≤ longest → is_silent line ≡ false
    → LineMarks engine (command_of line)
    → LineMarks engine (command_in_line line)
heard_marks engine line short loud marks = subst (λ (o : Option Command). LineMarks engine o)
    (sym (heard_read line short loud)) marks
