-- Replies that are lists: bindings, reasons, signatures without a verdict.
use Rattle.std.specs.Prelude.{◌≡◌, ℕ, List, length, map, Option, Some, None}
use Rattle.wot_types.specs.declared.fpr.Fpr.{Fpr}
use Rattle.wot_types.specs.declared.number.SigNumber.{SigNumber}
use Rattle.wot_edge.specs.Record.{Record}
use Rattle.wot_edge.specs.declared.path.Step.{Step}
use Rattle.wot_keyring_spec.specs.Keyring.{Keyring, certificates_in}
use Rattle.wot_keyring_spec.specs.declared.pending.Pending.{Pending}
use Rattle.wot_network.specs.Records.{record_of}
use Rattle.wot_reply_lines.specs.declared.lines.BindLine.{BindLine}
use Rattle.wot_reply_lines.specs.declared.lines.Hint.{Hint}
use Rattle.wot_reply_lines.specs.declared.lines.Hint.TheVariants as hints
use Rattle.wot_reply_lines.specs.declared.lines.PendingLine.{PendingLine}
use Rattle.wot_reply_lines.specs.declared.lines.ReasonLine.{ReasonLine}
use Rattle.wot_reply_lines.specs.declared.lines.ReasonLine.TheVariants as lines
use Rattle.wot_script.specs.declared.reply.Reply.{Reply}
use Rattle.wot_script.specs.declared.reply.Reply.TheVariants as replies
use Rattle.wot_cache.specs.declared.view.View.{View}
use Rattle.wot_cache.specs.State.{State}
use Rattle.wot_explain.specs.declared.bind.Bind.{Bind}
use Rattle.wot_explain.specs.declared.explained.Explained.{Explained}
use Rattle.wot_explain.specs.Explaining.{explanation}
use Rattle.wot_explain.specs.Listing.{IsListed, pairs_in}
use Rattle.wot_explain.specs.Reasons.{Reason}

-- ---- `list`

-- a binding's line: the sum of its answer, its fingerprint, its user ID
abbrev pub bind_line : Bind → BindLine
bind_line bind = record { 0 = bind.sum; 1 = bind.fpr; 2 = bind.uid }

abbrev pub bindings : List Bind → Reply
bindings binds = replies.List (length binds) (map bind_line binds)

-- the bindings of all that is held that are authenticated to the wanted amount, from this view
abbrev pub AreBindings : State → View → ℕ → List Bind → Type 0
AreBindings s view wanted binds =
    IsListed (record_of s.held.certs s.held.verdicts view.time) view.roots wanted (pairs_in s.held.certs) binds

-- a line for each listed binding
abbrev pub ListsBy : (List ℕ → Record) → List (Fpr × ℕ) → ℕ → Keyring → Reply → Type 0
ListsBy network roots wanted keyring reply =
    (binds : List Bind) × IsListed network roots wanted (pairs_in (certificates_in keyring)) binds
    × (reply ≡ bindings binds)

-- `list`: the reply from an open view, a line for each such binding, in the order of fingerprint and user ID
abbrev pub Lists : State → Option View → ℕ → Reply → Type 0
Lists s None wanted reply = reply ≡ replies.View
Lists s (Some view) wanted reply = (binds : List Bind) × AreBindings s view wanted binds × (reply ≡ bindings binds)

-- ---- `explain`

-- a certification's line: the usable edge that it is, or the first reason why it isn't one
abbrev pub reason_by : SigNumber → ℕ → Option Step → ReasonLine
reason_by number word (Some step) = lines.Edge number step.issuer step.depth step.amount
reason_by number word None = lines.Word number word

abbrev pub reason_line : Reason → ReasonLine
reason_line reason = reason_by reason.0 reason.1 reason.2

-- The target's word and a line for each certification on the user ID, if the certificate and the user ID exist.
abbrev pub explained : Option Explained → Reply
explained (Some found) = replies.Explained found.target (length found.certs) (map reason_line found.certs)
explained None = replies.Absent

abbrev pub explained_from : State → Option View → Fpr → List ℕ → Reply
explained_from s None fpr uid = replies.View
explained_from s (Some view) fpr uid = explained (explanation s.held.certs s.held.verdicts view.time fpr uid)

-- the explanation from a keyring, at a time
abbrev pub Explains : Keyring → ℕ → Fpr → List ℕ → Reply → Type 0
Explains keyring t fpr uid reply =
    reply ≡ explained (explanation (certificates_in keyring) keyring.verdicts t fpr uid)

-- ---- `pending`

-- a signature's issuer: its fingerprint from the hashed subpackets, otherwise a key ID if there is one
abbrev pub hint_of : Option Fpr → Option (List ℕ) → Hint
hint_of (Some issuer) id = hints.Full issuer
hint_of None (Some id) = hints.Short id
hint_of None None = hints.Nothing

-- a signature's line: its number, its certificate, and a hint of its issuer
abbrev pub pending_line : Pending → PendingLine
pending_line sig = record { 0 = sig.number; 1 = sig.fpr; 2 = hint_of sig.issuer sig.hint }
