-- Replies are the same for equal policy rows and equal texts.
use Rattle.std.proofs.Common.{◌≡◌, ◌≢◌, ℕ, ◌+◌, ◌-◌, ◌≤◌, ◌^◌, List, [], length, Option, None, ap, sym, subst, arith}
use Rattle.wot_types.specs.Limits.{standard_limits}
use Rattle.wot_io.specs.ReaderState.{ReaderState}
use Rattle.wot_io.specs.declared.lines.Line.TheVariants.{End}
use Rattle.wot_io.specs.declared.lines.Line.{Line}
use Rattle.wot_policy.specs.declared.rows.PolicyRows.{PolicyRows}
use Rattle.wot_keyring_spec.specs.Kept.{IsJudgedBy}
use Rattle.wot_certd.specs.World.{World}
use Rattle.wot_cache.specs.State.{Engine, empty}
use Rattle.wot_cursor.specs.Cursors.{Cursors}
use Rattle.wot_watch.specs.Watches.{Watches}
use Rattle.wot_machine.specs.Machine.{Machine, kept}
use Rattle.wot_plain.specs.Session.{Session, beginning, watched, session_of}
use Rattle.wot_engine.specs.LineReply.{Replies, RepliesBehind}
use Rattle.wot_engine.proofs.Held.{Held, Held-init}

pub answered : (a b : PolicyRows) (line : Line) (text other : List ℕ) (old : Session) (before : Option World)
    (had : List ℕ) (new : Session) (after : Option World) (has : List ℕ) → a ≡ b → text ≡ other
    → RepliesBehind a line text old before had new after has → RepliesBehind b line other old before had new after has
answered a b line text other old before had new after has e f r =
    subst (λ (x : List ℕ). RepliesBehind b line x old before had new after has) f
    (subst (λ (rows : PolicyRows). RepliesBehind rows line text old before had new after has) e r)

-- a line that has a reply isn't the end of the input
pub not_end : (rows : PolicyRows) (line : Line) (text : List ℕ) (old : Session) (before : Option World) (reply : List ℕ)
    (new : Session) (after : Option World) → Replies rows line text old before reply new after → line ≢ End
not_end rows line text old before reply new after r =
    λ e. let r' : Replies rows End text old before reply new after =
    subst (λ (l : Line). Replies rows l text old before reply new after) e r in absurd r'.does

-- ---- a run that begins

-- the reader before the first line
abbrev pub fresh : ReaderState
fresh = record { held = []; text = []; taken = 0; fault = None }

pub holds : (rows : PolicyRows) (left written : Option (List ℕ)) (origin : Option World) (lines : ReaderState)
    (machine : Machine) (out : List ℕ) → lines ≡ fresh → machine.engine ≡ empty standard_limits → machine.cursors ≡ [] →
    machine.watches ≡ [] → out ≡ []
    → Held rows left written origin lines.held lines.taken left written out origin (kept machine)
holds rows left written origin lines machine out e m k w none =
    subst (λ (r : ReaderState). Held rows left written origin r.held r.taken left written out origin (kept machine))
    (sym e)
    (subst (λ (x : Engine). Held rows left written origin [] 0 left written out origin
    (watched (session_of x machine.cursors) machine.watches)) (sym m)
    (subst (λ (cs : Cursors). Held rows left written origin [] 0 left written out origin
    (watched (session_of (empty standard_limits) cs) machine.watches)) (sym k)
    (subst (λ (ws : Watches). Held rows left written origin [] 0 left written out origin
    (watched (session_of (empty standard_limits) []) ws)) (sym w)
    (subst (λ (x : List ℕ). Held rows left written origin [] 0 left written x origin beginning) (sym none)
    (Held-init rows left written origin)))))

pub no_fault : (lines : ReaderState) → lines ≡ fresh → lines.fault ≡ None
no_fault lines e = ap (λ (r : ReaderState). r.fault) e

pub within : (lines : ReaderState) → lines ≡ fresh → lines.taken ≤ 2 ^ 30
within lines e = let t : lines.taken ≡ 0 = ap (λ (r : ReaderState). r.taken) e in omega (arith, t)

pub turned : (lines : ReaderState) (machine : Engine) → lines ≡ fresh → machine ≡ empty standard_limits →
    machine.revisions.count + ((2 ^ 30 - lines.taken) + length lines.held) ≤ 2 ^ 30
turned lines machine e m =
    let t : lines.taken ≡ 0 = ap (λ (r : ReaderState). r.taken) e in
    let h : length lines.held ≡ 0 = ap (λ (r : ReaderState). length r.held) e in
    let n : machine.revisions.count ≡ 0 = ap (λ (x : Engine). x.revisions.count) m in
    omega (arith, t, h, n)

pub counted : (lines : ReaderState) (machine : Engine) → lines ≡ fresh → machine ≡ empty standard_limits →
    machine.keyring.changes + ((2 ^ 30 - lines.taken) + length lines.held) ≤ 2 ^ 30
counted lines machine e m =
    let t : lines.taken ≡ 0 = ap (λ (r : ReaderState). r.taken) e in
    let h : length lines.held ≡ 0 = ap (λ (r : ReaderState). length r.held) e in
    let n : machine.keyring.changes ≡ 0 = ap (λ (x : Engine). x.keyring.changes) m in
    omega (arith, t, h, n)

pub judged : (rows : PolicyRows) (machine : Engine) → machine ≡ empty standard_limits → IsJudgedBy rows machine.keyring
judged rows machine m = subst (λ (x : Engine). IsJudgedBy rows x.keyring) (sym m) tt
