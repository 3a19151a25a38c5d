-- The replies to commands that are refused, and to imports.
use Rattle.std.proofs.Common.{◌≡◌, ◌≢◌, inl, inr, ℕ, true, List, Option, Ok, Err, refl}
use Rattle.wot_types.specs.declared.limits.Limit.TheVariants as words
use Rattle.wot_types.specs.declared.name.Name.{Name}
use Rattle.wot_types.specs.declared.number.SigNumber.{SigNumber}
use Rattle.wot_types.specs.Limits.{standard_limits}
use Rattle.wot_policy.specs.declared.rows.PolicyRows.{PolicyRows}
use Rattle.wot_verdict.specs.declared.verdict.Verdict.{Verdict}
use Rattle.wot_keyring_spec.specs.declared.refusal.Refusal.{Refusal}
use Rattle.wot_keyring_spec.specs.declared.refusal.Refusal.TheVariants as refusals
use Rattle.wot_keyring_spec.specs.declared.imported.Imported.{Imported}
use Rattle.wot_keyring_spec.specs.Import.{ImportReturns, ReturnsUnder, Demand, answer_under, any, importing, is_entry}
use Rattle.wot_keyring_spec.specs.Verdict.{TellsFull, is_over}
use Rattle.wot_script.specs.declared.reply.Reply.{Reply}
use Rattle.wot_script.specs.declared.reply.Reply.TheVariants as replies
use Rattle.wot_certd.specs.World.{Answer}
use Rattle.wot_cache.specs.declared.view.ViewFault.{ViewFault}
use Rattle.wot_cache.specs.declared.view.ViewFault.TheVariants as faults
use Rattle.wot_cache.specs.State.{State, Engine, IsStateAfter, state_of}
use Rattle.wot_cache.specs.Views.{TellsFault}
use Rattle.wot_plain.specs.Classes.{change_of}
use Rattle.wot_plain.specs.Outcome.{unless, view_refusal, refusal, imports, load, set_verdict}
use Rattle.wot_plain.specs.declared.class.Change.TheVariants as changes
use Rattle.wot_plain.specs.LineStep.{ComesTo}

pub view_gives : (s new changed : State) (o : Option ViewFault) (fault : ViewFault) (reply : Reply)
    → TellsFault {T = Unit {0}} (Err fault) o → new ≡ s → (reply ≡ view_refusal fault) × (fault ≢ faults.Memory) →
    ComesTo (unless s o changed) reply new
view_gives s new changed o faults.View reply tells same is = rw tells (is.0, same)
view_gives s new changed o faults.Absent reply tells same is = rw tells (is.0, same)
view_gives s new changed o (faults.Full limit) reply tells same is = rw tells (is.0, same)
view_gives s new changed o faults.Memory reply tells same is = absurd (is.1 refl)

-- refused octets, with a demand on their certificates
under_gives : (demand : Demand) (rows : PolicyRows) (old new : Engine) (octets : List ℕ) (told : Refusal)
    (reply : Reply) → old.keyring.limits ≡ standard_limits
    → ReturnsUnder demand (Err told) rows old.keyring octets → new ≡ old →
    (reply ≡ refusal told) × (told ≢ refusals.Memory)
    → ComesTo (imports rows (state_of old) octets (answer_under demand rows standard_limits (state_of old).held.certs
    octets)) reply (state_of new)
under_gives demand rows old new octets told reply std (inl e) same is =
    let e' : Err told ≡ answer_under demand rows standard_limits (state_of old).held.certs octets = rw std at e in
    rw (← e', same) (is.0, refl)
under_gives demand rows old new octets told reply std (inr e) same is = let m : told ≡ refusals.Memory = cc in
    absurd (is.1 m)

pub import_gives : (rows : PolicyRows) (old new : Engine) (octets : List ℕ) (told : Refusal) (reply : Reply) →
    old.keyring.limits ≡ standard_limits
    → ImportReturns (Err told) rows old.keyring octets → new ≡ old → (reply ≡ refusal told) × (told ≢ refusals.Memory) →
    ComesTo (change_of rows (state_of old) (changes.Import octets)) reply (state_of new)
import_gives rows old new octets told reply std answers same is = under_gives any rows old new octets told reply std
    answers same is

pub load_gives : (name : Name) (rows : PolicyRows) (old new : Engine) (octets : List ℕ) (told : Refusal)
    (reply : Reply) → old.keyring.limits ≡ standard_limits
    → ReturnsUnder (is_entry name) (Err told) rows old.keyring octets → new ≡ old →
    (reply ≡ refusal told) × (told ≢ refusals.Memory)
    → ComesTo (load rows (state_of old) name (Answer.entry octets)) reply (state_of new)
load_gives name rows old new octets told reply std answers same is =
    under_gives (is_entry name) rows old new octets told reply std answers same is

-- ---- octets that are taken

under_taken : (demand : Demand) (rows : PolicyRows) (old new : Engine) (octets : List ℕ) (counts : Imported)
    → old.keyring.limits ≡ standard_limits → ReturnsUnder demand (Ok counts) rows old.keyring octets
    → IsStateAfter (importing rows octets) old new
    → ComesTo (imports rows (state_of old) octets (answer_under demand rows standard_limits (state_of old).held.certs
    octets)) (replies.Taken counts.taken counts.skipped counts.fresh) (state_of new)
under_taken demand rows old new octets counts std (inl e) is =
    let e' : Ok counts ≡ answer_under demand rows standard_limits (state_of old).held.certs octets = rw std at e in
    rw (← e') (refl, is)
under_taken demand rows old new octets counts std (inr e) is = absurd cc

pub import_taken : (rows : PolicyRows) (old new : Engine) (octets : List ℕ) (counts : Imported)
    → old.keyring.limits ≡ standard_limits → ImportReturns (Ok counts) rows old.keyring octets
    → IsStateAfter (importing rows octets) old new
    → ComesTo (change_of rows (state_of old) (changes.Import octets)) (replies.Taken counts.taken counts.skipped counts.fresh)
    (state_of new)
import_taken rows old new octets counts std answers is = under_taken any rows old new octets counts std answers is

pub load_taken : (name : Name) (rows : PolicyRows) (old new : Engine) (octets : List ℕ) (counts : Imported)
    → old.keyring.limits ≡ standard_limits → ReturnsUnder (is_entry name) (Ok counts) rows old.keyring octets
    → IsStateAfter (importing rows octets) old new
    → ComesTo (load rows (state_of old) name (Answer.entry octets))
    (replies.Taken counts.taken counts.skipped counts.fresh) (state_of new)
load_taken name rows old new octets counts std answers is =
    under_taken (is_entry name) rows old new octets counts std answers is

-- ---- verdicts

pub judge_gives : (old new : Engine) (number : SigNumber) (v : Verdict) (told : Refusal) (reply : Reply) →
    old.keyring.limits ≡ standard_limits
    → TellsFull {T = Unit {0}} (Err told) old.keyring number → new ≡ old →
    (reply ≡ refusal told) × (told ≢ refusals.Memory) → ComesTo (set_verdict (state_of old) number v) reply
    (state_of new)
judge_gives old new number v (refusals.Full words.Verdicts) reply std tells same is =
    let over : is_over standard_limits old.keyring.verdicts number ≡ true = rw std at tells in
    rw (over, same) (is.0, refl)
judge_gives old new number v (refusals.Full words.Certificate) reply std tells same is = absurd tells
judge_gives old new number v (refusals.Full words.Certificates) reply std tells same is = absurd tells
judge_gives old new number v (refusals.Full words.Octets) reply std tells same is = absurd tells
judge_gives old new number v (refusals.Full words.Signatures) reply std tells same is = absurd tells
judge_gives old new number v (refusals.Full words.Views) reply std tells same is = absurd tells
judge_gives old new number v (refusals.Full words.Roots) reply std tells same is = absurd tells
judge_gives old new number v (refusals.Packet fault) reply std tells same is = absurd tells
judge_gives old new number v (refusals.Cert fault) reply std tells same is = absurd tells
judge_gives old new number v refusals.Misfiled reply std tells same is = absurd tells
judge_gives old new number v refusals.Clash reply std tells same is = absurd tells
judge_gives old new number v refusals.Memory reply std tells same is = absurd (is.1 refl)
