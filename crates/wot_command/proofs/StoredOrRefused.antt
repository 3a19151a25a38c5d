-- The merged certificate that is stored, or the reply if nothing is.
use Rattle.std.proofs.Common.{◌≡◌, ◌≢◌, ℕ, Bool, true, false, List, length, Result, Ok, Err}
use Rattle.std.proofs.Common.{refl, sym, ap, subst, ◌∙◌}
use Rattle.std.specs.Prelude.{if◌then◌else◌, nat_lt, IfErr}
use Rattle.std.specs.Str.{bytes_eq}
use Rattle.std.proofs.lemmas.Slice.Eq.{bytes_eq-Decides}
use Rattle.wot_types.specs.declared.limits.Limit.TheVariants as limits
use Rattle.wot_types.specs.declared.name.Name.{Name}
use Rattle.wot_types.specs.Limits.{standard_limits}
use Rattle.wot_component.specs.Certificate.{Certificate, unite, unmarked}
use Rattle.wot_component.specs.Text.{size_of, text_of}
use Rattle.wot_keyring_spec.specs.declared.refusal.Refusal.{Refusal}
use Rattle.wot_keyring_spec.specs.declared.refusal.Refusal.TheVariants as refusals
use Rattle.wot_keyring_spec.specs.Entry.{TellsEntry, entry_in}
use Rattle.wot_keyring_spec.specs.Import.{◌>>=◌}
use Rattle.wot_script.specs.declared.reply.Reply.{Reply}
use Rattle.wot_command.specs.declared.stored.Unwritten.{Unwritten}
use Rattle.wot_command.specs.declared.stored.Unwritten.TheVariants.{Memory}
use Rattle.wot_plain.specs.Outcome.{refusal}
use Rattle.wot_command.specs.StoredText.{TellsCert, TellsUnwritten}
use Rattle.wot_plain.specs.Storing.{text_unless, united, unless_great}

-- depending on whether it is too large
abbrev unless_so : Bool → Certificate → Result Certificate Refusal
unless_so great c = if great then Err (refusals.Full limits.Certificate) else Ok c

abbrev is_great : Certificate → Bool
is_great c = nat_lt standard_limits.certificate (size_of c)

abbrev of_keys : Bool → Certificate → Certificate → Result Certificate Refusal
of_keys same kept c = if same then unless_great (unite kept c) else Err refusals.Clash

of_one_key : (kept c : Certificate) → kept.key ≡ c.key → united kept c ≡ unless_great (unite kept c)
of_one_key kept c e = ap (λ (b : Bool). of_keys b kept c) ((bytes_eq-Decides kept.key c.key).1 e)

pub tells_union : ((c : Certificate) → text_of (unmarked c) ≡ text_of c) →
    (kept entry c : Certificate) (r : Result Certificate Refusal) → kept.key ≡ entry.key
    → c ≡ unmarked (unite kept entry) → r ≡ unless_great c → TellsCert r (united kept entry)
tells_union texts kept entry c r same is e = by (is_great c) refl r e
  where
    text : text_of c ≡ text_of (unite kept entry)
    text = ap text_of is ∙ texts (unite kept entry)

    told : (b : Bool) → is_great c ≡ b → united kept entry ≡ unless_so b (unite kept entry)
    told b f =
        of_one_key kept entry same
        ∙ ap (λ (n : ℕ). unless_so (nat_lt standard_limits.certificate n) (unite kept entry)) (sym (ap length text))
        ∙ ap (λ (b : Bool). unless_so b (unite kept entry)) f

    by : (b : Bool) → is_great c ≡ b → (r : Result Certificate Refusal) → r ≡ unless_so b c →
        TellsCert r (united kept entry)
    by true f r e = subst (λ (r : Result Certificate Refusal). TellsCert r (united kept entry)) (sym e)
        (ap text_unless (told true f))
    by false f r e =
        let Text : List ℕ → Result (List ℕ) Reply = λ octets. Ok octets in
        subst (λ (r : Result Certificate Refusal). TellsCert r (united kept entry)) (sym e)
        (ap text_unless (told false f) ∙ ap Text (sym text))

pub tells_clash : (kept entry : Certificate) → kept.key ≢ entry.key → TellsCert (Err refusals.Clash) (united kept entry)
tells_clash kept entry apart = by (bytes_eq kept.key entry.key) refl
  where
    by : (b : Bool) → bytes_eq kept.key entry.key ≡ b → TellsCert (Err refusals.Clash) (united kept entry)
    by true e = absurd (apart ((bytes_eq-Decides kept.key entry.key).0 e))
    by false e = ap (λ (b : Bool). text_unless (of_keys b kept entry)) e

-- ---- entries

pub tells_entry : (kept c : Certificate) (name : Name) (octets : List ℕ) (r : Result Certificate Refusal) →
    entry_in name octets ≡ Ok c → TellsCert r (united kept c)
    → TellsCert r (entry_in name octets >>= united kept)
tells_entry kept c name octets r e t =
    subst (λ (told : Result Certificate Refusal). TellsCert r (told >>= united kept)) (sym e) t

pub tells_refused : (kept : Certificate) (name : Name) (octets : List ℕ) (why : Refusal) →
    TellsEntry (Err why) name octets
    → TellsCert (Err why) (entry_in name octets >>= united kept)
tells_refused kept name octets (refusals.Packet fault) t =
    ap (λ (told : Result Certificate Refusal). text_unless (told >>= united kept)) t
tells_refused kept name octets (refusals.Cert fault) t =
    ap (λ (told : Result Certificate Refusal). text_unless (told >>= united kept)) t
tells_refused kept name octets refusals.Misfiled t =
    ap (λ (told : Result Certificate Refusal). text_unless (told >>= united kept)) t
tells_refused kept name octets refusals.Clash t =
    ap (λ (told : Result Certificate Refusal). text_unless (told >>= united kept)) t
tells_refused kept name octets (refusals.Full limit) t =
    ap (λ (told : Result Certificate Refusal). text_unless (told >>= united kept)) t
tells_refused kept name octets refusals.Memory t = tt

-- ---- replies

abbrev error : Reply → Result (List ℕ) Reply
error reply = Err reply

pub told_refused : (told : Result Certificate Refusal) (why : Refusal) (reply : Reply) → TellsCert (Err why) told →
    (reply ≡ refusal why) × (why ≢ refusals.Memory)
    → text_unless told ≡ Err reply
told_refused told (refusals.Packet fault) reply t is = t ∙ ap error (sym is.0)
told_refused told (refusals.Cert fault) reply t is = t ∙ ap error (sym is.0)
told_refused told refusals.Misfiled reply t is = t ∙ ap error (sym is.0)
told_refused told refusals.Clash reply t is = t ∙ ap error (sym is.0)
told_refused told (refusals.Full limit) reply t is = t ∙ ap error (sym is.0)
told_refused told refusals.Memory reply t is = absurd (is.1 refl)

pub nothing_told : (told : Result (List ℕ) Reply) (why : Unwritten) → why ≡ Memory → TellsUnwritten told why
nothing_told told why e = subst (λ (w : Unwritten). TellsUnwritten told w) (sym e) tt

pub if_err : {A E : Type 0} (r : Result A E) (P Q : E → Type 0) → ((e : E) → P e → Q e) → IfErr r P → IfErr r Q
if_err (Ok a) P Q f p = tt
if_err (Err e) P Q f p = f e p
