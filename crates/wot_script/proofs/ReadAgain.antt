-- The spelling of a command is read as the command; so are the text of a printed claim and the lines of old dumps.
use Rattle.std.proofs.Common.{◌≡◌, ℕ, List, [], ◌∷◌, ◌++◌, Some, sym, ap, ◌∙◌}
use Rattle.std.specs.Prelude.{codes}
use Rattle.std.specs.Fmt.{decimal}
use Rattle.std.proofs.lemmas.List.{append-nil}
use Rattle.wot_types.specs.declared.fpr.Fpr.TheVariants.{V4}
use Rattle.wot_types.specs.Fpr.{digits_of}
use Rattle.wot_reply_lines.specs.Claims.{claim_text, field_text, label_text}
use Rattle.wot_script.specs.Grammar.{command_of}
use Rattle.wot_script.specs.Laws.{IsOldLine, PrintsClaim}
use Rattle.wot_script.specs.Replies.{reply_text}
use Rattle.wot_script.specs.Spelling.{spelling}
use Rattle.wot_fields.specs.StateLine.{spelling as line_text}
use Rattle.wot_fields.specs.Texts.{joined_line}
use Rattle.wot_fields.specs.Uid.{escaped}
use Rattle.wot_script.specs.declared.command.Command.{Command}
use Rattle.wot_script.specs.declared.command.Command.TheVariants.{Import, Good, Bad, Time, Root, Check}

-- a claim in a line, and what follows it
claim_in : (paths table rest : List ℕ) → paths ++ 32 ∷ (table ++ rest) ≡ (paths ++ 32 ∷ (table ++ [])) ++ rest
claim_in [] table rest = ap (λ (text : List ℕ). 32 ∷ (text ++ rest)) (sym (append-nil table))
claim_in (octet ∷ octets) table rest = ap (λ (text : List ℕ). octet ∷ text) (claim_in octets table rest)

pub prints_claim : (command : Command) → command_of (spelling command) ≡ Some command → PrintsClaim command
unfolding reply_text spelling
prints_claim (Check view fpr claims labels uid) e =
    let paths = field_text claim_text claims in
    let table = field_text label_text labels in
    record {
      printed = λ sum. ap
          (λ (text : List ℕ). joined_line (codes "absence missed " ∷ decimal sum ∷ []) ++ (codes "claim " ++ text))
          (claim_in paths table (10 ∷ []));
      read = ap (λ (text : List ℕ). command_of (codes "check " ++ (view ++ 32 ∷ (digits_of fpr ++ 32 ∷ text))))
          (sym (claim_in paths table (32 ∷ (escaped uid ++ []))))
          ∙ e;
    }
prints_claim _ e = tt

pub old_is_read : (command : Command) → command_of (spelling command) ≡ Some command → (text : List ℕ)
    → IsOldLine command text → command_of text ≡ Some command
unfolding spelling line_text
old_is_read (Import octets) e text h = ap command_of h ∙ e
old_is_read (Good number (V4 octets)) e text h = ap command_of h ∙ e
old_is_read (Bad number) e text h = ap command_of h ∙ e
old_is_read (Time view t) e text h = ap command_of h ∙ e
old_is_read (Root view (V4 octets) amount) e text h = ap command_of h ∙ e
old_is_read _ e text h = absurd h
