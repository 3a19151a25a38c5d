-- Text that is printed and read back: the claim that `absence` prints, and the lines of old dumps.
use Rattle.std.specs.Prelude.{◌≡◌, ℕ, List, [], ◌∷◌, ◌++◌, Some, codes}
use Rattle.std.specs.Fmt.{decimal}
use Rattle.hex.specs.Hex.{encode_lower}
use Rattle.wot_types.specs.declared.fpr.Fpr.{Fpr}
use Rattle.wot_types.specs.declared.fpr.Fpr.TheVariants.{V4}
use Rattle.wot_types.specs.Fpr.{digits_of}
use Rattle.wot_types.specs.SigNumber.{number_digits}
use Rattle.wot_reply_lines.specs.Claims.{claim_text, field_text, label_text}
use Rattle.wot_script.specs.Grammar.{command_of}
use Rattle.wot_script.specs.Replies.{reply_text}
use Rattle.wot_fields.specs.Texts.{joined, joined_line}
use Rattle.wot_fields.specs.Uid.{escaped}
use Rattle.wot_script.specs.declared.command.Command.{Command}
use Rattle.wot_script.specs.declared.command.Command.TheVariants.{Import, Good, Bad, Time, Root, Check}
use Rattle.wot_reply_lines.specs.declared.claims.ClaimLine.{ClaimLine}
use Rattle.wot_reply_lines.specs.declared.claims.LabelLine.{LabelLine}
use Rattle.wot_script.specs.declared.reply.Reply.TheVariants.{Missed}

-- ---- claims

-- the text of a claim: PATHS and TABLE
abbrev pub claimed : List ClaimLine → List LabelLine → List ℕ
claimed claims labels = joined (field_text claim_text claims ∷ codes " " ∷ field_text label_text labels ∷ [])

-- the reply to `absence` with this text after `claim `
abbrev pub missed_with : ℕ → List ℕ → List ℕ
missed_with sum text =
    joined_line (codes "absence missed " ∷ decimal sum ∷ []) ++ joined_line (codes "claim " ∷ text ∷ [])

-- the line `check` with this text between the fingerprint and the user ID
abbrev pub check_with : List ℕ → Fpr → List ℕ → List ℕ → List ℕ
check_with view fpr text uid =
    joined (codes "check " ∷ view ∷ codes " " ∷ digits_of fpr ∷ codes " " ∷ text ∷ codes " " ∷ escaped uid ∷ [])

-- `absence` prints one text for these paths and this table, whatever the sum, and `check` reads them from that text.
pub record IsPrintedClaim (view : List ℕ) (fpr : Fpr) (claims : List ClaimLine) (labels : List LabelLine)
    (uid : List ℕ) : Type 0 where
  pub printed : (sum : ℕ) → reply_text (Missed sum claims labels) ≡ missed_with sum (claimed claims labels)
  pub read : command_of (check_with view fpr (claimed claims labels) uid) ≡ Some (Check view fpr claims labels uid)

-- this holds of the paths and the table that the command checks
abbrev pub PrintsClaim : Command → Type 0
PrintsClaim (Check view fpr claims labels uid) = IsPrintedClaim view fpr claims labels uid
PrintsClaim _ = Unit {0}

-- ---- old dumps

-- This text is the line of the command in a dump from before version 6, when each fingerprint had 20 octets and was
-- printed as their digits.
abbrev pub IsOldLine : Command → List ℕ → Type 0
IsOldLine (Import octets) text = text ≡ joined (codes "import " ∷ encode_lower octets ∷ [])
IsOldLine (Good number (V4 octets)) text =
    text ≡ joined (codes "verdict " ∷ number_digits number ∷ codes " good " ∷ encode_lower octets ∷ [])
IsOldLine (Bad number) text = text ≡ joined (codes "verdict " ∷ number_digits number ∷ codes " bad" ∷ [])
IsOldLine (Time view t) text = text ≡ joined (codes "view " ∷ view ∷ codes " time " ∷ decimal t ∷ [])
IsOldLine (Root view (V4 octets) amount) text =
    text ≡ joined (codes "view " ∷ view ∷ codes " root " ∷ encode_lower octets ∷ codes " " ∷ decimal amount ∷ [])
IsOldLine _ text = ⊥
