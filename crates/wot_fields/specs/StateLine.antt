-- The lines that set what is held and from what is asked: certificates, verdicts, views. How each is printed, and how a
-- line is read as one. A dump is made of such lines.
use Rattle.std.specs.Prelude.{ℕ, ◌≡◌, ◌≢◌, ◌≤◌, ◌+◌, ◌*◌, if◌then◌else◌, List, [], ◌∷◌, length, Option, Some, None}
use Rattle.std.specs.Prelude.{codes}
use Rattle.std.specs.Fmt.{decimal}
use Rattle.std.specs.List.{AllByRecursion}
use Rattle.std.specs.Option.{option_map}
use Rattle.std.specs.Str.{bytes_eq}
use Rattle.hex.specs.Hex.{encode_lower}
use Rattle.wot_types.specs.Fpr.{digits_of, fpr_of_digits}
use Rattle.wot_types.specs.SigNumber.{number_digits, number_of_digits}
use Rattle.wot_types.specs.ViewName.{view_name_of}
use Rattle.wot_types.specs.declared.number.SigNumber.{SigNumber}
use Rattle.wot_fields.specs.Decimal.{decimal_up_to}
use Rattle.wot_fields.specs.Fields.{behind, field, octets_of_hex, read_behind}
use Rattle.wot_fields.specs.Texts.{joined}
use Rattle.wot_fields.specs.declared.state_line.StateLine.{StateLine}
use Rattle.wot_fields.specs.declared.state_line.StateLine.TheVariants.{Import, Good, Bad, Unjudge, Time, Root, Close}

-- ---- printed

-- the line, without a line feed
unfoldable pub spelling : StateLine → List ℕ
spelling (Import octets) = joined (codes "import " ∷ encode_lower octets ∷ [])
spelling (Good number fpr) = joined (codes "verdict " ∷ number_digits number ∷ codes " good " ∷ digits_of fpr ∷ [])
spelling (Bad number) = joined (codes "verdict " ∷ number_digits number ∷ codes " bad" ∷ [])
spelling (Unjudge number) = joined (codes "verdict " ∷ number_digits number ∷ codes " none" ∷ [])
spelling (Time view t) = joined (codes "view " ∷ view ∷ codes " time " ∷ decimal t ∷ [])
spelling (Root view fpr amount) =
    joined (codes "view " ∷ view ∷ codes " root " ∷ digits_of fpr ∷ codes " " ∷ decimal amount ∷ [])
spelling (Close view) = joined (codes "view " ∷ view ∷ codes " close" ∷ [])

-- the largest length of the line
abbrev pub most_octets : StateLine → ℕ
most_octets (Import octets) = 7 + 2 * length octets
most_octets (Good number fpr) = 142
most_octets _ = 128

-- it isn't empty, and isn't a comment
abbrev pub IsNoComment : List ℕ → Type 0
IsNoComment [] = ⊥
IsNoComment (octet ∷ octets) = octet ≢ 35

-- The text is one line that gets a reply, and has at most `most` octets.
pub record IsOneLine (most : ℕ) (text : List ℕ) : Type 0 where
  pub no_feed : AllByRecursion (λ octet. octet ≢ 10) text
  pub no_comment : IsNoComment text
  pub short : length text ≤ most

-- ---- read

-- after `verdict NUM `: `good FPR`, `bad` or `none`
unfoldable pub judgement_of : SigNumber → List ℕ → Option StateLine
judgement_of number text =
    read_behind (behind (codes "good ") text) (λ digits. option_map (Good number) (fpr_of_digits digits)) (
    if bytes_eq text (codes "bad") then Some (Bad number)
    else if bytes_eq text (codes "none") then Some (Unjudge number)
    else None)

-- after `view V root `: FPR A
unfoldable pub root_of : List ℕ → List ℕ → Option StateLine
root_of view text =
    field fpr_of_digits (λ fpr digits. option_map (Root view fpr) (decimal_up_to 255 digits)) text

-- after `view V `: `time T`, `root FPR A` or `close`
unfoldable pub setting_of : List ℕ → List ℕ → Option StateLine
setting_of view text =
    read_behind (behind (codes "time ") text) (λ digits. option_map (Time view) (decimal_up_to 4294967295 digits)) (
    read_behind (behind (codes "root ") text) (root_of view) (
    if bytes_eq text (codes "close") then Some (Close view) else None))

-- What such a line sets; None for any other line. After `import `: HEX. After `verdict `: NUM and the rest. After
-- `view `: V and the rest.
unfoldable pub state_line_of : List ℕ → Option StateLine
state_line_of line =
    read_behind (behind (codes "import ") line) (λ digits. option_map Import (octets_of_hex digits)) (
    read_behind (behind (codes "verdict ") line) (field number_of_digits judgement_of) (
    read_behind (behind (codes "view ") line) (field view_name_of setting_of) None))

-- an import has at most half as many octets as its line
abbrev pub IsWithin : ℕ → StateLine → Type 0
IsWithin size (Import octets) = 2 * length octets ≤ size
IsWithin size _ = Unit {0}

-- The printed line is one line, is no longer than it may be, and is read back.
pub record IsPrinted (line : StateLine) : Type 0 where
  pub read : state_line_of (spelling line) ≡ Some line
  pub one_line : IsOneLine (most_octets line) (spelling line)
