-- What is printed about a run of the generated script.
use Rattle.std.specs.Prelude.{◌≡◌, ℕ, List, [], ◌∷◌, ◌++◌, codes}
use Rattle.std.specs.List.{flat_map, sum_by}
use Rattle.std.specs.Fmt.{decimal}
use Rattle.hex.specs.Hex.{encode_lower}
use Rattle.sha2.specs.Hashers.{Holds256}
use Rattle.sha2.specs.Sha256.{sha256}
use Rattle.wot_fields.specs.Texts.{joined_line}
use Rattle.wot_script.specs.Replies.{reply_text}
use Rattle.wot_script.specs.declared.reply.Reply.{Reply}
use Rattle.wot_script.specs.declared.reply.Reply.TheVariants.{Amount}
use Rattle.wot_gen.specs.declared.summary.Summary.{Summary}
use Rattle.wot_gen.specs.declared.tally.Tally.{Tally}

-- the amount in the reply to a question; other replies have none
abbrev pub amount_in : Reply → ℕ
amount_in (Amount sum paths lines) = sum
amount_in _ = 0

-- the sum of the amounts in replies
abbrev pub amounts_in : List Reply → ℕ
amounts_in replies = sum_by amount_in replies

-- the digest of a transcript: the octets of all replies
abbrev pub transcript_digest : List Reply → List ℕ
transcript_digest replies = sha256 (flat_map reply_text replies)

-- Three lines: start, count and number of lines; the sum of amounts; the digest in digits.
abbrev pub summary_text : Summary → List ℕ
summary_text summary =
    joined_line (codes "gen " ∷ decimal summary.start ∷ codes " " ∷ decimal summary.count
    ∷ codes " lines " ∷ decimal summary.lines ∷ [])
    ++ joined_line (codes "amounts " ∷ decimal summary.amounts ∷ [])
    ++ joined_line (codes "transcript " ∷ encode_lower summary.digest ∷ [])

-- A tally stands for these replies: for the sum of their amounts and for their transcript.
abbrev pub Tallies : Tally → List Reply → Type 0
Tallies tally replies = (tally.amounts ≡ amounts_in replies) × Holds256 tally.transcript (flat_map reply_text replies)
