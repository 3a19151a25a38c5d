-- How a reply is printed.
use Rattle.std.specs.Prelude.{ℕ, Bool, true, false, List, [], ◌∷◌, ◌++◌, Option, Some, None, codes}
use Rattle.std.specs.Fmt.{decimal}
use Rattle.std.specs.List.{AllByRecursion, flat_map}
use Rattle.hex.specs.Hex.{encode_lower}
use Rattle.wot_types.specs.Limits.{limit_word}
use Rattle.wot_fields.specs.Texts.{joined_line}
use Rattle.wot_reply_lines.specs.Claims.{claim_text, field_text, label_text}
use Rattle.wot_reply_lines.specs.Lines.{HasReason, answer_line, bind_line, key_line, pending_line, reason_line, refused}
use Rattle.wot_reply_lines.specs.Lines.{stale}
use Rattle.wot_reply_lines.specs.Words.{IsWordOf, target_words, word_at}
use Rattle.wot_script.specs.declared.reply.Reply.{Reply}
use Rattle.wot_script.specs.declared.reply.Reply.TheVariants.{Taken, Stored, Done, Amount, Explained, Pending}
use Rattle.wot_script.specs.declared.reply.Reply.TheVariants.{Keys, Export, Dump, Long, Line, View, Shelf}
use Rattle.wot_script.specs.declared.reply.Reply.TheVariants.{Packet, Compressed, Secret, Kind, Order, Empty}
use Rattle.wot_script.specs.declared.reply.Reply.TheVariants.{Misfiled, Clash, Absent, Full}
use Rattle.wot_script.specs.declared.reply.Reply.TheVariants.{Reached, Missed, CheckedYes, CheckedNoPaths}
use Rattle.wot_script.specs.declared.reply.Reply.TheVariants.{CheckedNoTable, Piece, StaleKeyring, StaleView}
use Rattle.wot_script.specs.declared.reply.Reply.TheVariants.{NoCursor, FullCursors, WatchAmount, WatchGone}
use Rattle.wot_script.specs.declared.reply.Reply.TheVariants.{NoWatch, FullWatches}

-- ---- all replies

-- the octets of a reply, with its line feeds
unfoldable pub reply_text : Reply → List ℕ
reply_text (Taken taken skipped new) =
    joined_line (codes "ok taken " ∷ decimal taken ∷ codes " skipped " ∷ decimal skipped ∷ codes " new "
    ∷ decimal new ∷ [])
reply_text (Stored octets) = joined_line (codes "ok stored " ∷ decimal octets ∷ [])
reply_text Done = joined_line (codes "ok" ∷ [])
reply_text (Amount sum paths lines) =
    joined_line (codes "amount " ∷ decimal sum ∷ codes " paths " ∷ decimal paths ∷ []) ++ flat_map answer_line lines
reply_text (Reply.List count lines) = joined_line (codes "list " ∷ decimal count ∷ []) ++ flat_map bind_line lines
reply_text (Explained word count lines) =
    joined_line (codes "explain " ∷ word_at target_words word ∷ codes " " ∷ decimal count ∷ [])
    ++ flat_map reason_line lines
reply_text (Pending count lines) = joined_line (codes "pending " ∷ decimal count ∷ []) ++ flat_map pending_line lines
reply_text (Keys count lines) = joined_line (codes "keys " ∷ decimal count ∷ []) ++ flat_map key_line lines
reply_text (Export octets) = joined_line (codes "export " ∷ encode_lower octets ∷ [])
reply_text (Dump count lines) = joined_line (codes "dump " ∷ decimal count ∷ []) ++ lines
reply_text (Missed sum claims labels) =
    joined_line (codes "absence missed " ∷ decimal sum ∷ [])
    ++ joined_line (codes "claim " ∷ field_text claim_text claims ∷ codes " " ∷ field_text label_text labels ∷ [])
reply_text (Reached sum) = joined_line (codes "absence reached " ∷ decimal sum ∷ [])
reply_text (CheckedYes sum) = joined_line (codes "checked yes " ∷ decimal sum ∷ [])
reply_text CheckedNoPaths = joined_line (codes "checked no paths" ∷ [])
reply_text CheckedNoTable = joined_line (codes "checked no table" ∷ [])
reply_text Long = refused (codes "long" ∷ [])
reply_text Line = refused (codes "line" ∷ [])
reply_text View = refused (codes "view" ∷ [])
reply_text Shelf = joined_line (codes "fault shelf" ∷ [])
reply_text (Packet why offset) = refused (codes "packet " ∷ decimal why ∷ codes " " ∷ decimal offset ∷ [])
reply_text Compressed = refused (codes "compressed" ∷ [])
reply_text Secret = refused (codes "secret" ∷ [])
reply_text (Kind kind offset) = refused (codes "kind " ∷ decimal kind ∷ codes " " ∷ decimal offset ∷ [])
reply_text (Order offset) = refused (codes "order " ∷ decimal offset ∷ [])
reply_text Empty = refused (codes "empty" ∷ [])
reply_text Misfiled = refused (codes "misfiled" ∷ [])
reply_text Clash = refused (codes "clash" ∷ [])
reply_text Absent = refused (codes "absent" ∷ [])
reply_text (Full limit) = refused (codes "full " ∷ limit_word limit ∷ [])
reply_text (Piece count lines) = joined_line (codes "piece " ∷ decimal count ∷ []) ++ flat_map bind_line lines
reply_text (StaleKeyring was now) = stale (codes "keyring ") was now
reply_text (StaleView was now) = stale (codes "view ") was now
reply_text NoCursor = refused (codes "cursor" ∷ [])
reply_text FullCursors = refused (codes "full cursors" ∷ [])
reply_text (WatchAmount watch sum) = joined_line (codes "watch " ∷ watch ∷ codes " amount " ∷ decimal sum ∷ [])
reply_text (WatchGone watch) = joined_line (codes "watch " ∷ watch ∷ codes " gone" ∷ [])
reply_text NoWatch = refused (codes "watch" ∷ [])
reply_text FullWatches = refused (codes "full watches" ∷ [])

-- ---- replies of one line that ends with a number: what `src/numbered.rt` returns, a row in each of both for each

-- the words before the number; no octets for any other reply
abbrev pub words_before : Reply → List ℕ
words_before (Stored octets) = codes "ok stored "
words_before (Reached sum) = codes "absence reached "
words_before (CheckedYes sum) = codes "checked yes "
words_before _ = []

-- the number; None for any other reply
abbrev pub number_of : Reply → Option ℕ
number_of (Stored octets) = Some octets
number_of (Reached sum) = Some sum
number_of (CheckedYes sum) = Some sum
number_of _ = None

-- ---- words

-- Each word of an explanation is in its table.
abbrev pub HasWords : Reply → Type 0
HasWords (Explained word count lines) = IsWordOf target_words word × AllByRecursion HasReason lines
HasWords _ = Unit {0}

-- ---- kinds of replies

abbrev pub is_empty : {A : Type 0} → List A → Bool
is_empty [] = true
is_empty (x ∷ xs) = false

-- one line, and not that of `export`
abbrev pub is_short : Reply → Bool
is_short (Amount sum paths lines) = is_empty lines
is_short (Reply.List count lines) = is_empty lines
is_short (Explained word count lines) = is_empty lines
is_short (Pending count lines) = is_empty lines
is_short (Keys count lines) = is_empty lines
is_short (Export octets) = false
is_short (Dump count lines) = is_empty lines
is_short (Missed sum claims labels) = false
is_short (Piece count lines) = is_empty lines
is_short _ = true

-- there is no number
abbrev pub is_unnumbered : Option ℕ → Bool
is_unnumbered (Some number) = false
is_unnumbered None = true

-- a line that begins with `refused`
abbrev pub is_refusal : Reply → Bool
is_refusal (Taken taken skipped new) = false
is_refusal Done = false
is_refusal (Amount sum paths lines) = false
is_refusal (Reply.List count lines) = false
is_refusal (Explained word count lines) = false
is_refusal (Pending count lines) = false
is_refusal (Keys count lines) = false
is_refusal (Export octets) = false
is_refusal (Dump count lines) = false
is_refusal (Missed sum claims labels) = false
is_refusal CheckedNoPaths = false
is_refusal CheckedNoTable = false
is_refusal (Piece count lines) = false
is_refusal (StaleKeyring was now) = false
is_refusal (StaleView was now) = false
is_refusal (WatchAmount watch sum) = false
is_refusal (WatchGone watch) = false
is_refusal Shelf = false
is_refusal reply = is_unnumbered (number_of reply)
