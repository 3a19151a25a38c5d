-- A generated run: a script that the program makes, answers and sums up.
use Rattle.std.specs.Prelude.{◌≡◌, ℕ, List, [], ◌++◌, length, take, Option, Some, IfSome}
use Rattle.wot_io.specs.Input.{lines_of}
use Rattle.wot_policy.specs.declared.rows.PolicyRows.{PolicyRows}
use Rattle.wot_script.specs.declared.reply.Reply.{Reply}
use Rattle.wot_certd.specs.World.{World}
use Rattle.wot_gen.specs.Script.{commands_of, text_of}
use Rattle.wot_gen.specs.Summary.{amounts_in, transcript_digest, summary_text}
use Rattle.wot_plain.specs.Both.{Ends}
use Rattle.wot_plain.specs.Transcript.{RepliesTo}
use Rattle.wot_gen.specs.declared.summary.Summary.{Summary}

-- an empty certificate directory in memory, none of whose calls fails
abbrev pub no_entries : World
no_entries = record { entries = []; calls = 0; fails = []; late = [] }

-- the lines of the script of a start and a count
abbrev pub script_lines : ℕ → ℕ → List (List ℕ)
script_lines start count = lines_of (text_of (commands_of start count))

-- What is said about the run of the script of a start and a count that has these replies.
abbrev pub summary_of : ℕ → ℕ → List Reply → Summary
summary_of start count replies = record {
  start = start;
  count = count;
  lines = length (script_lines start count);
  amounts = amounts_in replies;
  digest = transcript_digest replies;
}

-- Three lines: the number of the script's lines, the sum of the amounts in the answers to its questions, and the digest
-- of its transcript, by the abstract machine with an empty directory.
pub record IsSummary (rows : PolicyRows) (start count : ℕ) (text : List ℕ) : Type 0 where
  pub replies : List Reply
  pub reported : RepliesTo rows no_entries (script_lines start count) replies
  pub text_is : text ≡ summary_text (summary_of start count replies)

-- the three lines were written
pub record Summarized (rows : PolicyRows) (start count : ℕ) (before : List ℕ) (after : Option (List ℕ)) : Type 0 where
  pub text : List ℕ
  pub is_summary : IsSummary rows start count text
  pub written : after ≡ Some (before ++ text)

-- what was written is a prefix of the three lines
pub record SummaryBegun (rows : PolicyRows) (start count : ℕ) (before : List ℕ) (after : Option (List ℕ)) : Type 0 where
  pub text : List ℕ
  pub is_summary : IsSummary rows start count text
  pub size : ℕ
  pub written : after ≡ Some (before ++ take size text)

-- the three lines were written, if what was written to the sink is known
abbrev pub WritesSummary : PolicyRows → Ends (Option (List ℕ)) → ℕ → ℕ → Type 0
WritesSummary rows output start count = IfSome output.old (λ before. Summarized rows start count before output.new)

abbrev pub BeginsSummary : PolicyRows → Ends (Option (List ℕ)) → ℕ → ℕ → Type 0
BeginsSummary rows output start count = IfSome output.old (λ before. SummaryBegun rows start count before output.new)
