-- The three lines about a generated run.
use Rattle.std.proofs.Common.{◌≡◌, ℕ, suc, List, [], ◌∷◌, ◌++◌, length, Option, Some, None, Result, Err, OnOk, refl}
use Rattle.std.proofs.Common.{sym, ap, subst, ◌∙◌, append_assoc}
use Rattle.std.proofs.lemmas.List.{append-nil}
use Rattle.std.proofs.Math.Seq.{take-length}
use Rattle.std.proofs.lemmas.List.Concat.{flat_map-cons}
use Rattle.std.specs.List.{AllByRecursion}
use Rattle.std.specs.Prelude.{IfSome}
use Rattle.wot_io.specs.Input.{lines_of}
use Rattle.wot_io.specs.Sink.{Becomes}
use Rattle.wot_policy.specs.declared.rows.PolicyRows.{PolicyRows}
use Rattle.wot_script.specs.declared.command.Command.{Command}
use Rattle.wot_script.specs.declared.reply.Reply.{Reply}
use Rattle.wot_script.specs.Spelling.{spelling}
use Rattle.wot_gen.specs.Script.{IsReadBack, commands_of, line_of, text_of}
use Rattle.wot_gen.specs.declared.tally.Tally.{Tally}
use Rattle.wot_gen.specs.Summary.{Tallies, amounts_in, transcript_digest, summary_text}
use Rattle.wot_laws.specs.OneLine.{OneOutcome}
use Rattle.wot_plain.specs.Transcript.{RepliesTo}
use Rattle.wot_plain.proofs.CutLines.{lines_of-feed}
use Rattle.wot_laws.proofs.Runs.{RepliesTo-some}
use Rattle.wot_engine.specs.Generated.{IsSummary, SummaryBegun, Summarized, no_entries, script_lines, summary_of}
use Rattle.wot_gen.specs.declared.summary.Summary.{Summary}
use Rattle.wot_engine.specs.Played.{IsPlayed}

-- each command is one line
pub lines_counted : (commands : List Command) → AllByRecursion IsReadBack commands →
    length (lines_of (text_of commands)) ≡ length commands
lines_counted [] all = refl
lines_counted (command ∷ commands) all =
    let text : text_of (command ∷ commands) ≡ spelling command ++ 10 ∷ text_of commands =
    flat_map-cons line_of command commands ∙ append_assoc (spelling command) (10 ∷ []) (text_of commands) in
    let first = lines_of-feed (spelling command) (text_of commands) all.0.line.no_feed in
    ap (λ (x : List ℕ). length (lines_of x)) text ∙ ap length first ∙ ap (λ n. suc n) (lines_counted commands all.1)

-- a claim about success holds trivially of an error
pub never : {T E : Type 0} (r : Result T E) (fault : E) (written : Option (List ℕ)) (P : List ℕ → Type 0) →
    r ≡ Err fault
    → IfSome written (λ before. OnOk r (P before))
never r fault None P is = tt
never r fault (Some before) P is = subst (λ (r : Result _ _). OnOk r (P before)) (sym is) tt

-- a summary with these parts
same_summary : (start count lines amounts : ℕ) (digest : List ℕ) (replies : List Reply) →
    lines ≡ length (script_lines start count) → amounts ≡ amounts_in replies → digest ≡ transcript_digest replies →
    (summary : Summary) → summary ≡ record {
      start = start;
      count = count;
      lines = lines;
      amounts = amounts;
      digest = digest;
    } → summary ≡ summary_of start count replies
same_summary start count lines amounts digest replies l a d summary is = is ∙ (λ i. record {
  start = start;
  count = count;
  lines = l i;
  amounts = a i;
  digest = d i;
})

-- the script's summary
pub summed : (rows : PolicyRows) (start count lines amounts : ℕ) (digest out script : List ℕ) (tally : Tally)
    (summary : Summary)
    → AllByRecursion IsReadBack (commands_of start count) → script ≡ [] ++ text_of (commands_of start count) →
    lines ≡ length (commands_of start count)
    → IsPlayed rows (lines_of script) tally → amounts ≡ tally.amounts →
    ((replies : List Reply) → Tallies tally replies → digest ≡ transcript_digest replies)
    → summary ≡ record { start = start; count = count; lines = lines; amounts = amounts; digest = digest }
    → out ≡ [] ++ summary_text summary → IsSummary rows start count out
summed rows start count lines amounts digest out script tally summary all script_is lines_are played amounts_are
    digest_is summary_is out_is =
    let number : lines ≡ length (script_lines start count) =
    lines_are ∙ sym (lines_counted (commands_of start count) all) in
    record {
      replies = played.replies;
      reported = subst (λ (x : List ℕ). RepliesTo rows no_entries (lines_of x) played.replies) script_is played.reported;
      text_is = out_is ∙ ap summary_text (same_summary start count lines amounts digest played.replies number
          (amounts_are ∙ played.tells.0) (digest_is played.replies played.tells) summary summary_is);
    }

module _ (rows : PolicyRows) (start count : ℕ) where
  pub some_summary : OneOutcome rows → (text : List ℕ) × IsSummary rows start count text
  some_summary law =
      let all = RepliesTo-some rows law no_entries (script_lines start count) in (
        summary_text (summary_of start count all.0),
        record { replies = all.0; reported = all.1; text_is = refl },
      )

  -- nothing is written yet
  pub not_begun : OneOutcome rows → (written : Option (List ℕ)) →
      IfSome written (λ before. SummaryBegun rows start count before written)
  not_begun law None = tt
  not_begun law (Some before) =
      let some = some_summary law in
      record {
        text = some.0;
        is_summary = some.1;
        size = 0;
        written =
            ap (λ (x : List ℕ). Some x) (sym (append-nil before));
      }

  pub all_written : (written after : Option (List ℕ)) (text : List ℕ) → IsSummary rows start count text →
      Becomes written (λ before. before ++ text) after
      → IfSome written (λ before. Summarized rows start count before after)
  all_written None after text s b = tt
  all_written (Some before) after text s b = record { text = text; is_summary = s; written = b }

  pub all_begun : (written after : Option (List ℕ)) →
      IfSome written (λ before. Summarized rows start count before after)
      → IfSome written (λ before. SummaryBegun rows start count before after)
  all_begun None after s = tt
  all_begun (Some before) after s = record {
    text = s.text;
    is_summary = s.is_summary;
    size = length s.text;
    written = s.written ∙ ap (λ (x : List ℕ). Some (before ++ x)) (sym (take-length s.text));
  }
