use Rattle.std.proofs.Common.{arith}
use Rattle.wot_types.specs.Fpr.{digits_of, octets_of}
use Rattle.std.specs.Fmt.{decimal}
use Rattle.wot_reply_lines.specs.Claims.{IsClaimSpelled, claim_text, field_text, label_text}
use Rattle.wot_reply_lines.proofs.ClaimTexts.{claims_field, labels_field}
use Rattle.wot_reply_lines.specs.Entry.{entry_text}
use Rattle.wot_reply_lines.specs.Question.{question_parts}
use Rattle.wot_reply_lines.specs.declared.question.Question.{Question}
use Rattle.wot_reply_lines.proofs.Questions.{question}
use Rattle.wot_script.specs.Spelling.{spelling}
use Rattle.wot_fields.specs.Texts.{joined}
use Rattle.wot_fields.specs.Uid.{escaped}
use Rattle.wot_fields.proofs.Spaceless.{spaceless_digits}
use Rattle.wot_fields.specs.StateLine.{IsPrinted}
use Rattle.wot_fields.specs.declared.state_line.StateLine.TheVariants as lines
use Rattle.wot_fields.proofs.LineParts.{fpr_digits, name_is, numeral}
use Rattle.wot_fields.proofs.StateLines.{bad_printed, close_printed, good_printed, import_printed, root_printed}
use Rattle.wot_fields.proofs.StateLines.{time_printed, unjudge_printed}
use Rattle.wot_script.proofs.Readings.{absence_reads, ask_reads, check_reads, drop_reads, explain_reads, export_reads}
use Rattle.wot_script.proofs.Readings.{list_reads, load_reads, set_reads, store_reads, end_reads, next_reads}
use Rattle.wot_script.proofs.Readings.{over_reads, off_reads, on_reads}
use Rattle.wot_script.proofs.OneLine.{absence_line, ask_line, check_line, explain_line, export_line, list_line}
use Rattle.wot_script.proofs.OneLine.{load_line, remove_line, store_line, end_line, next_line, over_line, off_line}
use Rattle.wot_script.proofs.OneLine.{on_line}
use Rattle.wot_script.proofs.spelled.spelling_is_read.Goals as goal

pub returns-in-Import : goal.returns-in-Import
unfolding spelling
returns-in-Import c =
    let p : IsPrinted (lines.Import c.in-Import.octets) =
    import_printed c.in-Import.octets (rw c.items.ensures.whole at c.hex_is_read.ensures) in
    rw c.in-Import.is (record { read = set_reads (lines.Import c.in-Import.octets) p.read; line = p.one_line })

pub returns-in-Load : goal.returns-in-Load
unfolding spelling
returns-in-Load c = rw c.in-Load.is (record {
  read = load_reads (entry_text c.in-Load.name) c.in-Load.name c.entry_is_read.ensures.read;
  line = load_line c.in-Load.name (entry_text c.in-Load.name) c.entry_is_read.ensures.free
      c.entry_is_read.ensures.short;
})

pub returns-in-Store : goal.returns-in-Store
unfolding spelling
returns-in-Store c = rw c.in-Store.is (record {
  read = store_reads (digits_of c.in-Store.fpr) c.in-Store.fpr c.printed_is_read.ensures.read_back;
  line = store_line c.in-Store.fpr (digits_of c.in-Store.fpr)
      (fpr_digits c.in-Store.fpr c.printed_is_read.ensures.read_back);
})

pub returns-in-Remove : goal.returns-in-Remove
unfolding spelling
returns-in-Remove c = rw c.in-Remove.is (record {
  read = drop_reads (digits_of c.in-Remove.fpr) c.in-Remove.fpr c.printed_is_read-in-Remove.ensures.read_back;
  line = remove_line c.in-Remove.fpr (digits_of c.in-Remove.fpr)
      (fpr_digits c.in-Remove.fpr c.printed_is_read-in-Remove.ensures.read_back);
})

pub returns-in-Good : goal.returns-in-Good
unfolding spelling
returns-in-Good c =
    let p : IsPrinted (lines.Good c.in-Good.number c.in-Good.fpr) =
    good_printed c.in-Good.number c.in-Good.fpr c.printed_is_read-in-Good.ensures.read_back
    c.printed_is_read-in-Good-2.ensures.read_back in
    rw c.in-Good.is (record { read = set_reads (lines.Good c.in-Good.number c.in-Good.fpr) p.read; line = p.one_line })

pub returns-in-Bad : goal.returns-in-Bad
unfolding spelling
returns-in-Bad c =
    let p : IsPrinted (lines.Bad c.in-Bad.number) =
    bad_printed c.in-Bad.number c.printed_is_read-in-Bad.ensures.read_back in
    rw c.in-Bad.is (record { read = set_reads (lines.Bad c.in-Bad.number) p.read; line = p.one_line })

pub returns-in-Unjudge : goal.returns-in-Unjudge
unfolding spelling
returns-in-Unjudge c =
    let p : IsPrinted (lines.Unjudge c.in-Unjudge.number) =
    unjudge_printed c.in-Unjudge.number c.printed_is_read-in-Unjudge.ensures.read_back in
    rw c.in-Unjudge.is (record { read = set_reads (lines.Unjudge c.in-Unjudge.number) p.read; line = p.one_line })

pub returns-in-Time : goal.returns-in-Time
unfolding spelling
returns-in-Time c =
    let p : IsPrinted (lines.Time c.in-Time.view c.in-Time.t) =
    time_printed c.in-Time.view c.in-Time.t c.octets-name.ensures.name c.decimal_is_read.ensures (omega arith) in
    rw c.in-Time.is (record { read = set_reads (lines.Time c.in-Time.view c.in-Time.t) p.read; line = p.one_line })

pub returns-in-Root : goal.returns-in-Root
unfolding spelling
returns-in-Root c =
    let p : IsPrinted (lines.Root c.in-Root.view c.in-Root.fpr c.in-Root.amount) =
    root_printed c.in-Root.view c.in-Root.fpr c.in-Root.amount c.octets-name-in-Root.ensures.name
    c.printed_is_read-in-Root.ensures.read_back (rw c.from.ensures at c.decimal_is_read-in-Root.ensures) (omega arith) in
    rw c.in-Root.is (record { read = set_reads (lines.Root c.in-Root.view c.in-Root.fpr c.in-Root.amount) p.read; line = p.one_line })

pub returns-in-Close : goal.returns-in-Close
unfolding spelling
returns-in-Close c =
    let p : IsPrinted (lines.Close c.in-Close.view) =
    close_printed c.in-Close.view c.name_is_valid.ensures in
    rw c.in-Close.is (record { read = set_reads (lines.Close c.in-Close.view) p.read; line = p.one_line })

pub returns-in-Ask : goal.returns-in-Ask
unfolding spelling
returns-in-Ask c =
    let q : Question = question c.in-Ask.fpr c.in-Ask.wanted c.in-Ask.uid in
    rw c.in-Ask.is (record {
      read = ask_reads c.in-Ask.view (joined (question_parts c.in-Ask.fpr c.in-Ask.wanted c.in-Ask.uid)) q
          c.question_is_read.ensures.name c.question_is_read.ensures.read;
      line = ask_line c.in-Ask.view c.in-Ask.fpr c.in-Ask.wanted c.in-Ask.uid (digits_of c.in-Ask.fpr)
          (decimal c.in-Ask.wanted) (name_is c.in-Ask.view c.question_is_read.ensures.name)
          (fpr_digits c.in-Ask.fpr c.question_is_read.ensures.digits) (numeral c.in-Ask.wanted (omega arith));
    })

pub returns-in-List : goal.returns-in-List
unfolding spelling
returns-in-List c = rw c.in-List.is (record {
  read = list_reads c.in-List.view (decimal c.in-List.wanted) c.in-List.wanted c.wanted_is_read.ensures.name
      c.wanted_is_read.ensures.read;
  line = list_line c.in-List.view c.in-List.wanted (decimal c.in-List.wanted)
      (name_is c.in-List.view c.wanted_is_read.ensures.name) (numeral c.in-List.wanted (omega arith));
})

pub returns-in-Explain : goal.returns-in-Explain
unfolding spelling
returns-in-Explain c = rw c.in-Explain.is (record {
  read = explain_reads c.in-Explain.view (digits_of c.in-Explain.fpr) (escaped c.in-Explain.uid) c.in-Explain.uid
      c.in-Explain.fpr c.octets-name-in-Explain.ensures.name (spaceless_digits (octets_of c.in-Explain.fpr))
      c.printed_is_read-in-Explain.ensures.read_back (rw c.octets.ensures.whole at c.uid_is_read.ensures);
  line = explain_line c.in-Explain.view c.in-Explain.fpr c.in-Explain.uid (digits_of c.in-Explain.fpr)
      (name_is c.in-Explain.view c.octets-name-in-Explain.ensures.name)
      (fpr_digits c.in-Explain.fpr c.printed_is_read-in-Explain.ensures.read_back);
})

pub returns-in-Export : goal.returns-in-Export
unfolding spelling
returns-in-Export c = rw c.in-Export.is (record {
  read = export_reads (digits_of c.in-Export.fpr) c.in-Export.fpr c.printed_is_read-in-Export.ensures.read_back;
  line = export_line c.in-Export.fpr (digits_of c.in-Export.fpr)
      (fpr_digits c.in-Export.fpr c.printed_is_read-in-Export.ensures.read_back);
})

pub returns-in-Absence : goal.returns-in-Absence
unfolding spelling
returns-in-Absence c =
    let q : Question = question c.in-Absence.fpr c.in-Absence.wanted c.in-Absence.uid in
    rw c.in-Absence.is (record {
      read = absence_reads c.in-Absence.view
          (joined (question_parts c.in-Absence.fpr c.in-Absence.wanted c.in-Absence.uid)) q
          c.question_is_read-in-Absence.ensures.name c.question_is_read-in-Absence.ensures.read;
      line = absence_line c.in-Absence.view c.in-Absence.fpr c.in-Absence.wanted c.in-Absence.uid
          (digits_of c.in-Absence.fpr) (decimal c.in-Absence.wanted)
          (name_is c.in-Absence.view c.question_is_read-in-Absence.ensures.name)
          (fpr_digits c.in-Absence.fpr c.question_is_read-in-Absence.ensures.digits)
          (numeral c.in-Absence.wanted (omega arith));
    })

pub returns-in-Check : goal.returns-in-Check
unfolding spelling
returns-in-Check c =
    let spelled : IsClaimSpelled c.in-Check.claims c.in-Check.labels = rw c.in-Check.is at c.requires in
    let claims = claims_field c.in-Check.claims (rw c.items-in-Check.ensures.whole at c.claims_are_read.ensures) in
    let labels = labels_field c.in-Check.labels (rw c.items-in-Check-2.ensures.whole at c.labels_are_read.ensures)
    spelled.rise in
    rw c.in-Check.is (record {
      read = check_reads c.in-Check.view (digits_of c.in-Check.fpr) (field_text claim_text c.in-Check.claims)
          (field_text label_text c.in-Check.labels) (escaped c.in-Check.uid) c.in-Check.uid c.in-Check.fpr
          c.in-Check.claims c.in-Check.labels c.octets-name-in-Check.ensures.name
          (spaceless_digits (octets_of c.in-Check.fpr)) c.printed_is_read-in-Check.ensures.read_back claims.free
          claims.back labels.free labels.back (rw c.octets-in-Check.ensures.whole at c.uid_is_read-in-Check.ensures);
      line = check_line c.in-Check.view c.in-Check.fpr c.in-Check.claims c.in-Check.labels c.in-Check.uid
          (digits_of c.in-Check.fpr) (field_text claim_text c.in-Check.claims) (field_text label_text c.in-Check.labels)
          (name_is c.in-Check.view c.octets-name-in-Check.ensures.name)
          (fpr_digits c.in-Check.fpr c.printed_is_read-in-Check.ensures.read_back) claims.line claims.size labels.line
          labels.size;
    })

pub returns-in-CursorOver : goal.returns-in-CursorOver
unfolding spelling
returns-in-CursorOver c = rw c.in-CursorOver.is (record {
  read = over_reads c.in-CursorOver.cursor c.in-CursorOver.view (decimal c.in-CursorOver.wanted) c.in-CursorOver.wanted
      c.octets-cursor.ensures.name c.octets-name-in-CursorOver.ensures.name c.positive_is_read.ensures.read;
  line = over_line c.in-CursorOver.cursor c.in-CursorOver.view c.in-CursorOver.wanted (decimal c.in-CursorOver.wanted)
      (name_is c.in-CursorOver.cursor c.octets-cursor.ensures.name)
      (name_is c.in-CursorOver.view c.octets-name-in-CursorOver.ensures.name)
      (numeral c.in-CursorOver.wanted (omega arith));
})

pub returns-in-CursorNext : goal.returns-in-CursorNext
unfolding spelling
returns-in-CursorNext c = rw c.in-CursorNext.is (record {
  read = next_reads c.in-CursorNext.cursor (decimal c.in-CursorNext.count) c.in-CursorNext.count
      c.wanted_is_read-in-CursorNext.ensures.name c.wanted_is_read-in-CursorNext.ensures.read;
  line = next_line c.in-CursorNext.cursor c.in-CursorNext.count (decimal c.in-CursorNext.count)
      (name_is c.in-CursorNext.cursor c.wanted_is_read-in-CursorNext.ensures.name)
      (numeral c.in-CursorNext.count (omega arith));
})

pub returns-in-CursorClose : goal.returns-in-CursorClose
unfolding spelling
returns-in-CursorClose c = rw c.in-CursorClose.is (record {
  read = end_reads c.in-CursorClose.cursor c.name_is_valid-in-CursorClose.ensures;
  line = end_line c.in-CursorClose.cursor (name_is c.in-CursorClose.cursor c.name_is_valid-in-CursorClose.ensures);
})

pub returns-in-WatchOn : goal.returns-in-WatchOn
unfolding spelling
returns-in-WatchOn c =
    let q : Question = question c.in-WatchOn.fpr c.in-WatchOn.wanted c.in-WatchOn.uid in
    rw c.in-WatchOn.is (record {
      read = on_reads c.in-WatchOn.watch c.in-WatchOn.view
          (joined (question_parts c.in-WatchOn.fpr c.in-WatchOn.wanted c.in-WatchOn.uid)) q c.octets-watch.ensures.name
          c.question_is_read-in-WatchOn.ensures.name c.question_is_read-in-WatchOn.ensures.read;
      line = on_line c.in-WatchOn.watch c.in-WatchOn.view c.in-WatchOn.fpr c.in-WatchOn.wanted c.in-WatchOn.uid
          (digits_of c.in-WatchOn.fpr) (decimal c.in-WatchOn.wanted)
          (name_is c.in-WatchOn.watch c.octets-watch.ensures.name)
          (name_is c.in-WatchOn.view c.question_is_read-in-WatchOn.ensures.name)
          (fpr_digits c.in-WatchOn.fpr c.question_is_read-in-WatchOn.ensures.digits)
          (numeral c.in-WatchOn.wanted (omega arith));
    })

pub returns-in-WatchOff : goal.returns-in-WatchOff
unfolding spelling
returns-in-WatchOff c = rw c.in-WatchOff.is (record {
  read = off_reads c.in-WatchOff.watch c.name_is_valid-in-WatchOff.ensures;
  line = off_line c.in-WatchOff.watch (name_is c.in-WatchOff.watch c.name_is_valid-in-WatchOff.ensures);
})
