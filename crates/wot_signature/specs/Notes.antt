-- What the hashed subpackets read so far say.
use Rattle.std.specs.Prelude.{ℕ, Bool, true, false, not, ◌||◌, ◌&&◌, ◌==◌, slice_index, List, Some, if◌then◌else◌}
use Rattle.std.specs.Prelude.{is_some}
use Rattle.std.specs.List.{list_any}
use Rattle.wot_subpacket.specs.Subpacket.{Subpacket}
use Rattle.wot_signature.specs.declared.facts.SigFacts.{SigFacts}
use Rattle.wot_signature.specs.declared.notes.Notes.{Notes}
use Rattle.wot_signature.specs.Known.{is_known, last_body_of}
use Rattle.wot_signature.specs.Facts.{facts_in, is_refused, number_in, is_set, issuer_in}

-- the notes of these subpackets
abbrev pub notes_in : ℕ → ℕ → List Subpacket → Notes
notes_in kind hash subpackets = record {
  facts = record (facts_in kind hash subpackets) { sound = false };
  dated = is_some (last_body_of 2 subpackets);
  refused = list_any is_refused subpackets;
}

-- the facts after one more subpacket, known or not
abbrev pub fact_more : Bool → SigFacts → Subpacket → SigFacts
fact_more known f s = record f {
  made = (if known && (s.kind == 2) then number_in s.body else f.made);
  lasts = (if known && (s.kind == 3) then number_in s.body else f.lasts);
  key_lasts = (if known && (s.kind == 9) then number_in s.body else f.key_lasts);
  depth = (if known && (s.kind == 5) then slice_index s.body 0 else f.depth);
  amount = (if known && (s.kind == 5) then slice_index s.body 1 else f.amount);
  scoped = (if known && (s.kind == 6) then true else f.scoped);
  revocable = (if known && (s.kind == 7) then is_set (slice_index s.body 0) else f.revocable);
  primary = (if known && (s.kind == 25) then is_set (slice_index s.body 0) else f.primary);
  reason = (if known && (s.kind == 29) then Some (slice_index s.body 0) else f.reason);
  issuer = (if known && (s.kind == 33) then Some (issuer_in s.body) else f.issuer);
}

-- the notes after one more subpacket, known or not
abbrev pub note_as : Bool → Notes → Subpacket → Notes
note_as known n s = record {
  facts = fact_more known n.facts s;
  dated = (if known && (s.kind == 2) then true else n.dated);
  refused = (not known && s.critical) || n.refused;
}

abbrev pub note_more : Notes → Subpacket → Notes
note_more n s = note_as (is_known s) n s

-- the facts after the last subpacket
abbrev pub facts_from : Notes → SigFacts
facts_from n = record n.facts { sound = n.dated && not n.refused }
