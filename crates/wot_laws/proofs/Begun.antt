-- What a cursor returns is from the list in the reached state in which it began.
use Rattle.std.proofs.Common.{◌≡◌, ℕ, ◌≤◌, Bool, true, false, List, [], ◌++◌, length, map, Option, Some, None, refl}
use Rattle.std.proofs.Common.{sym, ap, subst, ◌∙◌}
use Rattle.std.specs.Prelude.{MatchBool}
use Rattle.std.specs.List.{AllByRecursion}
use Rattle.std.proofs.lemmas.Cmp.{nat_list_cmp_total}
use Rattle.std.proofs.lemmas.List.{map-append}
use Rattle.wot_types.specs.declared.fpr.Fpr.{Fpr}
use Rattle.wot_types.specs.ViewName.{view_name_cmp}
use Rattle.wot_key.specs.Key.{fpr_of}
use Rattle.wot_policy.specs.declared.rows.PolicyRows.{PolicyRows}
use Rattle.wot_verdict.specs.Verdicts.{Entries}
use Rattle.wot_component.specs.Certificate.{Certificate}
use Rattle.wot_edge.specs.Record.{IsRecord}
use Rattle.wot_keyring_spec.specs.Keyring.{Certificates}
use Rattle.wot_network.specs.Records.{record_of}
use Rattle.wot_table.specs.Table.{entry_at, with_entry}
use Rattle.wot_script.specs.Grammar.{command_of}
use Rattle.wot_script.specs.Spelling.{HasSpelling}
use Rattle.wot_script.specs.declared.command.Command.{Command}
use Rattle.wot_script.specs.declared.command.Command.TheVariants.{CursorNext, CursorOver}
use Rattle.wot_reply_lines.specs.declared.lines.BindLine.{BindLine}
use Rattle.wot_script.specs.declared.reply.Reply.{Reply}
use Rattle.wot_script.specs.declared.reply.Reply.TheVariants as replies
use Rattle.wot_cache.specs.declared.view.View.{View}
use Rattle.wot_cache.specs.Views.{view_at}
use Rattle.wot_cursor.specs.Cursors.{Cursors, begun, is_full}
use Rattle.wot_explain.specs.declared.bind.Bind.{Bind}
use Rattle.wot_explain.specs.Listing.{HasList, HasOneList, IsOfEachList, pairs_in}
use Rattle.wot_explain.specs.Piece.{binds_after}
use Rattle.wot_plain.specs.Classes.{class_of}
use Rattle.wot_plain.specs.Entry.{use_of}
use Rattle.wot_laws.specs.Joined.{AreOfList, IsNext, Since, pieces_in}
use Rattle.wot_laws.specs.Exchanges.{Exchange}
use Rattle.wot_plain.specs.Lines.{command_in_line}
use Rattle.wot_plain.specs.LineStep.{CommandStep}
use Rattle.wot_plain.specs.Listing.{Lists, bind_line}
use Rattle.wot_plain.specs.Pacing.{Begins, Leaves, stamps_in}
use Rattle.wot_plain.specs.Scene.{Scene, Step, opening, served_in}
use Rattle.wot_plain.specs.Served.{Served}
use Rattle.wot_plain.specs.Transcript.{Run}
use Rattle.wot_plain.specs.Session.{Session}
use Rattle.wot_laws.proofs.Reached.{reached_can_be}
use Rattle.wot_plain.proofs.Entries.{found_put}
use Rattle.wot_laws.proofs.LineByCommand.{Hears, heard_reads, hears, run_keeps}
use Rattle.wot_laws.proofs.CursorSoFar.{Began, Stands, goes_own, later_itself, later_obeys, passes_on, stands_told}
use Rattle.wot_laws.proofs.Behind.{at_first}
use Rattle.wot_laws.proofs.SortedStates.{ordered_binds, reached_ordered}
use Rattle.wot_plain.proofs.Viewed.{AreSound, does_views, sound_by, turn_few}
use Rattle.wot_plain.specs.Session.{turning_of}

-- ---- reached states

reached_sound : (rows : PolicyRows) (lines : List (List ℕ)) (old : Scene) (told : List Reply) (s : Scene)
    → Run rows old lines told s
    → AreSound old.whole.state.views old.whole.revisions → AreSound s.whole.state.views s.whole.revisions
reached_sound rows =
    run_keeps rows (λ (w : Session). AreSound w.state.views w.revisions)
    (λ old command answer reply new o s.
    sound_by (turning_of command) old.state.views old.revisions new.state.views new.revisions
    (does_views rows old.state command answer reply new.state o.does) o.turned s)
    (λ s watches sound. sound)

-- ---- the line with which it began

-- it began from an open view
record BeganFrom (s : Session) (name view : List ℕ) (wanted : ℕ) (cursors : Cursors) : Type 0 where
  shown : View
  seen : view_at s.state.views view ≡ Some shown
  cursors_are : cursors ≡ with_entry s.cursors name (begun view wanted (stamps_in s view))

began_from : (s : Session) (name view : List ℕ) (wanted : ℕ) (cursors : Cursors) (o : Option View)
    → view_at s.state.views view ≡ o
    → Begins s name view wanted o replies.Done cursors → BeganFrom s name view wanted cursors
began_from s name view wanted cursors None e l = let never : replies.Done ≡ replies.View = l.0 in absurd (cc never)
began_from s name view wanted cursors (Some shown) e l = by (is_full s.cursors name) l
  where
    by : (b : Bool)
        → MatchBool b (Leaves replies.FullCursors s.cursors replies.Done cursors)
        (Leaves replies.Done (with_entry s.cursors name (begun view wanted (stamps_in s view))) replies.Done cursors)
        → BeganFrom s name view wanted cursors
    by true l = let never : replies.Done ≡ replies.FullCursors = l.0 in absurd (cc never)
    by false l = record { shown = shown; seen = e; cursors_are = l.1 }

heard_obeys : (rows : PolicyRows) (old : Session) (o : Option Command) (command : Command) (answer : Served)
    (reply : Reply) (new : Session) → o ≡ Some command
    → Hears rows old o answer (Some reply) new → CommandStep rows old (class_of command) answer reply new
heard_obeys rows old o command answer reply new e h =
    subst (λ (c : Option Command). Hears rows old c answer (Some reply) new) e h

module _
    (rows : PolicyRows)
    (spelled : (line : List ℕ) (command : Command) → command_of line ≡ Some command → HasSpelling command)
    (lawful : (certs : Certificates) (verdicts : Entries) (t : ℕ) (u : List ℕ) →
    AllByRecursion (λ (e : Fpr × Certificate). e.0 ≡ fpr_of e.1.key) certs
    → IsRecord (record_of certs verdicts t u))
    (some : IsOfEachList HasList) (one : IsOfEachList HasOneList)
    (name view : List ℕ) (wanted : ℕ) (was : Scene) (exchanges : List Exchange) (last : Scene)
    (since : Since rows name view wanted was exchanges last)
  where
    -- the list at the beginning, and the cursor's current place
    record Found : Type 0 where
      shown : View
      all : List Bind
      began : Began name view wanted was.whole shown all
      stands : Stands name view wanted was.whole shown all began rows last.whole (pieces_in name exchanges)

    answer : Served
    answer = served_in was (use_of (command_in_line since.line))

    obeys : CommandStep rows was.whole (class_of (CursorOver name view wanted)) answer replies.Done since.begins.mid
    unfolding answer
    obeys =
        heard_obeys rows was.whole (command_in_line since.line) (CursorOver name view wanted) answer replies.Done since.begins.mid
        since.over
        (hears rows was.whole since.line answer (Some replies.Done) since.begins.mid since.begins.does)

    wants : 1 ≤ wanted
    wants = spelled since.line (CursorOver name view wanted) (heard_reads since.line (CursorOver name view wanted)
        since.over)

    found : Found
    found =
        let w = was.whole in
        let from = began_from w name view wanted since.begins.mid.cursors (view_at w.state.views view) refl
        obeys.paces in
        let told = record_of w.state.held.certs w.state.held.verdicts from.shown.time in
        let pairs = pairs_in w.state.held.certs in
        let list = some told from.shown.roots wanted pairs wants in
        let can = reached_can_be rows since.world since.lines since.reported was since.reached in
        let sound = reached_sound rows since.lines (opening since.world) since.reported was since.reached
        (record { order = tt; few = tt }) in
        let began : Began name view wanted w from.shown list.0 = record {
          few = turn_few w.state.views w.revisions view sound;
          wants = wants;
          seen = from.seen;
          list = list.1;
          rising = ordered_binds told from.shown.roots wanted w.state.held.certs list.0
              (reached_ordered rows since.world since.lines since.reported was since.reached) list.1;
          one = λ others l.
              one told from.shown.roots wanted pairs others list.0 (λ u. lawful w.state.held.certs w.state.held.verdicts
              from.shown.time u can) l list.1;
        } in
        record {
          shown = from.shown;
          all = list.0;
          began = began;
          stands =
              passes_on name view wanted w from.shown list.0 began rows exchanges since.mid last [] since.passes
              since.stays
              (stands_told name view wanted w from.shown list.0 began rows since.begins.mid since.behind since.mid.whole
              [] since.begins.tells (record {
                later =
                    later_obeys rows view w w (class_of (CursorOver name view wanted)) answer replies.Done since.begins.mid obeys
                    (later_itself view w sound.order);
                cursor = record {
                  place = None;
                  there =
                      ap (λ (cs : Cursors). entry_at cs name) from.cursors_are
                      ∙ found_put view_name_cmp nat_list_cmp_total name (begun view wanted (stamps_in w view))
                      w.cursors;
                  come = at_first list.0;
                };
              }));
        }

    pub join : AreOfList was.whole.state view wanted (pieces_in name exchanges)
    unfolding found
    join =
        let f = found in
        let come = f.stands.cursor.come in
        let after = binds_after f.stands.cursor.place f.all in
        record {
          size = length f.all;
          binds = map bind_line f.all;
          rest = map bind_line after;
          list =
              subst (λ (o : Option View). Lists was.whole.state o wanted
              (replies.List (length f.all) (map bind_line f.all))) (sym f.began.seen)
              (f.all, f.began.list, refl);
          parts =
              ap (map bind_line) come.parts ∙ map-append bind_line come.front after
              ∙ ap (λ (ls : List BindLine). ls ++ map bind_line after) come.lines;
          whole = λ e. ap (map bind_line) (come.whole e);
        }

    pub next : (line : List ℕ) (count : ℕ) (reply : Reply) (told : List Reply) (new : Scene)
        → command_in_line line ≡ Some (CursorNext name count) → Step rows last line (Some reply) told new
        → IsNext was.whole last.whole view count reply
    next line count reply told new e step =
        let served = served_in last (use_of (command_in_line line)) in
        let o = heard_obeys rows last.whole (command_in_line line) (CursorNext name count) served reply step.mid e
        (hears rows last.whole line served (Some reply) step.mid step.does) in
        (goes_own name view wanted was.whole found.shown found.all found.began last.whole count reply step.mid.cursors
        (pieces_in name exchanges)
        found.stands.later found.stands.cursor o.paces).1
