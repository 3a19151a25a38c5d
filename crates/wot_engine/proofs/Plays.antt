-- The lines of a script, answered one after another.
use Rattle.std.proofs.Common.{◌≡◌, ℕ, List, [], ◌∷◌, ◌++◌, length, Option, Some, None, refl, sym, ap, subst, ◌∙◌}
use Rattle.std.proofs.Common.{append_assoc, arith, inl, inr}
use Rattle.std.proofs.lemmas.List.{append-nil, nil_from_length}
use Rattle.wot_io.specs.Input.{lines_of}
use Rattle.wot_policy.specs.declared.rows.PolicyRows.{PolicyRows}
use Rattle.wot_script.specs.declared.reply.Reply.{Reply}
use Rattle.wot_certd.specs.World.{World}
use Rattle.wot_gen.specs.declared.tally.Tally.{Tally}
use Rattle.wot_gen.specs.Summary.{Tallies, amount_in}
use Rattle.wot_types.specs.Limits.{standard_limits}
use Rattle.wot_cache.specs.State.{empty}
use Rattle.wot_machine.specs.Machine.{Machine, kept}
use Rattle.wot_plain.specs.Session.{Session, watched, session_of}
use Rattle.wot_plain.specs.Entry.{use_of}
use Rattle.wot_plain.specs.Lines.{command_in_line}
use Rattle.wot_command.specs.CommandRun.{Seen}
use Rattle.wot_plain.specs.Scene.{Scene, Step, opening}
use Rattle.wot_machine.specs.Stepped.{Replied}
use Rattle.wot_plain.specs.Transcript.{Run, listed}
use Rattle.wot_plain.specs.Watching as watching
use Rattle.wot_plain.proofs.DirectoryGives.{Goes, goes, over}
use Rattle.wot_laws.proofs.Runs.{Run-append}
use Rattle.wot_engine.specs.Generated.{no_entries}
use Rattle.wot_engine.specs.Played.{Adds, AddsReply, AddsTold, IsPlayed}

-- ---- watch lines

-- all of these are added but the rest
pub record AddsUpTo (first now : Tally) (all rest : List Reply) : Type 0 where
  pub done : List Reply
  pub parts : done ++ rest ≡ all
  pub tells : (reported : List Reply) → Tallies first reported → Tallies now (reported ++ done)

pub adds_first : (tally : Tally) (all : List Reply) → AddsUpTo tally tally all all
adds_first tally all = record {
  done = [];
  parts = refl;
  tells = λ reported t. subst (Tallies tally) (sym (append-nil reported)) t;
}

pub adds_next : (first old now : Tally) (all rest others : List Reply) (line : Reply) → AddsUpTo first old all rest →
    rest ≡ line ∷ others
    → ((reported : List Reply) → Tallies old reported → Tallies now (reported ++ line ∷ [])) → AddsUpTo first now all others
adds_next first old now all rest others line s e add = record {
  done = s.done ++ line ∷ [];
  parts = append_assoc s.done (line ∷ []) others ∙ ap (λ (ls : List Reply). s.done ++ ls) (sym e) ∙ s.parts;
  tells = λ reported t. subst (Tallies now) (append_assoc reported s.done (line ∷ [])) (add (reported ++ s.done) (s.tells reported t));
}

pub adds_last : (first now : Tally) (all rest : List Reply) → AddsUpTo first now all rest → length rest ≡ 0 →
    (reported : List Reply) → Tallies first reported
    → Tallies now (reported ++ all)
adds_last first now all rest s none reported t =
    let whole : s.done ≡ all = sym (append-nil s.done) ∙ ap (λ (ls : List Reply). s.done ++ ls)
    (sym (nil_from_length rest none)) ∙ s.parts in
    subst (λ (ls : List Reply). Tallies now (reported ++ ls)) whole (s.tells reported t)

-- a watch line isn't the amount of an answer
pub nothing_told : (line : Reply) → watching.IsWatchLine line → amount_in line ≡ 0
nothing_told line (inl is) = ap amount_in is.2
nothing_told line (inr is) = ap amount_in is.1

module _ (rows : PolicyRows) where
  -- ---- one line

  -- The reply and the watch lines after it, with a directory whose world is known, are the line's step.
  pub step_over : (line : List ℕ) (old mid new : Session) (before after : World) (faults later : ℕ) (reply : Option
      Reply)
      (reported : List Reply)
      → Replied rows line old (record { world = Some before; faults = faults }) reply mid
      (record { world = Some after; faults = later }) → watching.ReportsWatches mid reported new
      → Step rows (over old before) line reply reported (over new after)
  step_over line old mid new before after faults later reply reported r t =
      let g : Goes rows (Some before) (Some after) before old new line reply reported =
      goes rows (Some before) (Some before) (Some after) before old mid new line (use_of (command_in_line line)) r.given reply
      reported refl tt refl r.served r.step t in
      let same : g.next ≡ after = some_is g.next after (sym g.is_next) in
      subst (λ (w : World). Step rows (over old before) line reply reported (over new w)) same g.step
    where
      some_is : (x y : World) → Some x ≡ Some y → x ≡ y
      some_is x y e = cc

  pub adds_none : (line : List ℕ) (old new : Session) (before after : Seen) (tally : Tally) →
      Replied rows line old before None new after
      → AddsReply rows line old before tally new after tally
  adds_none line old new before after tally replied = record {
    reply = None;
    replied = replied;
    tells = λ replies t. subst (Tallies tally) (sym (append-nil replies)) t;
  }

  -- the reply and the watch lines after it were added
  pub adds_both : (line : List ℕ) (old mid new : Session) (before after : World) (faults later : ℕ)
      (had has total : Tally)
      → AddsReply rows line old (record { world = Some before; faults = faults }) had mid
      (record { world = Some after; faults = later }) has → AddsTold mid has new total
      → Adds rows line (over old before) had (over new after) total
  adds_both line old mid new before after faults later had has total a t = record {
    reply = a.reply;
    reported = t.reported;
    step = step_over line old mid new before after faults later a.reply t.reported a.replied t.reported_are;
    tells = λ replies s. subst (Tallies total) (append_assoc replies (listed a.reply) t.reported)
        (t.tells (replies ++ listed a.reply) (a.tells replies s));
  }

  -- ---- so far

  -- these lines were answered, and the rest of the text is still to come
  pub record Plays (text rest : List ℕ) (scene : Scene) (tally : Tally) : Type 0 where
    pub done : List (List ℕ)
    pub replies : List Reply
    pub lines : lines_of text ≡ done ++ lines_of rest
    pub run : Run rows (opening no_entries) done replies scene
    pub tells : Tallies tally replies

  pub starts : (text : List ℕ) (tally : Tally) → Tallies tally [] → Plays text text (opening no_entries) tally
  starts text tally tells = record { done = []; replies = []; lines = refl; run = (refl, refl); tells = tells }

  -- a fresh machine has answered no line
  pub starts_with : (text : List ℕ) (machine : Machine) (world : World) (tally : Tally) →
      machine.engine ≡ empty standard_limits → machine.cursors ≡ [] → machine.watches ≡ []
      → world ≡ no_entries → Tallies tally [] → Plays text text (over (kept machine) world) tally
  starts_with text machine world tally e k w none tells =
      let same : over (kept machine) world ≡ opening no_entries = λ i. over (watched (session_of (e i) (k i)) (w i))
      (none i) in
      subst (λ (s : Scene). Plays text text s tally) (sym same) (starts text tally tells)

  pub goes_on : (text rest others line : List ℕ) (old new : Scene) (before after : Tally) → Plays text rest old before
      → lines_of rest ≡ line ∷ lines_of others → Adds rows line old before new after → Plays text others new after
  goes_on text rest others line old new before after p first a =
      let here : List Reply = listed a.reply ++ a.reported in
      let one : Run rows old (line ∷ []) (here ++ []) new = (a.reply, a.reported, new, [], a.step, (refl, refl), refl) in
      let both = Run-append rows p.done (line ∷ []) (opening no_entries) old new p.replies (here ++ []) p.run one in
      record {
        done = p.done ++ line ∷ [];
        replies = p.replies ++ here;
        lines = p.lines ∙ ap (λ (x : List (List ℕ)). p.done ++ x) first
            ∙ sym (append_assoc p.done (line ∷ []) (lines_of others));
        run = subst (λ (x : List Reply). Run rows (opening no_entries) (p.done ++ line ∷ []) (p.replies ++ x) new)
            (append-nil here) both;
        tells = a.tells p.replies p.tells;
      }

  pub ends : (text rest : List ℕ) (scene : Scene) (tally : Tally) → Plays text rest scene tally → length rest ≡ 0 →
      IsPlayed rows (lines_of text) tally
  ends text [] scene tally p none = record {
    replies = p.replies;
    reported = record {
      last = scene;
      run = subst (λ (x : List (List ℕ)). Run rows (opening no_entries) x p.replies scene)
          (sym (p.lines ∙ append-nil p.done)) p.run;
    };
    tells = p.tells;
  }
  ends text (x ∷ rest) scene tally p some = absurd (omega (arith, some))
