-- One line of a run after another, if input, output and certificate directory are known.
use Rattle.std.proofs.Common.{◌≡◌, ◌≢◌, inl, inr, ℕ, ◌+◌, ◌<◌, ◌^◌, List, [], ◌++◌, length, take, drop, Option, Some}
use Rattle.std.proofs.Common.{None}
use Rattle.std.proofs.Common.{refl, sym, ap, subst, ◌∙◌, append_assoc, arith, length-append}
use Rattle.std.proofs.lemmas.List.{append_cancel_left, append_cancel_right, length-take}
use Rattle.std.proofs.lemmas.Grind.{flat_map-append}
use Rattle.wot_io.specs.Input.{lines_of, whole_lines_of}
use Rattle.wot_io.specs.Fill.{TakesLineOf, Stops}
use Rattle.wot_io.specs.ReaderState.{ReaderState}
use Rattle.wot_io.specs.Given as given
use Rattle.wot_io.specs.declared.lines.Line.{Line}
use Rattle.wot_io.specs.declared.lines.Line.TheVariants.{Text, Long, End}
use Rattle.wot_script.specs.declared.command.Command.{Command}
use Rattle.wot_script.specs.declared.reply.Reply.{Reply}
use Rattle.wot_script.specs.Replies.{reply_text}
use Rattle.wot_certd.specs.World.{World}
use Rattle.wot_plain.specs.Session.{Session, beginning}
use Rattle.wot_plain.specs.Entry.{IsServed, MayPut, Use, unused, use_of}
use Rattle.wot_laws.specs.OneLine.{OneOutcome}
use Rattle.wot_plain.specs.Lines.{command_in_line}
use Rattle.wot_plain.specs.LineStep.{LineStep}
use Rattle.wot_plain.specs.Scene.{Step, opening}
use Rattle.wot_plain.specs.Served.{Served}
use Rattle.wot_plain.specs.Watching.{ReportsWatches}
use Rattle.wot_plain.specs.Transcript.{Run, IsNow, listed, octets_of}
use Rattle.wot_engine.specs.Ended.{AnsweredMost, FinishedMost, FinishedTaken, Reached, ReachedWhole, IsBegun, IsLeft}
use Rattle.wot_engine.specs.Ended.{IsTranscribed}
use Rattle.wot_plain.proofs.DirectoryGives.{IsUncalled, goes, may_call, over}
use Rattle.wot_laws.proofs.Runs.{Run-one, Run-prefix}
use Rattle.wot_plain.proofs.StepsByKind.{heard_long}
use Rattle.wot_engine.specs.RunAsks.{command_by}
use Rattle.wot_engine.specs.Contents.{Contents, OnContents}
use Rattle.wot_engine.specs.LineReply.{Replies, use_by}
use Rattle.wot_engine.proofs.Contents.{is_now, uncalled}
use Rattle.wot_engine.proofs.Progress.{Stands, StandsOn, starts, goes_on, comes_next}
use Rattle.wot_engine.proofs.Reached.{IsCutShort, so_far, cut_short, at_end, leaves, at_first, at_stop, at_most}
use Rattle.wot_engine.proofs.Reached.{puts_nothing, reaches_whole}
use Rattle.wot_policy.specs.declared.rows.PolicyRows.{PolicyRows}

module _ (rows : PolicyRows) where
  abbrev pub Stood : Option (List ℕ) → Option (List ℕ) → Option World → List ℕ → ℕ → Option (List ℕ) → Option (List ℕ) →
      Option World → Session → Type 0
  Stood left0 written0 origin held taken left written shelf state =
      OnContents left0 written0 origin (λ contents. Stands rows origin contents held taken left written
      shelf state)

  pub Stood-init : (left written : Option (List ℕ)) (origin : Option World) →
      Stood left written origin [] 0 left written origin beginning
  Stood-init left written origin contents known =
      starts rows origin contents left written origin known.source_is known.sink_is (is_now origin contents
      known.shelf_is)

  -- a line was read: its command, its step, and its reply in the buffer
  pub record Turned (origin : Option World) (contents : Contents) (held : List ℕ) (taken : ℕ)
      (left written : Option (List ℕ)) (shelf : Option World) (state : Session)
      (stands : Stands rows origin contents held taken left written shelf state) (command : Option Command)
      (held' : List ℕ) (taken' : ℕ) (left' : Option (List ℕ)) (octets : List ℕ) (shelf' : Option World)
      (state' : Session) : Type 0 where
    pub line : List ℕ
    pub heard_is : command_in_line line ≡ command
    pub gives : TakesLineOf held stands.rest taken held' left' taken' line
    pub reply : Option Reply
    pub reported : List Reply
    pub next : World
    pub is_next : IsNow origin shelf' next
    pub step : Step rows (over state stands.now) line reply reported (over state' next)
    pub octets_are : octets ≡ octets_of (listed reply ++ reported)

  -- the line that was read, and what it was answered
  turned_by : (origin : Option World) (contents : Contents) (old : ReaderState)
      (left written : Option (List ℕ)) (shelf : Option World) (state : Session) (new : ReaderState)
      (left' : Option (List ℕ)) (shelf' : Option World) (state' : Session) (line : List ℕ) (command : Option Command)
      (use_ : Use) (what : Served) (reply : Option Reply) (mid : Session) (reported : List Reply) (octets : List ℕ)
      → IsUncalled origin contents.input →
      (s : Stands rows origin contents old.held old.taken left written shelf state) →
      TakesLineOf old.held s.rest old.taken new.held left' new.taken line
      → command_in_line line ≡ command → use_of command ≡ use_ → IsServed state.state use_ shelf what shelf' →
      LineStep rows state line what reply mid → ReportsWatches mid reported state'
      → octets ≡ octets_of (listed reply ++ reported)
      → Turned origin contents old.held old.taken left written shelf state s command new.held new.taken left'
      octets shelf' state'
  turned_by origin contents old left written shelf state new left' shelf' state' line command use_ what reply
      mid reported octets uncalled s g is e served does tells same =
      let next = comes_next rows origin contents old.held old.taken left written shelf state new.held
      new.taken left' line s g in
      let went = goes rows origin shelf shelf' s.now state mid state' line use_ what reply reported (ap use_of is ∙ e)
      (may_call origin contents.input s.done line (lines_of (new.held ++ g.rest)) next uncalled) s.is_now served does
      tells in
      record {
        line = line;
        heard_is = is;
        gives = g;
        reply = reply;
        reported = reported;
        next = went.next;
        is_next = went.is_next;
        step = went.step;
        octets_are = same;
      }

  pub turned : (origin : Option World) (contents : Contents) (old : ReaderState)
      (left written : Option (List ℕ)) (shelf : Option World) (state : Session) (new : ReaderState)
      (left' : Option (List ℕ)) (shelf' : Option World) (state' : Session) (line : Line) (octets : List ℕ)
      → IsUncalled origin contents.input →
      (s : Stands rows origin contents old.held old.taken left written shelf state) →
      given.ReturnsNext line old left new left' → Replies rows line new.text state shelf octets state' shelf'
      → Turned origin contents old.held old.taken left written shelf state s (command_by line new.text)
      new.held new.taken left' octets shelf' state'
  turned origin contents old left written shelf state new left' shelf' state' Text octets uncalled s a r =
      let a' = rw s.left_is at a in
      turned_by origin contents old left written shelf state new left' shelf' state' new.text
      (command_in_line new.text) (use_of (command_in_line new.text)) r.given r.reply r.mid r.reported octets uncalled s a'.0 refl refl r.served
      r.does r.tells r.octets_are
  turned origin contents old left written shelf state new left' shelf' state' Long octets uncalled s a r =
      let a' = rw s.left_is at a in
      turned_by origin contents old left written shelf state new left' shelf' state' a'.0 None unused r.given
      r.reply r.mid r.reported octets uncalled s a'.2 (heard_long a'.0 a'.1) refl r.served (r.does a'.0 a'.1)
      r.tells r.octets_are
  turned origin contents old left written shelf state new left' shelf' state' End octets uncalled s a r =
      absurd r.does

  -- the reply that was due is written
  pub wrote : (origin : Option World) (contents : Contents) (held : List ℕ) (taken : ℕ)
      (left written : Option (List ℕ)) (shelf : Option World) (state : Session) (command : Option Command)
      (held' : List ℕ) (taken' : ℕ) (left' : Option (List ℕ)) (octets : List ℕ) (shelf' : Option World)
      (state' : Session) (written' : Option (List ℕ))
      → (s : Stands rows origin contents held taken left written shelf state)
      → (t : Turned origin contents held taken left written shelf state s command held' taken' left' octets
      shelf' state') → written' ≡ Some ((contents.written ++ octets_of s.replies) ++ octets)
      → StandsOn rows origin contents s.done t.line t.next held' taken' left' written' shelf' state'
  wrote origin contents held taken left written shelf state command held' taken' left' octets shelf' state'
      written' s t w =
      goes_on rows origin contents held taken left written shelf state held' taken' left' written'
      shelf' state' t.line t.reply t.reported s t.gives t.next t.is_next t.step
      (w ∙ ap (λ (x : List ℕ). Some ((contents.written ++ octets_of s.replies) ++ x)) t.octets_are)

  pub Begun-here : OneOutcome rows → (left0 written0 : Option (List ℕ)) (origin : Option World) (held : List ℕ)
      (taken : ℕ) (left written : Option (List ℕ)) (shelf : Option World) (state : Session) →
      Stood left0 written0 origin held taken left written shelf state
      → OnContents left0 written0 origin (λ contents. IsBegun rows contents written)
  Begun-here law left0 written0 origin held taken left written shelf state there contents known =
      let s = there contents known in
      so_far rows origin contents law
      held taken left written shelf state s

  -- the last line that was read got no reply
  pub cut_by : (origin : Option World) (contents : Contents) (old : ReaderState)
      (left written : Option (List ℕ)) (shelf : Option World) (state : Session) (new : ReaderState)
      (left' : Option (List ℕ)) (shelf' : Option World) (line : Line)
      → (s : Stands rows origin contents old.held old.taken left written shelf state) →
      given.ReturnsNext line old left new left' → line ≢ End
      → MayPut state.state (use_by line new.text) shelf shelf'
      → IsCutShort rows origin contents (drop (length s.done) (lines_of contents.input)) (over state s.now) new.held
      left' shelf'
  cut_by origin contents old left written shelf state new left' shelf' Text s a some m =
      let a' = rw s.left_is at a in
      cut_short rows origin contents old.held old.taken left written shelf state new.held new.taken left'
      new.text (use_of (command_in_line new.text)) shelf' s a'.0 refl m
  cut_by origin contents old left written shelf state new left' shelf' Long s a some m =
      let a' = rw s.left_is at a in
      cut_short rows origin contents old.held old.taken left written shelf state new.held new.taken left' a'.0
      unused shelf' s a'.2 (ap use_of (heard_long a'.0 a'.1)) m
  cut_by origin contents old left written shelf state new left' shelf' End s a some m = absurd (some refl)

  pub First-here : (left0 written0 : Option (List ℕ)) (origin : Option World) (old : ReaderState)
      (left written : Option (List ℕ)) (shelf : Option World) (state : Session) (new : ReaderState)
      (left' : Option (List ℕ)) (shelf' : Option World) (line : Line)
      → Stood left0 written0 origin old.held old.taken left written shelf state →
      given.ReturnsNext line old left new left' → line ≢ End
      → MayPut state.state (use_by line new.text) shelf shelf' → length new.held < 65536
      → OnContents left0 written0 origin (λ contents. ReachedWhole rows contents left' written origin
      shelf')
  First-here left0 written0 origin old left written shelf state new left' shelf' line there a some m few
      contents known =
      let s = there contents known in
      let cut = cut_by origin contents old left written shelf state new left' shelf' line s a some m in
      at_first rows origin contents old.held old.taken left written shelf state left' shelf' s
      (inr (cut.next few)) cut.puts

  pub First-reached : (left0 written0 : Option (List ℕ)) (origin : Option World) (source written : Option (List ℕ))
      (shelf' : Option World)
      → OnContents left0 written0 origin (λ contents. ReachedWhole rows contents source written origin
      shelf')
      → OnContents left0 written0 origin (λ contents. Reached rows contents written origin
      shelf')
  First-reached left0 written0 origin source written shelf' there contents known =
      let r = there contents known in
      reaches_whole rows origin contents source written shelf' r

  pub Answered-end : (left0 written0 : Option (List ℕ)) (origin : Option World) (old : ReaderState)
      (left written : Option (List ℕ)) (shelf : Option World) (state : Session) (new : ReaderState)
      (left' : Option (List ℕ))
      → Stood left0 written0 origin old.held old.taken left written shelf state → given.ReturnsNext End old left new
      left'
      → OnContents left0 written0 origin (λ contents. IsTranscribed rows contents left' written)
  Answered-end left0 written0 origin old left written shelf state new left' there e contents known =
      let s = there contents known in
      let e' = rw s.left_is at e in
      at_end rows origin contents old.held old.taken left written shelf state left' s e'.0.0 e'.0.1 e'.0.3

  pub Left-end : (left0 written0 : Option (List ℕ)) (origin : Option World) (old : ReaderState)
      (left written : Option (List ℕ)) (shelf : Option World) (state : Session) (new : ReaderState)
      (left' : Option (List ℕ))
      → Stood left0 written0 origin old.held old.taken left written shelf state → given.ReturnsNext End old left new
      left'
      → OnContents left0 written0 origin (λ contents. IsLeft rows contents origin shelf)
  Left-end left0 written0 origin old left written shelf state new left' there e contents known =
      let s = there contents known in
      let e' = rw s.left_is at e in
      leaves rows origin contents old.held old.taken left written shelf state s e'.0.0 e'.0.1

  pub Answered-stop : (left0 written0 : Option (List ℕ)) (origin : Option World) (held : List ℕ) (taken : ℕ)
      (left written : Option (List ℕ)) (shelf : Option World) (state : Session) (left' : Option (List ℕ)) (taken' : ℕ)
      → Stood left0 written0 origin held taken left written shelf state → Stops held left taken left' taken'
      → OnContents left0 written0 origin (λ contents. FinishedTaken rows contents left' written origin
      shelf × (taken' ≡ 2 ^ 30 → FinishedMost rows contents left' written origin shelf))
  Answered-stop left0 written0 origin held taken left written shelf state left' taken' there t contents known =
      let s = there contents known in
      let t' = rw s.left_is at t in (
        at_stop rows origin contents held taken left written shelf state left' taken' s t',
        λ n. at_most rows origin contents held taken left written shelf state left' taken' s t' n,
      )

  some-is : (x y : List ℕ) → Some x ≡ Some y → x ≡ y
  some-is x y e = cc

  cut_size : (before replies reply prefix others : List ℕ) (n : ℕ) → n < length reply →
      Some ((before ++ replies) ++ take n reply) ≡ Some (before ++ ((replies ++ reply) ++ others)) → ⊥
  cut_size before replies reply prefix others n lt e =
      let f : length ((before ++ replies) ++ take n reply) ≡ length (before ++ ((replies ++ reply) ++ others)) =
      ap length (some-is ((before ++ replies) ++ take n reply) (before ++ ((replies ++ reply) ++ others)) e) in
      absurd (omega (
        arith,
        lt,
        f,
        length-append (before ++ replies) (take n reply),
        length-append before replies,
        length-append before ((replies ++ reply) ++ others),
        length-append (replies ++ reply) others,
        length-append replies reply,
        length-take n reply,
      ))

  -- if a reply was cut short, not all replies were written
  pub cut_most : OneOutcome rows → (origin : Option World) (contents : Contents) (held : List ℕ) (taken : ℕ)
      (left : Option (List ℕ)) (shelf : Option World) (state : Session) (replies reply : List ℕ) (n : ℕ)
      (written : Option (List ℕ))
      → (s : Stands rows origin contents held taken left (Some ((contents.written ++ replies) ++ reply)) shelf state) →
      n < length reply → written ≡ Some ((contents.written ++ replies) ++ take n reply) →
      AnsweredMost rows contents left written → ⊥
  cut_most law origin contents held taken left shelf state replies reply n written s lt w a =
      let rests : s.rest ≡ a.taken.rest = some-is s.rest a.taken.rest (sym s.left_is ∙ a.taken.left_is) in
      let size : taken ≡ 2 ^ 30 = omega (
        arith,
        s.count,
        a.size,
        ap length rests,
        ap length a.taken.input_is,
        length-append a.octets a.taken.rest,
      ) in
      let same : contents.written ++ octets_of s.replies ≡ contents.written ++ (replies ++ reply) = some-is
      (contents.written ++ octets_of s.replies)
      (contents.written ++ (replies ++ reply)) (sym s.written_is ∙ ap (λ (x : List ℕ). Some x)
      (append_assoc contents.written replies reply)) in
      let all : octets_of s.replies ≡ replies ++ reply = append_cancel_left contents.written (octets_of s.replies)
      (replies ++ reply) same in
      elim s.lines [
        | inl prefix ↦
            let parts : a.octets ++ a.taken.rest ≡ (s.gone ++ held) ++ a.taken.rest = sym a.taken.input_is ∙ s.parts
            ∙ sym (append_assoc s.gone held s.rest) ∙ ap (λ (x : List ℕ). (s.gone ++ held) ++ x) rests in
            let octets : a.octets ≡ s.gone ++ held = append_cancel_right a.octets (s.gone ++ held) a.taken.rest parts in
            let lines : whole_lines_of a.octets ≡ s.done ++ whole_lines_of held = ap whole_lines_of octets
            ∙ prefix.whole held in
            let run : Run rows (opening contents.world) (s.done ++ whole_lines_of held) a.answered.replies
            a.answered.reported.last =
            subst (λ (ls : List (List ℕ)). Run rows (opening contents.world) ls a.answered.replies a.answered.reported.last)
            lines a.answered.reported.run in
            let first = Run-prefix rows s.done (whole_lines_of held) (opening contents.world) a.answered.replies
            a.answered.reported.last run in
            let one = Run-one rows law s.done (opening contents.world) tt first.0 s.replies first.1 (over state s.now)
            first.3
            s.run in
            let whole : octets_of a.answered.replies ≡ (replies ++ reply) ++ octets_of first.2 =
            ap octets_of first.4 ∙ flat_map-append reply_text first.0 first.2
            ∙ ap (λ (x : List ℕ). x ++ octets_of first.2) (ap octets_of one.0 ∙ all) in
            cut_size contents.written replies reply [] (octets_of first.2) n lt (sym w ∙ a.answered.written
            ∙ ap (λ (x : List ℕ). Some (contents.written ++ x)) whole)
        | inr ended ↦ absurd (omega (arith, ended.0, size))
      ]

  -- when 2 ^ 30 octets were read
  most_size : (origin : Option World) (contents : Contents) (held : List ℕ) (taken : ℕ)
      (left written : Option (List ℕ)) (shelf : Option World) (state : Session) (rest : List ℕ)
      (left' written' : Option (List ℕ)) (taken' : ℕ)
      → (s : Stands rows origin contents held taken left written shelf state) → left' ≡ Some rest →
      taken' + length rest ≡ taken + length s.rest → AnsweredMost rows contents left' written' →
      taken' ≡ 2 ^ 30
  most_size origin contents held taken left written shelf state rest left' written' taken' s e n a =
      let rests : rest ≡ a.taken.rest = some-is rest a.taken.rest (sym e ∙ a.taken.left_is) in
      omega (
        arith,
        n,
        s.count,
        a.size,
        ap length rests,
        ap length a.taken.input_is,
        length-append a.octets a.taken.rest,
      )

  pub Most-end : (left0 written0 : Option (List ℕ)) (origin : Option World) (old : ReaderState)
      (left written : Option (List ℕ)) (shelf : Option World) (state : Session) (new : ReaderState)
      (left' : Option (List ℕ))
      → Stood left0 written0 origin old.held old.taken left written shelf state → given.ReturnsNext End old left new
      left' →
      OnContents left0 written0 origin (λ contents. AnsweredMost rows contents left' written → ⊥)
  Most-end left0 written0 origin old left written shelf state new left' there e contents known a =
      let s = there contents known in
      let e' = rw s.left_is at e in
      absurd (omega (
        arith,
        most_size origin contents old.held old.taken left written shelf state [] left'
            written old.taken s e'.0.3 (ap (λ (x : List ℕ). old.taken + length x) (sym e'.0.1)) a,
        e'.1,
        e'.2,
      ))

  pub Most-stop : (left0 written0 : Option (List ℕ)) (origin : Option World) (held : List ℕ) (taken : ℕ)
      (left written : Option (List ℕ)) (shelf : Option World) (state : Session) (left' : Option (List ℕ)) (taken' : ℕ)
      → Stood left0 written0 origin held taken left written shelf state → Stops held left taken left' taken' →
      taken' < 2 ^ 30 → OnContents left0 written0 origin (λ contents. AnsweredMost rows contents
      left' written → ⊥)
  Most-stop left0 written0 origin held taken left written shelf state left' taken' there t lt contents known a =
      let s = there contents known in
      let t' = rw s.left_is at t in
      absurd (omega (
        arith,
        most_size origin contents held taken left written shelf state t'.rest left'
            written taken' s t'.left_is t'.count a,
        lt,
      ))

  -- if nothing was read, whatever was written
  pub Most-untouched : (left0 written0 : Option (List ℕ)) (origin : Option World) (written : Option (List ℕ)) →
      OnContents left0 written0 origin (λ contents. AnsweredMost rows contents left0 written → ⊥)
  Most-untouched left0 written0 origin written contents known a =
      let same : contents.input ≡ a.taken.rest = some-is contents.input a.taken.rest (sym known.source_is ∙
      a.taken.left_is) in
      absurd (omega (arith, a.size, ap length same, ap length a.taken.input_is, length-append a.octets a.taken.rest))

  -- if nothing was read and nothing written
  pub Begun-nothing : OneOutcome rows → (left0 written0 : Option (List ℕ)) (origin : Option World) →
      OnContents left0 written0 origin (λ contents. IsBegun rows contents written0)
  Begun-nothing law left0 written0 origin = Begun-here law left0 written0 origin [] 0 left0 written0 origin beginning
      (Stood-init left0 written0 origin)

  pub First-nothing : (left0 written0 : Option (List ℕ)) (origin : Option World) →
      OnContents left0 written0 origin (λ contents. ReachedWhole rows contents left0 written0 origin
      origin)
  First-nothing left0 written0 origin contents known =
      let s = starts rows origin contents left0 written0 origin known.source_is known.sink_is (is_now origin contents
      known.shelf_is) in
      at_first rows origin contents [] 0 left0 written0 origin beginning left0 origin s (inl known.source_is)
      (puts_nothing rows origin contents origin s.now beginning (drop (length s.done) (lines_of contents.input))
      s.is_now)

  pub Reached-nothing : (left0 written0 : Option (List ℕ)) (origin : Option World) →
      OnContents left0 written0 origin (λ contents. Reached rows contents written0 origin
      origin)
  Reached-nothing left0 written0 origin = First-reached left0 written0 origin left0 written0 origin
      (First-nothing left0 written0 origin)
