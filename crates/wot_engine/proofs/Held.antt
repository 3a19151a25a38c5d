-- A run between two lines, with buffered replies: they follow what was written.
use Rattle.std.proofs.Common.{◌≡◌, ◌≢◌, ℕ, ◌<◌, length, drop, List, [], ◌++◌, Option, Some, None, Result, Ok, ◌⊎◌, inl}
use Rattle.std.proofs.Common.{inr, refl, sym, ap, subst, ◌∙◌, append_assoc, arith}
use Rattle.std.proofs.lemmas.List.{append-nil}
use Rattle.std.specs.Prelude.{IfSome}
use Rattle.wot_io.specs.Fill.{Took}
use Rattle.wot_io.specs.Input.{HasNoFeed, lines_of}
use Rattle.wot_io.specs.declared.fault.LinesFault.{LinesFault}
use Rattle.wot_io.specs.declared.lines.Line.TheVariants.{Text, Long, End}
use Rattle.wot_io.specs.Sink.{Becomes, GainsPrefix}
use Rattle.wot_io.specs.ReaderState.{ReaderState}
use Rattle.wot_io.specs.Given as given
use Rattle.wot_io.specs.declared.lines.Line.{Line}
use Rattle.wot_policy.specs.declared.rows.PolicyRows.{PolicyRows}
use Rattle.wot_certd.specs.World.{World}
use Rattle.wot_plain.specs.Session.{Session, beginning}
use Rattle.wot_laws.specs.OneLine.{OneOutcome}
use Rattle.wot_plain.specs.Entry.{MayPut}
use Rattle.wot_plain.specs.Transcript.{octets_of}
use Rattle.wot_engine.specs.RunAsks.{command_by}
use Rattle.wot_engine.specs.Held.{Moves, MovesOf}
use Rattle.wot_engine.specs.Contents.{Contents, OnContents}
use Rattle.wot_engine.specs.Ended.{AnsweredMost, IsBegun, Reached, ReachedWhole}
use Rattle.wot_engine.specs.LineReply.{Replies, use_by}
use Rattle.wot_engine.proofs.Contents.{is_now, uncalled}
use Rattle.wot_engine.proofs.Progress.{Stands, starts, took_on}
use Rattle.wot_engine.proofs.Reached.{puts_nothing, reaches, takes_more}
use Rattle.wot_engine.proofs.LineReplies.{First-here, Stood, cut_by, cut_most, turned, wrote}

-- ---- the buffer

pub moves_all : (written after : Option (List ℕ)) (held left : List ℕ) →
    Becomes written (λ before. before ++ held) after → left ≡ [] → Moves written held after left
moves_all None after held left b none = tt
moves_all (Some before) after held left b none = record {
  more = held;
  written_is = b;
  parts =
      sym (ap (λ (x : List ℕ). held ++ x) none ∙ append-nil held);
}

-- nothing is buffered if the next line isn't available yet
pub nothing_held : (r : Result Line LinesFault) (held out : List ℕ) → HasNoFeed held ⊎ ((r ≡ Ok Text) ⊎ (r ≡ Ok Long)) →
    (r ≡ Ok Text → ⊥) → (r ≡ Ok Long → ⊥) → (HasNoFeed held → out ≡ [])
    → out ≡ []
nothing_held r held out p text long none =
    elim p [ inl no_feed ↦ none no_feed | inr given ↦ elim given [ inl e ↦ absurd (text e) | inr e ↦ absurd (long e) ] ]

some_is : (x y : List ℕ) → Some x ≡ Some y → x ≡ y
some_is x y e = cc

module _ (rows : PolicyRows) where
  -- the replies to the lines read so far are the written octets and the buffered ones
  pub record IsHeld (origin : Option World) (contents : Contents) (held : List ℕ) (taken : ℕ)
      (left written : Option (List ℕ)) (out : List ℕ) (shelf : Option World) (state : Session) : Type 0 where
    pub done : List ℕ
    pub written_is : written ≡ Some (contents.written ++ done)
    pub stands : Stands rows origin contents held taken left (Some ((contents.written ++ done) ++ out)) shelf state

  abbrev pub Held : Option (List ℕ) → Option (List ℕ) → Option World → List ℕ → ℕ → Option (List ℕ) → Option (List ℕ) →
      List ℕ → Option World → Session → Type 0
  Held left0 written0 origin held taken left written out shelf state =
      OnContents left0 written0 origin (λ contents. IsHeld origin contents held taken left written out
      shelf state)

  pub Held-init : (left written : Option (List ℕ)) (origin : Option World) →
      Held left written origin [] 0 left written [] origin beginning
  Held-init left written origin contents known =
      record {
        done = [];
        written_is = known.sink_is ∙ ap (λ (x : List ℕ). Some x) (sym (append-nil contents.written));
        stands = starts rows origin contents left (Some ((contents.written ++ []) ++ [])) origin known.source_is
            (ap (λ (x : List ℕ). Some x) (append-nil (contents.written ++ []) ∙ append-nil contents.written)) (is_now
            origin contents known.shelf_is);
      }

  pub Held-moves : (left0 written0 : Option (List ℕ)) (origin : Option World) (held : List ℕ) (taken : ℕ)
      (left written : Option (List ℕ)) (out : List ℕ) (shelf : Option World) (state : Session) (after : Option (List ℕ))
      (rest : List ℕ)
      → Held left0 written0 origin held taken left written out shelf state → Moves written out after rest →
      Held left0 written0 origin held taken left after rest shelf state
  Held-moves left0 written0 origin held taken left written out shelf state after rest there m contents known =
      let h = there contents known in
      let m' : MovesOf (contents.written ++ h.done) out after rest = subst (λ (w : Option (List ℕ)). Moves w out after
      rest)
      h.written_is m in
      let same : (contents.written ++ h.done) ++ out ≡ (contents.written ++ (h.done ++ m'.more)) ++ rest =
      ap (λ (x : List ℕ). (contents.written ++ h.done) ++ x) m'.parts ∙ simp append_assoc in
      record {
        done = h.done ++ m'.more;
        written_is = m'.written_is ∙ ap (λ (x : List ℕ). Some x) (append_assoc contents.written h.done m'.more);
        stands = subst (λ (x : List ℕ). Stands rows origin contents held taken left (Some x) shelf state) same
            h.stands;
      }

  -- if nothing is buffered
  pub Held-none : (left0 written0 : Option (List ℕ)) (origin : Option World) (held : List ℕ) (taken : ℕ)
      (left written : Option (List ℕ)) (out : List ℕ) (shelf : Option World) (state : Session)
      → Held left0 written0 origin held taken left written out shelf state → out ≡ [] →
      Stood rows left0 written0 origin held taken left written shelf state
  Held-none left0 written0 origin held taken left written out shelf state there none contents known =
      let h = there contents known in
      let same : Some ((contents.written ++ h.done) ++ out) ≡ written =
      ap (λ (x : List ℕ). Some ((contents.written ++ h.done) ++ x)) none ∙ ap (λ (x : List ℕ). Some x)
      (append-nil (contents.written ++ h.done)) ∙ sym h.written_is in
      subst (λ (w : Option (List ℕ)). Stands rows origin contents held taken left w shelf state) same
      h.stands

  -- a line was read, and its reply is appended to the buffer
  pub Held-reply : (left0 written0 : Option (List ℕ)) (origin : Option World) (old : ReaderState)
      (left written : Option (List ℕ)) (out : List ℕ) (shelf : Option World) (state : Session) (new : ReaderState)
      (left' : Option (List ℕ)) (shelf' : Option World) (state' : Session) (line : Line) (octets more : List ℕ)
      → Held left0 written0 origin old.held old.taken left written out shelf state →
      given.ReturnsNext line old left new left' → Replies rows line new.text state shelf octets state' shelf' →
      more ≡ out ++ octets
      → Held left0 written0 origin new.held new.taken left' written more shelf' state'
  Held-reply left0 written0 origin old left written out shelf state new left' shelf' state' line octets more there a r
      behind contents known =
      let h = there contents known in
      let t = turned rows origin contents old left (Some ((contents.written ++ h.done) ++ out)) shelf state new left'
      shelf' state' line octets (uncalled origin contents known.shelf_is) h.stands a r in
      let now : (contents.written ++ h.done) ++ out ≡ contents.written ++ octets_of h.stands.replies = some_is
      ((contents.written ++ h.done) ++ out)
      (contents.written ++ octets_of h.stands.replies) h.stands.written_is in
      let same : (contents.written ++ h.done) ++ more ≡ (contents.written ++ octets_of h.stands.replies) ++ octets =
      ap (λ (x : List ℕ). (contents.written ++ h.done) ++ x) behind ∙ sym (append_assoc (contents.written ++ h.done) out
      octets)
      ∙ ap (λ (x : List ℕ). x ++ octets) now in
      record {
        done = h.done;
        written_is = h.written_is;
        stands = (wrote rows origin contents old.held old.taken left (Some ((contents.written ++ h.done) ++ out)) shelf
            state (command_by line new.text) new.held new.taken left' octets shelf' state'
            (Some ((contents.written ++ h.done) ++ more)) h.stands t (ap (λ (x : List ℕ). Some x) same)).0;
      }

  -- the whole buffer was written
  pub Held-written : (left0 written0 : Option (List ℕ)) (origin : Option World) (held : List ℕ) (taken : ℕ)
      (left written : Option (List ℕ)) (out : List ℕ) (shelf : Option World) (state : Session) (after : Option (List ℕ))
      → Held left0 written0 origin held taken left written out shelf state → Becomes written (λ old. old ++ out) after →
      Stood rows left0 written0 origin held taken left after shelf state
  Held-written left0 written0 origin held taken left written out shelf state after h b =
      Held-none left0 written0 origin held taken left after [] shelf state
      (Held-moves left0 written0 origin held taken left written out shelf state after [] h
      (moves_all written after out [] b refl)) refl

  -- what was written is a prefix, whatever is buffered
  pub Held-begun : OneOutcome rows → (left0 written0 : Option (List ℕ)) (origin : Option World) (held : List ℕ)
      (taken : ℕ) (left written : Option (List ℕ)) (out : List ℕ) (shelf : Option World) (state : Session)
      → Held left0 written0 origin held taken left written out shelf state →
      OnContents left0 written0 origin (λ contents. IsBegun rows contents written)
  Held-begun law left0 written0 origin held taken left written out shelf state there contents known =
      let h = there contents known in
      takes_more rows origin contents law held taken left shelf state h.done out 0 written h.stands
      (omega arith)
      (h.written_is ∙ ap (λ (x : List ℕ). Some x) (sym (append-nil (contents.written ++ h.done))))

  -- what was written is a prefix, if a write of the buffer was cut short
  pub Held-cut : OneOutcome rows → (left0 written0 : Option (List ℕ)) (origin : Option World) (held : List ℕ)
      (taken : ℕ) (left written : Option (List ℕ)) (out : List ℕ) (shelf : Option World) (state : Session)
      (after : Option (List ℕ))
      → Held left0 written0 origin held taken left written out shelf state →
      IfSome written (λ old. GainsPrefix old after out)
      → OnContents left0 written0 origin (λ contents. IsBegun rows contents after)
  Held-cut law left0 written0 origin held taken left written out shelf state after there g contents known =
      let h = there contents known in
      let g' : GainsPrefix (contents.written ++ h.done) after out =
      subst (λ (w : Option (List ℕ)). IfSome w (λ old. GainsPrefix old after out)) h.written_is g in
      takes_more rows origin contents law held taken left shelf state h.done out g'.0 after h.stands
      (omega (arith, g'.1)) g'.2

  -- all complete lines of 2 ^ 30 octets are answered, even if more was read
  pub Held-most : OneOutcome rows → (left0 written0 : Option (List ℕ)) (origin : Option World) (held : List ℕ)
      (taken : ℕ) (left written : Option (List ℕ)) (out : List ℕ) (shelf : Option World) (state : Session)
      (after left' : Option (List ℕ)) (taken' : ℕ)
      → Held left0 written0 origin held taken left written out shelf state →
      IfSome written (λ old. GainsPrefix old after out) → Took left taken left' taken'
      → OnContents left0 written0 origin (λ contents. AnsweredMost rows contents left' after → ⊥)
  Held-most law left0 written0 origin held taken left written out shelf state after left' taken' there g t contents
      known =
      let h = there contents known in
      let g' : GainsPrefix (contents.written ++ h.done) after out =
      subst (λ (w : Option (List ℕ)). IfSome w (λ old. GainsPrefix old after out)) h.written_is g in
      let s = took_on rows origin contents held taken left (Some ((contents.written ++ h.done) ++ out)) shelf state
      left' taken' h.stands t in
      cut_most rows law origin contents (held ++ t.gone) taken' left' shelf state h.done out g'.0 after s g'.1
      g'.2

  -- how far the run has come, whatever is buffered
  pub Held-reached : (left0 written0 : Option (List ℕ)) (origin : Option World) (held : List ℕ) (taken : ℕ)
      (left written : Option (List ℕ)) (out : List ℕ) (shelf : Option World) (state : Session)
      → Held left0 written0 origin held taken left written out shelf state →
      OnContents left0 written0 origin (λ contents. Reached rows contents written origin
      shelf)
  Held-reached left0 written0 origin held taken left written out shelf state there contents known =
      let h = there contents known in
      reaches rows origin contents held taken left shelf state h.done out 0 written shelf h.stands
      (h.written_is ∙ ap (λ (x : List ℕ). Some x) (sym (append-nil (contents.written ++ h.done))))
      (puts_nothing rows origin contents shelf h.stands.now state (drop (length h.stands.done) (lines_of
      contents.input))
      h.stands.is_now)

  -- how far the run has come if a write of the buffer was cut short
  pub Held-reached_cut : (left0 written0 : Option (List ℕ)) (origin : Option World) (held : List ℕ) (taken : ℕ)
      (left written : Option (List ℕ)) (out : List ℕ) (shelf : Option World) (state : Session) (after : Option (List ℕ))
      → Held left0 written0 origin held taken left written out shelf state →
      IfSome written (λ old. GainsPrefix old after out)
      → OnContents left0 written0 origin (λ contents. Reached rows contents after origin
      shelf)
  Held-reached_cut left0 written0 origin held taken left written out shelf state after there g contents known =
      let h = there contents known in
      let g' : GainsPrefix (contents.written ++ h.done) after out =
      subst (λ (w : Option (List ℕ)). IfSome w (λ old. GainsPrefix old after out)) h.written_is g in
      reaches rows origin contents held taken left shelf state h.done out g'.0 after shelf h.stands g'.2
      (puts_nothing rows origin contents shelf h.stands.now state (drop (length h.stands.done) (lines_of
      contents.input))
      h.stands.is_now)

  -- how far the run has come if memory ran out for a line
  pub Held-reached_next : (left0 written0 : Option (List ℕ)) (origin : Option World) (old : ReaderState)
      (left written : Option (List ℕ)) (out : List ℕ) (shelf : Option World) (state : Session) (after : Option (List ℕ))
      (new : ReaderState) (left' : Option (List ℕ)) (shelf' : Option World) (line : Line)
      → Held left0 written0 origin old.held old.taken left written out shelf state →
      IfSome written (λ old. GainsPrefix old after out)
      → given.ReturnsNext line old left new left' → line ≢ End → MayPut state.state (use_by line new.text) shelf shelf'
      → OnContents left0 written0 origin (λ contents. Reached rows contents after origin
      shelf')
  Held-reached_next left0 written0 origin old left written out shelf state after new left' shelf' line there g a some m
      contents known =
      let h = there contents known in
      let g' : GainsPrefix (contents.written ++ h.done) after out =
      subst (λ (w : Option (List ℕ)). IfSome w (λ old. GainsPrefix old after out)) h.written_is g in
      let cut = cut_by rows origin contents old left (Some ((contents.written ++ h.done) ++ out)) shelf state new left'
      shelf' line h.stands a some m in
      reaches rows origin contents old.held old.taken left shelf state h.done out g'.0 after shelf' h.stands
      g'.2 cut.puts

  -- the buffer was written after memory ran out for a line
  pub Held-first : (left0 written0 : Option (List ℕ)) (origin : Option World) (old : ReaderState)
      (left written : Option (List ℕ)) (out : List ℕ) (shelf : Option World) (state : Session) (after : Option (List ℕ))
      (new : ReaderState) (left' : Option (List ℕ)) (shelf' : Option World) (line : Line)
      → Held left0 written0 origin old.held old.taken left written out shelf state →
      Becomes written (λ old. old ++ out) after
      → given.ReturnsNext line old left new left' → line ≢ End → MayPut state.state (use_by line new.text) shelf shelf'
      →
      length new.held < 65536
      → OnContents left0 written0 origin (λ contents. ReachedWhole rows contents left' after origin
      shelf')
  Held-first left0 written0 origin old left written out shelf state after new left' shelf' line h b a some m few =
      First-here rows left0 written0 origin old left after shelf state new left' shelf' line
      (Held-written left0 written0 origin old.held old.taken left written out shelf state after h b) a some m few
