-- What a run that stands between two lines has done: what was answered, what was written, and what the directory has.
use Rattle.std.proofs.Common.{◌≡◌, ◌⊎◌, inl, inr, ℕ, ◌+◌, ◌<◌, ◌≤◌, ◌^◌, List, [], ◌∷◌, ◌++◌, length, take, drop}
use Rattle.std.proofs.Common.{Option, Some, None, refl, sym, ap, subst, ◌∙◌, append_assoc, arith, length-append}
use Rattle.std.proofs.lemmas.List.{append-nil, take_at, take-append-le, append_cancel_left}
use Rattle.std.proofs.Math.Seq.{drop-append_seam, take-append-add}
use Rattle.std.proofs.lemmas.Grind.{flat_map-append}
use Rattle.wot_io.specs.Input.{lines_of, whole_lines_of, HasNoFeed}
use Rattle.wot_io.specs.Fill.{TakesLineOf, StopsOf}
use Rattle.wot_script.specs.declared.reply.Reply.{Reply}
use Rattle.wot_script.specs.Replies.{reply_text}
use Rattle.wot_certd.specs.World.{World}
use Rattle.wot_plain.specs.Session.{Session}
use Rattle.wot_laws.specs.OneLine.{OneOutcome}
use Rattle.wot_plain.specs.Scene.{Scene, opening}
use Rattle.wot_plain.specs.Entry.{MayPut, MayPutIn, Use, use_of}
use Rattle.wot_plain.specs.Lines.{command_in_line}
use Rattle.wot_plain.specs.Transcript.{Run, RepliesTo, IsNow, octets_of}
use Rattle.wot_engine.specs.Contents.{Contents}
use Rattle.wot_engine.specs.Ended.{Finished, FinishedMost, FinishedTaken, IsBegun, IsLastTaken, IsLeft, IsTranscribed}
use Rattle.wot_engine.specs.Ended.{MayPutNext, Reached, ReachedWhole}
use Rattle.wot_engine.specs.Source.{IsTaken}
use Rattle.wot_plain.proofs.DirectoryGives.{over}
use Rattle.wot_laws.proofs.Runs.{Run-some, Run-append}
use Rattle.wot_plain.proofs.CutLines.{whole_lines_of-none}
use Rattle.wot_policy.specs.declared.rows.PolicyRows.{PolicyRows}
use Rattle.wot_engine.proofs.Progress.{IsPrefix, Stands, begins, comes_next, nil-both, take-prefix}

module _ (rows : PolicyRows) (origin : Option World) (contents : Contents) where
  -- the lines read so far are answered, and each reply is complete
  pub at_first : (held : List ℕ) (taken : ℕ) (left written : Option (List ℕ)) (shelf : Option World)
      (state : Session) (source : Option (List ℕ)) (shelf' : Option World)
      → (s : Stands rows origin contents held taken left written shelf state) →
      (source ≡ Some contents.input) ⊎ IsLastTaken (drop (length s.done) (lines_of contents.input)) source
      → MayPutNext (over state s.now) (drop (length s.done) (lines_of contents.input)) origin shelf' →
      ReachedWhole rows contents source written origin shelf'
  at_first held taken left written shelf state source shelf' s next puts =
      let m = begins rows origin contents held taken left written shelf state s in
      record {
        count = length s.done;
        replies = s.replies;
        reported = record {
          last = over state s.now;
          run = rw (take-prefix rows origin contents (lines_of contents.input)
              s.done m.0 m.1) s.run;
        };
        written = s.written_is;
        next = next;
        puts = puts;
      }

  -- the replies to the lines read so far are a prefix of all replies
  told_all : OneOutcome rows → (lines done more : List (List ℕ)) (replies : List Reply) (last : Scene) →
      lines ≡ done ++ more → Run rows (opening contents.world) done replies last →
      (others : List Reply) × RepliesTo rows contents.world lines (replies ++ others)
  told_all law lines done more replies last e r =
      let others = Run-some rows law more last in (
        others.0,
        record {
          last = others.1;
          run =
              rw e (Run-append rows done more (opening contents.world) last others.1 replies others.0 r others.2);
        },
      )

  -- exactly the replies so far
  pub so_far : OneOutcome rows → (held : List ℕ) (taken : ℕ) (left written : Option (List ℕ))
      (shelf : Option World) (state : Session) → Stands rows origin contents held taken left written shelf state →
      IsBegun rows contents written
  so_far law held taken left written shelf state s =
      let m = begins rows origin contents held taken left written shelf state s in
      let all = told_all law (lines_of contents.input) s.done m.0 s.replies (over state s.now) m.1 s.run in
      record {
        replies = s.replies ++ all.0;
        reported = all.1;
        size = length (octets_of s.replies);
        written = s.written_is ∙ ap (λ (x : List ℕ). Some (contents.written ++ x)) (sym (first s.replies all.0));
      }
    where
      first : (some others : List Reply) → take (length (octets_of some)) (octets_of (some ++ others)) ≡ octets_of some
      first some others =
          ap (take (length (octets_of some))) (flat_map-append reply_text some others)
          ∙ take_at (octets_of some) (octets_of others) (length (octets_of some)) refl

  -- the end
  pub done_all : (held : List ℕ) (taken : ℕ) (left written : Option (List ℕ)) (shelf : Option World)
      (state : Session) → (s : Stands rows origin contents held taken left written shelf state) → held ≡ [] → s.rest ≡
      [] →
      lines_of contents.input ≡ s.done
  done_all held taken left written shelf state s e f =
      elim s.lines [
        | inl prefix ↦ ap lines_of s.parts ∙ prefix.lines (held ++ s.rest) ∙ rw (e, f) (append-nil s.done)
        | inr ended ↦ ended.2
      ]

  pub at_end : (held : List ℕ) (taken : ℕ) (left written : Option (List ℕ)) (shelf : Option World) (state : Session)
      (left' : Option (List ℕ)) → (s : Stands rows origin contents held taken left written shelf state) → held ≡ [] →
      s.rest ≡ [] →
      left' ≡ Some [] → IsTranscribed rows contents left' written
  at_end held taken left written shelf state left' s e f none =
      let whole : lines_of contents.input ≡ s.done = done_all held taken left written shelf state s e f in
      record {
        replies = s.replies;
        reported = record { last = over state s.now; run = rw whole s.run };
        written = s.written_is;
        ended = none;
      }

  pub leaves : (held : List ℕ) (taken : ℕ) (left written : Option (List ℕ)) (shelf : Option World)
      (state : Session) → (s : Stands rows origin contents held taken left written shelf state) → held ≡ [] → s.rest ≡
      [] →
      IsLeft rows contents origin shelf
  leaves held taken left written shelf state s e f =
      let whole : lines_of contents.input ≡ s.done = done_all held taken left written shelf state s e f in
      record { replies = s.replies; reported = record { last = over state s.now; run = rw whole s.run }; left = s.is_now }

  -- The octets that were taken. The lines read are all whole lines of them. If nothing is left, a last line without a
  -- line feed may count as whole.
  pub record HasTaken (input : List ℕ) (left : Option (List ℕ)) (done : List (List ℕ)) : Type 0 where
    pub octets : List ℕ
    pub taken : IsTaken input octets left
    pub lines : (whole_lines_of octets ≡ done) ⊎ ((taken.rest ≡ []) × (lines_of octets ≡ done))

  -- the octets that were read but are in no line yet have no line feed
  pub has_taken : (held : List ℕ) (taken : ℕ) (left written : Option (List ℕ)) (shelf : Option World)
      (state : Session) (left' : Option (List ℕ)) (taken' : ℕ) →
      (s : Stands rows origin contents held taken left written shelf state) → StopsOf held s.rest taken left' taken'
      → HasTaken contents.input left' s.done
  has_taken held taken left written shelf state left' taken' s t =
      elim s.lines [
        | inl prefix ↦ record {
          octets = s.gone ++ t.passed;
          taken = record {
            rest = t.rest;
            input_is = s.parts ∙ ap (λ (x : List ℕ). s.gone ++ x) t.parts
                ∙ sym (append_assoc s.gone t.passed t.rest);
            left_is = t.left_is;
          };
          lines = inl (prefix.whole t.passed ∙ ap (λ (ls : List (List ℕ)). s.done ++ ls)
              (whole_lines_of-none t.passed t.no_feed) ∙ append-nil s.done);
        }
        | inr ended ↦
            let both = nil-both rows origin contents t.passed t.rest (sym t.parts ∙ ended.1) in
            record {
              octets = contents.input;
              taken = record {
                rest = t.rest;
                input_is = sym (ap (λ (x : List ℕ). contents.input ++ x) both.1 ∙ append-nil contents.input);
                left_is = t.left_is;
              };
              lines = inr (both.1, ended.2);
            }
      ]

  pub at_stop : (held : List ℕ) (taken : ℕ) (left written : Option (List ℕ)) (shelf : Option World)
      (state : Session) (left' : Option (List ℕ)) (taken' : ℕ) →
      (s : Stands rows origin contents held taken left written shelf state) → StopsOf held s.rest taken left' taken'
      → FinishedTaken rows contents left' written origin shelf
  at_stop held taken left written shelf state left' taken' s t =
      let h = has_taken held taken left written shelf state left' taken' s t in
      record {
        octets = h.octets;
        taken = h.taken;
        finished = elim h.lines [
          | inl whole ↦ inl (finished whole)
          | inr ended ↦ inr (ended.0, finished ended.1)
        ];
      }
    where
      finished : {lines : List (List ℕ)} → lines ≡ s.done → Finished rows contents lines written origin shelf
      finished e = record {
        replies = s.replies;
        reported = record { last = over state s.now; run = rw e s.run };
        written = s.written_is;
        left = s.is_now;
      }

  pub at_most : (held : List ℕ) (taken : ℕ) (left written : Option (List ℕ)) (shelf : Option World)
      (state : Session) (left' : Option (List ℕ)) (taken' : ℕ) →
      (s : Stands rows origin contents held taken left written shelf state) → StopsOf held s.rest taken left' taken'
      → taken' ≡ 2 ^ 30 → FinishedMost rows contents left' written origin shelf
  at_most held taken left written shelf state left' taken' s t n =
      elim s.lines [
        | inl prefix ↦
            let input_is : contents.input ≡ (s.gone ++ t.passed) ++ t.rest = s.parts ∙ ap (λ (x : List ℕ). s.gone ++ x)
            t.parts
            ∙ sym (append_assoc s.gone t.passed t.rest) in
            record {
              octets = s.gone ++ t.passed;
              taken = record { rest = t.rest; input_is = input_is; left_is = t.left_is };
              size = omega (arith, t.count, s.count, n, ap length input_is, length-append (s.gone ++ t.passed) t.rest);
              finished = record {
                replies = s.replies;
                reported = record {
                  last = over state s.now;
                  run =
                      rw (whole s.gone t.passed s.done prefix t.no_feed) s.run;
                };
                written = s.written_is;
                left = s.is_now;
              };
            }
        | inr ended ↦
            let both = nil-both rows origin contents t.passed t.rest (sym t.parts ∙ ended.1) in
            let held-is = nil-both rows origin contents held s.rest ended.1 in
            absurd (omega (arith, t.count, n, ended.0, ap length both.1, ap length held-is.1))
      ]
    where
      whole : (gone passed : List ℕ) (done : List (List ℕ)) → IsPrefix rows origin contents gone done → HasNoFeed passed
          →
          whole_lines_of (gone ++ passed) ≡ done
      whole gone passed done f h = f.whole passed ∙ ap (λ (ls : List (List ℕ)). done ++ ls)
          (whole_lines_of-none passed h) ∙ append-nil done

  -- a part of the last reply
  pub takes_more : OneOutcome rows → (held : List ℕ) (taken : ℕ) (left : Option (List ℕ))
      (shelf : Option World) (state : Session) (replies reply : List ℕ) (n : ℕ) (written : Option (List ℕ))
      → (s : Stands rows origin contents held taken left (Some ((contents.written ++ replies) ++ reply)) shelf state) →
      n ≤ length reply →
      written ≡ Some ((contents.written ++ replies) ++ take n reply) → IsBegun rows contents written
  takes_more law held taken left shelf state replies reply n written s le w =
      let m = begins rows origin contents held taken left (Some ((contents.written ++ replies) ++ reply)) shelf state s
      in
      let all = told_all law (lines_of contents.input) s.done m.0 s.replies (over state s.now) m.1 s.run in
      let same : contents.written ++ octets_of s.replies ≡ contents.written ++ (replies ++ reply) = some-is
      (contents.written ++ octets_of s.replies)
      (contents.written ++ (replies ++ reply)) (sym s.written_is ∙ ap (λ (x : List ℕ). Some x)
      (append_assoc contents.written replies reply)) in
      let parts : octets_of s.replies ≡ replies ++ reply = append_cancel_left contents.written (octets_of s.replies)
      (replies ++ reply) same in
      record {
        replies = s.replies ++ all.0;
        reported = all.1;
        size = length replies + n;
        written = w ∙ ap (λ (x : List ℕ). Some x) (append_assoc contents.written replies (take n reply)
            ∙ ap (λ (x : List ℕ). contents.written ++ x) (sym (cut replies reply s.replies all.0 n le parts)));
      }
    where
      some-is : (x y : List ℕ) → Some x ≡ Some y → x ≡ y
      some-is x y e = cc

      cut : (replies reply : List ℕ) (all others : List Reply) (n : ℕ) → n ≤ length reply →
          octets_of all ≡ replies ++ reply
          → take (length replies + n) (octets_of (all ++ others)) ≡ replies ++ take n reply
      cut replies reply all others n le e =
          ap (take (length replies + n)) (flat_map-append reply_text all others)
          ∙ ap (λ (x : List ℕ). take (length replies + n) (x ++ octets_of others)) e
          ∙ ap (take (length replies + n)) (append_assoc replies reply (octets_of others))
          ∙ take-append-add replies (reply ++ octets_of others) n
          ∙ ap (λ (x : List ℕ). replies ++ x) (take-append-le n reply (octets_of others) le)

  -- ---- what the next line writes to the certificate directory

  -- nothing is written
  pub puts_nothing : (shelf : Option World) (now : World) (state : Session) (lines : List (List ℕ)) →
      IsNow origin shelf now
      → MayPutNext (over state now) lines origin shelf
  puts_nothing shelf now state lines is = by origin lines is
    where
      by : (o : Option World) (ls : List (List ℕ)) → IsNow o shelf now → MayPutNext (over state now) ls o shelf
      by None ls is = tt
      by (Some o) [] is = is
      by (Some o) (line ∷ ls) is = inl is

  -- memory ran out for the line
  pub puts_next : (shelf shelf' : Option World) (now : World) (state : Session) (line : List ℕ) (lines : List (List ℕ))
      (use_ : Use) → use_of (command_in_line line) ≡ use_
      → IsNow origin shelf now → MayPut state.state use_ shelf shelf' →
      MayPutNext (over state now) (line ∷ lines) origin shelf'
  puts_next shelf shelf' now state line lines use_ e is m = by origin is
    where
      by : (o : Option World) → IsNow o shelf now → MayPutNext (over state now) (line ∷ lines) o shelf'
      by None is = tt
      by (Some o) is =
          let there : MayPutIn state.state use_ now shelf' =
          subst (λ (w : Option World). MayPut state.state use_ w shelf') is m in
          inr (subst (λ (u : Use). MayPutIn state.state u now shelf') (sym e) there)

  -- What the last line read may have written to the directory, and that it was the last one read.
  pub record IsCutShort (unanswered : List (List ℕ)) (last : Scene) (held' : List ℕ) (left' : Option (List ℕ))
      (shelf' : Option World) : Type 0 where
    pub puts : MayPutNext last unanswered origin shelf'
    pub next : length held' < 65536 → IsLastTaken unanswered left'

  pub cut_short : (held : List ℕ) (taken : ℕ) (left written : Option (List ℕ)) (shelf : Option World)
      (state : Session) (held' : List ℕ) (taken' : ℕ) (left' : Option (List ℕ)) (line : List ℕ) (use_ : Use)
      (shelf' : Option World)
      → (s : Stands rows origin contents held taken left written shelf state) →
      TakesLineOf held s.rest taken held' left' taken' line
      → use_of (command_in_line line) ≡ use_ → MayPut state.state use_ shelf shelf'
      → IsCutShort (drop (length s.done) (lines_of contents.input)) (over state s.now) held' left' shelf'
  cut_short held taken left written shelf state held' taken' left' line use_ shelf' s g e m =
      let rest : List (List ℕ) = lines_of (held' ++ g.rest) in
      let is : drop (length s.done) (lines_of contents.input) ≡ line ∷ rest =
      ap (drop (length s.done)) (comes_next rows origin contents held taken left written shelf state held' taken' left'
      line s
      g) ∙ drop-append_seam s.done (line ∷ rest) in
      record {
        puts = subst (λ (ls : List (List ℕ)). MayPutNext (over state s.now) ls origin shelf') (sym is)
            (puts_next shelf shelf' s.now state line rest use_ e s.is_now m);
        next = λ few. record {
          line = line;
          behind = held';
          rest = g.rest;
          left_is = g.left_is;
          lines_are = is;
          few =
              few;
        };
      }

  -- ---- how far the run has come, whatever was written last

  pub reaches : (held : List ℕ) (taken : ℕ) (left : Option (List ℕ)) (shelf : Option World) (state : Session)
      (replies reply : List ℕ) (n : ℕ) (written : Option (List ℕ)) (shelf' : Option World)
      → (s : Stands rows origin contents held taken left (Some ((contents.written ++ replies) ++ reply)) shelf state) →
      written ≡ Some ((contents.written ++ replies) ++ take n reply)
      → MayPutNext (over state s.now) (drop (length s.done) (lines_of contents.input)) origin shelf' →
      Reached rows contents written origin shelf'
  reaches held taken left shelf state replies reply n written shelf' s w puts =
      let m = begins rows origin contents held taken left (Some ((contents.written ++ replies) ++ reply)) shelf state s
      in
      let same : contents.written ++ octets_of s.replies ≡ contents.written ++ (replies ++ reply) =
      some-same (contents.written ++ octets_of s.replies) (contents.written ++ (replies ++ reply)) (sym s.written_is
      ∙ ap (λ (x : List ℕ). Some x) (append_assoc contents.written replies reply)) in
      let parts : octets_of s.replies ≡ replies ++ reply = append_cancel_left contents.written (octets_of s.replies)
      (replies ++ reply) same in
      let first : take (length replies + n) (octets_of s.replies) ≡ replies ++ take n reply =
      ap (take (length replies + n)) parts ∙ take-append-add replies reply n in
      record {
        count = length s.done;
        replies = s.replies;
        reported = record {
          last = over state s.now;
          run = rw (take-prefix rows origin contents (lines_of contents.input)
              s.done m.0 m.1) s.run;
        };
        size = length replies + n;
        written = w ∙ ap (λ (x : List ℕ). Some x) (append_assoc contents.written replies (take n reply)
            ∙ ap (λ (x : List ℕ). contents.written ++ x) (sym first));
        puts = puts;
      }
    where
      some-same : (x y : List ℕ) → Some x ≡ Some y → x ≡ y
      some-same x y e = cc

  -- if all replies are complete
  pub reaches_whole : (source written : Option (List ℕ)) (shelf' : Option World) →
      ReachedWhole rows contents source written origin shelf'
      → Reached rows contents written origin shelf'
  reaches_whole source written shelf' r = record {
    count = r.count;
    replies = r.replies;
    reported = r.reported;
    size = length (octets_of r.replies);
    written = r.written ∙ ap (λ (x : List ℕ). Some (contents.written ++ x))
        (sym (take_at (octets_of r.replies) [] (length (octets_of r.replies)) refl)
        ∙ ap (take (length (octets_of r.replies))) (append-nil (octets_of r.replies)));
    puts = r.puts;
  }
