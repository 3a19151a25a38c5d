-- How far a run has come between two lines.
use Rattle.std.proofs.Common.{◌≡◌, ◌⊎◌, inl, inr, ℕ, ◌+◌, ◌<◌, ◌^◌, List, [], ◌∷◌, ◌++◌, length, take}
use Rattle.std.proofs.Common.{Option, Some, refl, sym, ap, subst, ◌∙◌, append_assoc, arith, length-append}
use Rattle.std.proofs.lemmas.List.{append-nil, take_at}
use Rattle.std.proofs.lemmas.Grind.{flat_map-append}
use Rattle.wot_io.specs.Input.{lines_of, whole_lines_of, HasNoFeed}
use Rattle.wot_io.specs.Fill.{TakesLineOf, Took}
use Rattle.wot_io.specs.Source.{Loses, LosesOf}
use Rattle.wot_script.specs.declared.reply.Reply.{Reply}
use Rattle.wot_script.specs.Replies.{reply_text}
use Rattle.wot_certd.specs.World.{World}
use Rattle.wot_plain.specs.Session.{Session, beginning}
use Rattle.wot_plain.specs.Scene.{Scene, Step, opening}
use Rattle.wot_plain.specs.Transcript.{Run, IsNow, listed, octets_of}
use Rattle.wot_plain.proofs.DirectoryGives.{over}
use Rattle.wot_plain.proofs.CutLines.{lines_of-feed, whole_lines_of-feed, lines_of-last}
use Rattle.wot_engine.specs.Contents.{Contents}
use Rattle.wot_policy.specs.declared.rows.PolicyRows.{PolicyRows}

pub joined : (before : List ℕ) (some others : List Reply) →
    (before ++ octets_of some) ++ octets_of others ≡ before ++ octets_of (some ++ others)
joined before some others =
    append_assoc before (octets_of some) (octets_of others) ∙ ap (λ (x : List ℕ). before ++ x)
    (sym (flat_map-append reply_text some others))

module _ (rows : PolicyRows) (origin : Option World) (contents : Contents) where
  -- these are the first lines, whatever follows the octets
  pub record IsPrefix (gone : List ℕ) (done : List (List ℕ)) : Type 0 where
    pub lines : (x : List ℕ) → lines_of (gone ++ x) ≡ done ++ lines_of x
    pub whole : (x : List ℕ) → whole_lines_of (gone ++ x) ≡ done ++ whole_lines_of x

  -- these lines were read, and their replies were written
  pub record Stands (held : List ℕ) (taken : ℕ) (left written : Option (List ℕ)) (shelf : Option World)
      (state : Session) : Type 0 where
    pub gone : List ℕ
    pub rest : List ℕ
    pub done : List (List ℕ)
    pub replies : List Reply
    pub now : World
    pub left_is : left ≡ Some rest
    pub count : taken + length rest ≡ length contents.input
    pub parts : contents.input ≡ gone ++ (held ++ rest)
    pub is_now : IsNow origin shelf now
    pub run : Run rows (opening contents.world) done replies (over state now)
    pub written_is : written ≡ Some (contents.written ++ octets_of replies)
    pub lines : IsPrefix gone done ⊎ ((taken < 2 ^ 30) × (held ++ rest ≡ []) × (lines_of contents.input ≡ done))

  pub starts : (left written : Option (List ℕ)) (shelf : Option World) → left ≡ Some contents.input →
      written ≡ Some contents.written → IsNow origin shelf contents.world
      → Stands [] 0 left written shelf beginning
  starts left written shelf e f is = record {
    gone = [];
    rest = contents.input;
    done = [];
    replies = [];
    now = contents.world;
    is_now = is;
    left_is = e;
    count = omega arith;
    parts = refl;
    run = (refl, refl);
    written_is = f ∙ ap (λ (x : List ℕ). Some x) (sym (append-nil contents.written));
    lines = inl (record { lines = λ x. refl; whole = λ x. refl });
  }

  -- no line was read by then
  pub starts_first : (left written : Option (List ℕ)) (shelf : Option World) →
      left ≡ Some contents.input → written ≡ Some contents.written → IsNow origin shelf contents.world
      → (s : Stands [] 0 left written shelf beginning) × (s.done ≡ []) × (s.now ≡ contents.world)
  unfolding starts
  starts_first left written shelf e f is = (starts left written shelf e f is, refl, refl)

  Run-push : (lines : List (List ℕ)) (line : List ℕ) (replies : List Reply) (reply : Option Reply) (reported : List Reply)
      (old mid new : Scene)
      → Run rows old lines replies mid → Step rows mid line reply reported new →
      Run rows old (lines ++ line ∷ []) (replies ++ (listed reply ++ reported)) new
  Run-push [] line replies reply reported old mid new r s =
      let s' : Step rows old line reply reported new = subst (λ (x : Scene). Step rows x line reply reported new) r.1 s in
      (reply, reported, new, [], s', (refl, refl), rw r.0 (sym (append-nil (listed reply ++ reported))))
  Run-push (first ∷ lines) line replies reply reported old mid new r s = (
    r.0,
    r.1,
    r.2,
    r.3 ++ (listed reply ++ reported),
    r.4,
    Run-push lines line r.3 reply reported r.2 mid new r.5 s,
    rw r.6 (append_assoc (listed r.0 ++ r.1) r.3 (listed reply ++ reported)),
  )

  IsPrefix-push : (gone : List ℕ) (done : List (List ℕ)) (line : List ℕ) → HasNoFeed line → IsPrefix gone done →
      IsPrefix (gone ++ (line ++ 10 ∷ [])) (done ++ line ∷ [])
  IsPrefix-push gone done line h f = record {
    lines = λ x. ap lines_of (regroup gone line x) ∙ f.lines (line ++ 10 ∷ x) ∙ ap (λ (ls : List (List ℕ)). done ++ ls)
        (lines_of-feed line x h) ∙ sym (append_assoc done (line ∷ []) (lines_of x));
    whole = λ x. ap whole_lines_of (regroup gone line x) ∙ f.whole (line ++ 10 ∷ x)
        ∙ ap (λ (ls : List (List ℕ)). done ++ ls) (whole_lines_of-feed line x h)
        ∙ sym (append_assoc done (line ∷ []) (whole_lines_of x));
  }
    where
      regroup : (gone line x : List ℕ) → (gone ++ (line ++ 10 ∷ [])) ++ x ≡ gone ++ (line ++ 10 ∷ x)
      regroup gone line x = simp append_assoc

  nil-feed : (line rest : List ℕ) → [] ≡ line ++ 10 ∷ rest → ⊥
  nil-feed [] rest e = cc
  nil-feed (x ∷ line) rest e = cc

  pub nil-both : (xs ys : List ℕ) → xs ++ ys ≡ [] → (xs ≡ []) × (ys ≡ [])
  nil-both [] ys e = (refl, e)
  nil-both (x ∷ xs) ys e = absurd cc

  -- more octets were read, and are buffered
  pub took_on : (held : List ℕ) (taken : ℕ) (left written : Option (List ℕ)) (shelf : Option World)
      (state : Session) (left' : Option (List ℕ)) (taken' : ℕ) → Stands held taken left written shelf state →
      (t : Took left taken left' taken')
      → Stands (held ++ t.gone) taken' left' written shelf state
  took_on held taken left written shelf state left' taken' s t =
      let l : LosesOf s.rest left' t.gone = subst (λ (o : Option (List ℕ)). Loses o left' t.gone) s.left_is t.loses in
      record {
        gone = s.gone;
        rest = l.rest;
        done = s.done;
        replies = s.replies;
        now = s.now;
        left_is = l.left_is;
        count = omega (arith, s.count, t.count, ap length l.parts, length-append t.gone l.rest);
        parts = s.parts ∙ ap (λ (x : List ℕ). s.gone ++ (held ++ x)) l.parts ∙ ap (λ (x : List ℕ). s.gone ++ x)
            (sym (append_assoc held t.gone l.rest));
        is_now = s.is_now;
        run = s.run;
        written_is = s.written_is;
        lines = elim s.lines [
          | inl prefix ↦ inl prefix
          | inr ended ↦
              let none : s.rest ≡ [] = (nil-both held s.rest ended.1).1 in
              let both = nil-both t.gone l.rest (sym l.parts ∙ none) in
              inr (
                omega (arith, ended.0, t.count, ap length both.0),
                append_assoc held t.gone l.rest
                    ∙ ap (λ (x : List ℕ). held ++ x) (sym l.parts) ∙ ended.1,
                ended.2,
              )
        ];
      }

  -- the line just read is the next one of all
  pub comes_next : (held : List ℕ) (taken : ℕ) (left written : Option (List ℕ)) (shelf : Option World)
      (state : Session) (held' : List ℕ) (taken' : ℕ) (left' : Option (List ℕ)) (line : List ℕ)
      → (s : Stands held taken left written shelf state) →
      (g : TakesLineOf held s.rest taken held' left' taken' line)
      → lines_of contents.input ≡ s.done ++ line ∷ lines_of (held' ++ g.rest)
  comes_next held taken left written shelf state held' taken' left' line s g =
      elim s.lines [
        | inl prefix ↦ elim g.cuts.parts [
          | inl feed ↦
              ap lines_of (s.parts ∙ ap (λ (x : List ℕ). s.gone ++ x) feed)
              ∙ prefix.lines (line ++ 10 ∷ (held' ++ g.rest))
              ∙ ap (λ (ls : List (List ℕ)). s.done ++ ls) (lines_of-feed line (held' ++ g.rest) g.cuts.no_feed)
          | inr last ↦
              ap lines_of (s.parts ∙ ap (λ (x : List ℕ). s.gone ++ x) last.1) ∙ prefix.lines line
              ∙ ap (λ (ls : List (List ℕ)). s.done ++ ls) (lines_of-last line last.3 g.cuts.no_feed)
              ∙ ap (λ (x : List ℕ). s.done ++ line ∷ lines_of x) (sym last.2)
        ]
        | inr ended ↦ elim g.cuts.parts [
          | inl feed ↦ absurd (nil-feed line (held' ++ g.rest) (sym ended.1 ∙ feed))
          | inr last ↦ absurd (last.3 (sym last.1 ∙ ended.1))
        ]
      ]

  -- where a run stands after one more line, which is the last one read, and the world after it
  abbrev pub StandsOn : (done : List (List ℕ)) (line : List ℕ) (next : World) (held : List ℕ) (taken : ℕ)
      (left written : Option (List ℕ)) (shelf : Option World) (state : Session) → Type 0
  StandsOn done line next held taken left written shelf state =
      (s : Stands held taken left written shelf state) × (s.done ≡ done ++ line ∷ []) × (s.now ≡ next)

  -- one line further
  pub goes_on : (held : List ℕ) (taken : ℕ) (left written : Option (List ℕ)) (shelf : Option World)
      (state : Session) (held' : List ℕ) (taken' : ℕ) (left' written' : Option (List ℕ)) (shelf' : Option World)
      (state' : Session) (line : List ℕ) (reply : Option Reply) (reported : List Reply)
      → (s : Stands held taken left written shelf state) →
      TakesLineOf held s.rest taken held' left' taken' line → (next : World) → IsNow origin shelf' next
      → Step rows (over state s.now) line reply reported (over state' next) →
      written' ≡ Some ((contents.written ++ octets_of s.replies) ++ octets_of (listed reply ++ reported))
      → StandsOn s.done line next held' taken' left' written' shelf' state'
  goes_on held taken left written shelf state held' taken' left' written' shelf' state' line reply reported s g
      next is step w =
      elim s.lines [
        | inl prefix ↦ elim g.cuts.parts [
          | inl feed ↦ (
            record {
              gone = s.gone ++ (line ++ 10 ∷ []);
              rest = g.rest;
              done = s.done ++ line ∷ [];
              replies = s.replies ++ (listed reply ++ reported);
              now = next;
              is_now = is;
              left_is = g.left_is;
              count = omega (arith, g.count, s.count);
              parts = s.parts ∙ ap (λ (x : List ℕ). s.gone ++ x) feed ∙ regroup s.gone line (held' ++ g.rest);
              run = Run-push s.done line s.replies reply reported (opening contents.world) (over state s.now) (over state'
                  next)
                  s.run
                  step;
              written_is = w ∙ ap (λ (x : List ℕ). Some x) (joined contents.written s.replies (listed reply ++ reported));
              lines = inl (IsPrefix-push s.gone s.done line g.cuts.no_feed prefix);
            },
            refl,
            refl,
          )
          | inr last ↦ (
            record {
              gone = s.gone ++ line;
              rest = g.rest;
              done = s.done ++ line ∷ [];
              replies = s.replies ++ (listed reply ++ reported);
              now = next;
              is_now = is;
              left_is = g.left_is;
              count = omega (arith, g.count, s.count);
              parts = s.parts ∙ ap (λ (x : List ℕ). s.gone ++ x) last.1
                  ∙ sym (ap (λ (x : List ℕ). (s.gone ++ line) ++ x) last.2 ∙ append-nil (s.gone ++ line));
              run = Run-push s.done line s.replies reply reported (opening contents.world) (over state s.now) (over state'
                  next)
                  s.run
                  step;
              written_is = w ∙ ap (λ (x : List ℕ). Some x) (joined contents.written s.replies (listed reply ++ reported));
              lines = inr (
                last.0,
                last.2,
                ap lines_of (s.parts ∙ ap (λ (x : List ℕ). s.gone ++ x) last.1)
                    ∙ prefix.lines line ∙ ap (λ (ls : List (List ℕ)). s.done ++ ls)
                    (lines_of-last line last.3 g.cuts.no_feed),
              );
            },
            refl,
            refl,
          )
        ]
        | inr ended ↦ elim g.cuts.parts [
          | inl feed ↦ absurd (nil-feed line (held' ++ g.rest) (sym ended.1 ∙ feed))
          | inr last ↦ absurd (last.3 (sym last.1 ∙ ended.1))
        ]
      ]
    where
      regroup : (gone line x : List ℕ) → gone ++ (line ++ 10 ∷ x) ≡ (gone ++ (line ++ 10 ∷ [])) ++ x
      regroup gone line x = simp append_assoc

  -- the lines read so far are the first ones of all
  pub begins : (held : List ℕ) (taken : ℕ) (left written : Option (List ℕ)) (shelf : Option World)
      (state : Session) → (s : Stands held taken left written shelf state) →
      (more : List (List ℕ)) × (lines_of contents.input ≡ s.done ++ more)
  begins held taken left written shelf state s =
      elim s.lines [
        | inl prefix ↦ (lines_of (held ++ s.rest), ap lines_of s.parts ∙ prefix.lines (held ++ s.rest))
        | inr ended ↦ ([], ended.2 ∙ sym (append-nil s.done))
      ]

  pub take-prefix : (lines done more : List (List ℕ)) → lines ≡ done ++ more → take (length done) lines ≡ done
  take-prefix lines done more e = ap (take (length done)) e ∙ take_at done more (length done) refl
