-- How far a run came: which lines were answered, what was written for them, and how the certificate directory is left.
-- Each of these speaks of the contents before the run (`Contents`), and cites the transcript of the lines.
use Rattle.std.specs.Prelude.{◌≡◌, ◌⊎◌, ◌<◌, ◌^◌, ℕ, List, [], ◌∷◌, ◌++◌, length, take, drop, Option, Some, None}
use Rattle.wot_io.specs.Input.{lines_of, whole_lines_of}
use Rattle.wot_policy.specs.declared.rows.PolicyRows.{PolicyRows}
use Rattle.wot_script.specs.declared.reply.Reply.{Reply}
use Rattle.wot_certd.specs.World.{World}
use Rattle.wot_plain.specs.Entry.{MayPutIn, use_of}
use Rattle.wot_plain.specs.Lines.{command_in_line}
use Rattle.wot_plain.specs.Scene.{Scene}
use Rattle.wot_plain.specs.Transcript.{IsNow, RepliesTo, octets_of, Transcript}
use Rattle.wot_engine.specs.Source.{IsTaken}
use Rattle.wot_engine.specs.Contents.{Contents}

-- ---- the whole input

-- The input was read to its end, and its whole transcript was written.
pub record IsTranscribed (rows : PolicyRows) (contents : Contents) (left after : Option (List ℕ)) : Type 0 where
  pub replies : List Reply
  pub reported : Transcript rows contents.world contents.input replies
  pub written : after ≡ Some (contents.written ++ octets_of replies)
  pub ended : left ≡ Some []

-- the directory is in the world to which the lines of the input lead
pub record IsLeft (rows : PolicyRows) (contents : Contents) (origin shelf : Option World) : Type 0 where
  pub replies : List Reply
  pub reported : Transcript rows contents.world contents.input replies
  pub left : IsNow origin shelf reported.last.world

-- what was written is a prefix of the transcript
pub record IsBegun (rows : PolicyRows) (contents : Contents) (after : Option (List ℕ)) : Type 0 where
  pub replies : List Reply
  pub reported : Transcript rows contents.world contents.input replies
  pub size : ℕ
  pub written : after ≡ Some (contents.written ++ take size (octets_of replies))

-- ---- all lines that were taken

-- The octets of the replies to these lines were written.
pub record Answered (rows : PolicyRows) (contents : Contents) (lines : List (List ℕ)) (after : Option (List ℕ))
    : Type 0 where
  pub replies : List Reply
  pub reported : RepliesTo rows contents.world lines replies
  pub written : after ≡ Some (contents.written ++ octets_of replies)

-- They were written, and the directory is in the world to which these lines lead.
pub record Finished (rows : PolicyRows) (contents : Contents) (lines : List (List ℕ)) (after : Option (List ℕ))
    (origin shelf : Option World) : Type 0 where
  pub replies : List Reply
  pub reported : RepliesTo rows contents.world lines replies
  pub written : after ≡ Some (contents.written ++ octets_of replies)
  pub left : IsNow origin shelf reported.last.world

-- All complete lines of the octets that were taken are finished. At the end of the source, a last line without a line
-- feed may count as complete.
pub record FinishedTaken (rows : PolicyRows) (contents : Contents) (left after : Option (List ℕ))
    (origin shelf : Option World) : Type 0 where
  pub octets : List ℕ
  pub taken : IsTaken contents.input octets left
  pub finished : Finished rows contents (whole_lines_of octets) after origin shelf
      ⊎ ((taken.rest ≡ []) × Finished rows contents (lines_of octets) after origin shelf)

-- 2 ^ 30 octets were taken, and all complete lines of them are finished
pub record FinishedMost (rows : PolicyRows) (contents : Contents) (left after : Option (List ℕ))
    (origin shelf : Option World) : Type 0 where
  pub octets : List ℕ
  pub taken : IsTaken contents.input octets left
  pub size : length octets ≡ 2 ^ 30
  pub finished : Finished rows contents (whole_lines_of octets) after origin shelf

-- 2 ^ 30 octets were taken, and all complete lines of them were answered
pub record AnsweredMost (rows : PolicyRows) (contents : Contents) (left after : Option (List ℕ)) : Type 0 where
  pub octets : List ℕ
  pub taken : IsTaken contents.input octets left
  pub size : length octets ≡ 2 ^ 30
  pub answered : Answered rows contents (whole_lines_of octets) after

-- ---- the first of the lines

-- The directory is as the answered lines leave it, except that the next line may have written its entry.
abbrev pub MayPutNext : Scene → List (List ℕ) → Option World → Option World → Type 0
MayPutNext scene lines None shelf = Unit {0}
MayPutNext scene [] (Some origin) shelf = shelf ≡ Some scene.world
MayPutNext scene (line ∷ lines) (Some origin) shelf =
    (shelf ≡ Some scene.world) ⊎ MayPutIn scene.whole.state (use_of (command_in_line line)) scene.world shelf

-- The first lines were answered up to some line, and a prefix of the octets of their replies was written. The next line
-- wrote at most its own entry: all others are as the answered lines leave them.
pub record Reached (rows : PolicyRows) (contents : Contents) (after : Option (List ℕ)) (origin shelf : Option World)
    : Type 0 where
  pub count : ℕ
  pub replies : List Reply
  pub reported : RepliesTo rows contents.world (take count (lines_of contents.input)) replies
  pub size : ℕ
  pub written : after ≡ Some (contents.written ++ take size (octets_of replies))
  pub puts : MayPutNext reported.last (drop count (lines_of contents.input)) origin shelf

-- The first unanswered line was taken, and fewer than 65,536 octets after it.
pub record IsLastTaken (lines : List (List ℕ)) (left : Option (List ℕ)) : Type 0 where
  pub line : List ℕ
  pub behind : List ℕ
  pub rest : List ℕ
  pub left_is : left ≡ Some rest
  pub lines_are : lines ≡ line ∷ lines_of (behind ++ rest)
  pub few : length behind < 65536

-- The complete replies were written to all lines before one that was taken, or none if nothing was taken. That line
-- wrote at most its own entry.
pub record ReachedWhole (rows : PolicyRows) (contents : Contents) (left after : Option (List ℕ))
    (origin shelf : Option World) : Type 0 where
  pub count : ℕ
  pub replies : List Reply
  pub reported : RepliesTo rows contents.world (take count (lines_of contents.input)) replies
  pub written : after ≡ Some (contents.written ++ octets_of replies)
  pub next : (left ≡ Some contents.input) ⊎ IsLastTaken (drop count (lines_of contents.input)) left
  pub puts : MayPutNext reported.last (drop count (lines_of contents.input)) origin shelf
