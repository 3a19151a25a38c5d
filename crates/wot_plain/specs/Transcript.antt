-- The replies to the lines of an input, one after another, and the states to which they lead.
use Rattle.std.specs.Prelude.{◌≡◌, ℕ, List, [], ◌∷◌, ◌++◌, Option, Some, None}
use Rattle.std.specs.List.{flat_map}
use Rattle.wot_io.specs.Input.{lines_of}
use Rattle.wot_policy.specs.declared.rows.PolicyRows.{PolicyRows}
use Rattle.wot_script.specs.declared.reply.Reply.{Reply}
use Rattle.wot_script.specs.Replies.{reply_text}
use Rattle.wot_certd.specs.World.{World}
use Rattle.wot_plain.specs.Scene.{Scene, Step, opening}

-- the replies to one line: one or none
abbrev pub listed : Option Reply → List Reply
listed None = []
listed (Some reply) = reply ∷ []

-- the octets of replies, one after another
abbrev pub octets_of : List Reply → List ℕ
octets_of replies = flat_map reply_text replies

-- These lines have these replies, each followed by its watch lines, and lead from old to new.
abbrev pub Run : PolicyRows → Scene → List (List ℕ) → List Reply → Scene → Type 0
Run rows old [] replies new = (replies ≡ []) × (new ≡ old)
Run rows old (line ∷ lines) replies new =
    (reply : Option Reply) × (reported : List Reply) × (mid : Scene) × (others : List Reply)
    × Step rows old line reply reported mid × Run rows mid lines others new
    × (replies ≡ (listed reply ++ reported) ++ others)

-- the replies to these lines by a fresh machine, with a certificate directory in this world
pub record RepliesTo (rows : PolicyRows) (world : World) (lines : List (List ℕ)) (replies : List Reply) : Type 0 where
  pub last : Scene
  pub run : Run rows (opening world) lines replies last

-- the replies to all lines of an input
abbrev pub Transcript : PolicyRows → World → List ℕ → List Reply → Type 0
Transcript rows world input replies = RepliesTo rows world (lines_of input) replies

-- there is only one
abbrev pub HasOneTranscript : PolicyRows → World → List ℕ → Type 0
HasOneTranscript rows world input =
    (replies others : List Reply) → Transcript rows world input replies → Transcript rows world input others
    → replies ≡ others

-- this is the directory's world now, if its world was known at first
abbrev pub IsNow : Option World → Option World → World → Type 0
IsNow None shelf now = Unit {0}
IsNow (Some origin) shelf now = shelf ≡ Some now
