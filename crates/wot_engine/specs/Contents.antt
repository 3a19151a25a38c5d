-- What a run starts with: the octets of its source, what its sink has taken, and the world of its certificate
-- directory. Most facts about a run speak of these contents. Those of a file, a terminal or a real directory aren't
-- known.
use Rattle.std.specs.Prelude.{◌≡◌, ℕ, List, Option, Some, None}
use Rattle.wot_io.specs.Input.{lines_of}
use Rattle.wot_certd.specs.World.{World}
use Rattle.wot_plain.specs.Both.{Ends}
use Rattle.wot_plain.specs.Entry.{CallNothing}

-- the octets of the source, those that had been written to the sink, and the world of the directory
pub record Contents : Type 0 where
  pub input : List ℕ
  pub written : List ℕ
  pub world : World

-- The directory is in the world of these contents. If its world isn't known, that may be any world, but then no line of
-- the input uses the directory.
abbrev pub IsWorldOf : Contents → Option World → Type 0
IsWorldOf contents None = CallNothing (lines_of contents.input)
IsWorldOf contents (Some world) = world ≡ contents.world

-- The contents of this source, this sink and this directory are known: they are these.
pub record AreKnown (contents : Contents) (input output : Option (List ℕ)) (shelf : Option World) : Type 0 where
  pub source_is : input ≡ Some contents.input
  pub sink_is : output ≡ Some contents.written
  pub shelf_is : IsWorldOf contents shelf

-- P holds of the contents, if they are known
abbrev pub OnContents : Option (List ℕ) → Option (List ℕ) → Option World → (Contents → Type 0) → Type 0
OnContents input output shelf P = (contents : Contents) → AreKnown contents input output shelf → P contents

-- ---- before and after a run

-- what a source has left, or what was written to a sink
abbrev pub Octets : Type 0
Octets = Ends (Option (List ℕ))

-- the world of a directory
abbrev pub Worlds : Type 0
Worlds = Ends (Option World)
