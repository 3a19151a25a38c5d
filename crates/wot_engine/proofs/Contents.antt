-- What follows for contents that are known: how a run starts, and which lines may use the directory.
use Rattle.std.proofs.Common.{ℕ, List, Option, Some, None, ap}
use Rattle.wot_certd.specs.World.{World}
use Rattle.wot_plain.specs.Transcript.{IsNow}
use Rattle.wot_plain.proofs.DirectoryGives.{IsUncalled}
use Rattle.wot_engine.specs.Contents.{Contents, IsWorldOf, OnContents}

-- the directory is in the world of the contents, if its world is known
pub is_now : (origin : Option World) (contents : Contents) → IsWorldOf contents origin →
    IsNow origin origin contents.world
is_now None contents is = tt
is_now (Some world) contents is = ap (λ (w : World). Some w) is

-- if its world isn't known, no line of the input uses it
pub uncalled : (origin : Option World) (contents : Contents) → IsWorldOf contents origin →
    IsUncalled origin contents.input
uncalled None contents is = is
uncalled (Some world) contents is = tt

-- what follows from P holds if P does
pub weaker : (input output : Option (List ℕ)) (shelf : Option World) (P Q : Contents → Type 0)
    → ((contents : Contents) → P contents → Q contents)
    → OnContents input output shelf P → OnContents input output shelf Q
weaker input output shelf P Q f h contents known = f contents (h contents known)
