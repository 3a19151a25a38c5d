-- What follows if the directory fails when octets are put under a name.
use Rattle.std.proofs.Common.{ℕ, true, List, Option, Some, None, Err, refl, sym}
use Rattle.std.specs.Prelude.{IfSome}
use Rattle.wot_types.specs.declared.name.Name.{Name}
use Rattle.wot_io.specs.Counts.{Rose}
use Rattle.wot_script.specs.declared.reply.Reply.TheVariants as replies
use Rattle.wot_certd.specs.declared.shelf.ShelfFault.TheVariants as shelves
use Rattle.wot_certd.specs.Shelf.{ReplaceReturns, Replaces}
use Rattle.wot_certd.specs.World.{World, fails_next}
use Rattle.wot_command.specs.Stored.{Puts}

-- the directory failed when the octets were put
pub put_failed : (world after : Option World) (old new : ℕ) (name : Name) (octets : List ℕ)
    → IfSome world (λ (w : World). ReplaceReturns (Err shelves.Failed) (fails_next w))
    → Replaces world name octets (Err shelves.Failed) after → Rose old new
    → Puts name octets (record { world = world; faults = old }) replies.Shelf (record { world = after; faults = new })
put_failed None after old new name octets answers becomes rose =
    record { fails = true; reply_is = refl; fails_by = tt; world = tt; cause = λ t. rose }
put_failed (Some w) after old new name octets answers becomes rose =
    record { fails = true; reply_is = refl; fails_by = sym answers; world = becomes; cause = λ t. rose }
