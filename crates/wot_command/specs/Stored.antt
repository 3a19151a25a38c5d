-- What the steps of a `store` return.
use Rattle.std.specs.Prelude.{◌≡◌, ℕ, Bool, true, List, Some, Ok, IfSome}
use Rattle.std.specs.Result.{result_ok}
use Rattle.wot_types.specs.declared.fpr.Fpr.{Fpr}
use Rattle.wot_types.specs.declared.name.Name.{Name}
use Rattle.wot_types.specs.declared.name.Name.TheVariants.{Cert}
use Rattle.wot_io.specs.Counts.{Rose}
use Rattle.wot_component.specs.Certificate.{Certificate}
use Rattle.wot_script.specs.declared.reply.Reply.{Reply}
use Rattle.wot_certd.specs.Shelf.{Becomes}
use Rattle.wot_certd.specs.World.{after_replace, fails_next}
use Rattle.wot_plain.specs.Entry.{IsWorldAfter, WasGiven, has_failed}
use Rattle.wot_command.specs.CommandRun.{Seen}
use Rattle.wot_plain.specs.Served.{Served}
use Rattle.wot_plain.specs.Storing.{stored, writing}

-- The octets were put under the name, or the directory failed. It failed only if its count of faults rose.
pub record Puts (name : Name) (octets : List ℕ) (before : Seen) (reply : Reply) (after : Seen) : Type 0 where
  pub fails : Bool
  pub reply_is : reply ≡ stored fails (Ok octets)
  pub fails_by : IfSome before.world (λ w. fails ≡ fails_next w)
  pub world : Becomes before.world (λ w. after_replace w name octets) after.world
  pub cause : fails ≡ true → Rose before.faults after.faults

-- A certificate was stored or not, by what the directory returned. A call failed only if the count of faults rose.
pub record Stores (fpr : Fpr) (kept : Certificate) (before : Seen) (reply : Reply) (after : Seen) : Type 0 where
  pub given : Served
  pub reply_is : reply ≡ stored given.fails (writing fpr kept given.read)
  pub asked : WasGiven (Some (Cert fpr)) before.world given
  pub world : IsWorldAfter (Some (Cert fpr)) (result_ok (writing fpr kept given.read)) before.world after.world
  pub cause : has_failed (result_ok (writing fpr kept given.read)) given ≡ true → Rose before.faults after.faults
