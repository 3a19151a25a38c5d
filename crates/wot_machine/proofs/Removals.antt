-- Which commands of cursors and of watches only remove something.
use Rattle.std.proofs.Common.{◌≡◌, ℕ, true, List, refl}
use Rattle.wot_plain.specs.declared.class.Class.TheVariants.{Cursor as OfCursor, Watch as OfWatch}
use Rattle.wot_plain.specs.declared.class.CursorCommand.{CursorCommand}
use Rattle.wot_plain.specs.declared.class.CursorCommand.TheVariants as paces
use Rattle.wot_plain.specs.declared.class.WatchCommand.{WatchCommand}
use Rattle.wot_plain.specs.declared.class.WatchCommand.TheVariants as commands
use Rattle.wot_machine.specs.Machine.{is_removal}

pub close_only : (name : List ℕ) (command : CursorCommand) → is_removal (OfCursor name command) ≡ true
    → command ≡ paces.Close
close_only name paces.Close e = refl
close_only name (paces.Over view wanted) e = absurd (cc e)
close_only name (paces.Next count) e = absurd (cc e)

pub off_only : (name : List ℕ) (command : WatchCommand) → is_removal (OfWatch name command) ≡ true
    → command ≡ commands.Off
off_only name commands.Off e = refl
off_only name (commands.On view target wanted uid) e = absurd (cc e)
