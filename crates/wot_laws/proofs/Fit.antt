-- Every command that is read from a line wants what it may want.
use Rattle.wot_script.specs.declared.command.Command.{Command}
use Rattle.wot_script.specs.declared.command.Command.TheVariants as commands
use Rattle.wot_script.specs.Spelling.{HasSpelling}
use Rattle.wot_plain.specs.Classes.{IsFit, class_of}

pub fit_of : (command : Command) → HasSpelling command → IsFit (class_of command)
fit_of (commands.Ask view target wanted uid) h = h
fit_of (commands.List view wanted) h = h
fit_of (commands.Absence view target wanted uid) h = h
fit_of (commands.Check view target claims labels uid) h = h
fit_of (commands.WatchOn name view target wanted uid) h = h
fit_of command h = tt
