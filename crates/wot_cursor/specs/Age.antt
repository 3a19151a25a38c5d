-- Which of the two stamps of a listing differs first.
use Rattle.std.specs.Prelude.{◌==◌, if◌then◌else◌}
use Rattle.wot_cursor.specs.declared.stamps.Age.{Age}
use Rattle.wot_cursor.specs.declared.stamps.Age.TheVariants as ages
use Rattle.wot_cursor.specs.declared.stamps.Stamps.{Stamps}

-- The count of changes is compared first, then the view's revision; the result has both numbers.
abbrev pub age_of : Stamps → Stamps → Age
age_of was now =
    if was.keyring == now.keyring
    then (if was.view == now.view then ages.Same else ages.View was.view now.view)
    else ages.Keyring was.keyring now.keyring
