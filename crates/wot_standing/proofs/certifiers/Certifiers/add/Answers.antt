use Rattle.std.proofs.Common.{List, ℕ, subst}
use Rattle.wot_standing.specs.declared.places.Certified.{Certified}
use Rattle.wot_standing.specs.Certifiers.{StaysElsewhere}
use Rattle.wot_standing.proofs.certifiers.Certifiers.add.Goals as goal

pub returns-clause-elsewhere : goal.returns-clause-elsewhere
returns-clause-elsewhere c =
    let Stays : List (Certified × ℕ) → Type 0 =
    λ old. StaysElsewhere c.args.place old c.add_places.new.places.entries in
    subst Stays c.self.view_is c.in_ok-add_places.ensures.elsewhere
