use Rattle.std.proofs.Common.{◌≡◌, Ordering, subst}
use Rattle.std.specs.BTreeMap.{is_at}
use Rattle.std.specs.Map.{lookup}
use Rattle.wot_standing.specs.declared.places.Certified.{Certified}
use Rattle.wot_standing.proofs.Placing.{Updated, keeps_here, same_certified_cmp, stays_elsewhere}
use Rattle.wot_standing.proofs.places.keep_place.Goals as goal

pub returns-clause-old : goal.returns-clause-old
returns-clause-old c =
    let a = c.args in
    let P : (Certified → Certified → Ordering) → Type 0 =
    λ cmp. c.in_ok-old.old ≡ lookup (is_at (cmp (record { issuer = a.issuer; uid = a.uid }))) a.places.now.entries in
    subst P same_certified_cmp c.in_ok-old.ensures.old

pub returns-clause-keeps : goal.returns-clause-keeps
returns-clause-keeps c =
    let a = c.args in
    keeps_here a.issuer a.uid a.place a.places.now.entries c.insert.new.self.entries
    (subst (Updated a.issuer a.uid a.place a.places.now.entries c.insert.new.self.entries) same_certified_cmp
    c.in_ok-old.ensures.updates.0)

pub returns-clause-elsewhere : goal.returns-clause-elsewhere
returns-clause-elsewhere c =
    let a = c.args in
    stays_elsewhere a.issuer a.uid a.place a.places.now.entries c.insert.new.self.entries
    (subst (Updated a.issuer a.uid a.place a.places.now.entries c.insert.new.self.entries) same_certified_cmp
    c.in_ok-old.ensures.updates.0)
