use Rattle.std.proofs.Common.{◌≡◌, ◌+◌, ◌≤◌, ◌++◌, List, length}
use Rattle.std.specs.Prelude.{filter}
use Rattle.wot_types.specs.declared.fpr.Fpr.{Fpr}
use Rattle.wot_component.specs.Certificate.{Signature}
use Rattle.wot_component.specs.Ranked.{greatest}
use Rattle.wot_cert.specs.Time.{newness}
use Rattle.wot_standing.specs.declared.kinds.Binding.TheVariants.{Certification}
use Rattle.wot_standing.specs.Certifiers.{StaysElsewhere, kept_for, place_for}
use Rattle.wot_standing.specs.Latest.{revoked_at, is_valid_after}
use Rattle.wot_standing.proofs.certifiers.add_places.Given as goal

abbrev pub invariant-back : goal.invariant-back
invariant-back l = record {
  seen : List Signature;
  all : l.sigs ≡ l.rest ++ seen;
  newest : (q : Fpr)
      → kept_for (place_for l.places.entries l.validity.uid) l.sigs q ≡ greatest newness
      (filter (is_valid_after l.validity.verdicts.now.entries q l.validity.t Certification
      (revoked_at l.validity.verdicts.now.entries q l.validity.t l.sigs)) seen);
  elsewhere : StaysElsewhere l.validity.uid l.fn.places.entries l.places.entries;
  count : length l.places.entries ≤ length l.fn.places.entries + length seen;
}

abbrev pub decreases-back : goal.decreases-back
decreases-back l = length l.rest
