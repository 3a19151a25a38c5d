-- The bodies of a certificate fit.
use Rattle.std.proofs.Common.{ℕ, List, [], ◌∷◌}
use Rattle.std.specs.List.{AllByRecursion}
use Rattle.wot_component.specs.Certificate.{Signature, Component}
use Rattle.wot_component.specs.Fitting.{SigFits, PartFits}
use Rattle.wot_component.specs.Whole.{IsSigAt, IsPartOf}

pub sigs_fit : (key : List ℕ) (kind : ℕ) (component : List ℕ) (sigs : List Signature)
    → AllByRecursion (IsSigAt key kind component) sigs → AllByRecursion SigFits sigs
sigs_fit key kind component [] h = tt
sigs_fit key kind component (s ∷ sigs) h = (h.0.0, sigs_fit key kind component sigs h.1)

pub parts_fit : (key : List ℕ) (kind : ℕ) (parts : List Component) → AllByRecursion (IsPartOf key kind) parts
    → AllByRecursion PartFits parts
parts_fit key kind [] h = tt
parts_fit key kind (p ∷ parts) h = ((h.0.0, sigs_fit key kind p.body p.sigs h.0.1.1), parts_fit key kind parts h.1)
