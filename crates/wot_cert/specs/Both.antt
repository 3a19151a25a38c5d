-- What is in a certificate, and what that says of two that were merged: the merge has what is in one of both.
use Rattle.std.specs.Prelude.{◌≡◌, ◌⊎◌, ◌↔◌, ℕ, List, [], ◌∷◌}
use Rattle.wot_component.specs.Certificate.{Signature, Component, Certificate, unite}

-- some item of the list is so
abbrev pub HasOne : {A : Type 0} → (A → Type 0) → List A → Type 0
HasOne P [] = ⊥
HasOne P (x ∷ xs) = P x ⊎ HasOne P xs

-- a signature with this body
abbrev pub HasSig : List ℕ → List Signature → Type 0
HasSig body sigs = HasOne (λ (s : Signature). s.body ≡ body) sigs

-- a component with this body
abbrev pub HasPart : List ℕ → List Component → Type 0
HasPart body parts = HasOne (λ (p : Component). p.body ≡ body) parts

-- a signature with this body on a component with that one
abbrev pub HasSigOn : List ℕ → List ℕ → List Component → Type 0
HasSigOn component body parts = HasOne (λ (p : Component). (p.body ≡ component) × HasSig body p.sigs) parts

-- It holds of two certificates merged exactly if it holds of one of them.
abbrev pub IsOfBoth : (Certificate → Type 0) → Type 0
IsOfBoth P = (a b : Certificate) → P (unite a b) ↔ (P a ⊎ P b)

-- The components of a merge are those of both, and a signature is on a component exactly if it is on it in one of both.
pub record AreOfBoth (parts : Certificate → List Component) : Type 0 where
  pub bodies : (body : List ℕ) → IsOfBoth (λ (c : Certificate). HasPart body (parts c))
  pub sigs : (component body : List ℕ) → IsOfBoth (λ (c : Certificate). HasSigOn component body (parts c))
