-- Tests that decide whether a fact holds.
use Rattle.std.specs.Prelude.{◌≡◌, ◌⊎◌, Bool, true, false, ◌&&◌, ◌||◌}
use Rattle.std.proofs.Common.{refl, inl, inr}
use Rattle.std.proofs.lemmas.Bool.{or_cases, or_left, or_right, and_parts, and_from}

pub record IsTestOf (b : Bool) (P : Type 0) : Type 0 where
  pub says : b ≡ true → P
  pub said : P → b ≡ true

pub tells_or : (a b : Bool) (P Q : Type 0) → IsTestOf a P → IsTestOf b Q → IsTestOf (a || b) (P ⊎ Q)
tells_or a b P Q h k = record {
  says = λ e. elim (or_cases a b e) [ inl x ↦ inl (h.says x) | inr y ↦ inr (k.says y) ];
  said = elim [ inl x ↦ or_left a b (h.said x) | inr y ↦ or_right a b (k.said y) ];
}

pub tells_and : (a b : Bool) (P Q : Type 0) → IsTestOf a P → IsTestOf b Q → IsTestOf (a && b) (P × Q)
tells_and a b P Q h k = record {
  says = λ e. let (x, y) = and_parts a b e in (h.says x, k.says y);
  said = λ (x, y). and_from a b (h.said x) (k.said y);
}

pub tells_as : (b : Bool) (P Q : Type 0) → IsTestOf b P → (P → Q) → (Q → P) → IsTestOf b Q
tells_as b P Q h f g = record { says = λ e. f (h.says e); said = λ q. h.said (g q) }

pub tells_always : (P : Type 0) → P → IsTestOf true P
tells_always P p = record { says = λ _. p; said = λ _. refl }

pub tells_never : (b : Bool) (P : Type 0) → b ≡ false → (P → ⊥) → IsTestOf b P
tells_never b P e f = record { says = λ h. absurd (not_both b e h); said = λ p. absurd (f p) }
  where
    not_both : (b : Bool) → b ≡ false → b ≡ true → ⊥
    not_both b e h = cc
