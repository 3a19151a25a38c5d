-- Equations for conditions of conditions.
use Rattle.std.proofs.Common.{◌≡◌, Bool, true, false, ◌&&◌, ◌||◌, refl}

pub or_false : (a : Bool) → a || false ≡ a
or_false true = refl
or_false false = refl

pub or_itself : (a : Bool) → a || a ≡ a
or_itself true = refl
or_itself false = refl

pub or_more : (a b c : Bool) → (a || b) || c ≡ a || (b || c)
or_more true b c = refl
or_more false b c = refl

pub or_passed : (a b c : Bool) → b || (a || c) ≡ a || (b || c)
or_passed true true c = refl
or_passed true false c = refl
or_passed false true c = refl
or_passed false false c = refl

pub or_crossed : (a b c d : Bool) → (a || b) || (c || d) ≡ (a || c) || (b || d)
or_crossed true b c d = refl
or_crossed false true true d = refl
or_crossed false true false d = refl
or_crossed false false c d = refl

pub and_true : (a : Bool) → a && true ≡ a
and_true true = refl
and_true false = refl

pub and_false : (a : Bool) → a && false ≡ false
and_false true = refl
and_false false = refl

pub and_each : (a b c : Bool) → (a || b) && c ≡ (a && c) || (b && c)
and_each true b true = refl
and_each true true false = refl
and_each true false false = refl
and_each false b c = refl
