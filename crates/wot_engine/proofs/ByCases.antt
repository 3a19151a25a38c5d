-- "If the contents are known" by cases on what is known: both forms say the same of a run.
use Rattle.std.proofs.Common.{◌≡◌, ◌↔◌, ℕ, List, Option, Some, None, refl, subst, sym}
use Rattle.wot_io.specs.Input.{lines_of}
use Rattle.wot_certd.specs.World.{World}
use Rattle.wot_plain.specs.Entry.{CallNothing}
use Rattle.wot_engine.specs.Contents.{Contents, OnContents}

abbrev pub of_three : List ℕ → List ℕ → World → Contents
of_three input written world = record { input = input; written = written; world = world }

-- P holds of the input, of what had been written, and of the directory's world, if these are known. If only the world
-- is unknown and no line of the input uses the directory, P holds for every world.
abbrev pub ByCases : Option (List ℕ) → Option (List ℕ) → Option World → (List ℕ → List ℕ → World → Type 0) → Type 0
ByCases None written world P = Unit {0}
ByCases (Some input) None world P = Unit {0}
ByCases (Some input) (Some before) None P = CallNothing (lines_of input) → (world : World) → P input before world
ByCases (Some input) (Some before) (Some world) P = P input before world

-- P of contents, as a claim about their three parts
abbrev pub InThree : (Contents → Type 0) → List ℕ → List ℕ → World → Type 0
InThree P input written world = P (of_three input written world)

pub by_cases : (input output : Option (List ℕ)) (shelf : Option World) (P : Contents → Type 0) →
    OnContents input output shelf P → ByCases input output shelf (InThree P)
by_cases None output shelf P h = tt
by_cases (Some input) None shelf P h = tt
by_cases (Some input) (Some before) None P h = λ nothing world.
    h (of_three input before world) (record { source_is = refl; sink_is = refl; shelf_is = nothing })
by_cases (Some input) (Some before) (Some world) P h =
    h (of_three input before world) (record { source_is = refl; sink_is = refl; shelf_is = refl })

some_is : {A : Type 0} (x y : A) → Some x ≡ Some y → x ≡ y
some_is x y e = cc

same_input : (P : Contents → Type 0) (input : List ℕ) (contents : Contents) → input ≡ contents.input →
    P (of_three input contents.written contents.world) → P contents
same_input P input contents e p =
    subst (λ (x : List ℕ). P (of_three x contents.written contents.world)) e p

same : (P : Contents → Type 0) (input before : List ℕ) (world : World) (contents : Contents) → input ≡ contents.input →
    before ≡ contents.written → world ≡ contents.world → InThree P input before world → P contents
same P input before world contents e f g p =
    same_input P input contents e
    (subst (λ (x : List ℕ). P (of_three input x contents.world)) f
    (subst (λ (w : World). P (of_three input before w)) g p))

pub from_cases : (input output : Option (List ℕ)) (shelf : Option World) (P : Contents → Type 0) →
    ByCases input output shelf (InThree P) → OnContents input output shelf P
from_cases None output shelf P h contents known = absurd (none_is contents.input known.source_is)
  where
    none_is : (x : List ℕ) → None ≡ Some x → ⊥
    none_is x e = cc
from_cases (Some input) None shelf P h contents known = absurd (none_is contents.written known.sink_is)
  where
    none_is : (x : List ℕ) → None ≡ Some x → ⊥
    none_is x e = cc
from_cases (Some input) (Some before) None P h contents known =
    let e : input ≡ contents.input = some_is input contents.input known.source_is in
    same P input before contents.world contents e (some_is before contents.written known.sink_is) refl
    (h (subst (λ (x : List ℕ). CallNothing (lines_of x)) (sym e) known.shelf_is) contents.world)
from_cases (Some input) (Some before) (Some world) P h contents known =
    same P input before world contents (some_is input contents.input known.source_is)
    (some_is before contents.written known.sink_is) known.shelf_is h

-- both ways
pub cases_say_the_same : (input output : Option (List ℕ)) (shelf : Option World) (P : Contents → Type 0) →
    OnContents input output shelf P ↔ ByCases input output shelf (InThree P)
cases_say_the_same input output shelf P = (by_cases input output shelf P, from_cases input output shelf P)
