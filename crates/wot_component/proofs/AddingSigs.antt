-- The walk that adds up what signatures bring.
use Rattle.std.proofs.Common.{◌≡◌, ℕ, ◌+◌, ◌≤◌, ◌<◌, ◌^◌, List, ◌∷◌, arith, le_refl, zero-add}
use Rattle.std.specs.declared.cmp.Ordering.TheVariants.{Equal}
use Rattle.wot_component.specs.declared.adds.Adds.{Adds}
use Rattle.wot_component.specs.Certificate.{Signature, sig_cmp, kept, unite_sigs}
use Rattle.wot_component.specs.Counts.{sum_of}
use Rattle.wot_component.specs.Fitting.{SigFits}
use Rattle.wot_component.specs.Sizes.{sig_size, Weighs, IsFew}
use Rattle.wot_component.proofs.AddedInOrder.{Adding, Ahead, adding_equal, few_adds}
use Rattle.wot_component.proofs.TextSize.{sum_least, some_octet}
use Rattle.wot_component.proofs.Walk.{sigs_total, kept_same}

abbrev pub one : Signature → ℕ
one s = 1

abbrev pub SigsAdding : Adds → List Signature → List Signature → List Signature → List Signature → Type 0
SigsAdding = Adding sig_cmp kept one one sig_size SigFits

abbrev pub SigAhead : List Signature → List Signature → List Signature → Signature → Type 0
SigAhead = Ahead sig_cmp kept sigs_total kept_same one one sig_size SigFits

wider : (a b : ℕ) → a ≤ b → b < 2 ^ 63 → a < 2 ^ 64
wider a b h k = omega arith

pub sigs_few : (adds e : Adds) (a b left right ys : List Signature) (y : Signature) → SigsAdding adds a b left right
    → SigAhead left right ys y → Weighs one one sig_size e y → sum_of sig_size (unite_sigs a b) < 2 ^ 63
    → IsFew (2 ^ 64) adds e
sigs_few adds e a b left right ys y w h g k =
    let ones = wider _ _ (sum_least one sig_size (λ s. some_octet 2 s.body) (unite_sigs a b)) k in
    few_adds sig_cmp kept sigs_total kept_same one one sig_size SigFits adds e (2 ^ 64) a b left right ys y
    (λ x z. le_refl 1) (λ x z. le_refl 1) (λ x z. le_refl (sig_size x)) w h g ones ones (wider _ _ (le_refl _) k)

nothing_more : (n : ℕ) → n ≡ n + 0
nothing_more n = omega arith

pub sigs_equal : (adds : Adds) (a b left right : List Signature) (x : Signature) (xs : List Signature) (y : Signature)
    (ys : List Signature) → SigsAdding adds a b left right → left ≡ x ∷ xs → right ≡ y ∷ ys → sig_cmp x y ≡ Equal
    → SigsAdding adds a b xs ys
sigs_equal adds a b left right x xs y ys w l r h =
    let none : Adds = record { items = 0; signatures = 0; octets = 0 } in
    adding_equal sig_cmp kept sigs_total kept_same one one sig_size SigFits adds adds none a b left right x xs y ys w l
    r h
    (record {
      items = nothing_more adds.items;
      signatures = nothing_more adds.signatures;
      octets = nothing_more adds.octets;
    }) (zero-add 1) (zero-add 1) (zero-add (sig_size x))
