-- How a signature is kept in one list of octets: its mark, the shape of its facts, the facts, its number and its body.
-- `KeptFacts` says what octets are which facts, and which signature.
use Rattle.std.specs.Prelude.{ℕ, ◌+◌, ◌≤◌, ◌==◌, if◌then◌else◌, List, length, take, drop, slice_index}
use Rattle.wot_types.specs.declared.number.SigNumber.{SigNumber}
use Rattle.wot_kept_signature.specs.declared.shape.Shape.{Shape}
use Rattle.wot_kept_signature.specs.declared.shape.Shape.TheVariants.{Unparseable, Plain, Full, NotKept}

-- ---- shapes

-- the octet that stands for a shape
abbrev pub shape_octet : Shape → ℕ
shape_octet Unparseable = 0
shape_octet Plain = 1
shape_octet Full = 2
shape_octet NotKept = 3

-- the shape that an octet stands for
abbrev pub shape_of : ℕ → Shape
shape_of octet = if octet == 0 then Unparseable else if octet == 1 then Plain else if octet == 2 then Full else NotKept

-- how many octets the shape and the facts take
abbrev pub head_size : Shape → ℕ
head_size Unparseable = 1
head_size Plain = 11
head_size Full = 26
head_size NotKept = 1

-- ---- the octets after the mark

abbrev pub shape_in : List ℕ → Shape
shape_in kept = shape_of (slice_index kept 0)

abbrev pub number_in : List ℕ → SigNumber
number_in kept = record { 0 = take 32 (drop (head_size (shape_in kept)) kept) }

abbrev pub body_in : List ℕ → List ℕ
body_in kept = drop (head_size (shape_in kept) + 32) kept

-- They reach to the body.
abbrev pub ReachesBody : List ℕ → Type 0
ReachesBody kept = head_size (shape_in kept) + 32 ≤ length kept
