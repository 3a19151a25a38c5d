-- Lines are cut into fields at single spaces.
use Rattle.std.specs.Prelude.{ℕ, ◌==◌, if◌then◌else◌, List, [], ◌∷◌, Option, Some, None}
use Rattle.std.specs.Option.{option_map}
use Rattle.std.specs.Result.{result_ok}
use Rattle.hex.specs.Hex.{decode_of}

-- a first reading, and a second one that uses its result
infixl 10 ◌>>=◌
abbrev pub ◌>>=◌ : {A B : Type 0} → Option A → (A → Option B) → Option B
Some x >>= f = f x
None >>= f = None

-- a text with this prefix is read so, any other text otherwise
abbrev pub read_behind : {A : Type 0} → Option (List ℕ) → (List ℕ → Option A) → Option A → Option A
read_behind (Some rest) read other = read rest
read_behind None read other = other

-- what follows a prefix
abbrev pub behind : List ℕ → List ℕ → Option (List ℕ)
behind [] text = Some text
behind (x ∷ prefix) [] = None
behind (x ∷ prefix) (y ∷ text) = if x == y then behind prefix text else None

-- the field before the first separator, and what follows it
abbrev pub cut_at : ℕ → List ℕ → Option (List ℕ × List ℕ)
cut_at separator [] = None
cut_at separator (octet ∷ octets) =
    if octet == separator then Some ([], octets)
    else option_map (λ parts. (octet ∷ parts.0, parts.1)) (cut_at separator octets)

-- the field before the first space, and what follows it
abbrev pub cut : List ℕ → Option (List ℕ × List ℕ)
cut text = cut_at 32 text

-- a field before this separator, read so, and then what follows the separator, given the field's value
abbrev pub field_before : {A B : Type 0} → ℕ → (List ℕ → Option A) → (A → List ℕ → Option B) → List ℕ → Option B
field_before separator read next text =
    cut_at separator text >>= (λ parts. read parts.0 >>= (λ value. next value parts.1))

-- a field before a space, and then what follows it
abbrev pub field : {A B : Type 0} → (List ℕ → Option A) → (A → List ℕ → Option B) → List ℕ → Option B
field read next text = field_before 32 read next text

-- the octets that pairs of hexadecimal digits, in either case, spell
abbrev pub octets_of_hex : List ℕ → Option (List ℕ)
octets_of_hex digits = result_ok (decode_of digits)
