-- View names: what they are made of, and their order.
use Rattle.std.specs.Prelude.{ℕ, ◌==◌, ◌&&◌, ◌||◌, Bool, if◌then◌else◌, nat_lt, nat_le, List, length}
use Rattle.std.specs.Prelude.{Option, Some, None}
use Rattle.std.specs.List.{list_all}
use Rattle.std.specs.declared.cmp.Ordering.{Ordering}
use Rattle.std.specs.Ordering.{nat_cmp}
use Rattle.std.specs.Cmp.Lexicographic.{slice_cmp}

-- `a` to `z`, `0` to `9`, `-` or `_`
abbrev pub is_name_octet : ℕ → Bool
is_name_octet octet =
    (nat_le 97 octet && nat_le octet 122) || (nat_le 48 octet && nat_le octet 57) || (octet == 45) || (octet == 95)

-- 1 to 32 of these octets
abbrev pub is_view_name : List ℕ → Bool
is_view_name text = nat_lt 0 (length text) && nat_le (length text) 32 && list_all is_name_octet text

-- the octets of the name if the text is one, otherwise none
abbrev pub view_name_of : List ℕ → Option (List ℕ)
view_name_of text = if is_view_name text then Some text else None

-- Names are ordered by their octets.
abbrev pub view_name_cmp : List ℕ → List ℕ → Ordering
view_name_cmp a b = slice_cmp nat_cmp a b
