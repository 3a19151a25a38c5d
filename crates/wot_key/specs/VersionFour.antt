-- What a body of version 4 says, in words that know of no other version (RFC 4880, sections 5.5.2 and 12.2).
use Rattle.std.specs.Prelude.{ℕ, ◌&&◌, nat_le, Bool, if◌then◌else◌, List, ◌∷◌, ◌++◌, length, slice_index}
use Rattle.std.specs.Prelude.{Option, Some, None}
use Rattle.std.specs.Int.{w16, to_be_bytes}
use Rattle.sha1.specs.Sha1.{sha1}
use Rattle.wot_types.specs.declared.fpr.Fpr.{Fpr}
use Rattle.wot_types.specs.declared.fpr.Fpr.TheVariants.{V4}
use Rattle.wot_key.specs.declared.key.Key.{Key}
use Rattle.wot_key.specs.Key.{created_in}

-- from the version, the time and the algorithm, six octets, to as many as two octets can count
abbrev pub fits_v4 : List ℕ → Bool
fits_v4 body = nat_le 6 (length body) && nat_le (length body) 65535

abbrev pub key_v4 : List ℕ → Option Key
key_v4 body =
    if fits_v4 body
    then Some (record { version = 4; created = created_in body; algorithm = slice_index body 5 })
    else None

-- the SHA-1 digest of the octet 0x99, the length in two octets, and the body
abbrev pub fingerprint_v4 : List ℕ → Option Fpr
fingerprint_v4 body =
    if fits_v4 body then Some (V4 (sha1 (153 ∷ to_be_bytes w16 (length body) ++ body))) else None
