-- Certificates with equal parts are equal.
use Rattle.std.proofs.Common.{◌≡◌}
use Rattle.wot_component.specs.Certificate.{Certificate}

pub same_cert : (a b : Certificate) → a.key ≡ b.key → a.direct ≡ b.direct → a.user_ids ≡ b.user_ids
    → a.attributes ≡ b.attributes → a.subkeys ≡ b.subkeys → a ≡ b
same_cert a b k d u t s = λ i. record { key = k i; direct = d i; user_ids = u i; attributes = t i; subkeys = s i }
