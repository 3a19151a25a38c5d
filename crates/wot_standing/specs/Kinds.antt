-- Signature types (RFC 9580, section 5.2.1), and reasons for revocation (section 5.2.3.31).
use Rattle.std.specs.Prelude.{ℕ, Bool, false, ◌&&◌, ◌||◌, ◌==◌, nat_le, Option, Some, None}
use Rattle.wot_component.specs.Certificate.{Signature}
use Rattle.wot_component.specs.Judged.{is_true_of}
use Rattle.wot_cert.specs.Revoked.{has_kind}
use Rattle.wot_standing.specs.declared.kinds.Binding.{Binding}
use Rattle.wot_standing.specs.declared.kinds.Binding.TheVariants.{DirectKey, Certification}

-- a certification, of any of the four types (0x10 to 0x13)
abbrev pub is_certification : Signature → Bool
is_certification s = is_true_of (λ f. nat_le 16 f.kind && nat_le f.kind 19) s

-- a direct key signature (0x1F), or a certification
abbrev pub is_binding : Binding → Signature → Bool
is_binding DirectKey s = has_kind 31 s
is_binding Certification s = is_certification s

-- The key was superseded (1) or retired (3), or the user ID isn't valid any more (32).
abbrev pub is_soft_reason : Option ℕ → Bool
is_soft_reason None = false
is_soft_reason (Some code) = code == 1 || (code == 3 || code == 32)

-- Every other reason is hard, and so is none given.
abbrev pub is_soft : Signature → Bool
is_soft s = is_true_of (λ f. is_soft_reason f.reason) s

abbrev pub is_primary : Signature → Bool
is_primary s = is_true_of (λ f. f.primary) s
