-- The definitions on octets, whatever is kept: errors of packets and of assembly in their order.
use Rattle.std.proofs.Common.{◌≡◌, ◌∷◌, [], refl, List, ℕ, Err}
use Rattle.wot_packet.specs.declared.packet.Why.TheVariants.{NotAPacket, CutLength, CutBody, Partial, Indeterminate}
use Rattle.wot_policy.specs.declared.rows.PolicyRows.{PolicyRows}
use Rattle.wot_cert.specs.declared.fault.CertFault.TheVariants.{Compressed, Secret, Kind, Order, Empty}
use Rattle.wot_keyring_spec.specs.declared.refusal.Refusal.TheVariants.{Packet, Cert}
use Rattle.wot_types.specs.declared.limits.Limits.{Limits}
use Rattle.wot_keyring_spec.specs.Keyring.{Certificates}
use Rattle.wot_keyring_spec.specs.Import.{answer_to}

module _ (rows : PolicyRows) (limits : Limits) (certs : Certificates) where
  cut_body : answer_to rows limits certs (198 ∷ 7 ∷ 4 ∷ 0 ∷ 0 ∷ 3 ∷ 232 ∷ 27 ∷ []) ≡ Err
      (Packet (record { at = 0; why = CutBody }))
  cut_body = refl

  not_a_packet : answer_to rows limits certs (64 ∷ []) ≡ Err (Packet (record { at = 0; why = NotAPacket }))
  not_a_packet = refl

  cut_length : answer_to rows limits certs (198 ∷ []) ≡ Err (Packet (record { at = 0; why = CutLength }))
  cut_length = refl

  partial : answer_to rows limits certs (198 ∷ 224 ∷ []) ≡ Err (Packet (record { at = 0; why = Partial }))
  partial = refl

  indeterminate : answer_to rows limits certs (155 ∷ []) ≡ Err (Packet (record { at = 0; why = Indeterminate }))
  indeterminate = refl

  -- two keys, and then these octets
  abbrev after_keys : List ℕ → List ℕ
  after_keys octets = 198 ∷ 7 ∷ 4 ∷ 0 ∷ 0 ∷ 3 ∷ 232 ∷ 27 ∷ 1 ∷ 198 ∷ 7 ∷ 4 ∷ 0 ∷ 0 ∷ 3 ∷ 232 ∷ 27 ∷ 2 ∷ octets

  compressed : answer_to rows limits certs (after_keys (200 ∷ 1 ∷ 0 ∷ [])) ≡ Err (Cert Compressed)
  compressed = refl

  secret : answer_to rows limits certs (after_keys (197 ∷ 1 ∷ 0 ∷ [])) ≡ Err (Cert Secret)
  secret = refl

  kind : answer_to rows limits certs (after_keys (201 ∷ 1 ∷ 0 ∷ [])) ≡ Err (Cert (Kind 9 18))
  kind = refl

  empty : answer_to rows limits certs [] ≡ Err (Cert Empty)
  empty = refl

  marker : answer_to rows limits certs (202 ∷ 3 ∷ 80 ∷ 71 ∷ 80 ∷ []) ≡ Err (Cert Empty)
  marker = refl

  order : answer_to rows limits certs (205 ∷ 1 ∷ 116 ∷ []) ≡ Err (Cert (Order 0))
  order = refl
