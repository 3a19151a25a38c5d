use Rattle.std.proofs.Common.{ℕ, ◌≡◌, ◌+◌, ◌<◌, ◌^◌, refl, ap, ◌∙◌, arith}
use Rattle.wot_component.specs.Certificate.{Certificate}
use Rattle.wot_component.specs.Counts.{weight_of}
use Rattle.wot_component.specs.Certificate.{of_parts}
use Rattle.wot_component.specs.Sizes.{sig_size, own_size}
use Rattle.wot_component.proofs.Follows.{counts_all}
use Rattle.wot_component.proofs.TextSize.{size_is}
use Rattle.wot_component.proofs.measure.totals_of.Goals as goal

none : 0 < 2 ^ 33
none = omega arith

one : 1 < 2 ^ 33
one = omega arith

nothing : (n : ℕ) → n ≡ 0 + n
nothing n = omega arith

pub returns : goal.returns
returns c =
    let cert : Certificate =
    of_parts c.args.key.now c.args.direct.now c.args.user_ids.now c.args.attributes.now c.args.subkeys.now in
    record {
      items = counts_all 1 _ _ _ _ _ _ _ _ _ one c.with_sigs-direct.ensures.items c.with_parts-user_ids.ensures.items
          c.with_parts-attributes.ensures.items c.with_parts.ensures.items refl;
      signatures = counts_all 0 _ _ _ _ _ _ _ _ _ none c.with_sigs-direct.ensures.signatures
          c.with_parts-user_ids.ensures.signatures c.with_parts-attributes.ensures.signatures
          c.with_parts.ensures.signatures (nothing _);
      octets = counts_all _ _ _ _ _ _ _ _ _ _ c.packet_octets.ensures.few c.with_sigs-direct.ensures.octets
          c.with_parts-user_ids.ensures.octets c.with_parts-attributes.ensures.octets c.with_parts.ensures.octets
          (size_is cert ∙ ap (λ n. n + weight_of sig_size own_size cert) (back c.packet_octets.ensures.octets));
    }
  where
    back : {m n : ℕ} → m ≡ n → n ≡ m
    back e = cc
