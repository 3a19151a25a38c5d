use Rattle.std.proofs.Common.{◌≡◌, ℕ, ◌+◌, length, sym, ap, ◌∙◌, arith}
use Rattle.wot_component.specs.Counts.{sum_of}
use Rattle.wot_component.proofs.ItemCounts.{ones}
use Rattle.wot_component.proofs.adds.of_part.Goals as goal

counted : (l o : ℕ) → o ≡ l → 1 + l ≡ 1 + o
counted l o e = omega arith

listed : (l o : ℕ) → o ≡ l → l ≡ 0 + o
listed l o e = omega arith

pub returns : goal.returns
returns c =
    let same : sum_of (λ _. 1) c.args.part.now.sigs ≡ length c.sigs.result.now =
    ones c.args.part.now.sigs ∙ ap length (sym c.sigs.ensures.sigs) in
    record { items = counted _ _ same; signatures = listed _ _ same; octets = c.part_octets.ensures }
