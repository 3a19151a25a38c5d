use Rattle.std.proofs.Common.{ap, arith, ◌∙◌}
use Rattle.std.specs.Int.{w64, from_be_bytes}
use Rattle.std.specs.Ordering.{nat_cmp}
use Rattle.wot_types.proofs.Words.{words_compare}
use Rattle.wot_types.proofs.octets.compare_words.Goals as goal

pub returns : goal.returns
returns c =
    let a = c.args in
    c.cmp.ensures ∙ ap (λ n. nat_cmp n c.from_be_bytes-2.result) c.from_be_bytes.ensures
    ∙ ap (nat_cmp (from_be_bytes w64 a.left.now)) c.from_be_bytes-2.ensures
    ∙ words_compare a.left.now a.right.now c.told-left c.told-right (λ i. omega (arith, c.fits-left i))
    (λ i. omega (arith, c.fits-right i))
