use Rattle.std.proofs.Common.{rules, of_calls, ap}
use Rattle.std.specs.Ordering.{nat_cmp}
use Rattle.std.specs.Cmp.Lexicographic.{slice_cmp}
use Rattle.std.proofs.lemmas.Fn.{always_returns_same}
use Rattle.wot_component.specs.Certificate.{Signature, sig_cmp, kept}
use Rattle.wot_component.proofs.Spots.{spot}
use Rattle.wot_component.proofs.Walk.{sigs_total}
use Rattle.wot_component.proofs.growing.find_sig.Goals as goal

pub returns : goal.returns
returns c = λ like e.
    spot sig_cmp sigs_total kept c.args.sig.now like (λ (y : Signature). ap (slice_cmp nat_cmp y.body) e)
    c.args.sigs.now _ c.requires c.binary_search_by.ensures.bound
    (c.binary_search_by.ensures.position (λ (y : Signature). sig_cmp y c.args.sig.now)
    (always_returns_same _ _ _ (λ a r f k. search (rules, of_calls))))
