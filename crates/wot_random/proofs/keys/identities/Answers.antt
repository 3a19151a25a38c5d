use Rattle.std.proofs.Common.{◌+◌, ◌∙◌, subst, sym, arith}
use Rattle.wot_random.specs.Identities.{AreIdentities, IsIdentity}
use Rattle.wot_random.proofs.IdentitiesSoFar.{more_identities}
use Rattle.wot_random.proofs.keys.identities.Goals as goal

pub loop-index-preserved : goal.loop-index-preserved
loop-index-preserved c =
    let start = c.args.words.now.start in
    let index = c.loop-index.index in
    let before = c.loop-index.invariant in
    let one = c.in_ok-make_identity.field-0 in
    let is : IsIdentity start index one = subst (λ s. IsIdentity s index one) before.start_kept
    c.in_ok-make_identity.ensures.made in
    let all = more_identities start index c.loop-index.made.items one before.made_all is in
    record {
      start_kept = c.make_identity.ensures.start ∙ before.start_kept;
      drawn = omega (arith, c.in_ok-make_identity.ensures.drawn, before.drawn);
      made_all = subst (AreIdentities start (index + 1)) (sym c.in_ok-push.ensures.items) all;
    }
