use Rattle.std.proofs.Common.{◌≤◌, ◌<◌, ◌+◌, ap, ◌∙◌, subst, arith}
use Rattle.wot_slots.specs.Near.{place_in}
use Rattle.wot_slots.proofs.near.keep_near.Goals as goal

pub fill-requires : goal.fill-requires
fill-requires g c =
    let there = c.place_of-place.ensures.place ∙ ap (λ k. place_in k c.args.number) c.len-count.ensures in
    record {
      here = record {
        within = omega (arith, c.in-Some.ensures.end, c.end_of-end.ensures.within, c.len-count.ensures);
        from = subst (λ p. p ≤ c.in-Some.at) there c.in-Some.ensures.from;
        near = subst (λ p. c.in-Some.at < p + 8) there
            (omega (arith, c.in-Some.ensures.end, c.end_of-end.ensures.near));
      };
      vacant = c.in-Some.ensures.vacant;
      absent = c.requires.absent;
    }
