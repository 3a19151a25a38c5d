use Rattle.std.proofs.Common.{◌≡◌, ◌+◌, ◌≤◌, ◌∷◌, [], List, refl, sym, ap, ◌∙◌, subst}
use Rattle.std.specs.List.{AllByRecursion}
use Rattle.wot_policy.specs.declared.rows.PolicyRows.{PolicyRows}
use Rattle.wot_policy.specs.Kept.{rows_of}
use Rattle.wot_component.specs.Certificate.{Component, part_cmp, part_with, unite_part}
use Rattle.wot_component.specs.Counts.{sum_of}
use Rattle.wot_component.specs.Fitting.{PartFits}
use Rattle.wot_component.specs.Growing.{sound_weight}
use Rattle.wot_component.specs.Judged.{if_sound, judged_sig}
use Rattle.wot_component.specs.Ranked.{put, IsRising}
use Rattle.wot_component.specs.Sizes.{part_items, part_signatures, part_size}
use Rattle.wot_component.proofs.PolicyAsked.{asked_again}
use Rattle.wot_component.proofs.Follows.{follow_then}
use Rattle.wot_component.proofs.Onward.{all_front, union_on, put_within, counted_on, counted_up_to}
use Rattle.wot_component.proofs.Rank.{united_rises}
use Rattle.wot_component.proofs.Walk.{parts_total, parts_same}
use Rattle.wot_component.proofs.Weights.{part_more}
use Rattle.wot_component.proofs.growing.put_parts.Goals as goal

pub left-preserved : goal.left-preserved
left-preserved g c =
    let i = c.left.invariant in
    let rows : PolicyRows = rows_of c.args.policy.now in
    let done = c.in-Ok.ensures in
    let more = done.asked in
    let now = c.left.parts.items in
    let part = c.in-Some.part.now in
    let rest = c.in-Some.rest.now in
    let next : c.put_part.new.parts.items ≡ put part_cmp unite_part (part_with (judged_sig rows) part) now =
    done.put ∙ ap (λ (r : PolicyRows). put part_cmp unite_part (part_with (judged_sig r) part) now)
    (ap rows_of i.asked.1) in
    record {
      rises = subst (λ (xs : List Component). IsRising part_cmp xs) (sym next)
          (united_rises part_cmp unite_part parts_total parts_same now (part_with (judged_sig rows) part ∷ []) i.rises);
      fit = all_front PartFits rest (part ∷ [])
          (subst (λ (xs : List Component). AllByRecursion PartFits xs) c.in-Some.ensures.cases.0 i.fit);
      union = union_on part_cmp unite_part (part_with (judged_sig rows)) now c.put_part.new.parts.items
          c.args.parts.now.items c.left.left.now rest c.args.more.now part i.union c.in-Some.ensures.cases.0 next;
      back = done.back ∙ i.back;
      follow = follow_then part_items part_signatures part_size c.args.totals.now c.left.totals c.put_part.new.totals
          c.args.parts.now.items now c.put_part.new.parts.items i.follow done.follow;
      asked = (
        i.asked.0 + more.0,
        asked_again c.args.policy.now c.left.policy c.put_part.new.policy i.asked.0 more.0 i.asked.1 more.1,
        counted_on i.asked.0 more.0 _ _ _ i.asked.2 (more.2 ∙ ap (sum_of sound_weight) (sym done.put)),
      );
      faithful = done.faithful;
    }

pub returns-in-Err-clause-asked : goal.returns-in-Err-clause-asked
returns-in-Err-clause-asked g c =
    let i = c.left.invariant in
    let rows : PolicyRows = rows_of c.args.policy.now in
    let more = c.in-Err.ensures.asked in
    let now = c.left.parts.items in
    let part = c.in-Some.part.now in
    let same : sum_of sound_weight
    (put part_cmp unite_part (part_with (judged_sig (rows_of c.left.policy)) part) now) ≡ sum_of sound_weight
    (put part_cmp unite_part (part_with (judged_sig rows) part) now) =
    ap (λ (r : PolicyRows). sum_of sound_weight
    (put part_cmp unite_part (part_with (judged_sig r) part) now)) (ap rows_of i.asked.1) in
    let up_to = subst (λ n. more.0 + sum_of sound_weight now ≤ n) same more.2 in
    let within = put_within part_cmp unite_part (part_with (judged_sig rows)) sound_weight
    (part_more if_sound (λ _. 0) (λ x y. refl)) now c.args.parts.now.items c.left.left.now c.in-Some.rest.now
    c.args.more.now part i.union c.in-Some.ensures.cases.0 in (
      i.asked.0 + more.0,
      asked_again c.args.policy.now c.left.policy c.put_part.new.policy i.asked.0 more.0 i.asked.1 more.1,
      counted_up_to i.asked.0 more.0 _ _ _ _ i.asked.2 up_to within,
    )
