use Rattle.std.proofs.Common.{◌≡◌, ◌+◌, ◌∷◌, [], List, sym, ap, ◌∙◌, subst}
use Rattle.std.specs.List.{AllByRecursion}
use Rattle.wot_policy.specs.declared.rows.PolicyRows.{PolicyRows}
use Rattle.wot_policy.specs.Kept.{rows_of}
use Rattle.wot_component.specs.Certificate.{Signature, sig_cmp, kept}
use Rattle.wot_component.specs.Counts.{sum_of}
use Rattle.wot_component.specs.Fitting.{SigFits}
use Rattle.wot_component.specs.Judged.{if_sound, judged_sig}
use Rattle.wot_component.specs.Ranked.{put, IsRising}
use Rattle.wot_component.specs.Sizes.{sig_size}
use Rattle.wot_component.proofs.PolicyAsked.{asked_again}
use Rattle.wot_component.proofs.Follows.{follow_then}
use Rattle.wot_component.proofs.Onward.{all_front, union_on, put_within, counted_on, no_less, least_sum, put_then}
use Rattle.wot_component.proofs.Rank.{united_rises}
use Rattle.wot_component.proofs.Walk.{sigs_total, kept_same}
use Rattle.wot_component.proofs.growing.put_sigs.Goals as goal

pub left-preserved : goal.left-preserved
left-preserved g c =
    let i = c.left.invariant in
    let rows : PolicyRows = rows_of c.args.policy.now in
    let done = c.in-Ok.ensures in
    let more = done.asked in
    let now = c.left.sigs.items in
    let sig = c.in-Some.sig.now in
    let rest = c.in-Some.rest.now in
    let next : c.put_sig.new.sigs.items ≡ put sig_cmp kept (judged_sig rows sig) now =
    done.put ∙ ap (λ (r : PolicyRows). put sig_cmp kept (judged_sig r sig) now) (ap rows_of i.asked.1) in
    record {
      rises = subst (λ (xs : List Signature). IsRising sig_cmp xs) (sym next)
          (united_rises sig_cmp kept sigs_total kept_same now (judged_sig rows sig ∷ []) i.rises);
      fit = all_front SigFits rest (sig ∷ [])
          (subst (λ (xs : List Signature). AllByRecursion SigFits xs) c.in-Some.ensures.cases.0 i.fit);
      union = union_on sig_cmp kept (judged_sig rows) now c.put_sig.new.sigs.items c.args.sigs.now.items c.left.left.now
          rest c.args.more.now sig i.union c.in-Some.ensures.cases.0 next;
      back = done.back ∙ i.back;
      follow = follow_then (λ _. 1) (λ _. 1) sig_size c.args.totals.now c.left.totals c.put_sig.new.totals
          c.args.sigs.now.items now c.put_sig.new.sigs.items i.follow done.follow;
      asked = (
        i.asked.0 + more.0,
        asked_again c.args.policy.now c.left.policy c.put_sig.new.policy i.asked.0 more.0 i.asked.1 more.1,
        counted_on i.asked.0 more.0 _ _ _ i.asked.2 more.2,
      );
      faithful = done.faithful;
    }

pub returns-in-Err-clause-asked : goal.returns-in-Err-clause-asked
returns-in-Err-clause-asked g c =
    let i = c.left.invariant in
    let rows : PolicyRows = rows_of c.args.policy.now in
    let more = c.in-Err.ensures.asked in
    let now = c.left.sigs.items in
    let sig = c.in-Some.sig.now in
    let same : sum_of if_sound c.put_sig.new.sigs.items ≡ sum_of if_sound now =
    ap (sum_of if_sound) c.in-Err.ensures.same in
    let within = put_within sig_cmp kept (judged_sig rows) if_sound (λ x y. least_sum (if_sound x)) now
    c.args.sigs.now.items c.left.left.now c.in-Some.rest.now c.args.more.now sig i.union
    c.in-Some.ensures.cases.0 in
    let before = put_then sig_cmp kept if_sound (λ x y. least_sum (if_sound x)) (judged_sig rows sig) now _ within in (
      i.asked.0 + more.0,
      asked_again c.args.policy.now c.left.policy c.put_sig.new.policy i.asked.0 more.0 i.asked.1 more.1,
      no_less i.asked.0 more.0 _ _ _ _ i.asked.2 more.2 same before,
    )
