use Rattle.std.proofs.Common.{ℕ, ◌+◌, ◌≤◌, List, [], ◌∷◌, ◌++◌, length, refl, sym, ap, ◌∙◌, arith}
use Rattle.std.specs.List.{insert}
use Rattle.wot_policy.specs.Kept.{rows_of}
use Rattle.wot_component.specs.Certificate.{Signature, sig_cmp, kept}
use Rattle.wot_component.specs.Judged.{if_sound, judged_sig}
use Rattle.wot_component.specs.Ranked.{put}
use Rattle.wot_component.specs.Sizes.{sig_size}
use Rattle.wot_component.proofs.Inserted.{set_same, put_back, follow_insert, sum_put}
use Rattle.wot_component.proofs.growing.put_sig.Goals as goal

pub insert_judged-requires-clause-within : goal.insert_judged-requires-clause-within
insert_judged-requires-clause-within g c =
    let within = (c.in-Err.ensures c.args.sig.now refl).0 in
    omega (arith, within, c.deref.ensures.value, c.deref.ensures.len, c.reserve.ensures.len)

pub returns-in-Ok-clause-put : goal.returns-in-Ok-clause-put
returns-in-Ok-clause-put g c =
    let s : Signature = judged_sig (rows_of c.args.policy.now) c.args.sig.now in
    let told = c.in-Ok.ensures s refl in
    sym (ap (put sig_cmp kept s) (sym c.deref.ensures.value) ∙ told.1 s
    ∙ set_same c.deref.result.now c.in-Ok.field-0 s told.0 ∙ c.deref.ensures.value)

pub returns-in_ok-copy-in-Err-clause-back : goal.returns-in_ok-copy-in-Err-clause-back
returns-in_ok-copy-in-Err-clause-back g c =
    let xs = c.args.sigs.now.items in
    let at = c.in-Err.at in
    let y : Signature = judged_sig (rows_of c.args.policy.now) c.in_ok-copy-in-Err.copy in
    let range = (c.in-Err.ensures c.args.sig.now refl).0 in
    let within : at ≤ length xs = omega (arith, range, ap length c.deref.ensures.value) in
    put_back c.args.log.now.items c.insert_judged.new.log.items at xs c.insert_judged.new.sigs.items y within
    (c.insert_judged.ensures.logged ∙ ap (λ (l : List ℕ). l ++ at ∷ []) c.reserve-in-Err.ensures.items)
    (c.insert_judged.ensures.put ∙ ap (λ (l : List Signature). insert l at y) c.reserve.ensures.items)

pub returns-in_ok-copy-in-Err-clause-follow : goal.returns-in_ok-copy-in-Err-clause-follow
returns-in_ok-copy-in-Err-clause-follow g c =
    let xs = c.args.sigs.now.items in
    let at = c.in-Err.at in
    let y : Signature = judged_sig (rows_of c.args.policy.now) c.in_ok-copy-in-Err.copy in
    let range = (c.in-Err.ensures c.args.sig.now refl).0 in
    let within : at ≤ length xs = omega (arith, range, ap length c.deref.ensures.value) in
    follow_insert (λ _. 1) (λ _. 1) sig_size c.args.totals.now c.of_sig.result c.with.result c.args.sig.now y xs
    c.insert_judged.new.sigs.items at c.of_sig.ensures c.with.ensures within
    (c.insert_judged.ensures.put ∙ ap (λ (l : List Signature). insert l at y) c.reserve.ensures.items) refl refl
    (ap sig_size c.in_ok-copy-in-Err.ensures.marked)

pub returns-in_ok-copy-in-Err-clause-asked : goal.returns-in_ok-copy-in-Err-clause-asked
returns-in_ok-copy-in-Err-clause-asked g c =
    let xs = c.args.sigs.now.items in
    let at = c.in-Err.at in
    let copy = c.in_ok-copy-in-Err.copy in
    let y : Signature = judged_sig (rows_of c.args.policy.now) copy in
    let range = (c.in-Err.ensures c.args.sig.now refl).0 in
    let within : at ≤ length xs = omega (arith, range, ap length c.deref.ensures.value) in (
      if_sound copy,
      c.insert_judged.ensures.asked,
      sum_put if_sound xs c.insert_judged.new.sigs.items at y (if_sound copy) within
          (c.insert_judged.ensures.put ∙ ap (λ (l : List Signature). insert l at y) c.reserve.ensures.items) refl,
    )
