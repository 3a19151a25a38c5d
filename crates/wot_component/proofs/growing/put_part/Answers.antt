use Rattle.std.proofs.Common.{◌≡◌, ◌++◌, ◌∷◌, List, [], refl, sym, ap, ◌∙◌, subst, arith}
use Rattle.std.specs.Prelude.{Ok, Err, slice_set}
use Rattle.std.specs.List.{insert}
use Rattle.wot_policy.specs.Kept.{rows_of}
use Rattle.wot_policy.specs.declared.rows.PolicyRows.{PolicyRows}
use Rattle.wot_component.specs.declared.growth.PartStep.{PartStep}
use Rattle.wot_component.specs.declared.growth.PartStep.TheVariants.{New, Grown}
use Rattle.wot_component.specs.Certificate.{Component, part_cmp, unite_part, part_with}
use Rattle.wot_component.specs.Counts.{sum_of}
use Rattle.wot_component.specs.Growing.{TellsPlace, sound_weight}
use Rattle.wot_component.specs.Judged.{if_sound, judged_sig}
use Rattle.wot_component.specs.New.{judged_part, sound_new}
use Rattle.wot_component.specs.Sizes.{part_items, part_signatures, part_size}
use Rattle.wot_component.proofs.Backs.{parts_last}
use Rattle.wot_component.proofs.Changed.{grown_back, follow_set, weighed_set, weighed_up_to}
use Rattle.wot_component.proofs.Fresh.{fresh_judged, fresh_sound, fresh_items, fresh_signatures, fresh_size}
use Rattle.wot_component.proofs.Inserted.{put_part_back, follow_insert, sum_put, set_same}
use Rattle.wot_component.proofs.PolicyAsked.{not_asked}
use Rattle.wot_component.proofs.Onward.{none_asked}
use Rattle.wot_component.proofs.Weights.{part_more}
use Rattle.wot_component.proofs.growing.put_part.Goals as goal

-- ---- nothing is merged

pub returns-in-Err-clause-asked : goal.returns-in-Err-clause-asked
returns-in-Err-clause-asked g c = (
  0,
  not_asked c.args.policy.now,
  none_asked part_cmp unite_part sound_weight (part_more if_sound (λ _. 0) (λ x y. refl))
      (part_with (judged_sig (rows_of c.args.policy.now)) c.args.part.now) c.args.parts.now.items,
)

pub returns-in-Err-copy_ready-clause-asked : goal.returns-in-Err-copy_ready-clause-asked
returns-in-Err-copy_ready-clause-asked g c = (
  0,
  not_asked c.args.policy.now,
  none_asked part_cmp unite_part sound_weight (part_more if_sound (λ _. 0) (λ x y. refl))
      (part_with (judged_sig (rows_of c.args.policy.now)) c.args.part.now) c.args.parts.now.items,
)

-- ---- into the one with its body

pub index_mut-there-requires : goal.index_mut-there-requires
index_mut-there-requires g c =
    let within = (c.in-Ok-find_part.ensures c.args.part.now refl).0 in
    omega (arith, within, c.deref.ensures.len)

pub returns-in-Ok-grow-clause-put : goal.returns-in-Ok-grow-clause-put
returns-in-Ok-grow-clause-put g c =
    let at = c.in-Ok-find_part.at in
    let like : Component = part_with (judged_sig (rows_of c.args.policy.now)) c.args.part.now in
    let ps = c.args.parts.now.items in
    let p = c.index_mut-there.result.now in
    let told = subst (λ (xs : List Component). TellsPlace part_cmp unite_part like xs (Ok at)) c.deref.ensures.value
    (c.in-Ok-find_part.ensures like refl) in
    sym (told.1 p ∙ ap (λ (x : Component). slice_set ps at (unite_part x like)) (sym c.index_mut-there.ensures.value)
    ∙ ap (slice_set ps at) (sym c.in-Ok-grow.ensures.united))

pub returns-in-Ok-grow-clause-back : goal.returns-in-Ok-grow-clause-back
returns-in-Ok-grow-clause-back g c =
    let at = c.in-Ok-find_part.at in
    let log = c.args.log.now.items in
    let step = Grown at c.in-Ok-grow.grown in
    let told = subst (λ (xs : List Component). TellsPlace part_cmp unite_part c.args.part.now xs (Ok at))
    c.deref.ensures.value (c.in-Ok-find_part.ensures c.args.part.now refl) in
    grown_back log c.note.new.log.items step at c.in-Ok-grow.grown.items c.args.parts.now.items _
    c.index_mut-there.result.now c.grow.new.self told.0 (λ rs. parts_last log step rs)
    (c.note.ensures.logged ∙ ap (λ (l : List PartStep). l ++ step ∷ []) c.reserve.ensures.items) refl
    c.index_mut-there.ensures.value c.in-Ok-grow.ensures.back

pub returns-in-Ok-grow-clause-follow : goal.returns-in-Ok-grow-clause-follow
returns-in-Ok-grow-clause-follow g c =
    let at = c.in-Ok-find_part.at in
    let told = subst (λ (xs : List Component). TellsPlace part_cmp unite_part c.args.part.now xs (Ok at))
    c.deref.ensures.value (c.in-Ok-find_part.ensures c.args.part.now refl) in
    follow_set _ _ c.args.parts.now.items at c.index_mut-there.result.now c.grow.new.self told.0
    c.index_mut-there.ensures.value (ap (λ (x : Component). x.body) c.in-Ok-grow.ensures.united)
    c.in-Ok-grow.ensures.follow

pub returns-in-Ok-grow-clause-asked : goal.returns-in-Ok-grow-clause-asked
returns-in-Ok-grow-clause-asked g c =
    let at = c.in-Ok-find_part.at in
    let like : Component = part_with (judged_sig (rows_of c.args.policy.now)) c.args.part.now in
    let ps = c.args.parts.now.items in
    let p = c.index_mut-there.result.now in
    let there = c.index_mut-there.ensures.value in
    let told = subst (λ (xs : List Component). TellsPlace part_cmp unite_part like xs (Ok at)) c.deref.ensures.value
    (c.in-Ok-find_part.ensures like refl) in
    let asked = c.in-Ok-grow.ensures.asked in
    let weighed = weighed_set if_sound ps at p (unite_part p like) asked.0 told.0 there asked.2 in (
      asked.0,
      asked.1,
      weighed ∙ ap (λ (x : Component). sum_of sound_weight (slice_set ps at (unite_part x like))) there
          ∙ ap (sum_of sound_weight) (sym (told.1 p)),
    )

pub returns-in-Err-grow-clause-same : goal.returns-in-Err-grow-clause-same
returns-in-Err-grow-clause-same g c =
    let at = c.in-Ok-find_part.at in
    let ps = c.args.parts.now.items in
    let p = c.index_mut-there.result.now in
    let told = subst (λ (xs : List Component). TellsPlace part_cmp unite_part c.args.part.now xs (Ok at))
    c.deref.ensures.value (c.in-Ok-find_part.ensures c.args.part.now refl) in
    ap (slice_set ps at) (c.in-Err-grow.ensures.same ∙ c.index_mut-there.ensures.value) ∙ set_same ps at p told.0

pub returns-in-Err-grow-clause-asked : goal.returns-in-Err-grow-clause-asked
returns-in-Err-grow-clause-asked g c =
    let at = c.in-Ok-find_part.at in
    let like : Component = part_with (judged_sig (rows_of c.args.policy.now)) c.args.part.now in
    let ps = c.args.parts.now.items in
    let p = c.index_mut-there.result.now in
    let there = c.index_mut-there.ensures.value in
    let told = subst (λ (xs : List Component). TellsPlace part_cmp unite_part like xs (Ok at)) c.deref.ensures.value
    (c.in-Ok-find_part.ensures like refl) in
    let asked = c.in-Err-grow.ensures.asked in
    let weighed = weighed_up_to if_sound ps at p (unite_part p like) asked.0 told.0 there asked.2 in
    let e = ap (λ (x : Component). sum_of sound_weight (slice_set ps at (unite_part x like))) there
    ∙ ap (sum_of sound_weight) (sym (told.1 p)) in
    (asked.0, asked.1, omega (arith, weighed, e))

-- ---- at a place of its own

pub settle_part-requires-clause-within : goal.settle_part-requires-clause-within
settle_part-requires-clause-within g c =
    let within = (c.in-Err-find_part.ensures c.args.part.now refl).0 in
    omega (arith, within, c.deref.ensures.len, c.copy_ready.ensures.len)

pub returns-in-Ok-copy_ready-clause-put : goal.returns-in-Ok-copy_ready-clause-put
returns-in-Ok-copy_ready-clause-put g c =
    let at = c.in-Err-find_part.at in
    let copied = c.in-Ok-copy_ready.ensures in
    let rows : PolicyRows = rows_of c.args.policy.now in
    let like : Component = part_with (judged_sig rows) c.args.part.now in
    let told = subst (λ (xs : List Component). TellsPlace part_cmp unite_part like xs (Err at)) c.deref.ensures.value
    (c.in-Err-find_part.ensures like refl) in
    let new : judged_part rows [] c.in-Ok-copy_ready.copy ≡ like =
    ap (judged_part rows []) copied.copy ∙ fresh_judged rows c.args.part.now in
    c.settle_part.ensures.put ∙ (λ i. insert (copied.items i) at (new i)) ∙ sym told.1

pub returns-in-Ok-copy_ready-clause-back : goal.returns-in-Ok-copy_ready-clause-back
returns-in-Ok-copy_ready-clause-back g c =
    let at = c.in-Err-find_part.at in
    let new = judged_part (rows_of c.args.policy.now) [] c.in-Ok-copy_ready.copy in
    let told = subst (λ (xs : List Component). TellsPlace part_cmp unite_part c.args.part.now xs (Err at))
    c.deref.ensures.value (c.in-Err-find_part.ensures c.args.part.now refl) in
    put_part_back c.args.log.now.items c.settle_part.new.log.items at c.args.parts.now.items
    c.settle_part.new.parts.items new told.0
    (c.settle_part.ensures.logged ∙ ap (λ (l : List PartStep). l ++ New at ∷ []) c.reserve.ensures.items)
    (c.settle_part.ensures.put ∙ ap (λ (ps : List Component). insert ps at new) c.in-Ok-copy_ready.ensures.items)

pub returns-in-Ok-copy_ready-clause-follow : goal.returns-in-Ok-copy_ready-clause-follow
returns-in-Ok-copy_ready-clause-follow g c =
    let at = c.in-Err-find_part.at in
    let copied = c.in-Ok-copy_ready.ensures in
    let rows : PolicyRows = rows_of c.args.policy.now in
    let part = c.args.part.now in
    let like : Component = part_with (judged_sig rows) part in
    let told = subst (λ (xs : List Component). TellsPlace part_cmp unite_part part xs (Err at)) c.deref.ensures.value
    (c.in-Err-find_part.ensures part refl) in
    let new : judged_part rows [] c.in-Ok-copy_ready.copy ≡ like =
    ap (judged_part rows []) copied.copy ∙ fresh_judged rows part in
    follow_insert part_items part_signatures part_size c.args.totals.now c.of_part.result c.with.result part like
    c.args.parts.now.items c.settle_part.new.parts.items at c.of_part.ensures c.with.ensures told.0
    (c.settle_part.ensures.put ∙ (λ i. insert (copied.items i) at (new i))) (fresh_items rows part)
    (fresh_signatures rows part) (fresh_size rows part)

pub returns-in-Ok-copy_ready-clause-asked : goal.returns-in-Ok-copy_ready-clause-asked
returns-in-Ok-copy_ready-clause-asked g c =
    let at = c.in-Err-find_part.at in
    let rows : PolicyRows = rows_of c.args.policy.now in
    let part = c.args.part.now in
    let like : Component = part_with (judged_sig rows) part in
    let told = subst (λ (xs : List Component). TellsPlace part_cmp unite_part like xs (Err at)) c.deref.ensures.value
    (c.in-Err-find_part.ensures like refl) in
    let asked = c.settle_part.ensures.asked in
    let sound = fresh_sound rows part asked.0
    (asked.2 ∙ ap (λ (p : Component). sound_new p.sigs []) c.in-Ok-copy_ready.ensures.copy) in
    (asked.0, asked.1, sum_put sound_weight c.args.parts.now.items _ at like asked.0 told.0 told.1 sound)
