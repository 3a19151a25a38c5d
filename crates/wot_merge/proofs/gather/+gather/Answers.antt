use Rattle.std.proofs.Common.{◌/◌, length}
use Rattle.wot_merge.proofs.GatheredMerges.{both_halves, none_first, none_second, same_poured, none_poured}
use Rattle.wot_merge.proofs.gather.+gather.Goals as goal

pub returns-in-Err-clause-clash : goal.returns-in-Err-clause-clash
returns-in-Err-clause-clash t c =
    none_first c.united_whole.ensures.united c.united_whole.ensures.judged c.args.list.now c.split_at.result.0.now
    c.split_at.result.1.now (both_halves (length c.args.list.now / 2) c.args.list.now c.split_at.result.0.now
    c.split_at.result.1.now c.split_at.ensures.front c.split_at.ensures.back)
    c.in-Err.fault c.in-Err.ensures.clash

pub returns-in-Err-gather-clause-clash : goal.returns-in-Err-gather-clause-clash
returns-in-Err-gather-clause-clash t c =
    none_second c.united_whole.ensures.united c.united_whole.ensures.judged c.args.list.now c.split_at.result.0.now
    c.split_at.result.1.now (both_halves (length c.args.list.now / 2) c.args.list.now c.split_at.result.0.now
    c.split_at.result.1.now c.split_at.ensures.front c.split_at.ensures.back)
    c.in-Ok.certs.entries c.in-Ok.certs.entries c.in-Ok.ensures.own c.in-Ok.ensures.same
    c.in-Err-gather.fault c.in-Err-gather.ensures.clash

pub returns-in-Ok-pour-clause-same : goal.returns-in-Ok-pour-clause-same
returns-in-Ok-pour-clause-same t c =
    same_poured c.united_whole.ensures.united c.united_whole.ensures.judged c.args.list.now c.split_at.result.0.now
    c.split_at.result.1.now (both_halves (length c.args.list.now / 2) c.args.list.now c.split_at.result.0.now
    c.split_at.result.1.now c.split_at.ensures.front c.split_at.ensures.back)
    c.in-Ok.certs.entries c.in-Ok-gather.others.entries c.in-Ok.ensures.own c.in-Ok.ensures.same
    c.in-Ok-gather.ensures.same
    c.pour.new.certs.entries c.in-Ok-pour.ensures.same

pub returns-in-Err-pour-clause-clash : goal.returns-in-Err-pour-clause-clash
returns-in-Err-pour-clause-clash t c =
    none_poured c.united_whole.ensures.united c.united_whole.ensures.judged c.args.list.now c.split_at.result.0.now
    c.split_at.result.1.now (both_halves (length c.args.list.now / 2) c.args.list.now c.split_at.result.0.now
    c.split_at.result.1.now c.split_at.ensures.front c.split_at.ensures.back)
    c.in-Ok.certs.entries c.in-Ok-gather.others.entries c.in-Ok.ensures.own c.in-Ok.ensures.same
    c.in-Ok-gather.ensures.same
    c.in-Err-pour.fault c.in-Err-pour.ensures.clash
