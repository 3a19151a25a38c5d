use Rattle.std.proofs.Common.{ap}
use Rattle.wot_explain.specs.declared.explained.Explained.{Explained}
use Rattle.wot_explain.proofs.Places.{not_placed, not_kept, nothing_at, all_at, few_at}
use Rattle.wot_explain.proofs.Reasoned.{edges_told}
use Rattle.wot_explain.proofs.explaining.explain.Goals as goal

pub returns-in_default : goal.returns-in_default
returns-in_default g c = record {
  explained = not_placed c.args.keyring.now c.args.t c.args.fpr.now c.args.uid.now (g.R.Roads.network c.args.roads.now)
      c.requires.present c.in_default.ensures.place;
  edges = tt;
}

pub returns-in_default-get : goal.returns-in_default-get
returns-in_default-get g c = record {
  explained = not_kept c.args.keyring.now c.args.t c.args.fpr.now c.args.uid.now
      c.in_default-get.ensures.found;
  edges = tt;
}

pub returns-in_default-user_id_at : goal.returns-in_default-user_id_at
returns-in_default-user_id_at g c = record {
  explained = nothing_at c.args.keyring.now c.args.t c.args.fpr.now c.args.uid.now (g.R.Roads.network c.args.roads.now)
      c.requires.present
      c.in-Some.place c.in-Some-get.cert.now c.in-Some.ensures.place c.in-Some-get.ensures.found c.user_ids.result.now
      c.user_ids.ensures.user_ids c.in_default-user_id_at.ensures;
  edges = tt;
}

pub explain_on-requires : goal.explain_on-requires
explain_on-requires g c = record {
  few = few_at c.in-Some-get.cert.now c.in-Some-get.ensures.size c.user_ids.result.now c.user_ids.ensures.user_ids
      c.in-Some.place c.in-Some-user_id_at.part.now c.in-Some-user_id_at.ensures;
}

pub returns-in-Ok : goal.returns-in-Ok
returns-in-Ok g c = record {
  explained = all_at c.args.keyring.now c.args.t c.args.fpr.now c.args.uid.now (g.R.Roads.network c.args.roads.now)
      c.requires.present
      c.in-Some.place c.in-Some-get.cert.now c.in-Some.ensures.place c.in-Some-get.ensures.found c.user_ids.result.now
      c.user_ids.ensures.user_ids
      c.in-Some-user_id_at.part.now c.in-Some-user_id_at.ensures c.in-Ok.explained c.in-Ok.ensures.explained;
  edges = edges_told c.args.keyring.now c.args.t c.args.fpr.now c.args.uid.now (g.R.Roads.network c.args.roads.now)
      c.requires.present
      c.in-Some.place c.in-Some-get.cert.now c.in-Some.ensures.place c.in-Some-get.ensures.found c.user_ids.result.now
      c.user_ids.ensures.user_ids
      c.in-Some-user_id_at.part.now c.in-Some-user_id_at.ensures c.in-Ok.ensures.rises c.in-Ok.explained.certs
      (ap (λ (network : Explained). network.certs) c.in-Ok.ensures.explained);
}
