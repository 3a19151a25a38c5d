use Rattle.std.proofs.Common.{◌≡◌, List, ℕ, ap, ◌∙◌}
use Rattle.wot_cert.specs.Drafting.{groups_in, bodies_in, unite_bodies, sigs_at}
use Rattle.wot_cert.proofs.Drafts.{insert_seen, insert_group, put_again}
use Rattle.wot_cert.proofs.draft.put_group.Goals as goal

pub returns : goal.returns
returns c =
    let old = groups_in c.args.groups.now.entries in
    let all : bodies_in c.pour.new.bodies ≡ unite_bodies (sigs_at c.args.body.now old) (bodies_in c.args.sigs.now) =
    c.in_ok-pour.ensures.poured
    ∙ ap (λ (x : List (List ℕ)). unite_bodies x (bodies_in c.args.sigs.now)) c.take_out-all.ensures.sigs in
    record {
      put = ap groups_in c.in_ok-insert.ensures.entries
          ∙ insert_seen c.args.body c.pour.new.bodies c.take_out-all.new.groups.entries
          ∙ ap (λ (x : List (List ℕ)). insert_group (c.args.body.now, x) (groups_in c.take_out-all.new.groups.entries))
          all
          ∙ ap (insert_group (c.args.body.now, unite_bodies (sigs_at c.args.body.now old) (bodies_in c.args.sigs.now)))
          c.take_out-all.ensures.groups
          ∙ put_again c.args.body.now (bodies_in c.args.sigs.now) old c.requires.groups c.requires.sigs;
    }
