use Rattle.std.proofs.Common.{◌≡◌, ◌++◌, ◌∷◌, [], ◌/◌, arith, length, codes}
use Rattle.wot_script.specs.declared.command.Command.TheVariants.{Time, Root}
use Rattle.wot_gen.proofs.CommandsAppended.{identity_read, views_put}
use Rattle.wot_gen.proofs.commands.put_views.Goals as goal

pub returns : goal.returns
returns c = record {
  put = λ start all.
      let identities = c.args.identities.now in
      let first = c.index-identities-0.result in
      let middle = c.index-identities-identities.result in
      let one = identity_read start (length identities) identities 0 first all c.requires.some
      c.index-identities-0.is in
      let half = identity_read start (length identities) identities (length identities / 2) middle all (omega arith)
      c.index-identities-identities.is in
      let e : c.push.new.self.items ≡ ((c.args.commands.now.items ++ Time (codes "a") 1200000000 ∷ Root
      (codes "a") first.fpr 120 ∷ [])
      ++ Time (codes "b") 1200000000 ∷ Root (codes "b") first.fpr 60 ∷ []) ++ Root (codes "b") middle.fpr 60 ∷ [] =
      cc (
        c.in_ok-put_view.ensures.put,
        c.in_ok-put_view-2.ensures.put,
        c.in_ok-name.ensures,
        c.in_ok-push.ensures.items,
      ) in
      views_put start (length identities) first middle c.args.commands.now.items c.push.new.self.items one half e;
}
