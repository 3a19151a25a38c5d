use Rattle.std.proofs.Common.{◌<◌, ◌^◌, length, subst, arith}
use Rattle.std.specs.List.{flat_map}
use Rattle.wot_types.specs.declared.limits.Limits.{Limits}
use Rattle.wot_keyring_spec.specs.Kept.{AreSmall}
use Rattle.wot_cache.specs.Dump.{engine_of, view_commands}
use Rattle.wot_cache.proofs.DumpSize.{dump_fits}
use Rattle.wot_cache.proofs.Lines.{dumped, dumped_lines, few_lines}
use Rattle.wot_cache.proofs.dump.put_engine.Goals as goal

pub put_views-requires : goal.put_views-requires
put_views-requires c =
    let Small : Limits → Type 0 = λ l. AreSmall l in
    record {
      few = few_lines c.args.keyring.now.limits c.args.views.now.entries
          (subst Small c.limits-limits.ensures.limits c.limits-limits.ensures.small) c.requires.within;
    }

pub overflow_add-result : goal.overflow_add-result
overflow_add-result c =
    let Small : Limits → Type 0 = λ l. AreSmall l in
    let few : length (flat_map view_commands c.args.views.now.entries) < 2 ^ 32 =
    few_lines c.args.keyring.now.limits c.args.views.now.entries
    (subst Small c.limits-limits.ensures.limits c.limits-limits.ensures.small) c.requires.within in
    omega (arith, c.in_ok-held.ensures.few, c.in-Ok.ensures.count, few)

pub returns-in-Ok-clause-lines : goal.returns-in-Ok-clause-lines
returns-in-Ok-clause-lines c =
    dumped (engine_of c.args.keyring.now c.args.views.now.entries) c.args.out.now.items c.dump.new.out.items
    c.put_views.new.out.items
    c.in_ok-held.ensures.lines c.in-Ok.ensures.appended

pub returns-in-Ok-clause-read_back : goal.returns-in-Ok-clause-read_back
returns-in-Ok-clause-read_back c =
    dumped_lines (engine_of c.args.keyring.now c.args.views.now.entries) c.in_ok-held.ensures.read_back
    c.in-Ok.ensures.lines

pub returns-in-Ok-clause-restored : goal.returns-in-Ok-clause-restored
returns-in-Ok-clause-restored c =
    λ rows. c.replayed.ensures rows (engine_of c.args.keyring.now c.args.views.now.entries) (record {
      keyring = c.in_ok-held.ensures.restored rows;
      within = c.requires.within;
      roots = c.in-Ok.ensures.roots;
      sorted = c.put_views.ensures.sorted;
    })

pub returns-in-Ok-clause-size : goal.returns-in-Ok-clause-size
returns-in-Ok-clause-size c =
    let Small : Limits → Type 0 = λ l. AreSmall l in
    dump_fits (engine_of c.args.keyring.now c.args.views.now.entries)
    (subst Small c.limits-limits.ensures.limits c.limits-limits.ensures.small) c.requires.within
    c.in_ok-held.ensures.size (returns-in-Ok-clause-read_back c)
