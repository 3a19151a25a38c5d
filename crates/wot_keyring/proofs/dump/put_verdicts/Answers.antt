use Rattle.std.proofs.Common.{◌≡◌, ◌∷◌, ◌∙◌, ap, map, subst}
use Rattle.wot_verdict.specs.Verdicts.{Entries}
use Rattle.wot_keyring.specs.Dump.{setting, setting_of}
use Rattle.wot_keyring.proofs.Lines.{PutSoFar, all_lined, all_put, none_put, one_put}
use Rattle.wot_keyring.proofs.dump.put_verdicts.Goals as goal

pub verdicts-init : goal.verdicts-init
verdicts-init c = (
  tt,
  tt,
  none_put c.args.out.now.items (map setting_of c.args.verdicts.now.entries)
      (map setting_of c.into_iter-number-iterator.result)
      (ap (map setting_of) (c.into_iter-number-iterator.ensures.into_iter_gives ∙ c.iter-number-items.ensures.entries)),
)

pub verdicts-preserved : goal.verdicts-preserved
verdicts-preserved c =
    let Left : Entries → Type 0 = λ rest. PutSoFar c.args.out.now.items c.verdicts.out.items
    (map setting_of c.args.verdicts.now.entries) (map setting_of rest) in
    let next : c.verdicts.number-iterator ≡ (c.in-Some.number, c.in-Some.verdict) ∷ c.next.new.self =
    c.in-Some.ensures.steps in (
      tt,
      tt,
      one_put c.args.out.now.items c.verdicts.out.items c.put_verdict.new.out.items
          (map setting_of c.args.verdicts.now.entries) (setting c.in-Some.number c.in-Some.verdict)
          (map setting_of c.next.new.self) (subst Left next c.verdicts.invariant.2) c.in_default.ensures.appended
          c.in_default.ensures.line,
    )

pub returns-clause-appended : goal.returns-clause-appended
returns-clause-appended c =
    all_put c.args.out.now.items c.verdicts.out.items (map setting_of c.args.verdicts.now.entries)
    (map setting_of c.verdicts.number-iterator) c.verdicts.invariant.2 (ap (map setting_of) c.in-None.ensures.steps.0)

pub returns-clause-lines : goal.returns-clause-lines
returns-clause-lines c =
    all_lined c.args.out.now.items c.verdicts.out.items (map setting_of c.args.verdicts.now.entries)
    (map setting_of c.verdicts.number-iterator) c.verdicts.invariant.2 (ap (map setting_of) c.in-None.ensures.steps.0)
