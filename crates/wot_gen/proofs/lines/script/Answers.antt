use Rattle.std.proofs.Common.{◌∙◌, ap, length, subst, sym}
use Rattle.std.specs.List.{AllByRecursion}
use Rattle.wot_script.specs.Spelling.{HasSpelling}
use Rattle.wot_gen.proofs.ScriptLines.{commands_counted}
use Rattle.wot_gen.specs.Script.{IsReadBack}
use Rattle.wot_gen.proofs.Sizes.{script_fits}
use Rattle.wot_gen.proofs.Spelled.{commands-spelled}
use Rattle.wot_gen.proofs.lines.script.Goals as goal

pub text-requires : goal.text-requires
text-requires c =
    subst (AllByRecursion HasSpelling) (sym (c.deref.ensures.value ∙ c.in_ok-commands.ensures.made))
    (commands-spelled c.args.start c.args.count)

pub returns-clause-counted : goal.returns-clause-counted
returns-clause-counted c =
    c.len.ensures ∙ sym c.deref.ensures.len
    ∙ ap length (c.deref.ensures.value ∙ c.in_ok-commands.ensures.made)
    ∙ commands_counted c.args.start c.args.count c.requires.some

pub returns-clause-small : goal.returns-clause-small
returns-clause-small c =
    script_fits c.args.start c.args.count c.requires.few
    (subst (AllByRecursion IsReadBack) (c.deref.ensures.value ∙ c.in_ok-commands.ensures.made)
    c.in_ok-text.ensures.read_back)
