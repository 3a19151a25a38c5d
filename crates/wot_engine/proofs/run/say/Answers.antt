use Rattle.std.proofs.Common.{◌≡◌, ℕ, List, ◌++◌, Option, Result, Ok, Err, Some, refl, sym, ap, subst, ◌∙◌}
use Rattle.std.specs.Prelude.{OnOk}
use Rattle.wot_io.specs.declared.lines.Line.{Line}
use Rattle.wot_io.specs.declared.lines.Line.TheVariants.{Long, Text}
use Rattle.wot_policy.specs.declared.rows.PolicyRows.{PolicyRows}
use Rattle.wot_policy.specs.Kept.{rows_of}
use Rattle.wot_script.specs.declared.reply.Reply.TheVariants as replies
use Rattle.wot_script.specs.Replies.{reply_text}
use Rattle.wot_certd.specs.World.{World}
use Rattle.wot_machine.specs.Machine.{kept}
use Rattle.wot_plain.specs.Session.{Session}
use Rattle.wot_command.specs.CommandRun.{Seen}
use Rattle.wot_plain.specs.Served.{unserved}
use Rattle.wot_machine.specs.Stepped.{Stepped}
use Rattle.wot_cache.specs.State.{state_of}
use Rattle.wot_plain.proofs.Results.{any_err}
use Rattle.wot_command.proofs.DirectoryAfterFailure.{puts_still}
use Rattle.wot_plain.proofs.StepsByKind.{one_reply, too_long}
use Rattle.wot_engine.specs.LineReply.{SaidBehind, use_by}
use Rattle.wot_engine.proofs.HasAsked.{looked_at, passed_over}
use Rattle.wot_engine.proofs.run.say.Goals as goal

-- the refusal of a line that is too long, unless memory runs out
refused : {T E : Type 0} (r : Result T E) (rows : PolicyRows) (line : Line) (text : List ℕ) (old : Session)
    (world : Option World) (before after : List ℕ)
    → line ≡ Long → OnOk r (after ≡ before ++ reply_text replies.Long)
    → OnOk r (SaidBehind rows line text old world before old world after)
refused (Ok a) rows line text old world before after is e =
    subst (λ (l : Line). SaidBehind rows l text old world before old world after) (sym is) (record {
      given = unserved;
      reply = Some replies.Long;
      does = λ line long. too_long rows old line unserved long;
      served = record { asked = refl; world = refl };
      behind = e ∙ ap (λ (x : List ℕ). before ++ x) (sym (one_reply replies.Long));
    })
refused (Err x) rows line text old world before after is e = tt

-- the reply to any other line, unless memory runs out
answered : {T E : Type 0} (r : Result T E) (rows : PolicyRows) (line : Line) (text : List ℕ) (old new : Session)
    (before after : Seen) (had has : List ℕ)
    → line ≡ Text → OnOk r (Stepped rows text old before had new after has)
    → OnOk r (SaidBehind rows line text old before.world had new after.world has)
answered (Ok a) rows line text old new before after had has is s =
    subst (λ (l : Line). SaidBehind rows l text old before.world had new after.world has) (sym is)
    (record { given = s.given; reply = s.reply; does = s.step; served = s.served; behind = s.octets })
answered (Err x) rows line text old new before after had has is s = tt

pub line-requires : goal.line-requires
line-requires g c = record { countable = c.requires.countable; judging = c.requires.judging }

pub returns-in-Text-clause-said : goal.returns-in-Text-clause-said
returns-in-Text-clause-said g c =
    answered c.line.result (rows_of c.args.policy.now) c.args.line c.args.text.now (kept c.args.machine.now)
    (kept c.line.new.self)
    (record { world = g.D.Shelf.world c.args.shelf.now; faults = g.D.Shelf.faults c.args.shelf.now })
    (record { world = g.D.Shelf.world c.line.new.shelf; faults = g.D.Shelf.faults c.line.new.shelf })
    c.args.out.now.items c.line.new.out.items c.in-Text.is c.line.ensures.step

pub returns-in-Long-clause-said : goal.returns-in-Long-clause-said
returns-in-Long-clause-said g c =
    refused c.print_reply.result (rows_of c.args.policy.now) c.args.line c.args.text.now (kept c.args.machine.now)
    (g.D.Shelf.world c.args.shelf.now) c.args.out.now.items c.print_reply.new.out.items
    c.in-Long.is c.print_reply.ensures.appended

pub returns-in-Text-clause-entries : goal.returns-in-Text-clause-entries
returns-in-Text-clause-entries g c = rw c.in-Text.is c.line.ensures.directory.entries

pub returns-in-Long-clause-entries : goal.returns-in-Long-clause-entries
returns-in-Long-clause-entries g c =
    any_err c.print_reply.result _ (puts_still (state_of c.args.machine.now.engine) (use_by c.args.line c.args.text.now)
    (g.D.Shelf.world c.args.shelf.now))

-- ---- the policy

pub returns-in-Text-clause-asked : goal.returns-in-Text-clause-asked
returns-in-Text-clause-asked g c =
    looked_at c.line.result c.args.line c.args.text.now (state_of c.args.machine.now.engine)
    (state_of c.line.new.self.engine)
    c.args.policy.now c.line.new.policy c.in-Text.is c.line.ensures.asked

pub returns-in-Long-clause-asked : goal.returns-in-Long-clause-asked
returns-in-Long-clause-asked g c =
    passed_over c.print_reply.result c.args.line c.args.text.now (state_of c.args.machine.now.engine) c.args.policy.now
    c.in-Long.is

pub returns-in-Text-clause-judged : goal.returns-in-Text-clause-judged
returns-in-Text-clause-judged g c = c.line.ensures.judging.judged

pub returns-in-Text-clause-faithful : goal.returns-in-Text-clause-faithful
returns-in-Text-clause-faithful g c = c.line.ensures.judging.faithful

pub returns-in-Text-clause-rows : goal.returns-in-Text-clause-rows
returns-in-Text-clause-rows g c = c.line.ensures.judging.rows

pub returns-in-Long-clause-judged : goal.returns-in-Long-clause-judged
returns-in-Long-clause-judged g c = c.requires.judging.judged

pub returns-in-Long-clause-faithful : goal.returns-in-Long-clause-faithful
returns-in-Long-clause-faithful g c = c.requires.judging.faithful
