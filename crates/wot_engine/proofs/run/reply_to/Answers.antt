use Rattle.std.proofs.Common.{ℕ, List, ◌++◌, Option, Ok, refl, ap, ◌∙◌}
use Rattle.wot_io.specs.declared.lines.Line.{Line}
use Rattle.wot_policy.specs.declared.rows.PolicyRows.{PolicyRows}
use Rattle.wot_policy.specs.Kept.{rows_of}
use Rattle.wot_certd.specs.World.{World}
use Rattle.wot_machine.specs.Machine.{kept}
use Rattle.wot_machine.specs.Stepped.{TellsBehind}
use Rattle.wot_plain.specs.Transcript.{listed, octets_of}
use Rattle.wot_plain.specs.Session.{Session}
use Rattle.wot_cache.specs.State.{state_of}
use Rattle.wot_plain.proofs.Results.{any_err}
use Rattle.wot_command.proofs.DirectoryAfterFailure.{served_puts}
use Rattle.wot_engine.specs.RunAsks.{command_by, done}
use Rattle.wot_engine.specs.LineReply.{RepliesBehind, SaidBehind, use_by}
use Rattle.wot_engine.proofs.HasAsked.{asks_behind, asks_done, may_ask}
use Rattle.wot_engine.proofs.Progress.{joined}
use Rattle.wot_engine.proofs.run.reply_to.Goals as goal

-- the reply and the watch lines after it
both : (rows : PolicyRows) (line : Line) (text : List ℕ) (old mid new : Session) (before after : Option World)
    (had said has : List ℕ)
    → SaidBehind rows line text old before had mid after said → TellsBehind mid said new has
    → RepliesBehind rows line text old before had new after has
both rows line text old mid new before after had said has s t = record {
  octets = octets_of (listed s.reply ++ t.lines);
  replies = record {
    given = s.given;
    reply = s.reply;
    mid = mid;
    reported = t.lines;
    does = s.does;
    tells = t.tells;
    served = s.served;
    octets_are = refl;
  };
  behind = t.octets ∙ ap (λ (x : List ℕ). x ++ octets_of t.lines) s.behind ∙ joined had (listed s.reply) t.lines;
}

pub returns-clause-replies : goal.returns-clause-replies
returns-clause-replies g c =
    both (rows_of c.args.policy.now) c.args.line c.args.text.now (kept c.args.machine.now) (kept c.say.new.machine)
    (kept c.tell.new.self)
    (g.D.Shelf.world c.args.shelf.now) (g.D.Shelf.world c.say.new.shelf) c.args.out.now.items c.say.new.out.items
    c.tell.new.out.items
    c.in_ok-say.ensures.said c.in_default.ensures.tells

pub returns-in_err-say-clause-entries : goal.returns-in_err-say-clause-entries
returns-in_err-say-clause-entries g c = any_err c.from_residual.result _ c.in_err-say.ensures.entries

pub returns-in-Err-clause-entries : goal.returns-in-Err-clause-entries
returns-in-Err-clause-entries g c =
    let said = c.in_ok-say.ensures.said in
    served_puts (state_of c.args.machine.now.engine) (use_by c.args.line c.args.text.now)
    (g.D.Shelf.world c.args.shelf.now) said.given
    (g.D.Shelf.world c.say.new.shelf) said.served

-- ---- the policy

pub returns-clause-asked : goal.returns-clause-asked
returns-clause-asked g c =
    asks_behind done (command_by c.args.line c.args.text.now) (state_of c.args.machine.now.engine)
    (kept c.say.new.machine) (kept c.tell.new.self)
    c.in_default.ensures.tells.lines c.args.policy.now c.say.new.policy c.in_default.ensures.tells.tells
    (asks_done (Ok tt) tt (command_by c.args.line c.args.text.now) (state_of c.args.machine.now.engine)
    (state_of c.say.new.machine.engine)
    c.args.policy.now c.say.new.policy refl c.in_ok-say.ensures.asked)

pub returns-in_err-say-clause-may_ask : goal.returns-in_err-say-clause-may_ask
returns-in_err-say-clause-may_ask g c =
    any_err c.from_residual.result _
    (may_ask c.say.result (command_by c.args.line c.args.text.now) (state_of c.args.machine.now.engine)
    (state_of c.say.new.machine.engine) c.args.policy.now c.say.new.policy c.say.ensures.asked)

pub returns-in-Err-clause-may_ask : goal.returns-in-Err-clause-may_ask
returns-in-Err-clause-may_ask g c =
    may_ask c.say.result (command_by c.args.line c.args.text.now) (state_of c.args.machine.now.engine)
    (state_of c.say.new.machine.engine)
    c.args.policy.now c.say.new.policy c.say.ensures.asked
