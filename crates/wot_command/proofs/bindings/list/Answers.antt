use Rattle.std.proofs.Common.{Option, Some, None, Result, refl, rules, subst, ℕ, List}
use Rattle.std.specs.Prelude.{IfOk, IsSomeAnd}
use Rattle.wot_types.specs.declared.fpr.Fpr.{Fpr}
use Rattle.wot_types.specs.declared.memory.Memory.{Memory}
use Rattle.wot_edge.specs.Record.{Record}
use Rattle.wot_keyring_spec.specs.Keyring.{Keyring}
use Rattle.wot_network.specs.Net.{network_for}
use Rattle.wot_network.specs.Roads.{present_of}
use Rattle.wot_script.specs.declared.reply.Reply.{Reply}
use Rattle.wot_answers.specs.declared.parts.Parts.{Parts}
use Rattle.wot_cache.specs.declared.view.View.{View}
use Rattle.wot_cache.specs.Marks.{IsRefreshed}
use Rattle.wot_cache.specs.Parts.{ArePartsOf}
use Rattle.wot_cache.specs.State.{Engine, state_of}
use Rattle.wot_cache.specs.Views.{view_at}
use Rattle.wot_plain.specs.Listing.{Lists, ListsBy}
use Rattle.wot_plain.proofs.Faults.{refreshed_refused, unopened}
use Rattle.wot_command.proofs.bindings.list.Goals as goal

-- a list over the parts of a view is the list from that view
lists_shown : (engine : Engine) (o : Option View) (parts : Parts) (wanted : ℕ) (result : Result Reply Memory)
    → IsSomeAnd o (λ v. ArePartsOf engine.keyring v parts)
    → IfOk result (λ reply. ListsBy (network_for (present_of parts.roads)) parts.roots.now wanted parts.keyring.now reply)
    → IfOk result (λ reply. Lists (state_of engine) o wanted reply)
lists_shown engine None parts wanted result are lists = absurd are
lists_shown engine (Some v) parts wanted result are lists =
    let on_roots = subst (λ (roots : List (Fpr × ℕ)). IfOk result (λ reply. ListsBy (network_for (present_of parts.roads))
    roots wanted parts.keyring.now reply)) are.roots lists in
    let on_keyring = subst (λ (k : Keyring). IfOk result (λ reply. ListsBy (network_for (present_of parts.roads)) v.roots
    wanted k reply)) are.keyring on_roots in
    subst (λ (told : List ℕ → Record). IfOk result (λ reply. ListsBy told v.roots wanted engine.keyring reply))
    (λ i. network_for (are.roads i)) on_keyring

pub returns-in-Ok-clause-lists : goal.returns-in-Ok-clause-lists
returns-in-Ok-clause-lists c =
    lists_shown c.args.engine.now (view_at c.args.engine.now.views c.args.view.now) c.in-Ok.parts c.args.wanted
    c.list_from.result c.in-Ok.ensures.parts c.list_from.ensures.lists

pub returns-in-Err-clause-lists : goal.returns-in-Err-clause-lists
returns-in-Err-clause-lists c =
    unopened c.parts.result c.reply_to.result c.from.result c.in-Err.fault (view_at c.args.engine.now.views c.args.view.now)
    (λ (v : Option View) (reply : Reply). Lists (state_of c.args.engine.now) v c.args.wanted reply)
    c.from.ensures c.reply_to.ensures.reply c.in-Err.ensures.open refl

pub returns-in-Err-clause-refreshed : goal.returns-in-Err-clause-refreshed
returns-in-Err-clause-refreshed c =
    let made : IsRefreshed c.parts.result c.args.view.now c.args.engine.now c.parts.follows.lender-at-none
    c.args.steps.now.made c.parts.new.steps.made = search rules in
    refreshed_refused c.parts.result c.reply_to.result c.from.result c.in-Err.fault c.args.view.now c.args.engine.now
    c.parts.follows.lender-at-none c.args.steps.now.made c.parts.new.steps.made c.from.ensures
    c.reply_to.ensures.reply c.in-Err.ensures.open made
