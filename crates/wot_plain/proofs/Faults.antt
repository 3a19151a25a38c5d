-- The reply to an error of a layer below, and what follows from the error.
use Rattle.std.proofs.Common.{◌≡◌, ℕ, List, Option, None, Result, Ok, Err, refl, sym, subst}
use Rattle.std.specs.Prelude.{IfOk, OnErr, OnOk}
use Rattle.wot_types.specs.declared.memory.Memory.{Memory}
use Rattle.wot_script.specs.declared.reply.Reply.{Reply}
use Rattle.wot_script.specs.declared.reply.Reply.TheVariants as replies
use Rattle.wot_certd.specs.declared.shelf.ShelfFault.{ShelfFault}
use Rattle.wot_certd.specs.declared.shelf.ShelfFault.TheVariants as shelves
use Rattle.wot_explain.specs.declared.explained.ExplainFault.{ExplainFault}
use Rattle.wot_explain.specs.declared.explained.ExplainFault.TheVariants as explains
use Rattle.wot_watch.specs.declared.watches.PutFault.{PutFault}
use Rattle.wot_watch.specs.declared.watches.PutFault.TheVariants as puts
use Rattle.wot_answers.specs.declared.fault.AskFault.{AskFault}
use Rattle.wot_answers.specs.declared.fault.AskFault.TheVariants as asks
use Rattle.wot_cache.specs.declared.view.View.{View}
use Rattle.wot_cache.specs.Marks.{IsRefreshed}
use Rattle.wot_cache.specs.State.{Engine}
use Rattle.wot_cache.specs.Views.{TellsOpen, view_at}
use Rattle.wot_plain.specs.declared.refusal.Refused.{Refused}
use Rattle.wot_plain.specs.Refused.{IsMemory, IsReplyTo, asking, explaining, putting, using_}
use Rattle.wot_plain.proofs.EdgesMadeByLine.{refreshed_fault, refreshed_unopened}

told_as : (r : Result Reply Memory) (refused other : Refused) → refused ≡ other → IfOk r (IsReplyTo refused) →
    IfOk r (IsReplyTo other)
told_as r refused other is told = subst (λ (x : Refused). IfOk r (IsReplyTo x)) is told

-- the reply of a question if its view isn't opened
pub unopened : {T : Type 0} (asked : Result T AskFault) (r : Result Reply Memory) (refused : Refused) (fault : AskFault) (view : Option View)
    (P : Option View → Reply → Type 0) → refused ≡ asking fault → IfOk r (IsReplyTo refused)
    → TellsOpen {T = T} (Err fault) view → P None replies.View → IfOk r (P view)
unopened {T = T} asked r refused fault view P is told opened p = by r fault (told_as r refused (asking fault) is told) opened
  where
    by : (r : Result Reply Memory) (fault : AskFault) → IfOk r (IsReplyTo (asking fault)) →
        TellsOpen {T = T} (Err fault) view → IfOk r (P view)
    by (Ok reply) asks.View told none =
        subst (λ (o : Option View). P o reply) (sym none) (subst (P None) (sym told) p)
    by (Ok reply) asks.Memory told opened = absurd told
    by (Err e) fault told opened = tt

-- what holds where no view is open, whatever the reply
pub on_unopened : {T : Type 0} (asked : Result T AskFault) (r : Result Reply Memory) (refused : Refused)
    (fault : AskFault) (view : Option View) (P : Option View → Type 0)
    → refused ≡ asking fault → IfOk r (IsReplyTo refused) → TellsOpen {T = T} (Err fault) view → P None
    → OnOk r (P view)
on_unopened {T = T} asked r refused fault view P is told opened p =
    by r fault (told_as r refused (asking fault) is told) opened
  where
    by : (r : Result Reply Memory) (fault : AskFault) → IfOk r (IsReplyTo (asking fault)) →
        TellsOpen {T = T} (Err fault) view → OnOk r (P view)
    by (Ok reply) asks.View told none = subst P (sym none) p
    by (Ok reply) asks.Memory told opened = absurd told
    by (Err e) fault told opened = tt

-- nothing is made for it
pub refreshed_refused : {T : Type 0} (asked : Result T AskFault) (r : Result Reply Memory) (refused : Refused)
    (fault : AskFault) (name : List ℕ) (old new : Engine) (before after : ℕ)
    → refused ≡ asking fault → IfOk r (IsReplyTo refused) → TellsOpen {T = T} (Err fault) (view_at old.views name)
    → IsRefreshed asked name old new before after → IsRefreshed r name old new before after
refreshed_refused {T = T} asked r refused fault name old new before after is told opened made =
    by r fault (told_as r refused (asking fault) is told) opened
  where
    by : (r : Result Reply Memory) (fault : AskFault) → IfOk r (IsReplyTo (asking fault)) →
        TellsOpen {T = T} (Err fault) (view_at old.views name) → IsRefreshed r name old new before after
    by (Ok reply) asks.View told none = refreshed_unopened asked (Ok reply) name old new before after none made
    by (Ok reply) asks.Memory told opened = absurd told
    by (Err e) fault told opened = refreshed_fault asked e name old new before after made

-- the reply if there are as many watches as there may be
pub full_watches : (r : Result Reply Memory) (refused : Refused) (fault : PutFault) (P : Reply → Type 0)
    → refused ≡ putting fault → IfOk r (IsReplyTo refused) → (fault ≡ puts.Full → P replies.FullWatches) → IfOk r P
full_watches r refused fault P is told f = by r fault (told_as r refused (putting fault) is told) f
  where
    by : (r : Result Reply Memory) (fault : PutFault) → IfOk r (IsReplyTo (putting fault)) →
        (fault ≡ puts.Full → P replies.FullWatches) → IfOk r P
    by (Ok reply) puts.Full told f = subst P (sym told) (f refl)
    by (Ok reply) puts.Memory told f = absurd told
    by (Err e) fault told f = tt

-- the reply if the certificate directory failed
pub failed : (r : Result Reply Memory) (refused : Refused) (fault : ShelfFault) (P : Reply → Type 0)
    → refused ≡ using_ fault → IfOk r (IsReplyTo refused) → (fault ≡ shelves.Failed → P replies.Shelf) → IfOk r P
failed r refused fault P is told f = by r fault (told_as r refused (using_ fault) is told) f
  where
    by : (r : Result Reply Memory) (fault : ShelfFault) → IfOk r (IsReplyTo (using_ fault)) →
        (fault ≡ shelves.Failed → P replies.Shelf) → IfOk r P
    by (Ok reply) shelves.Failed told f = subst P (sym told) (f refl)
    by (Ok reply) shelves.Memory told f = absurd told
    by (Err e) fault told f = tt

-- the reply if the certificate that is to be explained is absent
pub unexplained : (r : Result Reply Memory) (refused : Refused) (fault : ExplainFault) (P : Reply → Type 0)
    → refused ≡ explaining fault → IfOk r (IsReplyTo refused) → (fault ≡ explains.Absent → P replies.Absent) → IfOk r P
unexplained r refused fault P is told f = by r fault (told_as r refused (explaining fault) is told) f
  where
    by : (r : Result Reply Memory) (fault : ExplainFault) → IfOk r (IsReplyTo (explaining fault)) →
        (fault ≡ explains.Absent → P replies.Absent) → IfOk r P
    by (Ok reply) explains.Absent told f = subst P (sym told) (f refl)
    by (Ok reply) explains.Memory told f = absurd told
    by (Err e) fault told f = tt

-- what holds if the certificate that is to be explained is absent, whatever the reply
pub on_any : (r : Result Reply Memory) (refused : Refused) (fault : ExplainFault) (P : Type 0)
    → refused ≡ explaining fault → IfOk r (IsReplyTo refused) → (fault ≡ explains.Absent → P) → OnOk r P
on_any r refused fault P is told f = by r (unexplained r refused fault (λ reply. P) is told f)
  where
    by : (r : Result Reply Memory) → IfOk r (λ reply. P) → OnOk r P
    by (Ok reply) p = p
    by (Err e) p = tt

-- what holds if memory ran out at the certificate directory
pub for_memory : (r : Result Reply Memory) (refused : Refused) (fault : ShelfFault) (P : Type 0)
    → refused ≡ using_ fault → OnErr r (IsMemory refused) → (fault ≡ shelves.Memory → P) → OnErr r P
for_memory r refused fault P is told f = by r fault (subst (λ (x : Refused). OnErr r (IsMemory x)) is told) f
  where
    by : (r : Result Reply Memory) (fault : ShelfFault) → OnErr r (IsMemory (using_ fault)) →
        (fault ≡ shelves.Memory → P) → OnErr r P
    by (Ok reply) fault told f = tt
    by (Err e) shelves.Failed told f = absurd told
    by (Err e) shelves.Memory told f = f refl
