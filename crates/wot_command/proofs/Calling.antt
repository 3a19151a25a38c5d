-- Commands of the state that were run: those that don't use the certificate directory, `load` and `store`.
use Rattle.std.proofs.Common.{◌≡◌, ℕ, ◌<◌, ◌≤◌, Bool, true, false, List, Option, Some, None, Result, Ok, Err}
use Rattle.std.proofs.Common.{refl, sym, ap, subst, ◌∙◌, arith}
use Rattle.std.specs.Prelude.{IfOk, IfSome, is_some, if◌then◌else◌, nat_le}
use Rattle.std.specs.Result.{result_ok}
use Rattle.std.proofs.lemmas.Bool.{leb-false, leb-true}
use Rattle.wot_types.specs.declared.fpr.Fpr.{Fpr}
use Rattle.wot_types.specs.declared.name.Name.{Name}
use Rattle.wot_types.specs.declared.name.Name.TheVariants.{Cert}
use Rattle.wot_io.specs.Counts.{Rose, last_count}
use Rattle.wot_component.specs.Certificate.{Certificate}
use Rattle.wot_keyring_spec.specs.Held.{cert_in}
use Rattle.wot_policy.specs.declared.rows.PolicyRows.{PolicyRows}
use Rattle.wot_script.specs.declared.reply.Reply.{Reply}
use Rattle.wot_script.specs.declared.reply.Reply.TheVariants as replies
use Rattle.wot_certd.specs.declared.shelf.Given.{Given}
use Rattle.wot_certd.specs.declared.shelf.Given.TheVariants.{Bytes, Absent, Long}
use Rattle.wot_certd.specs.Shelf as given_as
use Rattle.wot_certd.specs.Shelf.{Becomes}
use Rattle.wot_certd.specs.World.{Answer, World, after_replace, called, fails_next, read_answer}
use Rattle.wot_cache.specs.State.{State}
use Rattle.wot_plain.specs.declared.class.Class.TheVariants.{State as OfState}
use Rattle.wot_plain.specs.declared.class.StateCommand.{StateCommand}
use Rattle.wot_plain.specs.declared.class.StateCommand.TheVariants as kinds
use Rattle.wot_plain.specs.declared.class.ShelfCall.TheVariants as calls
use Rattle.wot_plain.specs.Entry.{IsServed, IsWorldAfter, Use, WasGiven, has_failed, is_fault, put_for, unused}
use Rattle.wot_plain.specs.Entry.{use_by, world_after}
use Rattle.wot_plain.specs.LineStep.{DoesTo, ComesTo}
use Rattle.wot_plain.specs.Outcome.{load}
use Rattle.wot_command.specs.CommandRun.{StateRun, Seen}
use Rattle.wot_plain.specs.Served.{Served, unserved}
use Rattle.wot_command.specs.Stored.{Puts, Stores}
use Rattle.wot_command.specs.StoredText.{answer_of}
use Rattle.wot_plain.specs.Storing.{put_from, stored, stored_from, writing}
use Rattle.wot_plain.proofs.Results.{if_ok}

-- ---- commands that don't use the certificate directory

pub idle : (old : State) (world : Option World) → IsServed old unused world unserved world
idle old world = record { asked = refl; world = refl }

pub idle_by : (old : State) (use_ : Use) (world : Option World) → use_ ≡ unused → IsServed old use_ world unserved world
idle_by old use_ world e = subst (λ (u : Use). IsServed old u world unserved world) (sym e) (idle old world)

-- nothing failed
pub never_failed : (old : State) (use_ : Use) → use_ ≡ unused →
    has_failed (put_for old use_ Answer.absent) unserved ≡ true → ⊥
never_failed old use_ e = subst (λ (u : Use). has_failed (put_for old u Answer.absent) unserved ≡ true → ⊥) (sym e)
    (λ f. cc f)

pub uncalled : {E : Type 0} (r : Result Reply E) (rows : PolicyRows) (command : StateCommand) (old : State)
    (seen : Seen) (new : State) → use_by (OfState command) ≡ unused
    → IfOk r (λ reply. DoesTo rows old command unserved reply new) →
    IfOk r (λ reply. StateRun rows command old seen reply new seen)
uncalled r rows command old seen new none does = if_ok r _ _ (λ reply d. record {
  given = unserved;
  answers = d;
  served = idle_by old (use_by (OfState command)) seen.world none;
  cause = λ f. absurd (never_failed old (use_by (OfState command)) none f);
}) does

-- ---- entries

-- the answer to a read, and what a replace after it would return, if the world is known
abbrev pub read_alone : Option World → Answer → Served
read_alone None answer = record { read = answer; fails = false }
read_alone (Some w) answer = record { read = answer; fails = fails_next (called w) }

-- a property that determines the answer
pub told_so : (world : Option World) (name : Name) (given : Answer) (P : Answer → Type 0) →
    ((a : Answer) → P a → given ≡ a)
    → IfSome world (λ (w : World). P (read_answer w name)) → IfSome world (λ (w : World). given ≡ read_answer w name)
told_so None name given P f p = tt
told_so (Some w) name given P f p = f (read_answer w name) p

asked_alone : (world : Option World) (name : Name) (answer : Answer) →
    IfSome world (λ (w : World). answer ≡ read_answer w name)
    → WasGiven (Some name) world (read_alone world answer)
asked_alone None name answer p = tt
asked_alone (Some w) name answer p =
    let Gave : Answer → Served = λ a. record { read = a; fails = fails_next (called w) } in
    ap Gave p

after_alone : (before after : Option World) (name : Name) → Becomes before called after →
    IsWorldAfter (Some name) None before after
after_alone None after name b = tt
after_alone (Some w) after name b = b

read_is : (world : Option World) (answer : Answer) → (read_alone world answer).read ≡ answer
read_is None answer = refl
read_is (Some w) answer = refl

-- an entry was read, and merged or not
pub ran_load : (rows : PolicyRows) (name : Name) (old : State) (before after : Option World) (faults later : ℕ)
    (reply : Reply) (new : State) (answer : Answer)
    → ComesTo (load rows old name answer) reply new → IfSome before (λ (w : World). answer ≡ read_answer w name) →
    Becomes before called after
    → (is_fault answer ≡ true → Rose faults later)
    → StateRun rows (kinds.Shelf (calls.Load name)) old (record { world = before; faults = faults }) reply new
    (record { world = after; faults = later })
ran_load rows name old before after faults later reply new answer gives told becomes cause =
    let e : answer ≡ (read_alone before answer).read = sym (read_is before answer) in
    record {
      given = read_alone before answer;
      answers = subst (λ (a : Answer). ComesTo (load rows old name a) reply new) e gives;
      served = record { asked = asked_alone before name answer told; world = after_alone before after name becomes };
      cause = subst (λ (a : Answer). is_fault a ≡ true → Rose faults later) e cause;
    }

-- ---- storing

-- the certificate doesn't exist
pub ran_absent : (rows : PolicyRows) (fpr : Fpr) (old : State) (seen : Seen) → cert_in old.held fpr ≡ None →
    StateRun rows (kinds.Shelf (calls.Store fpr)) old seen replies.Absent old seen
ran_absent rows fpr old seen none =
    let All : Option Certificate → Type 0 = λ o. WasGiven (if is_some o then Some (Cert fpr) else None) seen.world
    unserved
    × IsWorldAfter (if is_some o then Some (Cert fpr) else None) (put_from o fpr Answer.absent) seen.world seen.world
    × (has_failed (put_from o fpr Answer.absent) unserved ≡ true → ⊥)
    × (replies.Absent ≡ stored_from o fpr unserved) in
    let all : All (cert_in old.held fpr) = subst All (sym none) (refl, refl, (λ f. cc f), refl) in
    record {
      given = unserved;
      answers = (all.3, refl);
      served = record { asked = all.0; world = all.1 };
      cause = λ f. absurd (all.2 f);
    }

pub none_kept : (o : Option Certificate) (fpr : Fpr) → (if is_some o then Some (Cert fpr) else None) ≡ None → o ≡ None
none_kept None fpr e = refl
none_kept (Some c) fpr e = absurd (cc e)

-- the certificate exists
pub ran_stored : (rows : PolicyRows) (fpr : Fpr) (kept : Certificate) (old : State) (before : Seen) (reply : Reply)
    (after : Seen) → cert_in old.held fpr ≡ Some kept
    → Stores fpr kept before reply after → StateRun rows (kinds.Shelf (calls.Store fpr)) old before reply old after
ran_stored rows fpr kept old before reply after is s =
    let All : Option Certificate → Type 0 = λ o. WasGiven (if is_some o then Some (Cert fpr) else None) before.world
    s.given
    × IsWorldAfter (if is_some o then Some (Cert fpr) else None) (put_from o fpr s.given.read) before.world after.world
    × (has_failed (put_from o fpr s.given.read) s.given ≡ true → Rose before.faults after.faults)
    × (reply ≡ stored_from o fpr s.given) in
    let all : All (cert_in old.held fpr) = subst All (sym is) (s.asked, s.world, s.cause, s.reply_is) in
    record {
      given = s.given;
      answers = (all.3, refl);
      served = record { asked = all.0; world = all.1 };
      cause = all.2;
    }

rose_later : (low mid high : ℕ) → low ≤ mid → mid ≤ high → Rose mid high → Rose low high
rose_later low mid high le less rose h = by (nat_le last_count mid) refl
  where
    by : (b : Bool) → nat_le last_count mid ≡ b → low < high
    by true e = let most : last_count ≤ mid = leb-true last_count mid e in omega (arith, most)
    by false e = let risen : mid < high = rose (leb-false last_count mid e) in omega (arith, risen)

-- something was written
pub stores_put : (fpr : Fpr) (kept : Certificate) (answer : Answer) (octets : List ℕ) (before mid : Option World)
    (low high : ℕ) (reply : Reply) (after : Seen)
    → writing fpr kept answer ≡ Ok octets → IfSome before (λ (w : World). answer ≡ read_answer w (Cert fpr)) →
    Becomes before called mid → low ≤ high → high ≤ after.faults
    → Puts (Cert fpr) octets (record { world = mid; faults = high }) reply after →
    Stores fpr kept (record { world = before; faults = low }) reply after
stores_put fpr kept answer octets None mid low high reply after is told becomes le less p =
    let Failed : Result (List ℕ) Reply → Type 0 =
    λ r. has_failed (result_ok r) (record { read = answer; fails = p.fails }) ≡ true → Rose low after.faults in
    record {
      given = record { read = answer; fails = p.fails };
      reply_is = p.reply_is ∙ ap (stored p.fails) (sym is);
      asked = tt;
      world = tt;
      cause = subst Failed (sym is) (λ f. rose_later low high after.faults le less (p.cause f));
    }
stores_put fpr kept answer octets (Some w) mid low high reply after is told becomes le less p =
    let Failed : Result (List ℕ) Reply → Type 0 =
    λ r. has_failed (result_ok r) (record { read = answer; fails = p.fails }) ≡ true → Rose low after.faults in
    let by : p.fails ≡ fails_next (called w) =
    subst (λ (o : Option World). IfSome o (λ (w : World). p.fails ≡ fails_next w)) becomes p.fails_by in
    let put : after.world ≡ Some (after_replace (called w) (Cert fpr) octets) =
    subst (λ (o : Option World). Becomes o (λ (w : World). after_replace w (Cert fpr) octets) after.world) becomes
    p.world in
    let Behind : Result (List ℕ) Reply → Type 0 =
    λ r. after.world ≡ Some (world_after w (Some (Cert fpr)) (result_ok r)) in
    record {
      given = record { read = answer; fails = p.fails };
      reply_is = p.reply_is ∙ ap (stored p.fails) (sym is);
      asked = λ i. record { read = told i; fails = by i };
      world = subst Behind (sym is) put;
      cause = subst Failed (sym is) (λ f. rose_later low high after.faults le less (p.cause f));
    }

-- nothing was written
pub stores_told : (fpr : Fpr) (kept : Certificate) (answer : Answer) (before after : Option World) (low high : ℕ)
    (reply : Reply)
    → writing fpr kept answer ≡ Err reply → IfSome before (λ (w : World). answer ≡ read_answer w (Cert fpr)) →
    Becomes before called after
    → (is_fault answer ≡ true → Rose low high)
    → Stores fpr kept (record { world = before; faults = low }) reply (record { world = after; faults = high })
stores_told fpr kept answer before after low high reply is told becomes cause =
    let e : answer ≡ (read_alone before answer).read = sym (read_is before answer) in
    let is' : writing fpr kept (read_alone before answer).read ≡ Err reply = ap (writing fpr kept) (sym e) ∙ is in
    let Behind : Result (List ℕ) Reply → Type 0 = λ r. IsWorldAfter (Some (Cert fpr)) (result_ok r) before after in
    let Failed : Result (List ℕ) Reply → Type 0 = λ r. has_failed (result_ok r) (read_alone before answer) ≡ true →
    Rose low high in
    record {
      given = read_alone before answer;
      reply_is = ap (stored (read_alone before answer).fails) (sym is');
      asked = asked_alone before (Cert fpr) answer told;
      world = subst Behind (sym is') (after_alone before after (Cert fpr) becomes);
      cause = subst Failed (sym is') (subst (λ (a : Answer). is_fault a ≡ true → Rose low high) e cause);
    }

-- the answer that was returned
pub given_is : (given : Given) (a : Answer) → given_as.IsReadAs given a → answer_of given ≡ a
given_is (Bytes bytes) a g = sym g
given_is Absent a g = sym g
given_is Long a g = sym g

pub never_fault : (given : Given) → is_fault (answer_of given) ≡ true → ⊥
never_fault (Bytes bytes) f = cc f
never_fault Absent f = cc f
never_fault Long f = cc f
