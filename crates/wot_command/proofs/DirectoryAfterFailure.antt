-- The entries of the certificate directory after a line for which memory ran out.
use Rattle.std.proofs.Common.{◌≡◌, inl, inr, ℕ, Bool, true, false, List, Option, Some, None, Result, Ok, Err, OnErr}
use Rattle.std.proofs.Common.{refl, sym, ap, subst, ◌∙◌}
use Rattle.std.specs.Prelude.{◌⊎◌, ◌&&◌, IfSome, if◌then◌else◌, is_some, not}
use Rattle.std.specs.Result.{result_ok}
use Rattle.wot_types.specs.declared.fpr.Fpr.{Fpr}
use Rattle.wot_types.specs.declared.name.Name.{Name}
use Rattle.wot_types.specs.declared.name.Name.TheVariants.{Cert}
use Rattle.wot_component.specs.Certificate.{Certificate}
use Rattle.wot_keyring_spec.specs.Held.{cert_in}
use Rattle.wot_certd.specs.declared.shelf.ShelfFault.TheVariants.{Memory}
use Rattle.wot_certd.specs.Shelf.{Becomes, Replaces}
use Rattle.wot_certd.specs.World.{Answer, World, after_replace, called, fails_next, late_next, put_by_call, read_answer}
use Rattle.wot_certd.specs.World.{with_entry}
use Rattle.wot_cache.specs.State.{State}
use Rattle.wot_plain.specs.Entry.{IsServed, IsWorldAfter, MayPut, MayPutIn, MayReplace, MayReplaceIn, Use, WasGiven}
use Rattle.wot_plain.specs.Entry.{entry_for, put_for, stores}
use Rattle.wot_plain.specs.Served.{Served}
use Rattle.wot_plain.specs.Storing.{put_from, writing}

-- no call was made
pub puts_still : (s : State) (use_ : Use) (world : Option World) → MayPut s use_ world world
puts_still s use_ None = tt
puts_still s use_ (Some w) = record { new = w; is_new = refl; entries = inl refl }

-- the entry was only read
pub puts_none : (s : State) (use_ : Use) (before after : Option World) → Becomes before called after →
    MayPut s use_ before after
puts_none s use_ None after becomes = tt
puts_none s use_ (Some w) after becomes = record { new = called w; is_new = becomes; entries = inl refl }

-- ---- replacing

put_or_not : (fails : Bool) (w : World) (name : Name) (octets : List ℕ)
    → ((if fails then called w else put_by_call w name octets).entries ≡ w.entries)
    ⊎ ((if fails then called w else put_by_call w name octets).entries ≡ with_entry w.entries name octets)
put_or_not true w name octets = inl refl
put_or_not false w name octets = inr refl

-- if memory ran out for the replace
pub replaced_may : (before after : Option World) (name : Name) (octets : List ℕ) →
    Replaces before name octets (Err Memory) after → MayReplace name octets before after
replaced_may None after name octets r = tt
replaced_may (Some w) after name octets (inl e) = record { new = called w; is_new = e; entries = inl refl }
replaced_may (Some w) after name octets (inr e) = record {
  new = put_by_call w name octets;
  is_new = e;
  entries =
      inr refl;
}

-- after a read
pub stored_may : (s : State) (fpr : Fpr) (kept : Certificate) (answer : Answer) (octets : List ℕ)
    (before mid after : Option World) → cert_in s.held fpr ≡ Some kept
    → writing fpr kept answer ≡ Ok octets → IfSome before (λ (w : World). answer ≡ read_answer w (Cert fpr)) →
    Becomes before called mid
    → MayReplace (Cert fpr) octets mid after → MayPut s (stores fpr) before after
stored_may s fpr kept answer octets None mid after is e told becomes may = tt
stored_may s fpr kept answer octets (Some w) mid after is e told becomes may =
    let m : MayReplaceIn (Cert fpr) octets (called w) after =
    subst (λ (o : Option World). MayReplace (Cert fpr) octets o after) becomes may in
    let entry : entry_for s (stores fpr) ≡ Some (Cert fpr) =
    ap (λ (o : Option Certificate). if is_some o then Some (Cert fpr) else None) is in
    let put : put_for s (stores fpr) (read_answer w (Cert fpr)) ≡ Some octets =
    ap (λ (o : Option Certificate). put_from o fpr (read_answer w (Cert fpr))) is
    ∙ ap result_ok (ap (writing fpr kept) (sym told) ∙ e) in
    record {
      new = m.new;
      is_new = m.is_new;
      entries = elim m.entries [
        | inl same ↦ inl same
        | inr placed ↦ inr (record { name = Cert fpr; octets = octets; entry = entry; put = put; entries = placed })
      ];
    }

-- ---- after a line

-- the line's reply was computed, and memory ran out for it
pub served_puts : (s : State) (use_ : Use) (before : Option World) (given : Served) (after : Option World) →
    IsServed s use_ before given after → MayPut s use_ before after
served_puts s use_ None given after served = tt
served_puts s use_ (Some w) given after served = by (entry_for s use_) refl (put_for s use_ given.read) refl
    served.asked served.world
  where
    by : (entry : Option Name) → entry_for s use_ ≡ entry → (put : Option (List ℕ)) → put_for s use_ given.read ≡ put →
        WasGiven entry (Some w) given
        → IsWorldAfter entry put (Some w) after → MayPutIn s use_ w after
    by None e put f asked world = record { new = w; is_new = world; entries = inl refl }
    by (Some name) e None f asked world = record { new = called w; is_new = world; entries = inl refl }
    by (Some name) e (Some octets) f asked world =
        let read : given.read ≡ read_answer w name = ap (λ (g : Served). g.read) asked in
        let put : put_for s use_ (read_answer w name) ≡ Some octets = ap (put_for s use_) (sym read) ∙ f in
        let there = put_or_not (fails_next (called w) && not (late_next (called w))) (called w) name octets in
        record {
          new = after_replace (called w) name octets;
          is_new = world;
          entries = elim there [
            | inl same ↦ inl same
            | inr placed ↦ inr (record { name = name; octets = octets; entry = e; put = put; entries = placed })
          ];
        }

pub on_err_as : {T E : Type 0} (r : Result T E) (P Q : Type 0) → (P → Q) → OnErr r P → OnErr r Q
on_err_as (Ok a) P Q f p = tt
on_err_as (Err e) P Q f p = f p
