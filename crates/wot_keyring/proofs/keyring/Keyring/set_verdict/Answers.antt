use Rattle.std.proofs.Common.{◌≡◌, ◌∙◌, false, inl, length, nat_le, refl, sym, ap, subst, arith}
use Rattle.wot_verdict.specs.Verdicts.{AreSortedByNumber, ByNumber}
use Rattle.wot_keyring_spec.specs.Keyring.{Keyring, verdict_on}
use Rattle.wot_keyring_spec.specs.Kept.{IsJudgedBy}
use Rattle.wot_keyring_spec.specs.Later.{IsLater}
use Rattle.wot_keyring_spec.specs.Verdict.{is_over}
use Rattle.wot_keyring.proofs.Altered.{not_over, set_now, set_once}
use Rattle.wot_keyring.proofs.HeldChanges.{held_said, set_in_place}
use Rattle.wot_keyring.proofs.InvariantKept.{judged_keyring, set_few}
use Rattle.wot_keyring.proofs.Undone.{same_parts}
use Rattle.wot_index.proofs.Later.{later_itself, set_later_now}
use Rattle.wot_index.proofs.Logged.{logged_again}
use Rattle.wot_index.proofs.Noted.{indexed_same}
use Rattle.wot_keyring.proofs.keyring.Keyring.set_verdict.Goals as goal

pub returns-in-Ok-clause-judged : goal.returns-in-Ok-clause-judged
returns-in-Ok-clause-judged c = λ rows all. c.altered_at.ensures.judged rows (subst (λ (k : Keyring). IsJudgedBy rows k)
    (sym c.self.view_is) all)

pub invariant_of-self : goal.invariant_of-self
invariant_of-self c =
    let passes : is_over c.self.inside.limits c.self.inside.index.verdicts.entries c.args.number ≡ false =
    subst (λ (k : Keyring). is_over k.limits k.verdicts c.args.number ≡ false) (sym c.self.view_is)
    (sym c.if-would_pass.ensures.passes) in
    let sorted : AreSortedByNumber c.self.inside.index.verdicts.entries =
    subst (λ (k : Keyring). AreSortedByNumber k.verdicts) (sym c.self.view_is) c.would_pass.ensures.sorted in
    rw c.in-Ok.ensures.set (
      judged_keyring (record {
        limits = c.self.inside.limits;
        certs = c.self.inside.certs.entries;
        verdicts = c.self.inside.index.verdicts.entries;
        changes = c.self.inside.changes;
      }) _ c.self.invariant.0
          (set_few c.self.inside.limits c.self.inside.index.verdicts.entries c.args.number c.args.verdict sorted passes
          c.self.invariant.0.within.verdicts),
      record { octets = c.self.invariant.1.octets; signatures = c.self.invariant.1.signatures },
      indexed_same c.self.inside.index (record {
        verdicts = c.set.new.self;
        exact = c.self.inside.index.exact;
      }) c.self.inside.certs.entries refl c.set.ensures.holders c.self.invariant.2,
      logged_again c.self.inside.log c.make_room.new.log c.self.inside.certs.entries c.self.inside.changes
          c.make_room.ensures.from c.make_room.ensures.entries c.self.invariant.3,
    )

pub returns-in-Ok-clause-later : goal.returns-in-Ok-clause-later
returns-in-Ok-clause-later c =
    set_later_now (record {
      limits = c.self.inside.limits;
      certs = c.self.inside.certs.entries;
      verdicts = c.self.inside.index.verdicts.entries;
      changes = c.self.inside.changes;
    }) c.args.self.now c.altered_at.new.self
    c.args.number c.args.verdict _ c.self.view_is c.in-Ok.ensures.set c.altered_at.ensures.counted

pub returns-then-says-clause-later : goal.returns-then-says-clause-later
returns-then-says-clause-later c = later_itself c.args.self.now

pub returns-then-would_pass-clause-later : goal.returns-then-would_pass-clause-later
returns-then-would_pass-clause-later c = later_itself c.args.self.now

pub returns-then-says-clause-held : goal.returns-then-says-clause-held
returns-then-says-clause-held c =
    held_said c.args.self.now c.args.number c.args.verdict c.if-says.ensures.says

pub returns-in-Ok-clause-counted : goal.returns-in-Ok-clause-counted
returns-in-Ok-clause-counted c =
    set_once (record {
      limits = c.self.inside.limits;
      certs = c.self.inside.certs.entries;
      verdicts = c.self.inside.index.verdicts.entries;
      changes = c.self.inside.changes;
    }) c.args.self.now c.altered_at.new.self
    c.args.number c.args.verdict _ c.self.view_is c.if-says.ensures.says c.in-Ok.ensures.set
    c.altered_at.ensures.counted

pub returns-in-Ok-clause-held : goal.returns-in-Ok-clause-held
returns-in-Ok-clause-held c =
    set_in_place (record {
      limits = c.self.inside.limits;
      certs = c.self.inside.certs.entries;
      verdicts = c.self.inside.index.verdicts.entries;
      changes = c.self.inside.changes;
    }) c.args.self.now c.altered_at.new.self
    c.args.number c.args.verdict _ c.self.view_is c.if-says.ensures.says c.in-Ok.ensures.set
    c.altered_at.ensures.counted

-- ---- nothing to set

pub returns-then-says-clause-same : goal.returns-then-says-clause-same
returns-then-says-clause-same c = λ said. (refl, refl)

pub returns-then-says-clause-set : goal.returns-then-says-clause-set
returns-then-says-clause-set c = λ unsaid. absurd (unsaid c.if-says.ensures.says)

pub returns-then-says-clause-full : goal.returns-then-says-clause-full
returns-then-says-clause-full c =
    not_over (verdict_on c.args.self.now c.args.number) c.args.verdict
    (nat_le c.args.self.now.limits.verdicts (length c.args.self.now.verdicts)) c.if-says.ensures.says

pub returns-then-says-clause-counted : goal.returns-then-says-clause-counted
returns-then-says-clause-counted c = inl refl

pub returns-then-says-clause-judged : goal.returns-then-says-clause-judged
returns-then-says-clause-judged c = λ rows all. all

-- ---- full

pub returns-then-would_pass-clause-same : goal.returns-then-would_pass-clause-same
returns-then-would_pass-clause-same c = λ said. absurd (c.if-says.ensures.says said)

pub returns-then-would_pass-clause-full : goal.returns-then-would_pass-clause-full
returns-then-would_pass-clause-full c = sym c.if-would_pass.ensures.passes

pub returns-then-would_pass-clause-counted : goal.returns-then-would_pass-clause-counted
returns-then-would_pass-clause-counted c = inl refl

pub returns-then-would_pass-clause-judged : goal.returns-then-would_pass-clause-judged
returns-then-would_pass-clause-judged c = λ rows all. all

-- ---- set

pub returns-in-Ok-clause-same : goal.returns-in-Ok-clause-same
returns-in-Ok-clause-same c = λ said. absurd (c.if-says.ensures.says said)

pub returns-in-Ok-clause-set : goal.returns-in-Ok-clause-set
returns-in-Ok-clause-set c = λ unsaid.
    set_now (record {
      limits = c.self.inside.limits;
      certs = c.self.inside.certs.entries;
      verdicts = c.self.inside.index.verdicts.entries;
      changes = c.self.inside.changes;
    }) c.args.self.now c.altered_at.new.self
    c.args.number c.args.verdict _ c.self.view_is c.in-Ok.ensures.set c.altered_at.ensures.counted

pub returns-in-Ok-clause-full : goal.returns-in-Ok-clause-full
returns-in-Ok-clause-full c = sym c.if-would_pass.ensures.passes

pub returns-in-Ok-clause-limits : goal.returns-in-Ok-clause-limits
returns-in-Ok-clause-limits c =
    ap (λ (k : Keyring). k.limits) c.altered_at.ensures.counted ∙ ap (λ (k : Keyring). k.limits) c.self.view_is

-- ---- out of memory

pub invariant_of-self-in-Err : goal.invariant_of-self-in-Err
invariant_of-self-in-Err c = rw c.in-Err.ensures.kept (
  c.self.invariant.0,
  c.self.invariant.1,
  c.self.invariant.2,
  logged_again c.self.inside.log c.make_room.new.log c.self.inside.certs.entries c.self.inside.changes
      c.make_room.ensures.from c.make_room.ensures.entries c.self.invariant.3,
)

pub returns-in-Err-clause-same : goal.returns-in-Err-clause-same
returns-in-Err-clause-same c = λ said. absurd (c.if-says.ensures.says said)

pub returns-in-Err-clause-full : goal.returns-in-Err-clause-full
returns-in-Err-clause-full c = sym c.if-would_pass.ensures.passes

pub returns-in-Err-clause-limits : goal.returns-in-Err-clause-limits
returns-in-Err-clause-limits c = ap (λ (k : Keyring). k.limits) c.self.view_is

pub returns-in-Err-clause-kept : goal.returns-in-Err-clause-kept
returns-in-Err-clause-kept c =
    same_parts _ _ _ _ _ _ c.args.self.now c.self.view_is refl
    (ap (λ (v : ByNumber). v.entries) c.in-Err.ensures.kept)

pub returns-in-Err-clause-counted : goal.returns-in-Err-clause-counted
returns-in-Err-clause-counted c =
    inl (same_parts _ _ _ _ _ _ c.args.self.now c.self.view_is refl
    (ap (λ (v : ByNumber). v.entries) c.in-Err.ensures.kept))

pub returns-in-Err-clause-later : goal.returns-in-Err-clause-later
returns-in-Err-clause-later c =
    subst (λ (k : Keyring). IsLater c.args.self.now k) (sym (same_parts _ _ _ _ _ _ c.args.self.now c.self.view_is refl
    (ap (λ (v : ByNumber). v.entries) c.in-Err.ensures.kept)))
    (later_itself c.args.self.now)

pub returns-in-Err-clause-judged : goal.returns-in-Err-clause-judged
returns-in-Err-clause-judged c = λ rows all.
    subst (λ (k : Keyring). IsJudgedBy rows k) (sym (same_parts _ _ _ _ _ _ c.args.self.now c.self.view_is refl
    (ap (λ (v : ByNumber). v.entries) c.in-Err.ensures.kept))) all

-- ---- one more can be counted

-- the limit on verdicts is far below what can be counted
pub set-requires : goal.set-requires
set-requires c =
    let within = c.self.invariant.0.within.verdicts in
    let small = c.self.invariant.0.small.verdicts in
    omega (arith, within, small)
