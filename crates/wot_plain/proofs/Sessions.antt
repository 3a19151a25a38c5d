-- The counts after a step, and that they are unique.
use Rattle.std.proofs.Common.{◌≡◌, ◌≢◌, inl, inr, ℕ, ◌+◌, ◌≤◌, List, refl, sym, ap, ◌∙◌, arith}
use Rattle.std.specs.Prelude.{◌⊎◌}
use Rattle.wot_keyring_spec.specs.Held.{Held}
use Rattle.wot_keyring_spec.specs.Import.{IsOneChange}
use Rattle.wot_keyring_spec.specs.Keyring.{Keyring}
use Rattle.wot_cache.specs.State.{Engine, state_of}
use Rattle.wot_cache.specs.Revisions.{AreRevisionsBy, Revisions, turned, without_revision}
use Rattle.wot_cache.specs.Views.{Views, view_at}
use Rattle.wot_cursor.specs.Cursors.{Cursors}
use Rattle.wot_plain.specs.declared.class.Class.{Class}
use Rattle.wot_plain.specs.Session.{AreTurned, IsCounted, RevisedBy, Turning, Session, turning_of, session_of}
use Rattle.wot_plain.proofs.Known.{Known, held, views}

-- ---- changes

pub counted_one : (old m n : Session) → m.state.held ≡ n.state.held → IsCounted old m → IsCounted old n →
    m.changes ≡ n.changes
counted_one old m n same (inl a) (inl b) = a.1 ∙ sym b.1
counted_one old m n same (inr a) (inr b) = a.1 ∙ sym b.1
counted_one old m n same (inl a) (inr b) = absurd (b.0 (sym same ∙ a.0))
counted_one old m n same (inr a) (inl b) = absurd (a.0 (same ∙ b.0))

-- there is a count after a step to this
pub counted_some : (old : Session) (new : Held)
    → (n : ℕ) × (((new ≡ old.state.held) × (n ≡ old.changes)) ⊎ ((new ≢ old.state.held) × (n ≡ old.changes + 1)))
counted_some old new = by (held new old.state.held)
  where
    by : Known (new ≡ old.state.held) →
        (n : ℕ) × (((new ≡ old.state.held) × (n ≡ old.changes)) ⊎ ((new ≢ old.state.held) × (n ≡ old.changes + 1)))
    by (inl same) = (old.changes, inl (same, refl))
    by (inr other) = (old.changes + 1, inr (other, refl))

-- by the keyring's own count
pub counted_by : (old new : Engine) (cursors after : Cursors) → IsOneChange old.keyring new.keyring →
    IsCounted (session_of old cursors) (session_of new after)
counted_by old new cursors after (inl same) = inl (
  (λ i. (state_of (record old { keyring = same i })).held),
  ap (λ (k : Keyring). k.changes) same,
)
counted_by old new cursors after (inr changed) = inr (changed.altered, changed.counted)

-- ---- turns

by_one : (altered : Revisions) (name : List ℕ) (old m n : Views) (before a b : Revisions) → m ≡ n →
    AreRevisionsBy altered name old before m a → AreRevisionsBy altered name old before n b → a ≡ b
by_one altered name old m n before a b same (inl p) (inl q) = p.1 ∙ sym q.1
by_one altered name old m n before a b same (inr p) (inr q) = p.1 ∙ sym q.1
by_one altered name old m n before a b same (inl p) (inr q) =
    absurd (q.0 (ap (λ (vs : Views). view_at vs name) (sym same) ∙ p.0))
by_one altered name old m n before a b same (inr p) (inl q) =
    absurd (p.0 (ap (λ (vs : Views). view_at vs name) same ∙ q.0))

by_some : (altered : Revisions) (name : List ℕ) (old new : Views) (before : Revisions) →
    (after : Revisions) × AreRevisionsBy altered name old before new after
by_some altered name old new before = by (views (view_at new name) (view_at old name))
  where
    by : Known (view_at new name ≡ view_at old name) → (after : Revisions) × AreRevisionsBy altered name old before new after
    by (inl same) = (before, inl (same, refl))
    by (inr other) = (altered, inr (other, refl))

by_still : (altered : Revisions) (name : List ℕ) (old new : Views) (before after : Revisions) → new ≡ old →
    AreRevisionsBy altered name old before new after → after ≡ before
by_still altered name old new before after same (inl p) = p.1
by_still altered name old new before after same (inr p) = absurd (p.0 (ap (λ (vs : Views). view_at vs name) same))

turns_one : (turning : Turning) (old m n : Views) (before a b : Revisions) → m ≡ n → AreTurned turning old before m a →
    AreTurned turning old before n b → a ≡ b
turns_one (Turning.turning view) old m n before a b same p q = by_one (turned view before) view old m n before a b same
    p q
turns_one (Turning.closing view) old m n before a b same p q = by_one (without_revision view before) view old m n before a b
    same p q
turns_one Turning.leaving old m n before a b same p q = p ∙ sym q

pub turned_one : (class : Class) (old m n : Views) (before a b : Revisions) → m ≡ n →
    RevisedBy class old before m a → RevisedBy class old before n b → a ≡ b
turned_one class old m n before a b same p q = turns_one (turning_of class) old m n before a b same p q

turns_some : (turning : Turning) (old new : Views) (before : Revisions) →
    (after : Revisions) × AreTurned turning old before new after
turns_some (Turning.turning view) old new before = by_some (turned view before) view old new before
turns_some (Turning.closing view) old new before = by_some (without_revision view before) view old new before
turns_some Turning.leaving old new before = (before, refl)

pub turned_some : (class : Class) (old new : Views) (before : Revisions) →
    (after : Revisions) × RevisedBy class old before new after
turned_some class old new before = turns_some (turning_of class) old new before

turns_still : (turning : Turning) (old new : Views) (before after : Revisions) → new ≡ old →
    AreTurned turning old before new after → after ≡ before
turns_still (Turning.turning view) old new before after same p = by_still (turned view before) view old new before after
    same p
turns_still (Turning.closing view) old new before after same p = by_still (without_revision view before) view old new before
    after same p
turns_still Turning.leaving old new before after same p = p

-- if the views don't change, the turns don't
pub turned_still : (class : Class) (old new : Views) (before after : Revisions) → new ≡ old →
    RevisedBy class old before new after → after ≡ before
turned_still class old new before after same p = turns_still (turning_of class) old new before after same p

-- at most one more turn
by_few : (altered : Revisions) (name : List ℕ) (old new : Views) (before after : Revisions) → altered.count ≤ before.count + 1 →
    AreRevisionsBy altered name old before new after
    → after.count ≤ before.count + 1
by_few altered name old new before after few (inl p) = let same = ap (λ (t : Revisions). t.count) p.1 in omega (arith, same)
by_few altered name old new before after few (inr p) = let same = ap (λ (t : Revisions). t.count) p.1 in
    omega (arith, same, few)

pub same_few : (before after : Revisions) → after ≡ before → after.count ≤ before.count + 1
same_few before after same = let count = ap (λ (t : Revisions). t.count) same in omega (arith, count)

turns_few : (turning : Turning) (old new : Views) (before after : Revisions) → AreTurned turning old before new after →
    after.count ≤ before.count + 1
turns_few (Turning.turning view) old new before after p = by_few (turned view before) view old new before after
    (omega arith) p
turns_few (Turning.closing view) old new before after p = by_few (without_revision view before) view old new before after
    (omega arith) p
turns_few Turning.leaving old new before after p = same_few before after p

pub turned_few : (class : Class) (old new : Views) (before after : Revisions) →
    RevisedBy class old before new after → after.count ≤ before.count + 1
turned_few class old new before after p = turns_few (turning_of class) old new before after p

-- ---- everything that is kept

pub whole_same : (m n : Session) → m.state ≡ n.state → m.changes ≡ n.changes → m.revisions ≡ n.revisions → m.cursors ≡ n.cursors →
    m.watches ≡ n.watches → m ≡ n
whole_same m n s c t k w = λ i. record { state = s i; changes = c i; revisions = t i; cursors = k i; watches = w i }
