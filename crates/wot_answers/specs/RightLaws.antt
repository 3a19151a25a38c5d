-- Laws of kept answers: they are found right, and they stay right in later keyrings. For the proofs of this crate and
-- of those above it.
use Rattle.std.proofs.Common.{◌≡◌, inl, inr, ℕ, ◌+◌, ◌<◌, ◌≤◌, List, [], ◌∷◌, Option}
use Rattle.std.proofs.Common.{Some, None, Result, Ok, Err, OnOk, OnErr, refl, sym, subst, arith}
use Rattle.std.specs.Prelude.{Vec}
use Rattle.std.specs.declared.alloc.Global.{Global}
use Rattle.std.specs.Ordering.{nat_cmp}
use Rattle.std.specs.Option.{IfSome}
use Rattle.std.specs.BTreeMap.{insert_entry, is_at}
use Rattle.std.specs.Map.{lookup, remove_entry, set_value}
use Rattle.wot_types.specs.declared.fpr.Fpr.{Fpr}
use Rattle.wot_types.specs.ViewName.{view_name_cmp}
use Rattle.wot_keyring_spec.specs.Import.{IsOneChange}
use Rattle.wot_keyring_spec.specs.Keyring.{Keyring}
use Rattle.wot_keyring_spec.specs.Later.{IsLater}
use Rattle.wot_answers.specs.declared.answers.KeptAnswer.{KeptAnswer}
use Rattle.wot_answers.specs.declared.reach.KeptReach.{KeptReach}
use Rattle.wot_answers.specs.declared.looked.Looked.{Looked}
use Rattle.wot_answers.specs.Answers.{AllAnswers, AllLed, AreAllRight, AreRight, AreRightIn, Entries, IsGood}
use Rattle.wot_answers.specs.Looked.{Amounts}
use Rattle.wot_answers.specs.Answers.{IsReaching, IsRight, OfView}
use Rattle.wot_answers.specs.Names.{is_name}
use Rattle.std.specs.Option.{option_map_or}
use Rattle.wot_edge.specs.Answer.{IsAnswer}
use Rattle.wot_edge.specs.Path.{asks}
use Rattle.wot_keyring_spec.specs.declared.kept.Kept.{Kept}
use Rattle.wot_keyring_spec.specs.Keyring.{certificates_in, is_fpr, kept_at, stamp_at}
use Rattle.wot_keyring_spec.specs.Kept.{AreStamped}
use Rattle.wot_network.specs.Records.{record_of}
use Rattle.wot_answers.specs.Answers.{IsTheAnswer}
use Rattle.wot_answers.specs.Answers.{IsOf}
use Rattle.wot_answers.specs.EntryLaws.{each_found}
use Rattle.wot_answers.specs.EntryLaws.{each_inserted, each_set, each_removed}

-- the law that being later is transitive
abbrev pub LaterStill : Type 0
LaterStill = (old mid new : Keyring) → IsLater old mid → IsLater mid new → IsLater old new

-- what led to the target in an earlier keyring did so before every later one
led_later : LaterStill → (old new : Keyring) (t : ℕ) (uid : List ℕ) (target : Fpr) (o : Option (Vec Looked Global))
    → IsLater old new
    → IfSome o (λ (ls : Vec Looked Global). AllLed old t uid target ls.items)
    → IfSome o (λ (ls : Vec Looked Global). AllLed new t uid target ls.items)
led_later further old new t uid target None later led = tt
led_later further old new t uid target (Some ls) later led = record {
  before = led.before;
  whole = led.whole;
  later = further led.before old new led.later later;
  there = led.there;
}

-- a right answer stays right in every later keyring
right_later : LaterStill → (old new : Keyring) (a : KeptAnswer) → IsLater old new → IsRight old a → IsRight new a
right_later further old new a later right = record {
  sum = right.sum;
  answer = λ last roots is. right.answer last roots (further old new last later is);
  leads = led_later further old new a.time a.uid a.target a.looked later right.leads;
}

-- a change raises the count, so what was valid before isn't taken for valid after it
good_later : (old new : Keyring) (roots : Amounts) (revision : ℕ) (a : KeptAnswer) → IsOneChange old new
    → IsGood old roots revision a → IsGood new roots revision a
good_later old new roots revision a (inl same) good = subst (λ (k : Keyring). IsGood k roots revision a) (sym same) good
good_later old new roots revision a (inr more) good =
    let counted : new.changes ≡ old.changes + 1 = more.counted in
    let past = good.counted in
    record {
      counted = omega (arith, counted, past);
      turned = good.turned;
      now = λ e f. absurd (omega (arith, counted, past, e));
    }

are_right_later : LaterStill → (old new : Keyring) (roots : Amounts) (revision : ℕ) (entries : Entries)
    → IsLater old new
    → IsOneChange old new
    → AreRight old roots revision entries → AreRight new roots revision entries
are_right_later further old new roots revision [] later one all = tt
are_right_later further old new roots revision (e ∷ es) later one all = (
  (right_later further old new e.1 later all.0.0, good_later old new roots revision e.1 one all.0.1),
  are_right_later further old new roots revision es later one all.1,
)

-- nor is a table of reach from before the change
reaching_later : (old new : Keyring) (roots : Amounts) (revision : ℕ) (r : KeptReach) → IsOneChange old new
    → IsReaching old roots revision r → IsReaching new roots revision r
reaching_later old new roots revision r (inl same) is =
    subst (λ (k : Keyring). IsReaching k roots revision r) (sym same) is
reaching_later old new roots revision r (inr more) is =
    let counted : new.changes ≡ old.changes + 1 = more.counted in
    let past = is.counted in
    record {
      counted = omega (arith, counted, past);
      turned = is.turned;
      now = λ e f. absurd (omega (arith, counted, past, e));
    }

some_reaching_later : (old new : Keyring) (roots : Amounts) (revision : ℕ) (o : Option KeptReach) → IsOneChange old new
    → IfSome o (IsReaching old roots revision)
    → IfSome o (IsReaching new roots revision)
some_reaching_later old new roots revision None one is = is
some_reaching_later old new roots revision (Some r) one is = reaching_later old new roots revision r one is

pub all_right_later : LaterStill → (old new : Keyring) (answers : AllAnswers) → IsLater old new → IsOneChange old new
    → AreAllRight old answers → AreAllRight new answers
all_right_later further old new [] later one all = tt
all_right_later further old new (e ∷ es) later one all = (
  record {
    each = are_right_later further old new e.1.roots e.1.revision e.1.entries later one all.0.each;
    reach = some_reaching_later old new e.1.roots e.1.revision e.1.reach one all.0.reach;
  },
  all_right_later further old new es later one all.1,
)

-- ---- the answers of an engine

abbrev RightOf : Keyring → OfView → Type 0
RightOf k of_view = AreRightIn k of_view

pub all_right_without : (k : Keyring) (answers : AllAnswers) (name : List ℕ) → AreAllRight k answers
    → AreAllRight k (remove_entry (is_name name) answers)
all_right_without k answers name all = each_removed (RightOf k) (is_name name) answers all

pub all_right_put : (k : Keyring) (answers : AllAnswers) (name : List ℕ) (of_view : OfView) → AreAllRight k answers
    → AreRightIn k of_view
    → AreAllRight k (insert_entry view_name_cmp answers name of_view)
all_right_put k answers name of_view all right = each_inserted (RightOf k) view_name_cmp answers name of_view all right

pub all_right_set : (k : Keyring) (answers : AllAnswers) (name : List ℕ) (of_view : OfView) → AreAllRight k answers
    → AreRightIn k of_view
    → AreAllRight k (set_value (is_name name) answers of_view)
all_right_set k answers name of_view all right = each_set (RightOf k) (is_name name) answers of_view all right

pub right_found : (k : Keyring) (answers : AllAnswers) (name : List ℕ) (of_view : OfView) → AreAllRight k answers
    → lookup (is_name name) answers ≡ Some of_view
    → AreRightIn k of_view
right_found k answers name of_view all e = each_found (RightOf k) (is_name name) answers of_view all e

pub all_right_inserted : {A E : Type 0} (k : Keyring) (answers new : AllAnswers) (name : List ℕ) (of_view : OfView)
    (r : Result A E)
    → OnOk r (new ≡ insert_entry view_name_cmp answers name of_view) → OnErr r (new ≡ answers) → AreAllRight k answers
    → AreRightIn k of_view → AreAllRight k new
all_right_inserted k answers new name of_view (Ok done) put same all right =
    rw put (all_right_put k answers name of_view all right)
all_right_inserted k answers new name of_view (Err fault) put same all right = rw same all

-- ---- the answers of a view

abbrev RightAnd : Keyring → Amounts → ℕ → KeptAnswer → Type 0
RightAnd k roots revision a = IsRight k a × IsGood k roots revision a

-- the answer found under a key
pub answer_found : (k : Keyring) (roots : Amounts) (revision : ℕ) (entries : Entries) (key : ℕ) (a : KeptAnswer)
    → AreRight k roots revision entries
    → lookup (is_at (nat_cmp key)) entries ≡ Some a → RightAnd k roots revision a
answer_found k roots revision entries key a all e =
    each_found (RightAnd k roots revision) (is_at (nat_cmp key)) entries a all e

pub answer_set : (k : Keyring) (roots : Amounts) (revision : ℕ) (entries : Entries) (key : ℕ) (a : KeptAnswer)
    → AreRight k roots revision entries
    → RightAnd k roots revision a → AreRight k roots revision (set_value (is_at (nat_cmp key)) entries a)
answer_set k roots revision entries key a all right =
    each_set (RightAnd k roots revision) (is_at (nat_cmp key)) entries a all
    right

-- ---- stamps and questions

abbrev pub StampedBy : ℕ → Kept → Type 0
StampedBy changes x = (0 < x.stamp) × (x.stamp ≤ changes)

pub stamped_there : (k : Keyring) (fpr : Fpr) (x : Kept) → AreStamped k.changes k.certs → kept_at k fpr ≡ Some x
    → StampedBy k.changes x
stamped_there k fpr x stamped e = each_found (StampedBy k.changes) (is_fpr fpr) k.certs x stamped e

-- a stamp is at most the current count of changes
pub stamp_past : (k : Keyring) (fpr : Fpr) → AreStamped k.changes k.certs → stamp_at k fpr ≤ k.changes
stamp_past k fpr stamped = by (kept_at k fpr) refl
  where
    by : (o : Option Kept) → kept_at k fpr ≡ o → option_map_or (λ (x : Kept). x.stamp) o 0 ≤ k.changes
    by None e = omega arith
    by (Some x) e = (stamped_there k fpr x stamped e).1

pub of_question : (k : Keyring) (roots : List (Fpr × ℕ)) (a : KeptAnswer) (target : Fpr) (wanted : ℕ) (uid : List ℕ)
    (t : ℕ) → IsOf a target wanted uid t
    → IsTheAnswer k roots a → IsAnswer (asks (record_of (certificates_in k) k.verdicts t uid) roots target) wanted
    a.answer.paths
of_question k roots a target wanted uid t is here =
    subst (λ (w : ℕ). IsAnswer (asks (record_of (certificates_in k) k.verdicts t uid) roots target) w a.answer.paths)
    is.wanted
    (subst (λ (f : Fpr). IsAnswer (asks (record_of (certificates_in k) k.verdicts t uid) roots f) a.wanted
    a.answer.paths) is.target
    (subst (λ (u : List ℕ). IsAnswer (asks (record_of (certificates_in k) k.verdicts t u) roots a.target) a.wanted
    a.answer.paths) is.uid
    (subst (λ (s : ℕ). IsAnswer (asks (record_of (certificates_in k) k.verdicts s a.uid) roots a.target) a.wanted
    a.answer.paths) is.time here)))
