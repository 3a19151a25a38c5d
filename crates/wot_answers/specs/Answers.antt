-- Kept answers: what each depends on, and that it is right for as long as that is unchanged.
use Rattle.std.specs.Prelude.{◌≡◌, ◌⊎◌, ℕ, ◌≤◌, false, List, [], length, sum_by, Option, Some, IfSome, IsSomeAnd, Vec}
use Rattle.std.specs.declared.alloc.Global.{Global}
use Rattle.std.specs.BTreeMap.{is_at}
use Rattle.std.specs.List.{AllByRecursion}
use Rattle.std.specs.Map.{lookup, values_of}
use Rattle.std.specs.Option.{option_map_or}
use Rattle.std.specs.Ordering.{nat_cmp}
use Rattle.wot_types.specs.declared.fpr.Fpr.{Fpr}
use Rattle.wot_edge.specs.Answer.{IsAnswer, amount_of}
use Rattle.wot_edge.specs.Leads.{Leads}
use Rattle.wot_edge.specs.Path.{Question, asks}
use Rattle.wot_edge.specs.Record.{Has, Record}
use Rattle.wot_keyring_spec.specs.Keyring.{Keyring, certificates_in, stamp_at}
use Rattle.wot_keyring_spec.specs.Kept.{IsKeyring}
use Rattle.wot_keyring_spec.specs.Later.{IsLater}
use Rattle.wot_network.specs.Records.{record_of}
use Rattle.wot_reach.specs.Making.{IsMaking}
use Rattle.wot_answers.specs.declared.answers.KeptAnswer.{KeptAnswer}
use Rattle.wot_answers.specs.declared.reach.KeptReach.{KeptReach}
use Rattle.wot_answers.specs.declared.looked.Looked.{Looked}
use Rattle.wot_answers.specs.Looked.{Amounts, AreStill}
use Rattle.wot_answers.specs.Names.{is_name}

-- ---- what an answer depends on

-- the fingerprints that an answer depends on; None if it depends on the whole keyring
abbrev pub Grounds : Type 0
Grounds = Option (Vec Looked Global)

-- The answer depends on some fingerprints only, and all of them are unchanged.
abbrev pub AllStill : Keyring → Amounts → Grounds → Type 0
AllStill k roots grounds = IsSomeAnd grounds (λ (looked : Vec Looked Global). AreStill k roots looked.items)

-- each member of the set leads to the target
abbrev pub AllLead : Record → Fpr → List Fpr → Type 0
AllLead network target set = (fpr : Fpr) → Has set fpr → Leads network target fpr

-- Each fingerprint leads to the target in this keyring, and has the stamp in it that was noted.
pub record AllLeadIn (k : Keyring) (t : ℕ) (uid : List ℕ) (target : Fpr) (looked : List Looked) : Type 0 where
  pub stamps : AllByRecursion (λ (l : Looked). stamp_at k l.fpr ≡ l.stamp) looked
  pub each :
      AllByRecursion (λ (l : Looked). Leads (record_of (certificates_in k) k.verdicts t uid) target l.fpr) looked

-- They did so in an earlier keyring, for which everything holds that holds for keyrings.
pub record AllLed (k : Keyring) (t : ℕ) (uid : List ℕ) (target : Fpr) (looked : List Looked) : Type 0 where
  pub before : Keyring
  pub whole : IsKeyring before
  pub later : IsLater before k
  pub there : AllLeadIn before t uid target looked

-- ---- one answer

-- the question that a kept answer is for
pub record IsOf (a : KeptAnswer) (asked : Fpr) (most : ℕ) (text : List ℕ) (t : ℕ) : Type 0 where
  pub target : a.target ≡ asked
  pub wanted : a.wanted ≡ most
  pub uid : a.uid ≡ text
  pub time : a.time ≡ t

-- its question, in this keyring and from these roots
abbrev pub question_at : Keyring → Amounts → KeptAnswer → Question
question_at k roots a = asks (record_of (certificates_in k) k.verdicts a.time a.uid) roots a.target

-- the paths are the answer to its question
abbrev pub IsTheAnswer : Keyring → Amounts → KeptAnswer → Type 0
IsTheAnswer k roots a = IsAnswer (question_at k roots a) a.wanted a.answer.paths

-- An answer depends on no more than its search had to look at: every fingerprint led to the target.
abbrev pub RestsOnLeads : Keyring → KeptAnswer → Type 0
RestsOnLeads k a = IfSome a.looked (λ (looked : Vec Looked Global). AllLed k a.time a.uid a.target looked.items)

-- In this very keyring, every fingerprint that the answer depends on leads to the target.
abbrev pub RestsOnLeadsIn : Keyring → KeptAnswer → Type 0
RestsOnLeadsIn k a = IfSome a.looked (λ (looked : Vec Looked Global). AllLeadIn k a.time a.uid a.target looked.items)

-- It is for this question, and was found in this keyring by what leads to the target there.
pub record IsFoundBy (k : Keyring) (asked : Fpr) (most : ℕ) (text : List ℕ) (t : ℕ) (a : KeptAnswer) : Type 0 where
  pub of : IsOf a asked most text t
  pub leads : RestsOnLeadsIn k a

-- In this keyring and every later one, from any roots, this is the answer to its question as long as the fingerprints
-- that it depends on are unchanged.
pub record IsRight (k : Keyring) (a : KeptAnswer) : Type 0 where
  pub sum : a.answer.sum ≡ amount_of a.answer.paths
  pub answer : (later : Keyring) (roots : Amounts) → IsLater k later → AllStill later roots a.looked
      → IsTheAnswer later roots a
  pub leads : RestsOnLeads k a

-- It is the current answer if it was last found valid at the current count of changes and revision of the roots.
pub record IsGood (k : Keyring) (roots : Amounts) (revision : ℕ) (a : KeptAnswer) : Type 0 where
  pub counted : a.count ≤ k.changes
  pub turned : a.revision ≤ revision
  pub now : a.count ≡ k.changes → a.revision ≡ revision → IsTheAnswer k roots a

-- It is the answer from these roots, found valid at a count of changes that isn't in the future.
pub record IsFound (k : Keyring) (roots : Amounts) (a : KeptAnswer) : Type 0 where
  pub counted : a.count ≤ k.changes
  pub now : IsTheAnswer k roots a

-- only the count and the revision at which it was last found valid differ
abbrev pub IsSameBut : KeptAnswer → KeptAnswer → Type 0
IsSameBut old new = new ≡ record old { count = new.count; revision = new.revision }

-- ---- answers by the keys of their questions

abbrev pub Entries : Type 0
Entries = List (ℕ × KeptAnswer)

-- this answer is kept under some key
abbrev pub IsAmong : Entries → KeptAnswer → Type 0
IsAmong entries kept = (key : ℕ) × (lookup (is_at (nat_cmp key)) entries ≡ Some kept)

-- the answer that is kept under a key
abbrev pub kept_under : Entries → ℕ → Option KeptAnswer
kept_under entries key = lookup (is_at (nat_cmp key)) entries

-- It was kept under this key.
abbrev pub WasKept : Entries → ℕ → KeptAnswer → Type 0
WasKept entries key a = IsSomeAnd (kept_under entries key) (λ (before : KeptAnswer). IsSameBut before a)

-- Every answer that is kept now was kept before under its key.
abbrev pub WereKept : Entries → Entries → Type 0
WereKept old new = (key : ℕ) (a : KeptAnswer) → kept_under new key ≡ Some a → WasKept old key a

-- Every answer that is kept now was kept before under its key, or this holds of it.
abbrev pub WereKeptOr : (KeptAnswer → Type 0) → Entries → Entries → Type 0
WereKeptOr Found old new = (key : ℕ) (a : KeptAnswer) → kept_under new key ≡ Some a → WasKept old key a ⊎ Found a

-- Every kept answer is right, and valid if it was last found so at this revision of the roots.
abbrev pub AreRight : Keyring → Amounts → ℕ → Entries → Type 0
AreRight k roots revision entries =
    AllByRecursion (λ (e : ℕ × KeptAnswer). IsRight k e.1 × IsGood k roots revision e.1) entries

-- The operation keeps every answer right.
abbrev pub StayRight : Entries → Entries → Type 0
StayRight old new =
    (k : Keyring) (roots : Amounts) (revision : ℕ) → AreRight k roots revision old → AreRight k roots revision new

-- The operation keeps every answer right if the added answer is right and valid.
abbrev pub StayRightWith : KeptAnswer → Entries → Entries → Type 0
StayRightWith a old new = (k : Keyring) (roots : Amounts) (revision : ℕ) → AreRight k roots revision old
    → IsRight k a → IsGood k roots revision a → AreRight k roots revision new

-- how many fingerprints an answer depends on
abbrev pub looked_in : KeptAnswer → ℕ
looked_in a = option_map_or (λ (looked : Vec Looked Global). length looked.items) a.looked 0

-- the number for an answer that may be missing
abbrev pub looked_by : Option KeptAnswer → ℕ
looked_by found = option_map_or looked_in found 0

-- how many fingerprints these answers depend on together
abbrev pub looked_of : Entries → ℕ
looked_of entries = sum_by looked_in (values_of entries)

-- the limits of what is kept for one view: 1,024 answers, and 2^20 consulted fingerprints, of which `looked` is the
-- count
pub record AreFew (entries : Entries) (looked : ℕ) : Type 0 where
  pub few : length entries ≤ 1024
  pub counted : sum_by looked_in (values_of entries) ≡ looked
  pub bounded : looked ≤ 1048576

-- ---- a table of reach

-- If it was begun at the current count of changes and for the current roots, it is a table of their reach in the
-- making, by the certificates and verdicts at its time.
pub record IsReaching (k : Keyring) (roots : Amounts) (revision : ℕ) (r : KeptReach) : Type 0 where
  pub counted : r.count ≤ k.changes
  pub turned : r.revision ≤ revision
  pub now : r.count ≡ k.changes → r.revision ≡ revision
      → IsMaking (record_of (certificates_in k) k.verdicts r.time) roots r.making

-- ---- answers by view

-- the answers of a view, the roots by which they were last found valid, the revision of those roots, and the table of
-- reach if one exists
pub record OfView : Type 0 where
  pub entries : Entries
  pub roots : Amounts
  pub revision : ℕ
  pub reach : Option KeptReach

pub record AreRightIn (k : Keyring) (of_view : OfView) : Type 0 where
  pub each : AreRight k of_view.roots of_view.revision of_view.entries
  pub reach : IfSome of_view.reach (IsReaching k of_view.roots of_view.revision)

-- answers by view name
abbrev pub AllAnswers : Type 0
AllAnswers = List (List ℕ × OfView)

-- the answers of the named view; none before its first question
abbrev pub answers_for : List ℕ → AllAnswers → Entries
answers_for name answers = option_map_or (λ (of_view : OfView). of_view.entries) (lookup (is_name name) answers) []

-- Every answer that is kept now for the named view was kept for it before under its key, or this holds of it.
abbrev pub AnswersKeptOr : (KeptAnswer → Type 0) → List ℕ → AllAnswers → AllAnswers → Type 0
AnswersKeptOr Found name old new = WereKeptOr Found (answers_for name old) (answers_for name new)

-- what is kept for other views is unchanged
abbrev pub OthersKept : List ℕ → AllAnswers → AllAnswers → Type 0
OthersKept name old new =
    (other : List ℕ) → is_name name other ≡ false → lookup (is_name other) new ≡ lookup (is_name other) old

abbrev pub AreAllRight : Keyring → AllAnswers → Type 0
AreAllRight k views = AllByRecursion (λ (e : List ℕ × OfView). AreRightIn k e.1) views
