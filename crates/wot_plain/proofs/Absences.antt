-- Claims of absence: each line that asks for one or makes one has exactly one reply.
use Rattle.std.proofs.Common.{◌≡◌, ℕ, ◌<◌, ◌≤◌, Bool, true, false, List, [], ◌∷◌, ◌++◌, map, Ordering, Option, Some}
use Rattle.std.proofs.Common.{None, Result, Ok, Err, refl, sym, ap, ◌∙◌, subst, arith}
use Rattle.std.specs.Prelude.{nat_le, IfOk, IsSomeAnd}
use Rattle.std.specs.declared.cmp.Ordering.TheVariants.{Less, Equal, Greater}
use Rattle.std.specs.Ordering.{is_lt, match_ordering, ordering_reverse}
use Rattle.std.specs.BTreeMap.{insert_entry}
use Rattle.std.specs.List.{AllByRecursion}
use Rattle.std.specs.List.Sorted.{IsStrictlySortedBy}
use Rattle.std.specs.Map.{keys_of}
use Rattle.std.proofs.lemmas.Bool.{and_parts, lt-leb}
use Rattle.wot_types.specs.declared.fpr.Fpr.{Fpr}
use Rattle.wot_types.specs.Fpr.{fpr_cmp}
use Rattle.wot_types.specs.FprLaws.{fpr_total}
use Rattle.wot_types.specs.declared.memory.Memory.{Memory}
use Rattle.wot_edge.specs.declared.path.Path.{Path}
use Rattle.wot_edge.specs.Answer.{IsAnswer, amount_of}
use Rattle.wot_edge.specs.Path.{Question, Use, asks, use_of}
use Rattle.wot_check.specs.declared.checking.Checked.{Checked}
use Rattle.wot_check.specs.Absence.{IsChecked, IsLeastTable, IsMade}
use Rattle.wot_check.specs.Table.{AreLabels, IsTable, Labels}
use Rattle.wot_reply_lines.specs.Claims.{IsClaimSpelled, IsLabelSpelled, is_rising}
use Rattle.wot_reply_lines.specs.declared.claims.ClaimLine.{ClaimLine}
use Rattle.wot_reply_lines.specs.declared.claims.LabelLine.{LabelLine}
use Rattle.wot_script.specs.declared.reply.Reply.{Reply}
use Rattle.wot_script.specs.declared.reply.Reply.TheVariants as replies
use Rattle.wot_network.specs.Net.{network_for}
use Rattle.wot_network.specs.Roads.{present_of}
use Rattle.wot_answers.specs.declared.parts.Parts.{Parts}
use Rattle.wot_cache.specs.declared.view.View.{View}
use Rattle.wot_cache.specs.Parts.{ArePartsOf}
use Rattle.wot_cache.specs.Question.{question_in}
use Rattle.wot_cache.specs.State.{Engine, state_of}
use Rattle.wot_plain.specs.Absent.{Checks, TellsAbsence, claim_in, missed, table_in, verdict_on}

-- ---- tables in a line

is_lt-less : (o : Ordering) → is_lt o ≡ true → o ≡ Less
is_lt-less Less e = refl
is_lt-less Equal e = absurd cc
is_lt-less Greater e = absurd cc

abbrev Above : Fpr → Labels → Type 0
Above fpr table = AllByRecursion (λ k. fpr_cmp fpr k ≡ Less) (keys_of table)

all_above : (a b : Fpr) (table : Labels) → fpr_cmp a b ≡ Less → Above b table → Above a table
all_above a b [] less above = tt
all_above a b (e ∷ table) less above = (fpr_total.trans a b e.0 less above.0, all_above a b table less above.1)

rising_above : (label : LabelLine) (labels : List LabelLine) → is_rising (label ∷ labels) ≡ true →
    Above label.0 (table_in labels)
rising_above label [] e = tt
rising_above label (next ∷ labels) e =
    let parts = and_parts (is_lt (fpr_cmp label.0 next.0)) (is_rising (next ∷ labels)) e in
    let less = is_lt-less (fpr_cmp label.0 next.0) parts.0 in
    (less, all_above label.0 next.0 (table_in labels) less (rising_above next labels parts.1))

rising_later : (label : LabelLine) (labels : List LabelLine) → is_rising (label ∷ labels) ≡ true →
    is_rising labels ≡ true
rising_later label [] e = refl
rising_later label (next ∷ labels) e = (and_parts (is_lt (fpr_cmp label.0 next.0)) (is_rising (next ∷ labels)) e).1

rising_sorted : (labels : List LabelLine) → is_rising labels ≡ true →
    IsStrictlySortedBy fpr_cmp (keys_of (table_in labels))
unfolding IsStrictlySortedBy
rising_sorted [] e = tt
rising_sorted (label ∷ labels) e = (rising_above label labels e, rising_sorted labels (rising_later label labels e))

are_labels : (labels : List LabelLine) → AllByRecursion IsLabelSpelled labels → AreLabels (table_in labels)
are_labels [] all = tt
are_labels (label ∷ labels) all = let some = all.0.0 in ((omega (arith, some), all.0.1), are_labels labels all.1)

-- the labels in a line form a table
pub spelled_table : (claims : List ClaimLine) (labels : List LabelLine) → IsClaimSpelled claims labels →
    IsTable (table_in labels)
spelled_table claims labels s = record { order = rising_sorted labels s.rise; labels = are_labels labels s.numbers }

-- a label that follows all others is inserted at the end
insert_last : (table rest : Labels) (fpr : Fpr) (label : ℕ) →
    IsStrictlySortedBy fpr_cmp (keys_of (table ++ (fpr, label) ∷ rest))
    → insert_entry fpr_cmp table fpr label ≡ table ++ (fpr, label) ∷ []
unfolding IsStrictlySortedBy
insert_last [] rest fpr label s = refl
insert_last (e ∷ table) rest fpr label s =
    let greater : fpr_cmp fpr e.0 ≡ Greater = fpr_total.antisymm fpr e.0 ∙ ap ordering_reverse (below table s.0) in
    ap (λ (o : Ordering). match_ordering o ((fpr, label) ∷ e ∷ table) ((e.0, label) ∷ table)
    (e ∷ insert_entry fpr_cmp table fpr label)) greater
    ∙ ap (λ (es : Labels). e ∷ es) (insert_last table rest fpr label s.1)
  where
    below : (es : Labels) → Above e.0 (es ++ (fpr, label) ∷ rest) → fpr_cmp e.0 fpr ≡ Less
    below [] above = above.0
    below (x ∷ es) above = below es above.1

-- one more label is inserted
table_more : (labels later : List LabelLine) (label : LabelLine) (table new : Labels) → IsTable (table_in labels)
    → table ++ table_in (label ∷ later) ≡ table_in labels → new ≡ insert_entry fpr_cmp table label.0 label.1 →
    new ++ table_in later ≡ table_in labels
table_more labels later label table new good so e =
    let sorted = subst (λ (es : Labels). IsStrictlySortedBy fpr_cmp (keys_of es)) (sym so) good.order in
    ap (λ (es : Labels). es ++ table_in later) (e ∙ insert_last table (table_in later) label.0 label.1 sorted)
    ∙ put_back table (label.0, label.1) (table_in later)
    ∙ so
  where
    put_back : (es : Labels) (x : Fpr × ℕ) (rest : Labels) → (es ++ x ∷ []) ++ rest ≡ es ++ x ∷ rest
    put_back [] x rest = refl
    put_back (e ∷ es) x rest = ap (λ (t : Labels). e ∷ t) (put_back es x rest)

-- each inserted label is at least 1
label_some : (labels later : List LabelLine) (label : LabelLine) (table : Labels) → IsTable (table_in labels)
    → table ++ table_in (label ∷ later) ≡ table_in labels → 1 ≤ label.1
label_some labels later label table good so = by table (subst AreLabels (sym so) good.labels)
  where
    by : (es : Labels) → AreLabels (es ++ table_in (label ∷ later)) → 1 ≤ label.1
    by [] all = let some = all.0.0 in omega (arith, some)
    by (e ∷ es) all = by es all.1

-- the labels inserted so far and those left are those of the line
abbrev Left : Labels → List LabelLine → List LabelLine → Type 0
Left table left labels = table ++ table_in left ≡ table_in labels

pub first_put : (labels left later : List LabelLine) (label : LabelLine) (table new : Labels) →
    IsTable (table_in labels) → left ≡ label ∷ later
    → Left table left labels → new ≡ insert_entry fpr_cmp table label.0 label.1 → Left new later labels
first_put labels left later label table new good e so put =
    table_more labels later label table new good (subst (λ (ls : List LabelLine). Left table ls labels) e so) put

pub first_some : (labels left later : List LabelLine) (label : LabelLine) (table : Labels) → IsTable (table_in labels) →
    left ≡ label ∷ later
    → Left table left labels → 1 ≤ label.1
first_some labels left later label table good e so =
    label_some labels later label table good (subst (λ (ls : List LabelLine). Left table ls labels) e so)

-- ---- the reply to `absence`

pub tells_one : ((q : Question) (used : Use) (a b : Labels) → IsTable a → IsTable b → IsLeastTable q used a →
    IsLeastTable q used b → a ≡ b)
    → (reached : Bool) (q : Question) (paths : List Path) (r s : Reply) → TellsAbsence reached q paths r →
    TellsAbsence reached q paths s → r ≡ s
tells_one one true q paths r s a b = a ∙ sym b
tells_one one false q paths r s a b = a.3 ∙ ap (missed paths) (one q (use_of paths) a.0 b.0 a.1 b.1 a.2 b.2) ∙ sym b.3

pub tells_some : ((q : Question) (used : Use) → (table : Labels) × IsTable table × IsLeastTable q used table)
    → (reached : Bool) (q : Question) (paths : List Path) → (r : Reply) × TellsAbsence reached q paths r
tells_some some true q paths = (replies.Reached (amount_of paths), refl)
tells_some some false q paths = by (some q (use_of paths))
  where
    tells : (table : Labels) → IsTable table → IsLeastTable q (use_of paths) table →
        TellsAbsence false q paths (missed paths table)
    tells table good least = (table, good, least, refl)

    by : (table : Labels) × IsTable table × IsLeastTable q (use_of paths) table →
        (r : Reply) × TellsAbsence false q paths r
    by t = (missed paths t.0, tells t.0 t.1 t.2)

-- the reply to a question whose amount isn't reached
pub told_misses : (q : Question) (wanted sum : ℕ) (paths shown : List Path) (made : Option Labels) (table : Labels)
    (result : Result Reply Memory)
    → IsAnswer q wanted paths → sum ≡ amount_of paths → sum < wanted → shown ≡ paths → IsMade q (use_of shown) made →
    made ≡ Some table
    → IfOk result (λ reply. reply ≡ missed shown table)
    → IfOk result (λ reply. (x : List Path) × IsAnswer q wanted x × TellsAbsence (nat_le wanted (amount_of x)) q x
    reply)
told_misses q wanted sum paths shown made table (Err fault) answer e lt same m some told = tt
told_misses q wanted sum paths shown made table (Ok reply) answer e lt same m some told =
    let here = subst (IsMade q (use_of shown)) some m in
    by (lt-leb wanted (amount_of shown) (omega (arith, e, lt, ap amount_of same)))
    (subst (IsAnswer q wanted) (sym same) answer) here.0 here.1
  where
    tells : (b : Bool) → b ≡ false → IsTable table → IsLeastTable q (use_of shown) table → TellsAbsence b q shown reply
    tells true f good least = absurd cc
    tells false f good least = (table, good, least, told)

    by : nat_le wanted (amount_of shown) ≡ false → IsAnswer q wanted shown → IsTable table →
        IsLeastTable q (use_of shown) table
        → (x : List Path) × IsAnswer q wanted x × TellsAbsence (nat_le wanted (amount_of x)) q x reply
    by f a good least = (shown, a, tells (nat_le wanted (amount_of shown)) f good least)

-- a check over the parts of a view is a check from that view
pub checks_shown : (engine : Engine) (o : Option View) (parts : Parts) (target : Fpr) (claims : List ClaimLine)
    (labels : List LabelLine) (uid : List ℕ)
    (result : Result Reply Memory) → IsSomeAnd o (λ v. ArePartsOf engine.keyring v parts)
    → IfOk result (λ reply. (checked : Checked) × IsChecked (asks (network_for (present_of parts.roads) uid) parts.roots.now
    target) (map claim_in claims) (table_in labels) checked × (reply ≡ verdict_on claims checked))
    → IfOk result (λ reply. Checks (state_of engine) o target claims labels uid reply)
checks_shown engine None parts target claims labels uid result are checks = absurd are
checks_shown engine (Some v) parts target claims labels uid result are checks =
    let same : asks (network_for (present_of parts.roads) uid) parts.roots.now target ≡ question_in (state_of engine) v
    target uid =
    λ i. asks (network_for (are.roads i) uid) (are.roots i) target in
    subst (λ (q : Question). IfOk result (λ reply. (checked : Checked) × IsChecked q (map claim_in claims)
    (table_in labels) checked × (reply ≡ verdict_on claims checked))) same checks
