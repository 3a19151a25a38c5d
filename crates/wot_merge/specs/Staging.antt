-- How an import merges certificates one after the other, and how that is undone.
use Rattle.std.specs.Prelude.{◌≡◌, ◌≤◌, ℕ, ◌+◌, Bool, true, false, not, ◌||◌, nat_eq, nat_lt, if◌then◌else◌}
use Rattle.std.specs.Prelude.{List, [], ◌∷◌, Option, Some, None, is_some, Result, Ok, Err}
use Rattle.std.specs.Option.{option_map}
use Rattle.std.specs.Cmp.Lexicographic.{pointwise}
use Rattle.std.specs.BTreeMap.{insert_entry}
use Rattle.std.specs.Map.{lookup, remove_entry, set_value}
use Rattle.wot_types.specs.declared.fpr.Fpr.{Fpr}
use Rattle.wot_types.specs.declared.limits.Limits.{Limits}
use Rattle.wot_types.specs.declared.limits.Limit.{Limit}
use Rattle.wot_types.specs.declared.limits.Limit.TheVariants as limits
use Rattle.wot_types.specs.Fpr.{fpr_cmp}
use Rattle.wot_key.specs.Key.{fpr_of}
use Rattle.wot_policy.specs.declared.policy.Policy.{Policy}
use Rattle.wot_policy.specs.declared.rows.PolicyRows.{PolicyRows}
use Rattle.wot_policy.specs.Kept.{rows_of}
use Rattle.wot_cert.specs.Assembly.{bare}
use Rattle.wot_component.specs.Certificate.{Certificate}
use Rattle.wot_component.specs.Asking.{AsksUpTo}
use Rattle.wot_cert.specs.declared.growth.Growth.{Growth}
use Rattle.wot_cert.specs.Growing.{shrunk, LeadsBack as CertLeadsBack}
use Rattle.wot_component.specs.Counts.{sum_of, items_of, signatures_of}
use Rattle.wot_component.specs.Judged.{IsJudged, judged, sound_of}
use Rattle.wot_component.specs.Text.{size_of}
use Rattle.wot_keyring_spec.specs.declared.kept.Kept.{Kept}
use Rattle.wot_merge.specs.declared.in_place.Leap.{Leap}
use Rattle.wot_merge.specs.declared.undo.Before.{Before}
use Rattle.wot_merge.specs.declared.undo.Before.TheVariants.{Was, Smaller}
use Rattle.wot_merge.specs.declared.undo.Was.{Was as TheWas}
use Rattle.wot_merge.specs.declared.staging.Fault.{Fault}
use Rattle.wot_merge.specs.declared.staging.Fault.TheVariants.{Clash, Memory}
use Rattle.wot_merge.specs.declared.staging.Staged.{Staged}
use Rattle.wot_merge.specs.declared.staging.Step.{Step}
use Rattle.wot_merge.specs.declared.staging.Terms.{Terms}
use Rattle.wot_merge.specs.declared.tally.Tally.{Tally}
use Rattle.wot_merge.specs.declared.tally.Weight.{Weight}
use Rattle.wot_keyring_spec.specs.Keyring.{Entries, is_fpr}
use Rattle.wot_keyring_spec.specs.Import.{merged_into, stamp_for}

-- ---- one certificate

-- what is kept under a certificate's fingerprint
abbrev pub found_for : Entries → Certificate → Option Kept
found_for es c = lookup (is_fpr (fpr_of c.key)) es

-- the certificate that it is merged with: the kept one, or the bare key
abbrev pub begun : Option Kept → Certificate → Certificate
begun None c = bare c.key
begun (Some kept) c = kept.cert

abbrev pub joined : PolicyRows → Option Kept → Certificate → Certificate
joined rows found c = merged_into (option_map (λ (x : Kept). x.cert) found) (judged rows c)

abbrev pub kept_as : PolicyRows → ℕ → Option Kept → Certificate → Kept
kept_as rows stamp found c = record { cert = joined rows found c; stamp = stamp_for stamp found (joined rows found c) }

-- the entries with this certificate, marked by the rows and merged with the one of its fingerprint
abbrev pub kept_with : PolicyRows → ℕ → Entries → Certificate → Entries
kept_with rows stamp es c = insert_entry fpr_cmp es (fpr_of c.key) (kept_as rows stamp (found_for es c) c)

-- the entries with each of these merged in, the first one first
abbrev pub kept_all : PolicyRows → ℕ → Entries → List Certificate → Entries
kept_all rows stamp es [] = es
kept_all rows stamp es (c ∷ cs) = kept_all rows stamp (kept_with rows stamp es c) cs

-- ---- clashes

abbrev pub clash_at : Option Kept → Certificate → Bool
clash_at None c = false
clash_at (Some kept) c = not (pointwise nat_eq c.key kept.cert.key)

-- whether one of these clashes with what is kept under its fingerprint at that point
abbrev pub clash_in : PolicyRows → ℕ → Entries → List Certificate → Bool
clash_in rows stamp es [] = false
clash_in rows stamp es (c ∷ cs) = clash_at (found_for es c) c || clash_in rows stamp (kept_with rows stamp es c) cs

-- A clash is reported if and only if there is one; "out of memory" may come in either case.
abbrev pub IsClashTold : Fault → Bool → Type 0
IsClashTold Clash clashes = clashes ≡ true
IsClashTold Memory clashes = Unit {0}

abbrev pub TellsClash : {T : Type 0} → Result T Fault → Bool → Type 0
TellsClash (Ok done) clashes = clashes ≡ false
TellsClash (Err fault) clashes = IsClashTold fault clashes

-- ---- weights

-- 1 if a certificate exceeds the limit, else 0
abbrev pub long_of : ℕ → Certificate → ℕ
long_of limit c = if nat_lt limit (size_of c) then 1 else 0

pub record Weighs (limit : ℕ) (w : Weight) (c : Certificate) : Type 0 where
  pub octets : w.octets ≡ size_of c
  pub signatures : w.signatures ≡ signatures_of c
  pub long : w.long ≡ long_of limit c

-- the weight of a kept certificate; 0 if there is none
abbrev pub WeighsFound : ℕ → Weight → Option Kept → Type 0
WeighsFound limit w None = (w.octets ≡ 0) × (w.signatures ≡ 0) × (w.long ≡ 0)
WeighsFound limit w (Some kept) = Weighs limit w kept.cert

-- the weight of all certificates
abbrev pub weigh_kept : (Certificate → ℕ) → Entries → ℕ
weigh_kept measure es = sum_of (λ (e : Fpr × Kept). measure e.1.cert) es

-- the totals of what is kept
pub record IsTally (limit : ℕ) (es : Entries) (total : Weight) : Type 0 where
  pub octets : total.octets ≡ weigh_kept size_of es
  pub signatures : total.signatures ≡ weigh_kept signatures_of es
  pub long : total.long ≡ weigh_kept (long_of limit) es

-- the first limit that this number of certificates with these totals exceeds
abbrev pub full_by : Limits → Weight → ℕ → Option Limit
full_by l total count =
    if nat_lt 0 total.long then Some limits.Certificate
    else if nat_lt l.certificates count then Some limits.Certificates
    else if nat_lt l.octets total.octets then Some limits.Octets
    else if nat_lt l.signatures total.signatures then Some limits.Signatures
    else None

-- One weight can replace another.
pub record CanMove (before after total : Weight) : Type 0 where
  pub octets : before.octets ≤ total.octets + after.octets
  pub signatures : before.signatures ≤ total.signatures + after.signatures
  pub long : before.long ≤ total.long + after.long

-- One weight replaces another.
pub record Moves (before after : Weight) (old new : Weight) : Type 0 where
  pub octets : new.octets + before.octets ≡ old.octets + after.octets
  pub signatures : new.signatures + before.signatures ≡ old.signatures + after.signatures
  pub long : new.long + before.long ≡ old.long + after.long

-- ---- what is new of a certificate

-- how much of it was kept, by a measure
abbrev pub found_by : (Certificate → ℕ) → Option Kept → ℕ
found_by measure None = 0
found_by measure (Some kept) = measure kept.cert

-- how many well-formed signatures are kept
abbrev pub sound_in : Entries → ℕ
sound_in es = weigh_kept sound_of es

-- What is new was counted.
abbrev pub Counts : Entries → Entries → Tally → Tally → Type 0
Counts es es' t t' = t'.fresh + weigh_kept items_of es ≡ t.fresh + weigh_kept items_of es'

-- Something is kept under a fingerprint.
abbrev pub IsThere : Entries → Fpr → Type 0
IsThere es fpr = is_some (lookup (is_fpr fpr) es) ≡ true

-- It is marked by these policy rows if it is kept.
abbrev pub IsFoundJudged : PolicyRows → Option Kept → Type 0
IsFoundJudged rows None = Unit {0}
IsFoundJudged rows (Some kept) = IsJudged rows kept.cert

-- the stamp of a certificate to which this many items are added, from its earlier stamp if it was kept
abbrev pub stamp_over : ℕ → Option ℕ → ℕ → ℕ
stamp_over stamp None items = stamp
stamp_over stamp (Some old) items = if nat_eq items 0 then old else stamp

-- The policy was asked about each well-formed signature by which the certificate grows that was found; on an error,
-- about some of them at most.
abbrev pub AsksToJoin : {F T : Type 0} → Result T Fault → Policy F → Policy F → Option Kept → Certificate → Type 0
AsksToJoin result before after found c =
    AsksUpTo result before after (found_by sound_of found) (sound_of (joined (rows_of before) found c))

-- It was asked so about all that is new once these certificates are merged with the entries.
abbrev pub AsksForNew : {F T : Type 0} → Result T Fault → Policy F → Policy F → ℕ → Entries → List Certificate → Type 0
AsksForNew result before after stamp es cs =
    AsksUpTo result before after (sound_in es) (sound_in (kept_all (rows_of before) stamp es cs))

-- The result of merging one certificate with what was found.
pub record IsStaged (rows : PolicyRows) (stamp limit : ℕ) (found : Option Kept) (c : Certificate) (s : Staged)
    : Type 0 where
  pub kept : s.kept ≡ kept_as rows stamp found c
  pub before : WeighsFound limit s.before found
  pub after : Weighs limit s.after s.kept.cert
  pub items : s.items + s.keys + found_by items_of found ≡ items_of s.kept.cert
  pub judged : IsFoundJudged rows found → IsJudged rows s.kept.cert

-- The result of merging one certificate with these entries.
abbrev pub IsStepOf : PolicyRows → ℕ → ℕ → Entries → Certificate → Staged → Type 0
IsStepOf rows stamp limit es c s = IsStaged rows stamp limit (found_for es c) c s

-- ---- undoing

-- what is kept, without this growth of its certificate
abbrev pub smaller : Growth → ℕ → Kept → Kept
smaller growth stamp x = record { cert = shrunk growth x.cert; stamp = stamp }

abbrev pub shrunk_found : Option Kept → Entries → Fpr → Growth → ℕ → Entries
shrunk_found None es fpr growth stamp = es
shrunk_found (Some x) es fpr growth stamp = set_value (is_fpr fpr) es (smaller growth stamp x)

-- the entries, one certificate of them without its growth
abbrev pub shrunk_at : Entries → Fpr → Growth → ℕ → Entries
shrunk_at es fpr growth stamp = shrunk_found (lookup (is_fpr fpr) es) es fpr growth stamp

-- What was found can be reduced by this growth.
abbrev pub MayShrink : Growth → Option Kept → Type 0
MayShrink growth None = Unit {0}
MayShrink growth (Some x) = (old : Certificate) × CertLeadsBack growth old x.cert

-- the entries with what was kept under a fingerprint before
abbrev pub back : Entries → Fpr → Before → Entries
back es fpr (Was None) = remove_entry (is_fpr fpr) es
back es fpr (Was (Some kept)) = insert_entry fpr_cmp es fpr kept
back es fpr (Smaller growth stamp) = shrunk_at es fpr growth stamp

abbrev pub MayLead : Before → Option Kept → Type 0
MayLead (Was o) found = Unit {0}
MayLead (Smaller growth stamp) found = MayShrink growth found

-- Restoring what this entry of the log says leads back to the first entries, and doesn't allocate.
pub record LeadsBack (first : Entries) (w : TheWas) (es : Entries) : Type 0 where
  pub entries : back es w.fpr w.before ≡ first
  pub present : is_some (lookup (is_fpr w.fpr) es) ≡ true
  pub may : MayLead w.before (lookup (is_fpr w.fpr) es)

-- Undoing the log, the last step first, leads back to the first entries.
abbrev pub IsLog : Entries → List TheWas → Entries → Type 0
IsLog first [] es = es ≡ first
IsLog first (w ∷ ws) es = (mid : Entries) × LeadsBack first w mid × IsLog mid ws es

-- both logs lead back to the same entries
abbrev pub StillLeadsBack : List TheWas → Entries → List TheWas → Entries → Type 0
StillLeadsBack log es log' es' = (first : Entries) → IsLog first log es → IsLog first log' es'

-- ---- growing in place

-- The result of merging another certificate into a kept one.
pub record GrowsTo (rows : PolicyRows) (stamp limit : ℕ) (c : Certificate) (old new : Kept) (leap : Leap) : Type 0 where
  pub staged : IsStaged rows stamp limit (Some old) c (record {
    kept = new;
    before = leap.before;
    after = leap.after;
    items = leap.items;
    keys = 0;
  })
  pub back : CertLeadsBack leap.growth old.cert new.cert
  pub was : leap.stamp ≡ old.stamp

-- ---- one certificate among the kept ones

-- what is kept afterwards, with what changed
abbrev pub staged_as : Kept → Step → Staged
staged_as kept s = record { kept = kept; before = s.before; after = s.after; items = s.items; keys = s.keys }

-- The result of merging it with what is kept under its fingerprint.
pub record IsMergedAt (rows : PolicyRows) (stamp limit : ℕ) (c : Certificate) (es es' : Entries) (s : Step)
    : Type 0 where
  pub kept : Kept
  pub put : es' ≡ insert_entry fpr_cmp es (fpr_of c.key) kept
  pub staged : IsStaged rows stamp limit (found_for es c) c (staged_as kept s)

-- The result of merging it under these terms.
abbrev pub IsMergedOn : PolicyRows → Terms → Certificate → Entries → Entries → Step → Type 0
IsMergedOn rows terms c es es' s = IsMergedAt rows terms.stamp terms.limit c es es' s

-- What a step led to is kept under this fingerprint: so the certificate of the step is merged, whichever it is.
abbrev pub IsPut : Staged → Fpr → Entries → Entries → Step → Type 0
IsPut staged fpr es es' s =
    (rows : PolicyRows) (terms : Terms) (c : Certificate) → fpr ≡ fpr_of c.key
    → IsStepOf rows terms.stamp terms.limit es c staged → IsMergedOn rows terms c es es' s
