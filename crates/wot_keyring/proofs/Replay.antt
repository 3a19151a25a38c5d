-- Run in a fresh keyring, the commands of a dump restore what was dumped.
use Rattle.std.proofs.Common.{◌≡◌, ℕ, ◌<◌, ◌≤◌, Bool, false, List, [], ◌∷◌, ◌++◌, length, map, Option, Some, None, Ok}
use Rattle.std.proofs.Common.{Result, refl, sym, ap, ◌∙◌, subst, arith, append_assoc, append-nil, length-append}
use Rattle.std.specs.Prelude.{◌&&◌, ◌||◌, nat_eq, nat_lt, nat_le, not, is_none, if◌then◌else◌}
use Rattle.std.specs.declared.cmp.Ordering.TheVariants.{Less, Greater}
use Rattle.std.specs.Cmp.{IsTotalOrder}
use Rattle.std.specs.Ordering.{ordering_reverse}
use Rattle.std.specs.Cmp.Lexicographic.{on_texts, pointwise}
use Rattle.std.specs.BTreeMap.{insert_entry}
use Rattle.std.specs.Map.{lookup}
use Rattle.std.specs.Option.{option_map, option_map_or}
use Rattle.std.specs.List.{AllByRecursion, list_any}
use Rattle.std.proofs.lemmas.List.{map-append}
use Rattle.std.proofs.lemmas.Bool.{le-ltb, lt-leb, and_right}
use Rattle.wot_types.specs.declared.fpr.Fpr.{Fpr}
use Rattle.wot_types.specs.declared.limits.Limits.{Limits}
use Rattle.wot_types.specs.declared.limits.Limit.{Limit}
use Rattle.wot_types.specs.declared.limits.Limit.TheVariants as limits
use Rattle.wot_types.specs.declared.number.SigNumber.{SigNumber}
use Rattle.wot_types.specs.Fpr.{fpr_cmp}
use Rattle.wot_types.specs.SigNumber.{number_cmp}
use Rattle.wot_types.specs.FprLaws.{fpr_total}
use Rattle.wot_types.specs.PlainLaws.{all_prefix}
use Rattle.wot_key.specs.Key.{fpr_of}
use Rattle.wot_packet.specs.Spelling.{Spelled}
use Rattle.wot_packet.specs.Reading.{packets_of}
use Rattle.wot_packet.specs.declared.packet.PacketFault.{PacketFault}
use Rattle.wot_policy.specs.declared.rows.PolicyRows.{PolicyRows}
use Rattle.wot_fields.specs.declared.state_line.StateLine.{StateLine}
use Rattle.wot_fields.specs.declared.state_line.StateLine.TheVariants as lines
use Rattle.wot_verdict.specs.declared.verdict.Verdict.{Verdict}
use Rattle.wot_verdict.specs.declared.verdict.Verdict.TheVariants.{Good, Bad}
use Rattle.wot_verdict.specs.Verdicts as verdicts
use Rattle.wot_verdict.specs.Verdicts.{AreSortedByNumber, with_verdict}
use Rattle.wot_cert.specs.Assembly.{certificates_of, skipped_in}
use Rattle.wot_component.specs.Certificate.{Certificate, unmarked}
use Rattle.wot_component.specs.Counts.{signatures_of}
use Rattle.wot_cert.specs.declared.fault.CertFault.{CertFault}
use Rattle.wot_cert.specs.Fault.{first_fault}
use Rattle.wot_component.specs.Judged.{judged}
use Rattle.wot_cert.specs.ReadBack.{ReadBack}
use Rattle.wot_component.specs.Text.{size_of, text_of}
use Rattle.wot_component.specs.Whole.{IsCertificate}
use Rattle.wot_keyring_spec.specs.declared.imported.Imported.{Imported}
use Rattle.wot_keyring_spec.specs.declared.kept.Kept.{Kept}
use Rattle.wot_keyring_spec.specs.declared.refusal.Refusal.TheVariants.{Clash, Cert, Full}
use Rattle.wot_keyring_spec.specs.Keyring.{Keyring, Entries, Certificates, is_fpr, stripped}
use Rattle.wot_keyring_spec.specs.Import.{answer_to, answer_united, any_clash, clash, first_full, fresh_in, has_greater}
use Rattle.wot_keyring_spec.specs.Import.{of_packets, merged_into, united_in, weigh, with_cert, with_certs, ◌>>=◌, ◌>>◌}
use Rattle.wot_keyring_spec.specs.Import.{refuse_if, packets_or_refusal}
use Rattle.wot_keyring_spec.specs.Verdict.{is_over}
use Rattle.wot_keyring_spec.specs.Kept.{AreSortedByFpr, AreNamed, IsNamed, AreSized, AreWhole, IsKeyring}
use Rattle.wot_keyring_spec.specs.Held.{Held, nothing, is_verdict, verdict_set}
use Rattle.wot_keyring.specs.Dump.{after, after_all, import_of, judged_anew, setting, setting_of, text_import}
use Rattle.wot_keyring.specs.Dump.{unless_over, unless_refused, IsRestored}
use Rattle.wot_keyring.specs.Behind.{AreBelow, all_at, below_next, none_before, put_behind}

-- what is known of certificates
pub record Laws : Type 0 where
  pub read_back : (c : Certificate) → IsCertificate c → ReadBack c
  pub same_text : (rows : PolicyRows) (c : Certificate) → text_of (judged rows c) ≡ text_of c
  pub same_count : (rows : PolicyRows) (c : Certificate) → signatures_of (judged rows c) ≡ signatures_of c
  pub anew : (rows : PolicyRows) (c : Certificate) → judged rows (unmarked c) ≡ judged rows c

numbers_total : IsTotalOrder number_cmp
numbers_total = on_texts (λ (n : SigNumber). n.0)

-- ---- one import

-- a kept certificate, marked by the rows
abbrev anew : PolicyRows → Fpr × Kept → Fpr × Certificate
anew rows e = (e.0, judged rows e.1.cert)

-- It is under its own fingerprint, which is below this one.
abbrev IsBefore : Fpr → Fpr × Certificate → Type 0
IsBefore fpr e = (e.0 ≡ fpr_of e.1.key) × (fpr_cmp e.0 fpr ≡ Less)

apart : (a b : Fpr) → fpr_cmp b a ≡ Less → is_fpr a b ≡ false
apart a b h =
    let above : fpr_cmp a b ≡ Greater = fpr_total.antisymm a b ∙ ap ordering_reverse h in
    rw above refl

no_clash : (c : Certificate) (certs : Certificates) → AllByRecursion (IsBefore (fpr_of c.key)) certs
    → list_any (clash c) (map (λ (e : Fpr × Certificate). e.1) certs) ≡ false
no_clash c [] all = refl
no_clash c (e ∷ certs) all =
    let below : fpr_cmp (fpr_of e.1.key) (fpr_of c.key) ≡ Less = subst (λ f. fpr_cmp f (fpr_of c.key) ≡ Less) all.0.0
    all.0.1 in
    let one : clash c e.1 ≡ false = ap (λ b. b && not (pointwise nat_eq c.key e.1.key))
    (apart (fpr_of c.key) (fpr_of e.1.key) below) in
    rw one (no_clash c certs all.1)

keys_below : (fpr : Fpr) (certs : Certificates) → AllByRecursion (IsBefore fpr) certs → AreBelow fpr_cmp fpr certs
keys_below fpr [] all = tt
keys_below fpr (e ∷ certs) all = (all.0.1, keys_below fpr certs all.1)

-- the certificate is appended
put_last : (laws : Laws) (rows : PolicyRows) (certs : Certificates) (e : Fpr × Kept) → e.0 ≡ fpr_of e.1.cert.key →
    AllByRecursion (IsBefore e.0) certs
    → with_cert rows certs (unmarked e.1.cert) ≡ certs ++ anew rows e ∷ []
put_last laws rows certs e named before =
    let c : Certificate = e.1.cert in
    let below : AreBelow fpr_cmp e.0 certs = keys_below e.0 certs before in
    let At : Fpr → Certificates = λ f. insert_entry fpr_cmp certs f (merged_into (lookup (is_fpr f) certs)
    (judged rows (unmarked c))) in
    ap At (sym named)
    ∙ ap (λ (o : Option Certificate). insert_entry fpr_cmp certs e.0 (merged_into o (judged rows (unmarked c))))
    (none_before fpr_cmp fpr_total certs e.0 below)
    ∙ ap (λ (d : Certificate). insert_entry fpr_cmp certs e.0 d) (laws.anew rows c)
    ∙ put_behind fpr_cmp fpr_total certs e.0 (judged rows c) below

-- the answer to one certificate that clashes with none and exceeds no limit
counted : (clashing : Bool) (full : Option Limit) (counts : Imported) → clashing ≡ false → full ≡ None
    → (refuse_if clashing Clash >> (option_map Full full >> Ok counts)) ≡ Ok counts
counted clashing full counts none fits = rw (none, fits) refl

never_with : (b : Bool) → b ≡ false → (b || false) ≡ false
never_with b h = rw h refl

one_united : (rows : PolicyRows) (l : Limits) (certs : Certificates) (c : Certificate) (skipped : ℕ)
    → list_any (clash c) (map (λ (e : Fpr × Certificate). e.1) certs) ≡ false →
    first_full l (with_cert rows certs c) ≡ None
    → answer_united rows l certs (c ∷ []) skipped ≡ Ok (record {
      taken = 1;
      skipped = skipped;
      fresh =
          fresh_in certs (with_cert rows certs c);
    })
one_united rows l certs c skipped none fits =
    counted (any_clash (map (λ (e : Fpr × Certificate). e.1) certs) (c ∷ []))
    (first_full l (with_certs rows certs (c ∷ [])))
    (record { taken = 1; skipped = skipped; fresh = fresh_in certs (with_cert rows certs c) })
    (never_with (list_any (clash c) (map (λ (e : Fpr × Certificate). e.1) certs)) none) fits

-- an import of octets that spell one certificate, which clashes with none and exceeds no limit
import_one : (rows : PolicyRows) (l : Limits) (old : Held) (octets : List ℕ) (packets : List Spelled) (c : Certificate)
    (certs : Certificates)
    → packets_of octets ≡ Ok packets → first_fault packets ≡ None → certificates_of packets ≡ c ∷ []
    → list_any (clash c) (map (λ (e : Fpr × Certificate). e.1) old.certs) ≡ false
    → with_cert rows old.certs c ≡ certs → first_full l certs ≡ None
    → after rows l (lines.Import octets) old ≡ Some (record old { certs = certs })
import_one rows l old octets packets c certs read sound one none last fits =
    let counts : Imported = record {
      taken = 1;
      skipped = skipped_in packets;
      fresh =
          fresh_in old.certs (with_cert rows old.certs c);
    } in
    let fits' : first_full l (with_cert rows old.certs c) ≡ None = ap (first_full l) last ∙ fits in
    let answer : answer_to rows l old.certs octets ≡ Ok counts =
    ap (λ (r : Result (List Spelled) PacketFault). packets_or_refusal r >>= (λ ps. option_map Cert (first_fault ps)
    >> answer_united rows l old.certs (certificates_of ps) (skipped_in ps))) read
    ∙ ap (λ (f : Option CertFault). option_map Cert f >> answer_united rows l old.certs (certificates_of packets)
    (skipped_in packets)) sound
    ∙ ap (λ cs. answer_united rows l old.certs cs (skipped_in packets)) one
    ∙ one_united rows l old.certs c (skipped_in packets) none fits' in
    let image : united_in rows old.certs octets ≡ certs =
    ap (λ r. with_certs rows old.certs (of_packets r)) read ∙ ap (with_certs rows old.certs) one ∙ last in
    let Gives : Certificates → Option Held = λ held. Some (record old { certs = held }) in
    ap (λ a. unless_refused {A = Held} a (record old { certs = united_in rows old.certs octets })) answer
    ∙ ap Gives image

-- the import of a certificate's text if none of its fingerprint is held
import_step : (laws : Laws) (rows : PolicyRows) (l : Limits) (old : Held) (e : Fpr × Kept) → ReadBack e.1.cert →
    e.0 ≡ fpr_of e.1.cert.key
    → AllByRecursion (IsBefore e.0) old.certs → first_full l (old.certs ++ anew rows e ∷ []) ≡ None
    → after rows l (text_import e.1.cert) old ≡ Some (record old { certs = old.certs ++ anew rows e ∷ [] })
import_step laws rows l old e back named before fits =
    let Before : Fpr → Type 0 = λ f. AllByRecursion (IsBefore f) old.certs in
    import_one rows l old (text_of e.1.cert) back.packets (unmarked e.1.cert) (old.certs ++ anew rows e ∷ [])
    back.reader back.fault back.certificates
    (no_clash (unmarked e.1.cert) old.certs (subst Before named before))
    (put_last laws rows old.certs e named before) fits

-- ---- all imports

-- what holds for the entries of a keyring with these limits
record CanBeHeld (l : Limits) (all : Entries) : Type 0 where
  named : AreNamed all
  whole : AreWhole all
  sorted : AreSortedByFpr all
  sized : AreSized l.certificate all
  few : length all ≤ l.certificates
  octets : weigh size_of (stripped all) ≤ l.octets
  signatures : weigh signatures_of (stripped all) ≤ l.signatures

prefix_before : (rows : PolicyRows) (prefix : Entries) (e : Fpr × Kept) → AreNamed prefix → AreBelow fpr_cmp e.0 prefix
    → AllByRecursion (IsBefore e.0) (map (anew rows) prefix)
prefix_before rows [] e named below = tt
prefix_before rows (f ∷ prefix) e named below = ((named.0, below.0), prefix_before rows prefix e named.1 below.1)

-- a prefix weighs at most as much as the whole
prefix_weighs : (rows : PolicyRows) (weight : Certificate → ℕ) (same : (c : Certificate) →
    weight (judged rows c) ≡ weight c) (prefix rest : Entries)
    → weigh weight (map (anew rows) prefix) ≤ weigh weight (stripped (prefix ++ rest))
prefix_weighs rows weight same [] rest = omega arith
prefix_weighs rows weight same (e ∷ prefix) rest =
    omega (arith, same e.1.cert, prefix_weighs rows weight same prefix rest)

never_or : (a b : Bool) → a ≡ false → b ≡ false → (a || b) ≡ false
never_or a b h k = rw (h, k) refl

none_greater : (rows : PolicyRows) (limit : ℕ) (same : (c : Certificate) → size_of (judged rows c) ≡ size_of c)
    (prefix : Entries)
    → AreSized limit prefix → has_greater limit (map (anew rows) prefix) ≡ false
none_greater rows limit same [] sized = refl
none_greater rows limit same (e ∷ prefix) sized =
    never_or (nat_lt limit (size_of (judged rows e.1.cert))) (has_greater limit (map (anew rows) prefix))
    (ap (nat_lt limit) (same e.1.cert) ∙ le-ltb limit (size_of e.1.cert) sized.0)
    (none_greater rows limit same prefix sized.1)

no_limit : (a b c d : Bool) → a ≡ false → b ≡ false → c ≡ false → d ≡ false
    → (if a then Some limits.Certificate else if b then Some limits.Certificates else if c then Some limits.Octets
    else if d then Some limits.Signatures else None) ≡ None
no_limit a b c d e f g h = rw (e, f, g, h) refl

within : (n m limit : ℕ) → n ≤ m → m ≤ limit → nat_lt limit n ≡ false
within n m limit h k = le-ltb limit n (omega arith)

length-prefix : (rows : PolicyRows) (prefix rest : Entries) → length (map (anew rows) prefix) ≤ length (prefix ++ rest)
length-prefix rows [] rest = omega arith
length-prefix rows (e ∷ prefix) rest = omega (arith, length-prefix rows prefix rest)

-- a prefix of what can be held exceeds no limit
prefix_fits : (laws : Laws) (rows : PolicyRows) (l : Limits) (prefix rest : Entries) → CanBeHeld l (prefix ++ rest)
    → first_full l (map (anew rows) prefix) ≡ None
prefix_fits laws rows l prefix rest held =
    let same_size : (c : Certificate) → size_of (judged rows c) ≡ size_of c = λ c. ap length (laws.same_text rows c) in
    let certs : Certificates = map (anew rows) prefix in
    no_limit (has_greater l.certificate certs) (nat_lt l.certificates (length certs))
    (nat_lt l.octets (weigh size_of certs)) (nat_lt l.signatures (weigh signatures_of certs))
    (none_greater rows l.certificate same_size prefix (all_prefix (λ (e : Fpr × Kept). size_of e.1.cert ≤ l.certificate)
    prefix rest held.sized))
    (within (length certs) (length (prefix ++ rest)) l.certificates (length-prefix rows prefix rest) held.few)
    (within (weigh size_of certs) (weigh size_of (stripped (prefix ++ rest))) l.octets
    (prefix_weighs rows size_of same_size prefix rest) held.octets)
    (within (weigh signatures_of certs) (weigh signatures_of (stripped (prefix ++ rest))) l.signatures
    (prefix_weighs rows signatures_of (laws.same_count rows) prefix rest) held.signatures)

-- what is held after these were imported
abbrev with_imports : PolicyRows → Entries → Held
with_imports rows es = record { certs = map (anew rows) es; verdicts = [] }

-- the next import, after those of a prefix
import_next : (laws : Laws) (rows : PolicyRows) (l : Limits) (prefix : Entries) (e : Fpr × Kept) (rest : Entries)
    → CanBeHeld l (prefix ++ e ∷ rest)
    → after rows l (text_import e.1.cert) (with_imports rows prefix) ≡ Some (with_imports rows (prefix ++ e ∷ []))
import_next laws rows l prefix e rest held =
    let Holdable : Entries → Type 0 = λ all. CanBeHeld l all in
    let Gives : Certificates → Option Held = λ certs. Some (record { certs = certs; verdicts = [] }) in
    let named = all_prefix IsNamed prefix (e ∷ rest) held.named in
    let below = below_next fpr_cmp prefix e rest held.sorted in
    let fits = prefix_fits laws rows l (prefix ++ e ∷ []) rest (subst Holdable (sym (append_assoc prefix (e ∷ []) rest))
    held) in
    let whole : map (anew rows) (prefix ++ e ∷ []) ≡ map (anew rows) prefix ++ anew rows e ∷ [] =
    map-append (anew rows) prefix (e ∷ []) in
    import_step laws rows l (with_imports rows prefix) e
    (laws.read_back e.1.cert (all_at (λ (e : Fpr × Kept). IsCertificate e.1.cert) prefix e rest held.whole))
    (all_at IsNamed prefix e rest held.named)
    (prefix_before rows prefix e named below)
    (ap (first_full l) (sym whole) ∙ fits)
    ∙ ap Gives (sym whole)

imports : (laws : Laws) (rows : PolicyRows) (l : Limits) (all : Entries) → CanBeHeld l all → (prefix rest : Entries) →
    prefix ++ rest ≡ all
    → after_all (after rows l) (map import_of (stripped rest)) (Some (with_imports rows prefix)) ≡ Some
    (with_imports rows all)
imports laws rows l all held prefix [] parts = ap (λ es. Some (with_imports rows es)) (sym (append-nil prefix) ∙ parts)
imports laws rows l all held prefix (e ∷ rest) parts =
    let Holdable : Entries → Type 0 = λ es. CanBeHeld l es in
    ap (after_all (after rows l) (map import_of (stripped rest))) (import_next laws rows l prefix e rest
    (subst Holdable (sym parts) held))
    ∙ imports laws rows l all held (prefix ++ e ∷ []) rest (append_assoc prefix (e ∷ []) rest ∙ parts)

-- ---- verdicts

abbrev with_verdicts : Certificates → verdicts.Entries → Held
with_verdicts certs said = record { certs = certs; verdicts = said }

settled : (l : Limits) (c : Held) (number : SigNumber) (verdict : Verdict) (new : verdicts.Entries)
    → verdicts.verdict_at c.verdicts number ≡ None → is_over l c.verdicts number ≡ false →
    with_verdict c.verdicts number verdict ≡ new
    → unless_over l number verdict c ≡ Some (record c { verdicts = new })
settled l c number verdict new none free put =
    let Gives : verdicts.Entries → Option Held = λ said. Some (record c { verdicts = said }) in
    let Said : Option Verdict → Option Held =
    λ o. Some (if option_map_or (is_verdict verdict) o false then c else record c {
      verdicts =
          with_verdict c.verdicts number verdict;
    }) in
    ap (λ b. if b then None else Some (verdict_set number verdict c)) free
    ∙ ap Said none
    ∙ ap Gives put

setting_is : (rows : PolicyRows) (l : Limits) (c : Held) (number : SigNumber) (verdict : Verdict)
    → after rows l (setting number verdict) c ≡ unless_over l number verdict c
setting_is rows l c number (Good fpr) = refl
setting_is rows l c number Bad = refl

setting_next : (rows : PolicyRows) (l : Limits) (certs : Certificates) (prefix : verdicts.Entries)
    (e : SigNumber × Verdict) (rest : verdicts.Entries)
    → AreSortedByNumber (prefix ++ e ∷ rest) → length (prefix ++ e ∷ rest) ≤ l.verdicts
    → after rows l (setting_of e) (with_verdicts certs prefix) ≡ Some (with_verdicts certs (prefix ++ e ∷ []))
setting_next rows l certs prefix e rest order few =
    let below = below_next number_cmp prefix e rest order in
    let room : length prefix < l.verdicts = omega (arith, length-append prefix (e ∷ rest), few) in
    setting_is rows l (with_verdicts certs prefix) e.0 e.1
    ∙ settled l (with_verdicts certs prefix) e.0 e.1 (prefix ++ e ∷ [])
    (none_before number_cmp numbers_total prefix e.0 below)
    (and_right (is_none (verdicts.verdict_at prefix e.0)) (nat_le l.verdicts (length prefix))
    (lt-leb l.verdicts (length prefix) room))
    (put_behind number_cmp numbers_total prefix e.0 e.1 below)

settings : (rows : PolicyRows) (l : Limits) (certs : Certificates) (all : verdicts.Entries) → AreSortedByNumber all →
    length all ≤ l.verdicts
    → (prefix rest : verdicts.Entries) → prefix ++ rest ≡ all
    → after_all (after rows l) (map setting_of rest) (Some (with_verdicts certs prefix)) ≡ Some
    (with_verdicts certs all)
settings rows l certs all order few prefix [] parts = ap (λ es. Some (with_verdicts certs es)) (sym (append-nil prefix)
    ∙ parts)
settings rows l certs all order few prefix (e ∷ rest) parts =
    let Few : verdicts.Entries → Type 0 = λ es. length es ≤ l.verdicts in
    ap (after_all (after rows l) (map setting_of rest))
    (setting_next rows l certs prefix e rest (subst AreSortedByNumber (sym parts) order) (subst Few (sym parts) few))
    ∙ settings rows l certs all order few (prefix ++ e ∷ []) rest (append_assoc prefix (e ∷ []) rest ∙ parts)

-- ---- both

after_both : (rows : PolicyRows) (l : Limits) (cs ds : List StateLine) (o : Option Held)
    → after_all (after rows l) (cs ++ ds) o ≡ after_all (after rows l) ds (after_all (after rows l) cs o)
after_both rows l [] ds o = refl
after_both rows l (c ∷ cs) [] None = refl
after_both rows l (c ∷ cs) (d ∷ ds) None = refl
after_both rows l (c ∷ cs) ds (Some held) = after_both rows l cs ds (after rows l c held)

anew_in : (rows : PolicyRows) (es : Entries) → map (anew rows) es ≡ map (judged_anew rows) (stripped es)
anew_in rows [] = refl
anew_in rows (e ∷ es) = ap (λ (rest : Certificates). anew rows e ∷ rest) (anew_in rows es)

pub restored : (laws : Laws) (rows : PolicyRows) (k : Keyring) → IsKeyring k → AreSortedByNumber k.verdicts →
    IsRestored rows k
restored laws rows k keyring order =
    let held : CanBeHeld k.limits k.certs = record {
      named = keyring.named;
      whole = keyring.whole;
      sorted = keyring.sorted;
      sized = keyring.within.certificate;
      few = keyring.within.certificates;
      octets = keyring.within.octets;
      signatures = keyring.within.signatures;
    } in
    after_both rows k.limits (map import_of (stripped k.certs)) (map setting_of k.verdicts) (Some nothing)
    ∙ ap (after_all (after rows k.limits) (map setting_of k.verdicts))
    (imports laws rows k.limits k.certs held [] k.certs refl)
    ∙ settings rows k.limits (map (anew rows) k.certs) k.verdicts order keyring.within.verdicts [] k.verdicts refl
    ∙ ap (λ certs. Some (with_verdicts certs k.verdicts)) (anew_in rows k.certs)
