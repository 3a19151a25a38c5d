-- In each reached state the certificates are sorted by fingerprint, and the user IDs of each by their octets. So pairs
-- and bindings are sorted by both.
use Rattle.std.proofs.Common.{◌≡◌, ℕ, Bool, true, false, cond, List, [], ◌∷◌, map, Some, Result, Ok, Err, refl, sym, ap}
use Rattle.std.proofs.Common.{subst, ◌∙◌}
use Rattle.std.specs.Prelude.{◌==◌, filter}
use Rattle.std.specs.declared.cmp.Ordering.{Ordering}
use Rattle.std.specs.declared.cmp.Ordering.TheVariants.{Less, Equal, Greater}
use Rattle.std.specs.Cmp.{IsTotalOrder}
use Rattle.std.specs.Cmp.Lexicographic.{slice_cmp}
use Rattle.std.specs.List.{AllByRecursion}
use Rattle.std.specs.Map.{lookup, remove_entry}
use Rattle.std.specs.Ordering.{nat_cmp, ordering_then}
use Rattle.std.proofs.lemmas.Cmp.{nat_list_cmp_total, on_total, then_total, tied_itself}
use Rattle.wot_types.specs.declared.fpr.Fpr.{Fpr}
use Rattle.wot_types.specs.Fpr.{fpr_cmp}
use Rattle.wot_types.specs.FprLaws.{fpr_total}
use Rattle.wot_key.specs.Key.{fpr_of}
use Rattle.wot_packet.specs.Spelling.{Spelled}
use Rattle.wot_packet.specs.Reading.{packets_of}
use Rattle.wot_packet.specs.declared.packet.PacketFault.{PacketFault}
use Rattle.wot_policy.specs.declared.rows.PolicyRows.{PolicyRows}
use Rattle.wot_edge.specs.Record.{Record}
use Rattle.wot_cert.specs.Assembly.{Section, certificate_of, cut_at, part_of, parts_of}
use Rattle.wot_cert.specs.Packets.{begins_component}
use Rattle.wot_component.specs.Certificate.{Certificate, Component, Signature, on_user_id, part_cmp, part_with, unite}
use Rattle.wot_component.specs.Certificate.{unite_part}
use Rattle.wot_component.specs.Judged.{judged, judged_sig}
use Rattle.wot_component.specs.Ranked.{IsBelow, IsRising, placed, put, united}
use Rattle.wot_keyring_spec.specs.Keyring.{Certificates, is_fpr}
use Rattle.wot_keyring_spec.specs.Import.{of_packets, spelled_in, merged_into, with_cert, with_certs}
use Rattle.wot_script.specs.declared.reply.Reply.{Reply}
use Rattle.wot_certd.specs.World.{World}
use Rattle.wot_explain.specs.declared.bind.Bind.{Bind}
use Rattle.wot_explain.specs.Listing.{IsListed, Pair, pair_of, pairs_in, is_authenticated_to, pair_in}
use Rattle.wot_plain.specs.Scene.{Scene, opening}
use Rattle.wot_plain.specs.Transcript.{Run}
use Rattle.wot_plain.proofs.Entries.{AreInOrder, all_put, all_without, below_all, below_append, rising_append}
use Rattle.wot_plain.proofs.Entries.{rising_put, rising_without, turn_round}
use Rattle.wot_laws.proofs.Stays.{run_stays}

-- ---- merging

module _
    {A : Type 0} (R : A → A → Ordering) (total : IsTotalOrder R) (join : A → A → A)
    (left : (y x z : A) → R (join y x) z ≡ R y z) (right : (y x z : A) → R z (join y x) ≡ R z y)
  where
    below_same : (y x : A) (zs : List A) → IsBelow R y zs → IsBelow R (join y x) zs
    below_same y x [] all = tt
    below_same y x (z ∷ zs) all = (left y x z ∙ all.0, below_same y x zs all.1)

    below_placed : (z x : A) (ys : List A) → R z x ≡ Less → IsBelow R z ys → IsBelow R z (put R join x ys)
    below_placed z x [] e all = (e, tt)
    below_placed z x (y ∷ ys) e all = by (R x y) (below_placed z x ys e all.1)
      where
        by : (o : Ordering) → IsBelow R z (put R join x ys) → IsBelow R z (placed o join x y ys (put R join x ys))
        by Less rest = (e, all)
        by Equal rest = (right y x z ∙ all.0, all.1)
        by Greater rest = (all.0, rest)

    rising_placed : (x : A) (ys : List A) → IsRising R ys → IsRising R (put R join x ys)
    rising_placed x [] r = (tt, tt)
    rising_placed x (y ∷ ys) r = by (R x y) refl (rising_placed x ys r.1)
      where
        by : (o : Ordering) → R x y ≡ o → IsRising R (put R join x ys)
            → IsRising R (placed o join x y ys (put R join x ys))
        by Less e rest = ((e, below_all R total x y ys e r.0), r)
        by Equal e rest = (below_same y x ys r.0, r.1)
        by Greater e rest = (below_placed y x ys (turn_round R total x y e) r.0, rest)

    rising_united : (xs ys : List A) → IsRising R xs → IsRising R (united R join xs ys)
    rising_united xs [] r = r
    rising_united xs (y ∷ ys) r = rising_placed y (united R join xs ys) (rising_united xs ys r)

-- ---- user IDs

parts_total : IsTotalOrder part_cmp
parts_total = on_total (λ (p : Component). p.body) nat_list_cmp_total

abbrev pub HasOrder : Certificate → Type 0
HasOrder c = IsRising part_cmp c.user_ids

united_order : (a b : Certificate) → HasOrder a → HasOrder (unite a b)
united_order a b r = rising_united part_cmp parts_total unite_part (λ y x z. refl) (λ y x z. refl) a.user_ids b.user_ids
    r

parts_rise : (key : List ℕ) (type kind : ℕ) (sections : List Section)
    → IsRising part_cmp (parts_of key type kind sections)
parts_rise key type kind sections =
    rising_united part_cmp parts_total unite_part (λ y x z. refl) (λ y x z. refl) []
    (map (part_of key kind) (filter (λ (s : Section). s.0.kind == type) sections)) tt

assembled_order : (section : Section) → HasOrder (certificate_of section)
assembled_order section = parts_rise section.0.body 13 on_user_id (cut_at begins_component section.1).1

below_marked : (change : Signature → Signature) (p : Component) (ps : List Component) → IsBelow part_cmp p ps
    → IsBelow part_cmp (part_with change p) (map (part_with change) ps)
below_marked change p [] all = tt
below_marked change p (q ∷ qs) all = (all.0, below_marked change p qs all.1)

rising_marked : (change : Signature → Signature) (ps : List Component) → IsRising part_cmp ps
    → IsRising part_cmp (map (part_with change) ps)
rising_marked change [] r = tt
rising_marked change (p ∷ ps) r = (below_marked change p ps r.0, rising_marked change ps r.1)

judged_order : (rows : PolicyRows) (c : Certificate) → HasOrder c → HasOrder (judged rows c)
judged_order rows c r = rising_marked (judged_sig rows) c.user_ids r

-- ---- all certificates

pub record AreOrdered (certs : Certificates) : Type 0 where
  pub fprs : AreInOrder fpr_cmp certs
  pub user_ids : AllByRecursion (λ (e : Fpr × Certificate). HasOrder e.1) certs

ordered_without : (fpr : Fpr) (certs : Certificates) → AreOrdered certs → AreOrdered (remove_entry (is_fpr fpr) certs)
ordered_without fpr certs o = record {
  fprs = rising_without fpr_cmp fpr_total (is_fpr fpr) certs o.fprs;
  user_ids = all_without HasOrder (is_fpr fpr) certs o.user_ids;
}

found_order : (test : Fpr → Bool) (certs : Certificates) (c : Certificate)
    → AllByRecursion (λ (e : Fpr × Certificate). HasOrder e.1) certs → HasOrder c
    → HasOrder (merged_into (lookup test certs) c)
found_order test [] c all h = h
found_order test (e ∷ es) c all h = by (found_order test es c all.1 h) (test e.0)
  where
    by : HasOrder (merged_into (lookup test es) c) → (b : Bool)
        → HasOrder (merged_into (cond b (Some e.1) (lookup test es)) c)
    by rest true = united_order e.1 c all.0
    by rest false = rest

module _ (rows : PolicyRows) where
  ordered_one : (certs : Certificates) (c : Certificate) → HasOrder c → AreOrdered certs
      → AreOrdered (with_cert rows certs c)
  ordered_one certs c h o =
      let fpr : Fpr = fpr_of c.key in
      let new : Certificate = merged_into (lookup (is_fpr fpr) certs) (judged rows c) in
      record {
        fprs = rising_put fpr_cmp fpr_total fpr new certs o.fprs;
        user_ids = all_put HasOrder fpr_cmp fpr new certs (found_order (is_fpr fpr) certs (judged rows c) o.user_ids
            (judged_order rows c h)) o.user_ids;
      }

  ordered_many : (certs : Certificates) (cs : List Certificate) → AllByRecursion HasOrder cs → AreOrdered certs
      → AreOrdered (with_certs rows certs cs)
  ordered_many certs [] all o = o
  ordered_many certs (c ∷ cs) all o = ordered_many (with_cert rows certs c) cs all.1 (ordered_one certs c all.0 o)

  all_assembled : (sections : List Section) → AllByRecursion HasOrder (map certificate_of sections)
  all_assembled [] = tt
  all_assembled (section ∷ sections) = (assembled_order section, all_assembled sections)

  all_spelled : (packets : Result (List Spelled) PacketFault) → AllByRecursion HasOrder (of_packets packets)
  all_spelled (Ok packets) = all_assembled _
  all_spelled (Err fault) = tt

  ordered_all : (certs : Certificates) (octets : List ℕ) → AreOrdered certs
      → AreOrdered (with_certs rows certs (spelled_in octets))
  ordered_all certs octets o = ordered_many certs (spelled_in octets) (all_spelled (packets_of octets)) o

  pub reached_ordered : (world : World) (lines : List (List ℕ)) (told : List Reply) (s : Scene)
      → Run rows (opening world) lines told s
      → AreOrdered s.whole.state.held.certs
  reached_ordered world lines told s run =
      run_stays rows AreOrdered ordered_all ordered_without lines (opening world) told s
      (record { fprs = tt; user_ids = tt }) run

-- ---- pairs

-- by fingerprint, then by user ID
abbrev pub pair_cmp : Pair → Pair → Ordering
pair_cmp a b = ordering_then (fpr_cmp a.0 b.0) (slice_cmp nat_cmp a.1 b.1)

pair_total : IsTotalOrder pair_cmp
pair_total = then_total (on_total (λ (p : Pair). p.0) fpr_total) (on_total (λ (p : Pair). p.1) nat_list_cmp_total)

same_fpr : (fpr : Fpr) (a b : Component) → part_cmp a b ≡ Less → pair_cmp (pair_of fpr a) (pair_of fpr b) ≡ Less
same_fpr fpr a b e = ap (λ o. ordering_then o (part_cmp a b)) (tied_itself fpr_total fpr) ∙ e

below_pairs : (fpr : Fpr) (a : Component) (parts : List Component) → IsBelow part_cmp a parts
    → IsBelow pair_cmp (pair_of fpr a) (map (pair_of fpr) parts)
below_pairs fpr a [] all = tt
below_pairs fpr a (b ∷ parts) all = (same_fpr fpr a b all.0, below_pairs fpr a parts all.1)

rising_pairs : (fpr : Fpr) (parts : List Component) → IsRising part_cmp parts
    → IsRising pair_cmp (map (pair_of fpr) parts)
rising_pairs fpr [] r = tt
rising_pairs fpr (a ∷ parts) r = (below_pairs fpr a parts r.0, rising_pairs fpr parts r.1)

later_fpr : (a : Pair) (fpr : Fpr) (parts : List Component) → fpr_cmp a.0 fpr ≡ Less
    → IsBelow pair_cmp a (map (pair_of fpr) parts)
later_fpr a fpr [] e = tt
later_fpr a fpr (b ∷ parts) e = (ap (λ o. ordering_then o (slice_cmp nat_cmp a.1 b.body)) e, later_fpr a fpr parts e)

later_certs : (a : Pair) (certs : Certificates)
    → AllByRecursion (λ (e : Fpr × Certificate). fpr_cmp a.0 e.0 ≡ Less) certs → IsBelow pair_cmp a (pairs_in certs)
later_certs a [] all = tt
later_certs a (e ∷ certs) all =
    below_append pair_cmp a (map (pair_of e.0) e.1.user_ids) (pairs_in certs) (later_fpr a e.0 e.1.user_ids all.0)
    (later_certs a certs all.1)

each_later : (fpr : Fpr) (parts : List Component) (certs : Certificates)
    → AllByRecursion (λ (e : Fpr × Certificate). fpr_cmp fpr e.0 ≡ Less) certs
    → AllByRecursion (λ (a : Pair). IsBelow pair_cmp a (pairs_in certs)) (map (pair_of fpr) parts)
each_later fpr [] certs all = tt
each_later fpr (b ∷ parts) certs all = (later_certs (pair_of fpr b) certs all, each_later fpr parts certs all)

ordered_pairs : (certs : Certificates) → AreInOrder fpr_cmp certs
    → AllByRecursion (λ (e : Fpr × Certificate). HasOrder e.1) certs → IsRising pair_cmp (pairs_in certs)
ordered_pairs [] fprs all = tt
ordered_pairs (e ∷ certs) fprs all =
    rising_append pair_cmp (map (pair_of e.0) e.1.user_ids) (pairs_in certs) (rising_pairs e.0 e.1.user_ids all.0)
    (ordered_pairs certs fprs.1 all.1) (each_later e.0 e.1.user_ids certs fprs.0)

-- ---- bindings

abbrev pub bind_cmp : Bind → Bind → Ordering
bind_cmp a b = pair_cmp (pair_in a) (pair_in b)

pub bind_total : IsTotalOrder bind_cmp
bind_total = on_total pair_in pair_total

-- this pair is below each of the bindings
abbrev IsPairBelow : Pair → List Bind → Type 0
IsPairBelow a binds = AllByRecursion (λ (b : Bind). pair_cmp a (pair_in b) ≡ Less) binds

below_chosen : (wanted : ℕ) (a : Pair) (sums : List Bind) → IsBelow pair_cmp a (map pair_in sums)
    → IsPairBelow a (filter (is_authenticated_to wanted) sums)
below_chosen wanted a [] all = tt
below_chosen wanted a (bind ∷ sums) all = by (is_authenticated_to wanted bind) (below_chosen wanted a sums all.1)
  where
    by : (b : Bool) → IsPairBelow a (filter (is_authenticated_to wanted) sums)
        → IsPairBelow a (cond b (bind ∷ filter (is_authenticated_to wanted) sums)
        (filter (is_authenticated_to wanted) sums))
    by true rest = (all.0, rest)
    by false rest = rest

rising_chosen : (wanted : ℕ) (sums : List Bind) → IsRising pair_cmp (map pair_in sums)
    → IsRising bind_cmp (filter (is_authenticated_to wanted) sums)
rising_chosen wanted [] r = tt
rising_chosen wanted (bind ∷ sums) r =
    by (is_authenticated_to wanted bind) (below_chosen wanted (pair_in bind) sums r.0) (rising_chosen wanted sums r.1)
  where
    by : (b : Bool) → IsPairBelow (pair_in bind) (filter (is_authenticated_to wanted) sums)
        → IsRising bind_cmp (filter (is_authenticated_to wanted) sums)
        → IsRising bind_cmp (cond b (bind ∷ filter (is_authenticated_to wanted) sums)
        (filter (is_authenticated_to wanted) sums))
    by true below rest = (below, rest)
    by false below rest = rest

-- the list of all bindings is sorted if the certificates are
pub ordered_binds : (told : List ℕ → Record) (roots : List (Fpr × ℕ)) (wanted : ℕ) (certs : Certificates)
    (binds : List Bind) → AreOrdered certs → IsListed told roots wanted (pairs_in certs) binds → IsRising bind_cmp binds
ordered_binds told roots wanted certs binds o l =
    subst (IsRising bind_cmp) (sym l.chosen) (rising_chosen wanted l.sums (subst (IsRising pair_cmp) (sym l.each)
    (ordered_pairs certs o.fprs o.user_ids)))
