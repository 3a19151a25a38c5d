-- What packets draft, one more at a time.
use Rattle.std.proofs.Common.{◌≡◌, ℕ, ◌+◌, ◌-◌, ◌<◌, ◌≤◌, Bool, true, false, cond, List, [], ◌∷◌, map, filter, length}
use Rattle.std.proofs.Common.{drop, get_or, refl, sym, ap, ◌∙◌, arith}
use Rattle.std.specs.Prelude.{◌==◌}
use Rattle.std.specs.Cmp.{IsTotalOrder}
use Rattle.std.specs.Cmp.Lexicographic.{on_texts}
use Rattle.std.proofs.lemmas.Cmp.{nat_list_cmp_total}
use Rattle.wot_packet.specs.declared.packet.Packet.{Packet}
use Rattle.wot_packet.specs.Spelling.{Spelled, spelled_of, spelled_all}
use Rattle.wot_cert.specs.Packets.{is_signature, begins_component}
use Rattle.wot_component.specs.Ranked.{put}
use Rattle.wot_cert.specs.Assembly.{Section, cut_at, cut_on}
use Rattle.wot_cert.specs.Drafting.{body_cmp, first_stays, unite_bodies, Group, group_cmp, unite_group, unite_groups}
use Rattle.wot_cert.specs.Drafting.{put_group, sig_bodies, group_of, groups_of, Sketch, sketch_of, sketched}
use Rattle.wot_cert.specs.Drafting.{with_signature, with_component, with_packet, IsSketch}
use Rattle.wot_component.proofs.Rank.{united_rises}
use Rattle.wot_cert.proofs.Cuts.{spelled-drop}

-- ---- one packet more

groups-more : (here : Bool) (type : ℕ) (s : Section) (rest : List Section)
    → unite_groups [] (map group_of (cond here (s ∷ rest) rest)) ≡ cond here
    (put_group (group_of s) (unite_groups [] (map group_of rest))) (unite_groups [] (map group_of rest))
groups-more true type s rest = refl
groups-more false type s rest = refl

sigs-more : (here : Bool) (p : Spelled) (rest : List Spelled)
    → unite_bodies [] (map (λ (p : Spelled). p.body) (cond here (p ∷ rest) rest)) ≡ cond here
    (put body_cmp first_stays p.body (unite_bodies [] (map (λ (p : Spelled). p.body) rest)))
    (unite_bodies [] (map (λ (p : Spelled). p.body) rest))
sigs-more true p rest = refl
sigs-more false p rest = refl

abbrev of-type : ℕ → List Section → List Section
of-type type sections = filter (λ (s : Section). s.0.kind == type) sections

sketch-same : (a b : Sketch) → a.sigs ≡ b.sigs → a.user_ids ≡ b.user_ids → a.attributes ≡ b.attributes
    → a.subkeys ≡ b.subkeys → a ≡ b
sketch-same a b e f g h = λ i. record { sigs = e i; user_ids = f i; attributes = g i; subkeys = h i }

component-more : (p : Spelled) (cut : List Spelled × List Section)
    → sketch_of ([], (p, cut.0) ∷ cut.1) ≡ with_component p.kind p.body (sketch_of cut)
component-more p cut =
    sketch-same (sketch_of ([], (p, cut.0) ∷ cut.1)) (with_component p.kind p.body (sketch_of cut)) refl
    (groups-more (p.kind == 13) 13 (p, cut.0) (of-type 13 cut.1))
    (groups-more (p.kind == 17) 17 (p, cut.0) (of-type 17 cut.1))
    (groups-more (p.kind == 14) 14 (p, cut.0) (of-type 14 cut.1))

signature-more : (here : Bool) (body : List ℕ) (s : Sketch)
    → record {
      sigs = cond here (put body_cmp first_stays body s.sigs) s.sigs;
      user_ids = s.user_ids;
      attributes = s.attributes;
      subkeys = s.subkeys;
    } ≡ cond here (with_signature body s) s
signature-more true body s = refl
signature-more false body s = refl

other-more : (p : Spelled) (cut : List Spelled × List Section)
    → sketch_of (p ∷ cut.0, cut.1) ≡ cond (is_signature p.kind) (with_signature p.body (sketch_of cut)) (sketch_of cut)
other-more p cut =
    sketch-same (sketch_of (p ∷ cut.0, cut.1))
    (record {
      sigs = cond (is_signature p.kind) (put body_cmp first_stays p.body (sig_bodies cut.0)) (sig_bodies cut.0);
      user_ids = groups_of 13 cut.1;
      attributes = groups_of 17 cut.1;
      subkeys = groups_of 14 cut.1;
    })
    (sigs-more (is_signature p.kind) p (filter (λ (q : Spelled). is_signature q.kind) cut.0)) refl refl refl
    ∙ signature-more (is_signature p.kind) p.body (sketch_of cut)

packet-more : (begins : Bool) (p : Spelled) (cut : List Spelled × List Section)
    → sketch_of (cut_on begins p cut) ≡ cond begins (with_component p.kind p.body (sketch_of cut))
    (cond (is_signature p.kind) (with_signature p.body (sketch_of cut)) (sketch_of cut))
packet-more true p cut = component-more p cut
packet-more false p cut = other-more p cut

pub sketched-more : (p : Spelled) (packets : List Spelled) → sketched (p ∷ packets) ≡ with_packet p (sketched packets)
sketched-more p packets = packet-more (begins_component p.kind) p (cut_at begins_component packets)

-- ---- in order

groups_total : IsTotalOrder group_cmp
groups_total = on_texts (λ (g : Group). g.0)

pub sketched-rises : (packets : List Spelled) → IsSketch (sketched packets)
sketched-rises packets =
    let cut = cut_at begins_component packets in
    record {
      sigs = united_rises body_cmp first_stays nat_list_cmp_total (λ x y e z. refl) []
          (map (λ (p : Spelled). p.body) (filter (λ (p : Spelled). is_signature p.kind) cut.0)) tt;
      user_ids = united_rises group_cmp unite_group groups_total (λ x y e z. refl) [] (map group_of (of-type 13 cut.1))
          tt;
      attributes = united_rises group_cmp unite_group groups_total (λ x y e z. refl) []
          (map group_of (of-type 17 cut.1)) tt;
      subkeys = united_rises group_cmp unite_group groups_total (λ x y e z. refl) [] (map group_of (of-type 14 cut.1))
          tt;
    }

-- one packet further to the prefix
pub sketched-before : (ps : List Packet) (left : ℕ) (d : Packet) → 0 < left → left ≤ length ps
    → with_packet (spelled_of (get_or ps (left - 1) d)) (sketched (spelled_all (drop left ps))) ≡ sketched
    (spelled_all (drop (left - 1) ps))
sketched-before ps left d some within =
    let n : (left - 1) + 1 ≡ left = omega arith in
    let lt : left - 1 < length ps = omega arith in
    sym (
    ap sketched (spelled-drop ps (left - 1) d lt)
    ∙ sketched-more (spelled_of (get_or ps (left - 1) d)) (spelled_all (drop ((left - 1) + 1) ps))
    ∙ ap (λ (i : ℕ). with_packet (spelled_of (get_or ps (left - 1) d)) (sketched (spelled_all (drop i ps)))) n)
