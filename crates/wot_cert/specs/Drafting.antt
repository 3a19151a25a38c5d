-- A certificate before its key is known, whose body every signature's number has: sets of bodies.
use Rattle.std.specs.List.{AllByRecursion}
use Rattle.std.specs.Prelude.{◌≡◌, true, ℕ, ◌<◌, ◌^◌, ◌==◌, Bool, if◌then◌else◌}
use Rattle.std.specs.Prelude.{List, [], ◌∷◌, ◌++◌, length, map, filter}
use Rattle.std.specs.Borrow.{Bor}
use Rattle.std.specs.BTreeSet.{BTreeSet}
use Rattle.std.specs.BTreeMap.{is_at}
use Rattle.std.specs.Map.{lookup, remove_entry}
use Rattle.std.specs.Option.{unwrap_or}
use Rattle.std.specs.declared.cmp.Ordering.{Ordering}
use Rattle.std.specs.Ordering.{nat_cmp}
use Rattle.std.specs.Cmp.Lexicographic.{slice_cmp}
use Rattle.wot_packet.specs.Spelling.{Spelled}
use Rattle.wot_verdict.specs.Number.{IsBegunOn}
use Rattle.wot_verdict.specs.declared.number.Numbering.{Numbering}
use Rattle.wot_cert.specs.Packets.{is_key, is_signature, begins_component}
use Rattle.wot_component.specs.Ranked.{put, united, IsRising}
use Rattle.wot_component.specs.Certificate.{Component, Certificate, Signature}
use Rattle.wot_component.specs.Certificate.{fresh, on_key, on_user_id, on_attribute, on_subkey}
use Rattle.wot_cert.specs.Assembly.{Section, cut_at, has_readable_key, certificate_of}
use Rattle.wot_cert.specs.declared.draft.Draft.{Draft}

abbrev pub body_cmp : List ℕ → List ℕ → Ordering
body_cmp = slice_cmp nat_cmp

abbrev pub first_stays : List ℕ → List ℕ → List ℕ
first_stays old new = old

abbrev pub unite_bodies : List (List ℕ) → List (List ℕ) → List (List ℕ)
unite_bodies = united body_cmp first_stays

-- a component's body, and the bodies of the signatures on it
abbrev pub Group : Type 0
Group = List ℕ × List (List ℕ)

abbrev pub group_cmp : Group → Group → Ordering
group_cmp a b = body_cmp a.0 b.0

abbrev pub unite_group : Group → Group → Group
unite_group old new = (old.0, unite_bodies old.1 new.1)

abbrev pub unite_groups : List Group → List Group → List Group
unite_groups = united group_cmp unite_group

abbrev pub put_group : Group → List Group → List Group
put_group = put group_cmp unite_group

-- ---- what packets draft

-- the bodies of the signatures among these packets
abbrev pub sig_bodies : List Spelled → List (List ℕ)
sig_bodies packets =
    unite_bodies [] (map (λ (p : Spelled). p.body) (filter (λ (p : Spelled). is_signature p.kind) packets))

abbrev pub group_of : Section → Group
group_of section = (section.0.body, sig_bodies section.1)

abbrev pub groups_of : ℕ → List Section → List Group
groups_of type sections = unite_groups [] (map group_of (filter (λ (s : Section). s.0.kind == type) sections))

pub record Sketch : Type 0 where
  pub sigs : List (List ℕ)
  pub user_ids : List Group
  pub attributes : List Group
  pub subkeys : List Group

abbrev pub sketch_of : List Spelled × List Section → Sketch
sketch_of cut = record {
  sigs = sig_bodies cut.0;
  user_ids = groups_of 13 cut.1;
  attributes = groups_of 17 cut.1;
  subkeys = groups_of 14 cut.1;
}

-- what the packets after a key draft
abbrev pub sketched : List Spelled → Sketch
sketched packets = sketch_of (cut_at begins_component packets)

-- ---- one packet more, in front

abbrev pub with_signature : List ℕ → Sketch → Sketch
with_signature body s = record {
  sigs = put body_cmp first_stays body s.sigs;
  user_ids = s.user_ids;
  attributes = s.attributes;
  subkeys = s.subkeys;
}

abbrev pub groups_with : Bool → Group → List Group → List Group
groups_with here group groups = if here then put_group group groups else groups

-- What was drafted so far belongs to this component, or is dropped if it is none.
abbrev pub with_component : ℕ → List ℕ → Sketch → Sketch
with_component type body s = record {
  sigs = [];
  user_ids = groups_with (type == 13) (body, s.sigs) s.user_ids;
  attributes = groups_with (type == 17) (body, s.sigs) s.attributes;
  subkeys = groups_with (type == 14) (body, s.sigs) s.subkeys;
}

abbrev pub with_packet : Spelled → Sketch → Sketch
with_packet p s =
    if begins_component p.kind then with_component p.kind p.body s
    else if is_signature p.kind then with_signature p.body s
    else s

-- Its lists are in the order of the bodies.
pub record IsSketch (s : Sketch) : Type 0 where
  pub sigs : IsRising body_cmp s.sigs
  pub user_ids : IsRising group_cmp s.user_ids
  pub attributes : IsRising group_cmp s.attributes
  pub subkeys : IsRising group_cmp s.subkeys

-- ---- with the key

-- one more signature on the component that the numbering was made for
abbrev pub AddsFresh : Numbering → List ℕ → List Signature → List Signature → Type 0
AddsFresh numbering body old new =
    (key : List ℕ) (kind : ℕ) (component : List ℕ) → IsBegunOn key kind component numbering
    → new ≡ old ++ fresh key kind component body ∷ []

abbrev pub part_drafted : List ℕ → ℕ → Group → Component
part_drafted key kind group = record { body = group.0; sigs = map (fresh key kind group.0) group.1 }

-- the certificate with this key
abbrev pub completed : List ℕ → Sketch → Certificate
completed key s = record {
  key = key;
  direct = map (fresh key on_key []) s.sigs;
  user_ids = map (part_drafted key on_user_id) s.user_ids;
  attributes = map (part_drafted key on_attribute) s.attributes;
  subkeys = map (part_drafted key on_subkey) s.subkeys;
}

-- ---- as the code holds it

abbrev pub bodies_in : BTreeSet (Bor (List ℕ)) → List (List ℕ)
bodies_in set = map (λ b. b.now) set.keys

abbrev pub groups_in : List (Bor (List ℕ) × BTreeSet (Bor (List ℕ))) → List Group
groups_in entries = map (λ e. (e.0.now, bodies_in e.1)) entries

abbrev pub seen : Draft → Sketch
seen draft = record {
  sigs = bodies_in draft.sigs;
  user_ids = groups_in draft.user_ids.entries;
  attributes = groups_in draft.attributes.entries;
  subkeys = groups_in draft.subkeys.entries;
}

-- the groups without that of this body, and the signatures in it
abbrev pub without : List ℕ → List Group → List Group
without body groups = remove_entry (is_at (body_cmp body)) groups

abbrev pub sigs_at : List ℕ → List Group → List (List ℕ)
sigs_at body groups = unwrap_or (lookup (is_at (body_cmp body)) groups) []

-- whose length fits in four octets
abbrev pub IsShort : List ℕ → Type 0
IsShort body = length body < 2 ^ 32

-- a component and signatures whose lengths fit in four octets
abbrev pub IsShortGroup : Group → Type 0
IsShortGroup group = IsShort group.0 × AllByRecursion IsShort group.1

pub record IsShortSketch (s : Sketch) : Type 0 where
  pub sigs : AllByRecursion IsShort s.sigs
  pub user_ids : AllByRecursion IsShortGroup s.user_ids
  pub attributes : AllByRecursion IsShortGroup s.attributes
  pub subkeys : AllByRecursion IsShortGroup s.subkeys

-- the signatures of each group are in the order of their bodies
abbrev pub SigsRise : List Group → Type 0
SigsRise groups = AllByRecursion (λ (g : Group). IsRising body_cmp g.1) groups

-- Its lists are in order, and its bodies short.
pub record IsWholeSketch (s : Sketch) : Type 0 where
  pub order : IsSketch s
  pub short : IsShortSketch s
  pub user_ids : SigsRise s.user_ids
  pub attributes : SigsRise s.attributes
  pub subkeys : SigsRise s.subkeys

-- ---- one key more

abbrev pub BeginsWithKey : List Spelled → Type 0
BeginsWithKey [] = Unit {0}
BeginsWithKey (p ∷ packets) = is_key p.kind ≡ true

-- the certificate of a key, if it can be parsed
abbrev pub certs_in : Section → List Certificate
certs_in section = if has_readable_key section then certificate_of section ∷ [] else []

abbrev pub skipped_by : Section → ℕ
skipped_by section = if has_readable_key section then 0 else 1
