-- Sets of bodies, as the code holds them.
use Rattle.std.proofs.Common.{◌≡◌, ℕ, Bool, true, false, cond, List, [], ◌∷◌, ◌++◌, map, Bor, Option, Some, None, refl}
use Rattle.std.proofs.Common.{sym, ap, ◌∙◌}
use Rattle.std.specs.Option.{option_map, unwrap_or}
use Rattle.std.specs.declared.cmp.Ordering.{Ordering}
use Rattle.std.specs.declared.cmp.Ordering.TheVariants.{Less, Equal, Greater}
use Rattle.std.specs.Ordering.{nat_cmp, match_ordering}
use Rattle.std.specs.Cmp.{IsTotalOrder}
use Rattle.std.specs.Cmp.Lexicographic.{slice_cmp, on_texts}
use Rattle.std.proofs.lemmas.Cmp.{nat_list_cmp_total}
use Rattle.std.proofs.lemmas.Map.Lookups.{exact_bytes}
use Rattle.std.specs.BTreeMap.{is_at, insert_entry}
use Rattle.std.specs.BTreeSet.{BTreeSet, insert_key}
use Rattle.std.specs.Map.{lookup, remove_entry}
use Rattle.std.specs.List.{AllByRecursion}
use Rattle.wot_component.specs.Ranked.{put, placed, united, IsBelow, IsRising}
use Rattle.wot_cert.specs.Drafting.{body_cmp, first_stays, unite_bodies, Group, group_cmp, put_group, bodies_in}
use Rattle.wot_cert.specs.Drafting.{groups_in, without, sigs_at}
use Rattle.wot_component.proofs.Rank.{only}

-- ---- one more body

abbrev pub keys_cmp : Bor (List ℕ) → Bor (List ℕ) → Ordering
keys_cmp a b = slice_cmp nat_cmp a.now b.now

abbrev now_of : List (Bor (List ℕ)) → List (List ℕ)
now_of ks = map (λ b. b.now) ks

key_at : (r : Ordering) (k x : Bor (List ℕ)) (xs rest : List (Bor (List ℕ)))
    → now_of (match_ordering r (k ∷ x ∷ xs) (x ∷ xs) (x ∷ rest)) ≡ placed r first_stays k.now x.now (now_of xs)
    (now_of rest)
key_at Less k x xs rest = refl
key_at Equal k x xs rest = refl
key_at Greater k x xs rest = refl

pub put_key : (k : Bor (List ℕ)) (ks : List (Bor (List ℕ)))
    → map (λ b. b.now) (insert_key keys_cmp ks k) ≡ put body_cmp first_stays k.now (map (λ b. b.now) ks)
put_key k [] = refl
put_key k (x ∷ xs) =
    key_at (body_cmp k.now x.now) k x xs (insert_key keys_cmp xs k)
    ∙ ap (λ zs. placed (body_cmp k.now x.now) first_stays k.now x.now (now_of xs) zs) (put_key k xs)

-- ---- from the back

pub united-push : {A : Type 0} (R : A → A → Ordering) (join : A → A → A) (xs ys : List A) (y : A)
    → united R join xs (ys ++ y ∷ []) ≡ united R join (put R join y xs) ys
united-push R join xs [] y = refl
united-push R join xs (z ∷ ys) y = ap (put R join z) (united-push R join xs ys y)

-- ---- groups

abbrev Entries : Type 0
Entries = List (Bor (List ℕ) × BTreeSet (Bor (List ℕ)))

abbrev at : Bor (List ℕ) → Bor (List ℕ) → Bool
at k = is_at (λ (b : Bor (List ℕ)). slice_cmp nat_cmp k.now b.now)

pub remove_seen : (k : Bor (List ℕ)) (es : Entries) → groups_in (remove_entry (at k) es) ≡ without k.now (groups_in es)
remove_seen k [] = refl
remove_seen k (e ∷ es) =
    elim (at k e.0) as
    (λ b. groups_in (cond b es (e ∷ remove_entry (at k) es)) ≡ cond b (groups_in es)
    ((e.0.now, bodies_in e.1) ∷ without k.now (groups_in es))) [
      | true ↦ refl
      | false ↦ ap (λ gs. (e.0.now, bodies_in e.1) ∷ gs) (remove_seen k es)
    ]

pub found_seen : (k : Bor (List ℕ)) (es : Entries)
    → lookup (is_at (body_cmp k.now)) (groups_in es) ≡ option_map {U = List (List ℕ)} (λ s. bodies_in s)
    (lookup (at k) es)
found_seen k [] = refl
found_seen k (e ∷ es) =
    elim (at k e.0) as
    (λ b. cond b (Some (bodies_in e.1)) (lookup (is_at (body_cmp k.now)) (groups_in es)) ≡ option_map
    {U = List (List ℕ)} (λ s. bodies_in s) (cond b (Some e.1) (lookup (at k) es))) [
      | true ↦ refl
      | false ↦ found_seen k es
    ]

pub found_some : (k : Bor (List ℕ)) (es : Entries) (s : BTreeSet (Bor (List ℕ))) → Some s ≡ lookup (at k) es
    → bodies_in s ≡ sigs_at k.now (groups_in es)
found_some k es s e =
    sym (ap (λ (o : Option (List (List ℕ))). unwrap_or o [])
    (found_seen k es ∙ ap (option_map {U = List (List ℕ)} (λ s. bodies_in s)) (sym e)))

pub found_none : (k : Bor (List ℕ)) (es : Entries) → None ≡ lookup (at k) es → [] ≡ sigs_at k.now (groups_in es)
found_none k es e =
    sym (ap (λ (o : Option (List (List ℕ))). unwrap_or o [])
    (found_seen k es ∙ ap (option_map {U = List (List ℕ)} (λ s. bodies_in s)) (sym e)))

-- a group is inserted if there is none with its body
abbrev placed_group : Ordering → Group → Group → List Group → List Group → List Group
placed_group r g h hs rest = match_ordering r (g ∷ h ∷ hs) ((h.0, g.1) ∷ hs) (h ∷ rest)

abbrev pub insert_group : Group → List Group → List Group
insert_group g [] = g ∷ []
insert_group g (h ∷ hs) = placed_group (body_cmp g.0 h.0) g h hs (insert_group g hs)

entry_at : (r : Ordering) (k : Bor (List ℕ)) (v : BTreeSet (Bor (List ℕ))) (e : Bor (List ℕ) × BTreeSet (Bor (List ℕ)))
    (es rest : Entries)
    → groups_in (match_ordering r ((k, v) ∷ e ∷ es) ((e.0, v) ∷ es) (e ∷ rest)) ≡ placed_group r (k.now, bodies_in v)
    (e.0.now, bodies_in e.1) (groups_in es) (groups_in rest)
entry_at Less k v e es rest = refl
entry_at Equal k v e es rest = refl
entry_at Greater k v e es rest = refl

pub insert_seen : (k : Bor (List ℕ)) (v : BTreeSet (Bor (List ℕ))) (es : Entries)
    → groups_in (insert_entry keys_cmp es k v) ≡ insert_group (k.now, bodies_in v) (groups_in es)
insert_seen k v [] = refl
insert_seen k v (e ∷ es) =
    entry_at (body_cmp k.now e.0.now) k v e es (insert_entry keys_cmp es k v)
    ∙ ap (λ zs. placed_group (body_cmp k.now e.0.now) (k.now, bodies_in v) (e.0.now, bodies_in e.1) (groups_in es) zs)
    (insert_seen k v es)

groups_total : IsTotalOrder group_cmp
groups_total = on_texts (λ (g : Group). g.0)

bodies_same : (x y : List ℕ) → body_cmp x y ≡ Equal → (z : List ℕ) → body_cmp z (first_stays x y) ≡ body_cmp z x
bodies_same x y e z = refl

abbrev IsUnder : List ℕ → List Group → Type 0
IsUnder body gs = AllByRecursion (λ (g : Group). body_cmp body g.0 ≡ Less) gs

-- what is below all others is none of them
absent : (body : List ℕ) (gs : List Group) → IsUnder body gs → (without body gs ≡ gs) × (sigs_at body gs ≡ [])
absent body [] h = (refl, refl)
absent body (g ∷ gs) h =
    let rest = absent body gs h.1 in
    (rw h.0 (ap (λ (x : List Group). g ∷ x) rest.0), rw h.0 rest.1)

under : (body : List ℕ) (g : Group) (gs : List Group) → body_cmp body g.0 ≡ Less → IsBelow group_cmp g gs
    → IsUnder body gs
under body g [] e h = tt
under body g (x ∷ gs) e h = (nat_list_cmp_total.trans body g.0 x.0 e h.0, under body g gs e h.1)

under_tied : (body : List ℕ) (g : Group) (gs : List Group) → body_cmp body g.0 ≡ Equal → IsBelow group_cmp g gs
    → IsUnder body gs
under_tied body g [] e h = tt
under_tied body g (x ∷ gs) e h = (nat_list_cmp_total.congr body g.0 x.0 e ∙ h.0, under_tied body g gs e h.1)

-- a new group in front of those above it
in_front : (g : Group) (gs : List Group) → IsUnder g.0 gs → insert_group g gs ≡ g ∷ gs
in_front g [] h = refl
in_front g (x ∷ gs) h = rw h.0 refl

-- The group is removed, and inserted again with more signatures.
pub put_again : (body : List ℕ) (sigs : List (List ℕ)) (gs : List Group) → IsRising group_cmp gs
    → IsRising body_cmp sigs
    → insert_group (body, unite_bodies (sigs_at body gs) sigs) (without body gs) ≡ put_group (body, sigs) gs
put_again body sigs [] r s =
    ap (λ (x : List (List ℕ)). (body, x) ∷ []) (only body_cmp first_stays nat_list_cmp_total bodies_same sigs s)
put_again body sigs (g ∷ gs) r s =
    by_case (body_cmp body g.0) refl (put_again body sigs gs r.1 s)
  where
    by_case : (o : Ordering) → body_cmp body g.0 ≡ o
        → insert_group (body, unite_bodies (sigs_at body gs) sigs) (without body gs) ≡ put_group (body, sigs) gs
        → insert_group (body, unite_bodies (sigs_at body (g ∷ gs)) sigs) (without body (g ∷ gs)) ≡ put_group
        (body, sigs) (g ∷ gs)
    by_case Less e ih =
        let a = absent body gs (under body g gs e r.0) in
        let gone : without body (g ∷ gs) ≡ g ∷ gs = rw e (ap (λ (x : List Group). g ∷ x) a.0) in
        let found : unite_bodies (sigs_at body (g ∷ gs)) sigs ≡ sigs =
        (rw e (ap (λ (x : List (List ℕ)). unite_bodies x sigs) a.1))
        ∙ only body_cmp first_stays nat_list_cmp_total bodies_same sigs s in
        let first : insert_group (body, sigs) (g ∷ gs) ≡ (body, sigs) ∷ g ∷ gs = rw e refl in
        let same : put_group (body, sigs) (g ∷ gs) ≡ (body, sigs) ∷ g ∷ gs = rw e refl in
        ap (λ (x : List (List ℕ)). insert_group (body, x) (without body (g ∷ gs))) found
        ∙ ap (insert_group (body, sigs)) gone ∙ first ∙ sym same
    by_case Equal e ih =
        rw (e, in_front (body, unite_bodies g.1 sigs) gs (under_tied body g gs e r.0))
        (ap (λ (x : List ℕ). (x, unite_bodies g.1 sigs) ∷ gs) (exact_bytes body g.0 e))
    by_case Greater e ih =
        let gone : without body (g ∷ gs) ≡ g ∷ without body gs = rw e refl in
        let found : unite_bodies (sigs_at body (g ∷ gs)) sigs ≡ unite_bodies (sigs_at body gs) sigs = rw e refl in
        let first : insert_group (body, unite_bodies (sigs_at body gs) sigs) (g ∷ without body gs) ≡ g ∷ insert_group
        (body, unite_bodies (sigs_at body gs) sigs) (without body gs) = rw e refl in
        let same : put_group (body, sigs) (g ∷ gs) ≡ g ∷ put_group (body, sigs) gs = rw e refl in
        ap (λ (x : List (List ℕ)). insert_group (body, x) (without body (g ∷ gs))) found
        ∙ ap (insert_group (body, unite_bodies (sigs_at body gs) sigs)) gone ∙ first ∙ ap (λ (x : List Group). g ∷ x) ih
        ∙ sym same
