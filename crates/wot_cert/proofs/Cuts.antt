-- Lists of packets, cut at keys.
use Rattle.std.proofs.Common.{◌≡◌, ℕ, zero, suc, ◌+◌, ◌<◌, ◌≤◌, Bool, true, false, cond, List, [], ◌∷◌, ◌++◌, length}
use Rattle.std.proofs.Common.{map, take, drop, get_or, refl, sym, ap, subst, ◌∙◌, arith, append_assoc, eqb, add-one}
use Rattle.std.proofs.lemmas.Bool.{eqb-true}
use Rattle.std.proofs.lemmas.List.{append-nil, drop_more}
use Rattle.wot_packet.specs.declared.packet.Packet.{Packet}
use Rattle.wot_packet.specs.Spelling.{AreShort, Spelled, spelled_of, spelled_all}
use Rattle.wot_cert.specs.Packets.{is_key}
use Rattle.std.specs.Prelude.{count_by, not, filter}
use Rattle.std.proofs.lemmas.List.Sums.{sum_by-append}
use Rattle.wot_component.specs.Certificate.{Certificate}
use Rattle.wot_cert.specs.Assembly.{Section, cut_at, keys_of, certificate_of, certificates_of, skipped_in}
use Rattle.wot_cert.specs.Assembly.{has_readable_key}
use Rattle.wot_cert.specs.Drafting.{BeginsWithKey, certs_in, skipped_by}

-- the packets from one on, with it in front
pub spelled-drop : (ps : List Packet) (i : ℕ) (d : Packet) → i < length ps
    → spelled_all (drop i ps) ≡ spelled_of (get_or ps i d) ∷ spelled_all (drop (i + 1) ps)
spelled-drop ps i d lt = ap spelled_all (drop_more ps i d lt)

pub drop-spelled : (ps : List Packet) (i : ℕ) → drop i (spelled_all ps) ≡ spelled_all (drop i ps)
drop-spelled ps zero = refl
drop-spelled [] (suc i) = refl
drop-spelled (p ∷ ps) (suc i) = drop-spelled ps i

take-suc : (xs : List Spelled) (i : ℕ) (x : Spelled) (rest : List Spelled) → drop i xs ≡ x ∷ rest
    → take (suc i) xs ≡ take i xs ++ x ∷ []
take-suc [] zero x rest e = absurd cc
take-suc [] (suc i) x rest e = absurd cc
take-suc (y ∷ xs) zero x rest e = let f : y ≡ x = cc in ap (λ (z : Spelled). z ∷ []) f
take-suc (y ∷ xs) (suc i) x rest e = ap (λ (z : List Spelled). y ∷ z) (take-suc xs i x rest e)

pub take-more : (xs : List Spelled) (i : ℕ) (x : Spelled) (rest : List Spelled) → drop i xs ≡ x ∷ rest
    → take (i + 1) xs ≡ take i xs ++ x ∷ []
take-more xs i x rest e = rw add-one (take-suc xs i x rest e)

pub is-other : (kind : ℕ) → (kind ≡ 6 → ⊥) → is_key kind ≡ false
is-other kind ne = by_test (eqb kind 6) refl
  where
    by_test : (b : Bool) → eqb kind 6 ≡ b → eqb kind 6 ≡ false
    by_test true e = absurd (ne (eqb-true kind 6 e))
    by_test false e = e

-- if the first packet is a key, none comes before it
pub at-key : (p : Spelled) (ps : List Spelled) → is_key p.kind ≡ true → (cut_at is_key (p ∷ ps)).0 ≡ []
at-key p ps e = rw e refl

pub at-other : (p : Spelled) (ps : List Spelled) → is_key p.kind ≡ false
    → cut_at is_key (p ∷ ps) ≡ (p ∷ (cut_at is_key ps).0, (cut_at is_key ps).1)
at-other p ps e = rw e refl

-- one packet further, which is no key
pub further : (all : List Spelled) (i : ℕ) (p : Spelled) (ps : List Spelled) → drop i all ≡ p ∷ ps
    → drop (i + 1) all ≡ ps → is_key p.kind ≡ false
    → (cut_at is_key all).0 ≡ take i all ++ (cut_at is_key (drop i all)).0
    → (cut_at is_key all).1 ≡ (cut_at is_key (drop i all)).1
    → ((cut_at is_key all).0 ≡ take (i + 1) all ++ (cut_at is_key (drop (i + 1) all)).0)
    × ((cut_at is_key all).1 ≡ (cut_at is_key (drop (i + 1) all)).1)
further all i p ps e f k before behind =
    let cut : cut_at is_key (drop i all) ≡ (p ∷ (cut_at is_key ps).0, (cut_at is_key ps).1) =
    ap (cut_at is_key) e ∙ at-other p ps k in
    let next : cut_at is_key (drop (i + 1) all) ≡ cut_at is_key ps = ap (cut_at is_key) f in (
      before ∙ ap (λ (c : List Spelled × List Section). take i all ++ c.0) cut
          ∙ sym (append_assoc (take i all) (p ∷ []) (cut_at is_key ps).0)
          ∙ ap (λ (x : List Spelled). x ++ (cut_at is_key ps).0) (sym (take-more all i p ps e))
          ∙ ap (λ (c : List Spelled × List Section). take (i + 1) all ++ c.0) (sym next),
      behind ∙ ap (λ (c : List Spelled × List Section). c.1) cut
          ∙ ap (λ (c : List Spelled × List Section). c.1) (sym next),
    )

pub stops : (all : List Spelled) (i : ℕ) (p : Spelled) (ps : List Spelled) → drop i all ≡ p ∷ ps → is_key p.kind ≡ true
    → (cut_at is_key all).0 ≡ take i all ++ (cut_at is_key (drop i all)).0 → (cut_at is_key all).0 ≡ take i all
stops all i p ps e k before =
    before ∙ ap (λ (x : List Spelled). take i all ++ (cut_at is_key x).0) e
    ∙ ap (λ (x : List Spelled). take i all ++ x) (at-key p ps k) ∙ append-nil (take i all)

pub take-spelled : (ps : List Packet) (i : ℕ) → take i (spelled_all ps) ≡ spelled_all (take i ps)
take-spelled ps zero = refl
take-spelled [] (suc i) = refl
take-spelled (p ∷ ps) (suc i) = ap (λ (z : List Spelled). spelled_of p ∷ z) (take-spelled ps i)

pub short-drop : (ps : List Spelled) (i : ℕ) → AreShort ps → AreShort (drop i ps)
short-drop ps zero h = h
short-drop [] (suc i) h = tt
short-drop (p ∷ ps) (suc i) h = short-drop ps i h.1

-- ---- one key more

at-the-key : (p : Spelled) (ps : List Spelled) → is_key p.kind ≡ true
    → cut_at is_key (p ∷ ps) ≡ ([], (p, (cut_at is_key ps).0) ∷ (cut_at is_key ps).1)
at-the-key p ps e = rw e refl

keys-more : (p : Spelled) (ps : List Spelled) → is_key p.kind ≡ true
    → keys_of (p ∷ ps) ≡ (p, (cut_at is_key ps).0) ∷ keys_of ps
keys-more p ps e = ap (λ (c : List Spelled × List Section). c.1) (at-the-key p ps e)

certs-first : (b : Bool) (s : Section) (sections : List Section)
    → map certificate_of
    (cond b (s ∷ filter has_readable_key sections) (filter has_readable_key sections))
    ≡ (cond b (certificate_of s ∷ []) []) ++ map certificate_of (filter has_readable_key sections)
certs-first true s sections = refl
certs-first false s sections = refl

abbrev unreadable : Section → Bool
unreadable s = not (has_readable_key s)

skipped-first : (s : Section) (sections : List Section)
    → count_by unreadable (s ∷ sections) ≡ skipped_by s + count_by unreadable sections
skipped-first s sections =
    sum_by-append (λ x. cond (unreadable x) 1 0) (s ∷ []) sections ∙ ap (λ n. n + count_by unreadable sections) (one s)
  where
    by_case : (b : Bool) → 0 + cond (not b) 1 0 ≡ cond b 0 1
    by_case true = refl
    by_case false = refl

    one : (x : Section) → count_by unreadable (x ∷ []) ≡ skipped_by x
    one x = by_case (has_readable_key x)

-- What a key and the packets after it add, given how many of these come before the next key.
pub record KeyTaken (p : Spelled) (ps : List Spelled) (n : ℕ) : Type 0 where
  pub certs : certificates_of (p ∷ ps) ≡ certs_in (p, take n ps) ++ certificates_of (drop n ps)
  pub skipped : skipped_in (p ∷ ps) ≡ skipped_by (p, take n ps) + skipped_in (drop n ps)

pub key-taken : (p : Spelled) (ps : List Spelled) (n : ℕ) → is_key p.kind ≡ true → (cut_at is_key ps).0 ≡ take n ps
    → (cut_at is_key ps).1 ≡ (cut_at is_key (drop n ps)).1 → KeyTaken p ps n
key-taken p ps n key before behind =
    let keys : keys_of (p ∷ ps) ≡ (p, take n ps) ∷ keys_of (drop n ps) =
    keys-more p ps key ∙ ap (λ (x : List Spelled). (p, x) ∷ keys_of ps) before
    ∙ ap (λ (x : List Section). (p, take n ps) ∷ x) behind in
    record {
      certs = ap (λ (x : List Section). map certificate_of (filter has_readable_key x)) keys
          ∙ certs-first (has_readable_key (p, take n ps)) (p, take n ps) (keys_of (drop n ps));
      skipped = ap (count_by unreadable) keys ∙ skipped-first (p, take n ps) (keys_of (drop n ps));
    }

-- before the first key nothing is taken
pub none-before : (ps : List Spelled) (n : ℕ) → (cut_at is_key ps).1 ≡ (cut_at is_key (drop n ps)).1
    → (certificates_of (drop n ps) ≡ certificates_of ps) × (skipped_in (drop n ps) ≡ skipped_in ps)
none-before ps n e = (
  ap (λ (x : List Section). map certificate_of (filter has_readable_key x)) (sym e),
  ap (count_by unreadable) (sym e),
)

pub begins-there : (xs : List Spelled) (p : Spelled) (rest : List Spelled) → xs ≡ p ∷ rest → is_key p.kind ≡ true
    → BeginsWithKey xs
begins-there xs p rest e k = subst (λ (x : List Spelled). BeginsWithKey x) (sym e) k

pub certs-on : (old new all : List Certificate) (p : Spelled) (rest behind section others : List Spelled) (n : ℕ)
    → rest ≡ p ∷ behind → KeyTaken p behind n
    → section ≡ take n behind → others ≡ drop n behind → new ≡ old ++ certs_in (p, section)
    → old ++ certificates_of rest ≡ all → new ++ certificates_of others ≡ all
certs-on old new all p rest behind section others n e taken s o more so_far =
    ap (λ (x : List Certificate). x ++ certificates_of others) more
    ∙ append_assoc old (certs_in (p, section)) (certificates_of others)
    ∙ ap (λ (x : List Spelled). old ++ (certs_in (p, x) ++ certificates_of others)) s
    ∙ ap (λ (x : List Spelled). old ++ (certs_in (p, take n behind) ++ certificates_of x)) o
    ∙ ap (λ (x : List Certificate). old ++ x) (sym taken.certs)
    ∙ ap (λ (x : List Spelled). old ++ certificates_of x) (sym e) ∙ so_far

pub skipped-on : (old new all : ℕ) (p : Spelled) (rest behind section others : List Spelled) (n : ℕ) → rest ≡ p ∷ behind
    → KeyTaken p behind n
    → section ≡ take n behind → others ≡ drop n behind → new ≡ old + skipped_by (p, section)
    → old + skipped_in rest ≡ all → new + skipped_in others ≡ all
skipped-on old new all p rest behind section others n e taken s o more so_far =
    let a : skipped_by (p, section) ≡ skipped_by (p, take n behind) = ap (λ (x : List Spelled). skipped_by (p, x)) s in
    let b : skipped_in others ≡ skipped_in (drop n behind) = ap skipped_in o in
    let c : skipped_in rest ≡ skipped_in (p ∷ behind) = ap skipped_in e in
    omega (arith, a, b, c, taken.skipped, more, so_far)

pub skipped-most : (s : Section) → skipped_by s ≤ 1
skipped-most s = by_case (has_readable_key s)
  where
    by_case : (b : Bool) → cond b 0 1 ≤ 1
    by_case true = omega arith
    by_case false = omega arith

pub key-there : (p : Spelled) (rest behind : List Spelled) → rest ≡ p ∷ behind → BeginsWithKey rest
    → is_key p.kind ≡ true
key-there p rest behind e h = subst (λ (x : List Spelled). BeginsWithKey x) e h
