-- A piece of a list grows, pair by pair.
use Rattle.std.proofs.Common.{◌≡◌, ◌<◌, ◌≤◌, ℕ, Bool, true, false, cond, List, [], ◌∷◌, ◌++◌, length, map, take}
use Rattle.std.proofs.Common.{Option, Some, None, Ordering, arith, refl, sym, ap, subst, ◌∙◌, append_assoc, append-nil}
use Rattle.std.specs.Prelude.{nat_le}
use Rattle.std.specs.declared.cmp.Ordering.TheVariants.{Less, Equal, Greater}
use Rattle.std.specs.Ordering.{is_gt, is_le, nat_cmp, ordering_reverse, ordering_then}
use Rattle.std.specs.Cmp.Lexicographic.{slice_cmp}
use Rattle.std.proofs.lemmas.List.{length-append, length-take, take-append-le, take_all}
use Rattle.std.proofs.lemmas.List.Elements.{filter-append}
use Rattle.wot_types.specs.declared.fpr.Fpr.{Fpr}
use Rattle.wot_types.specs.declared.place.Place.{Place}
use Rattle.wot_types.specs.Fpr.{fpr_cmp}
use Rattle.wot_types.specs.FprLaws.{fpr_total}
use Rattle.wot_component.specs.Certificate.{Component, Certificate}
use Rattle.wot_edge.specs.Answer.{amount_of}
use Rattle.wot_edge.specs.Record.{Record}
use Rattle.wot_keyring_spec.specs.declared.kept.Kept.{Kept}
use Rattle.wot_keyring_spec.specs.From.{is_from, entries_from}
use Rattle.wot_keyring_spec.specs.Keyring.{Entries, stripped}
use Rattle.wot_keyring_spec.specs.Kept.{AreNamed}
use Rattle.wot_explain.specs.declared.bind.Bind.{Bind}
use Rattle.wot_explain.specs.Listing.{Pair, pair_of, pairs_in, pairs_of, pairs_of_all, IsListed, AddsListed}
use Rattle.wot_explain.specs.Piece.{AddsPiece, IsThePiece, binds_after, comes_after, fpr_at, piece_of}
use Rattle.wot_explain.proofs.Listed.{joined, pairs_named, split, walked, with_bind}

module _ (network : List ℕ → Record) (roots : List (Fpr × ℕ)) (wanted : ℕ) (after : Option Place) (count : ℕ) where
  after_joined : (xs ys : List Bind) → binds_after after (xs ++ ys) ≡ binds_after after xs ++ binds_after after ys
  after_joined xs ys = filter-append (λ (bind : Bind). comes_after after (bind.fpr, bind.uid)) xs ys

  -- ---- steps

  full : (before more : List Bind) → count ≤ length (piece_of after count before) →
      piece_of after count (before ++ more) ≡ piece_of after count before
  full before more le =
      let l = length-take count (binds_after after before) in
      ap (take count) (after_joined before more) ∙ take-append-le count (binds_after after before)
      (binds_after after more) (omega (arith, l, le))

  -- a full piece stays
  pub full_piece : (pairs : List Pair) (old : List Bind) → count ≤ length old →
      AddsPiece network roots wanted after count pairs old old
  full_piece pairs old le before binds e h =
      e ∙ sym (full before binds (subst (λ (xs : List Bind). count ≤ length xs) e le))

  pub none_piece : (old : List Bind) → AddsPiece network roots wanted after count [] old old
  none_piece old before binds e h =
      e ∙ ap (piece_of after count) (sym (ap (λ (bs : List Bind). before ++ bs) (walked network roots wanted [] binds h)
      ∙ append-nil before))

  pub joined_piece : (xs ys : List Pair) (old mid new : List Bind) →
      AddsPiece network roots wanted after count xs old mid → AddsPiece network roots wanted after count ys mid new →
      AddsPiece network roots wanted after count (xs ++ ys) old new
  joined_piece xs ys old mid new f g before binds e h =
      let s = split network roots wanted xs ys binds h in
      g (before ++ s.0) s.1 (f before s.0 e s.2) s.3 ∙ ap (piece_of after count) (append_assoc before s.0 s.1
      ∙ ap (λ (bs : List Bind). before ++ bs) (sym s.4))

  -- ---- one pair

  abbrev the_bind : Pair → ℕ → Bind
  the_bind pair sum = record { sum = sum; fpr = pair.0; uid = pair.1 }

  one_missed : (pair : Pair) (sum : ℕ) → comes_after after pair ≡ false → (b : Bool) →
      binds_after after (cond b (the_bind pair sum ∷ []) []) ≡ []
  one_missed pair sum off true = ap (λ (t : Bool). cond t (the_bind pair sum ∷ []) []) off
  one_missed pair sum off false = refl

  one_taken : (pair : Pair) (sum : ℕ) → comes_after after pair ≡ true → (b : Bool) →
      binds_after after (cond b (the_bind pair sum ∷ []) []) ≡ cond b (the_bind pair sum ∷ []) []
  one_taken pair sum on true = ap (λ (t : Bool). cond t (the_bind pair sum ∷ []) []) on
  one_taken pair sum on false = refl

  one_few : (pair : Pair) (sum : ℕ) (b : Bool) → length (cond b (the_bind pair sum ∷ []) []) ≤ 1
  one_few pair sum true = omega arith
  one_few pair sum false = omega arith

  -- the list of one pair
  one_is : (pair : Pair) (binds : List Bind) → IsListed network roots wanted (pair ∷ []) binds →
      (sum : ℕ) × (binds ≡ with_bind wanted pair sum [])
  one_is pair binds h =
      let w = walked network roots wanted (pair ∷ []) binds h in
      (amount_of w.paths, w.whole ∙ ap (with_bind wanted pair (amount_of w.paths)) w.listed)

  missed_none : (pair : Pair) (binds : List Bind) → comes_after after pair ≡ false →
      IsListed network roots wanted (pair ∷ []) binds → binds_after after binds ≡ []
  missed_none pair binds off h =
      let (sum, is) = one_is pair binds h in
      ap (binds_after after) is ∙ one_missed pair sum off (nat_le wanted sum)

  same_piece : (before more : List Bind) → binds_after after more ≡ [] →
      piece_of after count before ≡ piece_of after count (before ++ more)
  same_piece before more e =
      ap (take count) (sym (after_joined before more ∙ ap (λ (bs : List Bind). binds_after after before ++ bs) e
      ∙ append-nil (binds_after after before)))

  -- one that doesn't come after the place
  pub missed_piece : (pair : Pair) (old : List Bind) → comes_after after pair ≡ false →
      AddsPiece network roots wanted after count (pair ∷ []) old old
  missed_piece pair old off before binds e h = e ∙ same_piece before binds (missed_none pair binds off h)

  -- one that does
  pub taken_piece : (pair : Pair) (old new : List Bind) → comes_after after pair ≡ true → length old < count →
      AddsListed network roots wanted (pair ∷ []) old new → AddsPiece network roots wanted after count (pair ∷ []) old new
  taken_piece pair old new on lt a before binds e h =
      let (sum_is, is) = one_is pair binds h in
      let b = nat_le wanted sum_is in
      let same : binds_after after binds ≡ binds = ap (binds_after after) is ∙ one_taken pair sum_is on b
      ∙ sym is in
      let few : length binds ≤ 1 = subst (λ (bs : List Bind). length bs ≤ 1) (sym is) (one_few pair sum_is b) in
      let long = length-take count (binds_after after before) in
      let short : length (piece_of after count before) < count = subst (λ (bs : List Bind). length bs < count) e lt in
      let whole : piece_of after count before ≡ binds_after after before = take_all count (binds_after after before)
      (omega (arith, long, short)) in
      let sum = length-append (binds_after after before) binds in
      a.2
      ∙ ap (λ (bs : List Bind). old ++ bs) (sym (a.1.one binds h))
      ∙ ap (λ (bs : List Bind). bs ++ binds) (e ∙ whole)
      ∙ sym (take_all count (binds_after after before ++ binds) (omega (arith, sum, few, long, short)))
      ∙ ap (λ (bs : List Bind). take count (binds_after after before ++ bs)) (sym same)
      ∙ ap (take count) (sym (after_joined before binds))

  -- ---- loops

  pub piece_more : (fpr : Fpr) (uid : Component) (others rest : List Component) (body : List ℕ)
      (old mid new : List Bind) → rest ≡ uid ∷ others → body ≡ uid.body
      → AddsPiece network roots wanted after count ((fpr, body) ∷ []) old mid → AddsPiece network roots wanted after count
      (map (pair_of fpr) others) mid new → AddsPiece network roots wanted after count (map (pair_of fpr) rest) old new
  piece_more fpr uid others rest body old mid new e f h g =
      subst (λ (ps : List Component). AddsPiece network roots wanted after count (map (pair_of fpr) ps) old new) (sym e)
      (joined_piece ((fpr, uid.body) ∷ []) (map (pair_of fpr) others) old mid new
      (subst (λ (b : List ℕ). AddsPiece network roots wanted after count ((fpr, b) ∷ []) old mid) f h) g)

  pub piece_end : (fpr : Fpr) (rest : List Component) (out : List Bind) → length rest ≡ 0 →
      AddsPiece network roots wanted after count (map (pair_of fpr) rest) out out
  piece_end fpr [] out e = none_piece out
  piece_end fpr (uid ∷ uids) out e = absurd (omega arith)

  pub cert_piece : (c : Certificate) (others rest : List Certificate) (old mid new : List Bind) → rest ≡ c ∷ others
      → AddsPiece network roots wanted after count (pairs_of c) old mid → AddsPiece network roots wanted after count
      (pairs_of_all others) mid new → AddsPiece network roots wanted after count (pairs_of_all rest) old new
  cert_piece c others rest old mid new e h g =
      subst (λ (cs : List Certificate). AddsPiece network roots wanted after count (pairs_of_all cs) old new) (sym e)
      (joined_piece (pairs_of c) (pairs_of_all others) old mid new h g)

  -- ---- what stands before the place

  before_place : (from : Option Place) (fpr : Fpr) (uid : List ℕ) → is_from (fpr_at from) fpr ≡ false →
      comes_after from (fpr, uid) ≡ false
  before_place None fpr uid e = absurd cc
  before_place (Some place) fpr uid e = by (fpr_cmp place.fpr fpr) (fpr_cmp fpr place.fpr)
      (fpr_total.antisymm fpr place.fpr) e
    where
      by : (o p : Ordering) → p ≡ ordering_reverse o → is_le o ≡ false →
          is_gt (ordering_then p (slice_cmp nat_cmp uid place.uid)) ≡ false
      by Less p f g = absurd cc
      by Equal p f g = absurd cc
      by Greater p f g = subst (λ (r : Ordering). is_gt (ordering_then r (slice_cmp nat_cmp uid place.uid)) ≡ false)
          (sym f) refl

  missed_all : (fpr : Fpr) (uids : List Component) (binds : List Bind) → is_from (fpr_at after) fpr ≡ false →
      IsListed network roots wanted (map (pair_of fpr) uids) binds → binds_after after binds ≡ []
  missed_all fpr [] binds off h = ap (binds_after after) (walked network roots wanted [] binds h)
  missed_all fpr (uid ∷ uids) binds off h =
      let s = split network roots wanted (pair_of fpr uid ∷ []) (map (pair_of fpr) uids) binds h in
      ap (binds_after after) s.4 ∙ after_joined s.0 s.1
      ∙ ap (λ (bs : List Bind). bs ++ binds_after after s.1)
      (missed_none (pair_of fpr uid) s.0 (before_place after fpr uid.body off) s.2)
      ∙ missed_all fpr uids s.1 off s.3

  -- What comes after the place in the list of all is what comes after it in the list of those from the place's
  -- fingerprint on.
  from_there : (entries : Entries) (all : List Bind) → IsListed network roots wanted (pairs_in (stripped entries)) all
      → (binds : List Bind) × IsListed network roots wanted (pairs_in (stripped (entries_from (fpr_at after) entries)))
      binds × (binds_after after binds ≡ binds_after after all)
  from_there [] all h = (all, h, refl)
  from_there (x ∷ entries) all h =
      let s = split network roots wanted (map (pair_of x.0) x.1.cert.user_ids) (pairs_in (stripped entries)) all h in
      let r = from_there entries s.1 s.3 in
      by (is_from (fpr_at after) x.0) refl s.0 s.1 s.2 s.4 r
    where
      by : (b : Bool) → is_from (fpr_at after) x.0 ≡ b → (front back : List Bind) →
          IsListed network roots wanted (map (pair_of x.0) x.1.cert.user_ids) front → all ≡ front ++ back
          → ((binds : List Bind) × IsListed network roots wanted
          (pairs_in (stripped (entries_from (fpr_at after) entries))) binds × (binds_after after binds ≡ binds_after
          after back))
          → (binds : List Bind) × IsListed network roots wanted
          (pairs_in (stripped (cond b (x ∷ entries_from (fpr_at after) entries)
          (entries_from (fpr_at after) entries)))) binds × (binds_after after binds ≡ binds_after after all)
      by true t front back l e r = (
        front ++ r.0,
        joined network roots wanted (map (pair_of x.0) x.1.cert.user_ids)
            (pairs_in (stripped (entries_from (fpr_at after) entries))) front r.0 l r.1,
        after_joined front r.0 ∙ ap (λ (bs : List Bind). binds_after after front ++ bs) r.2
            ∙ sym (after_joined front back) ∙ ap (binds_after after) (sym e),
      )
      by false t front back l e r = (
        r.0,
        r.1,
        r.2 ∙ ap (λ (bs : List Bind). bs ++ binds_after after back) (sym (missed_all x.0 x.1.cert.user_ids front t l))
            ∙ sym (after_joined front back) ∙ ap (binds_after after) (sym e),
      )

  named_from : (entries : Entries) → AreNamed entries → AreNamed (entries_from (fpr_at after) entries)
  named_from [] h = h
  named_from (x ∷ entries) h = by (named_from entries h.1) (is_from (fpr_at after) x.0)
    where
      by : AreNamed (entries_from (fpr_at after) entries) → (b : Bool) →
          AreNamed (cond b (x ∷ entries_from (fpr_at after) entries) (entries_from (fpr_at after) entries))
      by rest true = (h.0, rest)
      by rest false = rest

  -- The piece that the walk from the place on makes, starting from nothing.
  pub the_piece : (entries : Entries) → AreNamed entries → (certs : List Certificate) →
      certs ≡ map (λ (e : Fpr × Kept). e.1.cert) (entries_from (fpr_at after) entries) → (old new : List Bind) →
      old ≡ []
      → AddsPiece network roots wanted after count (pairs_of_all certs) old new →
      IsThePiece network roots wanted (pairs_in (stripped entries)) after count new
  the_piece entries named certs e old new none a all h =
      let r = from_there entries all h in
      let pairs = ap pairs_of_all e ∙ pairs_named (entries_from (fpr_at after) entries) (named_from entries named) in
      a [] r.0 (none ∙ sym (take_all count [] (omega arith)))
      (subst (λ (ps : List Pair). IsListed network roots wanted ps r.0) (sym pairs) r.1) ∙ ap (take count) r.2
