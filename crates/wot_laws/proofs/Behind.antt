-- Consecutive pieces of a sorted list, concatenated, are the list from the first binding on.
use Rattle.std.proofs.Common.{◌≡◌, ◌⊎◌, inl, inr, ℕ, ◌<◌, Bool, true, false, List, [], ◌∷◌, ◌++◌, length, map, take}
use Rattle.std.proofs.Common.{drop, Option, Some, None, refl, sym, ap, subst, ◌∙◌, arith, append_assoc, append-nil}
use Rattle.std.proofs.Common.{take-append-drop}
use Rattle.std.proofs.Math.ListN.{drop_of_length-le}
use Rattle.std.specs.Prelude.{◌||◌, nat_lt}
use Rattle.std.specs.declared.cmp.Ordering.TheVariants.{Less}
use Rattle.std.proofs.lemmas.Bool.{ltb-true}
use Rattle.std.proofs.lemmas.Cmp.{tied_itself}
use Rattle.std.proofs.lemmas.Grind.{flat_map-append}
use Rattle.std.proofs.lemmas.List.{length-map, length-take, map-append}
use Rattle.std.proofs.lemmas.List.Folds.{list_any-append}
use Rattle.wot_types.specs.declared.place.Place.{Place}
use Rattle.wot_component.specs.Ranked.{IsBelow, IsRising}
use Rattle.wot_reply_lines.specs.declared.lines.BindLine.{BindLine}
use Rattle.wot_explain.specs.declared.bind.Bind.{Bind}
use Rattle.wot_explain.specs.Piece.{binds_after, piece_of}
use Rattle.wot_laws.specs.Joined.{Given, has_end, joined}
use Rattle.wot_plain.specs.Listing.{bind_line}
use Rattle.wot_plain.specs.Pacing.{last_place, bind_place}
use Rattle.wot_plain.proofs.Entries.{above_is}
use Rattle.wot_laws.proofs.SortedStates.{bind_cmp, bind_total}

-- ---- what follows a binding of the list

all_after : (b : Bind) (binds : List Bind) → IsBelow bind_cmp b binds → binds_after (Some (bind_place b)) binds ≡ binds
all_after b [] all = refl
all_after b (x ∷ xs) all = rw (above_is bind_cmp bind_total b x all.0)
    (ap (λ (ys : List Bind). x ∷ ys) (all_after b xs all.1))

first_below : (x b : Bind) (xs back : List Bind) → IsBelow bind_cmp x (xs ++ b ∷ back) → bind_cmp x b ≡ Less
first_below x b [] back all = all.0
first_below x b (y ∷ ys) back all = first_below x b ys back all.1

after_it : (front : List Bind) (b : Bind) (back : List Bind) → IsRising bind_cmp (front ++ b ∷ back)
    → binds_after (Some (bind_place b)) (front ++ b ∷ back) ≡ back
after_it [] b back r = rw (tied_itself bind_total b) (all_after b back r.0)
after_it (x ∷ xs) b back r = rw (first_below x b xs back r.0) (after_it xs b back r.1)

-- ---- the last of some bindings

record HasLast (x : Bind) (xs : List Bind) : Type 0 where
  front : List Bind
  last : Bind
  parts : x ∷ xs ≡ front ++ last ∷ []
  place : last_place x xs ≡ bind_place last

has_last : (x : Bind) (xs : List Bind) → HasLast x xs
has_last x [] = record { front = []; last = x; parts = refl; place = refl }
has_last x (y ∷ ys) =
    let rest = has_last y ys in
    record {
      front = x ∷ rest.front;
      last = rest.last;
      parts = ap (λ (zs : List Bind). x ∷ zs) rest.parts;
      place =
          rest.place;
    }

after_last : (front : List Bind) (x : Bind) (xs back all : List Bind) → all ≡ front ++ ((x ∷ xs) ++ back)
    → IsRising bind_cmp all
    → binds_after (Some (last_place x xs)) all ≡ back
after_last front x xs back all parts r =
    let l = has_last x xs in
    let whole : all ≡ (front ++ l.front) ++ l.last ∷ back =
    parts ∙ ap (λ (ys : List Bind). front ++ (ys ++ back)) l.parts ∙ ap (λ (ys : List Bind). front ++ ys)
    (append_assoc l.front (l.last ∷ []) back)
    ∙ sym (append_assoc front l.front (l.last ∷ back)) in
    ap (λ (place : Place). binds_after (Some place) all) l.place
    ∙ ap (λ (ys : List Bind). binds_after (Some (bind_place l.last)) ys) whole
    ∙ after_it (front ++ l.front) l.last back (subst (IsRising bind_cmp) whole r)

-- ---- how far a cursor has come

-- What was returned is the list up to the cursor's place. Nothing follows once a piece was shorter than asked for.
pub record HasCome (all : List Bind) (place : Option Place) (given : List Given) : Type 0 where
  pub front : List Bind
  pub parts : all ≡ front ++ binds_after place all
  pub lines : map bind_line front ≡ joined given
  pub whole : has_end given ≡ true → binds_after place all ≡ []

all_of : (binds : List Bind) → binds_after None binds ≡ binds
all_of [] = refl
all_of (b ∷ binds) = ap (λ (ys : List Bind). b ∷ ys) (all_of binds)

pub at_first : (all : List Bind) → HasCome all None []
at_first all = record { front = []; parts = sym (all_of all); lines = refl; whole = λ e. absurd (cc e) }

-- the cursor's place after it returned these bindings
abbrev pub place_behind : Option Place → List Bind → Option Place
place_behind place [] = place
place_behind place (b ∷ binds) = Some (last_place b binds)

ended : (given : List Given) (g : Given) → has_end (given ++ g ∷ []) ≡ true
    → (has_end given ≡ true) ⊎ (length g.binds < g.asked)
ended given g e = by (has_end given) (nat_lt (length g.binds) g.asked) refl
    (sym (list_any-append (λ (x : Given). nat_lt (length x.binds) x.asked) given (g ∷ [])) ∙ e)
  where
    by : (b c : Bool) → nat_lt (length g.binds) g.asked ≡ c → (b || (c || false)) ≡ true
        → (b ≡ true) ⊎ (length g.binds < g.asked)
    by true c f e = inl refl
    by false true f e = inr (ltb-true (length g.binds) g.asked f)
    by false false f e = absurd (cc e)

all_given : (given : List Given) (g : Given) → joined (given ++ g ∷ []) ≡ joined given ++ g.binds
all_given given g =
    flat_map-append (λ (x : Given). x.binds) given (g ∷ []) ∙ ap (λ (ys : List BindLine). joined given ++ ys)
    (append-nil g.binds)

-- if a piece is shorter than asked for, nothing is left
none_left : (count : ℕ) (back : List Bind) → length (take count back) < count → drop count back ≡ []
none_left count back short = drop_of_length-le back (omega (arith, short, length-take count back))

-- the next piece
module _ (all : List Bind) (place : Option Place) (given : List Given) (count : ℕ) (r : IsRising bind_cmp all)
    (h : HasCome all place given) where
  back : List Bind
  back = binds_after place all

  piece_given : List Bind → Given
  piece_given p = record { asked = count; binds = map bind_line p }

  short : (p : List Bind) → take count back ≡ p → length (map bind_line p) < count → drop count back ≡ []
  unfolding back
  short p e few = none_left count back (omega (arith, few, length-map p bind_line, ap length e))

  after_piece : (p : List Bind) → take count back ≡ p → HasCome all (place_behind place p) (given ++ piece_given p ∷ [])
  unfolding back piece_given
  after_piece [] e = record {
    front = h.front;
    parts = h.parts;
    lines = h.lines ∙ sym (append-nil (joined given)) ∙ sym (all_given given (piece_given []));
    whole = λ f. by (ended given (piece_given []) f);
  }
    where
      by : (has_end given ≡ true) ⊎ (0 < count) → back ≡ []
      by (inl f) = h.whole f
      by (inr few) = sym (take-append-drop count back) ∙ ap (λ (ys : List Bind). ys ++ drop count back) e
          ∙ short [] e few
  after_piece (x ∷ xs) e =
      let parts : back ≡ (x ∷ xs) ++ drop count back = sym (take-append-drop count back)
      ∙ ap (λ (ys : List Bind). ys ++ drop count back) e in
      let whole : all ≡ h.front ++ ((x ∷ xs) ++ drop count back) = h.parts ∙ ap (λ (ys : List Bind). h.front ++ ys)
      parts in
      let after : binds_after (Some (last_place x xs)) all ≡ drop count back =
      after_last h.front x xs (drop count back) all whole r in
      record {
        front = h.front ++ (x ∷ xs);
        parts = whole ∙ sym (append_assoc h.front (x ∷ xs) (drop count back))
            ∙ ap (λ (ys : List Bind). (h.front ++ (x ∷ xs)) ++ ys) (sym after);
        lines = map-append bind_line h.front (x ∷ xs) ∙ ap (λ (ys : List BindLine). ys ++ map bind_line (x ∷ xs))
            h.lines ∙ sym (all_given given (piece_given (x ∷ xs)));
        whole = λ f. after ∙ by parts (ended given (piece_given (x ∷ xs)) f);
      }
    where
      by : back ≡ (x ∷ xs) ++ drop count back → (has_end given ≡ true) ⊎ (length (map bind_line (x ∷ xs)) < count)
          → drop count back ≡ []
      by parts (inl f) = let never : [] ≡ (x ∷ xs) ++ drop count back = sym (h.whole f) ∙ parts in absurd (cc never)
      by parts (inr few) = short (x ∷ xs) e few

  pub next_piece : HasCome all (place_behind place (piece_of place count all)) (given ++ record {
    asked = count;
    binds =
        map bind_line (piece_of place count all);
  } ∷ [])
  unfolding back piece_given
  next_piece = after_piece (piece_of place count all) refl
