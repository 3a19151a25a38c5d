-- On which certificate a signature is, by a row of slots and a tree: what they have for each number after a change at
-- one of them.
use Rattle.std.proofs.Common.{◌≡◌, ◌++◌, ◌||◌, Bool, true, false, cond, [], Option, Some, None, sym, ap, ◌∙◌, refl}
use Rattle.std.specs.List.{list_any}
use Rattle.std.specs.Map.{keys_of, lookup}
use Rattle.std.specs.Option.{option_map, option_or}
use Rattle.std.proofs.lemmas.List.Folds.{list_any-append}
use Rattle.wot_types.specs.declared.fpr.Fpr.{Fpr}
use Rattle.wot_types.specs.declared.number.SigNumber.{SigNumber}
use Rattle.wot_slots.specs.declared.slots.Slots.{Slots}
use Rattle.wot_slots.specs.Above.{numbers_in}
use Rattle.wot_slots.specs.Near.{held_of}
use Rattle.wot_slots.proofs.Listed.{AreSorted, all_listed, found_listed, in_rest, same_entries, sorted_listed}
use Rattle.wot_slots.proofs.Listed.{sorted_none}
use Rattle.wot_slots.proofs.Numbers.{same_number}
use Rattle.wot_verdict.specs.declared.noted.Noted.{Noted}
use Rattle.wot_verdict.specs.declared.noted.Short.{Short}
use Rattle.wot_verdict.specs.Kept.{SameShorts, by_number, full, holder_in, holders_in, short_in, shorts_in}
use Rattle.wot_verdict.specs.Kept.{verdicts_in}
use Rattle.wot_verdict.specs.Verdicts.{Holders, HoldsAt, holder_at, is_number}

module _ (short : SigNumber → Option Short) (long : Holders) (number : SigNumber) where
  pub absent_short : holder_in short long number ≡ None → short number ≡ None
  absent_short h = by (short number) refl h
    where
      by : (o : Option Short) → short number ≡ o →
          option_or (option_map full o) (lookup (is_number number) long) ≡ None → short number ≡ None
      by None e k = e
      by (Some octets) e k = absurd cc

  -- A fingerprint of version 4 was put into the row.
  pub put_short : (short' : SigNumber → Option Short) (octets : Short) (fpr : Fpr) → full octets ≡ fpr →
      ((q : SigNumber) → short' q ≡ cond (is_number number q) (Some octets) (short q)) → (q : SigNumber) →
      holder_in short' long q ≡ cond (is_number number q) (Some fpr) (holder_in short long q)
  put_short short' octets fpr is put q =
      ap (λ o. option_or (option_map full o) (lookup (is_number q) long)) (put q) ∙ by (is_number number q)
    where
      by : (b : Bool) →
          option_or (option_map full (cond b (Some octets) (short q))) (lookup (is_number q) long)
          ≡ cond b (Some fpr) (holder_in short long q)
      by true = ap (λ (f : Fpr). Some f) is
      by false = refl

  -- A fingerprint was put into the tree.
  pub put_long : (long' : Holders) (fpr : Fpr) → short number ≡ None →
      ((q : SigNumber) →
      lookup (is_number q) long' ≡ cond (is_number number q) (Some fpr) (lookup (is_number q) long)) →
      (q : SigNumber) → holder_in short long' q ≡ cond (is_number number q) (Some fpr) (holder_in short long q)
  put_long long' fpr absent put q =
      ap (option_or (option_map full (short q))) (put q) ∙ by (is_number number q) refl
    where
      by : (b : Bool) → is_number number q ≡ b →
          option_or (option_map full (short q)) (cond b (Some fpr) (lookup (is_number q) long))
          ≡ cond b (Some fpr) (holder_in short long q)
      by true t =
          ap (λ o. option_or (option_map full o) (Some fpr)) (ap short (sym (same_number number q t)) ∙ absent)
      by false t = refl

  -- The number was removed from both.
  pub gone_from_both : (short' : SigNumber → Option Short) (long' : Holders) →
      ((q : SigNumber) → short' q ≡ cond (is_number number q) None (short q)) →
      ((q : SigNumber) → lookup (is_number q) long' ≡ cond (is_number number q) None (lookup (is_number q) long)) →
      (q : SigNumber) → holder_in short' long' q ≡ cond (is_number number q) None (holder_in short long q)
  gone_from_both short' long' less out q =
      (λ i. option_or (option_map full (less q i)) (out q i)) ∙ by (is_number number q)
    where
      by : (b : Bool) → option_or (option_map full (cond b None (short q))) (cond b None (lookup (is_number q) long))
          ≡ cond b None (holder_in short long q)
      by true = refl
      by false = refl

-- ---- both as one list

module _ (held : Slots Noted) (long : Holders) where
  -- A number that has a certificate is one of those in the row and in the tree.
  holder_listed : (q : SigNumber) (fpr : Fpr) → holder_in (shorts_in held) long q ≡ Some fpr →
      list_any (is_number q) (numbers_in held.near.items held.rest.entries ++ keys_of long) ≡ true
  holder_listed q fpr h =
      list_any-append (is_number q) (numbers_in held.near.items held.rest.entries) (keys_of long)
      ∙ by (held_of held q) refl h
    where
      far : (a b : Bool) → b ≡ true → (a || b) ≡ true
      far true b e = refl
      far false b e = e

      by : (o : Option Noted) → held_of held q ≡ o →
          option_or (option_map full (short_in o)) (lookup (is_number q) long) ≡ Some fpr →
          (list_any (is_number q) (numbers_in held.near.items held.rest.entries)
          || list_any (is_number q) (keys_of long)) ≡ true
      by None e k = far _ _ (in_rest long q fpr k)
      by (Some noted) e k =
          ap (λ b. b || list_any (is_number q) (keys_of long))
          (all_listed held.near.items held.rest.entries q noted e)

  pub holder_found : (q : SigNumber) → holder_at (holders_in held long) q ≡ holder_in (shorts_in held) long q
  holder_found q =
      found_listed (holder_in (shorts_in held) long) (numbers_in held.near.items held.rest.entries ++ keys_of long) q
      ∙ by (holder_in (shorts_in held) long q) refl
    where
      neither : (d : Bool) → ◌≡◌ {A = Option Fpr} (cond d None None) None
      neither true = refl
      neither false = refl

      by : (o : Option Fpr) → holder_in (shorts_in held) long q ≡ o →
          cond (list_any (is_number q) (numbers_in held.near.items held.rest.entries ++ keys_of long)) o None ≡ o
      by None e = neither (list_any (is_number q) (numbers_in held.near.items held.rest.entries ++ keys_of long))
      by (Some fpr) e = ap (λ d. cond d (Some fpr) None) (holder_listed q fpr e)

  pub absent_both : (q : SigNumber) → holder_at (holders_in held long) q ≡ None → shorts_in held q ≡ None
  absent_both q none = absent_short (shorts_in held) long q (sym (holder_found q) ∙ none)

  -- The certificate is in the row.
  pub found_near : (q : SigNumber) (short : Short) → Some short ≡ shorts_in held q →
      Some (full short) ≡ holder_at (holders_in held long) q
  found_near q short is =
      ap (λ o. option_or (option_map full o) (lookup (is_number q) long)) is ∙ sym (holder_found q)

  -- It isn't in the row.
  pub found_far : (q : SigNumber) → None ≡ shorts_in held q →
      lookup (is_number q) long ≡ holder_at (holders_in held long) q
  found_far q is = ap (λ o. option_or (option_map full o) (lookup (is_number q) long)) is ∙ sym (holder_found q)

  pub sorted_holders : AreSorted (holders_in held long)
  sorted_holders =
      sorted_listed (holder_in (shorts_in held) long) (numbers_in held.near.items held.rest.entries ++ keys_of long)

module _ (old new : Slots Noted) (long long' : Holders) where
  -- One number has another certificate now, or none.
  pub holds_at : (number : SigNumber) (w : Option Fpr) → ((q : SigNumber) → holder_in (shorts_in new) long' q
      ≡ cond (is_number number q) w (holder_in (shorts_in old) long q)) →
      HoldsAt number w (holders_in old long) (holders_in new long')
  holds_at number w put q =
      holder_found new long' q ∙ put q ∙ ap (cond (is_number number q) w) (sym (holder_found old long q))

  -- Each number has the certificate that it had.
  pub same_holders : SameShorts old new → long' ≡ long → holders_in new long' ≡ holders_in old long
  same_holders same tree =
      same_entries (holders_in new long') (holders_in old long) (sorted_holders new long') (sorted_holders old long)
      (λ q. holder_found new long' q
      ∙ (λ i. option_or (option_map full (same q i)) (lookup (is_number q) (tree i)))
      ∙ sym (holder_found old long q))

  -- Everything that is kept is as before.
  pub same_kept : verdicts_in new ≡ verdicts_in old → SameShorts old new → long' ≡ long →
      by_number new long' ≡ by_number old long
  same_kept verdicts same tree = λ i. record { entries = verdicts i; holders = same_holders same tree i }

-- Neither has anything.
pub nothing_held : (held : Slots Noted) (long : Holders) → ((n : SigNumber) → held_of held n ≡ None) → long ≡ [] →
    holders_in held long ≡ []
nothing_held held long none empty =
    same_entries (holders_in held long) [] (sorted_holders held long) sorted_none
    (λ q. holder_found held long q
    ∙ (λ i. option_or (option_map full (short_in (none q i))) (lookup (is_number q) (empty i))))
