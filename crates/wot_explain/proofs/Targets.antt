-- The target's word is 0 if and only if the target is in order.
use Rattle.std.proofs.Common.{◌≡◌, ℕ, Bool, true, not, ◌&&◌, refl, arith}
use Rattle.std.specs.Prelude.{nat_le, is_some}
use Rattle.std.proofs.lemmas.Bool.{and_parts}
use Rattle.wot_standing.specs.declared.status.Standing.{Standing}
use Rattle.wot_standing.specs.Usable.{is_after, is_key_in_order}
use Rattle.wot_explain.specs.Target.{target_words, target_word}
use Rattle.wot_explain.proofs.Clear.{none_where, zero_of_none, holds, fails, fallen, not_before, not_after}

pub in_order_where : (s : Standing) (t : ℕ) (revoked : Bool) → target_word s t revoked ≡ 0 →
    (is_key_in_order s t && not revoked) ≡ true
in_order_where s t revoked h =
    let none = none_where (target_words s t revoked) (
      omega arith,
      (omega arith, (omega arith, (omega arith, (omega arith, (omega arith, tt))))),
    ) h in
    let has = holds s.has none.0 in
    let created = not_before t s.created none.1.0 in
    let end = holds (is_after t s.end) none.1.1.0 in
    let hard = none.1.1.1.0 in
    let soft = none.1.1.1.1.0 in
    let uid = none.1.1.1.1.1.0 in
    rw (has, created, end, hard, soft, uid) refl

pub word_where : (s : Standing) (t : ℕ) (revoked : Bool) → (is_key_in_order s t && not revoked) ≡ true →
    target_word s t revoked ≡ 0
word_where s t revoked h =
    let both = and_parts (is_key_in_order s t) (not revoked) h in
    let u1 = and_parts s.has (nat_le s.created t && (is_after t s.end && (not s.hard && not (is_some s.soft))))
    both.0 in
    let u2 = and_parts (nat_le s.created t) (is_after t s.end && (not s.hard && not (is_some s.soft))) u1.1 in
    let u3 = and_parts (is_after t s.end) (not s.hard && not (is_some s.soft)) u2.1 in
    let u4 = and_parts (not s.hard) (not (is_some s.soft)) u3.1 in
    zero_of_none (target_words s t revoked) (
      fails s.has u1.0,
      (
        not_after t s.created u2.0,
        (
          fails (is_after t s.end) u3.0,
          (fallen s.hard u4.0, (fallen (is_some s.soft) u4.1, (fallen revoked both.1, tt))),
        ),
      ),
    )
