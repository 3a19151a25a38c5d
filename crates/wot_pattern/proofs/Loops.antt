-- One turn of the second pass's loop.
use Rattle.std.specs.Prelude.{◌≡◌, ℕ, zero, suc, ◌-◌, ◌<◌, ◌≤◌, Bool, true, List, [], ◌∷◌, length}
use Rattle.std.proofs.Common.{sym, ap, ◌∙◌, arith, get_or, take, drop, set, add-one, get_or-take}
use Rattle.std.proofs.Math.Seq.{drop-cons}
use Rattle.std.proofs.lemmas.List.{drop-set, take-set-le, take-take}
use Rattle.wot_pattern.specs.declared.flow.Flow.{Flow}
use Rattle.wot_pattern.specs.declared.node.Node.{Node}
use Rattle.wot_pattern.specs.Nodes.{token_of, tokens_of}
use Rattle.wot_pattern.specs.Passes.{no_flow, advanced_one, advanced}

pub pair_is : {A B : Type 0} (x y : A) (u v : B) → x ≡ y → u ≡ v → ◌≡◌ {A = A × B} (x, u) (y, v)
pair_is {A} {B} x y u v e f = let P : A → A × B = λ z. (z, u) in let Q : B → A × B = λ z. (y, z) in ap P e ∙ ap Q f

back :
    (c k : ℕ) (nodes : List Node) (n : Node) (slots slots₀ : List Flow) (st : List Bool)
    → k < length nodes → length slots ≡ length nodes → length slots₀ ≡ length nodes → n ≡ get_or nodes k n
    → take (suc k) slots ≡ take (suc k) slots₀
    → advanced c (tokens_of (drop (suc k) nodes)) (drop (suc k) slots₀) (true ∷ []) ≡ (drop (suc k) slots, st)
    → (r : Flow × List Bool) → r ≡ advanced_one c (token_of n) (get_or slots k no_flow) st
    → advanced c (tokens_of (drop k nodes)) (drop k slots₀) (true ∷ []) ≡ (drop k (set slots k r.0), r.1)
back c k nodes n slots slots₀ st l e e₀ is same run r r_is =
    let l' : k < length slots = omega arith in
    let l₀ : k < length slots₀ = omega arith in
    let f : Flow = get_or slots k no_flow in
    let at : f ≡ get_or slots₀ k no_flow =
    sym (get_or-take (suc k) slots k no_flow (omega arith)) ∙ ap (λ x. get_or x k no_flow) same
    ∙ get_or-take (suc k) slots₀ k no_flow (omega arith) in
    let e1 : drop k nodes ≡ n ∷ drop (suc k) nodes =
    drop-cons nodes k n l ∙ ap (λ x. x ∷ drop (suc k) nodes) (sym is) in
    let e2 : drop k slots₀ ≡ f ∷ drop (suc k) slots₀ =
    drop-cons slots₀ k no_flow l₀ ∙ ap (λ x. x ∷ drop (suc k) slots₀) (sym at) in
    let e3 : drop k (set slots k r.0) ≡ r.0 ∷ drop (suc k) slots =
    drop-set slots k r.0 l' ∙ ap (λ x. r.0 ∷ drop x slots) (add-one k) in
    ap (λ x. advanced c (tokens_of x) (drop k slots₀) (true ∷ [])) e1
    ∙ ap (λ x. advanced c (token_of n ∷ tokens_of (drop (suc k) nodes)) x (true ∷ [])) e2
    ∙ ap (λ (x : List Flow × List Bool).
    ((advanced_one c (token_of n) f x.1).0 ∷ x.0, (advanced_one c (token_of n) f x.1).1)) run
    ∙ ap (λ (x : Flow × List Bool). (x.0 ∷ drop (suc k) slots, x.1)) (sym r_is)
    ∙ ap (λ x. (x, r.1)) (sym e3)

pub advanced_back :
    (c at : ℕ) (nodes : List Node) (n : Node) (slots slots₀ : List Flow) (st : List Bool)
    → 0 < at → at ≤ length nodes → length slots ≡ length nodes → length slots₀ ≡ length nodes
    → n ≡ get_or nodes (at - 1) n → take at slots ≡ take at slots₀
    → advanced c (tokens_of (drop at nodes)) (drop at slots₀) (true ∷ []) ≡ (drop at slots, st)
    → (f : Flow) (st' : List Bool)
    → f ≡ (advanced_one c (token_of n) (get_or slots (at - 1) no_flow) st).0
    → st' ≡ (advanced_one c (token_of n) (get_or slots (at - 1) no_flow) st).1
    → advanced c (tokens_of (drop (at - 1) nodes)) (drop (at - 1) slots₀)
    (true ∷ []) ≡ (drop (at - 1) (set slots (at - 1) f), st')
advanced_back c zero nodes n slots slots₀ st p l e e₀ is same run f st' f_is st_is = absurd (omega arith)
advanced_back c (suc k) nodes n slots slots₀ st p l e e₀ is same run f st' f_is st_is =
    let q : suc k - 1 ≡ k = omega arith in
    rw q (back c k nodes n slots slots₀ st (omega arith) e e₀ (rw q at is) same run (f, st')
    (rw q at (pair_is f (advanced_one c (token_of n) (get_or slots (suc k - 1) no_flow) st).0 st'
    (advanced_one c (token_of n) (get_or slots (suc k - 1) no_flow) st).1 f_is st_is)))

pub take_back :
    (at : ℕ) (slots slots₀ : List Flow) (f : Flow) → 0 < at → take at slots ≡ take at slots₀
    → take (at - 1) (set slots (at - 1) f) ≡ take (at - 1) slots₀
take_back at slots slots₀ f p e =
    take-set-le (at - 1) slots (at - 1) f (omega arith)
    ∙ sym (take-take (at - 1) at slots (omega arith)) ∙ ap (take (at - 1)) e
    ∙ take-take (at - 1) at slots₀ (omega arith)
