use Rattle.std.proofs.Common.{◌≡◌, ◌∷◌, List, Some, length, refl, sym, ap, subst, ◌∙◌, arith}
use Rattle.wot_edge.specs.declared.path.Step.{Step}
use Rattle.wot_edge.specs.Path.{Distinct, issuers, start, path_amount}
use Rattle.wot_check.specs.Asked.{question_of, used_in}
use Rattle.wot_check.specs.Trace.{IsShown}
use Rattle.wot_check.proofs.ShownPaths.{no_steps, nothing_left, other_amount, twice, shown, none_is}
use Rattle.wot_check.proofs.show.path_by.Goals as goal

pub returns-in-None : goal.returns-in-None
returns-in-None c network good ok few items t =
    let q = question_of network c.args.asked.now in
    let none : length c.args.steps.items ≡ 0 = ap length (sym c.deref.ensures.value) ∙ c.in-None.ensures.cases in
    no_steps q (used_in c.args.asked.now) good items c.args.steps.items t c.args.amount
    (none_is c.args.steps.items none)

pub returns-then-left-eq0 : goal.returns-then-left-eq0
returns-then-left-eq0 c network good ok few items t =
    let q = question_of network c.args.asked.now in
    let used = used_in c.args.asked.now in
    let steps = c.args.steps.items in
    let root = c.in-Some.step.now.issuer in
    let whole : steps ≡ c.in-Some.step.now ∷ c.in-Some.field-0-1.now =
    sym c.deref.ensures.value ∙ c.in-Some.ensures.cases.0 in
    let begins : root ≡ start q.target steps = ap (λ (xs : List Step). start q.target xs) (sym whole) in
    let left : c.left_of_path-left.result ≡ path_amount q used steps =
    subst (λ (xs : List Step). root ≡ start q.target xs → c.left_of_path-left.result ≡ path_amount q used xs)
    c.deref-2.ensures.value (c.left_of_path-left.ensures network) begins in
    let zero = c.if-left-eq0.true in
    nothing_left q used good items steps t c.args.amount (omega (arith, left, zero))

pub returns-then-left-amount : goal.returns-then-left-amount
returns-then-left-amount c network good ok few items t =
    let q = question_of network c.args.asked.now in
    let used = used_in c.args.asked.now in
    let steps = c.args.steps.items in
    let root = c.in-Some.step.now.issuer in
    let whole : steps ≡ c.in-Some.step.now ∷ c.in-Some.field-0-1.now =
    sym c.deref.ensures.value ∙ c.in-Some.ensures.cases.0 in
    let begins : root ≡ start q.target steps = ap (λ (xs : List Step). start q.target xs) (sym whole) in
    let left : c.left_of_path-left.result ≡ path_amount q used steps =
    subst (λ (xs : List Step). root ≡ start q.target xs → c.left_of_path-left.result ≡ path_amount q used xs)
    c.deref-2.ensures.value (c.left_of_path-left.ensures network) begins in
    let other = c.if-left-amount.true in
    other_amount q used good items steps t c.args.amount (λ e. omega (arith, left, other, e))

pub returns-then-not-are_distinct : goal.returns-then-not-are_distinct
returns-then-not-are_distinct c network good ok few items t =
    let q = question_of network c.args.asked.now in
    twice q (used_in c.args.asked.now) good items c.args.steps.items t c.args.amount (λ d.
    let e = c.if-not-are_distinct.ensures.1
    (subst (λ (xs : List Step). Distinct (issuers xs)) (sym c.deref-3.ensures.value) d) in
    cc)

pub returns : goal.returns
returns c network good ok few items t =
    let q = question_of network c.args.asked.now in
    let used = used_in c.args.asked.now in
    let steps = c.args.steps.items in
    let root = c.in-Some.step.now.issuer in
    let whole : steps ≡ c.in-Some.step.now ∷ c.in-Some.field-0-1.now =
    sym c.deref.ensures.value ∙ c.in-Some.ensures.cases.0 in
    let begins : root ≡ start q.target steps = ap (λ (xs : List Step). start q.target xs) (sym whole) in
    let left : c.left_of_path-left.result ≡ path_amount q used steps =
    subst (λ (xs : List Step). root ≡ start q.target xs → c.left_of_path-left.result ≡ path_amount q used xs)
    c.deref-2.ensures.value (c.left_of_path-left.ensures network) begins in
    let some : length steps ≡ length (c.in-Some.step.now ∷ c.in-Some.field-0-1.now) = ap length whole in
    let zero = c.if-left-eq0.false in
    let same = c.if-left-amount.false in
    let distinct =
    subst (λ (xs : List Step). Distinct (issuers xs)) c.deref-3.ensures.value
    (c.if-not-are_distinct.ensures.0 refl) in
    subst (λ (xs : List Step). IsShown q used (record { amount = c.args.amount; steps = items })
    (Some (record { amount = c.args.amount; root = root; steps = xs }))) (sym c.new.ensures.items)
    (shown q used good items steps t c.args.amount ok (omega (arith, some)) few distinct (omega (arith, left, same))
    (omega (arith, zero, same)) root begins)
