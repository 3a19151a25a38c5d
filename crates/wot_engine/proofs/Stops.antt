-- The stop with which a run ended, and that a count of faults rose.
use Rattle.std.proofs.Common.{◌≡◌, ℕ, ◌≤◌, Result, Ok, Err, IsErrAnd, OnOk, sym, subst, arith}
use Rattle.wot_io.specs.Counts.{Rose}
use Rattle.wot_engine.specs.declared.run.Stop.{Stop}
use Rattle.wot_engine.specs.declared.run.Stop.TheVariants.{Read, Write, Memory, TooMuch}

-- the two stops differ
abbrev pub AreApart : Stop → Stop → Type 0
AreApart Read Read = ⊥
AreApart Write Write = ⊥
AreApart Memory Memory = ⊥
AreApart TooMuch TooMuch = ⊥
AreApart a b = Unit {0}

never_itself : (a : Stop) → AreApart a a → ⊥
never_itself Read h = h
never_itself Write h = h
never_itself Memory h = h
never_itself TooMuch h = h

module _ {T : Type 0} where
  -- an error that `?` returns
  pub stopped : (r : Result T Stop) (stop : Stop) → IsErrAnd r (λ (e : Stop). e ≡ stop) → r ≡ Err stop
  stopped (Ok value) stop h = absurd h
  stopped (Err e) stop h = cc

  -- a claim about success holds trivially of an error
  pub on_err : (r : Result T Stop) (stop : Stop) (P : Type 0) → r ≡ Err stop → OnOk r P
  on_err r stop P is = subst (λ (x : Result T Stop). OnOk x P) (sym is) tt

  -- what holds in any case holds if it succeeded
  pub always : {P : Type 0} (r : Result T Stop) → P → OnOk r P
  always (Ok value) p = p
  always (Err e) p = tt

  one_stop : (r : Result T Stop) (a b : Stop) → r ≡ Err a → r ≡ Err b → a ≡ b
  one_stop r a b e f = cc

  -- a run that ended with one stop didn't end with another
  pub never : (r : Result T Stop) (a b : Stop) → r ≡ Err a → AreApart a b → r ≡ Err b → ⊥
  never r a b e apart f = never_itself b (subst (λ (x : Stop). AreApart x b) (one_stop r a b e f) apart)

  -- a run that succeeded didn't stop
  pub never_ok : (r : Result T Stop) (value : T) (stop : Stop) → r ≡ Ok value → r ≡ Err stop → ⊥
  never_ok r value stop e f = absurd (cc (e, f))

-- a claim about success holds trivially of an error that `?` returns
pub unless_ok : {T E : Type 0} (r : Result T E) (Q : E → Type 0) (P : Type 0) → IsErrAnd r Q → OnOk r P
unless_ok (Ok value) Q P h = absurd h
unless_ok (Err e) Q P h = tt

-- a count rose if it rose at the end and never fell before
pub rose_on : (first mid last : ℕ) → first ≤ mid → mid ≤ last → Rose mid last → Rose first last
rose_on first mid last a b rose = λ lt. grind (arith, a, b, rose, lt)
