-- Laws of answers by cases: a fact of the Ok, or of the Some, from others. For the proofs of this crate and of those
-- above it.
use Rattle.std.proofs.Common.{Option, Some, None, Result, Ok, Err}
use Rattle.std.specs.Prelude.{IfOk, IfSome}

pub if_ok : {A E : Type 0} (r : Result A E) (P Q : A → Type 0) → ((a : A) → P a → Q a) → IfOk r P → IfOk r Q
if_ok (Ok a) P Q step p = step a p
if_ok (Err e) P Q step p = tt

pub if_some : {A : Type 0} (o : Option A) (P Q : A → Type 0) → ((a : A) → P a → Q a) → IfSome o P → IfSome o Q
if_some None P Q step p = tt
if_some (Some a) P Q step p = step a p

pub both_some : {A : Type 0} (o : Option A) (P Q R : A → Type 0) → ((a : A) → P a → Q a → R a) → IfSome o P → IfSome o Q
    → IfSome o R
both_some None P Q R step p q = tt
both_some (Some a) P Q R step p q = step a p q

pub both_ok : {A E : Type 0} (r : Result A E) (P Q R : A → Type 0) → ((a : A) → P a → Q a → R a) → IfOk r P → IfOk r Q →
    IfOk r R
both_ok (Ok a) P Q R step p q = step a p q
both_ok (Err e) P Q R step p q = tt
