-- Texts that are appended one after another.
use Rattle.std.proofs.Common.{◌≡◌, ℕ, List, [], ◌++◌, Result, Ok, Err, IsErrAnd, sym, ap, ◌∙◌, subst, append_assoc}
use Rattle.std.proofs.Common.{append-nil}
use Rattle.std.proofs.lemmas.Result.{on_ok_weaker}
use Rattle.wot_component.specs.Text.{Appends}

-- After success, all of the text is there.
pub all_of : {A : Type 0} (f : A → List ℕ) (a b more : List ℕ) (x y : A) → x ≡ y → b ≡ a ++ more → more ≡ f x
    → b ≡ a ++ f y
all_of f a b more x y n e h = e ∙ ap (λ text. a ++ text) (h ∙ ap f n)

module _ {T E : Type 0} where
  -- After a text, another one is appended.
  pub appends_then : (r : Result T E) (a b c s t : List ℕ) → b ≡ a ++ s → Appends r b c t → Appends r a c (s ++ t)
  appends_then r a b c s t e p = (
    s ++ p.0,
    p.1 ∙ ap (λ front. front ++ p.0) e ∙ append_assoc a s p.0,
    on_ok_weaker r (λ h. ap (λ more. s ++ more) h) p.2,
  )

  -- After an error, some text is there.
  pub some_of : (r : Result T E) (Q : E → Type 0) (a b all : List ℕ) → IsErrAnd r Q → (more : List ℕ) → b ≡ a ++ more
      → Appends r a b all
  some_of (Ok done) Q a b all h more e = absurd h
  some_of (Err error) Q a b all h more e = (more, e, tt)

  pub none_of : (r : Result T E) (Q : E → Type 0) (a b all : List ℕ) → IsErrAnd r Q → b ≡ a → Appends r a b all
  none_of r Q a b all h e = some_of r Q a b all h [] (e ∙ sym (append-nil a))

  pub another_name : {A : Type 0} (f : A → List ℕ) (r : Result T E) (a b : List ℕ) (x y : A) → x ≡ y
      → Appends r a b (f x) → Appends r a b (f y)
  another_name f r a b x y e p = subst (λ z. Appends r a b (f z)) e p

  -- Three texts in a row, the last two of them as one.
  pub regrouped : (r : Result T E) (a b s p q t : List ℕ) → Appends r a b (s ++ (p ++ q ++ t))
      → Appends r a b (s ++ p ++ q ++ t)
  regrouped r a b s p q t h =
      subst (λ text. Appends r a b text)
      (sym (append_assoc s (p ++ q) t) ∙ ap (λ front. front ++ t) (sym (append_assoc s p q))) h

-- One text after another.
pub in_a_row : (a b c s t : List ℕ) → b ≡ a ++ s → c ≡ b ++ t → c ≡ a ++ (s ++ t)
in_a_row a b c s t e f = f ∙ ap (λ front. front ++ t) e ∙ append_assoc a s t

-- After one text, an error.
pub some_after : {T E : Type 0} (r : Result T E) (Q : E → Type 0) (a b c s all : List ℕ) → IsErrAnd r Q → b ≡ a ++ s
    → (more : List ℕ) → c ≡ b ++ more → Appends r a c all
some_after r Q a b c s all h e more f = some_of r Q a c all h (s ++ more) (in_a_row a b c s more e f)
