-- What each exit status says about the end of a run.
use Rattle.std.proofs.Common.{◌≡◌, ◌⊎◌, inl, inr, ℕ, List, Option, Some, None, Result, Ok, Err, OnOk, refl, sym, ap}
use Rattle.std.proofs.Common.{subst, ◌∙◌, rules, arith}
use Rattle.std.specs.Prelude.{IfErr, IfSome, IsErrOf}
use Rattle.wot_policy.specs.declared.rows.PolicyRows.{PolicyRows}
use Rattle.wot_engine.specs.declared.run.Stop.{Stop}
use Rattle.wot_engine.specs.declared.run.Stop.TheVariants.{Read, Write, Memory, TooMuch}
use Rattle.wot_engine.specs.Ends.{IsEither, status_at}
use Rattle.wot_engine.specs.Forms.{IsGenerated, OnGenerated}
use Rattle.wot_engine.specs.Generated.{SummaryBegun, Summarized}
use Rattle.wot_engine.specs.Source.{HasMost, ReadsFew}
use Rattle.wot_engine.proofs.Forms.{one_script}

reads_any : (left : Option (List ℕ)) (status : ℕ) → IsEither 0 5 status → ReadsFew left status
reads_any None status p = tt
reads_any (Some octets) status p = λ few. p

reads_most : (left : Option (List ℕ)) (status : ℕ) → HasMost left → ReadsFew left status
reads_most None status most = tt
reads_most (Some octets) status most = λ few. absurd (omega (arith, most, few))

-- the status is one of these
abbrev IsStatus : ℕ → Type 0
IsStatus n = (n ≡ 0) ⊎ (n ≡ 2) ⊎ (n ≡ 3) ⊎ (n ≡ 4) ⊎ (n ≡ 5) ⊎ (n ≡ 6)

module _ {T : Type 0} where
  pub is_done : (r : Result T Stop) (P : Type 0) → status_at r ≡ 0 → OnOk r P → P
  is_done (Ok value) P e p = p
  is_done (Err Read) P e p = absurd (omega (arith, e))
  is_done (Err Write) P e p = absurd (omega (arith, e))
  is_done (Err Memory) P e p = absurd (omega (arith, e))
  is_done (Err TooMuch) P e p = absurd (omega (arith, e))

  pub is_read : (r : Result T Stop) → status_at r ≡ 3 → IsErrOf r Read
  is_read (Ok value) e = absurd (omega (arith, e))
  is_read (Err Read) e = refl
  is_read (Err Write) e = absurd (omega (arith, e))
  is_read (Err Memory) e = absurd (omega (arith, e))
  is_read (Err TooMuch) e = absurd (omega (arith, e))

  pub is_write : (r : Result T Stop) → status_at r ≡ 4 → IsErrOf r Write
  is_write (Ok value) e = absurd (omega (arith, e))
  is_write (Err Read) e = absurd (omega (arith, e))
  is_write (Err Write) e = refl
  is_write (Err Memory) e = absurd (omega (arith, e))
  is_write (Err TooMuch) e = absurd (omega (arith, e))

  pub is_memory : (r : Result T Stop) → status_at r ≡ 5 → IsErrOf r Memory
  is_memory (Ok value) e = absurd (omega (arith, e))
  is_memory (Err Read) e = absurd (omega (arith, e))
  is_memory (Err Write) e = absurd (omega (arith, e))
  is_memory (Err Memory) e = refl
  is_memory (Err TooMuch) e = absurd (omega (arith, e))

  pub is_much : (r : Result T Stop) → status_at r ≡ 6 → IsErrOf r TooMuch
  is_much (Ok value) e = absurd (omega (arith, e))
  is_much (Err Read) e = absurd (omega (arith, e))
  is_much (Err Write) e = absurd (omega (arith, e))
  is_much (Err Memory) e = absurd (omega (arith, e))
  is_much (Err TooMuch) e = refl

  pub much_or_memory : (r : Result T Stop) (status : ℕ) → status ≡ status_at r → IsErrOf r TooMuch ⊎ IsErrOf r Memory →
      (status ≡ 6) ⊎ (status ≡ 5)
  much_or_memory r status is p = elim p [ inl e ↦ inl (is ∙ ap status_at e) | inr e ↦ inr (is ∙ ap status_at e) ]

  any : (r : Result T Stop) → IsStatus (status_at r)
  any (Ok value) = search rules
  any (Err Read) = search rules
  any (Err Write) = search rules
  any (Err Memory) = search rules
  any (Err TooMuch) = search rules

  pub any_status : (r : Result T Stop) (status : ℕ) → status ≡ status_at r → IsStatus status
  any_status r status is = subst IsStatus (sym is) (any r)

  pub not_two : (r : Result T Stop) (status : ℕ) → status ≡ status_at r → status ≡ 2 → ⊥
  not_two (Ok value) status is e = absurd (omega (arith, is, e))
  not_two (Err Read) status is e = absurd (omega (arith, is, e))
  not_two (Err Write) status is e = absurd (omega (arith, is, e))
  not_two (Err Memory) status is e = absurd (omega (arith, is, e))
  not_two (Err TooMuch) status is e = absurd (omega (arith, is, e))

  -- ---- a run in which nothing fails

  complete : (r : Result T Stop) (left : Option (List ℕ)) (form source sink : Type 0)
      → (IsErrOf r Read → source) → (IsErrOf r Write → sink) → (IsErrOf r TooMuch → HasMost left)
      → form × (source → ⊥) × (sink → ⊥) → ReadsFew left (status_at r)
  complete (Ok value) left form source sink read write much calm = reads_any left 0 (inl refl)
  complete (Err Read) left form source sink read write much calm = absurd (calm.1 (read refl))
  complete (Err Write) left form source sink read write much calm = absurd (calm.2 (write refl))
  complete (Err Memory) left form source sink read write much calm = reads_any left 5 (inr refl)
  complete (Err TooMuch) left form source sink read write much calm = reads_most left 6 (much refl)

  pub run_complete : (r : Result T Stop) (status : ℕ) (left : Option (List ℕ)) (form source sink : Type 0) →
      status ≡ status_at r
      → (IsErrOf r Read → source) → (IsErrOf r Write → sink) → (IsErrOf r TooMuch → HasMost left)
      → form × (source → ⊥) × (sink → ⊥) → ReadsFew left status
  run_complete r status left form source sink is read write much calm =
      subst (λ (n : ℕ). ReadsFew left n) (sym is) (complete r left form source sink read write much calm)

  -- ---- a generated run

  abbrev pub WritesAlone : Result T Stop → Type 0
  WritesAlone r = IfErr r (λ (stop : Stop). (stop ≡ Write) ⊎ (stop ≡ Memory))

  ends : (r : Result T Stop) → WritesAlone r → (status_at r ≡ 0) ⊎ (status_at r ≡ 4) ⊎ (status_at r ≡ 5)
  ends (Ok value) p = search rules
  ends (Err Read) p = elim p [ inl e ↦ absurd cc | inr e ↦ absurd cc ]
  ends (Err Write) p = search rules
  ends (Err Memory) p = search rules
  ends (Err TooMuch) p = elim p [ inl e ↦ absurd cc | inr e ↦ absurd cc ]

  pub generated_ends : (r : Result T Stop) (status : ℕ) → status ≡ status_at r → WritesAlone r →
      (status ≡ 0) ⊎ (status ≡ 4) ⊎ (status ≡ 5)
  generated_ends r status is p = subst (λ (n : ℕ). (n ≡ 0) ⊎ (n ≡ 4) ⊎ (n ≡ 5)) (sym is) (ends r p)

  pub never_read : (r : Result T Stop) (status : ℕ) → status ≡ status_at r → WritesAlone r → status ≡ 3 → ⊥
  never_read (Ok value) status is p e = absurd (omega (arith, is, e))
  never_read (Err Read) status is p e = elim p [ inl f ↦ absurd cc | inr f ↦ absurd cc ]
  never_read (Err Write) status is p e = absurd (omega (arith, is, e))
  never_read (Err Memory) status is p e = absurd (omega (arith, is, e))
  never_read (Err TooMuch) status is p e = absurd (omega (arith, is, e))

  pub never_much : (r : Result T Stop) (status : ℕ) → status ≡ status_at r → WritesAlone r → status ≡ 6 → ⊥
  never_much (Ok value) status is p e = absurd (omega (arith, is, e))
  never_much (Err Read) status is p e = absurd (omega (arith, is, e))
  never_much (Err Write) status is p e = absurd (omega (arith, is, e))
  never_much (Err Memory) status is p e = absurd (omega (arith, is, e))
  never_much (Err TooMuch) status is p e = elim p [ inl f ↦ absurd cc | inr f ↦ absurd cc ]

  pub generated_complete : (r : Result T Stop) (status : ℕ) (left : Option (List ℕ)) (form source sink : Type 0) →
      status ≡ status_at r → WritesAlone r
      → (IsErrOf r Write → sink) → form × (source → ⊥) × (sink → ⊥) → ReadsFew left status
  generated_complete r status left form source sink is p write calm = reads_any left status (by r is p write calm.2)
    where
      by : (r : Result T Stop) → status ≡ status_at r → WritesAlone r → (IsErrOf r Write → sink) → (sink → ⊥) →
          (status ≡ 0) ⊎ (status ≡ 5)
      by (Ok value) is p write b = inl is
      by (Err Read) is p write b = elim p [ inl f ↦ absurd cc | inr f ↦ absurd cc ]
      by (Err Write) is p write b = absurd (b (write refl))
      by (Err Memory) is p write b = inr is
      by (Err TooMuch) is p write b = elim p [ inl f ↦ absurd cc | inr f ↦ absurd cc ]

  -- a claim about a single script holds of the script of these words
  pub generated_whole : (r : Result T Stop) (status : ℕ) (rows : PolicyRows) (words : List (List ℕ)) (start count : ℕ)
      (written after : Option (List ℕ))
      → status ≡ status_at r → IsGenerated words start count →
      OnOk r (IfSome written (λ before. Summarized rows start count before after))
      → status ≡ 0 → OnGenerated words
      (λ start count. IfSome written (λ before. Summarized rows start count before after))
  generated_whole r status rows words start count written after is form reported zero other more p =
      let same = one_script words start count other more form p in
      let done : IfSome written (λ before. Summarized rows start count before after) =
      is_done r _ (sym is ∙ zero) reported in
      rw same.0 (rw same.1 done)

pub generated_begun : (rows : PolicyRows) (words : List (List ℕ)) (start count : ℕ) (written after : Option (List ℕ)) →
    IsGenerated words start count
    → IfSome written (λ before. SummaryBegun rows start count before after)
    → OnGenerated words (λ start count. IfSome written (λ before. SummaryBegun rows start count before after))
generated_begun rows words start count written after form reported other more p =
    let same = one_script words start count other more form p in
    rw same.0 (rw same.1 reported)
