-- Looking at one certificate, and at several.
use Rattle.std.proofs.Common.{◌≡◌, ◌≤◌, ◌<◌, ◌+◌, ◌-◌, ◌^◌, ◌⊎◌, inl, inr, min, ℕ, Bool, true, false, ◌||◌}
use Rattle.std.proofs.Common.{if◌then◌else◌, length, List, ◌∷◌, Option, Some, None, refl, sym, ap, ◌∙◌, subst, arith}
use Rattle.std.specs.Prelude.{IsSomeAnd}
use Rattle.std.specs.Option.{option_map, option_map_or}
use Rattle.std.proofs.lemmas.Map.{none_passes_from_lookup}
use Rattle.wot_types.specs.declared.fpr.Fpr.{Fpr}
use Rattle.wot_key.specs.Key.{fpr_of}
use Rattle.wot_verdict.specs.Verdicts as verdicts
use Rattle.wot_component.specs.Certificate.{Certificate}
use Rattle.wot_component.specs.Counts.{signatures_of}
use Rattle.wot_cert.specs.declared.moments.Span.{Span}
use Rattle.wot_edge.specs.Lawful.{AreRows}
use Rattle.wot_keyring_spec.specs.declared.kept.Kept.{Kept}
use Rattle.wot_keyring_spec.specs.Keyring.{Keyring, kept_at, cert_at, stamp_at, is_fpr}
use Rattle.wot_keyring_spec.specs.Kept.{AreSortedByFpr}
use Rattle.wot_index.specs.Log.{Logged, is_listed, is_named_in}
use Rattle.wot_live.specs.Rows.{edges_of}
use Rattle.wot_network.specs.Net.{Line, Lines, line_at, marks_of, has_current, HasStamp, LineFits, StayCurrent}
use Rattle.wot_network.specs.Net.{DescribesThroughout, stale_signatures, weigh_stale}
use Rattle.wot_network.specs.Refreshing.{Advances, AreDoneBut, AreKept, IsDone, IsInside, IsMade, IsProgress}
use Rattle.wot_network.proofs.Current.{current_same, line_current, stale_less, stale_elsewhere}
use Rattle.wot_network.proofs.Fprs.{same_fpr, itself, turned}

-- ---- what is kept under a fingerprint

pub record IsKeptAt (k : Keyring) (fpr : Fpr) (c : Certificate) (stamp : ℕ) : Type 0 where
  pub entry : Kept
  pub found : kept_at k fpr ≡ Some entry
  pub cert : entry.cert ≡ c
  pub stamped : entry.stamp ≡ stamp

pub kept_by : (k : Keyring) (fpr : Fpr) (c : Certificate) (stamp : ℕ) → cert_at k fpr ≡ Some c →
    stamp ≡ stamp_at k fpr → IsKeptAt k fpr c stamp
kept_by k fpr c stamp at s = by (kept_at k fpr) refl at s
  where
    by : (o : Option Kept) → kept_at k fpr ≡ o → option_map (λ (x : Kept). x.cert) o ≡ Some c →
        stamp ≡ option_map_or (λ (x : Kept). x.stamp) o 0 → IsKeptAt k fpr c stamp
    by None e f g = absurd cc
    by (Some x) e f g = record { entry = x; found = e; cert = cc; stamped = sym g }

pub absent_by : (k : Keyring) (fpr : Fpr) → cert_at k fpr ≡ None → kept_at k fpr ≡ None
absent_by k fpr at = by (kept_at k fpr) at
  where
    by : (o : Option Kept) → option_map (λ (x : Kept). x.cert) o ≡ None → o ≡ None
    by None h = refl
    by (Some x) h = absurd cc

some_none : (o : Option Kept) (x : Kept) → o ≡ Some x → o ≡ None → ⊥
some_none o x h k = cc

-- ---- nothing done

add_zero : (a b : ℕ) → a ≤ a + b
add_zero a b = omega arith

itself_le : (a : ℕ) → a ≤ a
itself_le a = omega arith

least_le : (a m : ℕ) → min a m ≤ a
least_le a m = omega arith

pub no_progress : (k : Keyring) (t : ℕ) (lines : Lines) (n : ℕ) → IsProgress k t lines lines n n
no_progress k t lines n = record {
  stay = λ q x f h. h;
  stamps = λ q x f h. h;
  bound = add_zero n _;
  never_less = itself_le n;
}

pub no_advance : (k : Keyring) (t : ℕ) (lines : Lines) (n : ℕ) → Advances k t lines lines n n
no_advance k t lines n = record { most = itself_le _; least = least_le _ _ }

-- something was made, and no line of it was kept
pub made_in_vain : (k : Keyring) (t : ℕ) (lines : Lines) (before after : ℕ) → before ≤ after →
    after ≤ before + stale_signatures (marks_of lines) t k → IsProgress k t lines lines before after
made_in_vain k t lines before after up most = record {
  stay = λ q x f h. h;
  stamps = λ q x f h. h;
  bound = most;
  never_less = up;
}

-- ---- one after the other

chain : (a b c : ℕ) → a ≤ b → b ≤ c → a ≤ c
chain a b c h k = omega arith

bound_on : (b m a p q : ℕ) → m + q ≤ b + p → a ≤ m + q → a ≤ b + p
bound_on b m a p q h k = omega arith

least_on : (b m a p q r top : ℕ) → min (b + p) top ≤ m + q → min (m + q) top ≤ a + r → min (b + p) top ≤ a + r
least_on b m a p q r top h k = omega arith

pub progress_on : (k : Keyring) (t : ℕ) (old mid new : Lines) (before between after : ℕ) →
    IsProgress k t old mid before between → Advances k t old mid before between → IsProgress k t mid new between after →
    IsProgress k t old new before after
progress_on k t old mid new before between after first advanced second = record {
  stay = λ q x f h. second.stay q x f (first.stay q x f h);
  stamps = λ q x f h. second.stamps q x f (first.stamps q x f h);
  bound = bound_on before between after _ _ advanced.most second.bound;
  never_less = chain _ _ _ first.never_less second.never_less;
}

pub advance_on : (k : Keyring) (t : ℕ) (old mid new : Lines) (before between after : ℕ) →
    Advances k t old mid before between → Advances k t mid new between after → Advances k t old new before after
advance_on k t old mid new before between after first second = record {
  most = chain _ _ _ second.most first.most;
  least = least_on before between after _ _ _ (2 ^ 64 - 1) first.least second.least;
}

-- ---- a line put in its place

within_more : (a b p w q : ℕ) → a ≤ b + w → p ≡ q + w → a + q ≤ b + p
within_more a b p w q h e = omega arith

least_more : (a b p w q top : ℕ) → min (b + w) top ≤ a → p ≡ q + w → min (b + p) top ≤ a + q
least_more a b p w q top h e = omega arith

bound_more : (a b p w q : ℕ) → a ≤ b + w → p ≡ q + w → a ≤ b + p
bound_more a b p w q h e = omega arith

module _ (k : Keyring) (t : ℕ) (old new : Lines) (fpr : Fpr) (x : Kept) (line : Line) (sorted : AreSortedByFpr k.certs)
    (found : kept_at k fpr ≡ Some x) (named : fpr_of x.cert.key ≡ fpr)
    (made : IsMade k.verdicts x.cert x.stamp t line) (put : (q : Fpr) →
    line_at new q ≡ (if is_fpr fpr q then Some line else line_at old q)) where
  here : (q : Fpr) → is_fpr fpr q ≡ true → line_at new q ≡ Some line
  here q h = put q ∙ ap (λ b. if b then Some line else line_at old q) h

  there : (q : Fpr) → is_fpr fpr q ≡ false → line_at new q ≡ line_at old q
  there q h = put q ∙ ap (λ b. if b then Some line else line_at old q) h

  done_here : (q : Fpr) → is_fpr fpr q ≡ true → has_current (marks_of new) t q x.stamp ≡ true
  done_here q h = line_current new t q x.stamp line (here q h) made.stamp made.span

  same_there : (q : Fpr) (s : ℕ) → is_fpr fpr q ≡ false → has_current (marks_of new) t q s ≡ has_current (marks_of old)
      t q s
  same_there q s h = current_same old new t q s (there q h)

  the_one : (q : Fpr) (y : Kept) → is_fpr fpr q ≡ true → kept_at k q ≡ Some y → x ≡ y
  the_one q y h f = let g : Some x ≡ Some y = sym found ∙ ap (kept_at k) (same_fpr fpr q h) ∙ f in cc

  put_stays : StayCurrent k t (marks_of old) (marks_of new)
  put_stays q y f h = by (is_fpr fpr q) refl
    where
      by : (b : Bool) → is_fpr fpr q ≡ b → has_current (marks_of new) t q y.stamp ≡ true
      by true e = ap (λ (z : Kept). has_current (marks_of new) t q z.stamp) (sym (the_one q y e f)) ∙ done_here q e
      by false e = same_there q y.stamp e ∙ h

  put_stamps : (q : Fpr) (y : Kept) → kept_at k q ≡ Some y → HasStamp old q y.stamp → HasStamp new q y.stamp
  put_stamps q y f h = by (is_fpr fpr q) refl
    where
      by : (b : Bool) → is_fpr fpr q ≡ b → HasStamp new q y.stamp
      by true e = subst (λ (o : Option Line). IsSomeAnd o (λ (l : Line). l.stamp ≡ y.stamp)) (sym (here q e))
          (made.stamp ∙ ap (λ (z : Kept). z.stamp) (the_one q y e f))
      by false e = subst (λ (o : Option Line). IsSomeAnd o (λ (l : Line). l.stamp ≡ y.stamp)) (sym (there q e)) h

  module _ (stale : has_current (marks_of old) t fpr x.stamp ≡ false) where
    less : (weight : Certificate → ℕ) → weigh_stale weight (marks_of old) t k.certs ≡ weigh_stale weight (marks_of new)
        t k.certs + weight x.cert
    less weight = stale_less weight t (marks_of old) (marks_of new) fpr same_there x k.certs sorted found stale
        (done_here fpr (itself fpr))

    pub put_progress : (before after : ℕ) → before ≤ after → after ≤ before + signatures_of x.cert →
        IsProgress k t old new before after
    put_progress before after up most = record {
      stay = put_stays;
      stamps = put_stamps;
      bound = bound_more after before _ (signatures_of x.cert) _ most (less signatures_of);
      never_less = up;
    }

    pub put_advances : (before after : ℕ) → after ≤ before + signatures_of x.cert →
        min (before + length (edges_of k.verdicts x.cert t)) (2 ^ 64 - 1) ≤ after → Advances k t old new before after
    put_advances before after most least = record {
      most = within_more after before _ (signatures_of x.cert) _ most (less signatures_of);
      least = least_more after before _ (length (edges_of k.verdicts x.cert t)) _ (2 ^ 64 - 1) least
          (less (λ c. length (edges_of k.verdicts c t)));
    }

  module _ (window window' : Span) (inside : IsInside window' window) (narrow : IsInside window' line.span)
      (given : 0 < x.stamp) (past : x.stamp ≤ k.changes) (before : AreKept k window old) where
    -- what holds for this line and for the others holds for what is found
    found_by : (P : Fpr → Line → Type 0) → ((q : Fpr) → is_fpr fpr q ≡ true → P q line) →
        ((q : Fpr) (l : Line) → line_at old q ≡ Some l → P q l) → (q : Fpr) (l : Line) → line_at new q ≡ Some l → P q l
    found_by P this those q l f = by (is_fpr fpr q) refl
      where
        by : (b : Bool) → is_fpr fpr q ≡ b → P q l
        by true e = let same : line ≡ l = (let g : Some line ≡ Some l = sym (here q e) ∙ f in cc) in
            subst (P q) same (this q e)
        by false e = those q l (sym (there q e) ∙ f)

    pub put_keeps : AreKept k window' new
    put_keeps = record {
      fit = found_by (LineFits k) (λ q h. record {
        given = subst (λ n. 0 < n) (sym made.stamp) given;
        past = subst (λ n. n ≤ k.changes) (sym made.stamp) past;
        right = λ y f s. subst (λ (z : Kept). DescribesThroughout k.verdicts z.cert line) (the_one q y h f) made.tells;
      }) before.fit;
      lawful = found_by (λ q l. AreRows q l.edges) (λ q h. subst (λ (f : Fpr). AreRows f line.edges)
          (named ∙ same_fpr fpr q h) made.rows) before.lawful;
      unbroken = found_by (λ q l. IsInside window' l.span) (λ q h. narrow) (λ q l f u w. before.unbroken q l f u
          (inside u w));
    }

-- ---- a line of a certificate that isn't kept is taken away

module _ (k : Keyring) (t : ℕ) (old new : Lines) (fpr : Fpr) (absent : kept_at k fpr ≡ None) (out : (q : Fpr) →
    line_at new q ≡ (if is_fpr fpr q then None else line_at old q)) where
  left_there : (q : Fpr) → is_fpr fpr q ≡ false → line_at new q ≡ line_at old q
  left_there q h = out q ∙ ap (λ b. if b then None else line_at old q) h

  other : (q : Fpr) (x : Kept) → kept_at k q ≡ Some x → is_fpr fpr q ≡ false
  other q x f = by (is_fpr fpr q) refl
    where
      by : (b : Bool) → is_fpr fpr q ≡ b → is_fpr fpr q ≡ false
      by true e = absurd (some_none (kept_at k q) x f (ap (kept_at k) (sym (same_fpr fpr q e)) ∙ absent))
      by false e = e

  same_stale : (weight : Certificate → ℕ) → weigh_stale weight (marks_of old) t k.certs ≡ weigh_stale weight
      (marks_of new) t k.certs
  same_stale weight = stale_elsewhere weight t (marks_of old) (marks_of new) fpr (λ q s h. current_same old new t q s
      (left_there q h)) k.certs (none_passes_from_lookup (is_fpr fpr) k.certs absent)

  pub out_progress : (n : ℕ) → IsProgress k t old new n n
  out_progress n = record {
    stay = λ q x f h. current_same old new t q x.stamp (left_there q (other q x f)) ∙ h;
    stamps = λ q x f h. subst (λ (o : Option Line). IsSomeAnd o (λ (l : Line). l.stamp ≡ x.stamp))
        (sym (left_there q (other q x f))) h;
    bound = add_zero n _;
    never_less = itself_le n;
  }

  same_most : (n p q : ℕ) → p ≡ q → n + q ≤ n + p
  same_most n p q e = omega arith

  same_least : (n p q top : ℕ) → p ≡ q → min (n + p) top ≤ n + q
  same_least n p q top e = omega arith

  pub out_advances : (n : ℕ) → Advances k t old new n n
  out_advances n = record {
    most = same_most n _ _ (same_stale signatures_of);
    least = same_least n _ _ (2 ^ 64 - 1) (same_stale (λ c. length (edges_of k.verdicts c t)));
  }

  pub out_keeps : (window : Span) → AreKept k window old → AreKept k window new
  out_keeps window before = record {
    fit = λ q l f. before.fit q l (still q l f);
    lawful = λ q l f. before.lawful q l (still q l f);
    unbroken = λ q l f. before.unbroken q l (still q l f);
  }
    where
      by : (q : Fpr) (l : Line) (b : Bool) → (if b then None else line_at old q) ≡ Some l → line_at old q ≡ Some l
      by q l true h = absurd cc
      by q l false h = h

      still : (q : Fpr) (l : Line) → line_at new q ≡ Some l → line_at old q ≡ Some l
      still q l f = by q l (is_fpr fpr q) (sym (out q) ∙ f)

-- ---- what is left to look at

pub done_by_absent : (k : Keyring) (t : ℕ) (lines : Lines) (fpr : Fpr) → kept_at k fpr ≡ None → IsDone k t lines fpr
done_by_absent k t lines fpr absent x f = absurd (some_none (kept_at k fpr) x f absent)

pub done_by : (k : Keyring) (t : ℕ) (lines : Lines) (fpr : Fpr) (stamp : ℕ) → stamp ≡ stamp_at k fpr →
    has_current (marks_of lines) t fpr stamp ≡ true → IsDone k t lines fpr
done_by k t lines fpr stamp s h x f =
    ap (λ n. has_current (marks_of lines) t fpr n)
    (sym (s ∙ ap (λ (o : Option Kept). option_map_or (λ (y : Kept). y.stamp) o 0) f)) ∙ h

-- what is done of those that are left, and what stays so
pub done_on : (k : Keyring) (t : ℕ) (old new : Lines) (fpr : Fpr) (left rest : Fpr → Bool) →
    ((q : Fpr) → left q ≡ true → (is_fpr fpr q ≡ true) ⊎ (rest q ≡ true)) → AreDoneBut k t old left →
    StayCurrent k t (marks_of old) (marks_of new) → IsDone k t new fpr → AreDoneBut k t new rest
done_on k t old new fpr left rest split before stay done q x f = by (before q x f)
  where
    one : (is_fpr fpr q ≡ true) ⊎ (rest q ≡ true) → (has_current (marks_of new) t q x.stamp ≡ true) ⊎ (rest q ≡ true)
    one (inl e) = inl (subst (λ (p : Fpr). has_current (marks_of new) t p x.stamp ≡ true) (same_fpr fpr q e)
        (done x (ap (kept_at k) (same_fpr fpr q e) ∙ f)))
    one (inr r) = inr r

    by : (has_current (marks_of old) t q x.stamp ≡ true) ⊎ (left q ≡ true) →
        (has_current (marks_of new) t q x.stamp ≡ true) ⊎ (rest q ≡ true)
    by (inl c) = inl (stay q x f c)
    by (inr l) = one (split q l)

either : (a b : Bool) → a || b ≡ true → (a ≡ true) ⊎ (b ≡ true)
either true b h = inl refl
either false b h = inr h

-- the certificates that are left
pub named_split : (c : Certificate) (fpr q : Fpr) (left rest : List Certificate) → left ≡ c ∷ rest →
    fpr ≡ fpr_of c.key → is_named_in left q ≡ true → (is_fpr fpr q ≡ true) ⊎ (is_named_in rest q ≡ true)
named_split c fpr q left rest step name h =
    subst (λ (f : Fpr). (is_fpr f q ≡ true) ⊎ (is_named_in rest q ≡ true)) (sym name)
    (either (is_fpr (fpr_of c.key) q) (is_named_in rest q) (ap (λ (cs : List Certificate). is_named_in cs q)
    (sym step) ∙ h))

-- the logged ones that are left
pub listed_split : (e : ℕ × Fpr) (q : Fpr) (left rest : Logged) → left ≡ e ∷ rest → is_listed q left ≡ true →
    (is_fpr e.1 q ≡ true) ⊎ (is_listed q rest ≡ true)
listed_split e q left rest step h = by (either (is_fpr q e.1) (is_listed q rest) (ap (is_listed q) (sym step) ∙ h))
  where
    by : (is_fpr q e.1 ≡ true) ⊎ (is_listed q rest ≡ true) → (is_fpr e.1 q ≡ true) ⊎ (is_listed q rest ≡ true)
    by (inl a) = inl (turned q e.1 a)
    by (inr b) = inr b
