-- The octets of an import that was read are at most half as many as those of its line.
use Rattle.std.proofs.Common.{◌≡◌, ℕ, ◌≤◌, ◌%◌, ◌==◌, Bool, true, false, List, [], ◌∷◌, length, Option, Some}
use Rattle.std.proofs.Common.{None, Result, Ok, Err, refl, ap, arith}
use Rattle.std.specs.Prelude.{codes, IfSome, if◌then◌else◌}
use Rattle.std.specs.Option.{option_map}
use Rattle.std.specs.Result.{result_ok}
use Rattle.std.specs.Str.{bytes_eq}
use Rattle.hex.specs.Hex.{decode_of, decode_pairs}
use Rattle.hex.specs.declared.error.FromHexError.{FromHexError}
use Rattle.hex.specs.declared.error.FromHexError.TheVariants.{OddLength}
use Rattle.hex.proofs.HexLemmas.{decode_pairs-ok}
use Rattle.wot_types.specs.Fpr.{fpr_of_digits}
use Rattle.wot_types.specs.SigNumber.{number_of_digits}
use Rattle.wot_types.specs.ViewName.{view_name_of}
use Rattle.wot_types.specs.declared.number.SigNumber.{SigNumber}
use Rattle.wot_fields.specs.Decimal.{decimal_up_to}
use Rattle.wot_fields.specs.Fields.{◌>>=◌, behind, cut, field, octets_of_hex, read_behind}
use Rattle.wot_fields.specs.StateLine.{IsWithin, judgement_of, root_of, setting_of, state_line_of}
use Rattle.wot_fields.specs.declared.state_line.StateLine.{StateLine}
use Rattle.wot_fields.specs.declared.state_line.StateLine.TheVariants.{Import, Good, Bad, Unjudge, Time, Root, Close}

pub behind_short : (prefix text rest : List ℕ) → behind prefix text ≡ Some rest → length rest ≤ length text
behind_short [] text rest e = let same : text ≡ rest = cc in omega (arith, ap length same)
behind_short (x ∷ prefix) [] rest e = absurd cc
behind_short (x ∷ prefix) (y ∷ text) rest e =
    let got = cond_some_of (x == y) e in
    omega (arith, behind_short prefix text rest got)
  where
    cond_some_of : (b : Bool) → (if b then behind prefix text else None) ≡ Some rest → behind prefix text ≡ Some rest
    cond_some_of true e = e
    cond_some_of false e = absurd cc

-- what holds of whatever is read
pub so : {A : Type 0} (P : A → Type 0) (o : Option A) (a : A) → o ≡ Some a → IfSome o P → P a
so P o a e h = rw e at h

module _ {L : Type 0} (P : L → Type 0) where
  pub mapped_keeps : {A : Type 0} (f : A → L) (o : Option A) → ((a : A) → o ≡ Some a → P (f a))
      → IfSome (option_map f o) P
  mapped_keeps f None h = tt
  mapped_keeps f (Some a) h = h a refl

  pub bound_keeps : {A : Type 0} (o : Option A) (f : A → Option L) → ((a : A) → o ≡ Some a → IfSome (f a) P)
      → IfSome (o >>= f) P
  bound_keeps None f h = tt
  bound_keeps (Some a) f h = h a refl

  pub behind_keeps : (o : Option (List ℕ)) (read : List ℕ → Option L) (other : Option L)
      → ((text : List ℕ) → o ≡ Some text → IfSome (read text) P) → IfSome other P → IfSome (read_behind o read other) P
  behind_keeps None read other h k = k
  behind_keeps (Some text) read other h k = h text refl

  pub chosen_keeps : (b : Bool) (line : L) (other : Option L) → P line → IfSome other P
      → IfSome (if b then Some line else other) P
  chosen_keeps true line other h k = h
  chosen_keeps false line other h k = k

module _ (size : ℕ) where
  -- whatever is read is within the size of its line
  abbrev Within : Option StateLine → Type 0
  Within o = IfSome o (IsWithin size)

  import_within : (text : List ℕ) → length text ≤ size → Within (option_map Import (octets_of_hex text))
  import_within text short = decoded (decode_of text) refl
    where
      even : (b : Bool) (r : Result (List ℕ) FromHexError) (octets : List ℕ)
          → (if b then Err OddLength else r) ≡ Ok octets → r ≡ Ok octets
      even true r octets e = absurd cc
      even false r octets e = e

      decoded : (r : Result (List ℕ) FromHexError) → decode_of text ≡ r → Within (option_map Import (result_ok r))
      decoded (Ok octets) e =
          let pairs : decode_pairs 0 text ≡ Ok octets = even (length text % 2 == 1) (decode_pairs 0 text) octets e in
          let twice = (decode_pairs-ok 0 text octets pairs).1 in
          omega (arith, twice, short)
      decoded (Err fault) e = tt

  judgement_within : (number : SigNumber) (text : List ℕ) → Within (judgement_of number text)
  unfolding judgement_of
  judgement_within number text =
      let none : Option StateLine = if bytes_eq text (codes "none") then Some (Unjudge number) else None in
      behind_keeps (IsWithin size) (behind (codes "good ") text)
      (λ digits. option_map (Good number) (fpr_of_digits digits))
      (if bytes_eq text (codes "bad") then Some (Bad number) else none)
      (λ digits b. mapped_keeps (IsWithin size) (Good number) (fpr_of_digits digits) (λ fpr e. tt))
      (chosen_keeps (IsWithin size) (bytes_eq text (codes "bad")) (Bad number) none tt
      (chosen_keeps (IsWithin size) (bytes_eq text (codes "none")) (Unjudge number) None tt tt))

  verdict_within : (text : List ℕ) → Within (field number_of_digits judgement_of text)
  verdict_within text =
      bound_keeps (IsWithin size) (cut text) _ (λ first c.
      bound_keeps (IsWithin size) (number_of_digits first.0) _ (λ number n. judgement_within number first.1))

  root_within : (view text : List ℕ) → Within (root_of view text)
  unfolding root_of
  root_within view text =
      bound_keeps (IsWithin size) (cut text) _ (λ first c.
      bound_keeps (IsWithin size) (fpr_of_digits first.0) _ (λ fpr f.
      mapped_keeps (IsWithin size) (Root view fpr) (decimal_up_to 255 first.1) (λ amount a. tt)))

  setting_within : (view text : List ℕ) → Within (setting_of view text)
  unfolding setting_of
  setting_within view text =
      let close : Option StateLine = if bytes_eq text (codes "close") then Some (Close view) else None in
      behind_keeps (IsWithin size) (behind (codes "time ") text)
      (λ digits. option_map (Time view) (decimal_up_to 4294967295 digits))
      (read_behind (behind (codes "root ") text) (root_of view) close)
      (λ digits b. mapped_keeps (IsWithin size) (Time view) (decimal_up_to 4294967295 digits) (λ t e. tt))
      (behind_keeps (IsWithin size) (behind (codes "root ") text) (root_of view) close
      (λ rest b. root_within view rest)
      (chosen_keeps (IsWithin size) (bytes_eq text (codes "close")) (Close view) None tt tt))

  view_within : (text : List ℕ) → Within (field view_name_of setting_of text)
  view_within text =
      bound_keeps (IsWithin size) (cut text) _ (λ first c.
      bound_keeps (IsWithin size) (view_name_of first.0) _ (λ view v. setting_within view first.1))

  line_within : (line : List ℕ) → length line ≤ size → Within (state_line_of line)
  unfolding state_line_of
  line_within line short =
      let import : List ℕ → Option StateLine = λ digits. option_map Import (octets_of_hex digits) in
      let view : Option StateLine = read_behind (behind (codes "view ") line) (field view_name_of setting_of) None in
      let verdict : Option StateLine =
      read_behind (behind (codes "verdict ") line) (field number_of_digits judgement_of) view in
      behind_keeps (IsWithin size) (behind (codes "import ") line) import verdict
      (λ rest b. import_within rest (omega (arith, behind_short (codes "import ") line rest b, short)))
      (behind_keeps (IsWithin size) (behind (codes "verdict ") line) (field number_of_digits judgement_of) view
      (λ rest b. verdict_within rest)
      (behind_keeps (IsWithin size) (behind (codes "view ") line) (field view_name_of setting_of) None
      (λ rest b. view_within rest) tt))

pub fits_line : (text : List ℕ) (line : StateLine) → state_line_of text ≡ Some line → IsWithin (length text) line
fits_line text line e =
    so (IsWithin (length text)) (state_line_of text) line e (line_within (length text) text (omega arith))
