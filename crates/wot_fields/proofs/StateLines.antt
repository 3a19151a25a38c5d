-- The lines that set a part of the state: each is one line, and is read back.
use Rattle.std.proofs.Common.{◌≡◌, ℕ, ◌+◌, ◌≤◌, true, List, [], ◌∷◌, ◌++◌, length, Option, Some}
use Rattle.std.proofs.Common.{refl, ap, ◌∙◌, append-nil, arith}
use Rattle.std.specs.Prelude.{codes}
use Rattle.std.specs.Fmt.{decimal}
use Rattle.std.specs.Option.{option_map}
use Rattle.hex.specs.Hex.{encode_lower}
use Rattle.wot_types.specs.Fpr.{digits_of, fpr_of_digits, octets_of}
use Rattle.wot_types.specs.SigNumber.{number_digits, number_of_digits}
use Rattle.wot_types.specs.ViewName.{is_view_name, view_name_of}
use Rattle.wot_types.specs.declared.fpr.Fpr.{Fpr}
use Rattle.wot_types.specs.declared.number.SigNumber.{SigNumber}
use Rattle.wot_fields.specs.Decimal.{decimal_up_to}
use Rattle.wot_fields.specs.Fields.{◌>>=◌, cut, octets_of_hex}
use Rattle.wot_fields.specs.StateLine.{IsOneLine, IsPrinted, judgement_of, most_octets, root_of, setting_of}
use Rattle.wot_fields.specs.StateLine.{spelling, state_line_of}
use Rattle.wot_fields.specs.Texts.{joined}
use Rattle.wot_fields.specs.declared.state_line.StateLine.{StateLine}
use Rattle.wot_fields.specs.declared.state_line.StateLine.TheVariants.{Import, Good, Bad, Unjudge, Time, Root, Close}
use Rattle.wot_fields.proofs.LineParts.{AreDigits, IsName, IsNumeral, fpr_digits, length-digits, name_is}
use Rattle.wot_fields.proofs.LineParts.{number_digits_are, numeral, one_line, word}
use Rattle.wot_fields.proofs.Spaceless.{Spaceless, cut_spaceless, feedless_digits, lacks_test, spaceless_digits}
use Rattle.wot_fields.proofs.Spaceless.{spaceless_view_name}

-- ---- read back

-- a second reading after a first one that returned `a`
pub bound : {A B : Type 0} (o : Option A) (a : A) (f : A → Option B) → o ≡ Some a → (o >>= f) ≡ f a
bound o a f e = rw e refl

pub name_reads : (name : List ℕ) → is_view_name name ≡ true → view_name_of name ≡ Some name
name_reads name h = rw h refl

pub import_reads : (digits octets : List ℕ) → octets_of_hex digits ≡ Some octets
    → state_line_of (joined (codes "import " ∷ digits ∷ [])) ≡ Some (Import octets)
unfolding state_line_of
import_reads digits octets e =
    ap (λ text. option_map Import (octets_of_hex text)) (append-nil digits) ∙ ap (option_map Import) e

verdict_reads : (digits text : List ℕ) (number : SigNumber) (line : StateLine) → Spaceless digits
    → number_of_digits digits ≡ Some number → judgement_of number text ≡ Some line
    → state_line_of (codes "verdict " ++ (digits ++ 32 ∷ text)) ≡ Some line
unfolding state_line_of
verdict_reads digits text number line free number_is e =
    bound (cut (digits ++ 32 ∷ text)) (digits, text)
    (λ first. number_of_digits first.0 >>= (λ n. judgement_of n first.1))
    (cut_spaceless digits text free)
    ∙ bound (number_of_digits digits) number (λ n. judgement_of n text) number_is
    ∙ e

good_judged : (number : SigNumber) (digits : List ℕ) (fpr : Fpr) → fpr_of_digits digits ≡ Some fpr
    → judgement_of number (codes "good " ++ (digits ++ [])) ≡ Some (Good number fpr)
unfolding judgement_of
good_judged number digits fpr e =
    ap (λ text. option_map (Good number) (fpr_of_digits text)) (append-nil digits) ∙ ap (option_map (Good number)) e

pub good_reads : (ns ds : List ℕ) (number : SigNumber) (fpr : Fpr) → Spaceless ns → number_of_digits ns ≡ Some number
    → fpr_of_digits ds ≡ Some fpr
    → state_line_of (joined (codes "verdict " ∷ ns ∷ codes " good " ∷ ds ∷ [])) ≡ Some (Good number fpr)
good_reads ns ds number fpr free number_is fpr_is =
    verdict_reads ns (codes "good " ++ (ds ++ [])) number (Good number fpr) free number_is
    (good_judged number ds fpr fpr_is)

bad_judged : (number : SigNumber) → judgement_of number (codes "bad") ≡ Some (Bad number)
unfolding judgement_of
bad_judged number = refl

pub bad_reads : (ns : List ℕ) (number : SigNumber) → Spaceless ns → number_of_digits ns ≡ Some number
    → state_line_of (joined (codes "verdict " ∷ ns ∷ codes " bad" ∷ [])) ≡ Some (Bad number)
bad_reads ns number free number_is =
    verdict_reads ns (codes "bad") number (Bad number) free number_is (bad_judged number)

none_judged : (number : SigNumber) → judgement_of number (codes "none") ≡ Some (Unjudge number)
unfolding judgement_of
none_judged number = refl

pub none_reads : (ns : List ℕ) (number : SigNumber) → Spaceless ns → number_of_digits ns ≡ Some number
    → state_line_of (joined (codes "verdict " ∷ ns ∷ codes " none" ∷ [])) ≡ Some (Unjudge number)
none_reads ns number free number_is =
    verdict_reads ns (codes "none") number (Unjudge number) free number_is (none_judged number)

setting_reads : (name text : List ℕ) (line : StateLine) → is_view_name name ≡ true
    → setting_of name text ≡ Some line
    → state_line_of (codes "view " ++ (name ++ 32 ∷ text)) ≡ Some line
unfolding state_line_of
setting_reads name text line h e =
    bound (cut (name ++ 32 ∷ text)) (name, text)
    (λ first. view_name_of first.0 >>= (λ view. setting_of view first.1))
    (cut_spaceless name text (spaceless_view_name name h))
    ∙ bound (view_name_of name) name (λ view. setting_of view text) (name_reads name h)
    ∙ e

time_set : (name digits : List ℕ) (t : ℕ) → decimal_up_to 4294967295 digits ≡ Some t
    → setting_of name (codes "time " ++ (digits ++ [])) ≡ Some (Time name t)
unfolding setting_of
time_set name digits t e =
    ap (λ text. option_map (Time name) (decimal_up_to 4294967295 text)) (append-nil digits)
    ∙ ap (option_map (Time name)) e

pub time_reads : (name digits : List ℕ) (t : ℕ) → is_view_name name ≡ true → decimal_up_to 4294967295 digits ≡ Some t
    → state_line_of (joined (codes "view " ∷ name ∷ codes " time " ∷ digits ∷ [])) ≡ Some (Time name t)
time_reads name digits t h e =
    setting_reads name (codes "time " ++ (digits ++ [])) (Time name t) h (time_set name digits t e)

root_of_parts : (name ds text : List ℕ) (fpr : Fpr) (amount : ℕ) → Spaceless ds → fpr_of_digits ds ≡ Some fpr
    → decimal_up_to 255 text ≡ Some amount → root_of name (ds ++ 32 ∷ text) ≡ Some (Root name fpr amount)
unfolding root_of
root_of_parts name ds text fpr amount free fpr_is amount_is =
    bound (cut (ds ++ 32 ∷ text)) (ds, text)
    (λ first. fpr_of_digits first.0 >>= (λ f. option_map (Root name f) (decimal_up_to 255 first.1)))
    (cut_spaceless ds text free)
    ∙ bound (fpr_of_digits ds) fpr (λ f. option_map (Root name f) (decimal_up_to 255 text)) fpr_is
    ∙ ap (option_map (Root name fpr)) amount_is

root_set : (name text : List ℕ) → setting_of name (codes "root " ++ text) ≡ root_of name text
unfolding setting_of
root_set name text = refl

pub root_reads : (name ds an : List ℕ) (fpr : Fpr) (amount : ℕ) → is_view_name name ≡ true → Spaceless ds
    → fpr_of_digits ds ≡ Some fpr → decimal_up_to 255 an ≡ Some amount
    → state_line_of (joined (codes "view " ∷ name ∷ codes " root " ∷ ds ∷ codes " " ∷ an ∷ [])) ≡ Some
    (Root name fpr amount)
root_reads name ds an fpr amount h free fpr_is amount_is =
    setting_reads name (codes "root " ++ (ds ++ 32 ∷ (an ++ []))) (Root name fpr amount) h
    (root_set name (ds ++ 32 ∷ (an ++ []))
    ∙ root_of_parts name ds (an ++ []) fpr amount free fpr_is (ap (decimal_up_to 255) (append-nil an) ∙ amount_is))

close_set : (name : List ℕ) → setting_of name (codes "close") ≡ Some (Close name)
unfolding setting_of
close_set name = refl

pub close_reads : (name : List ℕ) → is_view_name name ≡ true
    → state_line_of (joined (codes "view " ∷ name ∷ codes " close" ∷ [])) ≡ Some (Close name)
close_reads name h = setting_reads name (codes "close") (Close name) h (close_set name)

-- ---- one line

pub import_line : (octets : List ℕ) → IsOneLine (most_octets (Import octets)) (joined (codes "import " ∷ encode_lower octets ∷ []))
unfolding lacks_test
import_line octets =
    one_line (most_octets (Import octets)) 105 (codes "mport ") (encode_lower octets ∷ []) refl (λ e. omega arith)
    (feedless_digits octets, tt) (omega (arith, length-digits octets))

pub good_line : (number : SigNumber) (fpr : Fpr) (ns ds : List ℕ) → AreDigits ns → AreDigits ds
    → IsOneLine (most_octets (Good number fpr)) (joined (codes "verdict " ∷ ns ∷ codes " good " ∷ ds ∷ []))
unfolding lacks_test
good_line number fpr ns ds numbers digits =
    one_line (most_octets (Good number fpr)) 118 (codes "erdict ") (ns ∷ codes " good " ∷ ds ∷ []) refl (λ e. omega arith)
    (numbers.free, (word (codes " good ") refl, (digits.free, tt))) (omega (arith, numbers.size, digits.size))

pub bad_line : (number : SigNumber) (ns : List ℕ) → AreDigits ns
    → IsOneLine (most_octets (Bad number)) (joined (codes "verdict " ∷ ns ∷ codes " bad" ∷ []))
unfolding lacks_test
bad_line number ns numbers =
    one_line (most_octets (Bad number)) 118 (codes "erdict ") (ns ∷ codes " bad" ∷ []) refl (λ e. omega arith)
    (numbers.free, (word (codes " bad") refl, tt)) (omega (arith, numbers.size))

pub unjudge_line : (number : SigNumber) (ns : List ℕ) → AreDigits ns
    → IsOneLine (most_octets (Unjudge number)) (joined (codes "verdict " ∷ ns ∷ codes " none" ∷ []))
unfolding lacks_test
unjudge_line number ns numbers =
    one_line (most_octets (Unjudge number)) 118 (codes "erdict ") (ns ∷ codes " none" ∷ []) refl (λ e. omega arith)
    (numbers.free, (word (codes " none") refl, tt)) (omega (arith, numbers.size))

pub time_line : (view : List ℕ) (t : ℕ) (ts : List ℕ) → IsName view → IsNumeral ts
    → IsOneLine (most_octets (Time view t)) (joined (codes "view " ∷ view ∷ codes " time " ∷ ts ∷ []))
unfolding lacks_test
time_line view t ts name digits =
    one_line (most_octets (Time view t)) 118 (codes "iew ") (view ∷ codes " time " ∷ ts ∷ []) refl (λ e. omega arith)
    (name.free, (word (codes " time ") refl, (digits.free, tt))) (omega (arith, name.size, digits.size))

pub root_line : (view : List ℕ) (fpr : Fpr) (amount : ℕ) (ds ns : List ℕ) → IsName view → AreDigits ds → IsNumeral ns
    → IsOneLine (most_octets (Root view fpr amount)) (joined (codes "view " ∷ view ∷ codes " root " ∷ ds ∷ codes " " ∷ ns ∷ []))
unfolding lacks_test
root_line view fpr amount ds ns name digits number =
    one_line (most_octets (Root view fpr amount)) 118 (codes "iew ") (view ∷ codes " root " ∷ ds ∷ codes " " ∷ ns ∷ []) refl
    (λ e. omega arith)
    (name.free, (word (codes " root ") refl, (digits.free, (word (codes " ") refl, (number.free, tt)))))
    (omega (arith, name.size, digits.size, number.size))

pub close_line : (view : List ℕ) → IsName view
    → IsOneLine (most_octets (Close view)) (joined (codes "view " ∷ view ∷ codes " close" ∷ []))
unfolding lacks_test
close_line view name =
    one_line (most_octets (Close view)) 118 (codes "iew ") (view ∷ codes " close" ∷ []) refl (λ e. omega arith)
    (name.free, (word (codes " close") refl, tt)) (omega (arith, name.size))

-- ---- both

pub import_printed : (octets : List ℕ) → octets_of_hex (encode_lower octets) ≡ Some octets → IsPrinted (Import octets)
unfolding spelling
import_printed octets e =
    record { read = import_reads (encode_lower octets) octets e; one_line = import_line octets }

-- the digits of a number are read back
abbrev IsNumberRead : SigNumber → Type 0
IsNumberRead number = number_of_digits (number_digits number) ≡ Some number

-- and those of a fingerprint
abbrev IsFprRead : Fpr → Type 0
IsFprRead fpr = fpr_of_digits (digits_of fpr) ≡ Some fpr

pub good_printed : (number : SigNumber) (fpr : Fpr) → IsNumberRead number → IsFprRead fpr
    → IsPrinted (Good number fpr)
unfolding spelling
good_printed number fpr n f = record {
  read = good_reads (number_digits number) (digits_of fpr) number fpr (spaceless_digits number.0) n f;
  one_line = good_line number fpr (number_digits number) (digits_of fpr) (number_digits_are number n) (fpr_digits fpr f);
}

pub bad_printed : (number : SigNumber) → IsNumberRead number → IsPrinted (Bad number)
unfolding spelling
bad_printed number n = record {
  read = bad_reads (number_digits number) number (spaceless_digits number.0) n;
  one_line = bad_line number (number_digits number) (number_digits_are number n);
}

pub unjudge_printed : (number : SigNumber) → IsNumberRead number → IsPrinted (Unjudge number)
unfolding spelling
unjudge_printed number n = record {
  read = none_reads (number_digits number) number (spaceless_digits number.0) n;
  one_line = unjudge_line number (number_digits number) (number_digits_are number n);
}

pub time_printed : (view : List ℕ) (t : ℕ) → is_view_name view ≡ true
    → decimal_up_to 4294967295 (decimal t) ≡ Some t → t ≤ 4294967295 → IsPrinted (Time view t)
unfolding spelling
time_printed view t h e small = record {
  read = time_reads view (decimal t) t h e;
  one_line = time_line view t (decimal t) (name_is view h) (numeral t (omega (arith, small)));
}

pub root_printed : (view : List ℕ) (fpr : Fpr) (amount : ℕ) → is_view_name view ≡ true → IsFprRead fpr
    → decimal_up_to 255 (decimal amount) ≡ Some amount → amount ≤ 255 → IsPrinted (Root view fpr amount)
unfolding spelling
root_printed view fpr amount h f e small = record {
  read = root_reads view (digits_of fpr) (decimal amount) fpr amount h (spaceless_digits (octets_of fpr)) f e;
  one_line = root_line view fpr amount (digits_of fpr) (decimal amount) (name_is view h) (fpr_digits fpr f)
      (numeral amount (omega (arith, small)));
}

pub close_printed : (view : List ℕ) → is_view_name view ≡ true → IsPrinted (Close view)
unfolding spelling
close_printed view h = record { read = close_reads view h; one_line = close_line view (name_is view h) }
