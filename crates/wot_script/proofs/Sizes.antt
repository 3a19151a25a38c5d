-- The sizes of replies of one line, and the text of those that end with a number, by their table.
use Rattle.std.proofs.Common.{◌≡◌, ℕ, ◌≤◌, true, List, [], ◌∷◌, length, Option, Some, None, refl, arith, length-append}
use Rattle.std.specs.Prelude.{codes, nat_le}
use Rattle.std.specs.Fmt.{decimal}
use Rattle.std.proofs.lemmas.Bool.{leb-true}
use Rattle.wot_script.specs.Replies.{number_of, reply_text, words_before}
use Rattle.wot_fields.specs.Texts.{joined_line}
use Rattle.wot_script.specs.declared.reply.Reply.{Reply}
use Rattle.wot_script.specs.declared.reply.Reply.TheVariants.{Long}

pub length-taken : (a b c : List ℕ) → length a ≤ 20 → length b ≤ 20 → length c ≤ 20
    → length (joined_line (codes "ok taken " ∷ a ∷ codes " skipped " ∷ b ∷ codes " new " ∷ c ∷ [])) ≤ 128
length-taken a b c ha hb hc = omega (arith, length-append {A = ℕ})

-- the line with these words and this number
abbrev number_line : List ℕ → Option ℕ → List ℕ
number_line words (Some number) = joined_line (words ∷ decimal number ∷ [])
number_line words None = []

-- the text, if there is a number
abbrev if_number : Option ℕ → List ℕ → List ℕ
if_number (Some number) text = text
if_number None text = []

numbered_so : (reply : Reply)
    → if_number (number_of reply) (reply_text reply) ≡ number_line (words_before reply) (number_of reply)
unfolding reply_text
numbered_so Long = refl
numbered_so _ = refl

pub numbered_text : (reply : Reply) (number : ℕ) → number_of reply ≡ Some number
    → reply_text reply ≡ joined_line (words_before reply ∷ decimal number ∷ [])
numbered_text reply number e = by (number_of reply) (numbered_so reply) e
  where
    by : (o : Option ℕ) → if_number o (reply_text reply) ≡ number_line (words_before reply) o → o ≡ Some number
        → reply_text reply ≡ joined_line (words_before reply ∷ decimal number ∷ [])
    by o h e = rw e at h

words_short : (reply : Reply) → nat_le (length (words_before reply)) 64 ≡ true
words_short Long = refl
words_short _ = refl

length-line : (words digits : List ℕ) → length words ≤ 64 → length digits ≤ 20
    → length (joined_line (words ∷ digits ∷ [])) ≤ 128
length-line words digits h k = omega (arith, length-append {A = ℕ})

pub length-numbered : (reply : Reply) (number : ℕ) → number_of reply ≡ Some number → length (decimal number) ≤ 20
    → length (reply_text reply) ≤ 128
length-numbered reply number e h =
    rw (numbered_text reply number e)
    (length-line (words_before reply) (decimal number) (leb-true (length (words_before reply)) 64 (words_short reply)) h)
