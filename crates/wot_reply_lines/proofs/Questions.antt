-- A printed question is read back, and a question that was read wants at least 1.
use Rattle.std.proofs.Common.{◌≡◌, ℕ, ◌≤◌, List, [], ◌∷◌, ◌++◌, Option, Some, None, refl, ap, ◌∙◌, append-nil}
use Rattle.std.specs.Prelude.{codes, IfSome}
use Rattle.std.specs.Option.{option_map}
use Rattle.wot_types.specs.Fpr.{fpr_of_digits}
use Rattle.wot_types.specs.declared.fpr.Fpr.{Fpr}
use Rattle.wot_fields.specs.Decimal.{positive_up_to}
use Rattle.wot_fields.specs.Fields.{◌>>=◌, cut}
use Rattle.wot_fields.specs.Texts.{joined}
use Rattle.wot_fields.specs.Uid.{unescaped}
use Rattle.wot_fields.proofs.ImportFits.{mapped_keeps, so}
use Rattle.wot_fields.proofs.Spaceless.{Spaceless, cut_spaceless}
use Rattle.wot_fields.proofs.StateLines.{bound}
use Rattle.wot_reply_lines.specs.Question.{question_of}
use Rattle.wot_reply_lines.specs.declared.question.Question.{Question}
use Rattle.wot_reply_lines.proofs.ClaimBounds.{positive_wanted}

abbrev pub question : Fpr → ℕ → List ℕ → Question
question fpr wanted uid = record { fpr = fpr; wanted = wanted; uid = uid }

-- FPR N UID, joined from its fields
abbrev asking : List ℕ → List ℕ → List ℕ → List ℕ
asking ds ws us = ds ++ 32 ∷ (ws ++ 32 ∷ us)

question_reads_as : (ds ws us uid : List ℕ) (fpr : Fpr) (wanted : ℕ) → Spaceless ds → fpr_of_digits ds ≡ Some fpr
    → Spaceless ws → positive_up_to 4294967295 ws ≡ Some wanted → unescaped us ≡ Some uid
    → question_of (asking ds ws us) ≡ Some (question fpr wanted uid)
unfolding question_of
question_reads_as ds ws us uid fpr wanted free fpr_is free_too wanted_is uid_is =
    bound (cut (asking ds ws us)) (ds, ws ++ 32 ∷ us)
    (λ second. fpr_of_digits second.0 >>= (λ f. cut second.1 >>= (λ third. positive_up_to 4294967295 third.0
    >>= (λ w. option_map (question f w) (unescaped third.1)))))
    (cut_spaceless ds (ws ++ 32 ∷ us) free)
    ∙ bound (fpr_of_digits ds) fpr
    (λ f. cut (ws ++ 32 ∷ us) >>= (λ third. positive_up_to 4294967295 third.0
    >>= (λ w. option_map (question f w) (unescaped third.1)))) fpr_is
    ∙ bound (cut (ws ++ 32 ∷ us)) (ws, us)
    (λ third. positive_up_to 4294967295 third.0 >>= (λ w. option_map (question fpr w) (unescaped third.1)))
    (cut_spaceless ws us free_too)
    ∙ bound (positive_up_to 4294967295 ws) wanted (λ w. option_map (question fpr w) (unescaped us)) wanted_is
    ∙ ap (option_map (question fpr wanted)) uid_is

pub question_reads : (ds ws us uid : List ℕ) (fpr : Fpr) (wanted : ℕ) → Spaceless ds → fpr_of_digits ds ≡ Some fpr
    → Spaceless ws → positive_up_to 4294967295 ws ≡ Some wanted → unescaped us ≡ Some uid
    → question_of (joined (ds ∷ codes " " ∷ ws ∷ codes " " ∷ us ∷ [])) ≡ Some (question fpr wanted uid)
question_reads ds ws us uid fpr wanted free fpr_is free_too wanted_is uid_is =
    question_reads_as ds ws (us ++ []) uid fpr wanted free fpr_is free_too wanted_is
    (ap unescaped (append-nil us) ∙ uid_is)

-- ---- what was read

-- a question wants at least 1
bound_wants : {A : Type 0} (o : Option A) (f : A → Option Question) → ((a : A) → IfSome (f a) (λ q. 1 ≤ q.wanted))
    → IfSome (o >>= f) (λ q. 1 ≤ q.wanted)
bound_wants None f h = tt
bound_wants (Some a) f h = h a

numbered_wants : (digits : List ℕ) (f : ℕ → Option Question) → ((n : ℕ) → 1 ≤ n → IfSome (f n) (λ q. 1 ≤ q.wanted))
    → (o : Option ℕ) → positive_up_to 4294967295 digits ≡ o → IfSome (o >>= f) (λ q. 1 ≤ q.wanted)
numbered_wants digits f h None e = tt
numbered_wants digits f h (Some n) e = h n (positive_wanted 4294967295 digits n e)

all_want : (text : List ℕ) → IfSome (question_of text) (λ q. 1 ≤ q.wanted)
unfolding question_of
all_want text =
    bound_wants (cut text) _ (λ first. bound_wants (fpr_of_digits first.0) _ (λ fpr. bound_wants (cut first.1) _
    (λ second. numbered_wants second.0 _ (λ n some.
    mapped_keeps (λ (q : Question). 1 ≤ q.wanted) (question fpr n) (unescaped second.1) (λ uid u. some))
    (positive_up_to 4294967295 second.0) refl)))

pub question_wants : (text : List ℕ) (q : Question) → question_of text ≡ Some q → 1 ≤ q.wanted
question_wants text q e = so (λ (q : Question). 1 ≤ q.wanted) (question_of text) q e (all_want text)
