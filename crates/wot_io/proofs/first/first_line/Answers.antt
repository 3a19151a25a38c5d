use Rattle.std.proofs.Common.{◌≡◌, ◌+◌, ◌∷◌, [], ◌≢◌, ◌∙◌, List, ℕ, take, drop, length, ap, sym, refl, arith}
use Rattle.std.proofs.Math.Seq.{take-length}
use Rattle.std.proofs.lemmas.List.{length-drop, take_rest}
use Rattle.wot_io.specs.Input.{lines_of}
use Rattle.wot_io.proofs.Cut.{lines_of-feed, lines_of-last}
use Rattle.wot_io.proofs.first.first_line.Goals as goal

nothing : (xs : List ℕ) → length xs ≡ 0 → xs ≡ []
nothing [] e = refl
nothing (x ∷ xs) e = absurd (omega (arith, e))

pub returns-in-Some-clause-first : goal.returns-in-Some-clause-first
returns-in-Some-clause-first c =
    ap lines_of c.in-Some.ensures.found ∙ lines_of-feed _ _ c.in-Some.ensures.none
    ∙ ap (λ (rest : List ℕ). take c.in-Some.i c.args.text.now ∷ lines_of rest)
    (sym (take_rest c.args.text.now (c.in-Some.i + 1)))

pub returns-in-None-clause-first : goal.returns-in-None-clause-first
returns-in-None-clause-first c =
    let text = c.args.text.now in
    let some : text ≢ [] = λ e. absurd (omega (arith, ap length e, c.requires)) in
    let front : c.split_at.result.0.now ≡ text = c.split_at.ensures.front ∙ take-length text in
    let back : c.split_at.result.1.now ≡ [] =
    c.split_at.ensures.back ∙ nothing (drop (length text) text) (omega (arith, length-drop (length text) text)) in
    lines_of-last text some c.in-None.ensures.none ∙ rw (front, back) refl
