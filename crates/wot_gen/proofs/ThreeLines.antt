-- The three lines as they are put together.
use Rattle.std.proofs.Common.{◌≡◌, ℕ, List, [], ◌∷◌, ◌++◌, append_assoc, codes}
use Rattle.std.specs.Fmt.{decimal}
use Rattle.hex.specs.Hex.{encode_lower}
use Rattle.wot_gen.specs.Summary.{summary_text}
use Rattle.wot_gen.specs.declared.summary.Summary.{Summary}

-- what is formatted: all but the digest
abbrev pub numbers : Summary → List ℕ
numbers summary =
    codes "gen " ++ (decimal summary.start ++ (codes " " ++ (decimal summary.count ++ (codes " lines "
    ++ (decimal summary.lines ++ (codes "\namounts " ++ (decimal summary.amounts ++ codes "\ntranscript ")))))))

regrouped : (gen start space count unit lines feed word amounts last digits : List ℕ)
    → ((gen ++ (start ++ (space ++ (count ++ (unit ++ (lines ++ ((feed ++ word) ++ (amounts ++ (feed ++ last))))))))) ++
    digits) ++ feed
    ≡ (gen ++ (start ++ (space ++ (count ++ (unit ++ (lines ++ feed))))))
    ++ (word ++ (amounts ++ feed))
    ++ (last ++ (digits ++ feed))
regrouped gen start space count unit lines feed word amounts last digits = simp append_assoc

pub summary_spelled : (summary : Summary)
    → (numbers summary ++ encode_lower summary.digest) ++ 10 ∷ [] ≡ summary_text summary
summary_spelled summary =
    regrouped (codes "gen ") (decimal summary.start) (codes " ") (decimal summary.count) (codes " lines ")
    (decimal summary.lines) (10 ∷ []) (codes "amounts ") (decimal summary.amounts) (codes "transcript ")
    (encode_lower summary.digest)
