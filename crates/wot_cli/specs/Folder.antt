-- The certificate directory of a run.
use Rattle.std.specs.Prelude.{ℕ, List, [], ◌∷◌, codes}

-- Its path, by the arguments after the program's name: the second one, or `pgp.cert.d` in the current directory.
abbrev pub folder_named : List (List ℕ) → List ℕ
folder_named [] = codes "pgp.cert.d"
folder_named (word ∷ []) = codes "pgp.cert.d"
folder_named (word ∷ folder ∷ words) = folder
