-- The names of entries: their order, and their places in a directory.
use Rattle.std.specs.Prelude.{◌≡◌, ◌≢◌, ℕ, ◌++◌, List, [], length, take, drop, codes}
use Rattle.std.specs.Fmt.{decimal}
use Rattle.std.specs.declared.cmp.Ordering.{Ordering}
use Rattle.std.specs.declared.cmp.Ordering.TheVariants.{Less, Equal, Greater}
use Rattle.hex.specs.Hex.{IsBytes}
use Rattle.wot_types.specs.declared.name.Name.{Name}
use Rattle.wot_types.specs.declared.name.Name.TheVariants.{Cert, TrustRoot}
use Rattle.wot_types.specs.declared.fpr.Fpr.{Fpr}
use Rattle.wot_types.specs.declared.fpr.Fpr.TheVariants.{V4, V6}
use Rattle.wot_types.specs.Fpr.{digits_of, fpr_cmp}

-- Certificates in the order of their fingerprints, and then the trust root.
abbrev pub name_cmp : Name → Name → Ordering
name_cmp (Cert a) (Cert b) = fpr_cmp a b
name_cmp (Cert a) TrustRoot = Less
name_cmp TrustRoot (Cert b) = Greater
name_cmp TrustRoot TrustRoot = Equal

-- the first two of these digits name the folder, the others the file
abbrev pub split_digits : List ℕ → List ℕ
split_digits digits = take 2 digits ++ codes "/" ++ drop 2 digits

-- The place of an entry in a directory: for a certificate, the digits of its fingerprint in lower case.
abbrev pub entry_place : Name → List ℕ
entry_place (Cert fpr) = split_digits (digits_of fpr)
entry_place TrustRoot = codes "trust-root"

-- The folder of an entry in the directory, with a slash at its end. The trust root is in the directory itself.
abbrev pub folder_of : Name → List ℕ
folder_of (Cert fpr) = take 2 (digits_of fpr) ++ codes "/"
folder_of TrustRoot = []

-- the file of an entry in its folder
abbrev pub file_of : Name → List ℕ
file_of (Cert fpr) = drop 2 (digits_of fpr)
file_of TrustRoot = codes "trust-root"

-- The place where the new file of an entry is written before it is renamed: `_FILE.NUMBER` in the entry's folder.
abbrev pub place_beside : Name → ℕ → List ℕ
place_beside name number = folder_of name ++ codes "_" ++ file_of name ++ codes "." ++ decimal number

-- the path of a place in a directory
abbrev pub path_in : List ℕ → List ℕ → List ℕ
path_in directory place = directory ++ codes "/" ++ place

-- No entry of the directory is at this path.
abbrev pub IsNoEntry : List ℕ → List ℕ → Type 0
IsNoEntry directory path = (entry : Name) → path ≢ path_in directory (entry_place entry)

-- A fingerprint has 20 octets, or 32.
abbrev pub IsFpr : Fpr → Type 0
IsFpr (V4 octets) = (length octets ≡ 20) × IsBytes octets
IsFpr (V6 octets) = (length octets ≡ 32) × IsBytes octets

abbrev pub IsName : Name → Type 0
IsName (Cert fpr) = IsFpr fpr
IsName TrustRoot = Unit {0}
