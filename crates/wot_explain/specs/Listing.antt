-- The bindings of fingerprints and user IDs that are authenticated to an amount.
use Rattle.std.specs.Prelude.{◌≡◌, ◌≤◌, ℕ, Bool, length, nat_le, List, [], ◌∷◌, ◌++◌, map, filter}
use Rattle.std.specs.List.{AllByRecursion}
use Rattle.wot_types.specs.declared.fpr.Fpr.{Fpr}
use Rattle.wot_verdict.specs.Verdicts.{Entries}
use Rattle.wot_component.specs.Certificate.{Component, Certificate}
use Rattle.wot_edge.specs.Answer.{IsAnswer, amount_of}
use Rattle.wot_edge.specs.Path.{asks}
use Rattle.wot_edge.specs.Record.{IsRecord, Record}
use Rattle.wot_edge.specs.declared.path.Path.{Path}
use Rattle.wot_keyring_spec.specs.Keyring.{Certificates, Keyring, certificates_in}
use Rattle.wot_network.specs.Records.{record_of}
use Rattle.wot_reach.specs.Reach.{IsReach}
use Rattle.wot_standing.specs.Standing.{own}
use Rattle.wot_explain.specs.declared.bind.Bind.{Bind}
use Rattle.wot_explain.specs.declared.sought.Sought.{Sought}
use Rattle.wot_explain.specs.Usable.{AreRoadsOf}

-- a fingerprint and a user ID
abbrev pub Pair : Type 0
Pair = Fpr × List ℕ

abbrev pub pair_of : Fpr → Component → Pair
pair_of fpr uid = (fpr, uid.body)

-- each certificate with each of its user IDs, sorted by fingerprint and user ID
abbrev pub pairs_in : Certificates → List Pair
pairs_in [] = []
pairs_in (e ∷ certs) = map (pair_of e.0) e.1.user_ids ++ pairs_in certs

-- the pair that a binding is about
abbrev pub pair_in : Bind → Pair
pair_in bind = (bind.fpr, bind.uid)

-- Its sum is that of an answer to the question about its pair.
abbrev pub IsSummed : (List ℕ → Record) → List (Fpr × ℕ) → ℕ → Bind → Type 0
IsSummed network roots wanted bind =
    (paths : List Path) × IsAnswer (asks (network bind.uid) roots bind.fpr) wanted paths × (bind.sum ≡ amount_of paths)

-- It is authenticated to the wanted amount: its sum reaches it.
abbrev pub is_authenticated_to : ℕ → Bind → Bool
is_authenticated_to wanted bind = nat_le wanted bind.sum

-- Each pair has the sum of its answer, and the list is those, in order, that reach the wanted amount.
pub record IsListed (network : List ℕ → Record) (roots : List (Fpr × ℕ)) (wanted : ℕ) (pairs : List Pair)
    (binds : List Bind) : Type 0 where
  pub sums : List Bind
  pub each : map pair_in sums ≡ pairs
  pub summed : AllByRecursion (IsSummed network roots wanted) sums
  pub chosen : binds ≡ filter (is_authenticated_to wanted) sums

-- That holds for all pairs, records, roots and amounts.
abbrev pub IsOfEachList : ((List ℕ → Record) → List (Fpr × ℕ) → ℕ → List Pair → Type 0) → Type 0
IsOfEachList P =
    (network : List ℕ → Record) (roots : List (Fpr × ℕ)) (wanted : ℕ) (pairs : List Pair) → P network roots wanted pairs

-- There is such a list if the wanted amount isn't 0.
abbrev pub HasList : (List ℕ → Record) → List (Fpr × ℕ) → ℕ → List Pair → Type 0
HasList network roots wanted pairs = 1 ≤ wanted → (binds : List Bind) × IsListed network roots wanted pairs binds

-- There is only one if the rows form a record.
abbrev pub HasOneList : (List ℕ → Record) → List (Fpr × ℕ) → ℕ → List Pair → Type 0
HasOneList network roots wanted pairs =
    (a b : List Bind) → ((u : List ℕ) → IsRecord (network u))
    → IsListed network roots wanted pairs a → IsListed network roots wanted pairs b → a ≡ b

-- Exactly these are listed.
pub record IsTheList (network : List ℕ → Record) (roots : List (Fpr × ℕ)) (wanted : ℕ) (pairs : List Pair)
    (binds : List Bind) : Type 0 where
  pub listed : IsListed network roots wanted pairs binds
  pub one : (others : List Bind) → IsListed network roots wanted pairs others → others ≡ binds

-- The list of all bindings, by what certificates and verdicts make at t.
abbrev pub IsListOf : Certificates → Entries → ℕ → List (Fpr × ℕ) → ℕ → List Bind → Type 0
IsListOf certs verdicts t roots wanted binds =
    IsTheList (record_of certs verdicts t) roots wanted (pairs_in certs) binds

-- If the roads are those of this keyring at some time, it is the list of all bindings then.
abbrev pub IsListThen : (List ℕ → Record) → Keyring → List (Fpr × ℕ) → ℕ → List Bind → Type 0
IsListThen network k roots wanted binds =
    (t : ℕ) → AreRoadsOf network k t → IsListOf (certificates_in k) k.verdicts t roots wanted binds

-- the pairs of a keyring
abbrev pub pairs_kept : Keyring → List Pair
pairs_kept k = pairs_in (certificates_in k)

-- What may be asked for: an amount of at least 1, from at most 64 roots, within their reach.
pub record IsSought (network : List ℕ → Record) (sought : Sought) : Type 0 where
  pub wanted : 1 ≤ sought.wanted
  pub few : length sought.roots.now ≤ 64
  pub reach : IsReach network sought.roots.now sought.reach.now

-- ---- appending

-- The list of these pairs was appended.
abbrev pub AddsListed : (List ℕ → Record) → List (Fpr × ℕ) → ℕ → List Pair → List Bind → List Bind → Type 0
AddsListed network roots wanted pairs old new =
    (binds : List Bind) × IsTheList network roots wanted pairs binds × (new ≡ old ++ binds)

-- The list of those of these pairs that were asked for was appended.
abbrev pub AddsSought : (List ℕ → Record) → Sought → List Pair → List Bind → List Bind → Type 0
AddsSought network sought pairs old new = AddsListed network sought.roots.now sought.wanted pairs old new

-- the pairs of a certificate, under its own fingerprint, and those of several
abbrev pub pairs_of : Certificate → List Pair
pairs_of c = map (pair_of (own c)) c.user_ids

abbrev pub pairs_of_all : List Certificate → List Pair
pairs_of_all [] = []
pairs_of_all (c ∷ certs) = pairs_of c ++ pairs_of_all certs
