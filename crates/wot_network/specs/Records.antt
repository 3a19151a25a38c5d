-- The certification network: what certificates and verdicts make of a user ID U at a time t.
use Rattle.std.specs.Prelude.{◌≡◌, ◌⊎◌, ℕ, suc, Bool, false, not, ◌||◌, if◌then◌else◌, List, [], ◌∷◌, map, Option}
use Rattle.std.specs.Prelude.{Some, None}
use Rattle.std.specs.List.{AllByRecursion, slice_get}
use Rattle.std.specs.Option.{option_map, option_map_or}
use Rattle.std.specs.Map.{lookup}
use Rattle.std.specs.Ordering.{is_eq, nat_cmp}
use Rattle.std.specs.Cmp.Lexicographic.{slice_cmp}
use Rattle.wot_types.specs.declared.fpr.Fpr.{Fpr}
use Rattle.wot_key.specs.Key.{fpr_of}
use Rattle.wot_verdict.specs.Verdicts.{Entries}
use Rattle.wot_signature.specs.Signature.{scopes_of}
use Rattle.wot_component.specs.Certificate.{Signature, Component, Certificate}
use Rattle.wot_edge.specs.declared.edge.EdgeFacts.{EdgeFacts}
use Rattle.wot_edge.specs.Lawful.{AreEntries}
use Rattle.wot_edge.specs.Record.{Row, Entry, Record}
use Rattle.wot_keyring_spec.specs.Keyring.{Certificates, is_fpr}
use Rattle.wot_scope.specs.Deciding.{scope_holds}
use Rattle.wot_scope.specs.Scope.{ScopeHolds}
use Rattle.wot_standing.specs.Standing.{standing_of}
use Rattle.wot_standing.specs.Usable.{is_usable, is_in_order}
use Rattle.wot_live.specs.Rows.{edges_of}

-- ---- usable

-- An edge is usable if its issuer is kept, and the issuer's standing vouches for what it created then.
abbrev pub is_usable_by : Entries → Certificates → ℕ → Fpr → ℕ → Bool
is_usable_by verdicts certs t issuer made =
    option_map_or (λ (c : Certificate). is_usable (standing_of verdicts c t) made) (lookup (is_fpr issuer) certs) false

-- ---- scope
-- A record has truth values, so a scope is decided by a test here. By the law `scopes_are_decided` the test is the
-- relation `IsInScope`, which says what a scope means by the grammar and the meaning of regular expressions.

abbrev pub body_in : ℕ → Component → List ℕ
body_in sig uid = option_map_or (λ (s : Signature). s.body) (slice_get uid.sigs sig) []

-- the body of the signature at a place on the user ID at a place
abbrev pub body_at : List Component → ℕ → ℕ → List ℕ
body_at user_ids uid sig = option_map_or (body_in sig) (slice_get user_ids uid) []

-- The edge has no scope, or the scope of its signature on one of these user IDs covers U.
abbrev pub is_in_scope : List Component → List ℕ → EdgeFacts → Bool
is_in_scope user_ids u edge = not edge.scoped || scope_holds (scopes_of (body_at user_ids edge.uid edge.sig)) u

abbrev pub IsInScope : List Component → List ℕ → EdgeFacts → Type 0
IsInScope user_ids u edge =
    (edge.scoped ≡ false) ⊎ ScopeHolds (scopes_of (body_at user_ids edge.uid edge.sig)) u

-- ---- the user ID

abbrev pub is_user_id : List ℕ → Component → Bool
is_user_id u uid = is_eq (slice_cmp nat_cmp u uid.body)

-- the place of U among user IDs
abbrev pub user_id_place : List ℕ → List Component → Option ℕ
user_id_place u [] = None
user_id_place u (uid ∷ uids) = if is_user_id u uid then Some 0 else option_map suc (user_id_place u uids)

-- ---- the record
-- By wot_live's law `edges_are_rows` the list of edges has the newest certification that counts of each issuer and user
-- ID, and nothing else.

abbrev pub row_of : Entries → Certificates → ℕ → List ℕ → Certificate → EdgeFacts → Row
row_of verdicts certs t u c edge = record {
  edge = edge;
  usable = is_usable_by verdicts certs t edge.issuer edge.made;
  scope = is_in_scope c.user_ids u edge;
}

-- what is known of a certificate: the edges into it, the place of U among its user IDs, and whether it is in order for
-- U
abbrev pub entry_of : Entries → Certificates → ℕ → List ℕ → Certificate → Entry
entry_of verdicts certs t u c = record {
  rows = map (row_of verdicts certs t u c) (edges_of verdicts c t);
  place = user_id_place u c.user_ids;
  in_order = is_in_order verdicts c t (is_user_id u);
}

-- the record of U
abbrev pub record_of : Certificates → Entries → ℕ → List ℕ → Record
record_of certs verdicts t u = map (λ (e : Fpr × Certificate). (e.0, entry_of verdicts certs t u e.1)) certs

-- Certificates are under their own fingerprints.
abbrev pub AreOwn : Certificates → Type 0
AreOwn certs = AllByRecursion (λ (e : Fpr × Certificate). e.0 ≡ fpr_of e.1.key) certs

-- The rows into each fingerprint are sorted by issuer and user ID.
abbrev pub TellsRows : Certificates → Entries → ℕ → List ℕ → Type 0
TellsRows certs verdicts t u = AreEntries (record_of certs verdicts t u)
