-- A piece of the list of bindings: the first of those that come after a place.
use Rattle.std.specs.Prelude.{◌≡◌, ℕ, Bool, true, List, ◌++◌, filter, take, Option, Some, None, Vec}
use Rattle.std.specs.declared.alloc.Global.{Global}
use Rattle.std.specs.Cmp.Lexicographic.{slice_cmp}
use Rattle.std.specs.Option.{option_copied, option_map}
use Rattle.std.specs.Ordering.{is_gt, nat_cmp, ordering_then}
use Rattle.wot_types.specs.Fpr.{fpr_cmp}
use Rattle.wot_types.specs.declared.fpr.Fpr.{Fpr}
use Rattle.wot_types.specs.declared.place.Place.{Place}
use Rattle.wot_verdict.specs.Verdicts.{Entries}
use Rattle.wot_edge.specs.Record.{Record}
use Rattle.wot_keyring_spec.specs.Keyring.{Certificates, Keyring, certificates_in}
use Rattle.wot_network.specs.Records.{record_of}
use Rattle.wot_explain.specs.declared.bind.Bind.{Bind}
use Rattle.wot_explain.specs.declared.sought.Page.{Page}
use Rattle.wot_explain.specs.Listing.{IsListed, Pair, pairs_in}
use Rattle.wot_explain.specs.Usable.{AreRoadsOf}

-- by fingerprint, then user ID; everything comes after no place
abbrev pub comes_after : Option Place → Pair → Bool
comes_after None pair = true
comes_after (Some place) pair = is_gt (ordering_then (fpr_cmp pair.0 place.fpr) (slice_cmp nat_cmp pair.1 place.uid))

-- the elements of a list that come after it
abbrev pub binds_after : Option Place → List Bind → List Bind
binds_after after binds = filter (λ bind. comes_after after (bind.fpr, bind.uid)) binds

-- the first of them, at most this many
abbrev pub piece_of : Option Place → ℕ → List Bind → List Bind
piece_of after count binds = take count (binds_after after binds)

-- The piece of a list `old` became the piece of the list that continues with these pairs' list.
abbrev pub AddsPiece : (List ℕ → Record) → List (Fpr × ℕ) → ℕ → Option Place → ℕ → List Pair
    → List Bind → List Bind → Type 0
AddsPiece network roots wanted after count pairs old new =
    (before binds : List Bind) → old ≡ piece_of after count before → IsListed network roots wanted pairs binds
    → new ≡ piece_of after count (before ++ binds)

-- The piece that is wanted goes on so with these pairs.
abbrev pub GoesOn : (List ℕ → Record) → Page → List Pair → Vec Bind Global → Vec Bind Global → Type 0
GoesOn network page pairs old new =
    AddsPiece network page.sought.roots.now page.sought.wanted (option_copied page.after) page.count pairs
    old.items new.items

-- the fingerprint of a place
abbrev pub fpr_at : Option Place → Option Fpr
fpr_at after = option_map (λ (place : Place). place.fpr) after

-- These are the piece of every list of these pairs.
abbrev pub IsThePiece : (List ℕ → Record) → List (Fpr × ℕ) → ℕ → List Pair → Option Place → ℕ → List Bind → Type 0
IsThePiece network roots wanted pairs after count binds =
    (all : List Bind) → IsListed network roots wanted pairs all → binds ≡ piece_of after count all

-- The piece of the list of all bindings, by what certificates and verdicts make at t.
abbrev pub IsPieceOf : Certificates → Entries → ℕ → List (Fpr × ℕ) → ℕ → Option Place → ℕ → List Bind → Type 0
IsPieceOf certs verdicts t roots wanted after count binds =
    IsThePiece (record_of certs verdicts t) roots wanted (pairs_in certs) after count binds

-- The piece of every list of the pairs of a keyring; and the piece of the list of all bindings then, if the roads are
-- those of this keyring at some time.
abbrev pub IsPieceHere : (List ℕ → Record) → Keyring → List (Fpr × ℕ) → ℕ → Option Place → ℕ → Vec Bind Global → Type 0
IsPieceHere network k roots wanted after count binds =
    IsThePiece network roots wanted (pairs_in (certificates_in k)) after count binds.items

abbrev pub IsPieceThen : (List ℕ → Record) → Keyring → List (Fpr × ℕ) → ℕ → Option Place → ℕ → Vec Bind Global → Type 0
IsPieceThen network k roots wanted after count binds =
    (t : ℕ) → AreRoadsOf network k t → IsPieceOf (certificates_in k) k.verdicts t roots wanted after count binds.items

-- They are the page that is wanted, here and then.
abbrev pub IsPageHere : (List ℕ → Record) → Keyring → Page → Vec Bind Global → Type 0
IsPageHere network k page binds =
    IsPieceHere network k page.sought.roots.now page.sought.wanted (option_copied page.after) page.count binds

abbrev pub IsPageThen : (List ℕ → Record) → Keyring → Page → Vec Bind Global → Type 0
IsPageThen network k page binds =
    IsPieceThen network k page.sought.roots.now page.sought.wanted (option_copied page.after) page.count binds
