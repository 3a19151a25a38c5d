-- Watch lines that are reported after a line: what is appended, and the edges that are made for them.
use Rattle.std.proofs.Common.{◌≡◌, ◌≤◌, ◌+◌, inr, ℕ, true, List, [], Result, refl, sym, subst}
use Rattle.std.specs.Prelude.{is_ok}
use Rattle.std.proofs.lemmas.List.{append-nil}
use Rattle.wot_cache.specs.State.{Engine}
use Rattle.wot_machine.specs.Machine.{Machine}
use Rattle.wot_machine.specs.Stepped.{TellsBehind}
use Rattle.wot_plain.specs.Made.{TellingMakes, WatchesMake}
use Rattle.wot_plain.specs.Session.{Session}
use Rattle.wot_plain.specs.Watching.{AreLines}
use Rattle.wot_watch_commands.specs.Stale.{stale_in}
use Rattle.wot_watch_commands.proofs.WatchEdges.{watches_as}

-- if no watch has a line, nothing is reported
pub tells_nothing : (whole : Session) (had : List ℕ) → AreLines whole.state whole.watches [] →
    TellsBehind whole had whole had
tells_nothing whole had none = record {
  lines = [];
  tells = record { lines_are = none; left = refl };
  octets = sym (append-nil had);
}

-- asking all watches made what reporting them makes
pub telling_made : {A B T E : Type 0} (r : Result A B) (s : Result T E) → (is_ok s ≡ true → is_ok r ≡ true) →
    (old mid new last : Machine) → mid ≡ old
    → WatchesMake r mid.watches mid.engine new.engine mid.made new.made → last.engine ≡ new.engine →
    last.made ≡ new.made
    → TellingMakes s old.watches old.engine last.engine old.made last.made
telling_made r s less old mid new last same m e n =
    inr (watches_as r s less old.watches old.engine last.engine old.made last.made
    (subst (λ (x : Engine). WatchesMake r old.watches old.engine x old.made last.made) (sym e)
    (subst (λ (x : ℕ). WatchesMake r old.watches old.engine new.engine old.made x) (sym n)
    (subst (λ (x : Machine). WatchesMake r x.watches x.engine new.engine x.made new.made) same m))))

-- reporting them makes no more than asking did
pub telling_once : (old mid new last : Machine) → mid ≡ old
    → new.made ≤ mid.made + stale_in mid.engine mid.watches → last.made ≡ new.made
    → last.made ≤ old.made + stale_in old.engine old.watches
telling_once old mid new last same once n =
    subst (λ (x : ℕ). x ≤ old.made + stale_in old.engine old.watches) (sym n)
    (subst (λ (m : Machine). new.made ≤ m.made + stale_in m.engine m.watches) same once)
