-- Marks: which certificates have records in a view's network, and until when these are valid. No answer depends on
-- them.
use Rattle.std.specs.Prelude.{◌≡◌, ◌≤◌, ◌+◌, ◌-◌, ◌^◌, ℕ, false, min, List, [], map}
use Rattle.std.specs.Prelude.{Result, Option, None, IfSome, OnOk}
use Rattle.std.specs.Option.{option_map_or}
use Rattle.wot_keyring_spec.specs.Keyring.{Keyring}
use Rattle.wot_network.specs.Net.{Net, Marks, AreMarksOf, StayCurrent, marks_of, stale_edges, stale_signatures}
use Rattle.wot_cache.specs.declared.present.Networked.{Networked}
use Rattle.wot_cache.specs.declared.view.View.{View}
use Rattle.wot_answers.specs.Answers.{AllAnswers}
use Rattle.wot_cache.specs.Inside.{Networks, network_at}
use Rattle.wot_cache.specs.State.{Engine, StaysButMarks, OtherMarksStay, ViewMarks, marks_at}
use Rattle.wot_cache.specs.Revisions.{Revisions}
use Rattle.wot_cache.specs.Views.{Views, is_name, view_at}
pub use Rattle.wot_answers.specs.Names.{IsForgotten}

abbrev pub marks_by : Option Net → Marks
marks_by found = option_map_or (λ (n : Net). marks_of n.lines) found []

-- the marks of a view's network; none before the first question
abbrev pub marks_in : Networks → List ℕ → Marks
marks_in networks name = marks_by (network_at networks name)

-- the marks of all networks
abbrev pub marks_shown : Networks → ViewMarks
marks_shown networks = map (λ (e : List ℕ × Net). (e.0, marks_of e.1.lines)) networks

-- what contracts see of an engine that keeps these
abbrev pub shown : Keyring → Views → Networks → Revisions → AllAnswers → Engine
shown k views networks revisions answers =
    record { keyring = k; views = views; marks = marks_shown networks; revisions = revisions; answers = answers }

-- the networks of other views are unchanged
abbrev pub OthersStay : List ℕ → Networks → Networks → Type 0
OthersStay name old new = (other : List ℕ) → is_name name other ≡ false → network_at new other ≡ network_at old other

-- one end of a refresh: the marks of the view's network, and how many edges were made so far
pub record End : Type 0 where
  pub marks : Marks
  pub made : ℕ

-- a view's end, by the networks or by the engine that has it
abbrev pub end_in : Networks → List ℕ → ℕ → End
end_in networks name made = record { marks = marks_in networks name; made = made }

abbrev pub end_at : Engine → List ℕ → ℕ → End
end_at engine name made = record { marks = marks_at engine name; made = made }

-- Edges were made exactly for the certificates that were stale at t, and the marks of the others stay.
pub record IsRenewed {T E : Type 0} (result : Result T E) (k : Keyring) (t : ℕ) (old new : End) : Type 0 where
  pub marks : OnOk result (AreMarksOf new.marks k t)
  pub stay : StayCurrent k t old.marks new.marks
  pub least : OnOk result (min (old.made + stale_edges old.marks t k) (2 ^ 64 - 1) ≤ new.made)
  pub most : new.made ≤ old.made + stale_signatures old.marks t k
  pub never_less : old.made ≤ new.made

-- They were made for this view at its time, if it is open.
abbrev pub IsMadeFor : {T E : Type 0} → Result T E → Option View → Keyring → End → End → Type 0
IsMadeFor result view k old new = IfSome view (λ (v : View). IsRenewed result k v.time old new)

-- the networks, with how many edges were made so far, were renewed for the named view
abbrev pub AreRenewed : {T E : Type 0} → Result T E → List ℕ → Keyring → ℕ → Networks × ℕ → Networks × ℕ → Type 0
AreRenewed result name k t old new = IsRenewed result k t (end_in old.0 name old.1) (end_in new.0 name new.1)

-- They were renewed at the view's time, if it is open.
abbrev pub IsMadeOver : {T E : Type 0} → Result T E → List ℕ → Networked × ℕ → Networked × ℕ → Type 0
IsMadeOver result name old new =
    IsMadeFor result (view_at old.0.views.entries name) old.0.keyring (end_in old.0.networks.entries name old.1)
    (end_in new.0.networks.entries name new.1)

-- nothing is made if the view isn't open
abbrev pub IsUnmade : List ℕ → Networked → Networked → ℕ → ℕ → Type 0
IsUnmade name old new before after =
    view_at old.views.entries name ≡ None → (new.networks.entries ≡ old.networks.entries) × (after ≡ before)

-- What a question from a view does to an engine, whatever its answer. If the view isn't open, nothing is made.
pub record IsRefreshed {T E : Type 0}
    (result : Result T E) (name : List ℕ) (old new : Engine) (before after : ℕ) : Type 0 where
  pub stays : StaysButMarks old new
  pub made : IsMadeFor result (view_at old.views name) old.keyring (end_at old name before) (end_at new name after)
  pub others : OtherMarksStay name old new
  pub closed : view_at old.views name ≡ None → (marks_at new name ≡ marks_at old name) × (after ≡ before)
