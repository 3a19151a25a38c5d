-- Revisions: a counter of openings and changes of views, and for each open view its value at the view's last one.
use Rattle.std.specs.Prelude.{ℕ, ◌+◌, ◌≡◌, ◌≢◌, ◌⊎◌, List, [], Option, Some, None, is_some}
use Rattle.std.specs.BTreeMap.{insert_entry}
use Rattle.std.specs.Map.{lookup, remove_entry, set_value}
use Rattle.wot_types.specs.ViewName.{view_name_cmp}
use Rattle.wot_cache.specs.Views.{Views, is_name, view_at}

-- the counter, and the revisions of the open views in the order of their names
pub record Revisions : Type 0 where
  pub count : ℕ
  pub each : List (List ℕ × ℕ)

-- before the first revision
abbrev pub no_revisions : Revisions
no_revisions = record { count = 0; each = [] }

-- the revision of a view; None if it isn't open
abbrev pub revision_at : Revisions → List ℕ → Option ℕ
revision_at revisions name = lookup (is_name name) revisions.each

abbrev pub with_revision : List (List ℕ × ℕ) → List ℕ → ℕ → Option ℕ → List (List ℕ × ℕ)
with_revision each name revision None = insert_entry view_name_cmp each name revision
with_revision each name revision (Some old) = set_value (is_name name) each revision

-- the next revision, which is this view's
abbrev pub turned : List ℕ → Revisions → Revisions
turned name revisions =
    record {
      count = revisions.count + 1;
      each = with_revision revisions.each name (revisions.count + 1)
          (revision_at revisions name);
    }

-- without the revision of a closed view; the counter stays
abbrev pub without_revision : List ℕ → Revisions → Revisions
without_revision name revisions = record revisions { each = remove_entry (is_name name) revisions.each }

-- either the named view and the revisions are unchanged, or the view changed and these are the revisions
abbrev pub AreRevisionsBy : Revisions → List ℕ → Views → Revisions → Views → Revisions → Type 0
AreRevisionsBy altered name old before new after =
    ((view_at new name ≡ view_at old name) × (after ≡ before))
    ⊎ ((view_at new name ≢ view_at old name) × (after ≡ altered))

-- opening a view, or changing its time or roots, is one revision of the view
abbrev pub IsOneRevision : List ℕ → Views → Revisions → Views → Revisions → Type 0
IsOneRevision name old before new after = AreRevisionsBy (turned name before) name old before new after

-- a closed view has no revision
abbrev pub IsOneClosing : List ℕ → Views → Revisions → Views → Revisions → Type 0
IsOneClosing name old before new after = AreRevisionsBy (without_revision name before) name old before new after

-- exactly the open views have a revision
abbrev pub AreRevisionsOf : Views → Revisions → Type 0
AreRevisionsOf views revisions = (name : List ℕ) → is_some (revision_at revisions name) ≡ is_some (view_at views name)
