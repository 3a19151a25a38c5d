-- The world of a certificate directory: its entries, what each call returns, and what it leaves. Calls are numbered
-- from 1.
use Rattle.std.specs.Prelude.{ℕ, ◌==◌, ◌&&◌, Bool, not, if◌then◌else◌, nat_lt, List, length, Option, Some, None}
use Rattle.std.specs.List.{list_any}
use Rattle.std.specs.BTreeMap.{is_at, insert_entry}
use Rattle.std.specs.Map.{lookup}
use Rattle.wot_types.specs.declared.name.Name.{Name}
use Rattle.wot_io.specs.Counts.{next_count}
use Rattle.wot_certd.specs.Names.{name_cmp}

-- The octets of the entries, in the order of the names.
abbrev pub Entries : Type 0
Entries = List (Name × List ℕ)

-- the entry under a name
abbrev pub entry_at : Entries → Name → Option (List ℕ)
entry_at entries name = lookup (is_at (name_cmp name)) entries

-- these octets under the name, and all other entries unchanged
abbrev pub with_entry : Entries → Name → List ℕ → Entries
with_entry entries name octets = insert_entry name_cmp entries name octets

-- The entries, the number of calls so far, the numbers of the calls that fail, and the numbers of the replaces that
-- store their octets although they fail.
pub record World : Type 0 where
  pub entries : Entries
  pub calls : ℕ
  pub fails : List ℕ
  pub late : List ℕ

-- whether the number is one of these
abbrev pub is_one_of : List ℕ → ℕ → Bool
is_one_of numbers number = list_any (λ n. n == number) numbers

-- whether the next call fails
abbrev pub fails_next : World → Bool
fails_next world = is_one_of world.fails (next_count world.calls)

-- whether the next call stores its octets although it fails
abbrev pub late_next : World → Bool
late_next world = is_one_of world.late (next_count world.calls)

-- after one more call that changed no entry
abbrev pub called : World → World
called world = record world { calls = next_count world.calls }

-- The answer to a read.
pub data Answer : Type 0 where
  fault : Answer
  absent : Answer
  long : Answer
  entry : List ℕ → Answer

-- The answer for an entry, or for none.
abbrev pub entry_answer : Option (List ℕ) → Answer
entry_answer None = absent
entry_answer (Some octets) = if nat_lt 8388608 (length octets) then long else entry octets

-- the answer of the next call, if it reads this name; `called` is the world after it
abbrev pub read_answer : World → Name → Answer
read_answer world name = if fails_next world then fault else entry_answer (entry_at world.entries name)

-- after one more call that stored these octets under the name
abbrev pub put_by_call : World → Name → List ℕ → World
put_by_call world name octets = called (record world { entries = with_entry world.entries name octets })

-- After the next call, if it stores these octets under the name; `fails_next` says whether it fails.
abbrev pub after_replace : World → Name → List ℕ → World
after_replace world name octets =
    if fails_next world && not (late_next world) then called world else put_by_call world name octets
