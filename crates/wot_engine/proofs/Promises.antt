-- How what `run_words` promises follows from how the run, or the generated run, has ended.
use Rattle.std.proofs.Common.{◌≡◌, ℕ, List, Option, Result, OnOk, inl, inr, refl, sym, ◌∙◌, arith, map}
use Rattle.std.specs.Prelude.{IsErrOf, String, string_bytes}
use Rattle.wot_certd.specs.World.{World}
use Rattle.wot_io.specs.Counts.{Rose}
use Rattle.wot_policy.specs.declared.rows.PolicyRows.{PolicyRows}
use Rattle.wot_plain.specs.Both.{Ends}
use Rattle.wot_engine.specs.declared.run.Stop.{Stop}
use Rattle.wot_engine.specs.declared.run.Stop.TheVariants.{Read, TooMuch, Write}
use Rattle.wot_engine.specs.Contents.{Octets, Worlds}
use Rattle.wot_engine.specs.Ends.{status_at}
use Rattle.wot_engine.specs.Forms.{IsForm, IsGenerated}
use Rattle.wot_engine.specs.Generated.{BeginsSummary, WritesSummary}
use Rattle.wot_engine.specs.Promises.{Generates, HasCauses, HasStatus, Writes}
use Rattle.wot_engine.specs.RunDoes.{AreOfRun, Does, Takes}
use Rattle.wot_engine.specs.Source.{HasMost}
use Rattle.wot_engine.proofs.Contents.{weaker}
use Rattle.wot_engine.proofs.Statuses.{WritesAlone, any_status, generated_begun, generated_complete, generated_ends}
use Rattle.wot_engine.proofs.Statuses.{generated_whole, is_done, is_memory, is_much, is_read, is_write, much_or_memory}
use Rattle.wot_engine.proofs.Statuses.{never_read, not_two, run_complete}
use Rattle.wot_engine.proofs.TakesAtMost.{takes_nothing}
use Rattle.wot_engine.proofs.LineReplies.{Most-untouched}

-- what isn't changed
abbrev pub same : {A : Type 0} → A → Ends A
same value = record { old = value; new = value }

abbrev pub between : {A : Type 0} → A → A → Ends A
between old new = record { old = old; new = new }

-- ---- what is written and taken

-- the words aren't those of a run
pub no_run_writes : {Z : Type 0} (status : ℕ) (words : List (String Z)) (rows : PolicyRows) (left written after : Option (List ℕ))
    (origin : Option World) → (AreOfRun words → ⊥) → (status ≡ 3 → ⊥) → (status ≡ 6 → ⊥)
    → Writes status words rows (same left) (between written after) (same origin)
no_run_writes status words rows left written after origin other three six = record {
  moved = λ form. absurd (other form);
  prefix = λ form. absurd (other form);
  reached = λ form. absurd (other form);
  first = λ form. absurd (other form);
  taken = λ e. absurd (three e);
  most = λ e. absurd (six e);
  most_only =
      weaker left written origin _ _ (λ contents none most. absurd (none most))
      (Most-untouched rows left written origin after);
  ended = λ form. absurd (other form);
  took = λ e. absurd (six e);
  at_most = takes_nothing left;
}

module _ {T : Type 0} (r : Result T Stop) (status : ℕ) (is : status ≡ status_at r) where
  pub run_writes : {Z : Type 0} (words : List (String Z)) (rows : PolicyRows) (input output : Octets) (shelf : Worlds)
      → Does rows r input output shelf → Takes r input → Writes status words rows input output shelf
  run_writes words rows input output shelf does takes = record {
    moved = λ form zero. is_done r _ (sym is ∙ zero) does.moved;
    prefix = λ form. does.prefix;
    reached = λ form. does.reached;
    first = λ form five. does.first (is_memory r (sym is ∙ five));
    taken = λ three. does.taken (is_read r (sym is ∙ three));
    most = λ six. does.most (is_much r (sym is ∙ six));
    most_only =
        weaker input.old output.old shelf.old _ _ (λ contents reported most. much_or_memory r status is (reported most))
        does.most_only;
    ended = λ form zero. is_done r _ (sym is ∙ zero) takes.ended;
    took = λ six. takes.took (is_much r (sym is ∙ six));
    at_most = takes.at_most;
  }

-- ---- a generated run

-- the words aren't those of one
pub no_script : {Z S D : Type 0} (status : ℕ) (words : List (String Z)) (rows : PolicyRows) (input : Ends S)
    (output : Octets) (shelf : Ends D) → ((start count : ℕ) → IsGenerated (map string_bytes words) start count → ⊥)
    → Generates status words rows input output shelf
no_script status words rows input output shelf other = record {
  generated = λ e start count p. absurd (other start count p);
  begun = λ start count p. absurd (other start count p);
  alone = λ start count p. absurd (other start count p);
  ends = λ start count p. absurd (other start count p);
}

module _ {T : Type 0} (r : Result T Stop) (status : ℕ) (is : status ≡ status_at r) (alone : WritesAlone r) where
  pub script_generates : {Z S D : Type 0} (words : List (String Z)) (rows : PolicyRows) (start count : ℕ) (input : S)
      (output : Octets) (shelf : D) → IsGenerated (map string_bytes words) start count
      → OnOk r (WritesSummary rows output start count) → BeginsSummary rows output start count
      → Generates status words rows (same input) output (same shelf)
  script_generates words rows start count input output shelf form whole prefix = record {
    generated = generated_whole r status rows (map string_bytes words) start count output.old output.new is form whole;
    begun = generated_begun rows (map string_bytes words) start count output.old output.new form prefix;
    alone = λ other more p. (refl, refl);
    ends = λ other more p. generated_ends r status is alone;
  }

-- ---- the exit status

pub wrong_words : {Z S K D : Type 0} (words : List (String Z)) (input : S) (output : K) (shelf : D)
    → (IsForm (map string_bytes words) → ⊥) → HasStatus 2 words (same input) (same output) (same shelf)
wrong_words words input output shelf wrong = record {
  statuses = inr (inl refl);
  usage = (λ e. wrong, λ absent. refl);
  untouched = λ e. (refl, refl, refl);
}

pub no_causes : {Z : Type 0} (words : List (String Z)) (left : Option (List ℕ)) (reads writes : Ends ℕ)
    → (IsForm (map string_bytes words) → ⊥) → HasCauses 2 words left reads writes
no_causes words left reads writes wrong = record {
  source = λ e. absurd (omega (arith, e));
  sink = λ e. absurd (omega (arith, e));
  complete = λ calm. absurd (wrong calm.0);
}

module _ {T : Type 0} (r : Result T Stop) (status : ℕ) (is : status ≡ status_at r) where
  pub right_words : {Z S K D : Type 0} (words : List (String Z)) (input : Ends S) (output : Ends K) (shelf : Ends D)
      → IsForm (map string_bytes words) → HasStatus status words input output shelf
  right_words words input output shelf form = record {
    statuses = any_status r status is;
    usage = (λ e. absurd (not_two r status is e), λ no. absurd (no form));
    untouched = λ e. absurd (not_two r status is e);
  }

  pub run_causes : {Z : Type 0} (words : List (String Z)) (left : Option (List ℕ)) (reads writes : Ends ℕ)
      → (IsErrOf r Read → Rose reads.old reads.new) → (IsErrOf r Write → Rose writes.old writes.new)
      → (IsErrOf r TooMuch → HasMost left) → HasCauses status words left reads writes
  run_causes words left reads writes read write much = record {
    source = λ e. read (is_read r (sym is ∙ e));
    sink = λ e. write (is_write r (sym is ∙ e));
    complete =
        run_complete r status left (IsForm (map string_bytes words)) (Rose reads.old reads.new)
        (Rose writes.old writes.new) is read write much;
  }

  pub script_causes : {Z : Type 0} (words : List (String Z)) (left : Option (List ℕ)) (reads writes : Ends ℕ)
      → WritesAlone r → (IsErrOf r Write → Rose writes.old writes.new) → HasCauses status words left reads writes
  script_causes words left reads writes alone write = record {
    source = λ e. absurd (never_read r status is alone e);
    sink = λ e. write (is_write r (sym is ∙ e));
    complete =
        generated_complete r status left (IsForm (map string_bytes words)) (Rose reads.old reads.new)
        (Rose writes.old writes.new) is alone write;
  }
