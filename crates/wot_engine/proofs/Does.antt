-- What a run does, by the way in which it ended: `Does` and `Takes` made of what holds there.
use Rattle.std.proofs.Common.{◌≡◌, inl, inr, Result, Ok, Err}
use Rattle.wot_io.specs.Filled.{IsAtEnd}
use Rattle.wot_policy.specs.declared.rows.PolicyRows.{PolicyRows}
use Rattle.wot_engine.specs.Contents.{Octets, OnContents, Worlds}
use Rattle.wot_engine.specs.Ended.{AnsweredMost}
use Rattle.wot_engine.specs.Source.{HasMost, TakesAtMost, TakesMost}
use Rattle.wot_engine.specs.RunDoes.{Does, MovesShelf, ReachesSome, Takes, WritesAll, WritesMost, WritesPrefix}
use Rattle.wot_engine.specs.RunDoes.{WritesSome}
use Rattle.wot_engine.specs.RunDoes.{WritesTaken}
use Rattle.wot_engine.specs.declared.run.Stop.{Stop}
use Rattle.wot_engine.specs.declared.run.Stop.TheVariants.{Read, Write, Memory, TooMuch}
use Rattle.wot_engine.proofs.Stops.{AreApart, always, never, never_ok, on_err}

-- the replies to 2 ^ 30 octets weren't all written
abbrev pub IsShort : PolicyRows → Octets → Octets → Worlds → Type 0
IsShort rows input output shelf = OnContents input.old output.old shelf.old
    (λ contents. AnsweredMost rows contents input.new output.new → ⊥)

module _ {T : Type 0} (rows : PolicyRows) (input output : Octets) (shelf : Worlds) where
  pub does_all : (r : Result T Stop) (value : T) → r ≡ Ok value → WritesAll rows input output shelf →
      MovesShelf rows input output shelf → WritesPrefix rows input output shelf →
      ReachesSome rows input output shelf → IsShort rows input output shelf → Does rows r input output shelf
  does_all r value e whole moved prefix reached short = record {
    whole = always r whole;
    moved = always r moved;
    prefix = prefix;
    reached = reached;
    first = λ f. absurd (never_ok r value Memory e f);
    taken = λ f. absurd (never_ok r value Read e f);
    most = λ f. absurd (never_ok r value TooMuch e f);
    most_only = λ contents known most. absurd (short contents known most);
  }

  pub does_write : (r : Result T Stop) → r ≡ Err Write → WritesPrefix rows input output shelf →
      ReachesSome rows input output shelf → IsShort rows input output shelf → Does rows r input output shelf
  does_write r e prefix reached short = record {
    whole = on_err r Write _ e;
    moved = on_err r Write _ e;
    prefix = prefix;
    reached = reached;
    first = λ f. absurd (never r Write Memory e tt f);
    taken = λ f. absurd (never r Write Read e tt f);
    most = λ f. absurd (never r Write TooMuch e tt f);
    most_only = λ contents known most. absurd (short contents known most);
  }

  pub does_read : (r : Result T Stop) → r ≡ Err Read → WritesPrefix rows input output shelf →
      ReachesSome rows input output shelf → WritesTaken rows input output shelf → IsShort rows input output shelf →
      Does rows r input output shelf
  does_read r e prefix reached taken short = record {
    whole = on_err r Read _ e;
    moved = on_err r Read _ e;
    prefix = prefix;
    reached = reached;
    first = λ f. absurd (never r Read Memory e tt f);
    taken = λ f. taken;
    most = λ f. absurd (never r Read TooMuch e tt f);
    most_only = λ contents known most. absurd (short contents known most);
  }

  pub does_much : (r : Result T Stop) → r ≡ Err TooMuch → WritesPrefix rows input output shelf →
      ReachesSome rows input output shelf → WritesMost rows input output shelf → Does rows r input output shelf
  does_much r e prefix reached most = record {
    whole = on_err r TooMuch _ e;
    moved = on_err r TooMuch _ e;
    prefix = prefix;
    reached = reached;
    first = λ f. absurd (never r TooMuch Memory e tt f);
    taken = λ f. absurd (never r TooMuch Read e tt f);
    most = λ f. most;
    most_only = λ contents known all. inl e;
  }

  pub does_memory : (r : Result T Stop) → r ≡ Err Memory → WritesPrefix rows input output shelf →
      ReachesSome rows input output shelf → WritesSome rows input output shelf → Does rows r input output shelf
  does_memory r e prefix reached first = record {
    whole = on_err r Memory _ e;
    moved = on_err r Memory _ e;
    prefix = prefix;
    reached = reached;
    first = λ f. first;
    taken = λ f. absurd (never r Memory Read e tt f);
    most = λ f. absurd (never r Memory TooMuch e tt f);
    most_only = λ contents known most. inr e;
  }

-- ---- the source

module _ {T : Type 0} (input : Octets) where
  pub takes_all : (r : Result T Stop) (value : T) → r ≡ Ok value → IsAtEnd input.old input.new →
      TakesAtMost input.old input.new → Takes r input
  takes_all r value e ended at_most = record {
    ended = always r ended;
    much = λ f. absurd (never_ok r value TooMuch e f);
    took = λ f. absurd (never_ok r value TooMuch e f);
    at_most = at_most;
  }

  pub takes_much : (r : Result T Stop) → r ≡ Err TooMuch → HasMost input.old → TakesMost input.old input.new →
      TakesAtMost input.old input.new → Takes r input
  takes_much r e much took at_most = record {
    ended = on_err r TooMuch _ e;
    much = λ f. much;
    took = λ f. took;
    at_most = at_most;
  }

  pub takes_some : (r : Result T Stop) (stop : Stop) → r ≡ Err stop → AreApart stop TooMuch →
      TakesAtMost input.old input.new → Takes r input
  takes_some r stop e apart at_most = record {
    ended = on_err r stop _ e;
    much = λ f. absurd (never r stop TooMuch e apart f);
    took = λ f. absurd (never r stop TooMuch e apart f);
    at_most = at_most;
  }
