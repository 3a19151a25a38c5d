-- What contracts see of a reader of lines and of its parts.
use Rattle.std.specs.Prelude.{ℕ, List, Option}
use Rattle.wot_io.specs.declared.fault.LinesFault.{LinesFault}

-- The buffered octets, the current line, how many octets were read, and the fault.
pub record ReaderState : Type 0 where
  pub held : List ℕ
  pub text : List ℕ
  pub taken : ℕ
  pub fault : Option LinesFault

-- The buffered octets, and the current line.
pub record Holding : Type 0 where
  pub held : List ℕ
  pub text : List ℕ

-- How many octets were read, and the last piece of them.
pub record Taking : Type 0 where
  pub taken : ℕ
  pub piece : List ℕ

abbrev pub reader_state : Holding → Taking → Option LinesFault → ReaderState
reader_state holding taking fault =
    record { held = holding.held; text = holding.text; taken = taking.taken; fault = fault }
