-- What contracts see of a certificate directory in the file system.
use Rattle.std.specs.Prelude.{ℕ, List}

-- Its path, how often it failed, and how many entries were replaced.
pub record FolderState : Type 0 where
  pub folder : List ℕ
  pub faults : ℕ
  pub stores : ℕ
