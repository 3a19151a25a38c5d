-- What an error of a call on files means.
use Rattle.std.specs.Prelude.{◌≡◌, None}
use Rattle.std.specs.IoError.{error_kind, raw_os_error}
use Rattle.std.specs.declared.io.Error.{Error}
use Rattle.std.specs.declared.io.ErrorKind.TheVariants.{NotFound, OutOfMemory}

-- The program itself ran out of memory. The system may report that too, and then it is a fault.
abbrev pub IsOwnWant : Error → Type 0
IsOwnWant error = (error_kind error ≡ OutOfMemory) × (raw_os_error error ≡ None)

-- The system says that a file, or its folder, doesn't exist.
abbrev pub IsMissing : Error → Type 0
IsMissing error = error_kind error ≡ NotFound
