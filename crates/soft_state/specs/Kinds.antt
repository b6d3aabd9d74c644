-- Why a call ends early where its line is not bad.
use Rattle.std.specs.Prelude.{Option, Some, None}
use Rattle.std.specs.IoError.{error_kind}
use Rattle.std.specs.declared.io.ErrorKind.{ErrorKind}
use Rattle.soft_state.specs.declared.bad_line.CallError.{CallError}
use Rattle.soft_state.specs.declared.bad_line.CallError.TheVariants.{Line, Io}

-- the kind of the error that a write or the memory gave; none where the line is bad
abbrev pub failed_kind : CallError → Option ErrorKind
failed_kind (Io error) = Some (error_kind error)
failed_kind (Line bad) = None
