-- Why a line is not read where it is not too long.
use Rattle.std.specs.Prelude.{Option, Some, None}
use Rattle.std.specs.IoError.{error_kind}
use Rattle.std.specs.declared.io.ErrorKind.{ErrorKind}
use Rattle.text_line.specs.declared.LineError.{LineError}
use Rattle.text_line.specs.declared.LineError.TheVariants.{TooLong, Io}

-- the kind of the error that the input or the memory gave; none where the line is too long
abbrev pub failed_kind : LineError → Option ErrorKind
failed_kind (Io error) = Some (error_kind error)
failed_kind TooLong = None
