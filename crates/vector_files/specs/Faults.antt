-- Why a file is not tried, and how that is written.
use Rattle.std.specs.Prelude.{◌≡◌, ℕ, List, ◌++◌, ◌⊎◌, codes}
use Rattle.std.specs.Fmt.{decimal}
use Rattle.vector_files.specs.declared.FileFault.{FileFault}
use Rattle.vector_files.specs.declared.FileFault.TheVariants.{NotOpened, NotRead}

abbrev pub fault_text : FileFault → List ℕ
fault_text NotOpened = codes "cannot be opened"
fault_text (NotRead n) = codes "cannot be read, or is longer than " ++ decimal n ++ codes " bytes"

-- where there is room for so many bytes
abbrev pub IsFault : ℕ → FileFault → Type 0
IsFault room e = (e ≡ NotOpened) ⊎ (e ≡ NotRead room)
