-- How far the reading of a text is.
use Rattle.std.specs.Prelude.{◌≡◌, ◌⊎◌, ℕ, ◌+◌, ◌-◌, ◌<◌, ◌==◌, Bool, true, false, List, Option, Some, None, length, take, drop, position}
use Rattle.std.specs.Option.{IfSome, unwrap_or}
use Rattle.std.specs.Borrow.{Bor}
use Rattle.text_words.specs.Words.{line_bytes}
use Rattle.vector_files.specs.declared.Entries.{Entries}
use Rattle.vector_files.specs.declared.Line.{Line}
use Rattle.vector_files.specs.declared.Line.TheVariants.{Blank, Comment, Section, Value, Unknown}
use Rattle.vector_files.specs.declared.Found.{Found}
use Rattle.vector_files.specs.declared.Found.TheVariants.{Entry, BadLine, Nothing}

-- a line with a value ends in it; another is not understood
abbrev pub IsValueLine : {S N : Type 0} → List ℕ → Line S N → Type 0
IsValueLine s Blank = ⊥
IsValueLine s Comment = ⊥
IsValueLine s (Section x) = ⊥
IsValueLine s (Value n x) = x.now ≡ drop (length s - length x.now) s
IsValueLine s Unknown = Unit {0}

-- an entry that has values is given, and another is not
abbrev pub IsWhole : {E : Type 0} → (E → Bool) → E → Found E → Type 0
IsWhole empty e (Entry d) = (d ≡ e) × (empty d ≡ false)
IsWhole empty e (BadLine k) = ⊥
IsWhole empty e Nothing = empty e ≡ true

-- an entry is brought as it was read, and has values; a bad line is called by its place
abbrev pub Brings : {E : Type 0} → (E → Bool) → E → ℕ → Found E → Type 0
Brings empty e at (Entry d) = (d ≡ e) × (empty d ≡ false)
Brings empty e at (BadLine k) = k ≡ at
Brings empty e at Nothing = Unit {0}

-- what a line brings, by what it says, and how the entry goes on
abbrev pub Takes : {E S N : Type 0} → (E → Bool) → Line S N → ℕ → E → Found E → E → Type 0
Takes empty Blank at e f e' = IsWhole empty e f
Takes empty Comment at e f e' = (f ≡ Nothing) × (e' ≡ e)
Takes empty (Section s) at e f e' = IsWhole empty e f
Takes empty (Value n x) at e f e' = (f ≡ Nothing) ⊎ (f ≡ BadLine at)
Takes empty Unknown at e f e' = (f ≡ BadLine at) × (e' ≡ e)

-- ---- lines, which end at line feeds, 10
abbrev pub line_end : List ℕ → ℕ
line_end s = unwrap_or (position (λ c. c == 10) s) (length s)

abbrev pub first_line : List ℕ → List ℕ
first_line s = take (line_end s) s

-- without a carriage return at its end
abbrev pub trimmed : List ℕ → List ℕ
trimmed s = take (line_bytes s) s

-- the lines after the first, where it ends at a line feed
abbrev pub IsRest : List ℕ → Option (Bor (List ℕ)) → Type 0
IsRest s None = position (λ c. c == 10) s ≡ None
IsRest s (Some r) = (r.now ≡ drop (line_end s + 1) s) × (line_end s < length s)

abbrev pub Advances : Option (Bor (List ℕ)) → Option (Bor (List ℕ)) → Type 0
Advances None r = Unit {0}
Advances (Some s) r = IsRest s.now r

-- ---- how far it is
abbrev text_left : Option (Bor (List ℕ)) → ℕ
text_left None = 0
text_left (Some s) = length s.now + 1

abbrev entry_left : {E : Type 0} → Option E → ℕ
entry_left None = 0
entry_left (Some e) = 1

-- at most so many lines are left, and the entry at the end
abbrev pub lines_left : {E : Type 0} → Entries E → ℕ
lines_left s = text_left s.rest + entry_left s.entry

-- the reading is at the start of the text s
abbrev pub starts_at : {E : Type 0} → Entries E → List ℕ → Type 0
starts_at r s = lines_left r ≡ length s + 2

abbrev rest_bytes : Option (Bor (List ℕ)) → ℕ
rest_bytes None = 0
rest_bytes (Some s) = length s.now

-- the byte of the text at which the next line begins
abbrev pub place : {E : Type 0} → Entries E → ℕ
place s = length s.text.now - rest_bytes s.rest

-- what the next line brings; after the end there is no entry
abbrev pub Gives : {E : Type 0} → (E → Bool) → Entries E → Option (Found E) → Entries E → Type 0
Gives empty s None t = s.entry ≡ None
Gives empty s (Some f) t = Advances s.rest t.rest × IfSome s.entry (λ e. Brings empty e (place s) f)
