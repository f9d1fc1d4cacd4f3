-- What a card's lines say and do: the size of its first, and what the later ones do to a sheet up to the first fault. Assumes nothing.
use Rattle.std.specs.Prelude.{ℕ, suc, List, [], ◌∷◌, Ok, Err, Result}
use Rattle.tables.specs.Sheet.{Sheet, marking, after_mark, clearing, after_clear}
use Rattle.tables.specs.Sizes.{sizing}
use Rattle.tables.specs.declared.refusals.RosterRefusal.{RosterRefusal}
use Rattle.tables.specs.declared.refusals.SizeRefusal.{SizeRefusal}
use Rattle.tables.specs.declared.size.Size as sizes
use Rattle.texts.specs.Forms.{Said, form, size_line, free_line, off_line, blank_line, no_form}
use Rattle.texts.specs.Lines.{Line, lines}
use Rattle.texts.specs.declared.refusals.Cause.{Cause}
use Rattle.texts.specs.declared.refusals.Cause.TheVariants.{Form, Size, Roster}
use Rattle.texts.specs.declared.refusals.TextFault.{TextFault}

-- the two numbers of a size that was read, or why none was
abbrev pub told : {E : Type 0} → Result sizes.Size E → Result (ℕ × ℕ) E
told (Ok s) = Ok (s.members, s.slots)
told (Err e) = Err e

-- a refusal of a size as the cause of a fault
abbrev pub size_cause : {A : Type 0} → Result A SizeRefusal → Result A Cause
size_cause (Ok x) = Ok x
size_cause (Err e) = Err (Size e)

-- a refusal of the roster as the cause of a fault
abbrev pub roster_cause : {A : Type 0} → Result A RosterRefusal → Result A Cause
roster_cause (Ok x) = Ok x
roster_cause (Err e) = Err (Roster e)

-- a fault of line k, which begins at byte b
abbrev pub fault_at : {A : Type 0} → ℕ → ℕ → Result A Cause → Result A TextFault
fault_at k b (Ok x) = Ok x
fault_at k b (Err e) = Err (record { line = k; byte = b; cause = e })

-- the size that a line of that form tells
abbrev pub size_told : Said ℕ → Result (ℕ × ℕ) Cause
size_told (size_line n m) = size_cause (sizing n m)
size_told (free_line n m) = Err Form
size_told (off_line n m) = Err Form
size_told blank_line = Err Form
size_told no_form = Err Form

-- the size that the first of these lines tells
abbrev pub first_size : List Line → Result (ℕ × ℕ) Cause
first_size [] = Err Form
first_size (l ∷ ls) = size_told (form l.bytes)

-- the size of a card, or the fault of its first line
abbrev pub heading : List ℕ → Result (ℕ × ℕ) TextFault
heading text = fault_at 1 0 (first_size (lines text))

-- the answer of putting a line of that form on a sheet
abbrev pub putting : Sheet → Said ℕ → Result (Unit {0}) Cause
putting s (size_line n m) = Err Form
putting s (free_line n m) = roster_cause (marking s n m)
putting s (off_line n m) = roster_cause (clearing s n m)
putting s blank_line = Ok tt
putting s no_form = Err Form

-- the sheet after it
abbrev pub after_put : Sheet → Said ℕ → Sheet
after_put s (size_line n m) = s
after_put s (free_line n m) = after_mark s n m
after_put s (off_line n m) = after_clear s n m
after_put s blank_line = s
after_put s no_form = s

-- a card's lines that were put on a sheet: the answer, and the sheet after them
pub record Applied : Type 0 where
  pub answer : Result (Unit {0}) TextFault
  pub after : Sheet

-- the first line's answer, and the later lines where it is Ok
abbrev pub go_on : ℕ → ℕ → Sheet → Applied → Result (Unit {0}) Cause → Applied
go_on k b s later (Ok u) = later
go_on k b s later (Err e) = record { answer = fault_at k b (Err e); after = s }

-- lines, the first of which has number k, put on a sheet in turn up to the first fault
unfoldable pub applied : Sheet → ℕ → List Line → Applied
applied s k [] = record { answer = Ok tt; after = s }
applied s k (l ∷ ls) =
    go_on k l.start s (applied (after_put s (form l.bytes)) (suc k) ls) (putting s (form l.bytes))

-- all lines but the first
abbrev pub later : List Line → List Line
later [] = []
later (l ∷ ls) = ls

-- the lines of a card from the second on, put on a sheet
unfoldable pub filled : Sheet → List ℕ → Applied
unfolding applied
filled s text = applied s 2 (later (lines text))
