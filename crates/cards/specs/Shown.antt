-- What is shown of a card: its crews, or its first fault. Assumes nothing.
use Rattle.std.specs.Prelude.{ℕ, ◌*◌, cond, List, ◌++◌, length, take, Ok, Err, Result, nat_le}
use Rattle.std.specs.List.{flat_map}
use Rattle.tables.specs.Crews.{crews}
use Rattle.rosters.specs.Rosters.{bit_sheet}
use Rattle.tables.specs.Sheet.{Sheet, sheet, unmarked}
use Rattle.rosters.specs.declared.bit_roster.BitRoster.{BitRoster}
use Rattle.sessions.specs.declared.marking.Marking.{Marking}
use Rattle.texts.specs.Cards.{heading, filled}
use Rattle.prints.specs.Prints.{crew_line, tail_line, fault_text}
use Rattle.prints.specs.declared.ending.Tail.{Tail}
use Rattle.prints.specs.declared.ending.Tail.TheVariants.{End, More}
use Rattle.texts.specs.declared.refusals.TextFault.{TextFault}

-- the sheet after a card's lines, or their first fault
abbrev pub outcome : Result (Unit {0}) TextFault → Sheet → Result Sheet TextFault
outcome (Ok u) s = Ok s
outcome (Err f) s = Err f

-- the sheet that a card fills, from the size that its first line tells
abbrev pub filled_from : List ℕ → Result (ℕ × ℕ) TextFault → Result Sheet TextFault
filled_from text (Ok (n, m)) =
    outcome (filled (sheet (unmarked n m) (n * m)) text).answer (filled (sheet (unmarked n m) (n * m)) text).after
filled_from text (Err f) = Err f

-- the sheet that a card fills, or its first fault
abbrev pub card_sheet : List ℕ → Result Sheet TextFault
card_sheet text = filled_from text (heading text)

-- what a session on a bit roster means
abbrev pub session_sheet : Marking BitRoster → Sheet
session_sheet s = bit_sheet s.roster

-- a session that a card was put on, by what it means
abbrev pub sheet_told : Result (Marking BitRoster) TextFault → Result Sheet TextFault
sheet_told (Ok s) = Ok (session_sheet s)
sheet_told (Err f) = Err f

-- how a list of crews ends of which at most 512 are shown
abbrev pub ending : List (ℕ × ℕ) → Tail
ending cs = cond (nat_le (length cs) 512) (End (length cs)) More

-- the lines of the crews that are shown
abbrev pub crew_lines : List (ℕ × ℕ) → List ℕ
crew_lines cs = flat_map crew_line (take 512 cs)

-- a list of crews as it is shown
abbrev pub crews_text : List (ℕ × ℕ) → List ℕ
crews_text cs = crew_lines cs ++ tail_line (ending cs)

-- what is shown of a sheet or of a fault
abbrev pub sheet_text : Result Sheet TextFault → List ℕ
sheet_text (Ok s) = crews_text (crews s.grid)
sheet_text (Err f) = fault_text f

-- what is shown of a card
abbrev pub shown : List ℕ → List ℕ
shown text = sheet_text (card_sheet text)
