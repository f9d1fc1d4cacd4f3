-- A worked table of four members and four slots: its crews, where a walk finds them, what the finder finds and how they rank by seats.
-- Assumes nothing.
use Rattle.std.specs.Prelude.{◌≡◌, ℕ, ◌^◌, Bool, ◌&&◌, ◌||◌, T, List, [], ◌∷◌, map, Some, None, Ok, Err, Result, ◌==◌, nat_lt}
use Rattle.std.proofs.Common.{ltb→lt}
use Rattle.tables.specs.Crews.{crews, ahead}
use Rattle.tables.specs.Firsts.{first}
use Rattle.tables.specs.Grid.{Grid, common_slots}
use Rattle.boards.specs.Lines.{Increasing}
use Rattle.finders.specs.Finder.{reached, step_answer}
use Rattle.finders.specs.declared.finder.Step.{Step}
use Rattle.finders.specs.declared.finder.Step.TheVariants.{Worked, Done}
use Rattle.finders.specs.declared.refusals.StepRefusal.{StepRefusal}
use Rattle.finders.specs.declared.refusals.StepRefusal.TheVariants.{Full}
use Rattle.ranking.specs.CrewLines.{SeatLine, seat_line, seat_line_order}

-- whether (i, j) is the pair of member a and slot b
abbrev pub pair : ℕ → ℕ → ℕ → ℕ → Bool
pair a b i j = i == a && j == b

abbrev pub worked_table : Grid
worked_table = record {
  members = 4;
  slots = 4;
  marked = λ i j. pair 0 0 i j || pair 0 1 i j || pair 1 0 i j || pair 1 1 i j || pair 1 2 i j || pair 2 1 i j || pair 2 2 i j || pair 3 3 i j;
}

-- the member words found after n steps, and what the next step answers
abbrev pub found_after : ℕ → ℕ → List ℕ
found_after limit n = map (λ c. c.0) (reached worked_table limit n).found

abbrev pub answer_after : ℕ → ℕ → Result Step StepRefusal
answer_after limit n = step_answer worked_table limit (reached worked_table limit n)

-- the seat line of two words that make a crew
abbrev pub line : (x y : ℕ) → T (nat_lt 0 x) → T (nat_lt 0 y) → T (nat_lt x (2 ^ 64)) → T (nat_lt y (2 ^ 64)) → SeatLine
line x y a b c d =
    seat_line
    record {
      members = x;
      slots = y;
      some_member = ltb→lt 0 x a;
      some_slot = ltb→lt 0 y b;
      members_fit = ltb→lt x (2 ^ 64) c;
      slots_fit = ltb→lt y (2 ^ 64) d;
    }

pub record WorkedTable : Type 0 where
  -- its crews in crew order
  pub in_order : crews worked_table ≡ (7, 2) ∷ (3, 3) ∷ (6, 6) ∷ (2, 7) ∷ (8, 8) ∷ []
  -- what next gives from the words 3, 4 and 0 on
  pub from_three : first (ahead worked_table 3) ≡ Some (3, 3)
  pub from_four : first (ahead worked_table 4) ≡ Some (8, 8)
  pub from_nobody : first (ahead worked_table 0) ≡ None
  -- common slots of members 0 and 2, and of nobody
  pub common : common_slots worked_table 5 ≡ 2
  pub common_of_nobody : common_slots worked_table 0 ≡ 0
  -- all crews are found after 24 steps, and step 25 is done
  pub all_found : found_after 512 24 ≡ 3 ∷ 7 ∷ 6 ∷ 8 ∷ 2 ∷ []
  pub all_worked : (reached worked_table 512 24).steps ≡ 24
  pub then_done : answer_after 512 24 ≡ Ok Done
  -- where the limit admits four, step 7 is refused
  pub six_work : answer_after 4 5 ≡ Ok Worked
  pub seventh_refused : answer_after 4 6 ≡ Err Full
  -- where it admits none, the first step is refused
  pub first_refused : answer_after 0 0 ≡ Err Full
  -- the crews by seats
  pub by_seats : Increasing seat_line_order (line 3 3 tt tt tt tt ∷ line 6 6 tt tt tt tt ∷ line 7 2 tt tt tt tt ∷ line 2 7 tt tt tt tt ∷ line 8 8 tt tt tt tt ∷ [])
