-- The lines of a board as a list: what it means that they are increasing, and what each call answers and leaves. Assumes nothing.
use Rattle.std.specs.Prelude.{ℕ, zero, suc, min, Bool, false, cond, ◌||◌, List, [], ◌∷◌, length, take, is_ok, Some, None, Ok, Err, Option, Result, nat_lt}
use Rattle.std.specs.declared.cmp.Ordering.{Ordering}
use Rattle.std.specs.Ordering.{is_lt, is_eq}
use Rattle.std.specs.List.Sorted.{IsStrictlySortedBy}
use Rattle.std.specs.List.{slice_get}
use Rattle.boards.specs.declared.refusals.PutRefusal.{PutRefusal}
use Rattle.boards.specs.declared.refusals.PutRefusal.TheVariants.{Full, Present}
use Rattle.boards.specs.declared.refusals.TakeRefusal.{TakeRefusal}
use Rattle.boards.specs.declared.refusals.TakeRefusal.TheVariants.{Absent}

-- the places of a board: those of the memory lent, the first 4,096 at most
abbrev pub places : {L : Type 0} → List L → ℕ
places memory = min (length memory) 4096

-- the lines in use, where the board counts so many
abbrev pub in_use : {L : Type 0} → List L → ℕ → List L
in_use memory used = take (min used (places memory)) memory

-- each line is before all that follow it
abbrev pub Increasing : {L : Type 0} → (L → L → Ordering) → List L → Type 0
Increasing = IsStrictlySortedBy

-- whether line x is on the board
unfoldable pub on_board : {L : Type 0} → (L → L → Ordering) → List L → L → Bool
on_board order [] x = false
on_board order (y ∷ ys) x = is_eq (order y x) || on_board order ys x

-- how many lines on the board are before x
unfoldable pub count_before : {L : Type 0} → (L → L → Ordering) → List L → L → ℕ
count_before order [] x = 0
count_before order (y ∷ ys) x = cond (is_lt (order y x)) (suc (count_before order ys x)) (count_before order ys x)

-- one place further
abbrev pub further : Option ℕ → Option ℕ
further None = None
further (Some k) = Some (suc k)

-- the place of line x, counted from 1, or none
unfoldable pub place_of : {L : Type 0} → (L → L → Ordering) → List L → L → Option ℕ
place_of order [] x = None
place_of order (y ∷ ys) x = cond (is_eq (order y x)) (Some 1) (further (place_of order ys x))

-- the line in place k, counted from 1, or none
abbrev pub line_at : {L : Type 0} → List L → ℕ → Option L
line_at lines zero = None
line_at lines (suc i) = slice_get lines i

-- the lines with x put before the first that is not before it
unfoldable pub with_line : {L : Type 0} → (L → L → Ordering) → List L → L → List L
with_line order [] x = x ∷ []
with_line order (y ∷ ys) x = cond (is_lt (order y x)) (y ∷ with_line order ys x) (x ∷ y ∷ ys)

-- the lines without x
unfoldable pub without_line : {L : Type 0} → (L → L → Ordering) → List L → L → List L
without_line order [] x = []
without_line order (y ∷ ys) x = cond (is_eq (order y x)) ys (y ∷ without_line order ys x)

-- the answer of put on a board of so many places: a line that is there is refused first
abbrev pub put_answer : {L : Type 0} → (L → L → Ordering) → List L → ℕ → L → Result (Unit {0}) PutRefusal
put_answer order lines room x = cond (on_board order lines x) (Err Present) (cond (nat_lt (length lines) room) (Ok tt) (Err Full))

-- the lines after put: a refusal changes nothing
abbrev pub after_put : {L : Type 0} → (L → L → Ordering) → List L → ℕ → L → List L
after_put order lines room x = cond (is_ok (put_answer order lines room x)) (with_line order lines x) lines

-- the answer of take
abbrev pub take_answer : {L : Type 0} → (L → L → Ordering) → List L → L → Result (Unit {0}) TakeRefusal
take_answer order lines x = cond (on_board order lines x) (Ok tt) (Err Absent)

-- the lines after take: a refusal changes nothing
abbrev pub after_take : {L : Type 0} → (L → L → Ordering) → List L → L → List L
after_take order lines x = cond (on_board order lines x) (without_line order lines x) lines

-- where x stands among the lines, counted from 0, or where it would
abbrev pub standing : {L : Type 0} → (L → L → Ordering) → List L → L → Result ℕ ℕ
standing order lines x = cond (on_board order lines x) (Ok (count_before order lines x)) (Err (count_before order lines x))
