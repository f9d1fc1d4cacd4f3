-- A grid seen through a window: some of its slots that follow one another, numbered from 0. Assumes nothing.
use Rattle.std.specs.Prelude.{ℕ, ◌+◌, ◌-◌, min, max, ◌&&◌, nat_lt}
use Rattle.tables.specs.Grid.{Grid}

-- the first slot that a window shows, which is to begin at slot a of m: the last slot where a is above it
abbrev pub window_start : ℕ → ℕ → ℕ
window_start m a = min a (m - 1)

-- how many slots it shows, which are to be w: one where w is 0, and none past the last of m
abbrev pub window_width : ℕ → ℕ → ℕ → ℕ
window_width m a w = min (max w 1) (m - window_start m a)

-- the grid with the slots of the window alone
abbrev pub windowed : ℕ → ℕ → Grid → Grid
windowed a w g = record {
  members = g.members;
  slots = window_width g.slots a w;
  marked = λ i j. nat_lt j (window_width g.slots a w) && g.marked i (window_start g.slots a + j);
}
