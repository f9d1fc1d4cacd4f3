-- The lines of a text: each ends with byte 10, which the last may lack, and none begins behind the last byte 10. Assumes nothing.
use Rattle.std.specs.Prelude.{◌≡◌, ℕ, suc, ◌+◌, cond, List, [], ◌∷◌, ◌++◌, length, ◌==◌, ◌≢◌}
use Rattle.std.specs.List.{flat_map, AllByRecursion}

-- where a line begins in its text, and its bytes without byte 10
pub record Line : Type 0 where
  pub start : ℕ
  pub bytes : List ℕ

-- the line of those bytes that begins at place k
abbrev pub line : ℕ → List ℕ → Line
line k bs = record { start = k; bytes = bs }

-- byte b at place k before the bytes of the first line; where there is no line, b is one
unfoldable pub begun : ℕ → ℕ → List Line → List Line
begun k b [] = line k (b ∷ []) ∷ []
begun k b (l ∷ ls) = line k (b ∷ l.bytes) ∷ ls

-- the lines of the text that stands from place k on
unfoldable pub lines_from : ℕ → List ℕ → List Line
unfolding begun
lines_from k [] = []
lines_from k (b ∷ bs) = cond (b == 10) (line k [] ∷ lines_from (suc k) bs) (begun k b (lines_from (suc k) bs))

-- the lines of a text
unfoldable pub lines : List ℕ → List Line
unfolding lines_from
lines text = lines_from 0 text

-- the bytes of a line with byte 10 behind them
abbrev pub ended_line : Line → List ℕ
ended_line l = l.bytes ++ 10 ∷ []

-- a text with byte 10 at its end, added where it has bytes and the last is another
abbrev pub finished : List ℕ → List ℕ
finished [] = []
finished (b ∷ []) = cond (b == 10) (b ∷ []) (b ∷ 10 ∷ [])
finished (b ∷ c ∷ bs) = b ∷ finished (c ∷ bs)

-- the first line begins at place k, and each later one just behind the byte 10 of the line before it
abbrev pub Follow : ℕ → List Line → Type 0
Follow k [] = Unit {0}
Follow k (l ∷ ls) = (l.start ≡ k) × Follow (k + suc (length l.bytes)) ls

-- what the lines of a text keep to: with a byte 10 behind each they are the text, none holds a byte 10, and they follow one another
pub record LineLaws : Type 0 where
  pub whole : (text : List ℕ) → flat_map ended_line (lines text) ≡ finished text
  pub unbroken : (text : List ℕ) → AllByRecursion (λ l. AllByRecursion (λ b. b ≢ 10) l.bytes) (lines text)
  pub places : (text : List ℕ) → Follow 0 (lines text)
