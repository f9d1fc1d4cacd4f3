-- The lines that are printed, and what printing one does to a buffer. Assumes nothing.
use Rattle.std.specs.Prelude.{◌≡◌, ℕ, zero, suc, ◌^◌, ◌<◌, true, cond, List, [], ◌∷◌, ◌++◌, length, drop, Ok, Err, decimal, Result, nat_le, nat_lt}
use Rattle.std.specs.Str.Parse.{IsNumeral, digits_value}
use Rattle.std.specs.List.{ContainsAt}
use Rattle.words.specs.Bits.{bit}
use Rattle.tables.specs.Walk.{Increasing}
use Rattle.texts.specs.Refusals.{cause_number}
use Rattle.prints.specs.declared.ending.Tail.{Tail}
use Rattle.prints.specs.declared.ending.Tail.TheVariants.{End, More}
use Rattle.texts.specs.declared.refusals.TextFault.{TextFault}
use Rattle.prints.specs.declared.refusals.BufferRefusal.{BufferRefusal}
use Rattle.prints.specs.declared.refusals.BufferRefusal.TheVariants.{TooShort}

-- the numbers below n that word w holds, the least first
unfoldable pub numbers : ℕ → ℕ → List ℕ
numbers w zero = []
numbers w (suc n) = numbers w n ++ cond (bit w n) (n ∷ []) []

-- numbers in decimal digits, with a comma between each two
unfoldable pub commas : List ℕ → List ℕ
commas [] = []
commas (n ∷ []) = decimal n
commas (n ∷ m ∷ ns) = decimal n ++ 44 ∷ commas (m ∷ ns)

-- the numbers of a word as they are printed
unfoldable pub set_text : ℕ → List ℕ
unfolding numbers commas
set_text w = commas (numbers w 64)

-- the line of a crew: members, ` / `, slots
unfoldable pub crew_line : ℕ × ℕ → List ℕ
unfolding set_text
crew_line (x, y) = ((set_text x ++ 32 ∷ 47 ∷ 32 ∷ []) ++ set_text y) ++ 10 ∷ []

-- the line that ends a list of crews: `end` and their number, or `more`
abbrev pub tail_line : Tail → List ℕ
tail_line (End k) = ((101 ∷ 110 ∷ 100 ∷ 32 ∷ []) ++ decimal k) ++ 10 ∷ []
tail_line More = (109 ∷ 111 ∷ 114 ∷ 101 ∷ []) ++ 10 ∷ []

-- the line of a fault: `fault`, its number, `line`, its line
abbrev pub fault_text : TextFault → List ℕ
fault_text f =
    ((((102 ∷ 97 ∷ 117 ∷ 108 ∷ 116 ∷ 32 ∷ []) ++ decimal (cause_number f.cause)) ++ 32 ∷ 108 ∷ 105 ∷ 110 ∷ 101 ∷ 32 ∷ []) ++ decimal f.line) ++ 10 ∷ []

-- the answer of printing a line into a buffer: its length, or a refusal where the buffer is shorter
abbrev pub printing : List ℕ → List ℕ → Result ℕ BufferRefusal
printing line buffer = cond (nat_le (length line) (length buffer)) (Ok (length line)) (Err TooShort)

-- the buffer after it: the line and what stood behind it, or all as it was
abbrev pub after_print : List ℕ → List ℕ → List ℕ
after_print line buffer = cond (nat_le (length line) (length buffer)) (line ++ drop (length line) buffer) buffer

-- the numbers of a word are those below n that it holds, each once and in order, and decimal digits read back as the number
pub record PrintLaws : Type 0 where
  pub only_held : (w n i : ℕ) → ContainsAt (numbers w n) i → (i < n) × (bit w i ≡ true)
  pub every_held : (w n i : ℕ) → i < n → bit w i ≡ true → ContainsAt (numbers w n) i
  pub in_order : (w n : ℕ) → Increasing nat_lt (numbers w n)
  pub reads_back : (n : ℕ) → n < 2 ^ 64 → IsNumeral 10 (decimal n) × (digits_value 10 (decimal n) ≡ n)
