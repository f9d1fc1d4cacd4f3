-- The forms of a line: `size`, `free` or `off` with two numbers, blank, or none. Assumes nothing.
use Rattle.std.specs.Prelude.{◌≡◌, ℕ, ◌+◌, ◌-◌, ◌*◌, ◌<◌, Bool, cond, ◌&&◌, List, [], ◌∷◌, ◌++◌, Some, None, Ok, Err, decimal, Option, Result, ◌==◌, nat_le}
use Rattle.texts.specs.Splits.{up_to, behind}
use Rattle.texts.specs.declared.refusals.Cause.{Cause}
use Rattle.texts.specs.declared.refusals.Cause.TheVariants.{Form}
use Rattle.texts.specs.declared.forms.TextLine.{TextLine}
use Rattle.texts.specs.declared.forms.TextLine.TheVariants.{Size, Free, Off, Blank}

-- what a line says, of its two fields or of the two numbers that they write
pub data Said (A : Type 0) : Type 0 where
  size_line : A → A → Said A
  free_line : A → A → Said A
  off_line : A → A → Said A
  blank_line : Said A
  no_form : Said A

-- what a line that was taken apart says
abbrev pub said : Option TextLine → Said (List ℕ)
said (Some (Size a b)) = size_line a.now b.now
said (Some (Free a b)) = free_line a.now b.now
said (Some (Off a b)) = off_line a.now b.now
said (Some Blank) = blank_line
said None = no_form

-- what stands behind a beginning, where the bytes have that beginning
abbrev pub after : List ℕ → List ℕ → Option (List ℕ)
after [] bs = Some bs
after (w ∷ ws) [] = None
after (w ∷ ws) (b ∷ bs) = cond (b == w) (after ws bs) None

-- `size` and a space
abbrev pub size_word : List ℕ
size_word = 115 ∷ 105 ∷ 122 ∷ 101 ∷ 32 ∷ []

-- `free` and a space
abbrev pub free_word : List ℕ
free_word = 102 ∷ 114 ∷ 101 ∷ 101 ∷ 32 ∷ []

-- `off` and a space
abbrev pub off_word : List ℕ
off_word = 111 ∷ 102 ∷ 102 ∷ 32 ∷ []

-- the two fields behind a beginning, cut at the first space; without the beginning, what else the line says
unfoldable pub with_fields : (List ℕ → List ℕ → Said (List ℕ)) → Option (List ℕ) → Said (List ℕ) → Said (List ℕ)
with_fields says (Some bs) other = says (up_to 32 bs) (behind 32 bs)
with_fields says None other = other

-- a line with its fields as they stand
unfoldable pub taken_apart : List ℕ → Said (List ℕ)
unfolding with_fields
taken_apart [] = blank_line
taken_apart (b ∷ bs) =
    with_fields size_line (after size_word (b ∷ bs))
    (with_fields free_line (after free_word (b ∷ bs)) (with_fields off_line (after off_word (b ∷ bs)) no_form))

-- whether a byte is a decimal digit
abbrev pub digit : ℕ → Bool
digit b = nat_le 48 b && nat_le b 57

-- the number that a field writes: one digit, or two of which the first is not 0
abbrev pub field_number : List ℕ → Option ℕ
field_number [] = None
field_number (u ∷ []) = cond (digit u) (Some (u - 48)) None
field_number (t ∷ u ∷ []) = cond (digit t && nat_le 49 t && digit u) (Some ((t - 48) * 10 + (u - 48))) None
field_number (a ∷ b ∷ c ∷ cs) = None

-- two numbers, where there are both
abbrev pub both_numbers : Option ℕ → Option ℕ → Result (ℕ × ℕ) Cause
both_numbers None second = Err Form
both_numbers (Some n) None = Err Form
both_numbers (Some n) (Some m) = Ok (n, m)

-- a line of two fields, where both write a number
abbrev pub with_numbers : (ℕ → ℕ → Said ℕ) → Option ℕ → Option ℕ → Said ℕ
with_numbers says None second = no_form
with_numbers says (Some n) None = no_form
with_numbers says (Some n) (Some m) = says n m

-- the numbers in place of the fields
abbrev pub numbered : Said (List ℕ) → Said ℕ
numbered (size_line a b) = with_numbers size_line (field_number a) (field_number b)
numbered (free_line a b) = with_numbers free_line (field_number a) (field_number b)
numbered (off_line a b) = with_numbers off_line (field_number a) (field_number b)
numbered blank_line = blank_line
numbered no_form = no_form

-- the form of a line
abbrev pub form : List ℕ → Said ℕ
form line = numbered (taken_apart line)

-- a word, two numbers in decimal digits and a space between them
abbrev pub line_of : List ℕ → ℕ → ℕ → List ℕ
line_of word n m = word ++ (decimal n ++ 32 ∷ decimal m)

-- what a form says of its line
abbrev pub Tells : Said ℕ → List ℕ → Type 0
Tells (size_line n m) line = (n < 100) × (m < 100) × (line ≡ line_of size_word n m)
Tells (free_line n m) line = (n < 100) × (m < 100) × (line ≡ line_of free_word n m)
Tells (off_line n m) line = (n < 100) × (m < 100) × (line ≡ line_of off_word n m)
Tells blank_line line = line ≡ []
Tells no_form line = Unit {0}

-- nothing but the listed forms is read, and each of them is
pub record FormLaws : Type 0 where
  pub only : (line : List ℕ) → Tells (form line) line
  pub blank : form [] ≡ blank_line
  pub size : (n m : ℕ) → n < 100 → m < 100 → form (line_of size_word n m) ≡ size_line n m
  pub free : (n m : ℕ) → n < 100 → m < 100 → form (line_of free_word n m) ≡ free_line n m
  pub off : (n m : ℕ) → n < 100 → m < 100 → form (line_of off_word n m) ≡ off_line n m
