-- What the numbers of a word keep to, and that decimal digits read back. Assumes nothing.
use Rattle.std.proofs.Common.{◌≡◌, ℕ, zero, suc, ◌<◌, Bool, true, false, cond, ltb, List, [], ◌∷◌, ◌++◌, sym, refl, ap, ◌∙◌, subst, ⊎_elim, append-nil, arith}
use Rattle.std.specs.List.{ContainsAt, AllByRecursion}
use Rattle.std.proofs.lemmas.Fmt.{decimal_is_IsNumeral}
use Rattle.std.proofs.ByRecursion.{All-weaker, All-push, all-has, has_push, has_append_left}
use Rattle.std.proofs.lemmas.Bool.{lt-ltb, cases_order}
use Rattle.words.specs.Bits.{bit}
use Rattle.tables.specs.Walk.{Increasing}
use Rattle.tables.proofs.Listed.{increasing_append}
use Rattle.prints.specs.Prints.{numbers, PrintLaws}

-- number i is below n, and the word holds it
abbrev Held : ℕ → ℕ → ℕ → Type 0
Held w n i = (i < n) × (bit w i ≡ true)

held_step : (t : Bool) (w n : ℕ) (ns : List ℕ) → bit w n ≡ t → AllByRecursion (Held w n) ns → AllByRecursion (Held w (suc n)) (ns ++ cond t (n ∷ []) [])
held_step true w n ns is all =
    All-push (Held w (suc n)) ns n (All-weaker (Held w n) (Held w (suc n)) (λ i h. (omega (arith, h.0), h.1)) ns all) (omega arith, is)
held_step false w n ns is all =
    subst (AllByRecursion (Held w (suc n))) (sym (append-nil ns)) (All-weaker (Held w n) (Held w (suc n)) (λ i h. (omega (arith, h.0), h.1)) ns all)

all_held : (w n : ℕ) → AllByRecursion (Held w n) (numbers w n)
unfolding numbers
all_held w zero = tt
all_held w (suc n) = held_step (bit w n) w n (numbers w n) refl (all_held w n)

pub numbers_small : (w n : ℕ) → AllByRecursion (λ i. i < n) (numbers w n)
numbers_small w n = All-weaker (Held w n) (λ i. i < n) (λ i h. h.0) (numbers w n) (all_held w n)

every_held : (w n i : ℕ) → i < n → bit w i ≡ true → ContainsAt (numbers w n) i
unfolding numbers
every_held w zero i h held = absurd (omega arith)
every_held w (suc n) i h held =
    ⊎_elim
    (λ same.
    subst (λ t. ContainsAt (numbers w n ++ cond t (n ∷ []) []) i) (sym (ap (bit w) (sym same) ∙ held))
    (subst (ContainsAt (numbers w n ++ n ∷ [])) (sym same) (has_push (numbers w n) n)))
    (⊎_elim (λ less. has_append_left (numbers w n) _ i (every_held w n i less held)) (λ more. absurd (omega arith)))
    (cases_order i n)

in_order_step : (t : Bool) (w n : ℕ) (ns : List ℕ) → AllByRecursion (Held w n) ns → Increasing ltb ns → Increasing ltb (ns ++ cond t (n ∷ []) [])
in_order_step true w n ns all order =
    increasing_append ltb ns (n ∷ []) order (tt, tt)
    (All-weaker (Held w n) (λ x. AllByRecursion (λ y. ltb x y ≡ true) (n ∷ [])) (λ i h. (lt-ltb i n h.0, tt)) ns all)
in_order_step false w n ns all order = subst (Increasing ltb) (sym (append-nil ns)) order

in_order : (w n : ℕ) → Increasing ltb (numbers w n)
unfolding numbers
in_order w zero = tt
in_order w (suc n) = in_order_step (bit w n) w n (numbers w n) (all_held w n) (in_order w n)

pub print_laws : PrintLaws
print_laws = record {
  only_held = λ w n i has. all-has (Held w n) (numbers w n) i (all_held w n) has;
  every_held = every_held;
  in_order = in_order;
  reads_back = decimal_is_IsNumeral;
}
