-- Crews that are shown one after another, and the lines that were printed for them. Assumes nothing.
use Rattle.std.proofs.Common.{◌≡◌, ℕ, zero, suc, ◌+◌, ◌<◌, ◌≤◌, Bool, true, false, cond, leb, List, [], ◌∷◌, ◌++◌, length, take, drop, Ok, Err, Some, None, sym, refl, ap, ◌∙◌, add-one, arith}
use Rattle.std.specs.List.{flat_map}
use Rattle.std.proofs.lemmas.List.{length-append, take_at, take_all, flat_map_more}
use Rattle.std.proofs.lemmas.Bool.{le-leb, lt-leb, cond-true, cond-false}
use Rattle.tables.specs.Firsts.{first}
use Rattle.prints.specs.Prints.{crew_line, printing, after_print}
use Rattle.cards.specs.Shown.{ending, crew_lines}
use Rattle.prints.specs.declared.ending.Tail.TheVariants.{End, More}
use Rattle.prints.specs.declared.refusals.BufferRefusal.TheVariants.{TooShort}

-- the front of a buffer that a print tells the length of is the line
pub printed : (line buffer after : List ℕ) (n : ℕ) → Ok n ≡ printing line buffer → after ≡ after_print line buffer → (n ≤ length after) × (take n after ≡ line)
printed line buffer after n tells leaves = by_test (leb (length line) (length buffer)) tells leaves
  where
    by_test : (b : Bool) → Ok n ≡ cond b (Ok (length line)) (Err TooShort) → after ≡ cond b (line ++ drop (length line) buffer) buffer → (n ≤ length after) × (take n after ≡ line)
    by_test true told left =
        let whole : n ≡ length line = cc in
        let long = ap length left ∙ length-append line (drop (length line) buffer) in (
          omega arith,
          (λ i. take (whole i) (left i)) ∙ take_at line (drop (length line) buffer) (length line) refl,
        )
    by_test false told left = let z : ◌≡◌ {A = ℕ} 0 1 = cc in absurd (omega arith)

module _ {A : Type 0} where
  pub none_left : (k : ℕ) (cs : List A) → None ≡ first (drop k cs) → length cs ≤ k
  none_left zero [] is = omega arith
  none_left (suc k) [] is = omega arith
  none_left zero (c ∷ cs) is = let z : ◌≡◌ {A = ℕ} 0 1 = cc in absurd (omega arith)
  none_left (suc k) (c ∷ cs) is = omega (arith, none_left k cs is)

  pub some_left : (k : ℕ) (cs : List A) (c : A) → Some c ≡ first (drop k cs) → k < length cs
  some_left zero [] c is = let z : ◌≡◌ {A = ℕ} 0 1 = cc in absurd (omega arith)
  some_left (suc k) [] c is = let z : ◌≡◌ {A = ℕ} 0 1 = cc in absurd (omega arith)
  some_left zero (b ∷ cs) c is = omega arith
  some_left (suc k) (b ∷ cs) c is = omega (arith, some_left k cs c is)

  pub take_left : (k : ℕ) (cs : List A) (c : A) → Some c ≡ first (drop k cs) → take (suc k) cs ≡ take k cs ++ c ∷ []
  take_left zero [] c is = let z : ◌≡◌ {A = ℕ} 0 1 = cc in absurd (omega arith)
  take_left (suc k) [] c is = let z : ◌≡◌ {A = ℕ} 0 1 = cc in absurd (omega arith)
  take_left zero (b ∷ cs) c is = let same : b ≡ c = cc in ap (λ x. x ∷ []) same
  take_left (suc k) (b ∷ cs) c is = ap (λ l. b ∷ l) (take_left k cs c is)

-- one more line of a crew
pub lines_more : (bytes : List ℕ) (k : ℕ) (cs : List (ℕ × ℕ)) (c : ℕ × ℕ) → Some c ≡ first (drop k cs) → (bytes ++ flat_map crew_line (take k cs)) ++ crew_line c ≡ bytes ++ flat_map crew_line (take (k + 1) cs)
lines_more bytes k cs c is =
    flat_map_more crew_line bytes (take k cs) c ∙ ap (λ l. bytes ++ flat_map crew_line l) (sym (ap (λ n. take n cs) (add-one k) ∙ take_left k cs c is))

-- the list ended before the k-th crew
pub ended : (k : ℕ) (cs : List (ℕ × ℕ)) → k ≤ 512 → k ≤ length cs → None ≡ first (drop k cs) → (End k ≡ ending cs) × (flat_map crew_line (take k cs) ≡ crew_lines cs)
ended k cs few some is =
    let all = none_left k cs is in
    let same : k ≡ length cs = omega arith in (
      ap End same ∙ sym (cond-true (leb (length cs) 512) _ _ (le-leb _ _ (omega arith))),
      ap (flat_map crew_line) (take_all k cs (omega arith) ∙ sym (take_all 512 cs (omega arith))),
    )

-- a crew is left behind the 512 that are shown
pub going_on : (cs : List (ℕ × ℕ)) (c : ℕ × ℕ) → Some c ≡ first (drop 512 cs) → More ≡ ending cs
going_on cs c is = sym (cond-false (leb (length cs) 512) _ _ (lt-leb _ _ (some_left 512 cs c is)))
