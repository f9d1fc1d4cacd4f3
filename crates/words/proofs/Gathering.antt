-- A word that a loop gathers, one number after the other. Assumes nothing.
use Rattle.std.proofs.Common.{◌≡◌, ℕ, ◌+◌, ◌^◌, ◌<◌, ◌≤◌, Bool, true, false, ◌&&◌, ◌||◌, eqb, ltb, sym, refl, ap, ◌∙◌, subst, ap₂, ⊎_elim, arith}
use lib.Bits.{bit_or, or_lt}
use lib.Pow.{pow-lt}
use Rattle.std.proofs.lemmas.Bool.{le-ltb, both_ways, cases_eq}
use Rattle.std.proofs.lemmas.Bool.Decides.{nat_tests}
use Rattle.words.specs.Bits.{bit, lone, gather}
use Rattle.words.proofs.Bits.{bit-or, bit_zero, bit_lone, lone_power, gathered}

pub and_swap : (x y : Bool) → (x && y) ≡ (y && x)
and_swap true true = refl
and_swap true false = refl
and_swap false true = refl
and_swap false false = refl

-- a test that no number passes gathers nothing
pub gathers_nothing : (f : ℕ → Bool) (k : ℕ) → k ≤ 64 → ((x : ℕ) → f x ≡ false) → 0 ≡ gather f k
gathers_nothing f k fits none = gathered 0 k f fits (omega arith) (λ x. bit_zero x ∙ sym (none x)) (λ x h. absurd (both_ways (f x) (none x) h))

-- word w holds the numbers below i that pass the test f, and no other
abbrev pub GatheredBelow : (ℕ → Bool) → ℕ → ℕ → Type 0
GatheredBelow f i w = (w < 2 ^ 64) × ((x : ℕ) → bit w x ≡ (ltb x i && f x))

pub gathered_none : (f : ℕ → Bool) → GatheredBelow f 0 0
gathered_none f = (omega arith, λ x. bit_zero x ∙ ap (λ t. t && f x) (sym (le-ltb x 0 (omega arith))))

one_more : (x i : ℕ) (t : Bool) → (x ≡ i → ⊥) → (ltb x i && t) ≡ (ltb x (i + 1) && t)
one_more x i t apart = grind (arith, nat_tests)

module _ (f : ℕ → Bool) (i w : ℕ) (sofar : GatheredBelow f i w) where
  -- number i passes
  pub gathered_taken : i < 64 → f i ≡ true → GatheredBelow f (i + 1) (bit_or w (lone i))
  gathered_taken fits passes = (
    or_lt 64 w (lone i) sofar.0 (subst (λ p. p < 2 ^ 64) (sym (lone_power i fits)) (pow-lt fits)),
    λ x.
        bit-or w (lone i) x ∙ ap₂ ◌||◌ (sofar.1 x) (bit_lone i x fits)
        ∙ ⊎_elim (λ e. subst (λ k. ((ltb k i && f k) || eqb k i) ≡ (ltb k (i + 1) && f k)) (sym e) here) (λ apart. there x apart) (cases_eq x i),
  )
    where
      here : ((ltb i i && f i) || eqb i i) ≡ (ltb i (i + 1) && f i)
      here = grind (arith, nat_tests)

      there : (x : ℕ) → (x ≡ i → ⊥) → ((ltb x i && f x) || eqb x i) ≡ (ltb x (i + 1) && f x)
      there x apart = grind (arith, nat_tests)

  -- number i does not
  pub gathered_skipped : f i ≡ false → GatheredBelow f (i + 1) w
  gathered_skipped fails = (
    sofar.0,
    λ x. sofar.1 x ∙ ⊎_elim (λ e. subst (λ k. (ltb k i && f k) ≡ (ltb k (i + 1) && f k)) (sym e) here) (λ apart. one_more x i (f x) apart) (cases_eq x i),
  )
    where
      here : (ltb i i && f i) ≡ (ltb i (i + 1) && f i)
      here = grind (arith, nat_tests)
