-- What one code more or less does to the places of a list roster, and the words that its codes spell. Assumes nothing.
use Rattle.std.proofs.Common.{◌≡◌, length, take, ℕ, ◌+◌, ◌-◌, ◌*◌, ◌/◌, ◌%◌, ◌^◌, ◌<◌, ◌≤◌, Bool, true, false, cond, ◌&&◌, ◌||◌, eqb, ltb, leb, ◌⊎◌, List, get_or, Decides, sym, refl, ap, ◌∙◌, subst, ap₂, inl, inr, ⊎_elim, lt_of_lt_of_le, add-one, arith, pow_mono}
use Rattle.std.proofs.lemmas.List.{get_or-take, length-take-le}
use mathlib.Core.Path.{fun_ext}
use lib.Bits.{bit_or, or_lt}
use lib.Pow.{pow-lt}
use Rattle.std.proofs.lemmas.Bool.{cases_Bool, cases_lt, cases_eq, cases_order, eqb-true, eq-eqb, ne_eqb, lt-ltb, le-ltb, le-leb, lt-leb, cond-true, cond-false, and_from, and_left, and_right, eqb-false, false≢true}
use Rattle.std.proofs.lemmas.Bool.Decides.{nat_tests, Decides-below_or}
use Rattle.words.specs.Bits.{bit, lone, gather}
use Rattle.words.proofs.Bits.{bit-or, bit_zero, bit_lone, lone_power, bits_same, bit_gather, gather_below}
use Rattle.words.proofs.Listed.{same_tests}
use Rattle.rosters.specs.Coded.{pair_code, some, listed, coded_grid, Ascending, Vacant, PairsOf, FirstPlace, put_in, take_out}
use Rattle.tables.specs.Grid.{slot_word, member_word}
use Rattle.tables.specs.Sheet.{with_pair, unmarked}
use Rattle.words.proofs.Gathering.{gathers_nothing}

pub listed_tells : (used : ℕ) (places : List ℕ) (c : ℕ) → Decides (listed used places c) ((k : ℕ) × (k < used) × (get_or places k 0 ≡ c))
unfolding some
listed_tells used places c =
    Decides-below_or (λ k. eqb (get_or places k 0) c) (λ k. get_or places k 0 ≡ c) (some (λ k. eqb (get_or places k 0) c))
    (λ k. (eqb-true (get_or places k 0) c, eq-eqb (get_or places k 0) c)) refl (λ _. refl) used

-- the codes in use, cut from the places
module _ (places codes : List ℕ) (used : ℕ) (fits : used ≤ length places) (cut : codes ≡ take used places) where
  pub in_use_long : length codes ≡ used
  in_use_long = ap length cut ∙ length-take-le used places fits

  pub in_use_code : (k : ℕ) → k < length codes → (k < used) × (get_or codes k 0 ≡ get_or places k 0)
  in_use_code k h =
      let within : k < used = subst (λ n. k < n) in_use_long h in
      (within, ap (λ l. get_or l k 0) cut ∙ get_or-take used places k 0 within)

-- one place more
pub listed_more : (used : ℕ) (places : List ℕ) (c : ℕ) → listed (used + 1) places c ≡ (eqb (get_or places used 0) c || listed used places c)
unfolding some
listed_more used places c = ap (λ n. listed n places c) (add-one used)

pub listed_none : (places : List ℕ) (c : ℕ) → listed 0 places c ≡ false
unfolding some
listed_none places c = refl

module _ (places : List ℕ) (used c at : ℕ) (first : FirstPlace places used c at) where
  pub listed_found : at < used → get_or places at 0 ≡ c → listed used places c ≡ true
  listed_found l e = (listed_tells used places c).1 (at, l, e)

  pub listed_missing : Ascending used places → (get_or places at 0 ≡ c → ⊥) → listed used places c ≡ false
  listed_missing ascending other = ⊎_elim (λ e. absurd (no ((listed_tells used places c).0 e))) (λ e. e) (cases_Bool (listed used places c))
    where
      no : (k : ℕ) × (k < used) × (get_or places k 0 ≡ c) → ⊥
      no (k, l, e) =
          ⊎_elim (λ same. other (subst (λ k. get_or places k 0 ≡ c) same e))
          (λ apart.
          ⊎_elim (λ below. let h = first.before k below in omega arith)
          (λ above. let h = ascending at k above l in let t = first.there (omega arith) in omega arith) apart)
          (cases_order k at)

-- ---- whether a pair is marked

module _ (n m used i j c at : ℕ) (places : List ℕ) (n-fits : n ≤ 64) (m-fits : m ≤ 64) (hi : i < n) (hj : j < m) (e : c ≡ pair_code i j) (first : FirstPlace places used c at) where
  -- its code is where it belongs
  pub pair_marked : used < 257 → Vacant used places → get_or places at 0 ≡ c → (at < used) × ((coded_grid n m used places).marked i j ≡ true)
  pair_marked room vacant held =
      let l : at < used = ⊎_elim (λ x. x) (λ x. let w = first.within in let v = vacant at x (omega arith) in absurd (omega arith)) (cases_lt at used) in
      (l, and_from _ _ (and_from _ _ (lt-ltb i n hi) (lt-ltb j m hj)) (ap (listed used places) (sym e) ∙ listed_found places used c at first l held))

  -- something else is there
  pub pair_unmarked : Ascending used places → (get_or places at 0 ≡ c → ⊥) → (coded_grid n m used places).marked i j ≡ false
  pair_unmarked ascending other = and_right (ltb i n && ltb j m) _ (ap (listed used places) (sym e) ∙ listed_missing places used c at first ascending other)

-- ---- a code put in where it belongs

module _ (places : List ℕ) (used at c : ℕ) where
  put_in_before : (k : ℕ) → k < at → put_in places used at c k ≡ get_or places k 0
  put_in_before k l = cond-true _ _ _ (lt-ltb k at l)

  pub put_in_here : put_in places used at c at ≡ c
  put_in_here = cond-false _ _ _ (le-ltb at at (omega arith)) ∙ cond-true _ _ _ (eq-eqb at at refl)

  put_in_after : (k : ℕ) → at < k → k ≤ used → put_in places used at c k ≡ get_or places (k - 1) 0
  put_in_after k l u = cond-false _ _ _ (le-ltb k at (omega arith)) ∙ cond-false _ _ _ (ne_eqb k at (λ e. omega arith)) ∙ cond-true _ _ _ (le-leb k used u)

  put_in_past : (k : ℕ) → at ≤ used → used < k → put_in places used at c k ≡ get_or places k 0
  put_in_past k w u = cond-false _ _ _ (le-ltb k at (omega arith)) ∙ cond-false _ _ _ (ne_eqb k at (λ e. omega arith)) ∙ cond-false _ _ _ (lt-leb k used u)

-- the places once the codes are moved up, all but place `at`
pub put_moved : (places : List ℕ) (used at last c k : ℕ) → last ≡ at → (k ≡ at → ⊥) → cond (ltb last k && leb k used) (get_or places (k - 1) 0) (get_or places k 0) ≡ put_in places used at c k
put_moved places used at last c k e apart = grind (arith, nat_tests)

module _ (used c at : ℕ) (places after : List ℕ) (first : FirstPlace places used c at) (put : (k : ℕ) → get_or after k 0 ≡ put_in places used at c k) where
  put_before : (k : ℕ) → k < at → get_or after k 0 ≡ get_or places k 0
  put_before k l = put k ∙ put_in_before places used at c k l

  put_here : get_or after at 0 ≡ c
  put_here = put at ∙ put_in_here places used at c

  put_after : (k : ℕ) → at < k → k < used + 1 → get_or after k 0 ≡ get_or places (k - 1) 0
  put_after k l u = put k ∙ put_in_after places used at c k l (omega arith)

  pub vacant_put : Vacant used places → Vacant (used + 1) after
  vacant_put vacant k u l = put k ∙ put_in_past places used at c k first.within (omega arith) ∙ vacant k (omega arith) l

  pub pairs_put : (n m : ℕ) → PairsOf n m used places → (c / 64 < n) × (c % 64 < m) → PairsOf n m (used + 1) after
  pairs_put n m pairs pair k l =
      ⊎_elim (λ same. subst (λ v. (v / 64 < n) × (v % 64 < m)) (sym (ap (λ k. get_or after k 0) same ∙ put_here)) pair)
      (λ apart.
      ⊎_elim (λ below. let w = first.within in subst (λ v. (v / 64 < n) × (v % 64 < m)) (sym (put_before k below)) (pairs k (omega arith)))
      (λ above. subst (λ v. (v / 64 < n) × (v % 64 < m)) (sym (put_after k above l)) (pairs (k - 1) (omega arith))) apart)
      (cases_order k at)

  module _ (ascending : Ascending used places) (other : get_or places at 0 ≡ c → ⊥) where
    put_less : (k : ℕ) → k < at → get_or after k 0 < c
    put_less k l = let e = put_before k l in let h = first.before k l in omega arith

    put_more : (k : ℕ) → at < k → k < used + 1 → c < get_or after k 0
    put_more k l u =
        let e = put_after k l u in
        let t = first.there (omega arith) in
        ⊎_elim (λ same. let here : get_or places (k - 1) 0 ≡ get_or places at 0 = ap (λ k. get_or places k 0) same in ⊎_elim (λ x. absurd (other x)) (λ x. omega arith) (cases_eq (get_or places at 0) c))
        (λ apart. ⊎_elim (λ x. absurd (omega arith)) (λ x. let h = ascending at (k - 1) x (omega arith) in omega arith) apart)
        (cases_order (k - 1) at)

    pub ascending_put : Ascending (used + 1) after
    ascending_put a b l u =
        ⊎_elim (λ same. let e = ap (λ k. get_or after k 0) same ∙ put_here in let h = put_more b (omega arith) u in omega arith)
        (λ apart.
        ⊎_elim (λ below. left below (cases_order b at))
        (λ above.
        let x = put_after a above (omega arith) in
        let y = put_after b (omega arith) u in
        let h = ascending (a - 1) (b - 1) (omega arith) (omega arith) in
        omega arith) apart)
        (cases_order a at)
      where
        left : a < at → (b ≡ at) ⊎ ((b < at) ⊎ (at < b)) → get_or after a 0 < get_or after b 0
        left below (inl same) = let e = ap (λ k. get_or after k 0) same ∙ put_here in let h = put_less a below in omega arith
        left below (inr (inl low)) = let w = first.within in let x = put_before a below in let y = put_before b low in let h = ascending a b l (omega arith) in omega arith
        left below (inr (inr high)) = let x = put_less a below in let y = put_more b high u in omega arith

  pub listed_put : (d : ℕ) → listed (used + 1) after d ≡ cond (eqb d c) true (listed used places d)
  listed_put d = same_tests (listed (used + 1) after d) (cond (eqb d c) true (listed used places d)) (λ h. there ((listed_tells (used + 1) after d).0 h)) (λ h. back h (cases_Bool (eqb d c)))
    where
      old : listed used places d ≡ true → cond (eqb d c) true (listed used places d) ≡ true
      old h = ⊎_elim (λ e. cond-true _ _ _ e) (λ e. cond-false _ _ _ e ∙ h) (cases_Bool (eqb d c))

      there : (k : ℕ) × (k < used + 1) × (get_or after k 0 ≡ d) → cond (eqb d c) true (listed used places d) ≡ true
      there (k, l, e) =
          ⊎_elim (λ same. cond-true _ _ _ (eq-eqb d c (sym e ∙ ap (λ k. get_or after k 0) same ∙ put_here)))
          (λ apart.
          ⊎_elim (λ below. let w = first.within in old ((listed_tells used places d).1 (k, omega arith, sym (put_before k below) ∙ e)))
          (λ above. old ((listed_tells used places d).1 (k - 1, omega arith, sym (put_after k above l) ∙ e))) apart)
          (cases_order k at)

      moved : (k : ℕ) × (k < used) × (get_or places k 0 ≡ d) → listed (used + 1) after d ≡ true
      moved (k, l, e) =
          ⊎_elim (λ below. (listed_tells (used + 1) after d).1 (k, omega arith, put_before k below ∙ e))
          (λ above. let back : k + 1 - 1 ≡ k = omega arith in (listed_tells (used + 1) after d).1 (k + 1, omega arith, put_after (k + 1) (omega arith) (omega arith) ∙ ap (λ k. get_or places k 0) back ∙ e))
          (cases_lt k at)

      back : cond (eqb d c) true (listed used places d) ≡ true → (eqb d c ≡ true) ⊎ (eqb d c ≡ false) → listed (used + 1) after d ≡ true
      back h (inl e) = let w = first.within in (listed_tells (used + 1) after d).1 (at, omega arith, put_here ∙ sym (eqb-true d c e))
      back h (inr e) = moved ((listed_tells used places d).0 (sym (cond-false (eqb d c) true (listed used places d) e) ∙ h))

-- ---- a code taken out

module _ (used c at : ℕ) (places after : List ℕ) (held : at < used) (is : get_or places at 0 ≡ c) (taken : (k : ℕ) → get_or after k 0 ≡ take_out places used at k) where
  take_before : (k : ℕ) → k < at → get_or after k 0 ≡ get_or places k 0
  take_before k l = taken k ∙ cond-true _ _ _ (lt-ltb k at l)

  take_after : (k : ℕ) → at ≤ k → k < used → get_or after k 0 ≡ get_or places (k + 1) 0
  take_after k l u = taken k ∙ cond-false _ _ _ (le-ltb k at l) ∙ cond-true _ _ _ (lt-ltb k used u)

  pub vacant_take : used < 257 → Vacant used places → Vacant (used - 1) after
  vacant_take room vacant k u l =
      ⊎_elim (λ x. take_after k (omega arith) x ∙ vacant (k + 1) (omega arith) (omega arith))
      (λ x. taken k ∙ cond-false _ _ _ (le-ltb k at (omega arith)) ∙ cond-false _ _ _ (le-ltb k used x) ∙ vacant k x l)
      (cases_lt k used)

  pub pairs_take : (n m : ℕ) → PairsOf n m used places → PairsOf n m (used - 1) after
  pairs_take n m pairs k l =
      ⊎_elim (λ below. subst (λ v. (v / 64 < n) × (v % 64 < m)) (sym (take_before k below)) (pairs k (omega arith)))
      (λ above. subst (λ v. (v / 64 < n) × (v % 64 < m)) (sym (take_after k above (omega arith))) (pairs (k + 1) (omega arith)))
      (cases_lt k at)

  module _ (ascending : Ascending used places) where
    pub ascending_take : Ascending (used - 1) after
    ascending_take a b l u =
        ⊎_elim (λ low. let x = take_before b low in let y = take_before a (omega arith) in let h = ascending a b l (omega arith) in omega arith)
        (λ high.
        let x = take_after b high (omega arith) in
        ⊎_elim (λ below. let y = take_before a below in let h = ascending a (b + 1) (omega arith) (omega arith) in omega arith)
        (λ above. let y = take_after a above (omega arith) in let h = ascending (a + 1) (b + 1) (omega arith) (omega arith) in omega arith)
        (cases_lt a at))
        (cases_lt b at)

    pub listed_take : (d : ℕ) → listed (used - 1) after d ≡ cond (eqb d c) false (listed used places d)
    listed_take d = same_tests (listed (used - 1) after d) (cond (eqb d c) false (listed used places d)) (λ h. there ((listed_tells (used - 1) after d).0 h)) (λ h. back h (cases_Bool (eqb d c)))
      where
        still : (k : ℕ) → k < used → get_or places k 0 ≡ d → (d ≡ c → ⊥) → cond (eqb d c) false (listed used places d) ≡ true
        still k l e other = cond-false _ _ _ (ne_eqb d c other) ∙ (listed_tells used places d).1 (k, l, e)

        there : (k : ℕ) × (k < used - 1) × (get_or after k 0 ≡ d) → cond (eqb d c) false (listed used places d) ≡ true
        there (k, l, e) =
            ⊎_elim (λ below. let h = ascending k at below held in let x = take_before k below in still k (omega arith) (sym x ∙ e) (λ same. omega arith))
            (λ above. let h = ascending at (k + 1) (omega arith) (omega arith) in let x = take_after k above (omega arith) in still (k + 1) (omega arith) (sym x ∙ e) (λ same. omega arith))
            (cases_lt k at)

        moved : (k : ℕ) × (k < used) × (get_or places k 0 ≡ d) → (d ≡ c → ⊥) → listed (used - 1) after d ≡ true
        moved (k, l, e) other =
            ⊎_elim (λ same. absurd (other (sym e ∙ ap (λ k. get_or places k 0) same ∙ is)))
            (λ apart.
            ⊎_elim (λ below. (listed_tells (used - 1) after d).1 (k, omega arith, take_before k below ∙ e))
            (λ above. let next : k - 1 + 1 ≡ k = omega arith in (listed_tells (used - 1) after d).1 (k - 1, omega arith, take_after (k - 1) (omega arith) (omega arith) ∙ ap (λ k. get_or places k 0) next ∙ e)) apart)
            (cases_order k at)

        back : cond (eqb d c) false (listed used places d) ≡ true → (eqb d c ≡ true) ⊎ (eqb d c ≡ false) → listed (used - 1) after d ≡ true
        back h (inl e) = absurd (false≢true (sym (cond-true (eqb d c) false (listed used places d) e) ∙ h))
        back h (inr e) = moved ((listed_tells used places d).0 (sym (cond-false (eqb d c) false (listed used places d) e) ∙ h)) (eqb-false d c e)

-- ---- the grid

-- one code more or less is one pair more or less
pub coded_pair : (n m used used' i j : ℕ) (places after : List ℕ) (told : Bool) → m ≤ 64 → i < n → j < m → ((d : ℕ) → listed used' after d ≡ cond (eqb d (pair_code i j)) told (listed used places d)) → coded_grid n m used' after ≡ with_pair (coded_grid n m used places) i j told
coded_pair n m used used' i j places after told fits hi hj law = ap (λ f. record { members = n; slots = m; marked = f }) (fun_ext (λ x. fun_ext (λ y. ap (λ t. (ltb x n && ltb y m) && t) (law (pair_code x y)) ∙ each x y (listed used places (pair_code x y)))))
  where
    each : (x y : ℕ) (t : Bool) → ((ltb x n && ltb y m) && cond (eqb (64 * x + y) (64 * i + j)) told t) ≡ cond (eqb x i && eqb y j) told ((ltb x n && ltb y m) && t)
    each x y t = grind (arith, nat_tests)

-- no code is no pair
pub coded_none : (n m : ℕ) (places : List ℕ) → coded_grid n m 0 places ≡ unmarked n m
coded_none n m places = ap (λ f. record { members = n; slots = m; marked = f }) (fun_ext (λ x. fun_ext (λ y. and_right (ltb x n && ltb y m) _ (listed_none places (pair_code x y)))))

-- ---- the words that the codes spell

-- word w holds those numbers x below 64 whose code, as f tells it, is in one of the first k places
abbrev pub Spelled : (ℕ → ℕ) → ℕ → List ℕ → ℕ → Type 0
Spelled f k places w = (w < 2 ^ 64) × ((x : ℕ) → x < 64 → bit w x ≡ listed k places (f x))

pub spelled_none : (f : ℕ → ℕ) (places : List ℕ) → Spelled f 0 places 0
spelled_none f places = (omega arith, λ x l. bit_zero x ∙ sym (listed_none places (f x)))

or_swap : (x y : Bool) → (x || y) ≡ (y || x)
or_swap true true = refl
or_swap true false = refl
or_swap false true = refl
or_swap false false = refl

module _ (f : ℕ → ℕ) (k w : ℕ) (places : List ℕ) (sofar : Spelled f k places w) where
  -- the code in place k is that of number t
  pub spelled_taken : (t : ℕ) → t < 64 → ((x : ℕ) → x < 64 → eqb (get_or places k 0) (f x) ≡ eqb x t) → Spelled f (k + 1) places (bit_or w (lone t))
  spelled_taken t fits same = (
    or_lt 64 w (lone t) sofar.0 (subst (λ p. p < 2 ^ 64) (sym (lone_power t fits)) (pow-lt fits)),
    λ x l.
        bit-or w (lone t) x ∙ ap₂ ◌||◌ (sofar.1 x l) (bit_lone t x fits) ∙ or_swap (listed k places (f x)) (eqb x t)
        ∙ sym (listed_more k places (f x) ∙ ap (λ b. b || listed k places (f x)) (same x l)),
  )

  -- it is the code of none
  pub spelled_skipped : ((x : ℕ) → x < 64 → eqb (get_or places k 0) (f x) ≡ false) → Spelled f (k + 1) places w
  spelled_skipped other = (sofar.0, λ x l. sofar.1 x l ∙ sym (listed_more k places (f x) ∙ ap (λ b. b || listed k places (f x)) (other x l)))

-- ---- a code and its member and slot

pub same_slot : (d i : ℕ) → d / 64 ≡ i → (x : ℕ) → x < 64 → eqb d (pair_code i x) ≡ eqb x (d % 64)
same_slot d i same x l = grind (arith, nat_tests)

pub other_member : (d i : ℕ) → (d / 64 ≡ i → ⊥) → (x : ℕ) → x < 64 → eqb d (pair_code i x) ≡ false
other_member d i other x l = ne_eqb d (pair_code i x) (λ e. other (omega arith))

pub same_member : (d j : ℕ) → d % 64 ≡ j → (x : ℕ) → x < 64 → eqb d (pair_code x j) ≡ eqb x (d / 64)
same_member d j same x l = grind (arith, nat_tests)

pub other_slot : (d j : ℕ) → j < 64 → (d % 64 ≡ j → ⊥) → (x : ℕ) → x < 64 → eqb d (pair_code x j) ≡ false
other_slot d j low other x l = ne_eqb d (pair_code x j) (λ e. other (omega arith))

module _ (n m used : ℕ) (places : List ℕ) (n-fits : n ≤ 64) (m-fits : m ≤ 64) (pairs : PairsOf n m used places) where
  -- a code in use has its member and its slot
  code_within : (i j : ℕ) → j < 64 → listed used places (pair_code i j) ≡ true → (i < n) × (j < m)
  code_within i j fits h = at ((listed_tells used places (pair_code i j)).0 h)
    where
      at : (k : ℕ) × (k < used) × (get_or places k 0 ≡ pair_code i j) → (i < n) × (j < m)
      at (k, l, e) = let p = (pairs k l).0 in let q = (pairs k l).1 in (omega arith, omega arith)

  cut : (i j : ℕ) → j < 64 → listed used places (pair_code i j) ≡ ((ltb i n && ltb j m) && listed used places (pair_code i j))
  cut i j fits = ⊎_elim
      (λ h. let p = code_within i j fits h in h ∙ sym (and_from _ _ (and_from _ _ (lt-ltb i n p.0) (lt-ltb j m p.1)) h))
      (λ h. h ∙ sym (and_right (ltb i n && ltb j m) _ h))
      (cases_Bool (listed used places (pair_code i j)))

  twice : (a b t : Bool) → (b && ((a && b) && t)) ≡ ((a && b) && t)
  twice true true t = refl
  twice true false t = refl
  twice false true t = refl
  twice false false t = refl

  again : (a b t : Bool) → (a && ((a && b) && t)) ≡ ((a && b) && t)
  again true b t = refl
  again false b t = refl

  pub spelled_slots : (i w : ℕ) → Spelled (λ x. pair_code i x) used places w → w ≡ slot_word (coded_grid n m used places) i
  unfolding slot_word
  spelled_slots i w all =
      let f : ℕ → Bool = λ j. (ltb i n && ltb j m) && listed used places (pair_code i j) in
      bits_same 64 w (gather f m) all.0 (lt_of_lt_of_le (gather_below f m) (pow_mono m-fits)) (λ j l.
      all.1 j l ∙ cut i j l ∙ sym (bit_gather f m j ∙ twice (ltb i n) (ltb j m) _))

  pub spelled_members : (j w : ℕ) → j < m → Spelled (λ x. pair_code x j) used places w → w ≡ member_word (coded_grid n m used places) j
  unfolding slot_word
  spelled_members j w hj all =
      let f : ℕ → Bool = λ i. (ltb i n && ltb j m) && listed used places (pair_code i j) in
      bits_same 64 w (gather f n) all.0 (lt_of_lt_of_le (gather_below f n) (pow_mono n-fits)) (λ i l.
      all.1 i l ∙ cut i j (omega arith) ∙ sym (bit_gather f n i ∙ again (ltb i n) (ltb j m) _))

  pub coded_no_slot : (j : ℕ) → m ≤ j → 0 ≡ member_word (coded_grid n m used places) j
  unfolding slot_word
  coded_no_slot j past = gathers_nothing (λ i. (ltb i n && ltb j m) && listed used places (pair_code i j)) n n-fits (λ i. and_left (ltb i n && ltb j m) _ (and_right (ltb i n) (ltb j m) (le-ltb j m past)))
