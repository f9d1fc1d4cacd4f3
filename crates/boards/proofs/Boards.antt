-- The lines on a board, and what becomes of them when one is put in or taken out. Assumes nothing.
use Rattle.std.proofs.Common.{◌≡◌, ℕ, suc, ◌+◌, ◌-◌, ◌<◌, ◌≤◌, min, true, cond, ltb, List, ◌++◌, length, take, drop, is_ok, Ok, Err, Ordering, sym, ap, ◌∙◌, subst, add-one, arith}
use Rattle.std.proofs.lemmas.List.{append_assoc, length-append, length-drop, length-take-le, take_at, take-take}
use Rattle.std.proofs.lemmas.Slice.{drop-append-drop}
use Rattle.std.proofs.lemmas.Bool.{cond-true, cond-false, lt-ltb}
use Rattle.std.specs.List.{insert, remove}
use Rattle.boards.specs.Orders.{Laws}
use Rattle.boards.specs.Lines.{places, in_use, Increasing, standing, with_line, without_line, put_answer, after_put, after_take}
use Rattle.boards.proofs.Standing.{is_found, is_missed}
use Rattle.boards.proofs.Edited.{with_split, without_split, with_increasing, without_increasing, length_with, length_without}

module _ {L : Type 0} (memory : List L) (used : ℕ) (within : used ≤ places memory) where
  all_used : in_use memory used ≡ take used memory
  all_used = let all : min used (places memory) ≡ used = omega arith in ap (λ n. take n memory) all

  pub length_in_use : length (in_use memory used) ≡ used
  length_in_use = ap length all_used ∙ length-take-le used memory (omega arith)

  -- the first n of a memory of the same length are in use
  pub kept : (front behind : List L) (n : ℕ) → length (front ++ behind) ≡ length memory → length front ≡ n → n ≤ places memory → in_use (front ++ behind) n ≡ front
  kept front behind n same len room =
      let all : min n (places (front ++ behind)) ≡ n = omega arith in
      ap (λ k. take k (front ++ behind)) all ∙ take_at front behind n len

  whole : (front : List L) (n : ℕ) → n ≤ length memory → length front ≡ n → length (front ++ drop n memory) ≡ length memory
  whole front n room len = length-append front (drop n memory) ∙ ap (λ k. k + length (drop n memory)) len ∙ (let d = length-drop n memory in omega arith)

-- what becomes of a board whose memory had lines on it, where n of the memory are now to be used, and xs are to be on the board
pub record Became {L : Type 0} (order : L → L → Ordering) (memory after : List L) (n : ℕ) (xs : List L) : Type 0 where
  pub lines : in_use after n ≡ xs
  pub increasing : Increasing order (in_use after n)
  pub within : n ≤ places after
  pub behind : drop 4096 after ≡ drop 4096 memory

module _ {L : Type 0} {order : L → L → Ordering} (laws : Laws order) (memory : List L) (used : ℕ) (within : used ≤ places memory)
    (up : Increasing order (in_use memory used)) (x : L) (at : ℕ) where
  -- the search told that x is not there and would stand at the place, and there is room
  module _ (off : Err at ≡ standing order (in_use memory used) x) {rooms : ℕ} (places_are : rooms ≡ places memory) (free : used ≡ rooms → ⊥) where
    room : used < places memory
    room = omega arith

    put_taken : Ok tt ≡ put_answer order (in_use memory used) (places memory) x
    put_taken =
        let n = length_in_use memory used within in
        let room_left : ltb (length (in_use memory used)) (places memory) ≡ true = lt-ltb _ _ (omega arith) in
        sym (cond-false _ _ _ (is_missed order (in_use memory used) x at off).0 ∙ cond-true _ _ _ room_left)

    pub put_done : (front : List L) → front ≡ insert (take (length (take (used + 1) memory) - 1) (take (used + 1) memory)) at x
        → Became order memory (front ++ drop (used + 1) memory) (used + 1) (after_put order (in_use memory used) (places memory) x)
    put_done front is =
        let xs = in_use memory used in
        let told = is_missed order xs x at off in
        let one_less : length (take (used + 1) memory) - 1 ≡ used = let l = length-take-le (used + 1) memory (omega arith) in omega arith in
        let old : take (length (take (used + 1) memory) - 1) (take (used + 1) memory) ≡ xs = rw one_less (take-take used (used + 1) memory (omega arith) ∙ sym (all_used memory used within)) in
        let holds : front ≡ with_line order xs x = is ∙ ap (λ ys. insert ys at x) old ∙ ap (λ k. insert xs k x) told.1 ∙ sym (with_split laws xs x up) in
        let len : length front ≡ used + 1 = ap length holds ∙ length_with order xs x ∙ ap suc (length_in_use memory used within) ∙ sym (add-one used) in
        let all = whole memory used within front (used + 1) (omega arith) len in
        let there : in_use (front ++ drop (used + 1) memory) (used + 1) ≡ with_line order xs x = kept memory used within front (drop (used + 1) memory) (used + 1) all len (omega arith) ∙ holds in
        record {
          lines = there ∙ sym (ap (λ r. cond (is_ok r) (with_line order xs x) xs) (sym put_taken));
          increasing = subst (Increasing order) (sym there) (with_increasing laws xs x up told.0);
          within = omega arith;
          behind = drop-append-drop (used + 1) memory front 4096 (omega arith) len;
        }

  -- the search told that x stands at the place
  module _ (on : Ok at ≡ standing order (in_use memory used) x) where
    pub take_done : (front : List L) → front ≡ remove (take used memory) at ++ drop (length (take used memory) - 1) (take used memory)
        → Became order memory (front ++ drop used memory) (used - 1) (after_take order (in_use memory used) x)
    take_done front is =
        let xs = in_use memory used in
        let told = is_found order xs x at on in
        let old = all_used memory used within in
        let last = drop (length (take used memory) - 1) (take used memory) in
        let rest : remove (take used memory) at ≡ without_line order xs x = ap (λ ys. remove ys at) (sym old) ∙ ap (λ k. remove xs k) told.1 ∙ sym (without_split laws xs x up told.0) in
        let holds : front ≡ without_line order xs x ++ last = is ∙ ap (λ ys. ys ++ last) rest in
        let in_all = length_in_use memory used within in
        let all = length-take-le used memory (omega arith) in
        let one_less = length_without order xs x told.0 in
        let len : length (without_line order xs x) ≡ used - 1 = omega arith in
        let one = length-drop (length (take used memory) - 1) (take used memory) in
        let len_all : length front ≡ used = ap length holds ∙ length-append (without_line order xs x) last ∙ omega arith in
        let joined : front ++ drop used memory ≡ without_line order xs x ++ (last ++ drop used memory) = ap (λ ys. ys ++ drop used memory) holds ∙ append_assoc (without_line order xs x) last (drop used memory) in
        let size = whole memory used within front used (omega arith) len_all in
        let there : in_use (front ++ drop used memory) (used - 1) ≡ without_line order xs x =
        ap (λ ys. in_use ys (used - 1)) joined ∙ kept memory used within (without_line order xs x) (last ++ drop used memory) (used - 1) (sym (ap length joined) ∙ size) len (omega arith) in
        record {
          lines = there ∙ sym (cond-true _ _ _ told.0);
          increasing = subst (Increasing order) (sym there) (without_increasing laws xs x up);
          within = omega arith;
          behind = drop-append-drop used memory front 4096 (omega arith) len_all;
        }
