-- What a reader gave so far, as the front of what it had. Assumes nothing.
use Rattle.std.proofs.Common.{◌≡◌, ℕ, ◌+◌, ◌≤◌, List, ◌++◌, length, take, drop, Some, None, Option, IfSome, sym, ap, ◌∙◌, append_assoc, append-nil, take-append-drop, length-append, arith}
use Rattle.std.specs.Io.KnownBytes.{Consumes, IsAtEnd}
use Rattle.std.proofs.lemmas.List.{take_at, take_all, length-take-le}

-- what was read is the front of what a reader had, where all the room is filled or nothing is left
pub full : (a b : Option (List ℕ)) (bs : List ℕ) (room : ℕ) → Consumes a b bs → length bs ≡ room → IfSome a (λ xs. bs ≡ take room xs)
full None b bs room got all = tt
full (Some xs) None bs room got all = absurd got
full (Some xs) (Some ys) bs room got all = sym (ap (take room) got ∙ take_at bs ys room all)

pub ended : (a b : Option (List ℕ)) (bs : List ℕ) (room : ℕ) → Consumes a b bs → length bs ≤ room → IsAtEnd b → IfSome a (λ xs. bs ≡ take room xs)
ended None b bs room got short none = tt
ended (Some xs) None bs room got short none = absurd got
ended (Some xs) (Some ys) bs room got short none =
    sym (ap (take room) (got ∙ ap (λ l. bs ++ l) none ∙ append-nil bs) ∙ take_all room bs short)

-- what stands in front after one more read
pub read_more : (front buf behind : List ℕ) (n k : ℕ) → n ≤ length buf → k ≡ length front + n → (k ≤ length (front ++ (buf ++ behind))) × (take k (front ++ (buf ++ behind)) ≡ front ++ take n buf)
read_more front buf behind n k within is =
    let len : length (front ++ take n buf) ≡ k = length-append front (take n buf) ∙ omega (arith, length-take-le n buf within) in
    let cut : front ++ (buf ++ behind) ≡ (front ++ take n buf) ++ (drop n buf ++ behind) =
    ap (λ l. front ++ (l ++ behind)) (sym (take-append-drop n buf)) ∙ ap (λ l. front ++ l) (append_assoc (take n buf) (drop n buf) behind) ∙ sym (append_assoc front (take n buf) (drop n buf ++ behind)) in (
      omega (arith, length-append front (buf ++ behind), length-append buf behind),
      ap (take k) cut ∙ take_at (front ++ take n buf) (drop n buf ++ behind) k len,
    )
