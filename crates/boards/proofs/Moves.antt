-- What moving lines up by one place leaves. Assumes nothing.
use Rattle.std.proofs.Common.{◌≡◌, ℕ, ◌+◌, ◌-◌, ◌<◌, List, [], ◌∷◌, length, get_or, take, drop, set, ap, ◌∙◌, arith}
use Rattle.std.specs.List.{copy_within, insert}
use Rattle.std.proofs.lemmas.List.{append_assoc, append-nil, set_at, take-take, take_more, drop-take, drop_all, length-take-le}

module _ {X : Type 0} (lines : List X) (at : ℕ) (x : X) (below : at < length lines) where
  pub moved_up : set (copy_within lines at (length lines - 1) (at + 1)) at x ≡ insert (take (length lines - 1) lines) at x
  moved_up =
      let last = length lines - 1 in
      let whole : last ≡ at + (last - at) = omega arith in
      let more = take_more lines at x below in
      let rest : drop at (take last lines) ≡ take (last - at) (drop at lines) = ap (λ n. drop at (take n lines)) whole ∙ drop-take at (last - at) lines in
      let none : drop (at + 1 + (last - at)) lines ≡ [] = drop_all _ lines (omega arith) in
      rw (more, none, rest, take-take at last lines (omega arith), append-nil)
      (ap (λ l. set l at x) (append_assoc (take at lines) (get_or lines at x ∷ []) (take (last - at) (drop at lines)))
      ∙ set_at (take at lines) (get_or lines at x) (take (last - at) (drop at lines)) x at (length-take-le at lines (omega arith)))
