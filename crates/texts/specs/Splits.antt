-- Bytes cut at the first of a kind. Assumes nothing.
use Rattle.std.specs.Prelude.{ℕ, cond, List, [], ◌∷◌, ◌==◌}

-- the bytes before the first mark, or all of them where there is none
unfoldable pub up_to : ℕ → List ℕ → List ℕ
up_to mark [] = []
up_to mark (b ∷ bs) = cond (b == mark) [] (b ∷ up_to mark bs)

-- the bytes behind the first mark, or none where there is none
unfoldable pub behind : ℕ → List ℕ → List ℕ
behind mark [] = []
behind mark (b ∷ bs) = cond (b == mark) bs (behind mark bs)
