-- What cover gives is found, and where it gives none no found crew has the member and the slot. Assumes nothing.
use Rattle.std.proofs.Common.{◌≡◌, ℕ, List, [], ◌∷◌, Ok, sym, refl, subst, ⊎_elim}
use Rattle.std.specs.List.{ContainsAt}
use Rattle.std.proofs.lemmas.Bool.{cases_Bool}
use Rattle.tables.specs.Crews.{kept}
use Rattle.tables.specs.Firsts.{first}
use Rattle.tables.proofs.Listed.{has_none, has_first, has_kept, kept_has}
use Rattle.finders.specs.Found.{covers, covering}
use Rattle.sessions.specs.Cover.{GivesCover}

-- the first crew with a member and a slot is one of the list, and where there is none the list has none
pub covering_gives : (i j : ℕ) (l : List (ℕ × ℕ)) → GivesCover l i j (Ok (covering i j l))
unfolding covering
covering_gives i j l = go (kept (covers i j) l) refl
  where
    go : (m : List (ℕ × ℕ)) → kept (covers i j) l ≡ m → GivesCover l i j (Ok (first m))
    go [] e = λ c h. ⊎_elim (λ t. absurd (has_none c (subst (λ m. ContainsAt m c) e (has_kept (covers i j) c l h t)))) (λ f. f) (cases_Bool (covers i j c))
    go (c ∷ cs) e = kept_has (covers i j) c l (subst (λ m. ContainsAt m c) (sym e) (has_first c cs))
