-- Multisets written with counts (02, K7): an element, and how many of it. Ascending, with each element once, a multiset is written so in
-- one way.
use Rattle.std.specs.Prelude.{Bool, cond, not, ◌&&◌, List, [], ◌∷◌, ◌++◌, map, ℕ, suc, ◌+◌, ◌*◌, T, leb, length, replicate}
use Rattle.eos.specs.Multiset as M

-- an element, so many times
pub record Counted (A : Type 0) : Type 0 where
  pub one : A
  pub times : ℕ

module _ {A : Type 0} where
  -- a, n times
  abbrev pub counted : A → ℕ → Counted A
  counted a n = record { one = a; times = n }

  abbrev pub ones : List (Counted A) → List A
  ones es = map (λ e. e.one) es

  -- the multiset: each element as often as it is counted
  abbrev pub spelt : List (Counted A) → List A
  spelt [] = []
  spelt (e ∷ es) = replicate e.times e.one ++ spelt es

  -- at least one of each, and at most n of each
  abbrev pub there : List (Counted A) → Bool
  there es = M.every (λ e. leb 1 e.times) es

  abbrev pub up_to : ℕ → List (Counted A) → Bool
  up_to n es = M.every (λ e. leb e.times n) es

module _ {A : Type 0} (like : A → A → Bool) where
  -- how often a occurs in all
  abbrev pub total : A → List (Counted A) → ℕ
  total a [] = 0
  total a (e ∷ es) = M.bit (like a e.one) * e.times + total a es

  abbrev pub join : A → List (Counted A) → List (Counted A)
  join a [] = counted a 1 ∷ []
  join a (e ∷ es) = cond (like a e.one) (counted a (suc e.times) ∷ es) (counted a 1 ∷ e ∷ es)

  -- neighbours that are like, counted
  abbrev pub grouped : List A → List (Counted A)
  grouped [] = []
  grouped (a ∷ l) = join a (grouped l)

module _ {A : Type 0} (le like : A → A → Bool) where
  -- each element once, ascending, with its count
  abbrev pub tally : List A → List (Counted A)
  tally m = grouped like (M.sort le m)

  -- at most so many unlike elements, and at most so many alike
  unfoldable pub fits : ℕ → ℕ → List A → Bool
  fits unlike alike m = leb (length (tally m)) unlike && up_to alike (tally m)

module _ {A : Type 0} (le : A → A → Bool) where
  -- strictly before
  abbrev pub under : A → A → Bool
  under a b = not (le b a)

  -- each element once, strictly ascending, and at least one of it
  pub record Strict (es : List (Counted A)) : Type 0 where
    pub rising : M.Sorted under (ones es)
    pub some : T (there es)
