-- What the verdict is asked of, and what its parts answer.
use Rattle.std.specs.Prelude.{ℕ, ◌+◌, ◌*◌, ◌^◌, ◌≤◌, ◌<◌, ◌≡◌, Bool, List, T, length, get_or}
use Rattle.eos.specs.Vector.{◌⊕◌, ◌⊖◌, times, eq_v}
use Rattle.eos.specs.Counted.{there, up_to}
use Rattle.model.specs.Limits.{line_limit, count_limit, alike_limit}
use Rattle.marking.specs.Tokens.{all_counted, OnPlaces}
use Rattle.marking.specs.declared.Entry.{Entry}
use Rattle.model.specs.Held.{row_at}
use Rattle.step.specs.declared.Rule.{Rule}
use Rattle.step.specs.Verdict.{inside_in, inner_entries}

-- ---- what is required

-- numbers that are small enough to add, in a row and in all rows
abbrev pub Small : List ℕ → Type 0
Small row = (k : ℕ) → get_or row k 0 < 2 ^ 48

abbrev pub SmallRows : List (List ℕ) → Type 0
SmallRows rows = (n : ℕ) → Small (row_at rows n)

-- a rule as a held model gives it: at most 8 nets, each type one of them or 0, and numbers small enough to add
pub record Sound (q : Rule) : Type 0 where
  pub nets : q.nets ≤ 8
  pub types : (p : ℕ) → get_or q.types p 0 ≤ 8
  pub pre : SmallRows q.pre.inner
  pub post : SmallRows q.post.inner

-- the lines of a block: no more than it may have, each on a place, of at least one net-token, and of no more than a line stands for
pub record Placed (es : List Entry) : Type 0 where
  pub few : length es ≤ line_limit
  pub places : OnPlaces es
  pub some : T (there (all_counted es))
  pub small : T (up_to alike_limit (all_counted es))

-- ---- what the parts answer

-- a row of 32 numbers for each net
pub record Rowed (rows : List (List ℕ)) : Type 0 where
  pub many : length rows ≡ 8
  pub long : (n : ℕ) → n < 8 → length (row_at rows n) ≡ 32

-- the insides of an entry's net-tokens added to the sums of their net, which are row n
pub record Added (types : List ℕ) (e : Entry) (before after : List (List ℕ)) : Type 0 where
  pub rowed : Rowed after
  pub rows : (n : ℕ) → n < 8 → row_at after n ≡ row_at before n ⊕ times e.times (inside_in types n e.token)
  pub small : (n k : ℕ) → get_or (row_at after n) k 0 ≤ get_or (row_at before n) k 0 + alike_limit * count_limit

-- the inner projections, that of net n in row n
pub record Inner (types : List ℕ) (es : List Entry) (sums : List (List ℕ)) : Type 0 where
  pub rowed : Rowed sums
  pub rows : (n : ℕ) → n < 8 → row_at sums n ≡ inner_entries types n es
  pub small : SmallRows sums

-- what is made of a net is what is held of it, without pre and with post
abbrev pub even : List ℕ → List ℕ → List ℕ → List ℕ → Bool
even made held pre post = eq_v made (held ⊖ pre ⊕ post)

-- the same of net n, over rows
abbrev pub even_in : List (List ℕ) → List (List ℕ) → List (List ℕ) → List (List ℕ) → ℕ → Bool
even_in made held pre post n = even (row_at made n) (row_at held n) (row_at pre n) (row_at post n)
