-- What the parts of the code answer that adds up what an event asks and gives.
use Rattle.std.specs.Prelude.{ℕ, zero, suc, ◌≤◌, ◌<◌, ◌≡◌, List, length, get_or}
use Rattle.eos.specs.Vector.{◌⊕◌, times, zeros}
use Rattle.model.specs.Rules.{nth}
use Rattle.model.specs.Held.{no_row, tabled, row, row_at, row_in, listed, no_net}
use Rattle.model.specs.declared.ObjectNet.{ObjectNet}
use Rattle.model.specs.declared.Model.{Model}

-- v, and n rows from row i on, each as often as it is counted
unfoldable pub sum_rows : (ℕ → ℕ) → (ℕ → List ℕ) → ℕ → ℕ → List ℕ → List ℕ
sum_rows count rows i zero v = v
sum_rows count rows i (suc n) v = sum_rows count rows (suc i) n (v ⊕ times (count i) (rows i))

-- the rows of a net's table, added up over the counts of its transitions
abbrev pub arc_sum : (ObjectNet → List (List ℕ)) → ObjectNet → List ℕ → List ℕ
arc_sum side net counts = sum_rows (nth counts) (row_in 32 (side net)) 0 net.transitions (zeros 32)

-- the same of net n, whose counts are row n
abbrev pub net_sum : (ObjectNet → List (List ℕ)) → List ObjectNet → List (List ℕ) → ℕ → List ℕ
net_sum side objects sync n = arc_sum side (get_or objects n no_net) (row_at sync n)

abbrev pub pre_arcs : ObjectNet → List (List ℕ)
pre_arcs net = net.pre

abbrev pub post_arcs : ObjectNet → List (List ℕ)
post_arcs net = net.post

-- the same of each net, in its row
abbrev pub net_sums : (ObjectNet → List (List ℕ)) → Model → List (List ℕ) → List (List ℕ)
net_sums side m sync = tabled row 8 (listed (net_sum side m.objects sync) 0 m.nets)

-- the rows from n on are not used
pub record Unused (n : ℕ) (rows : List (List ℕ)) : Type 0 where
  pub long : length rows ≡ 8
  pub none : (k : ℕ) → n ≤ k → k < 8 → row_at rows k ≡ no_row
