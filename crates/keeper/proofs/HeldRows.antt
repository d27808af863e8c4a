-- Where a held model's weights stand, and how many there are.
use Prim.Native.Nat.{ℕ, suc, ◌≤◌, ◌<◌}
use mathlib.Core.Path.{◌≡◌, refl, ap, sym, ◌∙◌}
use mathlib.Core.Bool.{true}
use mathlib.Core.List.{List, [], ◌∷◌}
use native.Mathlib.Omega.{arith}
use lib.IntN.{ℤ, pos}
use lib.ListN.{length, get_or, replicate, get_or-eq_default}
use lib.Seq.{sets}
use Rattle.text.specs.Repeat.{fill}
use Rattle.eos.specs.Model as eos
use Rattle.eos.specs.Weights.{Weights, Shaped}
use Rattle.model.specs.Held.{no_net, put_at, net_of, model_of, row_at}
use Rattle.model.specs.Test.{held_model}
use Rattle.model.specs.declared.Model.{Model}
use Rattle.model.proofs.SlotLaws as slots
use Rattle.model.proofs.SlotLaws.{by_index, cond_below}
use Rattle.model.proofs.HeldTestLoops.{at_any}
use Rattle.model.proofs.HeldTests.{held-is, most-nets, most-places}
use Rattle.marking.proofs.SizeLaws.{nets-small}
use Rattle.weigh.specs.Sums.{number_of}
use Rattle.keeper.specs.Held.{weight_lists, no_row, weight_row, hold_weights}
use Rattle.model.proofs.ShapeLaws.{nets-long, places-long, net-is}

-- ---- rows

sets_fill : (vs l : List ℤ) (i : ℕ) → sets l i vs ≡ fill (put_at (λ v. v)) i vs l
unfolding fill
sets_fill [] l i = refl
sets_fill (v ∷ vs) l i = sets_fill vs _ (suc i)

-- a weight of a row, where it is held
pub number_held : (ws : List ℤ) → length ws ≤ 32 → (i : ℕ) → number_of (weight_row ws) i ≡ number_of ws i
unfolding weight_row
number_held ws few i =
    ap (λ (l : List ℤ). number_of l i) (sets_fill ws no_row 0)
    ∙ by_index (length ws) i
    (λ p. slots.held_at (λ v. v) (pos 0) ws 32 i (pos 0) few p)
    (λ p. slots.held_past (λ v. v) (pos 0) ws 32 i few p ∙ sym (get_or-eq_default ws (pos 0) p))

pub length_row : (ws : List ℤ) → length (weight_row ws) ≡ 32
unfolding weight_row
length_row ws = ap length (sets_fill ws no_row 0) ∙ slots.length-held (λ v. v) (pos 0) ws 32

abbrev pub rows : List (List ℤ) → List (List ℤ)
rows l = fill (put_at weight_row) 0 l (replicate 9 no_row)

pub length_rows : (l : List (List ℤ)) → length (rows l) ≡ 9
length_rows l = slots.length-held weight_row no_row l 9

-- a row, where it is held
pub row_held : (l : List (List ℤ)) → length l ≤ 9 → (r : ℕ) → r < 9 → row_at (rows l) r ≡ weight_row (get_or l r [])
unfolding weight_row
row_held l few r h =
    at_any (rows l) r [] no_row (omega (arith, length_rows l))
    ∙ by_index (length l) r
    (λ p. slots.held_at weight_row no_row l 9 r [] few p)
    (λ p. slots.held_past weight_row no_row l 9 r few p ∙ ap weight_row (sym (get_or-eq_default l [] p)))

-- ---- the weights of a held model

-- what is needed of a model and its weights
pub record Kept (m : Model) (w : Weights) : Type 0 where
  pub held : held_model m ≡ true
  pub types : length m.types ≡ 32
  pub objects : length m.objects ≡ 8
  pub shaped : Shaped (model_of m) w

module _ (m : Model) (w : Weights) (k : Kept m w) where
  pub few-nets : m.nets ≤ 8
  few-nets = most-nets m (held-is m k.held)

  pub few-places : m.places ≤ 32
  few-places = most-places m (held-is m k.held)

  pub outer-long : length w.outward ≡ m.places
  outer-long = k.shaped.outward ∙ places-long m k.types few-places

  pub inner-long : length w.inward ≡ m.nets
  inner-long = k.shaped.inward ∙ nets-long m

  pub net-long : (n : ℕ) → n < m.nets → length (get_or w.inward n []) ≡ (get_or m.objects n no_net).places
  unfolding net_of
  net-long n h = k.shaped.each n ∙ ap (λ (o : eos.ObjectNet). o.size) (net-is m n h)

  pub net-small : (n : ℕ) → (get_or m.objects n no_net).places ≤ 32
  net-small n = nets-small m k.held k.objects n

  -- the outer row, and the row of net n
  pub outer-row : row_at (hold_weights w).rows 0 ≡ weight_row w.outward
  unfolding hold_weights
  outer-row = row_held (weight_lists w) (omega (arith, inner-long, few-nets)) 0 (omega arith)

  pub inner-row : (n : ℕ) → n < m.nets → row_at (hold_weights w).rows (suc n) ≡ weight_row (get_or w.inward n [])
  unfolding hold_weights
  inner-row n h = row_held (weight_lists w) (omega (arith, inner-long, few-nets)) (suc n) (omega (arith, few-nets))

  -- an outer weight, and a weight of net n
  pub outer-at : (i : ℕ) → number_of (row_at (hold_weights w).rows 0) i ≡ number_of w.outward i
  outer-at i = rw outer-row (number_held w.outward (omega (arith, outer-long, few-places)) i)

  pub inner-at : (n : ℕ) → n < m.nets → (i : ℕ) → number_of (row_at (hold_weights w).rows (suc n)) i ≡ number_of (get_or w.inward n []) i
  inner-at n p i = rw (inner-row n p) (number_held (get_or w.inward n []) (omega (arith, net-long n p, net-small n)) i)

  pub outer-few : length (row_at (hold_weights w).rows 0) ≤ 32
  outer-few = rw outer-row (omega (arith, length_row w.outward))

  pub inner-few : (n : ℕ) → n < m.nets → length (row_at (hold_weights w).rows (suc n)) ≤ 32
  inner-few n p = rw (inner-row n p) (omega (arith, length_row (get_or w.inward n [])))
