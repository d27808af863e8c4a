-- The lines of a weight file block by block: the outer weights, those of the nets behind them, and the end of the text say what the whole
-- says.
use Prim.Native.Nat.{ℕ, suc}
use mathlib.Core.Path.{◌≡◌, refl, ap}
use mathlib.Core.List.{List, [], ◌∷◌}
use native.Mathlib.Numerals.{add-one}
use lib.IntN.{ℤ}
use lib.ListN.{set}
use Rattle.std.specs.Prelude.{Result}
use Rattle.std.specs.declared.result.Result.TheVariants.{Ok, Err}
use Rattle.text.specs.Bytes.{Text}
use Rattle.text.specs.Lines.{Outcome, then}
use Rattle.text.specs.Repeat.{fill}
use Rattle.text.specs.Answers.{kept, accepted}
use Rattle.text.specs.declared.Fault.{Fault}
use Rattle.text.proofs.Exactly.{then-then}
use Rattle.text_reader.specs.Place.{Reads, lent, closed}
use Rattle.text_reader.specs.declared.Reader.{Reader}
use Rattle.eos.specs.Model as eos
use Rattle.eos.specs.Weights.{Weights}
use Rattle.model.specs.Held.{put_at}
use Rattle.reader.specs.Reading.{read_end}
use Rattle.reader.proofs.EndLaws.{refused_to_end, read_to_end}
use Rattle.keeper.specs.Reading.{read_weights_at}
use Rattle.keeper.specs.Held.{no_rows, weight_row, hold_weights}
use Rattle.keeper.specs.Parts.{read_outer, read_weight_lines, put_next, behind_outer}
use Rattle.keeper.specs.declared.HeldWeights.{HeldWeights}

-- ---- rows behind the outer weights

rows_behind : (l : List (List ℤ)) (i : ℕ) (t : List (List ℤ)) → fill (λ n ws. put_next n (weight_row ws)) i l t ≡ fill (put_at weight_row) (suc i) l t
unfolding fill
rows_behind [] i t = refl
rows_behind (a ∷ l) i t = rw (add-one i) (rows_behind l (suc i) (set t (suc i) (weight_row a)))

-- the outer weights in their row, and the others behind them
pub all_held : (o : List ℤ) (l : List (List ℤ)) → behind_outer (weight_row o) l ≡ hold_weights (record { outward = o; inward = l })
unfolding behind_outer hold_weights fill
all_held o l = ap {B = HeldWeights} (λ (t : List (List ℤ)). record { rows = t }) (rows_behind l 0 (set no_rows 0 (weight_row o)))

-- ---- the whole

module _ (m : eos.Model) where
  pub blocks_are_lines : (s : Text) (at : ℕ) → then (read_weight_lines m s at) (read_end s) ≡ read_weights_at m s at
  unfolding read_weight_lines read_outer read_weights_at then
  blocks_are_lines s at = simp then-then

module _ (o : Outcome Weights) (old new : Reader) where
  -- a line of them is refused
  pub lines_refused : (e : Fault) → Reads (kept hold_weights o) old new (Err e) → Err e ≡ accepted (kept hold_weights (then o (read_end old.src.now)))
  lines_refused = refused_to_end hold_weights o old new

  -- behind lines that ended where they did, it is the reading of the whole text
  pub lines_end : (h : HeldWeights) → Reads (kept hold_weights o) old new (Ok h) → (end : Result (Unit {0}) Fault) → end ≡ accepted (closed new.src.now new.at)
      → lent h end ≡ accepted (kept hold_weights (then o (read_end old.src.now)))
  lines_end = read_to_end hold_weights o old new
