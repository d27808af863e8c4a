-- A model is refused with 2, 3, 5 or 12 alone, a marking with 2, 3 or 12, and a weight file with 2 or 3.
use Prim.Native.Nat.{ℕ}
use lib.Dec.{leb}
use lib.ListN.{length}
use Rattle.text.specs.Bytes.{Text, bytes}
use Rattle.text.specs.Number.{signed}
use Rattle.text.specs.Printed.{signed_text}
use Rattle.text.specs.Lines.{read_head, read_weights, modest}
use Rattle.text.specs.Repeat.{many_at}
use Rattle.text.proofs.FaultLaws.{Faults, then_faults, need_faults, many_at_faults, head_faults, row_faults}
use Rattle.eos.specs.Model as eos
use Rattle.model.specs.Limits.{room_limit, weight_limit}
use Rattle.model_text.specs.Reading.{read_plant}
use Rattle.model_text.proofs.PlantFaults.{plant_faults}
use Rattle.marking.specs.Held.{Sizes, sizes_of}
use Rattle.marking.specs.Reading.{read_start}
use Rattle.marking.proofs.BlockFaults.{start_faults}
use Rattle.reader.specs.Reading.{bounds, read_end, read_lines, read_model_at, read_model, read_marking}
use Rattle.keeper.specs.Reading.{read_inner, read_weights_at, read_weight_file}
use Rattle.text.specs.declared.Cause.TheVariants.{Syntax}

module _ (P : ℕ → Type 0) (two : P 2) (s : Text) where
  end_faults : {A : Type 0} (a : A) (at : ℕ) → Faults P (read_end s a at)
  unfolding read_end
  end_faults a at = need_faults P (leb (length s) at) Syntax at _ two tt

  module _ (three : P 3) where
    pub marking_faults : P 12 → (z : Sizes) → Faults P (read_marking z s)
    marking_faults twelve z = then_faults P (read_start room_limit bounds z s 0) (read_end s) (start_faults P two three bounds z s twelve room_limit 0) end_faults

    inner_faults : (m : eos.Model) (n at : ℕ) → Faults P (read_inner m s n at)
    unfolding read_inner
    inner_faults m n at = row_faults P two three signed signed_text (bytes "inner=") (eos.net m n).size (modest weight_limit) s at

    pub weight_file_faults : (m : eos.Model) → Faults P (read_weight_file m s)
    unfolding read_weights_at
    weight_file_faults m =
        then_faults P (read_head (bytes "inv=1\n") s 0) _ (head_faults P two (bytes "inv=1\n") s 0)
        (λ _ x₁.
        then_faults P (read_weights (bytes "outer=") (eos.places m) (modest weight_limit) s x₁) _ (row_faults P two three signed signed_text (bytes "outer=") (eos.places m) (modest weight_limit) s x₁)
        (λ o x₂.
        then_faults P (many_at (read_inner m s) 0 (length m.nets) x₂) _ (many_at_faults P (read_inner m s) (inner_faults m) 0 (length m.nets) x₂)
        (λ i x₃. end_faults (record { outward = o; inward = i }) x₃)))

    pub model_faults : P 5 → P 12 → Faults P (read_model s)
    unfolding read_model_at read_lines
    model_faults five twelve =
        then_faults P (read_lines s 0) (read_end s)
        (then_faults P (read_plant s 0) _ (plant_faults P two three five s 0)
        (λ p x. then_faults P (read_start room_limit bounds (sizes_of p.model) s x) _ (start_faults P two three bounds (sizes_of p.model) s twelve room_limit x) (λ ls y. tt)))
        end_faults
