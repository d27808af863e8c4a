-- A model's text is accepted exactly where it is the printed text of a model within 01's rules and of its start; a marking's text
-- exactly where it is the printed text of right lines. Likes may be split over lines, which stand in any order.
use mathlib.Core.Path.{◌≡◌, refl, ap}
use mathlib.Core.Logic.{◌↔◌}
use mathlib.Core.Bool.{true}
use lib.ListN.{length}
use Rattle.text.specs.Bytes.{Text, bytes}
use Rattle.text.proofs.Basics.{and_true}
use Rattle.text.specs.Lines.{got, need}
use Rattle.text.proofs.TestLaws.{and_both}
use Rattle.text.proofs.Exactly.{Exactly}
use Rattle.text.proofs.ChainExactly.{exactly_by, first_makes, last_makes}
use Rattle.eos.specs.Model as eos
use Rattle.model.specs.Limits.{room_limit}
use Rattle.model.specs.Rules.{right_plant}
use Rattle.model_text.proofs.PlantExactly.{plant_exactly}
use Rattle.marking.specs.Held.{Sizes, sizes_of}
use Rattle.marking.specs.Reading.{read_start, right_start}
use Rattle.marking.specs.Printed.{block_text}
use Rattle.marking.proofs.BlockExactly.{start_exactly}
use Rattle.reader.specs.Reading.{bounds, Loaded, read_lines, read_model, read_marking, right_loaded, read_model_at}
use Rattle.reader.specs.Printed.{model_text}
use Rattle.reader.proofs.EndLaws.{whole_exactly}
use Rattle.text.specs.declared.Cause.TheVariants.{Syntax}

-- ---- a model

-- the lines of a model and of its start
pub lines_exactly : (s : Text) → Exactly s (read_lines s) model_text right_loaded
unfolding read_lines model_text right_loaded need
lines_exactly s =
    exactly_by
    (first_makes (plant_exactly s)
    (λ p. last_makes (start_exactly bounds (sizes_of p.model) s room_limit) (λ ls. true) Syntax (λ ls. record { plant = p; start = ls }) (λ l. l.start) (λ ls h. refl))
    (λ l. l.plant) (λ p l h r. ap (λ (l : Loaded). l.plant) r.2))
    (λ l h. and_both (right_plant l.plant) _ h.0 h.1.0)
    (λ l h. let p = and_true (right_plant l.plant) _ h in (p.0, (p.1, refl, refl)))

-- a model text is accepted with a model and its start exactly where it is their printed text and they are right
pub reads_what_it_says : (s : Text) (l : Loaded) → (read_model s ≡ got l (length s)) ↔ ((s ≡ model_text l) × (right_loaded l ≡ true))
unfolding read_model_at
reads_what_it_says s l = whole_exactly read_lines model_text right_loaded lines_exactly s l

-- and a marking's text exactly where it is the printed text of right lines that there is room for
pub reads_what_marking_says : (z : Sizes) (s : Text) (ls : eos.Lines)
    → (read_marking z s ≡ got ls (length s)) ↔ ((s ≡ block_text (bytes "start=") ls) × (right_start room_limit bounds z ls ≡ true))
reads_what_marking_says z s ls =
    whole_exactly (λ s. read_start room_limit bounds z s) (block_text (bytes "start=")) (right_start room_limit bounds z) (λ s. start_exactly bounds z s room_limit) s ls
