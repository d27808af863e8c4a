-- How an event's sides are held, added up over the counts of its transitions: what net n has stands in row n; unused room 0.
use Rattle.std.specs.Prelude.{ℕ, List, length, replicate}
use Rattle.text.specs.Answers.{padded}
use Rattle.eos.specs.Model as eos
use Rattle.eos.specs.Firing.{outer_of, inner_of, pre, post}
use Rattle.model.specs.Acts.{alone_of}
use Rattle.model.specs.Held.{no_row, tabled, row, listed}
use Rattle.step.specs.declared.Sides.{Sides}
use Rattle.step.specs.declared.Rule.{Rule}

-- pre(τ̂) or post(τ̂), and for each net pre_N(θ(N)) or post_N(θ(N))
unfoldable pub hold_sides : (eos.Transition → List ℕ) → eos.Model → eos.Event → Sides
hold_sides side m e = record { outer = padded (outer_of side m e); inner = tabled row 8 (listed (inner_of side m e) 0 (length m.nets)) }

-- what the firing rule asks of a step of event k
unfoldable pub hold_rule : eos.Model → ℕ → Rule
hold_rule m k = record {
  nets = length m.nets;
  alone = alone_of (eos.event m k).act;
  types = padded m.types;
  pre = hold_sides pre m (eos.event m k);
  post = hold_sides post m (eos.event m k);
}

-- room that is not used
abbrev pub no_sides : Sides
no_sides = record { outer = no_row; inner = replicate 8 no_row }

abbrev pub no_rule : Rule
no_rule = record { nets = 0; alone = 0; types = replicate 32 0; pre = no_sides; post = no_sides }
