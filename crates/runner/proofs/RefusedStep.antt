-- What a refused step leaves: the marking as it was, and no byte used.
use Prim.Native.Nat.{ℕ}
use mathlib.Core.Path.{◌≡◌, refl}
use mathlib.Core.Bool.{Bool, true, false}
use mathlib.Core.Option.{Option, none, some}
use lib.Dec.{leb}
use lib.ListN.{length}
use Rattle.text.specs.Bytes.{Text}
use Rattle.text.proofs.Basics.{by_test}
use Rattle.text.specs.Lines.{Outcome, got, bad}
use Rattle.eos.specs.Model as eos
use Rattle.eos.specs.Firing.{Written}
use Rattle.eos.specs.Causes.{Cause, refusal}
use Rattle.model.specs.Limits.{longest, room_limit}
use Rattle.model.specs.Held.{model_of}
use Rattle.model.specs.declared.Model.{Model}
use Rattle.marking.specs.Held.{tokens_of, has_room}
use Rattle.marking.specs.declared.Marking.{Marking}
use Rattle.reader.specs.Reading.{bounds}
use Rattle.marking.specs.Sizes.{sizes_for}
use Rattle.reader.specs.Answers.{held_both}
use Rattle.step.specs.Reading.{read_step}
use Rattle.runner.specs.Answers.{used_by, step_judged, read_then, tried, stepped, held_step, where_held, stepping, stepping_in, Stepped}
use Rattle.std.specs.Prelude.{Ok}

-- where the answer is not fired, nothing is used and the marking stays
abbrev pub Leaves : Marking → Stepped → Type 0
Leaves k r = ((n : ℕ) → r.answer ≡ Ok n → ⊥) → (r.marking ≡ k) × (used_by r.answer ≡ 0)

judged-leaves : (k : Marking) (μ : eos.Marking) (t : Written) (next : ℕ) (o : Option Cause) → Leaves k (stepped k (step_judged μ t next o))
unfolding step_judged stepped
judged-leaves k μ t next none n = absurd (n next refl)
judged-leaves k μ t next (some r) n = (refl, refl)

read_leaves : (room : ℕ) (k : Marking) (m : eos.Model) (μ : eos.Marking) (s : Text) (o : Outcome Written) → Leaves k (stepped k (read_then room m μ s o))
unfolding read_then stepped
read_leaves room k m μ s (got t next) n = judged-leaves k μ t next (refusal (has_room room) m t μ) n
read_leaves room k m μ s (bad e) n = (refl, refl)

pub step-leaves : (room : ℕ) (m : Model) (k : Marking) (s : Text) → Leaves k (held_step room m k s)
unfolding held_step tried
step-leaves room m k s n =
    read_leaves room k (model_of m) (tokens_of (sizes_for m) k) s (read_step bounds (sizes_for m) (length (model_of m).events) s 0) n

held-leaves : (b : Bool) (room : ℕ) (m : Model) (k : Marking) (s : Text) → Leaves k (where_held b room m k s)
unfolding where_held
held-leaves true room m k s n = step-leaves room m k s n
held-leaves false room m k s n = (refl, refl)

-- a refused step call leaves the marking as it was, and used no byte
pub refused-leaves : (m : Model) (k : Marking) (s : Text) → ((n : ℕ) → (stepping m k s).answer ≡ Ok n → ⊥)
    → ((stepping m k s).marking ≡ k) × (used_by (stepping m k s).answer ≡ 0)
unfolding stepping_in
refused-leaves m k s n =
    by_test (leb (length s) longest)
    (λ h. rw (h, stepping_in) (held-leaves (held_both m k) room_limit m k s (rw (h, stepping_in) at n)))
    (λ h. rw (h, stepping_in) (refl, refl))
