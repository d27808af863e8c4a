-- A step is turned down by its lines, or else it is for the marking to say.
use Prim.Native.Nat.{ℕ}
use mathlib.Core.Path.{◌≡◌, refl, sym}
use mathlib.Core.List.{List, [], ◌∷◌, ◌++◌}
use mathlib.Core.Option.{Option, none, some}
use Rattle.std.specs.Prelude.{Ok, Err}
use Rattle.eos.specs.Causes.{Cause, first}
use Rattle.eos.proofs.Basics.{some_not}
use Rattle.marking.specs.declared.NetToken.{NetToken}
use Rattle.marking.specs.declared.Entry.{Entry}
use Rattle.step.specs.declared.Rule.{Rule}
use Rattle.step.specs.declared.Refusal.{Refusal}
use Rattle.step.specs.Verdict.{line_causes, marking_causes, causes_in, verdict_of}
use Rattle.step.proofs.VerdictLaws.{never, turns}

-- a step that fires meets no cause
none_met : (t : ℕ) (o : Option Cause) → verdict_of t o ≡ Ok tt → o ≡ none
unfolding verdict_of
none_met t none e = refl
none_met t (some c) e = never _ e

-- a list that stands behind one with none
first_behind : (a l : List (Option Cause)) → first a ≡ none → first (a ++ l) ≡ first l
unfolding first
first_behind [] l e = refl
first_behind (none ∷ a) l e = first_behind a l e
first_behind (some c ∷ a) l e = some_not e

-- ---- the whole verdict
module _ (room t : ℕ) (q : Rule) (taken given : List Entry) (held : List NetToken) where
  -- turned down by its lines
  pub by_lines : (r : Refusal) → Err r ≡ verdict_of t (first (line_causes q taken given)) → Err r ≡ verdict_of t (first (causes_in room q taken given held))
  unfolding causes_in
  by_lines r e = sym (turns t (marking_causes room taken given held) (line_causes q taken given) (sym e))

  -- and else it is for the marking to say
  pub by_marking : Ok tt ≡ verdict_of t (first (line_causes q taken given)) → first (causes_in room q taken given held) ≡ first (marking_causes room taken given held)
  unfolding causes_in
  by_marking e = first_behind (line_causes q taken given) (marking_causes room taken given held) (none_met t _ (sym e))
