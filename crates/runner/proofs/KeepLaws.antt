-- A step on a held marking of a held model leaves a held marking: what stays was held, and what is given was read within the limits.
use Prim.Native.Nat.{◌≤◌}
use mathlib.Core.Path.{◌≡◌, refl, ap, ◌∙◌}
use mathlib.Core.List.{map}
use mathlib.Core.Bool.{true}
use mathlib.Core.Option.{none}
use native.Mathlib.Omega.{arith}
use lib.Dec.{T}
use lib.ListN.{length, length-map}
use Rattle.text.specs.Bytes.{Text}
use Rattle.text.proofs.TestLaws.{and_both}
use Rattle.eos.specs.Multiset as M
use Rattle.eos.specs.Counted.{grouped}
use Rattle.eos.specs.Model as eos
use Rattle.eos.proofs.Basics.{is_true}
use Rattle.eos.specs.Firing.{Written, step_of, after}
use Rattle.eos.specs.Causes.{refusal}
use Rattle.eos.proofs.OrderLaws.{sort_again}
use Rattle.eos.proofs.FiringLaws.{token_order, fires_yes}
use Rattle.eos.proofs.CauseLaws.{no_cause_fires}
use Rattle.model.specs.Limits.{room_limit}
use Rattle.marking.proofs.KeptLaws.{laid_long}
use Rattle.model.specs.Held.{model_of}
use Rattle.model.specs.Test.{held_model}
use Rattle.model.specs.declared.Model.{Model}
use Rattle.marking.specs.Held.{hold_line, hold_marking, tokens_of, has_room}
use Rattle.marking.specs.Reading.{free}
use Rattle.marking.specs.declared.Marking.{Marking}
use Rattle.marking.proofs.HoldMarking.{ordered_held}
use Rattle.marking.proofs.RightTokens.{right_one, spelt_right, entries_right, room_canonical}
use Rattle.reader.specs.Reading.{bounds}
use Rattle.marking.specs.Sizes.{sizes_for}
use Rattle.reader.specs.Answers.{held_both, held_in}
use Rattle.reader.proofs.ReadingLaws.{both_model}
use Rattle.marking.proofs.SizeLaws.{held_roomy}
use Rattle.runner.specs.Answers.{held_step}
use Rattle.runner.proofs.StandsLaws.{Stands, stands_right, any_range, after-every}
use Rattle.runner.proofs.RuledLaws.{RightStep}
use Rattle.runner.proofs.StepAnswers.{both_stands}
use Rattle.runner.proofs.LeavesLaws.{step_hands_on}

-- a held marking, in an array of 256 entries
pub record Keeps (m : Model) (k : Marking) : Type 0 where
  pub held : held_both m k ≡ true
  pub long : length k.entries ≡ room_limit

module _ (m : Model) (k : Marking) (kept : Keeps m k) where
  abbrev μ : eos.Marking
  μ = tokens_of (sizes_for m) k

  st : Stands (sizes_for m) k
  st = both_stands m k kept.long kept.held

  -- the marking after a step that meets no cause
  after_keeps : (t : Written) → RightStep (sizes_for m) m.listed t → refusal (has_room room_limit) (model_of m) t μ ≡ none
      → Keeps m (hold_marking (eos.canonical (after (step_of t) μ)))
  unfolding held_in hold_marking
  after_keeps t r e =
      let z = sizes_for m in
      let model = both_model m k kept.held in
      let ν = eos.canonical (after (step_of t) μ) in
      let order : eos.canonical ν ≡ ν = sort_again eos.before token_order (after (step_of t) μ) in
      let f = no_cause_fires (has_room room_limit) (model_of m) t μ e in
      let fit : has_room room_limit ν ≡ true = room_canonical room_limit (after (step_of t) μ) ∙ is_true (has_room room_limit (after (step_of t) μ)) f.1 in
      let right : T (M.every (right_one free.counts z) ν) =
      after-every (right_one free.counts z) (step_of t) μ (fires_yes (model_of m) (step_of t) μ f.0).1 (stands_right z k st) (spelt_right free z t.given (any_range bounds z t.given r.given)) in
      let es = entries_right free z room_limit ν (λ n q. refl) fit right in
      let same : eos.entries ν ≡ grouped eos.like ν = ap (grouped eos.like) order in
      let few : length (grouped eos.like ν) ≤ room_limit = rw same at es.0 in
      record {
        held = and_both (held_model m) _ model (ordered_held z (held_roomy m model) free ν fit order es.1);
        long = laid_long (map hold_line (grouped eos.like ν)) (omega (arith, length-map (grouped eos.like ν) hold_line));
      }

  pub step_keeps : (s : Text) → Keeps m (held_step room_limit m k s).marking
  step_keeps s = step_hands_on m k (Keeps m) kept after_keeps s
