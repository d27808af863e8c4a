-- What a step leaves of a marking that some accepted reading gives, some accepted reading gives too.
use mathlib.Core.Path.{◌≡◌, ◌∙◌}
use mathlib.Core.Bool.{true}
use mathlib.Core.Option.{none}
use lib.Dec.{T}
use Rattle.text.specs.Bytes.{Text}
use Rattle.text.proofs.Basics.{and_true}
use Rattle.eos.specs.Multiset as M
use Rattle.eos.specs.Model as eos
use Rattle.eos.proofs.Basics.{is_true}
use Rattle.eos.specs.Firing.{Written, step_of, after}
use Rattle.eos.specs.Causes.{refusal}
use Rattle.eos.proofs.OrderLaws.{sort_again}
use Rattle.eos.proofs.FiringLaws.{token_order, fires_yes}
use Rattle.eos.proofs.CauseLaws.{no_cause_fires}
use Rattle.model.specs.Limits.{room_limit}
use Rattle.model.specs.Held.{model_of}
use Rattle.model.specs.Test.{held_model}
use Rattle.model.specs.declared.Model.{Model}
use Rattle.marking.specs.Held.{Sizes, hold_marking, tokens_of, has_room}
use Rattle.marking.specs.Sizes.{sizes_for}
use Rattle.marking.specs.declared.Marking.{Marking}
use Rattle.marking.proofs.HoldMarking as hold
use Rattle.marking.proofs.RightTokens.{right_one, spelt_right, held_right_ones, held_ones_right, room_canonical}
use Rattle.marking.proofs.SizeLaws.{held_roomy}
use Rattle.reader.specs.Reading.{bounds}
use Rattle.reader.specs.Answers.{held_in}
use Rattle.reader.proofs.GivenLaws.{Given, given-held, given-model, given_marking, tokens-given}
use Rattle.runner.specs.Answers.{held_step, stepping}
use Rattle.runner.proofs.StandsLaws.{after-every}
use Rattle.runner.proofs.RuledLaws.{RightStep}
use Rattle.runner.proofs.LeavesLaws.{step_hands_on, call_hands_on}

module _ (m : Model) (k : Marking) (given : Given m k) where
  abbrev μ : eos.Marking
  μ = tokens_of (sizes_for m) k

  -- after a step that meets no cause: what stays was within the limits, and what is given was read within them
  after-given : (t : Written) → RightStep (sizes_for m) m.listed t → refusal (has_room room_limit) (model_of m) t μ ≡ none
      → Given m (hold_marking (eos.canonical (after (step_of t) μ)))
  unfolding held_in
  after-given t r e =
      let z : Sizes = sizes_for m in
      let a = and_true (held_model m) _ (given-held m k given) in
      let b = hold.held_tokens z (held_roomy m a.0) k (given_marking m k given) a.1 in
      let ν = eos.canonical (after (step_of t) μ) in
      let f = no_cause_fires (has_room room_limit) (model_of m) t μ e in
      let fit : has_room room_limit ν ≡ true = room_canonical room_limit (after (step_of t) μ) ∙ is_true (has_room room_limit (after (step_of t) μ)) f.1 in
      let right : T (M.every (right_one bounds.counts z) ν) =
      after-every (right_one bounds.counts z) (step_of t) μ (fires_yes (model_of m) (step_of t) μ f.0).1 (held_ones_right z μ b.0) (spelt_right bounds z t.given r.given) in
      tokens-given m a.0 ν (held_right_ones z ν (sort_again eos.before token_order (after (step_of t) μ)) fit right) (given-model m k given)

  -- a step without the held test
  pub held-given : (s : Text) → Given m (held_step room_limit m k s).marking
  held-given s = step_hands_on m k (Given m) given after-given s

  -- the step call
  pub step_given : (s : Text) → Given m (stepping m k s).marking
  step_given s = call_hands_on m k (Given m) given after-given s
