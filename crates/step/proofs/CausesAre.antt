-- The verdict on held lines is the theory's: those of a right step meet the causes that the step meets.
use Prim.Native.Nat.{ℕ, suc, ◌<◌}
use mathlib.Core.Path.{◌≡◌, ap, sym, ◌∙◌}
use mathlib.Core.Bool.{true}
use mathlib.Core.List.{List, [], ◌∷◌, map}
use native.Mathlib.Omega.{arith}
use lib.Dec.{T}
use lib.ListN.{length}
use Rattle.eos.specs.Vector.{◌⊕◌, ◌⊖◌, eq_v}
use Rattle.eos.specs.Multiset as M
use Rattle.eos.specs.Counted.{ones, spelt, there, fits}
use Rattle.eos.specs.Model.{Marking, Lines, Transition, Act, move, idle, alone, Model, places, event, proper}
use Rattle.eos.specs.Firing.{pre, post, outer, inner, of_act, outer_of, inner_of, sees, asks, leaves, outer_taken, outer_given, inner_taken, inner_given, Written, step_of, StepOf, after}
use Rattle.eos.specs.Causes.{first, lacking, causes, refusal}
use Rattle.eos.proofs.CountedLaws.{every_ones}
use Rattle.eos.proofs.FailingLaws.{failing_same}
use Rattle.model.specs.Limits.{alike_limit}
use Rattle.model.specs.Rules.{under, right_plant}
use Rattle.model.proofs.RuleLaws.{right_is, few-places, right_event_lem}
use Rattle.model.proofs.PaddedRows.{eq_padded}
use Rattle.text.specs.Answers.{padded}
use Rattle.model.specs.Acts.{alone_of}
use Rattle.marking.specs.Tokens.{like, before}
use Rattle.marking.specs.Held.{sizes_of, hold_token, hold_line, has_room}
use Rattle.marking.proofs.HeldOrder.{All, none}
use Rattle.marking.proofs.HeldBy.{fits_held}
use Rattle.step.specs.Rule.{hold_sides, hold_rule}
use Rattle.step.specs.Verdict.{outer_entries, types_in, by_alone, outer_taken_in, outer_given_in, inner_taken_in, inner_given_in, lacking_lines, left_held, outer_causes, inner_causes, marking_causes, causes_in}
use Rattle.step.proofs.PaddedTests.{le_padded, moved_padded, moved_long}
use Rattle.step.proofs.SidesHeld.{Side, pre_side, post_side, act-long, inner_side_long, side_row, net-small}
use Rattle.step.proofs.ProjectionLaws.{outer-long, outer_held, types_held, inner-long, inner-held}
use Rattle.step.proofs.LikeTokens.{all_fit, lacking_held}
use Rattle.step.proofs.ChangeLaws.{left_after, all_after}

-- ---- a right step, whose lines each have a net-token
module _ (header : ℕ) (m : Model) (right : right_plant (under header m) ≡ true) (w : Written) (of : StepOf m (step_of w))
    (takes : T (there w.taken)) (gives : T (there w.given)) where
  -- an outer test, of a vector with a number for each place
  outer_same : (v : List ℕ) → length v ≡ places m → (ls : Lines) → T (M.every (proper m) (spelt ls)) → T (there ls)
      → eq_v (outer_entries (map hold_line ls)) (padded v) ≡ eq_v (outer m (spelt ls)) v
  outer_same v long ls h k =
      let a = outer-long _ m right (spelt ls) h in
      rw (outer_held _ m right ls h k) (eq_padded (outer m (spelt ls)) v (a ∙ sym long) (omega (arith, few-places _ (right_is _ right))))

  -- both outer tests, act by act
  abbrev long : Act → Type 0
  long a = (side : Transition → List ℕ) → Side side → length (of_act side m a) ≡ places m

  taken_as : (a : Act) → long a
      → by_alone (alone_of a) (eq_v (outer_entries (map hold_line w.taken)) (padded (of_act pre m a))) (eq_v (types_in (padded m.types) (map hold_line w.taken)) (alone_of a ∷ []))
      ≡ eq_v (sees m a (spelt w.taken)) (asks m a)
  taken_as (move k) l = outer_same (of_act pre m (move k)) (l pre pre_side) w.taken of.taken takes
  taken_as (idle p) l = outer_same (of_act pre m (idle p)) (l pre pre_side) w.taken of.taken takes
  taken_as (alone n) l = ap (λ (v : List ℕ). eq_v v (suc n ∷ [])) (types_held _ m right w.taken)

  given_as : (a : Act) → long a
      → eq_v (outer_entries (map hold_line w.given)) (by_alone (alone_of a) (padded (of_act post m a)) (outer_entries (map hold_line w.taken)))
      ≡ eq_v (outer m (spelt w.given)) (leaves m a (spelt w.taken))
  given_as (move k) l = outer_same (of_act post m (move k)) (l post post_side) w.given of.given gives
  given_as (idle p) l = outer_same (of_act post m (idle p)) (l post post_side) w.given of.given gives
  given_as (alone n) l =
      ap (eq_v (outer_entries (map hold_line w.given))) (outer_held _ m right w.taken of.taken takes)
      ∙ outer_same (outer m (spelt w.taken)) (outer-long _ m right (spelt w.taken) of.taken) w.given of.given gives

  act_is_long : long (event m w.event).act
  act_is_long side f = act-long side f _ m right (event m w.event).act (right_event_lem _ (right_is _ right) w.event of.known).act

  -- the tests of net n
  taken_at : (n : ℕ) → n < length m.nets → inner_taken_in (hold_rule m w.event) (map hold_line w.taken) n ≡ inner_taken m (event m w.event) (spelt w.taken) n
  unfolding inner_taken_in inner_taken hold_rule
  taken_at n k =
      let ev = event m w.event in
      let taken = spelt w.taken in
      let small = net-small _ m right n k in
      rw (side_row pre pre_side _ m right ev n k, inner-held _ m right n k w.taken of.taken takes)
      (le_padded (inner_of pre m ev n) (inner m n taken) (omega (arith, inner_side_long pre pre_side _ m right ev n k))
      (omega (arith, inner-long _ m right n k taken of.taken)))

  given-at : (n : ℕ) → n < length m.nets
      → inner_given_in (hold_rule m w.event) (map hold_line w.taken) (map hold_line w.given) n ≡ inner_given m (event m w.event) (spelt w.taken) (spelt w.given) n
  unfolding inner_given_in inner_given hold_rule
  given-at n k =
      let ev = event m w.event in
      let taken = spelt w.taken in
      let given = spelt w.given in
      let small = net-small _ m right n k in
      let x = inner-long _ m right n k taken of.taken in
      let y = inner_side_long pre pre_side _ m right ev n k in
      let z = inner_side_long post post_side _ m right ev n k in
      let g = inner-long _ m right n k given of.given in
      let l = moved_long (inner m n taken) (inner_of pre m ev n) (inner_of post m ev n) _ x y z in
      rw (
        side_row pre pre_side _ m right ev n k,
        side_row post post_side _ m right ev n k,
        inner-held _ m right n k w.taken of.taken takes,
        inner-held _ m right n k w.given of.given gives,
        moved_padded (inner m n taken) (inner_of pre m ev n) (inner_of post m ev n) _ small x y z,
      )
      (eq_padded (inner m n given) (inner m n taken ⊖ inner_of pre m ev n ⊕ inner_of post m ev n) (g ∙ sym l) (omega arith))

  -- what is held meets the cause that the step meets
  pub causes_are : (room : ℕ) (μ : Marking) → T (M.every (proper m) μ)
      → first (causes_in room (hold_rule m w.event) (map hold_line w.taken) (map hold_line w.given) (map hold_token μ)) ≡ refusal (has_room room) m w μ
  unfolding causes_in outer_causes outer_taken_in outer_given_in inner_causes marking_causes hold_rule hold_sides outer_taken outer_given outer_of refusal causes
  causes_are room μ h =
      let q = hold_rule m w.event in
      let ev = event m w.event in
      let taken = map hold_line w.taken in
      let given = map hold_line w.given in
      let z = sizes_of m in
      let fit_μ : All z μ = all_fit _ m right μ h in
      let fit_taken : All z (spelt w.taken) = all_fit _ m right (spelt w.taken) of.taken in
      let fit_given : All z (spelt w.given) = all_fit _ m right (spelt w.given) of.given in
      let o : outer_taken_in q taken ≡ outer_taken m ev (spelt w.taken) = taken_as ev.act act_is_long in
      let p : outer_given_in q taken given ≡ outer_given m ev (spelt w.taken) (spelt w.given) = given_as ev.act act_is_long in
      let a = failing_same (length m.nets) 0 (inner_taken_in q taken) (inner_taken m ev (spelt w.taken)) (λ i k. taken_at i (omega arith)) in
      let b = failing_same (length m.nets) 0 (inner_given_in q taken given) (inner_given m ev (spelt w.taken) (spelt w.given)) (λ i k. given-at i (omega arith)) in
      let l : lacking_lines (map hold_token μ) 0 [] taken ≡ lacking μ 0 [] w.taken =
      lacking_held z μ 0 [] w.taken fit_μ none (all_fit _ m right (ones w.taken) (every_ones (proper m) w.taken takes of.taken)) in
      let r : fits before like room alike_limit (left_held (map hold_token μ) taken given) ≡ has_room room (after (step_of w) μ) =
      ap (fits before like room alike_limit) (left_after z w μ fit_μ fit_taken) ∙ fits_held z room (after (step_of w) μ) (all_after z w μ fit_μ fit_taken fit_given) in
      rw (o, p, a, b, l, r)
