-- What weights say that passed with cover 1 for the held model and the held start of a model text: they balance, and cover with the sum
-- of the start, which is the sum reported.
use Prim.Native.Nat.{◌≤◌}
use mathlib.Core.Path.{◌≡◌, ap, sym, ◌∙◌}
use mathlib.Core.Bool.{true}
use lib.Dec.{T, leb}
use lib.IntN.{ℤ, pos, nat_abs}
use lib.ListN.{length}
use borrow.Author.Tests.{leb-true, leb-false}
use Rattle.text.specs.Bytes.{Text}
use Rattle.text.proofs.Basics.{by_test, and_true}
use Rattle.text.specs.Lines.{got}
use Rattle.eos.specs.Multiset as M
use Rattle.eos.specs.Counted.{spelt}
use Rattle.eos.specs.Model as eos
use Rattle.eos.specs.Weights.{Weights, Shaped, weigh, Passing, covers}
use Rattle.eos.proofs.Basics.{true_is}
use Rattle.eos.proofs.WeightLaws.{weigh-canonical}
use Rattle.eos.proofs.BoundLaws.{cover_out, cover_in, weigh-positive}
use Rattle.model.specs.Limits.{longest, line_limit, room_limit, cover_limit, count_limit}
use Rattle.model.specs.Rules.{right_plant}
use Rattle.model.specs.Held.{hold_plant, model_of}
use Rattle.model.specs.declared.Model.{Model}
use Rattle.model.proofs.HoldModel.{model_of_hold}
use Rattle.model.proofs.HoldHeld as holding
use Rattle.marking.specs.Held.{Sizes, sizes_of, hold_marking, tokens_of}
use Rattle.marking.specs.Reading.{right_block, right_start}
use Rattle.marking.specs.declared.Marking.{Marking}
use Rattle.marking.proofs.RightTokens.{start_held}
use Rattle.reader.specs.Reading.{bounds, Loaded, right_loaded}
use Rattle.marking.specs.Sizes.{sizes_for}
use Rattle.reader.specs.Answers.{held_both}
use Rattle.marking.proofs.SizeLaws.{held_roomy, sizes_same}
use Rattle.reader.proofs.HeldExactly.{right_parts}
use Rattle.step.proofs.SoundLaws.{proper_read}
use Rattle.promises.proofs.BringLaws.{tokens_again}
use Rattle.keeper.specs.Reading.{read_weight_file}
use Rattle.keeper.specs.Answers.{weight_checking, check_given}
use Rattle.keeper.specs.declared.WeightCheck.{WeightCheck}
use Rattle.keeper.proofs.WeightsReadBack.{weights_were_printed, weights_read_what_they_say, right_shaped}
use Rattle.keeper.proofs.CheckLaws.{check_long, check_unheld}
use Rattle.keeper.proofs.WeightsExactly.{covers_parts, weights_exactly, sum_exactly, cover_exactly, refused≢passed}
use Rattle.std.specs.Prelude.{Ok, Result}
use Rattle.keeper.specs.declared.WeightRefusal.{WeightRefusal}

-- weights of a model that balance, and cover with the sum of a marking, which is the sum reported
pub record Balances (d : eos.Model) (μ : eos.Marking) (file : Text) (sum : ℤ) : Type 0 where
  pub weights : Weights
  pub weighs : read_weight_file d file ≡ got weights (length file)
  pub shaped : Shaped d weights
  pub passing : Passing d weights
  pub covering : covers cover_limit count_limit weights (nat_abs sum) ≡ true
  pub sum_is : weigh d weights μ ≡ sum
  pub whole : sum ≡ pos (nat_abs sum)

-- the same weights of an equal model and an equal marking
balances_as : (d e : eos.Model) (μ ν : eos.Marking) (file : Text) (sum : ℤ) → d ≡ e → μ ≡ ν → Balances d μ file sum → Balances e ν file sum
balances_as d e μ ν file sum p q b = rw (p, q) at b

-- ---- weights that passed for a held model and a held marking

-- what passed was lent a held marking, and a text that is not too long
pub passed_lent : (m : Model) (k : Marking) (file : Text) (w : WeightCheck) → weight_checking m k file ≡ Ok w → (held_both m k ≡ true) × (length file ≤ longest)
passed_lent m k file w passed =
    by_test (leb (length file) longest)
    (λ h.
    let few = leb-true (length file) longest h in
    by_test (held_both m k) (λ t. (t, few)) (λ t. refused≢passed (check_unheld m k file few t ∙ passed)))
    (λ h. refused≢passed (check_long m k file (leb-false (length file) longest h) ∙ passed))

module _ (m : Model) (k : Marking) (file : Text) (sum : ℤ) (passed : weight_checking m k file ≡ Ok (record { sum = sum; cover = true })) where
  short : length file ≤ longest
  short = (passed_lent m k file _ passed).1

  passed-held : held_both m k ≡ true
  passed-held = (passed_lent m k file _ passed).0

  passed_balances : Balances (model_of m) (tokens_of (sizes_for m) k) file sum
  passed_balances =
      let d = model_of m in
      let (w, x, e, p) = (weights_exactly m k file passed-held short).0 (_, passed) in
      let z = weigh d w (tokens_of (sizes_for m) k) in
      let printed = weights_were_printed d file w x e in
      let sh = right_shaped d w printed.1 in
      let cov = (covers_parts cover_limit w (nat_abs z)).1 ((cover_exactly m k file passed-held short w x e p).0 (ap (λ (o : Result WeightCheck WeightRefusal). (check_given o).cover) passed)) in
      let n : z ≡ pos (nat_abs z) =
      weigh-positive d w (tokens_of (sizes_for m) k) (cover_out d w sh cover_limit count_limit (nat_abs z) (true_is cov)) (cover_in d w sh cover_limit count_limit (nat_abs z) (true_is cov)) in
      let s : z ≡ sum = sym (sum_exactly m k file passed-held short w x e p) ∙ ap (λ (o : Result WeightCheck WeightRefusal). (check_given o).sum) passed in
      record {
        weights = w;
        weighs = (weights_read_what_they_say d file w).1 printed;
        shaped = sh;
        passing = p;
        covering = rw s at cov;
        sum_is = s;
        whole = rw s at n;
      }

-- ---- the held model and the held start of a model text

module _ (l : Loaded) (right : right_loaded l ≡ true) where
  abbrev m : Model
  m = hold_plant l.plant

  abbrev k : Marking
  k = hold_marking (eos.canonical (spelt l.start))

  pub model_right : right_plant l.plant ≡ true
  model_right = (right_parts l right).0

  start_right : right_start room_limit bounds (sizes_of l.plant.model) l.start ≡ true
  start_right = (right_parts l right).1

  pub start-made : T (M.every (eos.proper l.plant.model) (spelt l.start))
  unfolding right_block
  start-made =
      let lines = and_true (right_block bounds (sizes_of l.plant.model) l.start) _ start_right in
      proper_read bounds l.plant.model l.start (and_true (leb (length l.start) line_limit) _ lines.0).1

  start-tokens : tokens_of (sizes_for m) k ≡ eos.canonical (spelt l.start)
  start-tokens =
      let z : Sizes = sizes_for m in
      let roomy = held_roomy m (holding.hold_held l.plant model_right) in
      tokens_again z roomy (eos.canonical (spelt l.start)) (start_held z l.start (rw (sizes_same _ l.plant.model model_right) start_right))

  -- weights that passed for them balance, and cover with the sum of the start
  pub start_balances : (file : Text) (sum : ℤ) → weight_checking m k file ≡ Ok (record { sum = sum; cover = true })
      → Balances l.plant.model (spelt l.start) file sum
  start_balances file sum passed =
      let b = balances_as (model_of m) l.plant.model _ _ file sum (model_of_hold l.plant model_right) start-tokens (passed_balances m k file sum passed) in
      record {
        weights = b.weights;
        weighs = b.weighs;
        shaped = b.shaped;
        passing = b.passing;
        covering = b.covering;
        sum_is = sym (weigh-canonical l.plant.model b.weights (spelt l.start)) ∙ b.sum_is;
        whole = b.whole;
      }
