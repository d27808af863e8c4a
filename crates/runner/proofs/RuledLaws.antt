-- A step that was read is judged on its lines as they are held, and changes the marking, as the theory says.
use Prim.Native.Nat.{ℕ, ◌≤◌, ◌<◌}
use mathlib.Core.Path.{◌≡◌, refl, ap, subst, ◌∙◌}
use mathlib.Core.List.{List, map}
use mathlib.Core.Bool.{true}
use mathlib.Core.Option.{Option, none, some}
use lib.Dec.{T, leb, ltb}
use lib.ListN.{length}
use borrow.Author.Tests.{ltb-true, leb-true}
use Rattle.text.specs.Bytes.{Text}
use Rattle.text.proofs.Basics.{and_true}
use Rattle.text.specs.Lines.{got, every}
use Rattle.eos.specs.Multiset as M
use Rattle.eos.specs.Counted.{spelt}
use Rattle.eos.specs.Model as eos
use Rattle.eos.specs.Firing.{Written, step_of, StepOf, after}
use Rattle.eos.specs.Causes.{Cause, first, refusal}
use Rattle.marking.specs.Tokens.{tokens_in, held_by}
use Rattle.marking.specs.declared.NetToken.{NetToken}
use Rattle.marking.specs.declared.Entry.{Entry}
use Rattle.model.specs.Limits.{line_limit, count_limit}
use Rattle.model.specs.Rules.{right_plant}
use Rattle.model.specs.Held.{SizedModel, model_of, plant_of}
use Rattle.model.specs.Test.{held_model}
use Rattle.model.specs.declared.Model.{Model}
use Rattle.model.proofs.ShapeLaws.{events-long}
use Rattle.model.proofs.HeldTests.{held-is}
use Rattle.model.proofs.HeldBack.{held_again}
use Rattle.model.proofs.HeldRight.{held_right}
use Rattle.marking.specs.Held.{Sizes, sizes_of, hold_line, hold_marking, lines_of, tokens_of, has_room}
use Rattle.marking.specs.Reading.{Limits, free, right_net_token, right_block}
use Rattle.marking.specs.declared.Marking.{Marking}
use Rattle.marking.proofs.HoldMarking.{all_right}
use Rattle.reader.specs.Reading.{bounds}
use Rattle.marking.specs.Sizes.{sizes_for}
use Rattle.marking.proofs.SizeLaws.{held_roomy, sizes_same}
use Rattle.step.specs.Rule.{hold_rule}
use Rattle.step.specs.declared.Rule.{Rule}
use Rattle.step.specs.Reading.{read_step, right_step}
use Rattle.step.proofs.StepExactly.{step_exactly}
use Rattle.step.proofs.ChangeLaws.{change_is}
use Rattle.step.specs.Verdict.{left_held, causes_in}
use Rattle.step.specs.VerdictParts.{Sound, Placed}
use Rattle.step.proofs.CausesAre.{causes_are}
use Rattle.step.proofs.SoundLaws.{sound_rule, placed-held, proper_read, there_read, small_read}
use Rattle.runner.specs.Answers.{step_judged, stepped}
use Rattle.runner.specs.Parts.{ruled}
use Rattle.runner.proofs.StandsLaws.{Stands, stands_all}
use Rattle.std.specs.Prelude.{Ok}

-- ---- a step that was read

-- its event is one of the model's, and its lines are right
pub record RightStep (z : Sizes) (events : ℕ) (t : Written) : Type 0 where
  pub known : t.event < events
  pub take-few : length t.taken ≤ 256
  pub taken : every (right_net_token bounds z) t.taken ≡ true
  pub give_few : length t.given ≤ 256
  pub given : every (right_net_token bounds z) t.given ≡ true

pub read_right : (z : Sizes) (events : ℕ) (s : Text) (t : Written) (next : ℕ) → read_step bounds z events s 0 ≡ got t next → RightStep z events t
unfolding right_step right_block
read_right z events s t next e =
    let p = and_true (ltb t.event events) _ ((step_exactly bounds z events s).back 0 t next e).fine-is in
    let q = and_true (right_block bounds z t.taken) _ p.1 in
    let a = and_true (leb (length t.taken) 256) _ q.0 in
    let b = and_true (leb (length t.given) 256) _ q.1 in
    record {
      known = ltb-true t.event events p.0;
      take-few = leb-true (length t.taken) 256 a.0;
      taken = a.1;
      give_few = leb-true (length t.given) 256 b.0;
      given = b.1;
    }

-- ---- on a held model
module _ (m : Model) (sized : SizedModel m) (held : held_model m ≡ true) where
  model_right : right_plant (plant_of m) ≡ true
  model_right = held_right m sized (held-is m held)

  sizes_are_lem : sizes_for m ≡ sizes_of (model_of m)
  sizes_are_lem = ap sizes_for (held_again m sized (held-is m held)) ∙ sizes_same _ (model_of m) model_right

  proper_of : (lim : Limits) (ls : eos.Lines) → every (right_net_token lim (sizes_for m)) ls ≡ true → T (M.every (eos.proper (model_of m)) (spelt ls))
  proper_of lim ls h = proper_read lim (model_of m) ls (subst (λ (z : Sizes). every (right_net_token lim z) ls ≡ true) sizes_are_lem h)

  -- lines that were read
  pub read_placed : (ls : eos.Lines) → every (right_net_token bounds (sizes_for m)) ls ≡ true → length ls ≤ 256 → (es : List Entry)
      → es ≡ map hold_line ls → Placed es
  read_placed ls h few es is =
      let z = sizes_for m in
      rw is (placed-held _ (model_of m) model_right ls (proper_of bounds ls h) (there_read bounds z ls h) (small_read line_limit count_limit z ls h) few)

  module _ (t : Written) (r : RightStep (sizes_for m) m.listed t) where
    of_model : StepOf (model_of m) (step_of t)
    of_model = record { known = rw (events-long m) r.known; taken = proper_of bounds t.taken r.taken; given = proper_of bounds t.given r.given }

    pub rule_is_sound : (q : Rule) (e : ℕ) → q ≡ hold_rule (model_of m) e → e ≡ t.event → Sound q
    rule_is_sound q e h f = rw (h, f) (sound_rule _ (model_of m) model_right t.event of_model.known)

    module _ (room : ℕ) (k : Marking) (st : Stands (sizes_for m) k) where
      abbrev μ : eos.Marking
      μ = tokens_of (sizes_for m) k

      abbrev taken : List Entry
      taken = map hold_line t.taken

      abbrev given : List Entry
      given = map hold_line t.given

      -- the verdict on them is that of the theory
      cause_same : first (causes_in room (hold_rule (model_of m) t.event) taken given (tokens_in k)) ≡ refusal (has_room room) (model_of m) t μ
      unfolding tokens_of
      cause_same =
          ap (λ (ts : List NetToken). first (causes_in room (hold_rule (model_of m) t.event) taken given ts)) st.held_are
          ∙ causes_are _ (model_of m) model_right t of_model (there_read bounds (sizes_for m) t.taken r.taken) (there_read bounds (sizes_for m) t.given r.given) room μ
          (proper_of free (lines_of (sizes_for m) k) st.right)

      -- and so is the marking after it
      change_same : held_by (left_held (tokens_in k) taken given) ≡ hold_marking (eos.canonical (after (step_of t) μ))
      change_same =
          let z = sizes_for m in
          let roomy = held_roomy m held in
          ap (λ (ts : List NetToken). held_by (left_held ts taken given)) st.held_are
          ∙ change_is z t μ (stands_all z k st roomy) (all_right bounds z roomy t.taken r.taken) (all_right bounds z roomy t.given r.given)

      judged_same : (next : ℕ) (o : Option Cause) → ruled next k (length t.taken) (left_held (tokens_in k) taken given) o ≡ stepped k (step_judged μ t next o)
      unfolding ruled step_judged stepped
      judged_same next none = ap (λ (k : Marking). record { answer = Ok next; marking = k }) change_same
      judged_same next (some c) = refl

      pub ruled_same : (next : ℕ) → ruled next k (length t.taken) (left_held (tokens_in k) taken given) (first (causes_in room (hold_rule (model_of m) t.event) taken given (tokens_in k)))
          ≡ stepped k (step_judged μ t next (refusal (has_room room) (model_of m) t μ))
      ruled_same next =
          ap (λ (o : Option Cause). ruled next k (length t.taken) (left_held (tokens_in k) taken given) o) cause_same ∙ judged_same next (refusal (has_room room) (model_of m) t μ)
