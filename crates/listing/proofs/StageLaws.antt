-- A listing, stage by stage: what stands in the head, and what is to come behind it.
use Prim.Native.Nat.{◌≤◌}
use mathlib.Core.Path.{◌≡◌, ap, sym, ◌∙◌}
use mathlib.Core.List.{[], ◌++◌, append_assoc}
use native.Mathlib.Omega.{arith}
use lib.ListN.{length}
use Rattle.text.specs.Bytes.{Text, bytes}
use Rattle.text.specs.Printed.{number_text}
use Rattle.text_write.specs.Place.{written, Lays}
use Rattle.text_write.specs.declared.Writer.{Writer}
use Rattle.text_write.proofs.WriterLaws.{lays_both, lays_behind}
use Rattle.eos.specs.Causes.{Refusal}
use Rattle.eos.specs.Model as eos
use Rattle.model.specs.declared.Model.{Model}
use Rattle.marking.specs.Held.{tokens_of}
use Rattle.marking.specs.Printed.{block_text}
use Rattle.marking.specs.declared.Marking.{Marking}
use Rattle.marking.specs.Sizes.{sizes_for}
use Rattle.reader.specs.Answers.{pair, unread_triple}
use Rattle.reader.specs.declared.ModelReading.{ModelReading}
use Rattle.keeper.specs.Answers.{weight_triple}
use Rattle.keeper.specs.declared.WeightCheck.{WeightCheck}
use Rattle.listing.specs.Listing.{model_file, weights_file, trace_file, triple_text, sum_text, cover_text, run_text, after_model, listing_text, with_model, with_weights}
use Rattle.runner_trace.specs.Running.{Ran}
use Rattle.std.specs.Prelude.{Result, Err, Ok}
use Rattle.keeper.specs.declared.WeightRefusal.{WeightRefusal}
use Rattle.runner.specs.Answers.{step_triple}
use Rattle.reader.specs.declared.ReadRefusal.{ReadRefusal}

-- behind what stands in the head, a text is laid
front : (text : Text) {old new : Writer} → Lays text old new → new.at ≤ length old.out.now → written new ≡ written old ++ text
front text l n = lays_behind text l (omega (arith, l.place))

module _ (old : Writer) where
  -- the run's lines before its net-tokens
  pub run-listed : (m : Model) (k : Marking) (trace : Text) (r : Ran) → r ≡ trace_file m k trace → (p : Refusal) → p ≡ step_triple r.stop
      → {mid new : Writer} → Lays (number_text (bytes "fired=") r.fired) old mid → Lays (triple_text (bytes "stop=") p) mid new → new.at ≤ length old.out.now
      → written new ++ block_text (bytes "held=") (eos.entries (tokens_of (sizes_for m) r.marking)) ≡ written old ++ run_text m (trace_file m k trace)
  unfolding run_text
  run-listed m k trace r is p stops a b n =
      let fired = number_text (bytes "fired=") r.fired in
      let stop = triple_text (bytes "stop=") p in
      rw (front (fired ++ stop) (lays_both fired stop a b) n, append_assoc, append_assoc, stops, ← is)

  module _ (m : Model) (k : Marking) (weights trace : Text) (o : Result WeightCheck WeightRefusal) (is : o ≡ weights_file m k weights) (p : Refusal) (says : p ≡ weight_triple o) where
    after_is : after_model m k weights trace ≡ with_weights m k trace o
    after_is = ap (with_weights m k trace) (sym is)

    -- refused weights end the listing
    pub weights_end : (e : WeightRefusal) → o ≡ Err e → {new : Writer} → Lays (triple_text (bytes "weights=") p) old new → new.at ≤ length old.out.now
        → written new ≡ written old ++ after_model m k weights trace
    unfolding with_weights
    weights_end e r a n =
        front (triple_text (bytes "weights=") p) a n
        ∙ ap (λ (t : Text). written old ++ t) (ap (triple_text (bytes "weights=")) (says ∙ ap weight_triple r) ∙ sym (after_is ∙ ap (with_weights m k trace) r))

    -- weights that pass, their sum and cover
    pub weights-listed : (c : WeightCheck) → o ≡ Ok c → {f g new : Writer} → Lays (triple_text (bytes "weights=") p) old f → Lays (sum_text c.sum) f g
        → Lays (cover_text c.cover) g new → new.at ≤ length old.out.now
        → written new ++ run_text m (trace_file m k trace) ≡ written old ++ after_model m k weights trace
    unfolding with_weights
    weights-listed c r a b d n =
        let text = triple_text (bytes "weights=") p in
        let sum = sum_text c.sum in
        let cover = cover_text c.cover in
        rw (
          front (text ++ (sum ++ cover)) (lays_both text (sum ++ cover) a (lays_both sum cover b d)) n,
          after_is ∙ ap (with_weights m k trace) r,
          says ∙ ap weight_triple r,
        )
        (simp append_assoc)

module _ (model weights trace : Text) (p : Refusal) {old new : Writer} (none : written old ≡ []) (a : Lays (triple_text (bytes "model=") p) old new) (n : new.at ≤ length old.out.now) where
  first : written new ≡ triple_text (bytes "model=") p
  first = front (triple_text (bytes "model=") p) a n ∙ rw none

  -- a refused model ends the listing
  pub model_end : (e : ReadRefusal) → Err e ≡ model_file model → p ≡ unread_triple e → written new ≡ listing_text model weights trace
  unfolding listing_text with_model
  model_end e is says = first ∙ rw (says, ← is)

  pub model-listed : (r : ModelReading) → Ok r ≡ model_file model → p ≡ pair 0 0 → written new ++ after_model r.model r.start weights trace ≡ listing_text model weights trace
  unfolding listing_text with_model
  model-listed r is says = ap (λ (t : Text). t ++ after_model r.model r.start weights trace) first ∙ rw (says, ← is)
