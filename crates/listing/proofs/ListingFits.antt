-- A listing has at most 65,536 bytes, whatever the three files are; so a buffer of that size, as the program `rackrun` has, is never too
-- small for it.
use Prim.Native.Nat.{ℕ, suc, ◌+◌, ◌≤◌}
use mathlib.Core.Path.{refl, ◌≡◌, ap, sym}
use mathlib.Core.Bool.{Bool, true, false}
use mathlib.Core.List.{List, ◌++◌}
use native.Mathlib.Omega.{arith}
use lib.Dec.{leb}
use lib.IntN.{ℤ, pos, negsuc}
use lib.ListN.{length, length-append}
use Rattle.std.proofs.lemmas.Int.{ints}
use lib.Seq.{sets}
use Rattle.text.specs.Bytes.{Text, bytes}
use Rattle.text.specs.Printed.{number_text, texts}
use Rattle.text.proofs.Basics.{by_test, and_true}
use Rattle.text.proofs.LaidLaws.{number_line_length}
use Rattle.eos.specs.Causes.{Refusal}
use Rattle.eos.specs.Model as eos
use Rattle.model.specs.Held.{model_of}
use Rattle.model.specs.Test.{held_model}
use Rattle.model.specs.declared.Model.{Model}
use Rattle.model.proofs.ShapeLaws.{nets-long, events-long}
use Rattle.model.proofs.HeldTests.{held-is, most-nets, most-places, most-events}
use Rattle.marking.specs.Held.{tokens_of}
use Rattle.marking.specs.Printed.{net_token_text, block_text, marking_text}
use Rattle.marking.specs.Sizes.{sizes_for}
use Rattle.marking.specs.declared.Marking.{Marking}
use Rattle.marking.proofs.SizeLaws.{held_roomy}
use Rattle.marking.proofs.WriteLaws.{held_text_length}
use Rattle.reader.specs.Answers.{read_triple, lay_whole, held_in, pair, unread_triple}
use Rattle.reader.proofs.WriteAnswers.{whole-fits}
use Rattle.reader.proofs.GivenLaws.{Given, given-held, given_marking}
use Rattle.runner_trace.proofs.TraceSteps.{run-given}
use Rattle.keeper.specs.Answers.{weight_triple, check_given, unpassed_triple}
use Rattle.keeper.proofs.SumBound.{Within, given_sum_within}
use Rattle.listing.specs.Listing.{file_longest, model_file, weights_file, trace_file, triple_text, sum_text, cover_text, run_text, after_model, listing_text, with_model, with_weights}
use Rattle.listing.proofs.ListingLines.{long-line, triple-length, sum_below, sum-above, cover_length}
use Rattle.listing.proofs.ThreeFiles.{file_given}
use Rattle.listing.proofs.AnswerSizes.{Small, model-small, weights-small, trace_small}
use Rattle.std.specs.Prelude.{Ok, Result, Err}
use Rattle.runner.specs.Answers.{step_triple}
use Rattle.reader.specs.declared.ModelReading.{ModelReading}
use Rattle.keeper.specs.declared.WeightCheck.{WeightCheck}
use Rattle.reader.specs.declared.ReadRefusal.{ReadRefusal}
use Rattle.keeper.specs.declared.WeightRefusal.{WeightRefusal}

-- ---- the lines

-- a triple, and what follows it
triple_fits : (key : Text) (r : Refusal) (rest : Text) (n : ℕ) → Small r → length rest ≤ n → length (triple_text key r ++ rest) ≤ length key + 46 + n
triple_fits key r rest n s h = omega (arith, triple-length key r s.0 s.1 s.2, length-append (triple_text key r) rest, h)

-- 0,0,0
good-small : Small (pair 0 0)
good-small = (omega arith, omega arith, omega arith)

sum_fits : (z : ℤ) → Within z → length (sum_text z) ≤ 26
sum_fits (pos n) w = omega (arith, ap length (sum-above (pos n) n refl (omega (arith, ints))), long-line (bytes "sum=") n (omega (arith, w)))
sum_fits (negsuc n) w = omega (arith, ap length (sum_below (negsuc n) (suc n) refl (omega (arith, ints))), long-line (bytes "sum=-") (suc n) (omega (arith, w)))

cover_fits : (b : Bool) → length (cover_text b) ≤ 8
unfolding cover_text
cover_fits true = cover_length 1 (omega arith)
cover_fits false = cover_length 0 (omega arith)

-- the net-tokens held: the text of the marking, with a key that is a byte shorter
block_fits : (μ : eos.Marking) → length (marking_text μ) ≤ 53002 → length (block_text (bytes "held=") (eos.entries μ)) ≤ 53002
unfolding marking_text block_text
block_fits μ h =
    let ls = eos.entries μ in
    omega (
      arith,
      length-append (number_text (bytes "start=") (length ls)) (texts net_token_text ls),
      length-append (number_text (bytes "held=") (length ls)) (texts net_token_text ls),
      number_line_length (bytes "start=") (length ls),
      number_line_length (bytes "held=") (length ls),
    )

-- ---- a model and a start that an accepted reading gives

module _ (m : Model) (k : Marking) (given : Given m k) where
  held : held_model m ≡ true
  unfolding held_in
  held = (and_true (held_model m) _ (given-held m k given)).0

  nets-few : length (model_of m).nets ≤ 8
  nets-few = omega (arith, nets-long m, most-nets m (held-is m held))

  events-few : length (model_of m).events ≤ 64
  events-few = omega (arith, events-long m, most-events m (held-is m held))

  trace_given : (s : Text) → Given m (trace_file m k s).marking
  unfolding trace_file
  trace_given s = by_test (leb (length s) file_longest) (λ t. rw (t, trace_file) (run-given m k s given)) (λ t. rw (t, trace_file) given)

  weights-within : (s : Text) → Within (check_given (weights_file m k s)).sum
  unfolding weights_file
  weights-within s =
      by_test (leb (length s) file_longest)
      (λ t. rw (t, weights_file) (given_sum_within m k given s))
      (λ t. rw (t, weights_file) (omega arith))

  tokens_fit : (j : Marking) → Given m j → length (block_text (bytes "held=") (eos.entries (tokens_of (sizes_for m) j))) ≤ 53002
  unfolding held_in
  tokens_fit j g =
      block_fits (tokens_of (sizes_for m) j)
      (held_text_length (sizes_for m) (held_roomy m held) (omega (arith, most-places m (held-is m held))) j (given_marking m j g) (and_true (held_model m) _ (given-held m j g)).1)

  run_fits : (s : Text) → length (run_text m (trace_file m k s)) ≤ 53080
  unfolding run_text
  run_fits s =
      let r = trace_file m k s in
      let e = trace_small m nets-few k s in
      let fired = number_text (bytes "fired=") r.fired in
      let stop = triple_text (bytes "stop=") (step_triple r.stop) in
      let block = block_text (bytes "held=") (eos.entries (tokens_of (sizes_for m) r.marking)) in
      omega (
        arith,
        length-append fired (stop ++ block),
        length-append stop block,
        long-line (bytes "fired=") r.fired (omega (arith, e.1)),
        triple-length (bytes "stop=") (step_triple r.stop) e.0.0 e.0.1 e.0.2,
        tokens_fit r.marking (trace_given s),
      )

  after-fits : (weights trace : Text) → length (after_model m k weights trace) ≤ 53168
  unfolding with_weights
  after-fits weights trace = go (weights_file m k weights) (weights-within weights) (weights-small m nets-few events-few k weights)
    where
      go : (o : Result WeightCheck WeightRefusal) → Within (check_given o).sum → Small (weight_triple o) → length (with_weights m k trace o) ≤ 53168
      go (Err e) w s = omega (arith, triple-length (bytes "weights=") (unpassed_triple e) s.0 s.1 s.2)
      go (Ok c) w s =
          let sum = sum_text c.sum in
          let cover = cover_text c.cover in
          let run = run_text m (trace_file m k trace) in
          let rest : length (sum ++ (cover ++ run)) ≤ 53114 =
          omega (
            arith,
            length-append sum (cover ++ run),
            length-append cover run,
            sum_fits c.sum w,
            cover_fits c.cover,
            run_fits trace,
          ) in
          triple_fits (bytes "weights=") (pair 0 0) (sum ++ (cover ++ run)) 53114 good-small rest

-- ---- the listing

module _ (model weights trace : Text) where
  pub listing_fits : length (listing_text model weights trace) ≤ 65536
  unfolding listing_text with_model
  listing_fits = go (model_file model) refl (model-small model)
    where
      go : (o : Result ModelReading ReadRefusal) → o ≡ model_file model → Small (read_triple o) → length (with_model weights trace o) ≤ 65536
      go (Err e) h s = omega (arith, triple-length (bytes "model=") (unread_triple e) s.0 s.1 s.2)
      go (Ok r) h s =
          omega (
            arith,
            triple_fits (bytes "model=") (pair 0 0) (after_model r.model r.start weights trace) 53168 good-small
                (after-fits r.model r.start (file_given model r h) weights trace),
          )

  -- into a buffer of 65,536 bytes it is always written
  pub listing_written : (out : List ℕ) → 65536 ≤ length out
      → lay_whole (listing_text model weights trace) out
      ≡ record { answer = Ok (length (listing_text model weights trace)); bytes = sets out 0 (listing_text model weights trace) }
  listing_written out h = sym (whole-fits (listing_text model weights trace) out (omega (arith, listing_fits)))
