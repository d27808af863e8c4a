-- The listing as the paper says it: it "ends after the first of model, weights that is not 0,0".
use Prim.Native.Nat.{ℕ}
use mathlib.Core.Path.{◌≡◌, refl, sym}
use mathlib.Core.List.{[], ◌++◌}
use mathlib.Core.Bool.{Bool, true, false, ◌&&◌}
use lib.Dec.{eqb}
use Rattle.std.proofs.Common.{append-nil}
use Rattle.std.specs.Prelude.{Result, Ok, Err}
use Rattle.text.specs.Bytes.{Text, bytes}
use Rattle.text.specs.Lines.{cause_number}
use Rattle.text.specs.declared.Cause.{Cause}
use Rattle.text.specs.declared.Cause.TheVariants.{Syntax, Range, Idling, Crowded}
use Rattle.eos.specs.Causes.{Refusal}
use Rattle.model.specs.declared.Model.{Model}
use Rattle.marking.specs.declared.Marking.{Marking}
use Rattle.reader.specs.Answers.{triple, unread_triple, read_triple, model_given}
use Rattle.reader.specs.declared.ReadRefusal.{ReadRefusal}
use Rattle.reader.specs.declared.ReadRefusal.TheVariants.{TooLong, NotHeld, Faulty}
use Rattle.reader.specs.declared.ModelReading.{ModelReading}
use Rattle.keeper.specs.Answers.{unpassed_triple, weight_triple, check_given}
use Rattle.keeper.specs.declared.WeightRefusal.{WeightRefusal}
use Rattle.keeper.specs.declared.WeightRefusal.TheVariants.{Unread, Weightless, Unbalanced}
use Rattle.keeper.specs.declared.WeightCheck.{WeightCheck}
use Rattle.listing.specs.Listing.{triple_text, sum_text, cover_text, run_text, model_file, weights_file, trace_file, with_weights, after_model, with_model, listing_text}

-- "0,0 if accepted", and 02's column
abbrev pub accepted : Refusal → Bool
accepted r = eqb r.number 0 && (eqb r.beside 0 && eqb r.column 0)

-- a triple, and behind it the rest where it is 0,0,0
abbrev pub triple_then : Text → Refusal → Text → Text
triple_then key r rest = triple_text key r ++ elim (accepted r) [ true ↦ rest | false ↦ [] ]

-- no refusal has 0,0,0
cause_refused : (c : Cause) (line column : ℕ) → accepted (triple (cause_number c) line column) ≡ false
cause_refused Syntax line column = refl
cause_refused Range line column = refl
cause_refused Idling line column = refl
cause_refused Crowded line column = refl

unread_refused : (e : ReadRefusal) → accepted (unread_triple e) ≡ false
unread_refused TooLong = refl
unread_refused NotHeld = refl
unread_refused (Faulty p) = cause_refused p.cause p.line p.column

unpassed_refused : (e : WeightRefusal) → accepted (unpassed_triple e) ≡ false
unpassed_refused (Unread e) = unread_refused e
unpassed_refused (Weightless line) = refl
unpassed_refused (Unbalanced event) = refl

refused_ends : (key : Text) (r : Refusal) (rest : Text) → accepted r ≡ false → triple_text key r ≡ triple_then key r rest
refused_ends key r rest h = rw h (sym (append-nil (triple_text key r)))

-- from the weights on
pub weights_then : (m : Model) (k : Marking) (weights trace : Text) → let o = weights_file m k weights in let c = check_given o in
    after_model m k weights trace
    ≡ triple_then (bytes "weights=") (weight_triple o) (sum_text c.sum ++ (cover_text c.cover ++ run_text m (trace_file m k trace)))
unfolding with_weights
weights_then m k weights trace = go (weights_file m k weights)
  where
    go : (o : Result WeightCheck WeightRefusal) → let c = check_given o in
        with_weights m k trace o ≡ triple_then (bytes "weights=") (weight_triple o) (sum_text c.sum ++ (cover_text c.cover ++ run_text m (trace_file m k trace)))
    go (Ok c) = refl
    go (Err e) = refused_ends (bytes "weights=") (unpassed_triple e) _ (unpassed_refused e)

-- the whole listing
pub model_then : (model weights trace : Text) → let o = model_file model in let r = model_given o in
    listing_text model weights trace ≡ triple_then (bytes "model=") (read_triple o) (after_model r.model r.start weights trace)
unfolding listing_text with_model
model_then model weights trace = go (model_file model)
  where
    go : (o : Result ModelReading ReadRefusal) → let r = model_given o in
        with_model weights trace o ≡ triple_then (bytes "model=") (read_triple o) (after_model r.model r.start weights trace)
    go (Ok r) = refl
    go (Err e) = refused_ends (bytes "model=") (unread_triple e) _ (unread_refused e)
