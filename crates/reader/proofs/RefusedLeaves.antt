-- What a refusal leaves: the empty model and no net-token of a reading, every lent byte of a writing. And a writing leaves the bytes past
-- its text.
use Prim.Native.Nat.{ℕ, ◌≤◌}
use mathlib.Core.Path.{◌≡◌, refl}
use mathlib.Core.List.{List}
use mathlib.Core.Logic.{inr}
use native.Mathlib.Omega.{arith}
use lib.ListN.{length, get_or}
use Rattle.text.specs.Bytes.{Text}
use Rattle.text.proofs.Basics.{by_test, by_le}
use Rattle.text.proofs.SetsLaws.{sets_past}
use Rattle.model.specs.Held.{no_model}
use Rattle.model.specs.declared.Model.{Model}
use Rattle.marking.specs.Held.{no_marking}
use Rattle.marking.specs.declared.Marking.{Marking}
use Rattle.reader.specs.Answers.{model_reading, marking_reading, held_both, lay_whole, marking_writing, marking_given, model_given}
use Rattle.reader.proofs.WriteAnswers.{whole-fits, whole-short}
use Rattle.reader.specs.declared.ModelReading.{ModelReading}
use Rattle.std.specs.Prelude.{Ok, Result, Err}
use Rattle.reader.specs.declared.ReadRefusal.{ReadRefusal}
use Rattle.reader.specs.declared.WriteRefusal.{WriteRefusal}

-- a refused text gives the empty model and no net-token
pub refused-model : (s : Text) → ((r : ModelReading) → model_reading s ≡ Ok r → ⊥)
    → ((model_given (model_reading s)).model ≡ no_model) × ((model_given (model_reading s)).start ≡ no_marking)
refused-model s n = go (model_reading s) n
  where
    go : (o : Result ModelReading ReadRefusal) → ((r : ModelReading) → o ≡ Ok r → ⊥) → ((model_given o).model ≡ no_model) × ((model_given o).start ≡ no_marking)
    go (Ok r) n = absurd (n r refl)
    go (Err e) n = (refl, refl)

pub refused_marking : (m : Model) (s : Text) → ((k : Marking) → marking_reading m s ≡ Ok k → ⊥) → marking_given (marking_reading m s) ≡ no_marking
refused_marking m s n = go (marking_reading m s) n
  where
    go : (o : Result Marking ReadRefusal) → ((k : Marking) → o ≡ Ok k → ⊥) → marking_given o ≡ no_marking
    go (Ok k) n = absurd (n k refl)
    go (Err e) n = refl

laid-refused : (text : Text) (out : List ℕ) → ((n : ℕ) → (lay_whole text out).answer ≡ Ok n → ⊥) → (lay_whole text out).bytes ≡ out
laid-refused text out n =
    by_le (length text) (length out)
    (λ h. absurd (n (length text) (rw (← whole-fits text out h))))
    (λ h. rw (← whole-short text out h))

-- a refused writing leaves every lent byte
pub refused_writing : (m : Model) (k : Marking) (out : List ℕ) → ((n : ℕ) → (marking_writing m k out).answer ≡ Ok n → ⊥) →
    (marking_writing m k out).bytes ≡ out
unfolding marking_writing
refused_writing m k out n =
    by_test (held_both m k)
    (λ h. rw (h, marking_writing) (laid-refused _ out (rw (h, marking_writing) at n)))
    (λ h. rw (h, marking_writing))

laid_past : (text : Text) (out : List ℕ) (n j : ℕ) → (lay_whole text out).answer ≡ Ok n → n ≤ j → get_or (lay_whole text out).bytes j 0 ≡ get_or out j 0
laid_past text out n j e b =
    by_le (length text) (length out)
    (λ h. let w : ◌≡◌ {A = Result ℕ WriteRefusal} (Ok (length text)) (Ok n) = rw (← whole-fits text out h) at e in
    let z : length text ≡ n = cc in
    rw (← whole-fits text out h) (sets_past text out 0 j (inr (omega arith))))
    (λ h. rw (← whole-short text out h))

-- a writing leaves the bytes past its text
pub written_past : (m : Model) (k : Marking) (out : List ℕ) (n j : ℕ) → (marking_writing m k out).answer ≡ Ok n → n ≤ j →
    get_or (marking_writing m k out).bytes j 0 ≡ get_or out j 0
unfolding marking_writing
written_past m k out n j e b =
    by_test (held_both m k)
    (λ h. rw (h, marking_writing) (laid_past _ out n j (rw (h, marking_writing) at e) b))
    (λ h. rw (h, marking_writing))
