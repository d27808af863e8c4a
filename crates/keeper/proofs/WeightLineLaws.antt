-- A line of weights, as it is held.
use Prim.Native.Nat.{ℕ, suc, ◌≤◌}
use mathlib.Core.Path.{◌≡◌, refl, subst}
use mathlib.Core.Bool.{true}
use mathlib.Core.List.{List, [], ◌∷◌, map}
use native.Mathlib.Omega.{arith}
use lib.IntN.{ℤ, pos, negsuc}
use borrow.Author.Tests.{leb-true, le-leb}
use Rattle.std.specs.Prelude.{Result}
use Rattle.text.specs.Bytes.{Text}
use Rattle.text.specs.Number.{Read, missing, found, signed_if}
use Rattle.text.specs.Printed.{signed_text}
use Rattle.text.specs.Lines.{Outcome, judged, every, modest, read_row, read_weights}
use Rattle.text.specs.Values.{weight_in}
use Rattle.text.specs.Answers.{kept, row}
use Rattle.text.specs.declared.Fault.{Fault}
use Rattle.text.proofs.Basics.{by_test, and_true}
use Rattle.text.proofs.ListLaws.{weights_row}
use Rattle.text_reader.specs.Place.{Reads}
use Rattle.text_reader.specs.declared.Reader.{Reader}
use Rattle.keeper.specs.Held.{weight_row}

weight_held : (hi : ℕ) (v : ℤ) → hi ≤ 32767 → modest hi v ≡ true → weight_in v ≡ v
weight_held hi (pos n) h e = rw (le-leb n 32767 (omega (arith, leb-true n hi e))) refl
weight_held hi (negsuc n) h e = rw (le-leb n 32767 (omega (arith, leb-true (suc n) hi e))) refl

weights_held : (hi : ℕ) (l : List ℤ) → hi ≤ 32767 → every (modest hi) l ≡ true → map weight_in l ≡ l
weights_held hi [] h e = refl
weights_held hi (v ∷ l) h e =
    let p = and_true (modest hi v) (every (modest hi) l) e in
    rw (weight_held hi v h p.0, weights_held hi l h p.1) refl

-- weights in the range are held as they are
weights_kept : (hi top : ℕ) (out : List ℤ → ℕ) (r : Read (List ℤ)) → hi ≤ 32767
    → kept (row weight_in) (judged (every (modest hi)) out top r) ≡ kept weight_row (judged (every (modest hi)) out top r)
unfolding kept judged row weight_row
weights_kept hi top out (missing b) h = refl
weights_kept hi top out (found l end) h = by_test (every (modest hi) l) (λ e. rw (e, judged, weights_held hi l h e) refl) (λ e. rw (e, judged) refl)

pub weights_read : (hi : ℕ) (key : Text) (n : ℕ) (s : Text) (at : ℕ) {old new : Reader} {r : Result (List ℤ) Fault} → hi ≤ 32767
    → Reads (kept (row weight_in) (read_row (signed_if true) signed_text key n (modest hi) s at)) old new r
    → Reads (kept weight_row (read_weights key n (modest hi) s at)) old new r
unfolding read_row
weights_read hi key n s at {old} {new} {r} h k =
    subst (λ (o : Outcome (List ℤ)). Reads (kept weight_row o) old new r) (weights_row key n (modest hi) s at)
    (subst (λ (o : Outcome (List ℤ)). Reads o old new r) (weights_kept hi at _ _ h) k)
