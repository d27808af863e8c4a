-- A listing that was written is as many bytes at the start of the buffer as the answer says.
use Prim.Native.Nat.{ℕ, ◌≤◌}
use mathlib.Core.Path.{◌≡◌, ap, sym, ◌∙◌}
use mathlib.Core.List.{List}
use native.Mathlib.Omega.{arith}
use lib.Dec.{leb}
use lib.ListN.{length, take}
use lib.Seq.{sets, length-sets, length-take-le}
use borrow.Author.Tests.{leb-true, leb-false}
use Rattle.text.proofs.Basics.{by_test}
use Rattle.reader.specs.Answers.{Answered, lay_whole}
use Rattle.std.specs.Prelude.{Result, Ok, Err}
use Rattle.reader.specs.declared.WriteRefusal.{WriteRefusal}
use Rattle.reader.specs.declared.WriteRefusal.TheVariants.{TooSmall}
use Rattle.reader.proofs.WriteAnswers.{whole-fits, whole-short}

pub written_counts : (text out : List ℕ) {r : Result ℕ WriteRefusal} {n : ℕ} {after : List ℕ} → record { answer = r; bytes = after } ≡ lay_whole text out
    → r ≡ Ok n → (n ≤ length after) × (n ≡ length (take n after))
written_counts text out {r} {n} {after} e w =
    by_test (leb (length text) (length out))
    (λ t.
    let g = e ∙ sym (whole-fits text out (leb-true (length text) (length out) t)) in
    let a : r ≡ Ok (length text) = ap (λ (l : Answered). l.answer) g in
    let b = sym w ∙ a in
    let p : n ≡ length text = cc in
    let q : after ≡ sets out 0 text = ap (λ (l : Answered). l.bytes) g in
    let few : n ≤ length after = omega (arith, leb-true (length text) (length out) t, ap length q, length-sets out 0 text) in
    (few, sym (length-take-le n after few)))
    (λ t.
    let g = e ∙ sym (whole-short text out (leb-false (length text) (length out) t)) in
    let a : r ≡ Err (TooSmall (length text)) = ap (λ (l : Answered). l.answer) g in
    let b = sym w ∙ a in
    let z : ◌≡◌ {A = ℕ} 0 1 = cc in
    absurd (omega arith))
