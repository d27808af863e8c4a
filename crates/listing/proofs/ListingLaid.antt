-- The head of a listing and behind it the net-tokens, which are laid first.
use Prim.Native.Nat.{ℕ, ◌+◌, ◌≤◌, ◌<◌}
use mathlib.Core.Path.{◌≡◌, refl, ap, sym, ◌∙◌}
use mathlib.Core.List.{List, ◌++◌}
use native.Mathlib.Omega.{arith}
use native.Mathlib.Nat.{zero-add}
use lib.ListN.{length, length-append}
use lib.Seq.{sets, length-sets}
use Rattle.text.specs.Bytes.{bytes}
use Rattle.reader.specs.declared.WriteRefusal.TheVariants as refusal
use Rattle.text.specs.Writing.{Laying, lay}
use Rattle.text.specs.declared.TooSmall.{TooSmall}
use Rattle.std.specs.Prelude.{Result, Ok, Err}
use Rattle.text.proofs.Basics.{by_le}
use Rattle.text.proofs.SetsLaws.{sets_append, sets_apart}
use Rattle.text.proofs.LaidLaws.{lay-whole, lay-short}
use Rattle.eos.specs.Model as eos
use Rattle.model.specs.declared.Model.{Model}
use Rattle.marking.specs.Held.{as_sizes, tokens_of}
use Rattle.marking.specs.Printed.{block_text}
use Rattle.marking.specs.declared.Marking.{Marking}
use Rattle.marking.specs.Sizes.{place_sizes, sizes_for}
use Rattle.marking.specs.declared.PlaceSizes.{PlaceSizes}
use Rattle.reader.specs.Answers.{lay_whole}
use Rattle.reader.proofs.WriteAnswers.{whole-fits, whole-short}

-- a text that fits, laid over the lent bytes
pub laid_whole : (text out laid : List ℕ) {after : List ℕ} → after ≡ laid → laid ≡ sets out 0 text → length text ≤ length out
    → record { answer = Ok (length text); bytes = after } ≡ lay_whole text out
laid_whole text out laid e l fits = rw (e, l) (whole-fits text out fits)

-- the bytes that an answer names
needed_in : Result ℕ TooSmall → ℕ
needed_in (Ok end) = end
needed_in (Err e) = e.needed

module _ (head block out : List ℕ) {w : Result ℕ TooSmall} {mid : List ℕ} (e : record { answer = w; bytes = mid } ≡ lay block out (length head)) where
  same : {l : Laying} → l ≡ lay block out (length head) → (w ≡ l.answer) × (mid ≡ l.bytes)
  same f = (ap (λ (l : Laying). l.answer) (e ∙ sym f), ap (λ (l : Laying). l.bytes) (e ∙ sym f))

  abbrev Behind : ℕ → Type 0
  Behind end = (length head + length block ≤ length out) × (end ≡ length head + length block) × (mid ≡ sets out (length head) block)

  whole_is : {end : ℕ} → w ≡ Ok end → Behind end
  whole_is u =
      by_le (length head + length block) (length out)
      (λ h. let f = same (lay-whole block out (length head) h refl refl) in (h, (cc), f.1))
      (λ h. let f = same (lay-short block out (length head) h refl) in let z : ◌≡◌ {A = ℕ} 0 1 = cc in absurd (omega arith))

  short-is : {n : ℕ} → w ≡ Err (record { needed = n }) → (length out < length head + length block) × (n ≡ length head + length block) × (mid ≡ out)
  unfolding needed_in
  short-is u =
      by_le (length head + length block) (length out)
      (λ h. let f = same (lay-whole block out (length head) h refl refl) in let z : ◌≡◌ {A = ℕ} 0 1 = cc in absurd (omega arith))
      (λ h. let f = same (lay-short block out (length head) h refl) in (h, ap needed_in (sym u ∙ f.0), f.1))

  -- the head has room before them
  pub head_room : {end : ℕ} → w ≡ Ok end → 0 + length head ≤ length mid
  head_room u =
      let p = whole_is u in
      omega (arith, ap length p.2 ∙ length-sets out (length head) block, p.0)

  pub held_whole : {end : ℕ} {after : List ℕ} → w ≡ Ok end → (laid : List ℕ) → after ≡ laid → laid ≡ sets mid 0 head
      → record { answer = Ok end; bytes = after } ≡ lay_whole (head ++ block) out
  held_whole u laid e a =
      let p = whole_is u in
      let n = length-append head block in
      let l : sets (sets out (length head) block) 0 head ≡ sets out 0 (head ++ block) =
      sets_apart head block out 0 (length head) (omega arith) ∙ sym (sets_append head block out 0 ∙ rw (zero-add (length head))) in
      rw (p.1, e, a, p.2, l, ← n) (whole-fits (head ++ block) out (omega (arith, n, p.0)))

  pub held-short : {n : ℕ} → w ≡ Err (record { needed = n }) → record { answer = Err (refusal.TooSmall n); bytes = mid } ≡ lay_whole (head ++ block) out
  held-short u =
      let p = short-is u in
      let n = length-append head block in
      rw (p.1, p.2, ← n) (whole-short (head ++ block) out (omega (arith, n, p.0)))

-- the sizes of a model's net-tokens, as the code has them
pub by_sizes : (m : Model) (k : Marking) (head out : List ℕ) (z : PlaceSizes) → z ≡ place_sizes m
    → lay_whole (head ++ block_text (bytes "held=") (eos.entries (tokens_of (as_sizes z) k))) out ≡ lay_whole (head ++ block_text (bytes "held=") (eos.entries (tokens_of (sizes_for m) k))) out
by_sizes m k head out z e = ap (λ (z : PlaceSizes). lay_whole (head ++ block_text (bytes "held=") (eos.entries (tokens_of (as_sizes z) k))) out) e
