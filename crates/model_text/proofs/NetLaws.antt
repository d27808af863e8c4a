-- The lines of an object net read one after the other, and what an object net that is read keeps to.
use Prim.Native.Nat.{ℕ, ◌≤◌}
use mathlib.Core.Path.{◌≡◌, refl}
use mathlib.Core.List.{List}
use mathlib.Core.Bool.{true}
use lib.Dec.{leb}
use borrow.Author.Tests.{le-leb}
use native.Mathlib.Omega.{arith}
use lib.ListN.{length}
use Rattle.text.specs.Bytes.{Text, bytes}
use Rattle.std.specs.Prelude.{Result}
use Rattle.std.specs.declared.result.Result.TheVariants.{Ok, Err}
use Rattle.text.specs.Lines.{Outcome, got, then, many, in_range, read_number}
use Rattle.text.specs.Answers.{kept}
use Rattle.text.specs.declared.Fault.{Fault}
use Rattle.text_reader.specs.Place.{Reads}
use Rattle.text_reader.specs.declared.Reader.{Reader}
use Rattle.text_reader.proofs.ReadsLaws.{itself, plainly, read_of, first_refused, followed, passes}
use Rattle.text.proofs.Exactly.{then-got, got-is}
use Rattle.eos.specs.Model.{Transition, ObjectNet}
use Rattle.model.specs.Held.{hold_net}
use Rattle.model.specs.declared.ObjectNet as held
use Rattle.model_text.specs.Answers.{hold_tables}
use Rattle.model_text.specs.declared.Sides.{Sides}
use Rattle.model_text.specs.Reading.{read_sides, read_net}
use Rattle.model_text.proofs.LineAnswers.{number_in, many-long}

-- a net that is read has at most 32 transitions
pub net-few : (s : Text) (at : ℕ) (m : ObjectNet) (next : ℕ) → read_net s at ≡ got m next → leb (length m.transitions) 32 ≡ true
unfolding read_net
net-few s at m next e =
    let a = then-got (read_number (bytes "inner=") (in_range 1 32) s at) _ m next e in
    let b = then-got (read_number (bytes "steps=") (in_range 0 32) s a.next) _ m next a.rest in
    let c = then-got (many (read_sides a.value s) b.value b.next) _ m next b.rest in
    let k = got-is c.rest in
    let n = number_in (bytes "steps=") 0 32 s a.next b.value b.next b.first in
    let l = many-long (read_sides a.value s) b.value b.next c.value c.next c.first in
    rw (← k.0) (le-leb (length c.value) 32 (omega (arith, n.1, l)))

-- ---- the lines of a net

-- what comes behind its first line, its second, and its transitions
abbrev make : ℕ → List Transition → ℕ → Outcome ObjectNet
make size ts x₃ = got (record { size = size; transitions = ts }) x₃

abbrev behind_steps : ℕ → Text → ℕ → ℕ → Outcome ObjectNet
behind_steps size s n x₂ = then (many (read_sides size s) n x₂) (make size)

abbrev behind_inner : Text → ℕ → ℕ → Outcome ObjectNet
behind_inner s size x₁ = then (read_number (bytes "steps=") (in_range 0 32) s x₁) (behind_steps size s)

module _ (old : Reader) where
  abbrev inner : Outcome ℕ
  inner = read_number (bytes "inner=") (in_range 1 32) old.src.now old.at

  abbrev whole : Outcome ObjectNet
  whole = read_net old.src.now old.at

  pub inner_refused : {new : Reader} (e : Fault) → Reads inner old new (Err e) → Reads (kept hold_net whole) old new (Err e)
  unfolding read_net
  inner_refused e k = first_refused itself hold_net inner behind_inner e (plainly k)

  module _ {a : Reader} (size : ℕ) (first : Reads inner old a (Ok size)) where
    abbrev steps : Outcome ℕ
    steps = read_number (bytes "steps=") (in_range 0 32) a.src.now a.at

    pub inner_few : size ≤ 32
    inner_few = let q = read_of itself inner size (plainly first) in omega (arith, q.held, (number_in (bytes "inner=") 1 32 old.src.now old.at q.value a.at q.is).1)

    behind_size : {new : Reader} (r : Result held.ObjectNet Fault) → Reads (kept hold_net (behind_inner a.src.now size a.at)) a new r → Reads (kept hold_net whole) old new r
    unfolding read_net
    behind_size r k = followed itself hold_net inner behind_inner size r (plainly first) (λ v is same. rw (← same) k)

    pub steps_refused : {new : Reader} (e : Fault) → Reads steps a new (Err e) → Reads (kept hold_net whole) old new (Err e)
    steps_refused e k = behind_size (Err e) (first_refused itself hold_net steps (behind_steps size) e (plainly k))

    module _ {b : Reader} (n : ℕ) (second : Reads steps a b (Ok n)) where
      abbrev rows : Outcome (List Transition)
      rows = many (read_sides size b.src.now) n b.at

      pub steps_few : n ≤ 32
      steps_few = let q = read_of itself steps n (plainly second) in omega (arith, q.held, (number_in (bytes "steps=") 0 32 a.src.now a.at q.value b.at q.is).1)

      behind_n : {new : Reader} (r : Result held.ObjectNet Fault) → Reads (kept hold_net (then rows (make size))) b new r → Reads (kept hold_net whole) old new r
      behind_n r k =
          behind_size r
          (followed itself hold_net steps (behind_steps size) n r (plainly second) (λ v is same. rw (← same) k))

      pub rows_refused : {new : Reader} (e : Fault) → Reads (kept hold_tables rows) b new (Err e) → Reads (kept hold_net whole) old new (Err e)
      rows_refused e k = behind_n (Err e) (first_refused hold_tables hold_net rows (λ _. make size) e k)

      pub net_read : {new : Reader} (t : Sides (List (List ℕ))) → Reads (kept hold_tables rows) b new (Ok t)
          → Reads (kept hold_net whole) old new (Ok (record { places = size; transitions = n; pre = t.pre; post = t.post }))
      unfolding hold_net
      net_read {new} t k =
          behind_n _
          (followed hold_tables hold_net rows (λ _. make size) t _ k
          (λ ts is held.
          rw (held, ← many-long _ n b.at ts new.at is)
          (passes hold_net (make size ts new.at) (record { size = size; transitions = ts }) refl refl)))
