-- Laws of the held test as the code makes it: of one net-token, and of many entries.
use Prim.Native.Nat.{ℕ, ◌-◌, ◌≤◌, ◌<◌}
use mathlib.Core.Path.{◌≡◌, refl, sym, ap, ap₂, ◌∙◌}
use mathlib.Core.List.{List, [], ◌∷◌, ◌++◌}
use mathlib.Core.Bool.{Bool, true, false, and-false}
use native.Mathlib.Omega.{arith}
use lib.Dec.{eqb}
use lib.ListN.{length, take, drop, replicate, take-append-drop, length-take, length-drop}
use lib.Seq.{take_all}
use borrow.Author.Tests.{le-leb, lt-leb, eq-eqb}
use Rattle.std.specs.List.{list_all}
use Rattle.text.specs.Lines.{every}
use Rattle.text.specs.Answers.{padded}
use Rattle.text.proofs.PaddedLaws.{padded-is}
use Rattle.eos.specs.Vector.{eq_v}
use Rattle.marking.specs.Tokens.{unused, ascending}
use Rattle.marking.specs.Held.{Sizes, held_token, held_entry, held_entries}
use Rattle.marking.specs.declared.NetToken.{NetToken}
use Rattle.marking.specs.declared.Entry.{Entry}

-- ---- one net-token

alike_behind : (a b c : List ℕ) → eq_v (a ++ b) (a ++ c) ≡ eq_v b c
alike_behind [] b c = refl
alike_behind (v ∷ a) b c = rw (eq-eqb v v refl) (alike_behind a b c)

alike_zeros : (l : List ℕ) → eq_v l (replicate (length l) 0) ≡ list_all (λ v. eqb v 0) l
alike_zeros [] = refl
alike_zeros (v ∷ l) = rw (alike_zeros l)

-- what follows the first n of 32 counts is 0
pub behind_tested : (counts : List ℕ) (n : ℕ) → length counts ≡ 32 → list_all (λ v. eqb v 0) (drop n counts) ≡ eq_v counts (padded (take n counts))
behind_tested counts n h =
    let a : List ℕ = take n counts in
    let b : List ℕ = drop n counts in
    let m : 32 - length a ≡ length b = omega (arith, length-take n counts, length-drop n counts) in
    let p : padded a ≡ a ++ replicate (length b) 0 = padded-is a (omega (arith, length-take n counts)) ∙ ap (λ (i : ℕ). a ++ replicate i 0) m in
    sym (ap₂ eq_v (sym (take-append-drop n counts)) p ∙ alike_behind a b (replicate (length b) 0) ∙ alike_zeros b)

module _ (z : Sizes) (t : NetToken) where
  pub held_place : (b : Bool) → 1 ≤ t.place → t.place ≤ z.places → length t.counts ≡ 32
      → b ≡ list_all (λ v. eqb v 0) (drop (z.size t.place) t.counts) → b ≡ held_token z t
  unfolding held_token
  held_place b h k n e =
      rw (le-leb 1 t.place h, le-leb t.place z.places k) (e ∙ behind_tested t.counts (z.size t.place) n)

  pub held_low : t.place < 1 → false ≡ held_token z t
  unfolding held_token
  held_low h = rw (lt-leb 1 t.place h)

  pub held_high : z.places < t.place → false ≡ held_token z t
  unfolding held_token
  held_high h = rw (lt-leb t.place z.places h, and-false)

-- ---- n lent entries, by the first part of the test that fails
module _ (room : ℕ) (z : Sizes) (n : ℕ) (es : List Entry) where
  pub held_many : room < n → false ≡ held_entries room z n es
  unfolding held_entries
  held_many h = rw (lt-leb n room h)

  -- the room behind them, as it is lent
  pub room_whole : every unused (take (length es - n) (drop n es)) ≡ every unused (drop n es)
  room_whole = ap (every unused) (take_all (length es - n) (drop n es) (omega (arith, length-drop n es)))

  module _ (few : n ≤ room) (a : Bool) (order : a ≡ ascending (take n es)) where
    pub held_disordered : a ≡ false → false ≡ held_entries room z n es
    unfolding held_entries
    held_disordered e = rw (le-leb n room few, sym order ∙ e)

    pub held_used : (e : Bool) → a ≡ true → e ≡ every unused (drop n es) → e ≡ false → false ≡ held_entries room z n es
    unfolding held_entries
    held_used e f g h = rw (le-leb n room few, sym order ∙ f, sym g ∙ h)

    pub held_rest : (e r : Bool) → a ≡ true → e ≡ every unused (drop n es) → e ≡ true → r ≡ every (held_entry z) (take n es) → r ≡ held_entries room z n es
    unfolding held_entries
    held_rest e r f g h q = rw (le-leb n room few, sym order ∙ f, sym g ∙ h) q
