-- How far a text goes with another: laws of the bytes that two texts have in common from their beginnings on.
use Prim.Native.Nat.{ℕ, suc, ◌+◌, ◌-◌, ◌≤◌, ◌<◌, max}
use mathlib.Core.Path.{◌≡◌, refl, ap, sym, ◌∙◌}
use mathlib.Core.List.{[], ◌∷◌, ◌++◌, append-nil}
use native.Mathlib.Omega.{arith}
use native.Mathlib.Nat.{zero-add, add-zero}
use lib.Dec.{eqb}
use borrow.Author.Tests.{eqb-true, eqb-false}
use lib.ListN.{length, drop, get_or, length-drop, take-append-drop}
use lib.Seq.{drop-drop, length-take-le}
use Rattle.text.specs.Bytes.{Text, meet, far, between}
use Rattle.text.proofs.Basics.{by_test}
use Rattle.text.proofs.ByteLaws.{meet_same, meet_other, far_least}
use Rattle.text.proofs.Standing.{Stands, Reaches, first_byte}

-- ---- two texts from their beginnings on

meet_most : (t r : Text) → (meet t r ≤ length t) × (meet t r ≤ length r)
unfolding meet
meet_most [] r = (omega arith, omega arith)
meet_most (c ∷ t) [] = (omega arith, omega arith)
meet_most (c ∷ t) (b ∷ r) =
    let k = meet_most t r in
    by_test (eqb b c)
    (λ h. let e = meet_same c b t r (eqb-true b c h) in (omega (arith, e), omega (arith, e)))
    (λ h. let e = meet_other c b t r (eqb-false b c h) in (omega (arith, e), omega (arith, e)))

-- a text that is met whole stands there
meet_stands : (t r : Text) → meet t r ≡ length t → r ≡ t ++ drop (length t) r
unfolding meet
meet_stands [] r e = refl
meet_stands (c ∷ t) [] e = absurd (omega arith)
meet_stands (c ∷ t) (b ∷ r) e =
    by_test (eqb b c)
    (λ h.
    let q = eqb-true b c h in
    rw q (ap {B = Text} (λ l. c ∷ l) (meet_stands t r (omega (arith, meet_same c b t r q, e)))))
    (λ h. absurd (omega (arith, meet_other c b t r (eqb-false b c h), e)))

-- behind a common beginning
meet_past : (p q r : Text) → meet (p ++ q) (p ++ r) ≡ length p + meet q r
meet_past [] q r = sym (zero-add (meet q r))
meet_past (c ∷ p) q r = meet_same c c (p ++ q) (p ++ r) refl ∙ omega (arith, meet_past p q r)

-- what is not met whole is met no further with more behind it
meet_short : (p q r : Text) → meet p r < length p → meet (p ++ q) r ≡ meet p r
unfolding meet
meet_short [] q r h = absurd (omega arith)
meet_short (c ∷ p) q [] h = refl
meet_short (c ∷ p) q (b ∷ r) h =
    by_test (eqb b c)
    (λ k.
    let e = eqb-true b c k in
    rw (meet_same c b (p ++ q) r e, meet_same c b p r e) (ap suc (meet_short p q r (omega (arith, meet_same c b p r e)))))
    (λ k. let n = eqb-false b c k in rw (meet_other c b (p ++ q) r n, meet_other c b p r n))

-- a text that is met beyond p begins with p
meet_front : (p q r : Text) → length p ≤ meet q (p ++ r) → q ≡ p ++ drop (length p) q
unfolding meet
meet_front [] q r h = refl
meet_front (c ∷ p) [] r h = absurd (omega arith)
meet_front (c ∷ p) (d ∷ q) r h =
    by_test (eqb c d)
    (λ k.
    let e = eqb-true c d k in
    rw (← e) (ap {B = Text} (λ l. c ∷ l) (meet_front p q r (omega (arith, meet_same d c q (p ++ r) e)))))
    (λ k. absurd (omega (arith, meet_other d c q (p ++ r) (eqb-false c d k))))

-- ---- at a position
module _ (s : Text) (at : ℕ) where
  pub far_most : (t : Text) → far s at t ≤ at + length t
  unfolding far
  far_most t = omega (arith, meet_most t (drop at s))

  -- a text that goes its whole length stands there
  pub far_stands : (t : Text) → far s at t ≡ at + length t → Stands s at t
  unfolding far
  far_stands t e = let k : meet t (drop at s) ≡ length t = omega arith in meet_stands t (drop at s) k ∙ rw (drop-drop (length t) at s)

  -- and goes on as far as what is behind it
  far_on : (p q : Text) → Stands s at p → far s at (p ++ q) ≡ far s (at + length p) q
  unfolding far
  far_on p q st =
      let r : Text = drop (at + length p) s in
      let e : meet (p ++ q) (drop at s) ≡ length p + meet q r = rw st (meet_past p q r) in
      omega (arith, e)

  pub far_past : (p q : Text) (next : ℕ) → Reaches s at p next → far s at (p ++ q) ≡ far s next q
  far_past p q next h = far_on p q h.stands ∙ rw h.next_is

  -- a text that stands there goes its whole length
  pub far_whole : (t : Text) → Stands s at t → far s at t ≡ at + length t
  unfolding far meet
  far_whole t st = rw (append-nil t) at (far_on t [] st) ∙ add-zero (at + length t)

  -- a text that does not stand there goes no further with more behind it
  pub far_short : (p q : Text) → (Stands s at p → ⊥) → far s at (p ++ q) ≡ far s at p
  unfolding far
  far_short p q n =
      by_test (eqb (far s at p) (at + length p))
      (λ h. absurd (n (far_stands p (eqb-true (far s at p) (at + length p) h))))
      (λ h. ap (λ (k : ℕ). at + k) (meet_short p q (drop at s) (omega (arith, eqb-false (far s at p) (at + length p) h, meet_most p (drop at s)))))

  pub far_more : (p q : Text) → far s at p ≤ far s at (p ++ q)
  far_more p q =
      by_test (eqb (far s at p) (at + length p))
      (λ h. let e = eqb-true (far s at p) (at + length p) h in omega (arith, e, far_on p q (far_stands p e), far_least s (at + length p) q))
      (λ h. let e = far_short p q (λ st. eqb-false (far s at p) (at + length p) h (far_whole p st)) in omega (arith, e))

  -- a text that begins otherwise goes nowhere
  pub meet_apart : (t r : Text) → drop at s ≡ r → (get_or s at 0 ≡ get_or t 0 0 → ⊥) → meet t r ≡ 0
  unfolding meet
  meet_apart [] r e n = refl
  meet_apart (c ∷ t) [] e n = refl
  meet_apart (c ∷ t) (b ∷ r) e n = meet_other c b t r (λ k. n (first_byte s at (b ∷ r) e ∙ k))

  pub far_other : (t : Text) → (get_or s at 0 ≡ get_or t 0 0 → ⊥) → far s at t ≡ at
  unfolding far
  far_other t n = omega (arith, meet_apart t (drop at s) refl n)

  -- a text that goes beyond one that stands there begins with it
  pub far_front : (p q : Text) (next : ℕ) → Reaches s at p next → next ≤ far s at q → Stands q 0 p
  unfolding far
  far_front p q next h k =
      let r : Text = drop (at + length p) s in
      let e : meet q (drop at s) ≡ meet q (p ++ r) = rw h.stands in
      rw (zero-add (length p)) (meet_front p q r (omega (arith, e, h.next_is)))

  -- within s
  pub far_within : (t : Text) → far s at t ≤ max at (length s)
  unfolding far
  far_within t = omega (arith, (meet_most t (drop at s)).1, length-drop at s)

  pub between_is : (b : ℕ) → at ≤ b → b ≤ max at (length s) → length (between s at b) ≡ b - at
  between_is b h k = length-take-le (b - at) (drop at s) (omega (arith, length-drop at s))

  -- a text that goes as far as b begins with them
  pub far_begins : (t : Text) (b : ℕ) → at ≤ b → b ≤ far s at t → (rest : Text) × (t ≡ between s at b ++ rest)
  unfolding far
  far_begins t b h k =
      let p = between s at b in
      let l = between_is b h (omega (arith, k, far_within t)) in
      let e : meet t (p ++ drop (b - at) (drop at s)) ≡ meet t (drop at s) = rw (take-append-drop (b - at) (drop at s)) in
      (drop (length p) t, meet_front p t (drop (b - at) (drop at s)) (omega (arith, e, l)))

  -- and one that begins with them goes as far as b
  pub begins_far : (t rest : Text) (b : ℕ) → at ≤ b → b ≤ max at (length s) → t ≡ between s at b ++ rest → b ≤ far s at t
  unfolding far
  begins_far t rest b h k e =
      let p = between s at b in
      let r = drop (b - at) (drop at s) in
      let m : meet t (p ++ r) ≡ length p + meet rest r = rw e (meet_past p rest r) in
      let n : meet t (p ++ r) ≡ meet t (drop at s) = rw (take-append-drop (b - at) (drop at s)) in
      omega (arith, m, n, between_is b h k)
