-- Which cause is the first, and which index the least.
use mathlib.Core.Path.{◌≡◌, refl, sym}
use mathlib.Core.Logic.{◌↔◌}
use mathlib.Core.Bool.{Bool, true, false, cond}
use mathlib.Core.List.{List, [], ◌∷◌, map}
use mathlib.Core.Option.{Option, none, some}
use Prim.Native.Nat.{ℕ, zero, suc, ◌+◌, ◌<◌}
use native.Mathlib.Omega.{arith}
use native.Mathlib.Nat.{add-zero, add-suc, suc-add, zero-add}
use lib.Dec.{leb}
use lib.ListN.{length, get_or}
use Rattle.eos.specs.Multiset as M
use Rattle.eos.specs.Counted.{total}
use Rattle.eos.specs.Model.{Marking, Lines, like}
use Rattle.eos.specs.Causes.{first, First, Clear, unless, at, failing, Least, lacking}
use Rattle.eos.proofs.Basics.{some_not}
use Rattle.eos.proofs.FailingLaws.{failing_first}

module _ {C : Type 0} where
  first-is : (l : List (Option C)) (c : C) → first l ≡ some c → First l c
  unfolding first
  first-is [] c e = some_not (sym e)
  first-is (none ∷ l) c e =
      let h = first-is l c e in
      record { index = suc h.index; fails = h.fails; before = λ j p. go l h.index h.before j p }
    where
      go : (l : List (Option C)) (i : ℕ) → ((j : ℕ) → j < i → get_or l j none ≡ none) → (j : ℕ) → j < suc i → get_or (none ∷ l) j none ≡ none
      go l i b zero p = refl
      go l i b (suc j) p = b j (omega arith)
  first-is (some a ∷ l) c e = record { index = 0; fails = e; before = λ j p. absurd (omega arith) }

  is-first : (l : List (Option C)) (c : C) (i : ℕ) → get_or l i none ≡ some c → ((j : ℕ) → j < i → get_or l j none ≡ none) → first l ≡ some c
  unfolding first
  is-first [] c i e b = some_not (sym e)
  is-first (none ∷ l) c zero e b = some_not (sym e)
  is-first (none ∷ l) c (suc i) e b = is-first l c i e (λ j p. b (suc j) (omega arith))
  is-first (some a ∷ l) c zero e b = e
  is-first (some a ∷ l) c (suc i) e b = some_not (b 0 (omega arith))

  -- the first cause of a list of tests is the one before which every test passes
  pub first_exactly : (l : List (Option C)) (c : C) → (first l ≡ some c) ↔ First l c
  first_exactly l c = (first-is l c, λ h. is-first l c h.index h.fails h.before)

  clear_is : (l : List (Option C)) → first l ≡ none → Clear l
  unfolding first
  clear_is [] e i = refl
  clear_is (none ∷ l) e zero = refl
  clear_is (none ∷ l) e (suc i) = clear_is l e i
  clear_is (some a ∷ l) e i = some_not e

  is_clear : (l : List (Option C)) → Clear l → first l ≡ none
  unfolding first
  is_clear [] h = refl
  is_clear (none ∷ l) h = is_clear l (λ i. h (suc i))
  is_clear (some a ∷ l) h = some_not (h 0)

  -- there is none exactly where every test passes
  pub clear_exactly : (l : List (Option C)) → (first l ≡ none) ↔ Clear l
  clear_exactly l = (clear_is l, is_clear l)

-- ---- tests with other causes

module _ {C D : Type 0} (f : C → D) where
  abbrev pub renamed : Option C → Option D
  renamed none = none
  renamed (some c) = some (f c)

  pub renamed_none : (o : Option C) → renamed o ≡ none → o ≡ none
  renamed_none none e = refl
  renamed_none (some c) e = some_not e

  pub first_renamed : (l : List (Option C)) → first (map renamed l) ≡ renamed (first l)
  unfolding first
  first_renamed [] = refl
  first_renamed (none ∷ l) = first_renamed l
  first_renamed (some c ∷ l) = refl

  pub unless_renamed : (b : Bool) (c : C) → unless b (f c) ≡ renamed (unless b c)
  unfolding unless
  unless_renamed true c = refl
  unless_renamed false c = refl

  pub at_renamed : (c : ℕ → C) (o : Option ℕ) → at (λ n. f (c n)) o ≡ renamed (at c o)
  unfolding at
  at_renamed c none = refl
  at_renamed c (some n) = refl

-- ---- what holds of the cause of every test holds of the first

module _ {C : Type 0} (P : C → Type 0) where
  abbrev pub Each : List (Option C) → Type 0
  Each [] = Unit {0}
  Each (o ∷ l) = ((c : C) → o ≡ some c → P c) × Each l

  pub first-each : (l : List (Option C)) → Each l → (c : C) → first l ≡ some c → P c
  unfolding first
  first-each [] h c e = some_not (sym e)
  first-each (none ∷ l) h c e = first-each l h.1 c e
  first-each (some a ∷ l) h c e = h.0 c e

  pub unless-each : (b : Bool) (a : C) → P a → (c : C) → unless b a ≡ some c → P c
  unfolding unless
  unless-each true a p c e = some_not (sym e)
  unless-each false a p c e = let z : a ≡ c = cc in rw z at p

  pub at_each : (f : ℕ → C) (o : Option ℕ) → ((n : ℕ) → o ≡ some n → P (f n)) → (c : C) → at f o ≡ some c → P c
  unfolding at
  at_each f none h c e = some_not (sym e)
  at_each f (some n) h c e = let z : f n ≡ c = cc in rw z at (h n refl)

-- ---- the least index

record From (d i : ℕ) (f : ℕ → Bool) (n : ℕ) : Type 0 where
  behind : ℕ
  is : n ≡ i + behind
  within : behind < d
  fails : f (i + behind) ≡ false
  before : (j : ℕ) → j < behind → f (i + j) ≡ true

least_from : (d i : ℕ) (f : ℕ → Bool) (n : ℕ) → failing d i f ≡ some n → From d i f n
least_from zero i f n e = some_not (sym e)
least_from (suc d) i f n e = go (f i) refl e (least_from d (suc i) f n)
  where
    on : (k : ℕ) → f i ≡ true → ((j : ℕ) → j < k → f (suc i + j) ≡ true) → (j : ℕ) → j < suc k → f (i + j) ≡ true
    on k q h zero p = rw add-zero q
    on k q h (suc j) p = rw (add-suc, ← (suc-add i j)) (h j (omega arith))

    go : (b : Bool) → f i ≡ b → cond b (failing d (suc i) f) (some i) ≡ some n → (failing d (suc i) f ≡ some n → From d (suc i) f n) → From (suc d) i f n
    go true q e r =
        let h = r e in
        record {
          behind = suc h.behind;
          is = omega (arith, h.is);
          within = omega (arith, h.within);
          fails = rw (add-suc, ← (suc-add i h.behind)) h.fails;
          before = on h.behind q h.before;
        }
    go false q e r =
        let z : i ≡ n = cc in
        record { behind = 0; is = omega (arith, z); within = omega arith; fails = rw add-zero q; before = λ j p. absurd (omega arith) }

-- the index at which a test fails first is the least
pub failing-least : (d : ℕ) (f : ℕ → Bool) (n : ℕ) → failing d 0 f ≡ some n → Least d f n
failing-least d f n e =
    let h = least_from d 0 f n e in
    let z : 0 + h.behind ≡ n = omega (arith, h.is) in
    record { within = omega (arith, h.within, z); fails = rw z at h.fails; before = λ i p. rw zero-add at (h.before i (omega (arith, z))) }

pub least-failing : (d : ℕ) (f : ℕ → Bool) (n : ℕ) → Least d f n → failing d 0 f ≡ some n
least-failing d f n h = rw zero-add at (failing_first d 0 f n h.within (λ i p. rw zero-add (h.before i p)) (rw zero-add h.fails))

-- ---- the line at which net-tokens are lacking is one of those taken
lacking_from : (μ : Marking) (i : ℕ) (seen ls : Lines) (n : ℕ) → lacking μ i seen ls ≡ some n → n < i + length ls
lacking_from μ i seen [] n e = some_not (sym e)
lacking_from μ i seen (l ∷ ls) n e = go (leb (total like l.one (l ∷ seen)) (M.count like l.one μ)) e (lacking_from μ (suc i) (l ∷ seen) ls n)
  where
    go : (b : Bool) → cond b (lacking μ (suc i) (l ∷ seen) ls) (some i) ≡ some n → (lacking μ (suc i) (l ∷ seen) ls ≡ some n → n < suc i + length ls)
        → n < i + suc (length ls)
    go true e r = omega (arith, r e)
    go false e r = let z : i ≡ n = cc in omega (arith, z)

pub lacking-within : (μ : Marking) (taken : Lines) (n : ℕ) → lacking μ 0 [] taken ≡ some n → n < length taken
lacking-within μ taken n e = omega (arith, lacking_from μ 0 [] taken n e)
