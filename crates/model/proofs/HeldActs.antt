-- What the test and the rules say of an event's act, held as a kind and an index.
use Prim.Native.Nat.{ℕ, zero, suc, ◌-◌, ◌≤◌, ◌<◌}
use mathlib.Core.Path.{◌≡◌, refl, ap, sym, ◌∙◌}
use mathlib.Core.Bool.{Bool, true, false, not, ◌&&◌}
use mathlib.Core.List.{List, ◌∷◌}
use native.Mathlib.Omega.{arith}
use native.Mathlib.Numerals.{sub-one}
use lib.Dec.{leb, ltb, eqb}
use borrow.Author.Tests.{eq-eqb, eqb-true, ltb-true}
use Rattle.text.proofs.Basics.{and_true}
use lib.ListN.{length, set, replicate}
use Rattle.eos.specs.Vector.{◌⊕◌, zeros, unit}
use Rattle.eos.specs.Model.{Act, move, idle, alone}
use Rattle.eos.specs.Firing.{act_side}
use Rattle.eos.proofs.VectorSums.{length-one, length-zeros}
use Rattle.model.specs.Rules.{Frame, right_act, own_net}
use Rattle.model.specs.Acts.{kind_of, index_of, act_of, is_act, held_act, own_in, outer_in}
use Rattle.model.specs.Held.{row_at}

-- ---- an act, held and read back

pub act-back : (a : Act) → act_of (kind_of a) (index_of a) ≡ a
act-back (move k) = refl
act-back (idle p) = refl
act-back (alone n) = refl

pub own_same : (type : ℕ → ℕ) (a : Act) → own_in type (kind_of a) (index_of a) ≡ own_net type a
own_same type a = ap (own_net type) (act-back a)

-- an index is counted from 1
pub index-positive : (a : Act) → 1 ≤ index_of a
index-positive (move k) = omega arith
index-positive (idle p) = omega arith
index-positive (alone n) = omega arith

-- ---- a kind and an index

-- what they stand for
pub act-move : (kind i : ℕ) → kind < 2 → act_of kind i ≡ move (i - 1)
act-move zero i h = ap move (sym (sub-one i))
act-move (suc zero) i h = ap move (sym (sub-one i))
act-move (suc (suc k)) i h = absurd (omega arith)

pub act-idle : (i : ℕ) → act_of 2 i ≡ idle (i - 1)
act-idle i = ap idle (sym (sub-one i))

pub act-alone : (kind i : ℕ) → 3 ≤ kind → act_of kind i ≡ alone (i - 1)
act-alone zero i h = absurd (omega arith)
act-alone (suc zero) i h = absurd (omega arith)
act-alone (suc (suc zero)) i h = absurd (omega arith)
act-alone (suc (suc (suc k))) i h = ap alone (sym (sub-one i))

pub index_back : (kind i : ℕ) → 1 ≤ i → index_of (act_of kind i) ≡ i
index_back zero i h = omega (arith, sub-one i)
index_back (suc zero) i h = omega (arith, sub-one i)
index_back (suc (suc zero)) i h = omega (arith, sub-one i)
index_back (suc (suc (suc k))) i h = omega (arith, sub-one i)

module _ (f : Frame) where
  -- the test of what an act is held as is the rule
  pub act_same : (a : Act) → held_act f (kind_of a) (index_of a) ≡ right_act f a
  unfolding held_act
  act_same a = rw (act-back a, eq-eqb (kind_of a) (kind_of a) refl, eq-eqb (index_of a) (index_of a) refl)

  -- what passes the test is held again as it was, and stands for an act of the model
  pub record ActIs (kind index : ℕ) : Type 0 where
    pub same_kind : kind_of (act_of kind index) ≡ kind
    pub same_index : index_of (act_of kind index) ≡ index
    pub right : right_act f (act_of kind index) ≡ true

  pub act-is : (kind index : ℕ) → held_act f kind index ≡ true → ActIs kind index
  unfolding held_act
  act-is kind index h =
      let a = act_of kind index in
      let p = and_true (eqb (kind_of a) kind) (eqb (index_of a) index && right_act f a) h in
      let q = and_true (eqb (index_of a) index) (right_act f a) p.1 in
      record { same_kind = eqb-true (kind_of a) kind p.0; same_index = eqb-true (index_of a) index q.0; right = q.1 }

  -- an act of the model is numbered like its moves, its places or its nets
  index-most : (a : Act) → right_act f a ≡ true → f.moves ≤ 32 → f.places ≤ 32 → f.nets ≤ 8 → index_of a ≤ 32
  unfolding right_act
  index-most (move k) h m p n = omega (arith, ltb-true k f.moves h)
  index-most (idle p) h m q n =
      let place = and_true (not f.alone) (ltb p f.places && leb 1 (f.type p)) h in
      omega (arith, ltb-true p f.places (and_true (ltb p f.places) (leb 1 (f.type p)) place.1).0)
  index-most (alone k) h m p n = omega (arith, ltb-true k f.nets (and_true f.alone (ltb k f.nets) h).1)

  pub act_range : (kind index : ℕ) → held_act f kind index ≡ true → f.moves ≤ 32 → f.places ≤ 32 → f.nets ≤ 8 → (1 ≤ index) × (index ≤ 32)
  act_range kind index h m p n =
      let is = act-is kind index h in
      let a = act_of kind index in
      (omega (arith, is.same_index, index-positive a), omega (arith, is.same_index, index-most a is.right m p n))

  -- the test, for the act that is meant
  pub held_no : (kind index : ℕ) → is_act kind index ≡ false → false ≡ held_act f kind index
  unfolding held_act
  held_no kind index h =
      let a = act_of kind index in
      sym (assoc (eqb (kind_of a) kind) (eqb (index_of a) index) (right_act f a) ∙ rw h)
    where
      assoc : (x y z : Bool) → (x && (y && z)) ≡ ((x && y) && z)
      assoc true y z = refl
      assoc false y z = refl

  pub held_yes : (kind index : ℕ) (a : Act) → is_act kind index ≡ true → a ≡ act_of kind index → right_act f a ≡ held_act f kind index
  unfolding held_act
  held_yes kind index a h e =
      let b = act_of kind index in
      let p = and_true (eqb (kind_of b) kind) (eqb (index_of b) index) h in
      ap (right_act f) e ∙ rw (p.0, p.1)

-- ---- the outer side

pub outer_wide : (kind i : ℕ) (table : List (List ℕ)) → ((k : ℕ) → k < 32 → length (row_at table k) ≡ 32) → 1 ≤ i → i ≤ 32 → length (outer_in kind i (row_at table)) ≡ 32
outer_wide kind i table wide some few = go (act_of kind i) (index_back kind i some)
  where
    go : (a : Act) → index_of a ≡ i → length (act_side (row_at table) 32 a) ≡ 32
    go (move k) e = wide k (omega arith)
    go (idle p) e = length-one p 32 (omega arith)
    go (alone n) e = length-zeros 32

-- one net-token on a place
pub set-unit : (n p : ℕ) → p < n → set (replicate n 0) p 1 ≡ unit p ⊕ zeros n
set-unit zero p h = absurd (omega arith)
set-unit (suc n) zero h = ap (λ (l : List ℕ). 1 ∷ l) (rest n)
  where
    rest : (k : ℕ) → replicate k 0 ≡ zeros k
    rest zero = refl
    rest (suc k) = ap (λ (l : List ℕ). 0 ∷ l) (rest k)
set-unit (suc n) (suc p) h = ap (λ (l : List ℕ). 0 ∷ l) (set-unit n p (omega arith))
