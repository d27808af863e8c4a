-- Laws of things put into slots by their index, listed by their index, and tested by their index.
use Prim.Native.Nat.{ℕ, zero, suc, ◌+◌, ◌≤◌, ◌<◌}
use mathlib.Core.Path.{◌≡◌, refl, sym, subst, ◌∙◌}
use mathlib.Core.List.{List, [], ◌∷◌}
use mathlib.Core.Bool.{Bool, true, cond}
use native.Mathlib.Omega.{arith}
use native.Mathlib.Nat.{add-zero}
use lib.Dec.{ltb}
use borrow.Author.Tests.{lt-ltb, le-ltb, ltb-true, ltb-false}
use lib.ListN.{length, get_or, replicate, length-replicate, length-set, get_or-replicate, get_or-eq_default}
use lib.Seq.{get_or-set_same, get_or-set_other}
use denote.Param.Members.{Mut, Called}
use Rattle.std.specs.Array.{IsFromFnResultFrom, IsFromFnResult}
use Rattle.text.specs.Repeat.{fill}
use Rattle.text.proofs.Basics.{by_test}
use Rattle.eos.specs.Firing.{all_below}
use Rattle.eos.proofs.Basics.{true_is, is_true}
use Rattle.eos.proofs.FiringLaws.{all_below-at, all_below_lem}
use Rattle.model.specs.Held.{put_at, listed}

-- ---- a test at every index below n

-- it holds at one
pub below_at : (n : ℕ) (f : ℕ → Bool) → all_below n f ≡ true → (i : ℕ) → i < n → f i ≡ true
below_at n f h i p = is_true (f i) (all_below-at n f (true_is h) i p)

-- and it holds where it holds at each
pub below_of : (n : ℕ) (f : ℕ → Bool) → ((i : ℕ) → i < n → f i ≡ true) → all_below n f ≡ true
below_of n f h = is_true (all_below n f) (all_below_lem n f (λ i p. true_is (h i p)))

-- one thing below n, another from n on
pub cond_below : {A : Type 0} (n i : ℕ) (a b : A) → i < n → cond (ltb i n) a b ≡ a
cond_below n i a b h = rw (lt-ltb i n h)

-- the other from n on
pub cond_from : {A : Type 0} (n i : ℕ) (a b : A) → n ≤ i → cond (ltb i n) a b ≡ b
cond_from n i a b h = rw (le-ltb i n h)

-- an index is below n or not
pub by_index : {G : Type 0} (n i : ℕ) → (i < n → G) → (n ≤ i → G) → G
by_index n i f g = by_test (ltb i n) (λ t. f (ltb-true i n t)) (λ t. g (ltb-false i n t))

-- ---- listed by index
module _ {A : Type 0} (g : ℕ → A) where
  -- how many are listed
  pub length-listed : (k n : ℕ) → length (listed g k n) ≡ n
  length-listed k zero = refl
  length-listed k (suc n) = rw (length-listed (suc k) n)

  listed_from : (k n i : ℕ) (d : A) → i < n → get_or (listed g k n) i d ≡ g (k + i)
  listed_from k zero i d h = absurd (omega arith)
  listed_from k (suc n) zero d h = rw (add-zero k)
  listed_from k (suc n) (suc i) d h =
      let e : suc k + i ≡ k + suc i = omega arith in
      listed_from (suc k) n i d (omega arith) ∙ rw e

  -- what is listed at i
  pub listed_at : (n i : ℕ) (d : A) → i < n → get_or (listed g 0 n) i d ≡ g i
  listed_at n i d h = let e : 0 + i ≡ i = omega arith in listed_from 0 n i d h ∙ rw e

  -- and nothing past them
  pub listed_past : (n i : ℕ) (d : A) → n ≤ i → get_or (listed g 0 n) i d ≡ d
  listed_past n i d h = get_or-eq_default (listed g 0 n) d (rw (length-listed 0 n) h)

  listed_same : (l : List A) (k : ℕ) (d : A) → ((i : ℕ) → i < length l → g (k + i) ≡ get_or l i d) → listed g k (length l) ≡ l
  listed_same [] k d h = refl
  listed_same (a ∷ l) k d h =
      let e : g k ≡ a = rw (add-zero k) at (h 0 (omega arith)) in
      let r = listed_same l (suc k) d (λ i p. let s : suc k + i ≡ k + suc i = omega arith in rw s (h (suc i) (omega arith))) in
      rw (e, r)

  -- a list is listed again
  pub listed-is : (l : List A) (d : A) → ((i : ℕ) → i < length l → g i ≡ get_or l i d) → listed g 0 (length l) ≡ l
  listed-is l d h = listed_same l 0 d (λ i p. let s : 0 + i ≡ i = omega arith in rw s (h i p))

-- ---- slots: what is put at i is looked up at i, and nothing else changes
pub record Slots {A B C : Type 0} (put : ℕ → A → B → B) (look : B → ℕ → C) (value : A → C) (Room : ℕ → B → Type 0) : Type 0 where
  pub keeps : (n i : ℕ) (a : A) (t : B) → Room n t → Room n (put i a t)
  pub same : (n i : ℕ) (a : A) (t : B) → Room n t → i < n → look (put i a t) i ≡ value a
  pub other : (n i j : ℕ) (a : A) (t : B) → Room n t → i < n → j < n → (i ≡ j → ⊥) → look (put i a t) j ≡ look t j

-- filling keeps what each put keeps
pub fill_keeps : {A B : Type 0} (put : ℕ → A → B → B) (P : B → Type 0) → ((i : ℕ) (a : A) (t : B) → P t → P (put i a t))
    → (i : ℕ) (l : List A) (t : B) → P t → P (fill put i l t)
unfolding fill
fill_keeps put P k i [] t h = h
fill_keeps put P k i (a ∷ l) t h = fill_keeps put P k (suc i) l (put i a t) (k i a t h)

module _ {A B C : Type 0} (put : ℕ → A → B → B) (look : B → ℕ → C) (value : A → C) (Room : ℕ → B → Type 0) (slots : Slots put look value Room) (n : ℕ)
  where
    fill-before : (l : List A) (i j : ℕ) (t : B) → Room n t → i + length l ≤ n → j < i → look (fill put i l t) j ≡ look t j
    unfolding fill
    fill-before [] i j t r h p = refl
    fill-before (a ∷ l) i j t r h p =
        fill-before l (suc i) j (put i a t) (slots.keeps n i a t r) (omega arith) (omega arith)
        ∙ slots.other n i j a t r (omega arith) (omega arith) (λ e. omega arith)

    fill_from : (l : List A) (i k : ℕ) (t : B) (d : A) → Room n t → i + length l ≤ n → k < length l → look (fill put i l t) (i + k) ≡ value (get_or l k d)
    unfolding fill
    fill_from [] i k t d r h p = absurd (omega arith)
    fill_from (a ∷ l) i zero t d r h p =
        rw (add-zero i) (fill-before l (suc i) i (put i a t) (slots.keeps n i a t r) (omega arith) (omega arith) ∙ slots.same n i a t r (omega arith))
    fill_from (a ∷ l) i (suc k) t d r h p =
        let e : i + suc k ≡ suc i + k = omega arith in
        rw e (fill_from l (suc i) k (put i a t) d (slots.keeps n i a t r) (omega arith) (omega arith))

    fill-behind : (l : List A) (i j : ℕ) (t : B) → Room n t → i + length l ≤ j → j < n → look (fill put i l t) j ≡ look t j
    unfolding fill
    fill-behind [] i j t r h p = refl
    fill-behind (a ∷ l) i j t r h p =
        fill-behind l (suc i) j (put i a t) (slots.keeps n i a t r) (omega arith) p
        ∙ slots.other n i j a t r (omega arith) p (λ e. omega arith)

    -- what is looked up where things were put, the first at 0
    pub fill-at : (l : List A) (j : ℕ) (t : B) (d : A) → Room n t → length l ≤ n → j < length l → look (fill put 0 l t) j ≡ value (get_or l j d)
    fill-at l j t d r h p = let e : 0 + j ≡ j = omega arith in rw e at (fill_from l 0 j t d r (omega arith) p)

    -- and behind them
    pub fill_past : (l : List A) (j : ℕ) (t : B) → Room n t → length l ≤ j → j < n → look (fill put 0 l t) j ≡ look t j
    fill_past l j t r h p = fill-behind l 0 j t r (omega arith) p

-- ---- an array
module _ {A B : Type 0} (f : A → B) (none : B) where
  array_slots : Slots (put_at f) (λ t i. get_or t i none) f (λ n t. n ≤ length t)
  array_slots = record {
    keeps = λ n i a t h. rw (length-set t i (f a)) h;
    same = λ n i a t h p. get_or-set_same t i (f a) none (omega arith);
    other = λ n i j a t h p q d. get_or-set_other t i j (f a) none (λ e. d (sym e));
  }

  -- an array of room n that holds a list
  pub length-held : (l : List A) (n : ℕ) → length (fill (put_at f) 0 l (replicate n none)) ≡ n
  length-held l n =
      fill_keeps (put_at f) (λ t. length t ≡ n) (λ i a t h. length-set t i (f a) ∙ h) 0 l (replicate n none) (length-replicate n none)

  -- what it holds at i
  pub held_at : (l : List A) (n i : ℕ) (d : A) → length l ≤ n → i < length l → get_or (fill (put_at f) 0 l (replicate n none)) i none ≡ f (get_or l i d)
  held_at l n i d h p =
      fill-at (put_at f) (λ t i. get_or t i none) f (λ n t. n ≤ length t) array_slots n l i (replicate n none) d (rw (length-replicate n none) (omega arith)) h p

  -- and past the list
  pub held_past : (l : List A) (n i : ℕ) → length l ≤ n → length l ≤ i → get_or (fill (put_at f) 0 l (replicate n none)) i none ≡ none
  held_past l n i h p =
      by_index n i
      (λ q.
      fill_past (put_at f) (λ t i. get_or t i none) f (λ n t. n ≤ length t) array_slots n l i (replicate n none) (rw (length-replicate n none) (omega arith)) p q
      ∙ get_or-replicate n i none none q)
      (λ q. get_or-eq_default (fill (put_at f) 0 l (replicate n none)) none (rw (length-held l n) q))

-- what a closure makes at each index below n is listed by index, where its call at an index leaves it as it is and answers `value` there
module _ {F B : Type 0} (g : Mut F (ℕ × Unit {0}) B) (f : F) (value : ℕ → B) (n : ℕ)
    (one : (i : ℕ) → i < n → (b : B) (q : F) → Called g f (i, tt) b q → (q ≡ f) × (b ≡ value i)) (l : List B) (d : B)
  where
    made_at : (i k : ℕ) → i + k ≤ n → IsFromFnResultFrom g f l i k → (j : ℕ) → j < k → value (i + j) ≡ get_or l (i + j) d
    made_at i zero few made j h = absurd (omega (arith, h))
    made_at i (suc k) few (q, b, at, call, rest) zero h =
        rw (add-zero i) (sym (at.1 d ∙ (one i (omega (arith, few)) b q call).1))
    made_at i (suc k) few (q, b, at, call, rest) (suc j) h =
        let same = (one i (omega (arith, few)) b q call).0 in
        let e : i + 1 + j ≡ i + suc j = omega arith in
        rw (← e) (made_at (i + 1) k (omega (arith, few)) (subst (λ x. IsFromFnResultFrom g x l (i + 1) k) same rest) j (omega (arith, h)))

    pub made_listed : IsFromFnResult g f l n → l ≡ listed value 0 n
    made_listed made =
        let at : (j : ℕ) → j < length l → value j ≡ get_or l j d =
        λ j h. let e : 0 + j ≡ j = omega arith in rw e at (made_at 0 n (omega arith) made.each j (omega (arith, made.long, h))) in
        sym (listed-is value l d at) ∙ rw made.long
