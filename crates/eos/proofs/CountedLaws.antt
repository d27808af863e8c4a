-- Laws of counted multisets: counting and spelling undo each other, and a strict list is the counted canonical list of its multiset.
use mathlib.Core.Path.{◌≡◌, refl, sym, ap, ap₂, subst, ◌∙◌}
use mathlib.Core.Bool.{Bool, true, false, cond, ◌&&◌}
use mathlib.Core.List.{List, [], ◌∷◌, ◌++◌, map, append_assoc}
use Prim.Native.Nat.{ℕ, zero, suc, ◌+◌, ◌*◌}
use native.Mathlib.Omega.{arith}
use lib.Dec.{T, leb, leb→le, le→leb, T_not, not_T}
use lib.ListN.{take, drop, replicate}
use Rattle.eos.specs.Multiset.{bit, every, count, Same, insert, sort, Below, Sorted}
use Rattle.eos.specs.Counted.{Counted, counted, ones, spelt, there, total, join, grouped, tally, under, Strict}
use Rattle.eos.proofs.Basics.{true_is, false_is, and_l, and_r, and_i, by_test}
use Rattle.eos.proofs.MultisetLaws.{Likeness, sum_of, count_append}
use Rattle.eos.proofs.OrderLaws.{Order, le_self, sort_sorted, count-sort, one_list, sort_same}

-- ---- lists put together, and parts

module _ {A : Type 0} where
  pub ones_append : (a b : List (Counted A)) → ones (a ++ b) ≡ ones a ++ ones b
  ones_append [] b = refl
  ones_append (e ∷ a) b = ap (λ (l : List A). e.one ∷ l) (ones_append a b)

  pub ones_take : (i : ℕ) (es : List (Counted A)) → ones (take i es) ≡ take i (ones es)
  ones_take zero es = refl
  ones_take (suc i) [] = refl
  ones_take (suc i) (e ∷ es) = ap (λ (l : List A). e.one ∷ l) (ones_take i es)

  pub ones_drop : (i : ℕ) (es : List (Counted A)) → ones (drop i es) ≡ drop i (ones es)
  ones_drop zero es = refl
  ones_drop (suc i) [] = refl
  ones_drop (suc i) (e ∷ es) = ones_drop i es

  pub spelt_append : (a b : List (Counted A)) → spelt (a ++ b) ≡ spelt a ++ spelt b
  spelt_append [] b = refl
  spelt_append (e ∷ a) b =
      let c : List A = replicate e.times e.one in
      ap (λ (l : List A). c ++ l) (spelt_append a b) ∙ sym (append_assoc c (spelt a) (spelt b))

-- a test of every element, with one put in or out
module _ {A : Type 0} (f : A → Bool) (x : A) (b : List A) where
  pub every_put : (a : List A) → T (f x) → T (every f (a ++ b)) → T (every f (a ++ (x ∷ b)))
  every_put [] h t = and_i (f x) (every f b) h t
  every_put (c ∷ a) h t =
      and_i (f c) (every f (a ++ (x ∷ b))) (and_l (f c) (every f (a ++ b)) t) (every_put a h (and_r (f c) (every f (a ++ b)) t))

  pub every_out : (a : List A) → T (every f (a ++ (x ∷ b))) → T (every f (a ++ b))
  every_out [] t = and_r (f x) (every f b) t
  every_out (c ∷ a) t =
      and_i (f c) (every f (a ++ b)) (and_l (f c) (every f (a ++ (x ∷ b))) t) (every_out a (and_r (f c) (every f (a ++ (x ∷ b))) t))

  pub every_miss : (a : List A) → f x ≡ false → every f (a ++ (x ∷ b)) ≡ false
  every_miss [] e = rw e
  every_miss (c ∷ a) e = rw (every_miss a e) (go (f c))
    where
      go : (k : Bool) → (k && false) ≡ false
      go true = refl
      go false = refl

-- a test of what is spelt is one of the elements that are counted, where there is at least one of each
module _ {A : Type 0} (f : A → Bool) where
  pub every_spelt : (es : List (Counted A)) → T (every f (ones es)) → T (every f (spelt es))
  every_spelt [] t = tt
  every_spelt (e ∷ es) t = go e.times (every_spelt es (and_r (f e.one) (every f (ones es)) t))
    where
      go : (n : ℕ) → T (every f (spelt es)) → T (every f (replicate n e.one ++ spelt es))
      go zero r = r
      go (suc n) r = and_i (f e.one) (every f (replicate n e.one ++ spelt es)) (and_l (f e.one) (every f (ones es)) t) (go n r)

  every_behind : (a : A) (n : ℕ) (l : List A) → T (every f (replicate n a ++ l)) → T (every f l)
  every_behind a zero l t = t
  every_behind a (suc n) l t = every_behind a n l (and_r (f a) (every f (replicate n a ++ l)) t)

  pub every_ones : (es : List (Counted A)) → T (there es) → T (every f (spelt es)) → T (every f (ones es))
  every_ones [] h t = tt
  every_ones (e ∷ es) h t =
      and_i (f e.one) (every f (ones es)) (go e.times (and_l (leb 1 e.times) (there es) h) t)
      (every_ones es (and_r (leb 1 e.times) (there es) h) (every_behind e.one e.times (spelt es) t))
    where
      go : (n : ℕ) → T (leb 1 n) → T (every f (replicate n e.one ++ spelt es)) → T (f e.one)
      go zero h t = absurd (omega (arith, leb→le 1 0 h))
      go (suc n) h t = and_l (f e.one) (every f (replicate n e.one ++ spelt es)) t

-- elements written in another way
pub spelt_map : {A B : Type 0} (f : A → B) (es : List (Counted A)) → spelt (map (λ e. counted (f e.one) e.times) es) ≡ map f (spelt es)
spelt_map f [] = refl
spelt_map {A} {B} f (e ∷ es) = ap (λ (l : List B). replicate e.times (f e.one) ++ l) (spelt_map f es) ∙ go e.times
  where
    go : (n : ℕ) → replicate n (f e.one) ++ map f (spelt es) ≡ map f (replicate n e.one ++ spelt es)
    go zero = refl
    go (suc n) = ap (λ (l : List B). f e.one ∷ l) (go n)

-- a sum over a multiset is a sum over its elements, each as often as it is counted
pub sum_spelt : {A : Type 0} (f : A → ℕ) (es : List (Counted A)) → sum_of ◌+◌ 0 f (spelt es) ≡ sum_of ◌+◌ 0 (λ e. e.times * f e.one) es
sum_spelt f [] = refl
sum_spelt f (e ∷ es) = go e.times ∙ ap (λ (s : ℕ). e.times * f e.one + s) (sum_spelt f es)
  where
    go : (n : ℕ) → sum_of ◌+◌ 0 f (replicate n e.one ++ spelt es) ≡ n * f e.one + sum_of ◌+◌ 0 f (spelt es)
    go zero = omega arith
    go (suc n) = omega (arith, go n)

-- ---- how often

module _ {A : Type 0} (like : A → A → Bool) where
  pub count_copies : (x a : A) (n : ℕ) → count like x (replicate n a) ≡ bit (like x a) * n
  count_copies x a zero = omega arith
  count_copies x a (suc n) = omega (arith, count_copies x a n)

  pub total_append : (x : A) (a b : List (Counted A)) → total like x (a ++ b) ≡ total like x a + total like x b
  total_append x [] b = omega arith
  total_append x (e ∷ a) b = omega (arith, total_append x a b)

  pub total_none : (x : A) (es : List (Counted A)) → count like x (ones es) ≡ 0 → total like x es ≡ 0
  total_none x [] z = refl
  total_none x (e ∷ es) z =
      let b : bit (like x e.one) ≡ 0 = omega (arith, z) in
      rw b (omega (arith, total_none x es (omega (arith, z))))

module _ {A : Type 0} (like : A → A → Bool) (L : Likeness like) where
  pub count_spelt : (x : A) (es : List (Counted A)) → count like x (spelt es) ≡ total like x es
  count_spelt x [] = refl
  count_spelt x (e ∷ es) =
      omega (arith, count_append like L x (replicate e.times e.one) (spelt es), count_copies like x e.one e.times, count_spelt x es)

  -- what no entry has is not there
  pub spelt_none : (x : A) (es : List (Counted A)) → count like x (ones es) ≡ 0 → count like x (spelt es) ≡ 0
  spelt_none x es z = count_spelt x es ∙ total_none like x es z

  -- ---- counting neighbours loses nothing
  spelt_join : (a : A) (es : List (Counted A)) → spelt (join like a es) ≡ a ∷ spelt es
  spelt_join a [] = refl
  spelt_join a (e ∷ es) =
      by_test (like a e.one)
      (λ t. rw t (ap (λ (x : A). a ∷ (replicate e.times x ++ spelt es)) (L.same a e.one (true_is t))))
      (λ t. rw t refl)

  pub spelt_grouped : (l : List A) → spelt (grouped like l) ≡ l
  spelt_grouped [] = refl
  spelt_grouped (a ∷ l) = spelt_join a (grouped like l) ∙ ap (λ (m : List A). a ∷ m) (spelt_grouped l)

module _ {A : Type 0} (le like : A → A → Bool) (O : Order le) (L : Likeness like) where
  -- ---- strictly before
  pub under_unlike : (a b : A) → T (under le a b) → like a b ≡ false
  under_unlike a b t = by_test (like a b) (λ e. absurd (T_not (le b a) t (rw (L.same a b (true_is e)) (le_self le O b)))) (λ e. e)

  pub under_le : (a b : A) → T (under le a b) → T (le a b)
  under_le a b t = by_test (le b a) (λ e. absurd (T_not (le b a) t (true_is e))) (λ e. O.total b a e)

  pub le_under : (a b c : A) → T (le a b) → T (under le b c) → T (under le a c)
  le_under a b c h t = not_T (le c a) (λ u. T_not (le c b) t (O.trans c a b u h))

  pub unlike_under : (a b : A) → T (le a b) → like a b ≡ false → T (under le a b)
  unlike_under a b h e = not_T (le b a) (λ u. false_is e (rw (O.antisym a b h u) (L.self b)))

  pub below_under : (a b : A) (m : List A) → T (le a b) → Below (under le) b m → Below (under le) a m
  below_under a b [] h t = tt
  below_under a b (c ∷ m) h t = (le_under a b c h t.0, below_under a b m h t.1)

  below_le : (a : A) (m : List A) → Below (under le) a m → Below le a m
  below_le a [] t = tt
  below_le a (b ∷ m) t = (under_le a b t.0, below_le a m t.1)

  pub rising_sorted : (m : List A) → Sorted (under le) m → Sorted le m
  rising_sorted [] s = tt
  rising_sorted (a ∷ m) s = (below_le a m s.0, rising_sorted m s.1)

  -- an element that is not there, put in
  below_insert : (a b : A) (m : List A) → T (under le a b) → Below (under le) a m → Below (under le) a (insert le b m)
  below_insert a b [] h t = (h, tt)
  below_insert a b (c ∷ m) h t = go (le b c) (below_insert a b m h t.1)
    where
      go : (k : Bool) → Below (under le) a (insert le b m) → Below (under le) a (cond k (b ∷ c ∷ m) (c ∷ insert le b m))
      go true r = (h, t)
      go false r = (t.0, r)

  pub rising_insert : (a : A) (m : List A) → Sorted (under le) m → count like a m ≡ 0 → Sorted (under le) (insert le a m)
  rising_insert a [] s z = (tt, tt)
  rising_insert a (b ∷ m) s z = go (le a b) refl (like a b) refl z (rising_insert a m s.1)
    where
      go : (k : Bool) → le a b ≡ k → (j : Bool) → like a b ≡ j → bit j + count like a m ≡ 0 → (count like a m ≡ 0 → Sorted (under le) (insert le a m))
          → Sorted (under le) (cond k (a ∷ b ∷ m) (b ∷ insert le a m))
      go k t true u y r = absurd (omega arith)
      go true t false u y r = let h : T (under le a b) = unlike_under a b (true_is t) u in ((h, below_under a b m (true_is t) s.0), s)
      go false t false u y r = (below_insert b a m (not_T (le a b) (λ v. false_is t v)) s.0, r (omega arith))

  -- and one taken out
  below_out : (x : A) (a b : List A) (y : A) → Below (under le) x (a ++ (y ∷ b)) → Below (under le) x (a ++ b)
  below_out x [] b y t = t.1
  below_out x (c ∷ a) b y t = (t.0, below_out x a b y t.1)

  pub rising_out : (a b : List A) (y : A) → Sorted (under le) (a ++ (y ∷ b)) → Sorted (under le) (a ++ b)
  rising_out [] b y s = s.1
  rising_out (c ∷ a) b y s = (below_out c a b y s.0, rising_out a b y s.1)

  -- each is there once
  pub under_none : (x : A) (m : List A) → Below (under le) x m → count like x m ≡ 0
  under_none x [] t = refl
  under_none x (b ∷ m) t = rw (under_unlike x b t.0) (omega (arith, under_none x m t.1))

  pub rising_once : (a b : List A) (y : A) → Sorted (under le) (a ++ (y ∷ b)) → count like y (a ++ b) ≡ 0
  rising_once [] b y s = under_none y b s.0
  rising_once (c ∷ a) b y s = rw (over s.0) (omega (arith, rising_once a b y s.1))
    where
      seam : (m : List A) → Below (under le) c (m ++ (y ∷ b)) → T (under le c y)
      seam [] t = t.0
      seam (d ∷ m) t = seam m t.1

      over : Below (under le) c (a ++ (y ∷ b)) → like y c ≡ false
      over t = by_test (like y c) (λ e. absurd (false_is (under_unlike c y (seam a t)) (rw (L.same y c (true_is e)) (L.self c)))) (λ e. e)

  -- ---- a sorted list, counted, is strict
  below_grouped : (a : A) (l : List A) → Below le a l → Below le a (ones (grouped like l))
  below_grouped a [] t = tt
  below_grouped a (b ∷ l) t = go (grouped like l) (below_grouped a l t.1)
    where
      go : (es : List (Counted A)) → Below le a (ones es) → Below le a (ones (join like b es))
      go [] r = (t.0, tt)
      go (e ∷ es) r = by (like b e.one)
        where
          by : (k : Bool) → Below le a (ones (cond k (counted b (suc e.times) ∷ es) (counted b 1 ∷ e ∷ es)))
          by true = (t.0, r.1)
          by false = (t.0, r)

  rising_join : (a : A) (es : List (Counted A)) → Below le a (ones es) → Sorted (under le) (ones es) → Sorted (under le) (ones (join like a es))
  rising_join a [] t s = (tt, tt)
  rising_join a (e ∷ es) t s = go (like a e.one) refl
    where
      go : (k : Bool) → like a e.one ≡ k → Sorted (under le) (ones (cond k (counted a (suc e.times) ∷ es) (counted a 1 ∷ e ∷ es)))
      go true u = (rw (L.same a e.one (true_is u)) s.0, s.1)
      go false u = ((unlike_under a e.one t.0 u, below_under a e.one (ones es) t.0 s.0), s)

  there_join : (a : A) (es : List (Counted A)) → T (there es) → T (there (join like a es))
  there_join a [] t = tt
  there_join a (e ∷ es) t = go (like a e.one)
    where
      go : (k : Bool) → T (there (cond k (counted a (suc e.times) ∷ es) (counted a 1 ∷ e ∷ es)))
      go true = and_i (leb 1 (suc e.times)) (there es) (le→leb 1 (suc e.times) (omega arith)) (and_r (leb 1 e.times) (there es) t)
      go false = t

  pub grouped_strict : (l : List A) → Sorted le l → Strict le (grouped like l)
  grouped_strict [] s = record { rising = tt; some = tt }
  grouped_strict (a ∷ l) s =
      let r : Strict le (grouped like l) = grouped_strict l s.1 in
      record { rising = rising_join a (grouped like l) (below_grouped a l s.0) r.rising; some = there_join a (grouped like l) r.some }

  -- ---- a strict list is what its multiset is counted to
  grouped_copies : (a : A) (n : ℕ) (l : List A) → Below (under le) a (ones (grouped like l)) → grouped like (replicate (suc n) a ++ l) ≡ counted a (suc n) ∷ grouped like l
  grouped_copies a zero l t = go (grouped like l) t
    where
      go : (es : List (Counted A)) → Below (under le) a (ones es) → join like a es ≡ counted a 1 ∷ es
      go [] u = refl
      go (e ∷ es) u = rw (under_unlike a e.one u.0)
  grouped_copies a (suc n) l t =
      ap (join like a) (grouped_copies a n l t)
      ∙ by_test (like a a) (λ e. rw e) (λ e. absurd (false_is e (L.self a)))

  pub grouped_spelt : (es : List (Counted A)) → Strict le es → grouped like (spelt es) ≡ es
  grouped_spelt [] s = refl
  grouped_spelt (e ∷ es) s =
      go e.times refl (grouped_spelt es (record { rising = s.rising.1; some = and_r (leb 1 e.times) (there es) s.some }))
    where
      go : (n : ℕ) → e.times ≡ n → grouped like (spelt es) ≡ es → grouped like (replicate e.times e.one ++ spelt es) ≡ e ∷ es
      go zero z r = absurd (omega (arith, leb→le 1 e.times (and_l (leb 1 e.times) (there es) s.some)))
      go (suc n) z r =
          ap (λ (m : ℕ). grouped like (replicate m e.one ++ spelt es)) z
          ∙ grouped_copies e.one n (spelt es) (subst (λ (fs : List (Counted A)). Below (under le) e.one (ones fs)) (sym r) s.rising.0)
          ∙ ap₂ (λ (m : ℕ) (fs : List (Counted A)). counted e.one m ∷ fs) (sym z) r

  below_copies : (a b : A) (n : ℕ) (l : List A) → T (le a b) → Below le a l → Below le a (replicate n b ++ l)
  below_copies a b zero l h t = t
  below_copies a b (suc n) l h t = (h, below_copies a b n l h t)

  below_spelt : (a : A) (es : List (Counted A)) → Below le a (ones es) → Below le a (spelt es)
  below_spelt a [] t = tt
  below_spelt a (e ∷ es) t = below_copies a e.one e.times (spelt es) t.0 (below_spelt a es t.1)

  sorted_copies : (a : A) (n : ℕ) (l : List A) → Below le a l → Sorted le l → Sorted le (replicate n a ++ l)
  sorted_copies a zero l t s = s
  sorted_copies a (suc n) l t s = (below_copies a a n l (le_self le O a) t, sorted_copies a n l t s)

  pub spelt_sorted : (es : List (Counted A)) → Sorted le (ones es) → Sorted le (spelt es)
  spelt_sorted [] s = tt
  spelt_sorted (e ∷ es) s = sorted_copies e.one e.times (spelt es) (below_spelt e.one es s.0) (spelt_sorted es s.1)

  pub strict_sorted : (es : List (Counted A)) → Strict le es → Sorted le (spelt es)
  strict_sorted es s = spelt_sorted es (rising_sorted (ones es) s.rising)

  -- ---- the counted canonical list
  pub tally_strict : (m : List A) → Strict le (tally le like m)
  tally_strict m = grouped_strict (sort le m) (sort_sorted le O m)

  pub spelt_tally : (m : List A) → spelt (tally le like m) ≡ sort le m
  spelt_tally m = spelt_grouped like L (sort le m)

  pub count_tally : (x : A) (m : List A) → count like x (spelt (tally le like m)) ≡ count like x m
  count_tally x m = ap (count like x) (spelt_tally m) ∙ count-sort le O like L x m

  pub tally_is : (m : List A) (es : List (Counted A)) → Strict le es → Same like m (spelt es) → tally le like m ≡ es
  tally_is m es s h =
      ap (grouped like)
      (one_list le O like L (sort le m) (spelt es) (sort_sorted le O m) (strict_sorted es s) (λ x. count-sort le O like L x m ∙ h x))
      ∙ grouped_spelt es s

  pub tally_spelt : (es : List (Counted A)) → Strict le es → tally le like (spelt es) ≡ es
  tally_spelt es s = tally_is (spelt es) es s (λ x. refl)

  -- two strict lists with the same counts are equal
  pub one_tally : (es fs : List (Counted A)) → Strict le es → Strict le fs → Same like (spelt es) (spelt fs) → es ≡ fs
  one_tally es fs s t h = sym (tally_spelt es s) ∙ tally_is (spelt es) fs t h

  pub tally_same : (m n : List A) → Same like m n → tally le like m ≡ tally le like n
  tally_same m n h = ap (grouped like) (sort_same le O like L m n h)

-- ---- elements written in another way, which keeps likeness among those that have P
module _ {A B : Type 0} (like : A → A → Bool) (likeB : B → B → Bool) (f : A → B) (P : A → Type 0)
    (alike : (a b : A) → P a → P b → likeB (f a) (f b) ≡ like a b) where
  abbrev pub Each : List A → Type 0
  Each [] = Unit {0}
  Each (a ∷ l) = P a × Each l

  abbrev pub rewritten : List (Counted A) → List (Counted B)
  rewritten es = map (λ e. counted (f e.one) e.times) es

  pub each_grouped : (l : List A) → Each l → Each (ones (grouped like l))
  each_grouped [] p = tt
  each_grouped (a ∷ l) p = go (grouped like l) (each_grouped l p.1)
    where
      go : (es : List (Counted A)) → Each (ones es) → Each (ones (join like a es))
      go [] q = (p.0, tt)
      go (e ∷ es) q = by (like a e.one)
        where
          by : (k : Bool) → Each (ones (cond k (counted a (suc e.times) ∷ es) (counted a 1 ∷ e ∷ es)))
          by true = (p.0, q.1)
          by false = (p.0, q)

  rewritten_join : (a : A) (es : List (Counted A)) → P a → Each (ones es) → rewritten (join like a es) ≡ join likeB (f a) (rewritten es)
  rewritten_join a [] p q = refl
  rewritten_join a (e ∷ es) p q = rw (alike a e.one p q.0) (go (like a e.one))
    where
      go : (k : Bool) → rewritten (cond k (counted a (suc e.times) ∷ es) (counted a 1 ∷ e ∷ es))
          ≡ cond k (counted (f a) (suc e.times) ∷ rewritten es) (counted (f a) 1 ∷ counted (f e.one) e.times ∷ rewritten es)
      go true = refl
      go false = refl

  pub rewritten_grouped : (l : List A) → Each l → rewritten (grouped like l) ≡ grouped likeB (map f l)
  rewritten_grouped [] p = refl
  rewritten_grouped (a ∷ l) p =
      rewritten_join a (grouped like l) p.0 (each_grouped l p.1) ∙ ap (join likeB (f a)) (rewritten_grouped l p.1)
