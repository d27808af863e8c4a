-- A list of any length to its end, as a part of a line.
use Prim.Native.Nat.{ℕ, zero, suc, ◌+◌, ◌≤◌, ◌<◌}
use mathlib.Core.Path.{◌≡◌, refl, ap, sym, ◌∙◌}
use mathlib.Core.List.{List, [], ◌∷◌, ◌++◌, append_assoc}
use mathlib.Core.Bool.{Bool, true, false, ◌||◌, false≢true, or-true}
use native.Mathlib.Omega.{arith}
use lib.Dec.{eqb, ltb, lit<}
use borrow.Author.Tests.{eqb-true, eqb-false, eq-eqb, lt-ltb, ltb-true}
use lib.ListN.{length, drop, get_or, length-append, length-drop}
use Rattle.text.specs.Bytes.{Text, comma, far}
use Rattle.text.proofs.Basics.{by_test}
use Rattle.text.proofs.ByteLaws.{far_least, far_end}
use Rattle.text.specs.Number.{Read, missing, found}
use Rattle.text.specs.Lists.{stop_of, any_items, any_list}
use Rattle.text.specs.Printed.{items_text, end_text}
use Rattle.text.proofs.ReadLaws.{found-is}
use Rattle.text.proofs.Standing.{Stands, stands_left, stands_right, first_byte}
use Rattle.text.proofs.Far.{far_stands, far_whole, far_past, far_short}
use Rattle.text.proofs.Spelled.{Spelled}
use Rattle.text.proofs.Halts.{Halts}
use Rattle.text.proofs.Parts.{furthest_least, Part, Joins, row_part, either_part, same_part}
use Rattle.text.proofs.LineParts.{Closes, item_part, items_part, list_part, items_split, end_items, stop_other}

stop_more : (last n : ℕ) → 0 < n → stop_of last n ≡ comma
unfolding stop_of
stop_more last zero h = absurd (omega arith)
stop_more last (suc n) h = refl

-- ---- lists of one and at most k more
module _ {A : Type 0} where
  abbrev tailed : (List A → Bool) → List A → Bool
  tailed f [] = false
  tailed f (a ∷ l) = f l

  abbrev few : ℕ → List A → Bool
  few zero l = eqb (length l) 1
  few (suc k) l = eqb (length l) 1 || tailed (few k) l

  few_some : (k : ℕ) (l : List A) → few k l ≡ true → 0 < length l
  few_some zero [] h = absurd (false≢true h)
  few_some (suc k) [] h = absurd (false≢true h)
  few_some k (a ∷ l) h = omega arith

  some_few : (k : ℕ) (l : List A) → 0 < length l → length l ≤ suc k → few k l ≡ true
  some_few zero l p h = eq-eqb (length l) 1 (omega arith)
  some_few (suc k) [] p h = absurd (omega arith)
  some_few (suc k) (a ∷ []) p h = refl
  some_few (suc k) (a ∷ b ∷ l) p h = rw (some_few k (b ∷ l) (omega arith) (omega arith), or-true)

  one_few : (k : ℕ) (a : A) → few k (a ∷ []) ≡ true
  one_few k a = some_few k (a ∷ []) (omega arith) (omega arith)

module _ {A : Type 0} (value : Text → ℕ → Read A) (text : A → Text) (one : Spelled value text) (halts : Halts value text) (last : ℕ)
    (closes : Closes last)
  where
    -- several values: the first, and what stands behind it
    pub more_split : (a : A) (l : List A) → 0 < length l → items_text text last (a ∷ l) ≡ (text a ++ (comma ∷ [])) ++ items_text text last l
    more_split a l h = rw (items_split text last (length l) a l refl, stop_more last (length l) h)

    pub first_of : (s : Text) (at : ℕ) (a : A) (l : List A) → Stands s at (items_text text last (a ∷ l))
        → (value s at ≡ found a (at + length (text a))) × (get_or s (at + length (text a)) 0 ≡ stop_of last (length l))
    first_of s at a l st =
        let stop = stop_of last (length l) in
        let t = text a ++ (stop ∷ []) in
        let left = stands_left s at t (items_text text last l) (rw (items_split text last (length l) a l refl) at st) in (
          one.forth s at a (stop ∷ drop (at + length t) s) (left ∙ append_assoc (text a) (stop ∷ []) _) (stop_other last (length l) closes.other),
          first_byte s (at + length (text a)) _ (stands_right s at (text a) (stop ∷ []) left),
        )

    -- one value does not stand where several do
    apart : (k : ℕ) (l m : List A) → eqb (length l) 1 ≡ true → tailed (few k) m ≡ true → (s : Text) (at : ℕ) → Stands s at (items_text text last l)
        → Stands s at (items_text text last m) → ⊥
    unfolding stop_of
    apart k [] m p q s at st su = absurd (false≢true p)
    apart k (v ∷ w ∷ l) m p q s at st su = absurd (omega (arith, eqb-true (suc (suc (length l))) 1 p))
    apart k (v ∷ []) [] p q s at st su = absurd (false≢true q)
    apart k (v ∷ []) (a ∷ m) p q s at st su =
        let f = first_of s at v [] st in
        let g = first_of s at a m su in
        let e : at + length (text v) ≡ at + length (text a) = (found-is (sym f.0 ∙ g.0)).1 in
        closes.no-comma (sym f.1 ∙ rw e g.1 ∙ stop_more last (length m) (few_some k m q))

    more_joins : (k : ℕ) → Joins (λ a l. a ∷ l) (λ a. text a ++ (comma ∷ [])) (λ a. true) (items_text text last) (λ a l. few k l) (items_text text last) (tailed (few k))
    more_joins k = record {
      join = λ a l g h. (more_split a l (few_some k l h), h);
      split = elim [ [] ↦ λ h. absurd (false≢true h) | a ∷ l ↦ λ h. (a, l, refl, refl, h) ];
    }

    few_part : (k : ℕ) → Part (any_items value last k) (items_text text last) (few k)
    unfolding any_items
    few_part zero = items_part value text one halts last closes 0
    few_part (suc k) =
        either_part (items_part value text one halts last closes 0)
        (row_part (λ a l. a ∷ l) (item_part value text one halts comma refl (lit< tt)) (more_joins k) (λ a. few_part k))
        (apart k)

    -- the byte at fault is not before the first
    pub any_least : (k : ℕ) (s : Text) (at b : ℕ) → any_items value last k s at ≡ missing b → at ≤ b
    any_least k s at b e = furthest_least ((few_part k).fails s at b e)

    -- ---- as many as there are bytes are enough
    items-length : (l : List A) → length l ≤ length (items_text text last l)
    unfolding items_text
    items-length [] = omega arith
    items-length (a ∷ l) = rw length-append (omega (arith, items-length l))

    -- a list that goes at least as far, of which no more than k bytes can be met
    cut : (k : ℕ) (l : List A) → 0 < length l
        → (m : List A) × (few k m ≡ true) × ((s : Text) (at : ℕ) → length s ≤ at + k → far s at (items_text text last l) ≤ far s at (items_text text last m))
    cut k [] p = absurd (omega arith)
    cut k (a ∷ []) p = (a ∷ [], one_few k a, λ s at h. omega arith)
    cut zero (a ∷ b ∷ l) p =
        (a ∷ [], refl, λ s at h. omega (arith, far_end s at (items_text text last (a ∷ b ∷ l)) (omega arith), far_least s at (items_text text last (a ∷ []))))
    cut (suc k) (a ∷ b ∷ l) p =
        let r = cut k (b ∷ l) (omega arith) in
        let t = text a ++ (comma ∷ []) in
        let n = few_some k r.0 r.1 in (
          a ∷ r.0,
          rw (r.1, or-true),
          λ s at h.
              rw (more_split a (b ∷ l) (omega arith), more_split a r.0 n)
              (by_test (eqb (far s at t) (at + length t))
              (λ w.
              let st = far_stands s at t (eqb-true _ _ w) in
              let past : (q : Text) → far s at (t ++ q) ≡ far s (at + length t) q = λ q. far_past s at t q (at + length t) (record { stands = st; next_is = refl }) in
              rw (past (items_text text last (b ∷ l)), past (items_text text last r.0)) (r.2 s (at + length t) (omega (arith, length-append (text a) (comma ∷ [])))))
              (λ w.
              let no : Stands s at t → ⊥ = λ st. eqb-false _ _ w (far_whole s at t st) in
              rw (far_short s at t (items_text text last (b ∷ l)) no, far_short s at t (items_text text last r.0) no) (omega arith))),
        )

    some_part : Part (λ s at. any_items value last (length s) s at) (items_text text last) (λ l. ltb 0 (length l))
    some_part = record {
      some = (halts.some ∷ [], refl);
      finds = λ s. record {
        back = λ at l next e.
            let r = ((few_part (length s)).finds s).back at l next e in
            record { reaches = r.reaches; fine-is = lt-ltb 0 (length l) (few_some (length s) l r.fine-is) };
        forth = λ at l st h.
            let n : length (drop at s) ≡ length (items_text text last l) + _ = ap length st ∙ length-append (items_text text last l) _ in
            ((few_part (length s)).finds s).forth at l st
            (some_few (length s) l (ltb-true 0 (length l) h) (omega (arith, n, length-drop at s, items-length l)));
      };
      fails = λ s at b e.
          let k = (few_part (length s)).fails s at b e in
          record {
            goes = let g = k.goes in (g.0, lt-ltb 0 (length g.0) (few_some (length s) g.0 g.1), g.2);
            stays = λ l h.
                let c = cut (length s) l (ltb-true 0 (length l) h) in
                omega (arith, c.2 s at (omega arith), k.stays c.0 c.1);
          };
    }

    -- no list but the empty one begins with the byte that ends it
    none_some : (l m : List A) → eqb (length l) 0 ≡ true → ltb 0 (length m) ≡ true → (s : Text) (at : ℕ) → Stands s at (end_text text last l)
        → Stands s at (end_text text last m) → ⊥
    unfolding end_text items_text
    none_some (a ∷ l) m p q s at st su = omega (arith, eqb-true (suc (length l)) 0 p)
    none_some [] [] p q s at st su = false≢true q
    none_some [] (b ∷ m) p q s at st su =
        let t = stop_of last (length m) ∷ items_text text last m in
        let r = su ∙ append_assoc (text b) t _ in
        halts.begins b _ last closes.other closes.no-minus (sym (first_byte s at _ r) ∙ first_byte s at _ st)

    all_lists : (l : List A) → (eqb (length l) 0 || ltb 0 (length l)) ≡ true
    all_lists [] = refl
    all_lists (a ∷ l) = rw (lt-ltb 0 (suc (length l)) (omega arith), or-true)

    -- any list, to its end
    pub any_part : Part (any_list value last) (end_text text last) (λ l. true)
    unfolding any_list
    any_part =
        let some = same_part some_part (end_text text last) (λ l. ltb 0 (length l)) (λ l h. (end_items text last l (ltb-true 0 (length l) h), h)) (λ l h. h) in
        same_part (either_part (list_part value text one halts last closes 0) some none_some) (end_text text last) (λ l. true) (λ l h. (refl, refl)) (λ l h. all_lists l)
