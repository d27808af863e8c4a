-- Laws of tables in rows of 32: which row is looked up, which table holds a list, where a table is empty.
use Prim.Native.Nat.{ℕ, ◌≤◌, ◌<◌}
use mathlib.Core.Path.{◌≡◌, ap, sym, ◌∙◌, fun_ext}
use mathlib.Core.List.{List, []}
use mathlib.Core.Bool.{Bool, true, cond, ◌&&◌, and-true}
use native.Mathlib.Omega.{arith}
use lib.Dec.{ltb}
use lib.ListN.{length, take, drop, get_or, replicate, length-replicate, get_or-replicate, get_or-eq_default}
use lib.Seq.{ext_get_or, length-take-le}
use Rattle.std.proofs.lemmas.List.{get_or_default}
use Rattle.text.specs.Lines.{every}
use Rattle.text.specs.Answers.{padded}
use Rattle.text.proofs.TestLaws.{every-at}
use Rattle.model.specs.Rules.{nth}
use Rattle.model.specs.Held.{no_row, tabled, Bytes, row_at, row_in, listed}
use Rattle.model.specs.Test.{empty, empty_past}
use Rattle.text.proofs.PaddedLaws.{length-padded, take-padded}
use Rattle.model.proofs.PaddedRows.{empty-zeros, empty_split, nth-zeros, nth-taken, nth-padded, padded_past, padded-take, padded_none}
use Rattle.model.proofs.SlotLaws.{below_at, below_of, cond_below, cond_from, by_index, listed_at, listed_past, length-listed, length-held, held_at, held_past}

-- ---- rows

-- n numbers of a row that has them
pub length-row : (t : List (List ℕ)) (i n : ℕ) → n ≤ length (row_at t i) → length (row_in n t i) ≡ n
length-row t i n h = length-take-le n (row_at t i) h

-- a table of which each row is empty
pub empty_rows : (t : List (List ℕ)) (n : ℕ) → length t ≡ n → ((i : ℕ) → i < n → length (row_at t i) ≡ 32) → every empty t ≡ true → t ≡ replicate n no_row
empty_rows t n long wide h =
    ext_get_or [] t (replicate n no_row) (long ∙ sym (length-replicate n no_row)) λ i p.
    let q : i < n = omega (arith, long) in
    empty-zeros (row_at t i) 32 (wide i q) (every-at empty t i [] h p) ∙ sym (get_or-replicate n i no_row [] q)

-- a table with nothing in it
pub zero_bytes : (n : ℕ) → Bytes n (replicate n no_row)
zero_bytes n = record {
  long = length-replicate n no_row;
  wide = λ i p. rw (get_or-replicate n i no_row [] p);
  small = λ i k.
      by_index n i
      (λ p. rw (get_or-replicate n i no_row [] p) (omega (arith, nth-zeros 32 k)))
      (λ p. let e : row_at (replicate n no_row) i ≡ [] = get_or-eq_default (replicate n no_row) [] (rw (length-replicate n no_row) p) in rw e (omega arith));
}

-- ---- a list in a table, each thing in its row
module _ {A : Type 0} (f : A → List ℕ) where
  -- the table has its room
  pub length-tabled : (rows : ℕ) (l : List A) → length (tabled f rows l) ≡ rows
  unfolding tabled
  length-tabled rows l = length-held (λ a. padded (f a)) no_row l rows

  -- a thing that has no numbers stands for a row that is not used
  module _ (none : A) (nothing : f none ≡ []) (rows : ℕ) where
    -- a row of the table
    pub tabled-row : (l : List A) → length l ≤ rows → (j : ℕ) → j < rows → row_at (tabled f rows l) j ≡ padded (f (get_or l j none))
    unfolding tabled
    tabled-row l few j h =
        get_or_default (tabled f rows l) j [] no_row (rw (length-tabled rows l) h)
        ∙ by_index (length l) j
        (λ p. held_at (λ a. padded (f a)) no_row l rows j none few p)
        (λ p. held_past (λ a. padded (f a)) no_row l rows j few p ∙ rw (get_or-eq_default l none p, nothing, padded_none))

    -- what was put there is taken back
    pub tabled_part : (l : List A) → length l ≤ rows → (j n : ℕ) → j < length l → n ≤ 32 → length (f (get_or l j none)) ≡ n
        → row_in n (tabled f rows l) j ≡ f (get_or l j none)
    tabled_part l few j n h p e =
        ap (take n) (tabled-row l few j (omega arith)) ∙ rw (← e) (take-padded (f (get_or l j none)) (omega arith))

    -- the table of a list of bytes holds bytes
    pub tabled-bytes : (l : List A) → length l ≤ rows → ((i : ℕ) → i < length l → (length (f (get_or l i none)) ≤ 32) × ((c : ℕ) → nth (f (get_or l i none)) c ≤ 255))
        → Bytes rows (tabled f rows l)
    tabled-bytes l few h = record {
      long = length-tabled rows l;
      wide = λ i p. rw (tabled-row l few i p) (length-padded (f (get_or l i none)));
      small = λ i c.
          by_index rows i
          (λ p.
          rw (tabled-row l few i p)
          (by_index (length l) i
          (λ q. omega (arith, nth-padded (f (get_or l i none)) (h i q).0 c, (h i q).1 c))
          (λ q. rw (get_or-eq_default l none q, nothing, padded_none) (omega (arith, nth-zeros 32 c)))))
          (λ p. let e : row_at (tabled f rows l) i ≡ [] = get_or-eq_default (tabled f rows l) [] (rw (length-tabled rows l) p) in rw e (omega arith));
    }

    module _ (width : ℕ → ℕ) where
      -- the table of a list uses no more than its rows
      pub tabled_past : (l : List A) → length l ≤ rows → ((i : ℕ) → i < length l → (width i ≤ 32) × (length (f (get_or l i none)) ≡ width i))
          → empty_past rows (λ i. cond (ltb i (length l)) (width i) 0) (tabled f rows l) ≡ true
      unfolding empty_past
      tabled_past l few h =
          below_of rows _ λ i p.
          rw (tabled-row l few i p)
          (by_index (length l) i
          (λ q. rw (cond_below (length l) i (width i) 0 q) (padded_past (f (get_or l i none)) (width i) (omega (arith, h i q)) (omega (arith, h i q))))
          (λ q. rw (cond_from (length l) i (width i) 0 q, get_or-eq_default l none q, nothing) (padded_past [] 0 (omega arith) (omega arith))))

      -- a table that uses no more than n rows is the table of what stands in them
      pub table_is : (n : ℕ) (t : List (List ℕ)) (g : ℕ → A) → Bytes rows t → n ≤ rows
          → ((i : ℕ) → f (g i) ≡ row_in (width i) t i) → empty_past rows (λ i. cond (ltb i n) (width i) 0) t ≡ true → t ≡ tabled f rows (listed g 0 n)
      unfolding empty_past
      table_is n t g b few is h =
          ext_get_or [] t (tabled f rows (listed g 0 n)) (b.long ∙ sym (length-tabled rows (listed g 0 n))) λ i q.
          let p : i < rows = omega (arith, b.long) in
          let used = cond (ltb i n) (width i) 0 in
          sym (padded-take used (row_at t i) (b.wide i p) (below_at rows _ h i p))
          ∙ by_index n i
          (λ q. rw (cond_below n i (width i) 0 q, listed_at g n i none q, is i))
          (λ q. rw (cond_from n i (width i) 0 q, listed_past g n i none q, nothing))
          ∙ sym (tabled-row (listed g 0 n) (rw (length-listed g 0 n) few) i p)

module _ (rows n : ℕ) (width : ℕ → ℕ) (t : List (List ℕ)) (h : empty_past rows (λ i. cond (ltb i n) (width i) 0) t ≡ true) (few : n ≤ rows) (i : ℕ) (p : i < n) where
  unused : empty (drop (width i) (row_at t i)) ≡ true
  unfolding empty_past
  unused = rw (cond_below n i (width i) 0 p) at (below_at rows _ h i (omega arith))

  -- what a table does not use is not missed in its rows
  pub nth-row : nth (row_in (width i) t i) ≡ nth (row_at t i)
  nth-row = fun_ext (nth-taken (width i) (row_at t i) unused)

  -- nor by a test for 0
  pub empty-row : empty (row_in (width i) t i) ≡ empty (row_at t i)
  empty-row =
      let taken = empty (take (width i) (row_at t i)) in
      sym (and-true taken) ∙ ap (λ (b : Bool). taken && b) (sym unused) ∙ empty_split (width i) (row_at t i)
