-- The parts of a line: a value and the byte that ends it, lists of values, and what stands behind a key.
use Prim.Native.Nat.{ℕ, zero, suc, ◌+◌, ◌<◌}
use mathlib.Core.Path.{◌≡◌, refl, ap, sym, subst, fun_ext, ◌∙◌}
use mathlib.Core.List.{List, [], ◌∷◌, ◌++◌, append_assoc}
use mathlib.Core.Bool.{Bool, true, false}
use native.Mathlib.Omega.{arith}
use native.Mathlib.Nat.{add-zero}
use lib.Dec.{eqb, lit<}
use borrow.Author.Tests.{eqb-true, eqb-false, eq-eqb}
use lib.ListN.{length, drop, get_or}
use lib.Seq.{append_snoc}
use Rattle.text.specs.Bytes.{Text, lf, comma, minus, star}
use Rattle.text.proofs.Basics.{by_test}
use Rattle.text.proofs.ByteLaws.{far_least}
use Rattle.text.specs.Number.{Read, missing, found, is_digit, made, both, literal, ended, item}
use Rattle.text.specs.Lists.{stop_of, joined, values, list_end}
use Rattle.text.specs.Lines.{behind}
use Rattle.text.specs.Printed.{items_text, end_text}
use Rattle.text.proofs.NumberLaws.{ended_here, ended_other, made_ended}
use Rattle.text.proofs.ReadLaws.{by_read, missing≢found, missing-is, found-is, literal_here, literal_other}
use Rattle.text.proofs.Standing.{Reaches, stands_right, ends_join, reach_join, nothing_reaches, byte_stands, first_byte}
use Rattle.text.proofs.Far.{far_past, far_more, far_whole, far_other}
use Rattle.text.proofs.Exactly.{accepts_as}
use Rattle.text.proofs.Spelled.{Spelled}
use Rattle.text.proofs.Halts.{Halts}
use Rattle.text.proofs.Parts.{Furthest, Part, Joins, literal_part, row_part, made_part, same_part}

-- ---- a value and the byte that ends it
module _ {A : Type 0} (value : Text → ℕ → Read A) (text : A → Text) (one : Spelled value text) (halts : Halts value text) (stop : ℕ)
    (other : is_digit stop ≡ false) (more : 0 < stop)
  where
    abbrev stop_text : A → Text
    stop_text a = text a ++ (stop ∷ [])

    item_back : (s : Text) (at : ℕ) (r : Read A) (a : A) (next : ℕ) → value s at ≡ r → ended stop s r ≡ found a next → Reaches s at (stop_text a) next
    unfolding ended
    item_back s at (missing b) a next q e = absurd (missing≢found e)
    item_back s at (found v end) a next q e =
        by_test (eqb (get_or s end 0) stop)
        (λ h.
        let w = eqb-true _ _ h in
        let k = found-is (sym (ended_here stop s v end w) ∙ e) in
        rw (← k.0, ← k.1) (reach_join s at (text v) (stop ∷ []) end (end + 1) (one.back s at v end q)
        (record { stands = byte_stands s end stop more w; next_is = refl })))
        (λ h. absurd (missing≢found (sym (ended_other stop s v end (eqb-false _ _ h)) ∙ e)))

    item_fails : (s : Text) (at : ℕ) (r : Read A) (b : ℕ) → value s at ≡ r → ended stop s r ≡ missing b → Furthest stop_text (λ a. true) s at b
    unfolding ended
    item_fails s at (missing c) b q e =
        let k = missing-is e in
        let g = halts.goes s at c q in
        record {
          goes = (g.0, refl, omega (arith, k, g.1, far_more s at (text g.0) (stop ∷ [])));
          stays = λ a h. omega (arith, k, halts.stays s at c q a stop other);
        }
    item_fails s at (found v end) b q e =
        by_test (eqb (get_or s end 0) stop)
        (λ h. absurd (missing≢found (sym e ∙ ended_here stop s v end (eqb-true _ _ h))))
        (λ h.
        let n = eqb-false _ _ h in
        let k = missing-is (sym (ended_other stop s v end n) ∙ e) in
        record {
          goes = (v, refl, omega (arith, k, far_past s at (text v) (stop ∷ []) end (one.back s at v end q), far_least s end (stop ∷ [])));
          stays = λ a h. omega (arith, k, halts.ends s at v end q a stop other n);
        })

    pub item_part : Part (item value stop) stop_text (λ a. true)
    unfolding item
    item_part = record {
      some = (halts.some, refl);
      finds = λ s. record {
        back = λ at a next e. record { reaches = item_back s at (value s at) a next refl e; fine-is = refl };
        forth = λ at a st h.
            let v = one.forth s at a (stop ∷ drop (at + length (stop_text a)) s) (st ∙ append_assoc (text a) (stop ∷ []) _) other in
            let c = first_byte s (at + length (text a)) _ (stands_right s at (text a) (stop ∷ []) st) in
            rw (v, ended_here stop s a (at + length (text a)) c, ends_join at (text a) (stop ∷ []));
      };
      fails = λ s at b e. item_fails s at (value s at) b refl e;
    }

-- ---- the byte that ends a list: no digit, no comma and no minus sign
pub record Closes (last : ℕ) : Type 0 where
  pub positive : 0 < last
  pub other : is_digit last ≡ false
  pub no-comma : last ≡ comma → ⊥
  pub no-minus : last ≡ minus → ⊥

pub lf_closes : Closes lf
lf_closes = record { positive = lit< tt; other = refl; no-comma = λ e. omega (arith, e); no-minus = λ e. omega (arith, e) }

pub star_closes : Closes star
star_closes = record { positive = lit< tt; other = refl; no-comma = λ e. omega (arith, e); no-minus = λ e. omega (arith, e) }

pub stop_positive : (last n : ℕ) → 0 < last → 0 < stop_of last n
unfolding stop_of
stop_positive last zero h = h
stop_positive last (suc n) h = lit< tt

pub stop_other : (last n : ℕ) → is_digit last ≡ false → is_digit (stop_of last n) ≡ false
unfolding stop_of
stop_other last zero h = h
stop_other last (suc n) h = refl

-- a fixed text of one byte, as that byte behind nothing
pub literal_ended : (c : ℕ) (s : Text) (at : ℕ) → 0 < c → literal (c ∷ []) s at ≡ ended c s (found tt at)
literal_ended c s at p =
    by_test (eqb (get_or s at 0) c)
    (λ h.
    let e = eqb-true _ _ h in
    literal_here (c ∷ []) s at (far_whole s at (c ∷ []) (byte_stands s at c p e)) ∙ sym (ended_here c s tt at e))
    (λ h.
    let n = eqb-false _ _ h in
    let k = far_other s at (c ∷ []) n in
    literal_other (c ∷ []) s at (λ e. omega (arith, e, k)) ∙ ap missing k ∙ sym (ended_other c s tt at n))

-- ---- lists of values

-- the first of several values and what stands behind it
pub items_split : {A : Type 0} (text : A → Text) (last n : ℕ) (a : A) (l : List A) → length l ≡ n
    → items_text text last (a ∷ l) ≡ (text a ++ (stop_of last n ∷ [])) ++ items_text text last l
unfolding items_text
items_split text last n a l e = rw (e, append_snoc)

pub end_items : {A : Type 0} (text : A → Text) (last : ℕ) (l : List A) → 0 < length l → end_text text last l ≡ items_text text last l
unfolding end_text
end_items text last [] h = absurd (omega arith)
end_items text last (a ∷ l) h = refl

no_value : {A : Type 0} (l : List A) → eqb (length l) 0 ≡ true → l ≡ []
no_value [] h = refl
no_value (a ∷ l) h = absurd (omega (arith, eqb-true (suc (length l)) 0 h))

module _ {A : Type 0} (value : Text → ℕ → Read A) (last : ℕ) where
  -- n values, each with what stands behind it
  unfoldable items : ℕ → Text → ℕ → Read (List A)
  items zero s at = found [] at
  items (suc n) s at = both (λ a l. a ∷ l) (item value (stop_of last n) s at) λ a next. items n s next

  -- one value to the end of its list
  item_list : (s : Text) (at : ℕ) → items 1 s at ≡ list_end value last 1 s at
  unfolding items stop_of list_end values joined both made item ended
  item_list s at =
      by_read (value s at)
      (λ b e. rw e)
      (λ a u e. by_test (eqb (get_or s u 0) last) (λ h. rw (e, h, ended)) (λ h. rw (e, h, ended)))

  -- and a value before others
  pub list_more : (n : ℕ) (s : Text) (at : ℕ)
      → list_end value last (suc (suc n)) s at ≡ both (λ a l. a ∷ l) (item value comma s at) (λ a next. list_end value last (suc n) s next)
  unfolding list_end values joined both ended
  list_more n s at =
      by_read (item value comma s at)
      (λ b e. rw (e, ended))
      (λ a u e. rw e (made_ended (λ l. a ∷ l) last s (values value (suc n) s u)))

  items_list : (n : ℕ) (s : Text) (at : ℕ) → items (suc n) s at ≡ list_end value last (suc n) s at
  unfolding items stop_of
  items_list zero s at = item_list s at
  items_list (suc n) s at =
      ap (both (λ a l. a ∷ l) (item value comma s at)) (fun_ext λ a. fun_ext λ next. items_list n s next) ∙ sym (list_more n s at)

  list_none : 0 < last → (s : Text) (at : ℕ) → made (λ v. []) (literal (last ∷ []) s at) ≡ list_end value last 0 s at
  unfolding list_end values made
  list_none p s at = ap (made (λ v. [])) (literal_ended last s at p) ∙ sym (made_ended (λ (v : Unit {0}). []) last s (found tt at))

module _ {A : Type 0} (value : Text → ℕ → Read A) (text : A → Text) (one : Spelled value text) (halts : Halts value text) (last : ℕ)
    (closes : Closes last)
  where
    -- n more values than one
    list_joins : (n : ℕ)
        → Joins (λ a l. a ∷ l) (λ a. text a ++ (stop_of last n ∷ [])) (λ a. true) (items_text text last) (λ a l. eqb (length l) n) (items_text text last) (λ l. eqb (length l) (suc n))
    list_joins n = record {
      join = λ a l g h. let m = eqb-true _ _ h in (items_split text last n a l m, eq-eqb _ _ (ap suc m));
      split = elim [
        | [] ↦ λ h. absurd (omega (arith, eqb-true 0 (suc n) h))
        | a ∷ l ↦ λ h. let m = eqb-true (suc (length l)) (suc n) h in (a, l, refl, refl, eq-eqb (length l) n (omega arith))
      ];
    }

    each_part : (n : ℕ) → Part (items value last n) (items_text text last) (λ l. eqb (length l) n)
    unfolding items items_text
    each_part zero = record {
      some = ([], refl);
      finds = λ s. record {
        back = λ at l next e.
            accepts_as s at (items_text text last) (λ l. eqb (length l) 0) [] l at next (found-is e) (record { reaches = nothing_reaches s at; fine-is = refl });
        forth = λ at l st h. rw (no_value l h, add-zero at);
      };
      fails = λ s at b e. absurd (missing≢found (sym e));
    }
    each_part (suc n) =
        row_part (λ a l. a ∷ l) (item_part value text one halts (stop_of last n) (stop_other last n closes.other) (stop_positive last n closes.positive)) (list_joins n)
        (λ a. each_part n)

    -- n values, one at least, joined by commas and ended
    pub items_part : (n : ℕ) → Part (list_end value last (suc n)) (items_text text last) (λ l. eqb (length l) (suc n))
    items_part n =
        subst (λ f. Part f (items_text text last) (λ l. eqb (length l) (suc n))) (fun_ext λ s. fun_ext λ at. items_list value last n s at) (each_part (suc n))

    -- a list of n values to its end
    pub list_part : (n : ℕ) → Part (list_end value last n) (end_text text last) (λ l. eqb (length l) n)
    unfolding end_text
    list_part zero =
        subst (λ f. Part f (end_text text last) (λ l. eqb (length l) 0)) (fun_ext λ s. fun_ext λ at. list_none value last closes.positive s at)
        (made_part (λ (v : Unit {0}). []) (literal_part (last ∷ [])) (end_text text last) (λ l. eqb (length l) 0) (λ v h. (refl, refl)) (λ l h. (tt, sym (no_value l h), refl)))
    list_part (suc n) =
        same_part (items_part n) (end_text text last) (λ l. eqb (length l) (suc n))
        (λ l h. (end_items text last l (omega (arith, eqb-true (length l) (suc n) h)), h))
        (λ l h. h)

-- ---- behind a key
pub behind_part : {A : Type 0} {f : Text → ℕ → Read A} {text : A → Text} {fine : A → Bool} (key : Text) → Part f text fine
    → Part (behind key f) (λ a. key ++ text a) fine
unfolding behind
behind_part key one =
    row_part (λ k a. a) (literal_part key)
    (record { join = λ k a g h. (refl, h); split = λ a h. (tt, a, refl, refl, h) })
    (λ k. one)
