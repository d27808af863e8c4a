-- Laws of lists in a line: of the loop that reads one, and of a list of numbers read as weights.
use Prim.Native.Nat.{ℕ, zero, suc, ◌+◌, ◌-◌, min, ◌≤◌, ◌<◌}
use mathlib.Core.Path.{◌≡◌, refl, ap, sym, fun_ext, ◌∙◌}
use mathlib.Core.List.{List, [], ◌∷◌, map}
use mathlib.Core.Bool.{Bool, true, false, ◌&&◌}
use native.Mathlib.Omega.{arith}
use native.Mathlib.Numerals.{add-one}
use lib.Dec.{leb}
use lib.IntN.{ℤ, pos, negsuc}
use borrow.Author.Tests.{leb-true, le-leb}
use lib.ListN.{replicate, length, set, get_or}
use lib.Seq.{sets}
use Rattle.std.specs.Prelude.{Option, Result}
use Rattle.std.specs.declared.option.Option.TheVariants.{Some, None}
use Rattle.std.specs.declared.result.Result.TheVariants.{Ok, Err}
use Rattle.text.specs.Bytes.{Text, lf, comma}
use Rattle.text.proofs.Basics.{by_test, and_true}
use Rattle.text.specs.Number.{Read, missing, found, made, both, literal, number, signed, signed_if, ended, item}
use Rattle.text.specs.Capped.{answered}
use Rattle.text.specs.Lists.{stop_of, joined, values, list_end}
use Rattle.text.specs.Lines.{fault_at, judged, every, behind, modest, out_at, read_row, read_list, read_weights}
use Rattle.text.specs.Printed.{decimal, signed_text}
use Rattle.text.specs.Answers.{first_out, kept, parsed, padded, row, ranged}
use Rattle.text.specs.Values.{number_in}
use Rattle.text.specs.declared.Cause.TheVariants.{Syntax, Range}
use Rattle.text.specs.declared.Fault.{Fault}
use Rattle.text.specs.declared.Parsed.{Parsed}
use Rattle.text.proofs.ReadLaws.{by_read}
use Rattle.text.proofs.NumberLaws.{missing_of, Exact, CappedSigned, ended_here, ended_other, ended_end, made_end, made_ended}
use Rattle.text.proofs.LineLaws.{capped-most, made_itself}
use Rattle.text.proofs.Spelled.{number_spelled, signed_spelled}

-- ---- what stands behind a value

pub stop_comma : (last n : ℕ) → (n ≡ 0 → ⊥) → comma ≡ stop_of last n
unfolding stop_of
stop_comma last zero h = absurd (h refl)
stop_comma last (suc n) h = refl

pub stop_last : (last n : ℕ) → n ≡ 0 → last ≡ stop_of last n
unfolding stop_of
stop_last last n h = rw h

module _ {A : Type 0} (value : Text → ℕ → Read A) (s : Text) (at : ℕ) where
  pub joined_last : (n : ℕ) → n ≡ 0 → value s at ≡ joined value n s at
  unfolding joined
  joined_last n h = rw h

  pub joined_comma : (n : ℕ) → (n ≡ 0 → ⊥) → item value comma s at ≡ joined value n s at
  unfolding joined
  joined_comma zero h = absurd (h refl)
  joined_comma (suc n) h = refl

-- ---- where a value ends

-- a value ends behind its text, and so does an item, one byte further
item_end : {A : Type 0} (value : Text → ℕ → Read A) (text : A → Text) (stop : ℕ) (s : Text) (at : ℕ)
    → ((a : A) (u : ℕ) → value s at ≡ found a u → u ≡ at + length (text a)) → (a : A) (u : ℕ) → item value stop s at ≡ found a u → u ≡ at + length (text a) + 1
unfolding item
item_end value text stop s at ends a u e = let m = ended_end stop s (value s at) a u e in m.2 ∙ ap (λ (e : ℕ). e + 1) (ends a m.0 m.1)

pub number_item : (stop : ℕ) (s : Text) (at v u : ℕ) → item number stop s at ≡ found v u → u ≡ at + length (decimal v) + 1
number_item stop s at = item_end number decimal stop s at (λ v u e. (number_spelled.back s at v u e).next_is)

signed_item : (sign : Bool) (stop : ℕ) (s : Text) (at : ℕ) (w : ℤ) (u : ℕ) → item (signed_if sign) stop s at ≡ found w u → u ≡ at + length (signed_text w) + 1
unfolding signed_if signed_text
signed_item true stop s at = item_end (signed_if true) signed_text stop s at (λ w u e. (signed_spelled.back s at w u e).next_is)
signed_item false stop s at =
    item_end (signed_if false) signed_text stop s at (λ w u e. let m = made_end (number s at) w u e in rw m.2 ((number_spelled.back s at m.0 u m.1).next_is))

-- ---- a loop over a list of weights, which are put one after the other in a row, each as it is held

module _ (hi : ℕ) where
  -- the range of a weight, by its capped value
  modest-is : (v w : ℤ) → hi < 65536 → CappedSigned v w → modest hi w ≡ modest hi v
  modest-is v (pos n) fits t = rw t (capped-most hi (min n 65536) n fits refl)
  modest-is v (negsuc n) fits t = rw t (capped-most hi (suc (min n 65535)) (suc n) fits (omega arith))

  -- a weight in the range is its capped value
  modest_same : (v w : ℤ) → hi < 65536 → CappedSigned v w → modest hi w ≡ true → v ≡ w
  modest_same v (pos n) fits t e = let z : min n 65536 ≡ n = omega (arith, leb-true n hi e) in rw (t, z)
  modest_same v (negsuc n) fits t e = let z : min n 65535 ≡ n = omega (arith, leb-true (suc n) hi e) in rw (t, z)

  -- where the first weight out of range begins, if there is one: it is known, or one of l, which are printed from `at` on
  unfoldable pub out_of : Option ℕ → ℕ → List ℤ → Option ℕ
  out_of out at [] = out
  out_of out at (w ∷ l) = out_of (first_out out at (modest hi w)) (at + length (signed_text w) + 1) l

  out_known : (b at : ℕ) (l : List ℤ) → out_of (Some b) at l ≡ Some b
  unfolding out_of
  out_known b at [] = refl
  out_known b at (w ∷ l) = out_known b (at + length (signed_text w) + 1) l

  out_none : (at : ℕ) (l : List ℤ) → every (modest hi) l ≡ true → out_of None at l ≡ None
  unfolding out_of
  out_none at [] e = refl
  out_none at (w ∷ l) e =
      let p = and_true (modest hi w) (every (modest hi) l) e in
      rw p.0 (out_none (at + length (signed_text w) + 1) l p.1)

  out_some : (at : ℕ) (l : List ℤ) → every (modest hi) l ≡ false → out_of None at l ≡ Some (out_at signed_text (modest hi) at l)
  unfolding out_of out_at
  out_some at [] e = let z : ◌≡◌ {A = ℕ} 0 1 = cc in absurd (omega arith)
  out_some at (w ∷ l) e =
      by_test (modest hi w)
      (λ h. rw (h, out_at) (out_some (at + length (signed_text w) + 1) l (sym (rw h) ∙ e)))
      (λ h. rw (h, out_at) (out_known at (at + length (signed_text w) + 1) l))

module _ {A : Type 0} (held : ℤ → A) (hi : ℕ) where
  -- what is answered for the values that begin at `from`
  abbrev pub answer : ℕ → Read (List ℤ) → Result (Parsed (Result (List A) ℕ)) ℕ
  answer from r = answered (ranged held hi from) r

  -- the answer where every value was put: the row if none is out of range, else where the first begins
  abbrev pub row_if : Option ℕ → List A → Result (List A) ℕ
  row_if None values = Ok values
  row_if (Some b) values = Err b

  -- the answer where i values were put, and r is what follows at `at`
  unfoldable pub going : Option ℕ → ℕ → List A → ℕ → Read (List ℤ) → Result (Parsed (Result (List A) ℕ)) ℕ
  going out i values at (missing b) = Err b
  going out i values at (found l next) = Ok (record { value = row_if (out_of hi out at l) (sets values i (map held l)); end = next })

  pub going_start : (from : ℕ) (r : Read (List ℤ)) → answer from r ≡ going None 0 (replicate 32 (held (pos 0))) from r
  unfolding going ranged row
  going_start from (missing b) = refl
  going_start from (found l next) =
      by_test (every (modest hi) l)
      (λ h. rw (h, ranged, out_none hi from l h))
      (λ h. rw (h, ranged, out_some hi from l h))

  -- behind a value out of range the row does not matter
  going_out : (b i : ℕ) (values values' : List A) (at : ℕ) (r : Read (List ℤ)) → going (Some b) i values at r ≡ going (Some b) i values' at r
  unfolding going
  going_out b i values values' at (missing c) = refl
  going_out b i values values' at (found l t) = rw (out_known hi b at l)

  -- one value more, which is put as it is
  going_put : (out : Option ℕ) (i : ℕ) (values : List A) (at : ℕ) (w : ℤ) (r : Read (List ℤ))
      → going out i values at (made (λ l. w ∷ l) r) ≡ going (first_out out at (modest hi w)) (i + 1) (set values i (held w)) (at + length (signed_text w) + 1) r
  unfolding going made out_of
  going_put out i values at w (missing b) = refl
  going_put out i values at w (found l t) = rw (add-one i)

  -- what is kept of one out of range does not matter
  going_any : (out : Option ℕ) (i : ℕ) (values values' : List A) (at from : ℕ) (inside : Bool) (r : Read (List ℤ)) → (inside ≡ true → values' ≡ values)
      → going (first_out out from inside) i values at r ≡ going (first_out out from inside) i values' at r
  going_any out i values values' at from true r e = rw (e refl)
  going_any None i values values' at from false r e = going_out from i values values' at r
  going_any (Some b) i values values' at from false r e = going_out b i values values' at r

  -- the next value begins behind the comma; if there is none, it does not matter where
  going_next : (sign : Bool) (s : Text) (out : Option ℕ) (i : ℕ) (row : List A) (m at : ℕ) (w : ℤ) (u : ℕ) → joined (signed_if sign) m s at ≡ found w u
      → going out i row (at + length (signed_text w) + 1) (values (signed_if sign) m s u) ≡ going out i row u (values (signed_if sign) m s u)
  unfolding joined values going out_of
  going_next sign s out i row zero at w u e = refl
  going_next sign s out i row (suc m) at w u e = rw (← signed_item sign comma s at w u e)

  -- the turn i of n, at `at`
  module _ (sign : Bool) (s : Text) (n at : ℕ) (out : Option ℕ) (i : ℕ) (row : List A) where
    abbrev reads : Read ℤ
    reads = joined (signed_if sign) (n - i - 1) s at

    pub turn_missing : i < n → (b : ℕ) → reads ≡ missing b → going out i row at (values (signed_if sign) (n - i) s at) ≡ Err b
    unfolding values going both
    turn_missing h b e = let left : n - i ≡ suc (n - i - 1) = omega arith in rw (left, e)

    pub turn_more : hi < 65536 → i < n → (v : ℤ) (u : ℕ) → Exact reads (CappedSigned v) u
        → (out' : Option ℕ) → out' ≡ first_out out at (modest hi v) → (row' : List A) → row' ≡ set row i (held v)
        → going out i row at (values (signed_if sign) (n - i) s at) ≡ going out' (i + 1) row' u (values (signed_if sign) (n - (i + 1)) s u)
    unfolding values both
    turn_more fits h v u w out' o row' k =
        let left : n - i ≡ suc (n - i - 1) = omega arith in
        let less : n - (i + 1) ≡ n - i - 1 = omega arith in
        let r = values (signed_if sign) (n - i - 1) s u in
        rw (o, left, less, w.is, ← modest-is hi v w.value fits w.told, values)
        (going_put out i row at w.value r
        ∙ going_next sign s (first_out out at (modest hi w.value)) (i + 1) (set row i (held w.value)) (n - i - 1) at w.value u w.is
        ∙ going_any out (i + 1) (set row i (held w.value)) row' u at (modest hi w.value) r
        (λ e. k ∙ ap (λ (v : ℤ). set row i (held v)) (modest_same hi v w.value fits w.told e)))

    pub turn_done : n ≤ i → going out i row at (values (signed_if sign) (n - i) s at) ≡ Ok (record { value = row_if out row; end = at })
    unfolding values going out_of
    turn_done h = let none : n - i ≡ 0 = omega arith in rw none

-- ---- a list to the end of its line, which begins at `top`, by what is answered for its values

-- what is answered for the line
abbrev pub line_answer : {A : Type 0} → (ℤ → A) → ℕ → ℕ → ℕ → Read (List ℤ) → Result (Parsed (List A)) Fault
line_answer held hi top from r = parsed (kept (row held) (judged (every (modest hi)) (out_at signed_text (modest hi) from) top r))

module _ {A : Type 0} (held : ℤ → A) (hi top from : ℕ) (s : Text) (x : Read (List ℤ)) where
  abbrev line : Result (Parsed (List A)) Fault
  line = line_answer held hi top from (ended lf s x)

  pub end_missing : (b : ℕ) → Err b ≡ answered (ranged held hi from) x → ended lf s x ≡ missing b
  unfolding ended
  end_missing b e = rw (missing_of (ranged held hi from) x b e)

  module _ (p : Parsed (Result (List A) ℕ)) (h : Exact x (λ l. p.value ≡ ranged held hi from l) p.end) where
    pub end_other : (get_or s p.end 0 ≡ lf → ⊥) → Err (fault_at Syntax top p.end) ≡ line
    unfolding parsed kept judged
    end_other n = rw (h.is, ended_other lf s h.value p.end n)

    module _ (here : get_or s p.end 0 ≡ lf) where
      pub end_in : (a : List A) → p.value ≡ Ok a → Ok (record { value = a; end = p.end + 1 }) ≡ line
      unfolding parsed kept judged ranged
      end_in a e =
          by_test (every (modest hi) h.value)
          (λ t.
          let k : ◌≡◌ {A = Result (List A) ℕ} (Ok a) (Ok (row held h.value)) = sym e ∙ h.told ∙ rw (t, ranged) in
          let same : a ≡ row held h.value = cc in
          rw (h.is, ended_here lf s h.value p.end here, t, judged, same))
          (λ t.
          let k : ◌≡◌ {A = Result (List A) ℕ} (Ok a) (Err (out_at signed_text (modest hi) from h.value)) = sym e ∙ h.told ∙ rw (t, ranged) in
          let z : ◌≡◌ {A = ℕ} 0 1 = cc in
          absurd (omega arith))

      pub end_out : (b : ℕ) → p.value ≡ Err b → Err (fault_at Range top b) ≡ line
      unfolding parsed kept judged ranged
      end_out b e =
          by_test (every (modest hi) h.value)
          (λ t.
          let k : ◌≡◌ {A = Result (List A) ℕ} (Err b) (Ok (row held h.value)) = sym e ∙ h.told ∙ rw (t, ranged) in
          let z : ◌≡◌ {A = ℕ} 0 1 = cc in
          absurd (omega arith))
          (λ t.
          let k : ◌≡◌ {A = Result (List A) ℕ} (Err b) (Err (out_at signed_text (modest hi) from h.value)) = sym e ∙ h.told ∙ rw (t, ranged) in
          let same : b ≡ out_at signed_text (modest hi) from h.value = cc in
          rw (h.is, ended_here lf s h.value p.end here, t, judged, same))

-- ---- a list of numbers, read as weights

made_twice : {A B C : Type 0} (f : B → C) (g : A → B) (x : Read A) → made f (made g x) ≡ made (λ a. f (g a)) x
unfolding made
made_twice f g (missing b) = refl
made_twice f g (found a u) = refl

module _ (s : Text) where
  numbers_item : (stop at : ℕ) → item (signed_if false) stop s at ≡ made pos (item number stop s at)
  unfolding item signed_if
  numbers_item stop at = made_ended pos stop s (number s at)

  numbers_joined : (n at : ℕ) → joined (signed_if false) n s at ≡ made pos (joined number n s at)
  unfolding joined signed_if
  numbers_joined zero at = refl
  numbers_joined (suc n) at = numbers_item comma at

  pub numbers_values : (n at : ℕ) → values (signed_if false) n s at ≡ made (map pos) (values number n s at)
  unfolding values both made
  numbers_values zero at = refl
  numbers_values (suc n) at =
      by_read (joined number n s at)
      (λ b e. rw (numbers_joined n at, e))
      (λ v u e.
      let r = values number n s u in
      rw (numbers_joined n at, e, numbers_values n u) (made_twice (λ l. pos v ∷ l) (map pos) r ∙ sym (made_twice (map pos) (λ l. v ∷ l) r)))

  numbers_end : (n at : ℕ) → list_end (signed_if false) lf n s at ≡ made (map pos) (list_end number lf n s at)
  unfolding list_end
  numbers_end n at = ap (ended lf s) (numbers_values n at) ∙ made_ended (map pos) lf s (values number n s at)

  numbers_behind : (key : Text) (n at : ℕ) → behind key (list_end (signed_if false) lf n) s at ≡ made (map pos) (behind key (list_end number lf n) s at)
  unfolding behind both made
  numbers_behind key n at =
      by_read (literal key s at)
      (λ b e. rw e)
      (λ a u e. rw e (made_itself _ ∙ numbers_end n u ∙ ap (made (map pos)) (sym (made_itself _))))

module _ (most hi : ℕ) where
  numbers_every : (l : List ℕ) → every (modest hi) (map pos l) ≡ every (λ v. leb v hi) l
  numbers_every [] = refl
  numbers_every (v ∷ l) = ap (λ (b : Bool). leb v hi && b) (numbers_every l)

  numbers_out : (at : ℕ) (l : List ℕ) → out_at signed_text (modest hi) at (map pos l) ≡ out_at decimal (λ v. leb v hi) at l
  unfolding out_at signed_text
  numbers_out at [] = refl
  numbers_out at (v ∷ l) = by_test (leb v hi) (λ h. rw (h, out_at) (numbers_out (at + length (decimal v) + 1) l)) (λ h. rw (h, out_at))

  numbers_held : (l : List ℕ) → hi ≤ most → every (λ v. leb v hi) l ≡ true → map (number_in most) (map pos l) ≡ l
  numbers_held [] h e = refl
  numbers_held (v ∷ l) h e =
      let p = and_true (leb v hi) (every (λ v. leb v hi) l) e in
      rw (le-leb v most (omega (arith, leb-true v hi p.0)), numbers_held l h p.1)

  zero_held : number_in most (pos 0) ≡ 0
  zero_held = rw (le-leb 0 most (omega arith))

  -- numbers in the range are held as they are
  numbers_kept : (top from : ℕ) (r : Read (List ℕ)) (q : Read (List ℤ)) → hi ≤ most → q ≡ made (map pos) r
      → kept (row (number_in most)) (judged (every (modest hi)) (out_at signed_text (modest hi) from) top q)
      ≡ kept padded (judged (every (λ v. leb v hi)) (out_at decimal (λ v. leb v hi) from) top r)
  unfolding kept judged made row padded
  numbers_kept top from (missing b) q h f = rw f
  numbers_kept top from (found l end) q h f =
      by_test (every (λ v. leb v hi) l)
      (λ e. rw (f, numbers_every l, e, judged, numbers_held l h e, zero_held))
      (λ e. rw (f, numbers_every l, e, judged, numbers_out from l))

  module _ (fits : hi ≤ most) where
    -- the line of a key
    pub numbers_row : (n : ℕ) (s : Text) (key : Text) (at : ℕ)
        → kept (row (number_in most)) (read_row (signed_if false) signed_text key n (modest hi) s at) ≡ kept padded (read_list key n (λ v. leb v hi) s at)
    unfolding read_row
    numbers_row n s key at = numbers_kept at (at + length key) _ _ fits (numbers_behind s key n at)

    -- a list alone
    pub numbers_in : (from : ℕ) (l : List ℕ) → every (λ v. leb v hi) l ≡ true → ranged (number_in most) hi from (map pos l) ≡ Ok (padded l)
    unfolding ranged row padded
    numbers_in from l e = rw (numbers_every l, e, ranged, numbers_held l fits e, zero_held)

    pub numbers_beyond : (from : ℕ) (l : List ℕ) → every (λ v. leb v hi) l ≡ false
        → ranged (number_in most) hi from (map pos l) ≡ Err (out_at decimal (λ v. leb v hi) from l)
    unfolding ranged
    numbers_beyond from l e = rw (numbers_every l, e, ranged, numbers_out from l)

-- ---- a list of weights is one of numbers that may have a sign

with_sign : (s : Text) (at : ℕ) → signed_if true s at ≡ signed s at
unfolding signed_if
with_sign s at = refl

pub weights_row : (key : Text) (n : ℕ) (range : ℤ → Bool) (s : Text) (at : ℕ) → read_row (signed_if true) signed_text key n range s at ≡ read_weights key n range s at
weights_row key n range s at = ap (λ (f : Text → ℕ → Read ℤ). read_row f signed_text key n range s at) (fun_ext λ s. fun_ext λ at. with_sign s at)
