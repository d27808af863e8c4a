-- Laws of keys, ranges and lines.
use Prim.Native.Nat.{ℕ, ◌+◌, ◌≤◌, ◌<◌, max}
use mathlib.Core.Path.{◌≡◌, refl, sym, ◌∙◌}
use mathlib.Core.Bool.{Bool, true, false, and-false}
use native.Mathlib.Omega.{arith}
use lib.Dec.{leb, eqb}
use borrow.Author.Tests.{leb-true, leb-false, le-leb, lt-leb, eqb-true, eqb-false}
use lib.ListN.{length}
use Rattle.text.specs.Bytes.{Text, far}
use Rattle.text.proofs.Basics.{by_test, and_true}
use Rattle.text.specs.Number.{Read, missing, found, made, both, either, literal, number, item}
use Rattle.text.specs.Capped.{passed}
use Rattle.text.specs.Lines.{Outcome, got, bad, fault_at, fault, need, judged, in_range, behind, read_head, read_heads}
use Rattle.std.specs.Prelude.{Result}
use Rattle.std.specs.declared.result.Result.TheVariants.{Ok, Err}
use Rattle.text.specs.Keyed.{by_key, keyed_out}
use Rattle.text.specs.Answers.{syntax_fault, kept, parsed}
use Rattle.text.specs.declared.Fault.{Fault}
use Rattle.text.specs.declared.Parsed.{Parsed}
use Rattle.text.specs.declared.Keyed.{Keyed}
use Rattle.text.specs.declared.Keyed.TheVariants.{Former, Latter}
use Rattle.text.proofs.ReadLaws.{missing≢found, found-is, literal_here, literal_other}
use Rattle.text.proofs.NumberLaws.{Exact, Capped, item_inside}
use Rattle.text.specs.declared.Cause.{Cause}
use Rattle.text.specs.declared.Cause.TheVariants.{Syntax, Range}

-- ---- a range

module _ (lo hi v : ℕ) where
  pub within_low : v < lo → in_range lo hi v ≡ false
  within_low p = rw (lt-leb lo v p)

  pub within_high : hi < v → in_range lo hi v ≡ false
  within_high p = rw (lt-leb v hi p, and-false)

  pub within_in : lo ≤ v → v ≤ hi → in_range lo hi v ≡ true
  within_in p q = rw (le-leb lo v p, le-leb v hi q)

  pub within_low_not : lo ≤ v → in_range lo hi v ≡ leb v hi
  within_low_not p = rw (le-leb lo v p)

  within_most : in_range lo hi v ≡ true → v ≤ hi
  within_most e = leb-true v hi (and_true (leb lo v) (leb v hi) e).1

-- a number and its capped value are in the same range
pub capped-most : (hi v w : ℕ) → hi < 65536 → Capped v w → leb w hi ≡ leb v hi
capped-most hi v w fits e =
    by_test (leb v hi)
    (λ h. le-leb w hi (omega (arith, leb-true v hi h)) ∙ sym h)
    (λ h. lt-leb w hi (omega (arith, leb-false v hi h)) ∙ sym h)

capped-least : (lo v w : ℕ) → lo < 65536 → Capped v w → leb lo w ≡ leb lo v
capped-least lo v w fits e =
    by_test (leb lo v)
    (λ h. le-leb lo w (omega (arith, leb-true lo v h)) ∙ sym h)
    (λ h. lt-leb lo w (omega (arith, leb-false lo v h)) ∙ sym h)

pub capped-within : (lo hi v w : ℕ) → lo < 65536 → hi < 65536 → Capped v w → in_range lo hi w ≡ in_range lo hi v
capped-within lo hi v w p q e = rw (capped-least lo v w p e, capped-most hi v w q e)

-- ---- a test

module _ {A : Type 0} (t : Bool) (cause : Cause) (at : ℕ) (o : Outcome A) where
  pub need_met : t ≡ true → need t cause at o ≡ o
  unfolding need
  need_met e = rw e

  pub need_unmet : t ≡ false → need t cause at o ≡ bad (fault cause at)
  unfolding need
  need_unmet e = rw e

-- ---- a fixed text, by where the code says that it ends or fails

module _ {A : Type 0} where
  pub passed_found : (x : Read A) (u : ℕ) → Ok u ≡ passed x → (a : A) × (x ≡ found a u)
  passed_found (missing b) u e = let z : ◌≡◌ {A = ℕ} 0 1 = cc in absurd (omega arith)
  passed_found (found a t) u e = let z : u ≡ t = cc in (a, rw z)

  pub passed_missing : (x : Read A) (b : ℕ) → Err b ≡ passed x → x ≡ missing b
  passed_missing (missing c) b e = cc
  passed_missing (found a t) b e = let z : ◌≡◌ {A = ℕ} 0 1 = cc in absurd (omega arith)

-- it ends behind its last byte
pub literal_end : (t s : Text) (at u : ℕ) → Ok u ≡ passed (literal t s at) → u ≡ at + length t
literal_end t s at u e =
    let f = passed_found (literal t s at) u e in
    by_test (eqb (far s at t) (at + length t))
    (λ h. (found-is (sym f.1 ∙ literal_here t s at (eqb-true _ _ h))).1)
    (λ h. absurd (missing≢found (sym (literal_other t s at (eqb-false _ _ h)) ∙ f.1)))

pub made_itself : {A : Type 0} (x : Read A) → made (λ a. a) x ≡ x
unfolding made
made_itself (missing b) = refl
made_itself (found a u) = refl

module _ {A : Type 0} (key : Text) (f : Text → ℕ → Read A) (s : Text) (at : ℕ) where
  pub behind-key : (u : ℕ) → Ok u ≡ passed (literal key s at) → behind key f s at ≡ f s u
  unfolding behind both
  behind-key u e = let k = passed_found (literal key s at) u e in rw k.1 (made_itself (f s u))

  pub behind_other : (b : ℕ) → Err b ≡ passed (literal key s at) → behind key f s at ≡ missing b
  unfolding behind both
  behind_other b e = rw (passed_missing (literal key s at) b e)

  pub behind_found : (a : A) (u : ℕ) → behind key f s at ≡ found a u → f s (at + length key) ≡ found a u
  unfolding behind both
  behind_found a u e =
      by_test (eqb (far s at key) (at + length key))
      (λ h. sym (made_itself (f s (at + length key))) ∙ (rw (literal_here key s at (eqb-true _ _ h)) at e))
      (λ h. absurd (missing≢found (rw (literal_other key s at (eqb-false _ _ h)) at e)))

-- the number behind a key begins in the text
pub key_inside : (key : Text) (stop : ℕ) (s : Text) (at v u : ℕ) → behind key (item number stop) s at ≡ found v u → at + length key < length s
key_inside key stop s at v u e = item_inside stop s (at + length key) v u (behind_found key (item number stop) s at v u e)

-- ---- what is not found is a fault of the syntax

-- of a reading within the line, for which r is answered
pub line_missing : {A B : Type 0} (at : ℕ) (range : B → Bool) (out : B → ℕ) (x : Read B) (r : Result A ℕ) → ((b : ℕ) → Err b ≡ r → x ≡ missing b)
    → ((a : A) → r ≡ Ok a → ⊥) → Err (syntax_fault at r) ≡ parsed (judged range out at x)
unfolding syntax_fault judged parsed
line_missing at range out x (Ok a) none not = absurd (not a refl)
line_missing at range out x (Err b) none not = rw (none b refl)

-- ---- what is kept of a value

module _ {A B : Type 0} (f : A → B) where
  pub kept_err : (o : Outcome A) (e : Fault) → Err e ≡ parsed o → Err e ≡ parsed (kept f o)
  unfolding parsed kept
  kept_err (got a next) e h = let z : ◌≡◌ {A = ℕ} 0 1 = cc in absurd (omega arith)
  kept_err (bad d) e h = let z : e ≡ d = cc in rw z

  pub kept_ok : (o : Outcome A) (p : Parsed A) → Ok p ≡ parsed o → Ok (record { value = f p.value; end = p.end }) ≡ parsed (kept f o)
  unfolding parsed kept
  kept_ok (got a next) p h = let z : p ≡ record { value = a; end = next } = cc in rw z
  kept_ok (bad d) p h = let z : ◌≡◌ {A = ℕ} 0 1 = cc in absurd (omega arith)

-- ---- a number, which begins at `byte`, and its range

module _ (lo hi at byte : ℕ) (lo-fits : lo < 65536) (hi-fits : hi < 65536) (x : Read ℕ) (v u : ℕ) (h : Exact x (Capped v) u) where
  pub line_out : in_range lo hi v ≡ false → Err (fault_at Range at byte) ≡ parsed (judged (in_range lo hi) (λ n. byte) at x)
  unfolding judged parsed
  line_out e = rw (h.is, capped-within lo hi v h.value lo-fits hi-fits h.told, e, judged)

  pub line-value : in_range lo hi v ≡ true → Ok (record { value = v; end = u }) ≡ parsed (judged (in_range lo hi) (λ n. byte) at x)
  unfolding judged parsed
  line-value e =
      let same : h.value ≡ v = omega (arith, h.told, within_most lo hi v e) in
      rw (h.is, capped-within lo hi v h.value lo-fits hi-fits h.told, e, same, judged)

-- ---- a line of one of two keys

module _ (one two : Text) (range₁ range₂ : ℕ → Bool) (at : ℕ) (x y : Read ℕ) where
  abbrev keyed : Outcome Keyed
  keyed = judged (by_key range₁ range₂) (keyed_out one two at) at (either (made Former x) (made Latter y))

  pub keyed_former : (n u : ℕ) → x ≡ found n u → keyed ≡ kept Former (judged range₁ (λ n. at + length one) at x)
  unfolding judged either made kept
  keyed_former n u e = by_test (range₁ n) (λ h. rw (e, h, judged)) (λ h. rw (e, h, judged))

  pub keyed_latter : (b n u : ℕ) → x ≡ missing b → y ≡ found n u → keyed ≡ kept Latter (judged range₂ (λ n. at + length two) at y)
  unfolding judged either made kept
  keyed_latter b n u e f = by_test (range₂ n) (λ h. rw (e, f, h, judged)) (λ h. rw (e, f, h, judged))

  pub keyed_missing : (b c : ℕ) → x ≡ missing b → y ≡ missing c → keyed ≡ bad (fault_at Syntax at (max b c))
  unfolding judged either made
  keyed_missing b c e f = rw (e, f)

-- ---- the first line

module _ (line s : Text) (at : ℕ) where
  pub head_stands : (u : ℕ) → Ok u ≡ passed (literal line s at) → Ok (record { value = tt; end = u }) ≡ parsed (read_head line s at)
  unfolding read_head judged parsed
  head_stands u e = rw (passed_found (literal line s at) u e).1

-- ---- the first line of a file that has two forms

module _ (one two s : Text) (at : ℕ) where
  pub heads_former : (u : ℕ) → Ok u ≡ passed (literal one s at) → Ok (record { value = 1; end = u }) ≡ parsed (read_heads one two s at)
  unfolding read_heads judged either made parsed
  heads_former u e = rw (passed_found (literal one s at) u e).1

  module _ (b : ℕ) (missed : Err b ≡ passed (literal one s at)) where
    pub heads_latter : (u : ℕ) → Ok u ≡ passed (literal two s at) → Ok (record { value = 2; end = u }) ≡ parsed (read_heads one two s at)
    unfolding read_heads judged either made parsed
    heads_latter u e = rw (passed_missing (literal one s at) b missed, (passed_found (literal two s at) u e).1)

    pub heads_missing : (c : ℕ) → Err c ≡ passed (literal two s at) → Err (fault_at Syntax at (max b c)) ≡ parsed (read_heads one two s at)
    unfolding read_heads judged either made parsed
    heads_missing c e = rw (passed_missing (literal one s at) b missed, passed_missing (literal two s at) c e)
