-- Held net-tokens that are like are equal, and the derived order is their canonical order.
use Rattle.std.proofs.Common.{◌≡◌, Ordering, ℕ, Bool, true, false, not, List, [], ◌∷◌, Some, refl, sym, ◌∙◌, arith}
use Rattle.std.specs.Ordering.{is_le, is_lt, nat_cmp, is_some_and}
use Rattle.std.specs.Cmp.Lexicographic.{slice_cmp, slice_partial_cmp}
use Rattle.std.proofs.lemmas.Cmp.{same_from_slice_cmp, same_from_slice_cmp_tested}
use Rattle.std.proofs.lemmas.Bool.Decides.{nat_tests}
use Rattle.eos.specs.Vector.{eq_v, lex_v}
use lib.Pointwise.{pointwise}
use Rattle.std.specs.Prelude.{nat_eq}
use Rattle.eos.proofs.MultisetLaws.{Likeness}
use Rattle.eos.proofs.OrderLaws.{Order}
use Rattle.eos.proofs.VectorLaws.{eq_v_eq, eq_v_refl, lex_order}
use Rattle.marking.specs.Tokens.{row, like, before}
use Rattle.marking.specs.declared.NetToken.{NetToken}

-- what the code reads past the last net-token
abbrev pub outside : NetToken
outside = record { place = 0; counts = [] }

-- a net-token is what its row says
row_is : (s t : NetToken) → row s ≡ row t → s ≡ t
row_is s t e = let p : s.place ≡ t.place = cc in let q : s.counts ≡ t.counts = cc in λ i. record { place = p i; counts = q i }

-- net-tokens that are like are equal
pub held_alike : Likeness like
held_alike = record { same = λ s t h. row_is s t (eq_v_eq (row s) (row t) h); self = λ t. eq_v_refl (row t) }

pub held_order : Order before
held_order = record {
  antisym = λ s t p q. row_is s t (lex_order.antisym (row s) (row t) p q);
  trans = λ s t u. lex_order.trans (row s) (row t) (row u);
  total = λ s t. lex_order.total (row s) (row t);
}

-- ---- the derived order

-- of lists of numbers, whether they are compared by `<=` or by `<`
at_most : (x y : List ℕ) (r : Bool) → r ≡ is_some_and is_le (slice_partial_cmp (λ x y. Some (nat_cmp x y)) x y) → r ≡ lex_v x y
at_most = same_from_slice_cmp_tested nat_cmp is_le lex_v refl (λ _ _. refl) (λ _ _. refl) (λ x y xs ys o h. grind (arith, nat_tests))

below : (x y : List ℕ) (r : Bool) → r ≡ is_some_and is_lt (slice_partial_cmp (λ x y. Some (nat_cmp x y)) x y) → r ≡ not (lex_v y x)
below =
    same_from_slice_cmp_tested nat_cmp is_lt (λ x y. not (lex_v y x)) refl (λ _ _. refl) (λ _ _. refl) (λ x y xs ys o h. grind (arith, nat_tests))

pub le_before : (s t : NetToken) → is_some_and is_le (slice_partial_cmp (λ x y. Some (nat_cmp x y)) (row s) (row t)) ≡ before s t
le_before s t = at_most (row s) (row t) _ refl

pub lt_before : (s t : NetToken) → is_some_and is_lt (slice_partial_cmp (λ x y. Some (nat_cmp x y)) (row s) (row t)) ≡ not (before t s)
lt_before s t = below (row s) (row t) _ refl

-- the same by `cmp`, which passes what is equal in long strides
first_below : (x y : List ℕ) (r : Ordering) → r ≡ slice_cmp nat_cmp x y → is_lt r ≡ not (lex_v y x)
first_below = same_from_slice_cmp nat_cmp is_lt (λ x y. not (lex_v y x)) refl (λ _ _. refl) (λ _ _. refl) (λ x y xs ys o h. grind (arith, nat_tests))

pub cmp_before : (s t : NetToken) → is_lt (slice_cmp nat_cmp (row s) (row t)) ≡ not (before t s)
cmp_before s t = first_below (row s) (row t) _ refl

-- ---- the derived equality

alike : (x y : List ℕ) → pointwise nat_eq x y ≡ eq_v x y
alike [] [] = refl
alike [] (b ∷ y) = refl
alike (a ∷ x) [] = refl
alike (a ∷ x) (b ∷ y) = rw (alike x y)

pub eq_like : (s t : NetToken) → pointwise nat_eq (row s) (row t) ≡ like s t
eq_like s t = alike (row s) (row t)

-- what `!=` answers
unlike : (a b : Bool) → b ≡ not a → b ≡ true → a ≡ false
unlike true b e f = sym f ∙ e
unlike false b e f = refl

not_unlike : (a b : Bool) → b ≡ not a → b ≡ false → a ≡ true
not_unlike true b e f = refl
not_unlike false b e f = sym f ∙ e

-- of two lists of numbers
pub same_lists : (x y : List ℕ) (b : Bool) → b ≡ pointwise nat_eq x y → b ≡ eq_v x y
same_lists x y b e = e ∙ alike x y

pub ne_lists : (x y : List ℕ) (b : Bool) → b ≡ not (pointwise nat_eq x y) → b ≡ true → eq_v x y ≡ false
ne_lists x y b e f = sym (alike x y) ∙ unlike _ b e f

pub eq_lists : (x y : List ℕ) (b : Bool) → b ≡ not (pointwise nat_eq x y) → b ≡ false → eq_v x y ≡ true
eq_lists x y b e f = sym (alike x y) ∙ not_unlike _ b e f

-- and of two net-tokens
pub ne_true : (s t : NetToken) (b : Bool) → b ≡ not (pointwise nat_eq (row s) (row t)) → b ≡ true → like s t ≡ false
ne_true s t b e f = sym (eq_like s t) ∙ unlike _ b e f

pub ne_false : (s t : NetToken) (b : Bool) → b ≡ not (pointwise nat_eq (row s) (row t)) → b ≡ false → like s t ≡ true
ne_false s t b e f = sym (eq_like s t) ∙ not_unlike _ b e f
