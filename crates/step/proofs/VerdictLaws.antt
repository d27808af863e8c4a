-- Laws of the verdict: the tests before one are passed, and it says why.
use Prim.Native.Nat.{ℕ, zero, suc, ◌+◌, ◌-◌, ◌≤◌}
use mathlib.Core.Path.{◌≡◌, refl, sym, ap, ◌∙◌}
use mathlib.Core.Bool.{Bool, true, false, and-false}
use mathlib.Core.List.{List, [], ◌∷◌, ◌++◌}
use mathlib.Core.Option.{Option, none, some}
use native.Mathlib.Omega.{arith}
use lib.Dec.{T, leb, leb→le}
use lib.ListN.{length, get_or, length-append, length-map, length-replicate}
use Rattle.std.specs.Prelude.{Result, Ok, Err, None, Some}
use Rattle.std.specs.Result.{IsErrAnd}
use Rattle.eos.specs.Vector.{le_v, eq_v}
use Rattle.eos.specs.Counted.{there}
use Rattle.eos.specs.Causes.{Cause, taking, giving, short, unequal, first, unless, at, failing}
use Rattle.eos.proofs.Basics.{and_l, and_r}
use Rattle.marking.specs.Tokens.{all_counted, spelt_out, copies}
use Rattle.marking.specs.declared.Entry.{Entry}
use Rattle.model.specs.Held.{row_at, told}
use Rattle.step.specs.declared.Rule.{Rule}
use Rattle.step.specs.declared.Refusal.TheVariants.{Places, Short, Unequal}
use Rattle.step.specs.declared.Refusal.{Refusal}
use Rattle.step.specs.Verdict.{outer_entries, types_in, by_alone, outer_taken_in, outer_given_in, inner_taken_in, inner_given_in, outer_causes, inner_causes, line_causes, verdict_of}
use Rattle.step.specs.VerdictParts.{Inner, even_in}
use Rattle.eos.proofs.FailingLaws.{failing_same}

-- what a verdict says
abbrev pub Verdict : Type 0
Verdict = Result (Unit {0}) Refusal

-- the verdict of a list of tests, on a step that takes t lines
abbrev answer : ℕ → List (Option Cause) → Verdict
answer t l = verdict_of t (first l)

-- what `?` hands on is a refusal as it was
pub handed_on : (v : Verdict) (r : Refusal) → IsErrAnd v (λ x. x ≡ r) → v ≡ Err r
handed_on (Ok u) r h = absurd h
handed_on (Err x) r h = ap (λ (y : Refusal). Err y) h

-- a verdict that a step is turned down is not that it fires
pub never : {A : Type 0} (r : Refusal) → ◌≡◌ {A = Verdict} (Err r) (Ok tt) → A
never r e = let z : ◌≡◌ {A = ℕ} 0 1 = cc in absurd (omega arith)

pub told_none : (o : Option ℕ) → None ≡ told o → o ≡ none
told_none none e = refl
told_none (some i) e = let z : ◌≡◌ {A = ℕ} 0 1 = cc in absurd (omega arith)

pub told_some : (o : Option ℕ) (i : ℕ) → Some i ≡ told o → o ≡ some i
told_some none i e = let z : ◌≡◌ {A = ℕ} 0 1 = cc in absurd (omega arith)
told_some (some j) i e = let k : i ≡ j = cc in rw k

-- ---- one test

module _ (t : ℕ) (c : Cause) (l : List (Option Cause)) where
  skip : (b : Bool) → b ≡ true → answer t (unless b c ∷ l) ≡ answer t l
  unfolding first unless
  skip b e = rw e

  stop : (b : Bool) → b ≡ false → answer t (unless b c ∷ l) ≡ verdict_of t (some c)
  unfolding first unless
  stop b e = rw e

module _ (t : ℕ) (c : ℕ → Cause) (l : List (Option Cause)) (o : Option ℕ) where
  skip_at : o ≡ none → answer t (at c o ∷ l) ≡ answer t l
  unfolding first at
  skip_at e = rw e

  stop_at : (i : ℕ) → o ≡ some i → answer t (at c o ∷ l) ≡ verdict_of t (some (c i))
  unfolding first at
  stop_at i e = rw e

nothing : (t : ℕ) → answer t [] ≡ Ok tt
unfolding first verdict_of
nothing t = refl

-- ---- a list and one behind it

module _ (t : ℕ) (b : List (Option Cause)) where
  -- the one behind is asked where the first is passed
  goes_on : (a : List (Option Cause)) → answer t a ≡ Ok tt → answer t (a ++ b) ≡ answer t b
  unfolding first verdict_of
  goes_on [] e = refl
  goes_on (none ∷ a) e = goes_on a e
  goes_on (some c ∷ a) e = never _ e

  -- and not where it turns the step down
  pub turns : (a : List (Option Cause)) {r : Refusal} → answer t a ≡ Err r → answer t (a ++ b) ≡ Err r
  unfolding first verdict_of
  turns [] {r} e = never r (sym e)
  turns (none ∷ a) e = turns a e
  turns (some c ∷ a) e = e

-- ---- an event that names its places, and one that is `alone`

module _ {B : Type 0} (named alone : B) where
  is_named : (n : ℕ) → n ≡ 0 → by_alone n named alone ≡ named
  is_named n e = rw e

  is_alone : (n : ℕ) → (n ≡ 0 → ⊥) → by_alone n named alone ≡ alone
  is_alone zero e = absurd (e refl)
  is_alone (suc n) e = refl

module _ (q : Rule) (taken : List Entry) where
  module _ (e : q.alone ≡ 0) where
    pub taken_named : eq_v (outer_entries taken) q.pre.outer ≡ outer_taken_in q taken
    unfolding outer_taken_in
    taken_named = sym (is_named (eq_v (outer_entries taken) q.pre.outer) (eq_v (types_in q.types taken) (q.alone ∷ [])) q.alone e)

    pub given_named : (given : List Entry) → eq_v (outer_entries given) q.post.outer ≡ outer_given_in q taken given
    unfolding outer_given_in
    given_named given = ap (eq_v (outer_entries given)) (sym (is_named q.post.outer (outer_entries taken) q.alone e))

  module _ (e : q.alone ≡ 0 → ⊥) where
    pub taken_alone : eq_v (types_in q.types taken) (q.alone ∷ []) ≡ outer_taken_in q taken
    unfolding outer_taken_in
    taken_alone = sym (is_alone (eq_v (outer_entries taken) q.pre.outer) (eq_v (types_in q.types taken) (q.alone ∷ [])) q.alone e)

    pub given_alone : (given : List Entry) → eq_v (outer_entries given) (outer_entries taken) ≡ outer_given_in q taken given
    unfolding outer_given_in
    given_alone given = ap (eq_v (outer_entries given)) (sym (is_alone q.post.outer (outer_entries taken) q.alone e))

-- not one number
not_one : (x : List ℕ) (n : ℕ) → (length x ≡ 1 → ⊥) → false ≡ eq_v x (n ∷ [])
not_one [] n h = refl
not_one (a ∷ []) n h = absurd (h refl)
not_one (a ∷ b ∷ x) n h = sym (and-false _)

-- there are at least as many net-tokens as entries
spelt_long : (es : List Entry) → T (there (all_counted es)) → length es ≤ length (spelt_out es)
spelt_long [] h = omega arith
spelt_long (e ∷ es) h =
    omega (
      arith,
      length-append (copies e) (spelt_out es),
      length-replicate e.times e.token,
      leb→le 1 e.times (and_l (leb 1 e.times) (there (all_counted es)) h),
      spelt_long es (and_r (leb 1 e.times) (there (all_counted es)) h),
    )

-- what is taken is not one net-token where it is not one entry, or one of another number
module _ (types : List ℕ) (net : ℕ) where
  types_long : (es : List Entry) → length (types_in types es) ≡ length (spelt_out es)
  types_long es = length-map (spelt_out es) (λ t. get_or types (t.place - 1) 0)

  pub not_one_line : (es : List Entry) → T (there (all_counted es)) → (length es ≡ 1 → ⊥) → false ≡ eq_v (types_in types es) (net ∷ [])
  not_one_line [] h n = refl
  not_one_line (e ∷ []) h n = absurd (n refl)
  not_one_line (e ∷ f ∷ es) h n =
      not_one (types_in types (e ∷ f ∷ es)) net (λ q. omega (arith, types_long (e ∷ f ∷ es), spelt_long (e ∷ f ∷ es) h, q))

  -- the types of the net-tokens of one entry
  line_types : (e : Entry) → length (types_in types (e ∷ [])) ≡ e.times
  line_types e = omega (arith, types_long (e ∷ []), length-append (copies e) [], length-replicate e.times e.token)

  pub more_than_one : (es : List Entry) (d : Entry) → length es ≡ 1 → ((get_or es 0 d).times ≡ 1 → ⊥) → false ≡ eq_v (types_in types es) (net ∷ [])
  more_than_one [] d h n = absurd (omega arith)
  more_than_one (e ∷ []) d h n = not_one (types_in types (e ∷ [])) net (λ q. n (sym (line_types e) ∙ q))
  more_than_one (e ∷ f ∷ es) d h n = absurd (omega arith)

-- ---- the tests on the places
module _ (t : ℕ) (q : Rule) (taken given : List Entry) where
  abbrev pub on_places : Verdict
  on_places = answer t (outer_causes q taken given)

  pub stop_take : outer_taken_in q taken ≡ false → on_places ≡ Err (Places 2)
  unfolding outer_causes verdict_of
  stop_take e = stop t taking _ (outer_taken_in q taken) e

  module _ (a : outer_taken_in q taken ≡ true) where
    pub stop_give : outer_given_in q taken given ≡ false → on_places ≡ Err (Places (t + 3))
    unfolding outer_causes verdict_of
    stop_give e =
        let k : 3 + t ≡ t + 3 = omega arith in
        skip t taking _ (outer_taken_in q taken) a ∙ stop t giving [] (outer_given_in q taken given) e ∙ ap (λ (n : ℕ). Err (Places n)) k

    pub pass_places : outer_given_in q taken given ≡ true → on_places ≡ Ok tt
    unfolding outer_causes
    pass_places e = skip t taking _ (outer_taken_in q taken) a ∙ skip t giving [] (outer_given_in q taken given) e ∙ nothing t

-- ---- the tests on the nets
module _ (t : ℕ) (q : Rule) (taken given : List Entry) where
  abbrev pub on_nets : Verdict
  on_nets = answer t (inner_causes q taken given)

  abbrev takes : Option ℕ
  takes = failing q.nets 0 (inner_taken_in q taken)

  abbrev gives : Option ℕ
  gives = failing q.nets 0 (inner_given_in q taken given)

  pub stop_short : (n : ℕ) → Some n ≡ told takes → on_nets ≡ Err (Short (n + 1))
  unfolding inner_causes verdict_of
  stop_short n e =
      let k : suc n ≡ n + 1 = omega arith in
      stop_at t short _ takes n (told_some takes n e) ∙ ap (λ (i : ℕ). Err (Short i)) k

  module _ (a : None ≡ told takes) where
    pub stop_unequal : (n : ℕ) → Some n ≡ told gives → on_nets ≡ Err (Unequal (n + 1))
    unfolding inner_causes verdict_of
    stop_unequal n e =
        let k : suc n ≡ n + 1 = omega arith in
        skip_at t short _ takes (told_none takes a) ∙ stop_at t unequal [] gives n (told_some gives n e)
        ∙ ap (λ (i : ℕ). Err (Unequal i)) k

    pub pass_nets : None ≡ told gives → on_nets ≡ Ok tt
    unfolding inner_causes
    pass_nets e = skip_at t short _ takes (told_none takes a) ∙ skip_at t unequal [] gives (told_none gives e) ∙ nothing t

-- over rows of the inner projections
module _ (q : Rule) (taken : List Entry) (held : List (List ℕ)) (few : q.nets ≤ 8) (h : Inner q.types taken held) where
  pub taken_same : failing q.nets 0 (λ n. le_v (row_at q.pre.inner n) (row_at held n)) ≡ failing q.nets 0 (inner_taken_in q taken)
  unfolding inner_taken_in
  taken_same = failing_same q.nets 0 _ (inner_taken_in q taken) (λ i k. rw (h.rows i (omega arith)))

  pub given_same : (given : List Entry) (made : List (List ℕ)) → Inner q.types given made
      → failing q.nets 0 (even_in made held q.pre.inner q.post.inner) ≡ failing q.nets 0 (inner_given_in q taken given)
  unfolding inner_given_in
  given_same given made m =
      failing_same q.nets 0 (even_in made held q.pre.inner q.post.inner) (inner_given_in q taken given)
      (λ i k. rw (h.rows i (omega arith), m.rows i (omega arith)))

-- ---- the parts in turn
module _ (t : ℕ) (q : Rule) (taken given : List Entry) where
  abbrev in_turn : Verdict
  in_turn = answer t (line_causes q taken given)

  -- turned down on the places
  pub by_places : (r : Refusal) → Err r ≡ on_places t q taken given → Err r ≡ in_turn
  by_places r e = sym (turns t (inner_causes q taken given) (outer_causes q taken given) (sym e))

  -- and else it is for the nets to say
  pub by_nets : Ok tt ≡ on_places t q taken given → (v : Verdict) → v ≡ on_nets t q taken given → v ≡ in_turn
  by_nets e v h = h ∙ sym (goes_on t (inner_causes q taken given) (outer_causes q taken given) (sym e))
