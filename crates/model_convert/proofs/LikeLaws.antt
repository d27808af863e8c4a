-- Held events are told apart as the code does it: by what each idles at, and number by number.
use Prim.Native.Nat.{ℕ, suc, pred, ◌+◌, ◌≤◌}
use mathlib.Core.Path.{◌≡◌, refl, sym, ap, ap₂, ◌∙◌}
use mathlib.Core.List.{List, [], ◌∷◌, map}
use mathlib.Core.Bool.{Bool, true, false, cond, not, ◌&&◌, ◌||◌}
use native.Mathlib.Omega.{arith}
use borrow.Author.Tests.{eq-eqb, ne_eqb}
use lib.Dec.{eqb, ltb}
use lib.ListN.{length}
use lib.Pointwise.{pointwise}
use Rattle.std.specs.Prelude.{nat_eq, Some, None}
use Rattle.std.specs.List.{list_any, position_or_len}
use Rattle.std.specs.Option.{unwrap_or}
use Rattle.std.proofs.lemmas.List.Recursion.{is_position_or_len}
use Rattle.std.proofs.lemmas.List.Sums.{prefix_len-le-length}
use Rattle.eos.specs.Multiset.{any}
use Rattle.eos.specs.Vector.{eq_v}
use Rattle.eos.specs.Model as eos
use Rattle.eos.specs.Model.{Act, move, idle, alone, Model}
use Rattle.eos.specs.Firing.{all_below}
use Rattle.eos.specs.Converting.{same_rows, idle_alike, alike, position, idles_at, like_at, replaceable_act, replaceable}
use Rattle.eos.proofs.Basics.{by_less}
use Rattle.model.specs.Rules.{nth}
use Rattle.model.specs.Acts.{as_act, act_of}
use Rattle.model.specs.declared.Act as code
use Rattle.model.specs.declared.Act.TheVariants.{Move, Idle, Alone}
use Rattle.model.specs.declared.Event.{Event}
use Rattle.model.proofs.HeldTestLoops.{and_no, and_yes}
use Rattle.model.proofs.SlotLaws.{cond_below, cond_from}
use Rattle.model_convert.specs.Converting.{whole, bare, replaced_by, replaced_in}

row_same : (x y : List ℕ) → pointwise nat_eq x y ≡ eq_v x y
row_same [] [] = refl
row_same [] (b ∷ y) = refl
row_same (a ∷ x) [] = refl
row_same (a ∷ x) (b ∷ y) = ap (λ (t : Bool). eqb a b && t) (row_same x y)

-- arrays of rows are equal as rows are the same
rows_same : (u v : List (List ℕ)) → pointwise (pointwise nat_eq) u v ≡ same_rows u v
rows_same [] [] = refl
rows_same [] (y ∷ v) = refl
rows_same (x ∷ u) [] = refl
rows_same (x ∷ u) (y ∷ v) = ap₂ ◌&&◌ (row_same x y) (rows_same u v)

-- the code's act does not idle
abbrev pub Busy : code.Act → Type 0
Busy a = (p : ℕ) → a ≡ Idle p → ⊥

module _ (m : Model) where
  first_busy : (a : code.Act) → Busy a → (b : Act) → idle_alike m (as_act a) b ≡ false
  first_busy (Move k) h b = refl
  first_busy (Idle p) h b = absurd (h p refl)
  first_busy (Alone n) h b = refl

  second_busy : (b : code.Act) → Busy b → (a : Act) → idle_alike m a (as_act b) ≡ false
  second_busy b h (move k) = refl
  second_busy b h (alone n) = refl
  second_busy (Move k) h (idle p) = refl
  second_busy (Idle q) h (idle p) = absurd (h q refl)
  second_busy (Alone n) h (idle p) = refl

module _ (types : List ℕ) (d e : Event) where
  abbrev like : Bool
  like = alike (bare types []) (whole d) (whole e)

  module _ (p q : ℕ) (f : idle p ≡ act_of d.kind d.index) (g : idle q ≡ act_of e.kind e.index) where
    pub by_counts : nth types p ≡ nth types q → (b : Bool) → b ≡ pointwise (pointwise nat_eq) d.sync e.sync → b ≡ like
    unfolding alike
    by_counts t b h = rw (← f, ← g) (and_yes _ _ b (eq-eqb _ _ t) (h ∙ rows_same d.sync e.sync))

    pub by_type : (nth types p ≡ nth types q → ⊥) → eqb (nth types p) (nth types q) ≡ like
    unfolding alike
    by_type h = let n = ne_eqb _ _ h in rw (← f, ← g) (n ∙ and_no _ _ n)

  pub by_first : (a : code.Act) → as_act a ≡ act_of d.kind d.index → Busy a → false ≡ like
  unfolding alike
  by_first a f h = rw (← f, first_busy _ a h)

  pub by_second : (b : code.Act) → as_act b ≡ act_of e.kind e.index → Busy b → false ≡ like
  unfolding alike
  by_second b g h = rw (← g, second_busy _ b h)

-- ---- what is found

module _ (m : Model) (e : eos.Event) where
  -- a position is the first index at which an event is like e, or past them all
  positions : (l : List Event) → position m e (map whole l) ≡ position_or_len (λ d. alike m (whole d) e) l
  unfolding position
  positions l = is_position_or_len (λ l. position m e (map whole l)) (λ d. alike m (whole d) e) refl
      (λ d l. let one : 1 + position m e (map whole l) ≡ suc (position m e (map whole l)) = omega arith in rw one) l

  pub position_found : (l : List Event)
      → unwrap_or (cond (ltb (position_or_len (λ d. alike m (whole d) e) l) (length l)) (Some (position_or_len (λ d. alike m (whole d) e) l)) None) (length l)
      ≡ position m e (map whole l)
  position_found l =
      let p = position_or_len (λ d. alike m (whole d) e) l in
      let few : p ≤ length l = prefix_len-le-length _ l in
      by_less p (length l)
      (λ h. rw (cond_below (length l) p (Some p) None h) (sym (positions l)))
      (λ h. let same : length l ≡ p = omega arith in rw (cond_from (length l) p (Some p) None h) (same ∙ sym (positions l)))

-- only types matter to likeness
alike_types : (m n : Model) → m.types ≡ n.types → (d e : eos.Event) → alike m d e ≡ alike n d e
unfolding alike
alike_types m n t d e = ap (λ (b : Bool). b && same_rows d.sync e.sync) (go d.act e.act)
  where
    go : (a b : Act) → idle_alike m a b ≡ idle_alike n a b
    go (move k) b = refl
    go (idle p) (move k) = refl
    go (idle p) (idle q) = ap (λ (l : List ℕ). eqb (nth l p) (nth l q)) t
    go (idle p) (alone j) = refl
    go (alone k) b = refl

any_listed : (f g : eos.Event → Bool) → ((d : eos.Event) → f d ≡ g d) → (l : List Event) → list_any (λ d. f (whole d)) l ≡ any g (map whole l)
any_listed f g h [] = refl
any_listed f g h (d ∷ l) = ap₂ ◌||◌ (h (whole d)) (any_listed f g h l)

-- some event of these is like e and idles at place q
pub like_found : (types : List ℕ) (events : List Event) (e : eos.Event) (q : ℕ)
    → list_any (λ d. idles_at q (act_of d.kind d.index) && alike (bare types []) (whole d) e) events ≡ like_at (bare types events) e q
unfolding like_at
like_found types events e q =
    any_listed (λ d. idles_at q d.act && alike (bare types []) d e) (λ d. idles_at q d.act && alike (bare types events) d e)
    (λ d. ap (λ (b : Bool). idles_at q d.act && b) (alike_types (bare types []) (bare types events) refl d e)) events

-- ---- where an event can be replaced

module _ (types : List ℕ) (events : List Event) (e : Event) where
  -- one that does not idle stays
  pub stays : (a : code.Act) → as_act a ≡ act_of e.kind e.index → Busy a → true ≡ replaceable (bare types events) (whole e)
  unfolding replaceable
  stays a f h = go a h ∙ ap (replaceable_act (bare types events) (whole e)) f
    where
      go : (a : code.Act) → Busy a → true ≡ replaceable_act (bare types events) (whole e) (as_act a)
      go (Move k) h = refl
      go (Idle p) h = absurd (h p refl)
      go (Alone n) h = refl

  -- one that idles can be replaced by the test of each place
  pub at_places : (p : ℕ) → idle p ≡ act_of e.kind e.index → length types ≡ 32
      → all_below 32 (λ q. not (eqb (nth types q) (nth types p)) || like_at (bare types events) (whole e) q) ≡ replaceable (bare types events) (whole e)
  unfolding replaceable
  at_places p f long = rw (← f, long)

-- ---- what it is replaced by

module _ (types : List ℕ) (e : Event) where
  -- one that does not idle stays as it is
  pub left : (a : code.Act) → as_act a ≡ act_of e.kind e.index → Busy a → e ≡ replaced_in types e
  unfolding replaced_in
  left a f h = rw (← f) (go a h)
    where
      go : (a : code.Act) → Busy a → e ≡ replaced_by types e (as_act a)
      go (Move k) h = refl
      go (Idle p) h = absurd (h p refl)
      go (Alone n) h = refl

  -- one that idles has `alone` of its place's net
  pub given_alone : (p n : ℕ) → idle p ≡ act_of e.kind e.index → n ≡ pred (nth types p) → record { kind = 3; index = suc n; sync = e.sync } ≡ replaced_in types e
  unfolding replaced_in
  given_alone p n f h = rw (← f, h)
