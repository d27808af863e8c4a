-- The number of any call on a text: where the call goes by 01's order, and its causes are those listed, it is numbered as `Numbered` says.
use Prim.Native.Nat.{ℕ, ◌+◌, ◌≤◌, ◌<◌}
use mathlib.Core.Path.{◌≡◌, refl, ap, sym, subst, ◌∙◌}
use mathlib.Core.Logic.{◌↔◌, inl, inr}
use mathlib.Core.Bool.{Bool, false}
use mathlib.Core.List.{List, [], ◌∷◌, ◌++◌}
use mathlib.Core.Option.{Option, none, some}
use native.Mathlib.Omega.{arith}
use lib.ListN.{length}
use Rattle.text.specs.Bytes.{Text, newlines, column_at}
use Rattle.text.specs.Lines.{Outcome, got, bad, cause_number, column_for}
use Rattle.text.specs.declared.Cause.{Cause}
use Rattle.text.specs.declared.Cause.TheVariants.{Syntax, Range, Idling, Crowded}
use Rattle.text.specs.declared.Fault.{Fault}
use Rattle.text.proofs.Basics.{by_test, by_le}
use Rattle.text.proofs.FaultLaws.{Faults}
use Rattle.text.proofs.LineCounts.{line-within, column-within}
use Rattle.eos.specs.Causes.{Refusal, first, First, Clear}
use Rattle.eos.proofs.FirstLaws.{first_exactly, clear_exactly}
use Rattle.reader.specs.Answers.{pair}
use Rattle.promises.specs.Numbers.{Among, Numbers, all_of, faulted, Lent, Numbered}

-- ---- numbers of a list

pub among_left : (a b : List ℕ) (n : ℕ) → Among a n → Among (a ++ b) n
among_left [] b n h = absurd h
among_left (x ∷ a) b n (inl e) = inl e
among_left (x ∷ a) b n (inr h) = inr (among_left a b n h)

pub among_right : (a b : List ℕ) (n : ℕ) → Among b n → Among (a ++ b) n
among_right [] b n h = h
among_right (x ∷ a) b n h = inr (among_right a b n h)

-- the number of an answer
pub num : {r c : Refusal} → r ≡ c → r.number ≡ c.number
num e = ap (λ (x : Refusal). x.number) e

pub side : {r c : Refusal} → r ≡ c → r.beside ≡ c.beside
side e = ap (λ (x : Refusal). x.beside) e

pub col : {r c : Refusal} → r ≡ c → r.column ≡ c.column
col e = ap (λ (x : Refusal). x.column) e

-- 2 and 3
pub two_or_three : (n : ℕ) → Among (2 ∷ 3 ∷ []) n → (2 ≤ n) × (n ≤ 3)
two_or_three n (inl e) = (omega arith, omega arith)
two_or_three n (inr (inl e)) = (omega arith, omega arith)
two_or_three n (inr (inr e)) = absurd e

-- the column of a fault, where its cause has one
pub column_some : (s : Text) (e : Fault) → Among (2 ∷ 3 ∷ []) (cause_number e.cause) → (1 ≤ (faulted s e).column) × ((faulted s e).column ≤ length s + 1)
column_some s e = go e.cause
  where
    go : (c : Cause) → Among (2 ∷ 3 ∷ []) (cause_number c) → (1 ≤ column_for c (column_at s e.at e.byte)) × (column_for c (column_at s e.at e.byte) ≤ length s + 1)
    go Syntax h = column-within s e.at e.byte
    go Range h = column-within s e.at e.byte
    go Idling h = let k = two_or_three 5 h in absurd (omega (arith, k.1))
    go Crowded h = let k = two_or_three 12 h in absurd (omega (arith, k.1))

pub column_none : (s : Text) (e : Fault) → (Among (2 ∷ 3 ∷ []) (cause_number e.cause) → ⊥) → (faulted s e).column ≡ 0
column_none s e = go e.cause
  where
    go : (c : Cause) → (Among (2 ∷ 3 ∷ []) (cause_number c) → ⊥) → column_for c (column_at s e.at e.byte) ≡ 0
    go Syntax h = absurd (h (inl refl))
    go Range h = absurd (h (inr (inl refl)))
    go Idling h = refl
    go Crowded h = refl

module _ {A : Type 0} (ns : Numbers) (most : ℕ) (s : Text) (held : Bool) (reading : Outcome A) (tests : A → List (Option Refusal)) (r : Refusal) where
  abbrev Open : Type 0
  Open = Lent most s held

  -- the answer goes by 01's order
  pub record Goes : Type 0 where
    pub long : most < length s → r ≡ pair 1 0
    pub unheld : length s ≤ most → held ≡ false → r ≡ pair 14 0
    pub faulty : Open → (e : Fault) → reading ≡ bad e → r ≡ faulted s e
    pub turned : Open → (a : A) (next : ℕ) → reading ≡ got a next → (c : Refusal) → first (tests a) ≡ some c → r ≡ c
    pub passed : Open → (a : A) (next : ℕ) → reading ≡ got a next → first (tests a) ≡ none → r ≡ pair 0 0

  -- the causes are those listed: 2 to 12 of lines, 6 to 12 of tests, and none of both
  pub record Caused : Type 0 where
    pub unheld : held ≡ false → Among ns.unheld 14
    pub lines : Faults (Among ns.lines) reading
    pub tests_are : (a : A) (c : Refusal) → first (tests a) ≡ some c → Among ns.tests c.number
    pub no_column : (a : A) (c : Refusal) → first (tests a) ≡ some c → c.column ≡ 0
    pub low : (n : ℕ) → Among ns.lines n → (2 ≤ n) × (n ≤ 12)
    pub high : (n : ℕ) → Among ns.tests n → (6 ≤ n) × (n ≤ 12)
    pub apart : (n : ℕ) → Among ns.lines n → Among ns.tests n → ⊥

  module _ (g : Goes) (k : Caused) where
    -- every call ends in one of five ways
    by_way : {G : Type 0}
        → (most < length s → r ≡ pair 1 0 → G)
        → (length s ≤ most → held ≡ false → r ≡ pair 14 0 → G)
        → (Open → (e : Fault) → reading ≡ bad e → r ≡ faulted s e → Among ns.lines (cause_number e.cause) → G)
        → (Open → (a : A) (next : ℕ) → reading ≡ got a next → (c : Refusal) → first (tests a) ≡ some c → r ≡ c → Among ns.tests c.number → G)
        → (Open → (a : A) (next : ℕ) → reading ≡ got a next → first (tests a) ≡ none → r ≡ pair 0 0 → G)
        → G
    by_way {G} l u f t p =
        by_le (length s) most
        (λ few. by_test held (λ h. read (record { short = few; is_held = h }) reading refl k.lines) (λ h. u few h (g.unheld few h)))
        (λ over. l over (g.long over))
      where
        asked : Open → (a : A) (next : ℕ) → reading ≡ got a next → (o : Option Refusal) → first (tests a) ≡ o → G
        asked w a next e none q = p w a next e q (g.passed w a next e q)
        asked w a next e (some c) q = t w a next e c q (g.turned w a next e c q) (k.tests_are a c q)

        read : Open → (o : Outcome A) → reading ≡ o → Faults (Among ns.lines) o → G
        read w (got a next) e h = asked w a next e (first (tests a)) refl
        read w (bad d) e h = f w d e (g.faulty w d e) h

    listed : Among (all_of ns) r.number
    listed =
        by_way
        (λ o q. inr (inl (num q)))
        (λ o h q. inr (inr (rw (num q) (among_left ns.unheld (ns.lines ++ ns.tests) 14 (k.unheld h)))))
        (λ w e b q h. inr (inr (rw (num q) (among_right ns.unheld (ns.lines ++ ns.tests) (cause_number e.cause) (among_left ns.lines ns.tests (cause_number e.cause) h)))))
        (λ w a n b c d q h.
        inr (inr (rw (num q) (among_right ns.unheld (ns.lines ++ ns.tests) c.number (among_right ns.lines ns.tests c.number h)))))
        (λ w a n b d q. inl (num q))

    one : (r.number ≡ 1) ↔ (most < length s)
    one = (
      λ h.
          by_way
          (λ o q. o)
          (λ o u q. absurd (omega (arith, h, num q)))
          (λ w e b q i. absurd (omega (arith, h, num q, k.low (cause_number e.cause) i)))
          (λ w a n b c d q i. absurd (omega (arith, h, num q, k.high c.number i)))
          (λ w a n b d q. absurd (omega (arith, h, num q))),
      λ o. num (g.long o),
    )

    fourteen : (r.number ≡ 14) ↔ ((length s ≤ most) × (held ≡ false))
    fourteen = (
      λ h.
          by_way
          (λ o q. absurd (omega (arith, h, num q)))
          (λ o u q. (o, u))
          (λ w e b q i. absurd (omega (arith, h, num q, k.low (cause_number e.cause) i)))
          (λ w a n b c d q i. absurd (omega (arith, h, num q, k.high c.number i)))
          (λ w a n b d q. absurd (omega (arith, h, num q))),
      λ (o, u). num (g.unheld o u),
    )

    good : (r.number ≡ 0) ↔ (Open × (a : A) × (next : ℕ) × (reading ≡ got a next) × Clear (tests a))
    good = (
      λ h.
          by_way
          (λ o q. absurd (omega (arith, h, num q)))
          (λ o u q. absurd (omega (arith, h, num q)))
          (λ w e b q i. absurd (omega (arith, h, num q, k.low (cause_number e.cause) i)))
          (λ w a n b c d q i. absurd (omega (arith, h, num q, k.high c.number i)))
          (λ w a n b d q. (w, a, n, b, (clear_exactly (tests a)).0 d)),
      λ (w, a, n, b, d). num (g.passed w a n b ((clear_exactly (tests a)).1 d)),
    )

    line : (c : Refusal) → Among ns.lines c.number
        → (r ≡ c) ↔ (Open × (e : Fault) × (reading ≡ bad e) × (c ≡ faulted s e))
    line c h = (
      λ z.
          by_way
          (λ o q. absurd (omega (arith, num q, num z, k.low c.number h)))
          (λ o u q. absurd (omega (arith, num q, num z, k.low c.number h)))
          (λ w e b q i. (w, e, b, sym z ∙ q))
          (λ w a n b d f q i. absurd (k.apart c.number h (subst (Among ns.tests) (sym (num q) ∙ num z) i)))
          (λ w a n b d q. absurd (omega (arith, num q, num z, k.low c.number h))),
      λ (w, e, b, z). g.faulty w e b ∙ sym z,
    )

    test : (c : Refusal) → Among ns.tests c.number
        → (r ≡ c) ↔ (Open × (a : A) × (next : ℕ) × (reading ≡ got a next) × First (tests a) c)
    test c h = (
      λ z.
          by_way
          (λ o q. absurd (omega (arith, num q, num z, k.high c.number h)))
          (λ o u q. absurd (omega (arith, num q, num z, k.high c.number h)))
          (λ w e b q i. absurd (k.apart c.number (subst (Among ns.lines) (sym (num q) ∙ num z) i) h))
          (λ w a n b d f q i. (w, a, n, b, (first_exactly (tests a) c).0 (f ∙ ap some (sym q ∙ z))))
          (λ w a n b d q. absurd (omega (arith, num q, num z, k.high c.number h))),
      λ (w, a, n, b, f). g.turned w a n b c ((first_exactly (tests a) c).1 f),
    )

    nothing : Among (0 ∷ 1 ∷ 14 ∷ []) r.number → r.beside ≡ 0
    nothing h =
        by_way
        (λ o q. side q)
        (λ o u q. side q)
        (λ w e b q i. absurd (other h (omega (arith, num q, k.low (cause_number e.cause) i)) (omega (arith, num q, k.low (cause_number e.cause) i))))
        (λ w a n b c d q i. absurd (other h (omega (arith, num q, k.high c.number i)) (omega (arith, num q, k.high c.number i))))
        (λ w a n b d q. side q)
      where
        other : Among (0 ∷ 1 ∷ 14 ∷ []) r.number → 2 ≤ r.number → r.number ≤ 12 → ⊥
        other (inl e) a b = omega arith
        other (inr (inl e)) a b = omega arith
        other (inr (inr (inl e))) a b = omega arith
        other (inr (inr (inr e))) a b = e

    a_line : Among ns.lines r.number → (1 ≤ r.beside) × (r.beside ≤ newlines s + 1)
    a_line h =
        by_way
        (λ o q. absurd (omega (arith, num q, k.low r.number h)))
        (λ o u q. absurd (omega (arith, num q, k.low r.number h)))
        (λ w e b q i. rw (side q) (line-within s e.at))
        (λ w a n b c d q i. absurd (k.apart r.number h (subst (Among ns.tests) (sym (num q)) i)))
        (λ w a n b d q. absurd (omega (arith, num q, k.low r.number h)))

    a_column : Among (2 ∷ 3 ∷ []) r.number → (1 ≤ r.column) × (r.column ≤ length s + 1)
    a_column h =
        let two = two_or_three r.number h in
        by_way
        (λ o q. absurd (omega (arith, num q, two)))
        (λ o u q. absurd (omega (arith, num q, two)))
        (λ w e b q i. rw (col q) (column_some s e (rw (num q) at h)))
        (λ w a n b c d q i. absurd (omega (arith, num q, two, k.high c.number i)))
        (λ w a n b d q. absurd (omega (arith, num q, two)))

    no_column : (Among (2 ∷ 3 ∷ []) r.number → ⊥) → r.column ≡ 0
    no_column h =
        by_way
        (λ o q. col q)
        (λ o u q. col q)
        (λ w e b q i. col q ∙ column_none s e (λ x. h (rw (num q) x)))
        (λ w a n b c d q i. col q ∙ k.no_column a c d)
        (λ w a n b d q. col q)

    pub numbered : Numbered ns most s held reading tests r
    numbered = record {
      listed = listed;
      one = one;
      fourteen = fourteen;
      line = line;
      test = test;
      good = good;
      nothing = nothing;
      a_line = a_line;
      a_column = a_column;
      no_column = no_column;
    }
