-- With which faults a reading is refused: what that means, and how it carries over to tests, to one reading after another and to several
-- things in a row.
use Prim.Native.Nat.{ℕ, zero, suc, ◌+◌, ◌≤◌, ◌<◌, max}
use mathlib.Core.Path.{◌≡◌, refl, ap, sym, subst, fun_ext}
use mathlib.Core.List.{List, [], ◌∷◌, ◌++◌}
use mathlib.Core.Bool.{Bool, true, false, ◌&&◌}
use mathlib.Core.Logic.{◌↔◌, ◌⊎◌, inl, inr, ⊎_elim}
use native.Mathlib.Omega.{arith}
use native.Mathlib.Nat.{add-zero}
use lib.Dec.{eqb}
use lib.ListN.{length}
use Rattle.text.specs.Bytes.{Text, between}
use Rattle.text.specs.Lines.{Outcome, got, bad, fault_at, fault, then, need, many, every, cause_number}
use Rattle.text.specs.Repeat.{many_at, every_at}
use Rattle.text.specs.Printed.{texts}
use Rattle.text.specs.declared.Fault.{Fault}
use Rattle.text.proofs.Basics.{and_true}
use Rattle.text.proofs.TestLaws.{and_both}
use Rattle.text.proofs.Standing.{Stands, stands_left, stands_right, stands_join, ends_join}
use Rattle.text.proofs.Exactly.{Accepts, Exactly, bad≢got, many_exactly}
use Rattle.text.specs.declared.Cause.{Cause}
use Rattle.text.specs.declared.Cause.TheVariants.{Syntax, Range}

-- f refuses with a fault exactly where Where says so
pub record Refuses {A : Type 0} (f : ℕ → Outcome A) (Where : ℕ → Fault → Type 0) : Type 0 where
  pub back : (at : ℕ) (e : Fault) → f at ≡ bad e → Where at e
  pub forth : (at : ℕ) (e : Fault) → Where at e → f at ≡ bad e

module _ {A : Type 0} (s : Text) (text : A → Text) where
  -- nothing of this form stands there
  abbrev pub Formless : (A → Bool) → ℕ → Type 0
  Formless form at = (a : A) → Stands s at (text a) → form a ≡ true → ⊥

  -- something fine stands there, and the test of it fails
  abbrev pub Failing : (A → Bool) → (A → Bool) → ℕ → Type 0
  Failing fine test at = (a : A) × Stands s at (text a) × (fine a ≡ true) × (test a ≡ false)

  -- nothing of this form stands at `at`, and b is the first byte at which no text of the form could go on
  pub record Wrong (form : A → Bool) (at b : ℕ) : Type 0 where
    pub none : Formless form at
    -- b lies in the text, or where it ends
    pub inside : (at ≤ b) × (b ≤ max at (length s))
    -- some text of the form begins with the bytes before b
    pub could : (a : A) × (form a ≡ true) × (rest : Text) × (text a ≡ between s at b ++ rest)
    -- and none with these and the byte at b
    pub cannot : b < length s → (a : A) → form a ≡ true → (rest : Text) → text a ≡ between s at (b + 1) ++ rest → ⊥

  -- something of this form stands there and is out of range; `out` says where the first of its numbers that is so begins, which is at b
  pub record Beyond (form range : A → Bool) (out : ℕ → A → ℕ) (at b : ℕ) : Type 0 where
    pub one : A
    pub stands : Stands s at (text one)
    pub formed : form one ≡ true
    pub out_of_range : range one ≡ false
    pub here : out at one ≡ b

  -- the faults of a line: 2 at b where none of its form stands there, 3 at b where one does that is out of range
  abbrev pub LineFaults : (A → Bool) → (A → Bool) → (ℕ → A → ℕ) → ℕ → Fault → Type 0
  LineFaults form range out at e =
      ((b : ℕ) × (e ≡ fault_at Syntax at b) × Wrong form at b) ⊎ ((b : ℕ) × (e ≡ fault_at Range at b) × Beyond form range out at b)

  -- those that come before, and `cause` where what is fine breaks a rule
  abbrev pub RuledFaults : (ℕ → Fault → Type 0) → (A → Bool) → (A → Bool) → Cause → ℕ → Fault → Type 0
  RuledFaults Before fine rule cause at e = Before at e ⊎ ((e ≡ fault cause at) × Failing fine rule at)

  -- those of a reading, and behind what it accepts those of the next
  abbrev pub ThenFaults : (ℕ → Fault → Type 0) → (A → Bool) → (A → ℕ → Fault → Type 0) → ℕ → Fault → Type 0
  ThenFaults First fine Next at e = First at e ⊎ ((a : A) × Stands s at (text a) × (fine a ≡ true) × Next a (at + length (text a)) e)

  -- those of the first of n things, the first of index i, that is not accepted
  abbrev pub ManyFaults : (ℕ → ℕ → Fault → Type 0) → (ℕ → A → Bool) → ℕ → ℕ → ℕ → Fault → Type 0
  ManyFaults One fine i n at e =
      (l : List A) × (length l < n) × Stands s at (texts text l) × (every_at fine i l ≡ true) × One (i + length l) (at + length (texts text l)) e

-- of n things that are read alike, and behind them those of what comes next
abbrev pub ManyThen : {A : Type 0} → (s : Text) → (A → Text) → (ℕ → Fault → Type 0) → (A → Bool) → ℕ → (List A → ℕ → Fault → Type 0) → ℕ → Fault → Type 0
ManyThen s text One fine n Next =
    ThenFaults s (texts text) (ManyFaults s text (λ i. One) (λ i. fine) 0 n) (λ l. eqb (length l) n && every fine l) Next

-- a fault has one cause, one place and one byte
pub one_cause : {m n : Cause} {x y b c : ℕ} → fault_at m x b ≡ fault_at n y c → cause_number m ≡ cause_number n
one_cause h = ap (λ (e : Fault). cause_number e.cause) h

pub one_place : {m n : Cause} {x y b c : ℕ} → fault_at m x b ≡ fault_at n y c → x ≡ y
one_place h = ap (λ (e : Fault). e.at) h

one_byte : {m n : Cause} {x y b c : ℕ} → fault_at m x b ≡ fault_at n y c → b ≡ c
one_byte h = ap (λ (e : Fault). e.byte) h

-- a cause behind 3 is no cause of a line without a rule
pub no_line_cause : {P Q : ℕ → Type 0} {cause : Cause} {x y : ℕ} → 3 < cause_number cause
    → ((b : ℕ) × (fault cause x ≡ fault_at Syntax y b) × P b) ⊎ ((b : ℕ) × (fault cause x ≡ fault_at Range y b) × Q b) → ⊥
no_line_cause {cause} later =
    ⊎_elim (λ k. let z : cause_number cause ≡ 2 = one_cause k.1 in omega (arith, z, later)) (λ k. let z : cause_number cause ≡ 3 = one_cause k.1 in omega (arith, z, later))

module _ {A : Type 0} where
  pub bad-is : {d e : Fault} → ◌≡◌ {A = Outcome A} (bad d) (bad e) → d ≡ e
  bad-is h = cc

  pub need-bad : (t : Bool) (cause : Cause) (at : ℕ) (a : A) (next : ℕ) (e : Fault) → need t cause at (got a next) ≡ bad e → (t ≡ false) × (e ≡ fault cause at)
  unfolding need
  need-bad true cause at a next e h = absurd (bad≢got (sym h))
  need-bad false cause at a next e h = (refl, sym (bad-is h))

module _ {A B : Type 0} where
  pub then-bad : (o : Outcome A) (f : A → ℕ → Outcome B) (e : Fault) → then o f ≡ bad e
      → (o ≡ bad e) ⊎ ((a : A) × (next : ℕ) × (o ≡ got a next) × (f a next ≡ bad e))
  unfolding then
  then-bad (got a next) f e h = inr (a, next, refl, h)
  then-bad (bad d) f e h = inl (ap bad (bad-is h))

-- ---- readings in a row

-- what is made of a reading has its faults
pub made_refuses : {A B : Type 0} {f : ℕ → Outcome A} {First : ℕ → Fault → Type 0} → Refuses f First → (make : A → B)
    → Refuses (λ at. then (f at) λ a next. got (make a) next) First
unfolding then
made_refuses {f} faults make = record {
  back = λ at e h.
      ⊎_elim (λ k. faults.back at e k) (λ k. absurd (bad≢got (sym k.3))) (then-bad (f at) (λ a next. got (make a) next) e h);
  forth = λ at e h. rw (faults.forth at e h);
}

module _ {A B : Type 0} {s : Text} {f : ℕ → Outcome A} {text : A → Text} {fine : A → Bool} {First : ℕ → Fault → Type 0}
    (one : Exactly s f text fine) (faults : Refuses f First)
  where
    -- a reading and a test of what it gives
    pub ruled_refuses : (rule : A → Bool) (cause : Cause) (make : A → B)
        → Refuses (λ at. then (f at) λ a next. need (rule a) cause at (got (make a) next)) (RuledFaults s text First fine rule cause)
    unfolding then need
    ruled_refuses rule cause make = record {
      back = λ at e h.
          ⊎_elim
          (λ k. inl (faults.back at e k))
          (λ k.
          let b = one.back at k.0 k.1 k.2 in
          let n = need-bad (rule k.0) cause at (make k.0) k.1 e k.3 in
          inr (n.1, (k.0, b.reaches.stands, b.fine-is, n.0)))
          (then-bad (f at) (λ a next. need (rule a) cause at (got (make a) next)) e h);
      forth = λ at e h.
          ⊎_elim
          (λ k. rw (faults.forth at e k))
          (λ k. let a = k.1 in rw (one.forth at a.0 a.1 a.2, a.3, k.0))
          h;
    }

    -- a reading and what comes behind it
    pub then_refuses : {rest : A → ℕ → Outcome B} {Next : A → ℕ → Fault → Type 0} → ((a : A) → Refuses (rest a) (Next a))
        → Refuses (λ at. then (f at) rest) (ThenFaults s text First fine Next)
    unfolding then
    then_refuses {rest} {Next} two = record {
      back = λ at e h.
          ⊎_elim
          (λ k. inl (faults.back at e k))
          (λ k.
          let b = one.back at k.0 k.1 k.2 in
          inr (k.0, b.reaches.stands, b.fine-is, subst (λ x. Next k.0 x e) b.reaches.next_is ((two k.0).back k.1 e k.3)))
          (then-bad (f at) rest e h);
      forth = λ at e h.
          ⊎_elim
          (λ k. rw (faults.forth at e k))
          (λ k. rw (one.forth at k.0 k.1 k.2) ((two k.0).forth (at + length (text k.0)) e k.3))
          h;
    }

-- ---- several things in a row

module _ {A : Type 0} {s : Text} {f : ℕ → ℕ → Outcome A} {text : A → Text} {fine : ℕ → A → Bool} {One : ℕ → ℕ → Fault → Type 0}
    (one : (i : ℕ) → Exactly s (f i) text (fine i)) (faults : (i : ℕ) → Refuses (f i) (One i))
  where
    -- one more, which is accepted, before them
    more : (n i at : ℕ) (e : Fault) (a : A) (next : ℕ) → Accepts s at (text a) next (fine i a)
        → (l : List A) → length l < n → Stands s next (texts text l) → every_at fine (suc i) l ≡ true → One (suc i + length l) (next + length (texts text l)) e
        → ManyFaults s text One fine i (suc n) at e
    unfolding texts
    more n i at e a next b l lt st ev h =
        let r = b.reaches in
        let index : suc i + length l ≡ i + suc (length l) = omega arith in
        let place : next + length (texts text l) ≡ at + length (text a ++ texts text l) = rw (r.next_is, ends_join) in (
          a ∷ l,
          omega (arith, lt),
          stands_join s at (text a) (texts text l) r.stands (rw (← r.next_is) st),
          and_both (fine i a) _ b.fine-is ev,
          rw (← index, ← place) h,
        )

    many-back : (n i at : ℕ) (e : Fault) → many_at f i n at ≡ bad e → ManyFaults s text One fine i n at e
    unfolding many_at texts
    many-back zero i at e h = absurd (bad≢got (sym h))
    many-back (suc n) i at e h =
        ⊎_elim
        (λ k. ([], omega arith, rw (add-zero at), refl, rw (add-zero i, add-zero at) ((faults i).back at e k)))
        (λ k.
        ⊎_elim
        (λ r.
        let m = many-back n (suc i) k.1 e r in
        more n i at e k.0 k.1 ((one i).back at k.0 k.1 k.2) m.0 m.1 m.2 m.3 m.4)
        (λ r. absurd (bad≢got (sym r.3)))
        (then-bad (many_at f (suc i) n k.1) _ e k.3))
        (then-bad (f i at) _ e h)

    many_forth : (n i at : ℕ) (e : Fault) (l : List A) → length l < n → Stands s at (texts text l) → every_at fine i l ≡ true
        → One (i + length l) (at + length (texts text l)) e → many_at f i n at ≡ bad e
    unfolding many_at texts then
    many_forth zero i at e l lt st ev h = absurd (omega (arith, lt))
    many_forth (suc n) i at e [] lt st ev h = rw ((faults i).forth at e (rw (add-zero i, add-zero at) at h))
    many_forth (suc n) i at e (a ∷ l) lt st ev h =
        let v = and_true (fine i a) (every_at fine (suc i) l) ev in
        let index : suc i + length l ≡ i + suc (length l) = omega arith in
        let x = at + length (text a) in
        let there : One (suc i + length l) (x + length (texts text l)) e = rw (index, ends_join) h in
        rw (
          (one i).forth at a (stands_left s at (text a) (texts text l) st) v.0,
          many_forth n (suc i) x e l (omega (arith, lt)) (stands_right s at (text a) (texts text l) st) v.1 there,
        )

    -- n things, each read by its index, the first of index i
    pub many_at_refuses : (i n : ℕ) → Refuses (many_at f i n) (ManyFaults s text One fine i n)
    many_at_refuses i n = record { back = many-back n i; forth = λ at e h. many_forth n i at e h.0 h.1 h.2 h.3 h.4 }

many-at : {A : Type 0} (f : ℕ → Outcome A) (n i at : ℕ) → many_at (λ i. f) i n at ≡ many f n at
unfolding many many_at
many-at f zero i at = refl
many-at {A} f (suc n) i at =
    ap (then (f at)) (fun_ext λ a. fun_ext λ next. ap (λ (o : Outcome (List A)). then o (λ l end. got (a ∷ l) end)) (many-at f n (suc i) next))

-- n things, each read alike
pub many_refuses : {A : Type 0} {s : Text} {f : ℕ → Outcome A} {text : A → Text} {fine : A → Bool} {One : ℕ → Fault → Type 0}
    → Exactly s f text fine → Refuses f One → (n : ℕ) → Refuses (many f n) (ManyFaults s text (λ i. One) (λ i. fine) 0 n)
many_refuses {s} {f} {text} {fine} {One} one faults n =
    subst (λ g. Refuses g (ManyFaults s text (λ i. One) (λ i. fine) 0 n)) (fun_ext (many-at f n 0)) (many_at_refuses (λ i. one) (λ i. faults) 0 n)

-- and what comes behind them
pub many-then : {A B : Type 0} {s : Text} {f : ℕ → Outcome A} {text : A → Text} {fine : A → Bool} {One : ℕ → Fault → Type 0}
    → Exactly s f text fine → Refuses f One → (n : ℕ) → {rest : List A → ℕ → Outcome B} {Next : List A → ℕ → Fault → Type 0}
    → ((l : List A) → Refuses (rest l) (Next l)) → Refuses (λ at. then (many f n at) rest) (ManyThen s text One fine n Next)
many-then {s} {f} {text} {fine} one faults n two = then_refuses (many_exactly s f text fine one n) (many_refuses one faults n) two

-- ---- a cause by its number

module _ {A B : Type 0} (s : Text) (f : ℕ → Outcome B) (text : A → Text) (form range : A → Bool) (out : ℕ → A → ℕ) (fine rule : A → Bool) (cause : Cause)
    (later : 3 < cause_number cause) (faults : Refuses f (RuledFaults s text (LineFaults s text form range out) fine rule cause)) (at : ℕ)
  where
    -- where a line may break a rule too, it is 2 at b exactly where no line of its form stands there and b is the byte at fault
    pub ruled_two : (b : ℕ) → (f at ≡ bad (fault_at Syntax at b)) ↔ Wrong s text form at b
    ruled_two b = (
      λ h.
          ⊎_elim
          (⊎_elim (λ k. rw (one_byte k.1) k.2) (λ k. let z : 2 ≡ 3 = one_cause k.1 in absurd (omega (arith, z))))
          (λ k. let z : 2 ≡ cause_number cause = one_cause k.0 in absurd (omega (arith, z, later)))
          (faults.back at (fault_at Syntax at b) h),
      λ h. faults.forth at (fault_at Syntax at b) (inl (inl (b, refl, h))),
    )

    -- 3 at b exactly where one does whose first number out of range begins at b
    pub ruled_three : (b : ℕ) → (f at ≡ bad (fault_at Range at b)) ↔ Beyond s text form range out at b
    ruled_three b = (
      λ h.
          ⊎_elim
          (⊎_elim (λ k. let z : 3 ≡ 2 = one_cause k.1 in absurd (omega (arith, z))) (λ k. rw (one_byte k.1) k.2))
          (λ k. let z : 3 ≡ cause_number cause = one_cause k.0 in absurd (omega (arith, z, later)))
          (faults.back at (fault_at Range at b) h),
      λ h. faults.forth at (fault_at Range at b) (inl (inr (b, refl, h))),
    )

    -- and the rule's number exactly where one that is fine breaks it
    pub ruled_why : (f at ≡ bad (fault cause at)) ↔ Failing s text fine rule at
    ruled_why = (
      λ h. ⊎_elim (λ k. absurd (no_line_cause later k)) (λ k. k.1) (faults.back at (fault cause at) h),
      λ h. faults.forth at (fault cause at) (inr (refl, h)),
    )
