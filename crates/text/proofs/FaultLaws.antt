-- Which causes a reading may have. One law for each combinator; a reader's law is then put together as the reader is.
use Prim.Native.Nat.{ℕ, zero, suc}
use mathlib.Core.Bool.{Bool, true, false}
use mathlib.Core.List.{List, [], ◌∷◌, ◌++◌}
use Rattle.text.specs.Bytes.{Text, lf}
use Rattle.text.specs.Number.{Read, missing, found, made, either, literal, number, item}
use Rattle.text.specs.Lists.{list_end}
use Rattle.text.specs.Lines.{Outcome, got, bad, then, need, many, many_within, judged, every, behind, read_number, read_row, read_head, read_heads, cause_number}
use Rattle.text.specs.Repeat.{many_at}
use Rattle.text.specs.TokenLine.{token_form, token_range, read_token}
use Rattle.text.specs.Keyed.{by_key, keyed_form, read_keyed}
use Rattle.text.proofs.Basics.{by_test}
use Rattle.text.specs.declared.Cause.{Cause}

-- over a property of causes
module _ (P : ℕ → Type 0) where
  -- the cause of a fault has it; a value has no cause
  abbrev pub Faults : {A : Type 0} → Outcome A → Type 0
  Faults (got a next) = Unit {0}
  Faults (bad e) = P (cause_number e.cause)

  -- one reading after another
  pub then_faults : {A B : Type 0} (o : Outcome A) (f : A → ℕ → Outcome B) → Faults o → ((a : A) (next : ℕ) → Faults (f a next)) → Faults (then o f)
  unfolding then
  then_faults (got a next) f h k = k a next
  then_faults (bad e) f h k = h

  module _ {A : Type 0} where
    -- a test
    pub need_faults : (t : Bool) (cause : Cause) (at : ℕ) (o : Outcome A) → P (cause_number cause) → Faults o → Faults (need t cause at o)
    unfolding need
    need_faults true cause at o p h = h
    need_faults false cause at o p h = p

    -- several things
    pub many_faults : (f : ℕ → Outcome A) → ((at : ℕ) → Faults (f at)) → (n at : ℕ) → Faults (many f n at)
    unfolding many
    many_faults f h zero at = tt
    many_faults f h (suc n) at = then_faults (f at) _ (h at) (λ a next. then_faults (many f n next) _ (many_faults f h n next) (λ l end. tt))

    pub many_at_faults : (f : ℕ → ℕ → Outcome A) → ((i at : ℕ) → Faults (f i at)) → (i n at : ℕ) → Faults (many_at f i n at)
    unfolding many_at
    many_at_faults f h i zero at = tt
    many_at_faults f h i (suc n) at =
        then_faults (f i at) _ (h i at) (λ a next. then_faults (many_at f (suc i) n next) _ (many_at_faults f h (suc i) n next) (λ l end. tt))

  -- each of several put to a test with those before it
  pub within_faults : {A : Type 0} (fits : List A → Bool) (cause : Cause) (f : ℕ → Outcome A) → P (cause_number cause) → ((at : ℕ) → Faults (f at))
      → (seen : List A) (n at : ℕ) → Faults (many_within fits cause f seen n at)
  unfolding many_within
  within_faults fits cause f p h seen zero at = tt
  within_faults fits cause f p h seen (suc n) at =
      then_faults (f at) _ (h at)
      (λ a next.
      let more = seen ++ (a ∷ []) in
      need_faults (fits more) cause at _ p (then_faults (many_within fits cause f more n next) _ (within_faults fits cause f p h more n next) (λ l end. tt)))

  -- a line is refused with 2 or 3
  module _ (two : P 2) (three : P 3) where
    judged_faults : {A : Type 0} (range : A → Bool) (out : A → ℕ) (at : ℕ) (r : Read A) → Faults (judged range out at r)
    unfolding judged
    judged_faults range out at (missing b) = two
    judged_faults range out at (found a next) = by_test (range a) (λ h. rw (h, judged) tt) (λ h. rw (h, judged) three)

    pub number_faults : (key : Text) (range : ℕ → Bool) (s : Text) (at : ℕ) → Faults (read_number key range s at)
    unfolding read_number
    number_faults key range s at = judged_faults range _ at (behind key (item number lf) s at)

    pub row_faults : {A : Type 0} (value : Text → ℕ → Read A) (text : A → Text) (key : Text) (n : ℕ) (range : A → Bool) (s : Text) (at : ℕ)
        → Faults (read_row value text key n range s at)
    unfolding read_row
    row_faults value text key n range s at = judged_faults (every range) _ at (behind key (list_end value lf n) s at)

    pub keyed_faults : (one two : Text) (range₁ range₂ : ℕ → Bool) (s : Text) (at : ℕ) → Faults (read_keyed one two range₁ range₂ s at)
    unfolding read_keyed
    keyed_faults one two range₁ range₂ s at = judged_faults (by_key range₁ range₂) _ at (keyed_form one two s at)

    pub token_faults : (key : Text) (places : ℕ) (size : ℕ → ℕ) (range times : ℕ → Bool) (s : Text) (at : ℕ)
        → Faults (read_token key places size range times s at)
    unfolding read_token
    token_faults key places size range times s at = judged_faults (token_range places range times) _ at (token_form key places size s at)

  -- the first line of a file with 2 alone
  module _ (two : P 2) where
    unranged_faults : {A : Type 0} (at : ℕ) (r : Read A) → Faults (judged (λ _. true) (λ _. at) at r)
    unfolding judged
    unranged_faults at (missing b) = two
    unranged_faults at (found a next) = tt

    pub head_faults : (line s : Text) (at : ℕ) → Faults (read_head line s at)
    unfolding read_head
    head_faults line s at = unranged_faults at (literal line s at)

    pub heads_faults : (former latter s : Text) (at : ℕ) → Faults (read_heads former latter s at)
    unfolding read_heads
    heads_faults former latter s at = unranged_faults at (either (made (λ _. 1) (literal former s at)) (made (λ _. 2) (literal latter s at)))
