-- Laws of the line of a net-token.
use Prim.Native.Nat.{ℕ, zero, suc, ◌+◌, ◌≤◌, ◌<◌}
use mathlib.Core.Path.{◌≡◌, refl, ap, sym, ◌∙◌}
use mathlib.Core.List.{List, [], ◌∷◌, map}
use mathlib.Core.Bool.{Bool, true, false, ◌&&◌}
use native.Mathlib.Omega.{arith}
use lib.Dec.{leb, lit<}
use lib.IntN.{pos}
use borrow.Author.Tests.{le-leb, lt-leb}
use lib.ListN.{length, length-append}
use Rattle.std.specs.Prelude.{Result}
use Rattle.std.specs.declared.result.Result.TheVariants.{Ok, Err}
use Rattle.text.specs.Bytes.{Text, comma, star, colon}
use Rattle.text.proofs.Basics.{by_test}
use Rattle.text.specs.Number.{Read, missing, found, made, both, number, signed_if, item}
use Rattle.text.specs.Capped.{answered, passed}
use Rattle.text.specs.Lists.{stop_of, joined, values, list_end, any_list}
use Rattle.text.specs.Lines.{Outcome, fault_at, judged, every, in_range, behind, out_at}
use Rattle.text.specs.Token.{Token}
use Rattle.text.specs.TokenLine.{counts_at, timed, token_form, token_range, counts_out, token_out, read_token}
use Rattle.text.specs.Printed.{decimal, items_text, end_text, place_text}
use Rattle.text.specs.Values.{number_in}
use Rattle.text.specs.Answers.{kept, parsed, accepted, padded, ranged, counted, token_line}
use Rattle.text.specs.declared.Cause.TheVariants.{Syntax, Range}
use Rattle.text.specs.declared.Fault.{Fault}
use Rattle.text.specs.declared.Parsed.{Parsed}
use Rattle.text.specs.declared.TokenLine.{TokenLine}
use Rattle.text.proofs.NumberLaws.{Exact, Capped, missing_of, exact_of}
use Rattle.text.proofs.ReadLaws.{found-is}
use Rattle.text.proofs.LineLaws.{within_low, within_high, within_in, capped-most, capped-within, behind_found, passed_found, passed_missing}
use Rattle.text.proofs.ListLaws.{number_item, numbers_values, numbers_in, numbers_beyond}
use Rattle.text.proofs.Spelled.{number_spelled}
use Rattle.text.proofs.Parts.{made_missing, made_found, both_found}
use Rattle.text_tokens.specs.Ends.{times_at}
use Rattle.text_tokens.proofs.EndLaws.{timed_is}

-- ---- a line whose place is out of range, of which only the syntax is judged

module _ {A : Type 0} (at place : ℕ) (r : Read A) where
  abbrev unjudged : Result A Fault
  unjudged = accepted (judged (λ _. false) (λ _. place) at r)

  pub place_out : (u : ℕ) → Ok u ≡ passed r → Err (fault_at Range at place) ≡ unjudged
  unfolding judged accepted
  place_out u e = rw (passed_found r u e).1

  pub syntax_out : (b : ℕ) → Err b ≡ passed r → Err (fault_at Syntax at b) ≡ unjudged
  unfolding judged accepted
  syntax_out b e = rw (passed_missing r b e)

-- ---- where the counts end

-- the byte behind them is the last of their text, whatever ends it
several_end : (n : ℕ) (s : Text) (x : ℕ) (l : List ℕ) (y : ℕ) → values number (suc n) s x ≡ found l y
    → (0 < length l) × (y + 1 ≡ x + length (items_text decimal star l))
unfolding values joined items_text stop_of
several_end zero s x l y e =
    let k = both_found (λ a l. a ∷ l) (number s x) (λ a next. found [] next) l y e in
    let one = (number_spelled.back s x k.left k.next k.first).next_is in
    let none = found-is k.second in
    rw (← k.made_is, ← none.0) (omega arith, omega (arith, one, none.1, length-append (decimal k.left) (star ∷ [])))
several_end (suc n) s x l y e =
    let k = both_found (λ a l. a ∷ l) (item number comma s x) (λ a next. values number (suc n) s next) l y e in
    let one = number_item comma s x k.left k.next k.first in
    let rest = several_end n s k.next k.right y k.second in
    rw (← k.made_is)
    (omega arith, omega (arith, one, rest.1, length-append (decimal k.left) (stop_of star (length k.right) ∷ items_text decimal star k.right)))

values_end : (n : ℕ) (s : Text) (x : ℕ) (l : List ℕ) (y : ℕ) → values number n s x ≡ found l y → y + 1 ≡ x + length (end_text decimal star l)
unfolding values end_text
values_end zero s x l y e = let k = found-is e in rw (← k.0, ← k.1) refl
values_end (suc n) s x l y e = go l (several_end n s x l y e)
  where
    go : (l : List ℕ) → (0 < length l) × (y + 1 ≡ x + length (items_text decimal star l)) → y + 1 ≡ x + length (end_text decimal star l)
    go [] h = absurd (omega arith)
    go (v ∷ l) h = h.1

-- ---- the counts behind a place in range, and how many net-tokens the line stands for

module _ (x : ℕ) (range : ℕ → Bool) (l : List ℕ) where
  some_out : every range l ≡ false → counts_out range x l ≡ out_at decimal range x l
  unfolding counts_out
  some_out h = rw (h, counts_out)

  none_out : every range l ≡ true → counts_out range x l ≡ x + length (end_text decimal star l)
  unfolding counts_out
  none_out h = rw (h, counts_out)

-- what is answered for n counts from x on
abbrev pub counts_answer : ℕ → ℕ → Text → ℕ → Result (Parsed (Result (List ℕ) ℕ)) ℕ
counts_answer hi n s x = answered (ranged (number_in 65535) hi x) (values (signed_if false) n s x)

-- counts that are read, and what is answered for them
record CountsRead (hi x : ℕ) (r : Read (List ℕ)) (value : Result (List ℕ) ℕ) (y : ℕ) : Type 0 where
  counts : List ℕ
  is : r ≡ found counts y
  told : value ≡ ranged (number_in 65535) hi x (map pos counts)

module _ (hi most at place n : ℕ) (s : Text) (x : ℕ) where
  abbrev range : ℕ → Bool
  range v = leb v hi

  abbrev counts_read : Read (List ℕ)
  counts_read = values number n s x

  abbrev form : Read (List ℕ × ℕ)
  form = timed (λ last. list_end number last n) s x

  abbrev line_told : Result (Parsed TokenLine) Fault
  line_told =
      parsed (kept (λ c. counted place c.0 c.1) (judged (λ c. every range c.0 && leb c.1 most) (λ c. counts_out range x c.0) at form))

  form_is : form ≡ both (λ l n. (l, n)) counts_read (λ l y. times_at s y)
  unfolding list_end
  form_is = timed_is (λ last. list_end number last n) s x counts_read refl refl

  pub counts_missing : (b : ℕ) → Err b ≡ counts_answer hi n s x → form ≡ missing b
  unfolding both
  counts_missing b e =
      let m = missing_of (ranged (number_in 65535) hi x) (values (signed_if false) n s x) b e in
      form_is ∙ rw (made_missing (map pos) counts_read b (sym (numbers_values s n x) ∙ m))

  module _ (p : Parsed (Result (List ℕ) ℕ)) (e : Ok p ≡ counts_answer hi n s x) where
    counts_told : CountsRead hi x counts_read p.value p.end
    counts_told =
        let h = exact_of (ranged (number_in 65535) hi x) (values (signed_if false) n s x) p e in
        let m = made_found (map pos) counts_read h.value p.end (sym (numbers_values s n x) ∙ h.is) in
        record { counts = m.0; is = m.1; told = h.told ∙ ap (ranged (number_in 65535) hi x) (sym m.2) }

    pub end_missing : (b : ℕ) → times_at s p.end ≡ missing b → form ≡ missing b
    unfolding both made
    end_missing b m = form_is ∙ rw (counts_told.is, m)

    module _ (fits : hi ≤ 65535) (v z : ℕ) (t : Exact (times_at s p.end) (Capped v) z) where
      form_found : form ≡ found (counts_told.counts, t.value) z
      unfolding both made
      form_found = form_is ∙ rw (counts_told.is, t.is)

      -- a count is out of range
      pub counts_beyond : (b : ℕ) → p.value ≡ Err b → Err (fault_at Range at b) ≡ line_told
      unfolding judged kept parsed
      counts_beyond b o =
          by_test (every range counts_told.counts)
          (λ h.
          let k : ◌≡◌ {A = Result (List ℕ) ℕ} (Err b) (Ok (padded counts_told.counts)) = sym o ∙ counts_told.told ∙ numbers_in 65535 hi fits x counts_told.counts h in
          let z : ◌≡◌ {A = ℕ} 0 1 = cc in
          absurd (omega arith))
          (λ h.
          let k : ◌≡◌ {A = Result (List ℕ) ℕ} (Err b) (Err (out_at decimal range x counts_told.counts)) =
          sym o ∙ counts_told.told ∙ numbers_beyond 65535 hi fits x counts_told.counts h in
          let same : b ≡ out_at decimal range x counts_told.counts = cc in
          rw (form_found, h, judged, some_out x range counts_told.counts h, same))

      module _ (room : most < 65536) (a : List ℕ) (inside : p.value ≡ Ok a) where
        counts_in : (every range counts_told.counts ≡ true) × (a ≡ padded counts_told.counts)
        counts_in =
            by_test (every range counts_told.counts)
            (λ h.
            let k : ◌≡◌ {A = Result (List ℕ) ℕ} (Ok a) (Ok (padded counts_told.counts)) = sym inside ∙ counts_told.told ∙ numbers_in 65535 hi fits x counts_told.counts h in
            (h, (cc)))
            (λ h.
            let k : ◌≡◌ {A = Result (List ℕ) ℕ} (Ok a) (Err (out_at decimal range x counts_told.counts)) =
            sym inside ∙ counts_told.told ∙ numbers_beyond 65535 hi fits x counts_told.counts h in
            let z : ◌≡◌ {A = ℕ} 0 1 = cc in
            absurd (omega arith))

        -- it stands for more than it may
        pub times_beyond : most < v → Err (fault_at Range at (p.end + 1)) ≡ line_told
        unfolding judged kept parsed
        times_beyond h =
            let o : leb t.value most ≡ false = capped-most most v t.value room t.told ∙ lt-leb v most h in
            rw (form_found, counts_in.0, o, judged, none_out x range counts_told.counts counts_in.0, values_end n s x counts_told.counts p.end counts_told.is)

        pub line_read : v ≤ most → Ok (record { value = record { place = place; counts = a; times = v }; end = z }) ≡ line_told
        unfolding judged kept parsed
        line_read h =
            let o : leb t.value most ≡ true = capped-most most v t.value room t.told ∙ le-leb v most h in
            let same : t.value ≡ v = omega (arith, t.told) in
            rw (form_found, counts_in.0, o, judged, counts_in.1, same)

-- ---- the line

abbrev token : ℕ → List ℕ × ℕ → Token
token p c = record { place = p; counts = c.0; times = c.1 }

module _ (key : Text) (places : ℕ) (range times : ℕ → Bool) (at p : ℕ) where
  -- a place and what stands behind it, judged
  abbrev line : Read (List ℕ × ℕ) → Outcome Token
  line r = judged (token_range places range times) (token_out key places range at) at (made (token p) r)

  out_in : in_range 1 places p ≡ true → (c : List ℕ × ℕ) → token_out key places range at (token p c) ≡ counts_out range (at + length (place_text key p)) c.0
  unfolding token_out
  out_in w c = rw (w, token_out)

  out_place : in_range 1 places p ≡ false → (c : List ℕ × ℕ) → token_out key places range at (token p c) ≡ at + length key
  unfolding token_out
  out_place w c = rw (w, token_out)

  line_in : (x : ℕ) → x ≡ at + length (place_text key p) → in_range 1 places p ≡ true → (r : Read (List ℕ × ℕ))
      → kept token_line (line r) ≡ kept (λ c. counted p c.0 c.1) (judged (λ c. every range c.0 && times c.1) (λ c. counts_out range x c.0) at r)
  unfolding judged made kept token_line
  line_in x e w (missing b) = refl
  line_in x e w (found c next) = by_test (every range c.0 && times c.1) (λ h. rw (w, h, judged)) (λ h. rw (w, h, judged, out_in w c, e))

  line_out : in_range 1 places p ≡ false → (r : Read (List ℕ × ℕ)) (e : Fault) → Err e ≡ unjudged at (at + length key) r
      → Err e ≡ parsed (kept token_line (line r))
  unfolding judged made kept accepted parsed
  line_out w (missing b) e h = let z : e ≡ fault_at Syntax at b = cc in rw z
  line_out w (found c next) e h = let z : e ≡ fault_at Range at (at + length key) = cc in rw (z, w, judged, out_place w c)

pub token_missing : (key : Text) (places : ℕ) (size : ℕ → ℕ) (s : Text) (at b : ℕ) → behind key (item number colon) s at ≡ missing b
    → token_form key places size s at ≡ missing b
unfolding token_form both
token_missing key places size s at b e = rw e

module _ (key : Text) (places : ℕ) (size : ℕ → ℕ) (range times : ℕ → Bool) (s : Text) (at : ℕ) where
  module _ (fits : places < 65536) (v x : ℕ) (h : Exact (behind key (item number colon) s at) (Capped v) x) where
    place_is : x ≡ at + length (place_text key h.value)
    place_is =
        let e = number_item colon s (at + length key) h.value x (behind_found key (item number colon) s at h.value x h.is) in
        rw (length-append, length-append) (omega arith)

    in_is : in_range 1 places h.value ≡ in_range 1 places v
    in_is = capped-within 1 places v h.value (lit< tt) fits h.told

    token_found : (b : Bool) → in_range 1 places v ≡ b
        → read_token key places size range times s at ≡ line key places range times at h.value (timed (counts_at b (size h.value)) s x)
    unfolding read_token token_form both
    token_found b w = rw (h.is, in_is ∙ w)

    -- where the place is out of range, the fault is that of the line
    abbrev Strays : Type 0
    Strays =
        (e : Fault) → Err e ≡ unjudged at (at + length key) (timed (any_list number) s x) → Err e ≡ parsed (kept token_line (read_token key places size range times s at))

    strays : in_range 1 places v ≡ false → Strays
    unfolding counts_at
    strays w e k = rw (token_found false w) (line_out key places range times at h.value (in_is ∙ w) (timed (any_list number) s x) e k)

    pub token_low : v ≡ 0 → Strays
    token_low q = strays (within_low 1 places v (omega arith))

    pub token_high : places < v → Strays
    token_high q = strays (within_high 1 places v q)

    pub token_in : (v ≡ 0 → ⊥) → v ≤ places
        → kept (λ c. counted v c.0 c.1) (judged (λ c. every range c.0 && times c.1) (λ c. counts_out range x c.0) at (timed (λ last. list_end number last (size v)) s x))
        ≡ kept token_line (read_token key places size range times s at)
    unfolding counts_at
    token_in n q =
        let same : h.value ≡ v = omega (arith, h.told) in
        let w = within_in 1 places v (positive n) q in
        let counts : ℕ → Read (List ℕ × ℕ) = λ v. timed (λ last. list_end number last (size v)) s x in
        let e : kept token_line (read_token key places size range times s at)
        ≡ kept (λ c. counted h.value c.0 c.1) (judged (λ c. every range c.0 && times c.1) (λ c. counts_out range x c.0) at (counts h.value)) =
        rw (token_found true w) (line_in key places range times at h.value x place_is (in_is ∙ w) (counts h.value)) in
        sym (rw same at e)
      where
        positive : (v ≡ 0 → ⊥) → 1 ≤ v
        positive n = omega (arith, n)
