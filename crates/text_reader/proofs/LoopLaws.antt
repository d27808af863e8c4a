-- A loop over the reader of a file that reads n things, one after the other, and puts each at its index.
use Prim.Native.Nat.{ℕ, zero, suc, ◌-◌, ◌+◌, ◌≤◌, ◌<◌}
use mathlib.Core.Path.{◌≡◌, refl, sym, ap, subst, fun_ext, ◌∙◌}
use mathlib.Core.List.{List, ◌∷◌}
use native.Mathlib.Nat.{sub-zero}
use Rattle.std.specs.declared.result.Result.TheVariants.{Ok, Err}
use Rattle.std.specs.Prelude.{Result}
use Rattle.text.specs.Bytes.{Text}
use Rattle.text.specs.Lines.{Outcome, got, bad, then, many}
use Rattle.text.specs.Repeat.{many_at, fill, filled}
use Rattle.text.specs.Answers.{kept}
use Rattle.text.specs.declared.Fault.{Fault}
use Rattle.text.proofs.Loops.{turn_at_lem, bad-at, done_at}
use Rattle.text_reader.specs.Place.{Reads}
use Rattle.text_reader.specs.declared.Reader.{Reader}
use Rattle.text_reader.proofs.ReadsLaws.{placed_same, at_got, at_bad, read_of, refused_of}

module _ {A B T : Type 0} (held : A → B) (store : ℕ → B → T → T) where
  -- what is read, put as it is held
  abbrev pub put : ℕ → A → T → T
  put i a t = store i (held a) t

  -- what n things are held as, put from the first on into what was there
  abbrev pub filling : T → List A → T
  filling start l = fill put 0 l start

  -- `filled` is what is kept of the things
  filled_kept : (start : T) (o : Outcome (List A)) → filled put 0 start o ≡ kept (filling start) o
  unfolding filled kept
  filled_kept start (got l next) = refl
  filled_kept start (bad e) = refl

  -- n things, whose reading depends on the index
  module _ (f : Text → ℕ → ℕ → Outcome A) (n : ℕ) (old : Reader) (start : T) where
    -- what is read from the first on is what is read from here on, behind what was put
    pub record Going (i : ℕ) (t : T) (now : Reader) : Type 0 where
      pub same : now.src ≡ old.src
      pub is : filled put 0 start (many_at (f old.src.now) 0 n old.at) ≡ filled put i t (many_at (f old.src.now) i (n - i) now.at)

    pub begins : Going 0 start old
    begins = record { same = refl; is = rw sub-zero refl }

    module _ (i : ℕ) (t : T) (now : Reader) (going : Going i t now) where
      pub ends : n ≤ i → Reads (kept (filling start) (many_at (f old.src.now) 0 n old.at)) old now (Ok t)
      ends h =
          at_got _ t
          (sym (filled_kept start _) ∙ going.is ∙ done_at put (f old.src.now) i n now.at t h)
          going.same

      module _ (below : i < n) (new : Reader) where
        pub stops : (e : Fault) → Reads (kept held (f now.src.now i now.at)) now new (Err e) → Reads (kept (filling start) (many_at (f old.src.now) 0 n old.at)) old new (Err e)
        stops e h =
            let r = refused_of held (f now.src.now i now.at) e h in
            at_bad _ e
            (sym (filled_kept start _) ∙ going.is
            ∙ bad-at put (f old.src.now) i n now.at t below e (subst (λ (x : _). f x.now i now.at ≡ bad e) going.same r.is))
            (r.stands ∙ placed_same now old going.same e.at)

        pub turns : (b : B) (u : T) → Reads (kept held (f now.src.now i now.at)) now new (Ok b) → u ≡ store i b t → Going (i + 1) u new
        turns b u h p =
            let q = read_of held (f now.src.now i now.at) b h in
            record {
              same = ap (λ (x : Reader). x.src) q.moved ∙ going.same;
              is =
                  going.is
                  ∙ turn_at_lem put (f old.src.now) i n now.at t below q.value new.at (subst (λ (x : _). f x.now i now.at ≡ got q.value new.at) going.same q.is)
                  ∙ ap (λ (x : T). filled put (i + 1) x (many_at (f old.src.now) (i + 1) (n - (i + 1)) new.at)) (sym (p ∙ ap (λ (x : B). store i x t) q.held));
            }

-- of things that are read alike
pub many_alike : {A : Type 0} (f : ℕ → Outcome A) (i n at : ℕ) → many_at (λ _. f) i n at ≡ many f n at
unfolding many_at many
many_alike f i zero at = refl
many_alike f i (suc n) at =
    ap (then (f at)) (fun_ext λ a. fun_ext λ next. ap (λ (o : Outcome (List _)). then o (λ l end. got (a ∷ l) end)) (many_alike f (suc i) n next))

module _ {A T : Type 0} {old new : Reader} {r : Result T Fault} where
  -- what is filled is what is held of the list
  pub as_held : (fills hold : List A → T) (o : Outcome (List A)) → ((l : List A) → fills l ≡ hold l) → Reads (kept fills o) old new r → Reads (kept hold o) old new r
  as_held fills hold o is h = subst (λ (k : List A → T). Reads (kept k o) old new r) (fun_ext is) h

  pub of_many : (hold : List A → T) (f : ℕ → Outcome A) (n at : ℕ) → Reads (kept hold (many_at (λ _. f) 0 n at)) old new r → Reads (kept hold (many f n at)) old new r
  of_many hold f n at h = subst (λ (o : Outcome (List A)). Reads (kept hold o) old new r) (many_alike f 0 n at) h
