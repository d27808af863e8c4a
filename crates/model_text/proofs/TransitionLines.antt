-- The two lines of a transition read one after the other; transitions put in two tables.
use Prim.Native.Nat.{ℕ, suc}
use Rattle.std.specs.Prelude.{Result}
use Rattle.std.specs.declared.result.Result.TheVariants.{Ok, Err}
use mathlib.Core.Path.{◌≡◌, refl}
use mathlib.Core.List.{List, [], ◌∷◌}
use lib.ListN.{set, replicate}
use Rattle.text.specs.Bytes.{Text, bytes}
use Rattle.text.specs.Lines.{Outcome, got, then, read_list}
use Rattle.text.specs.Repeat.{fill}
use Rattle.text.specs.Answers.{kept, padded}
use Rattle.text.specs.declared.Fault.{Fault}
use Rattle.text_reader.specs.Place.{Reads}
use Rattle.text_reader.specs.declared.Reader.{Reader}
use Rattle.text_reader.proofs.ReadsLaws.{first_refused, followed, passes}
use Rattle.eos.specs.Model.{Transition}
use Rattle.model.specs.Rules.{byte}
use Rattle.model.specs.Held.{put_at, no_row, tabled}
use Rattle.model_text.specs.Reading.{read_sides}
use Rattle.model_text.specs.Answers.{hold_sides, hold_tables}
use Rattle.model_text.specs.declared.Sides.{Sides}

-- what comes behind a transition's `pre` line, and behind its `post` line
abbrev make_sides : List ℕ → List ℕ → ℕ → Outcome Transition
make_sides p q x₂ = got (record { pre = p; post = q }) x₂

abbrev behind_pre : ℕ → Text → List ℕ → ℕ → Outcome Transition
behind_pre size s p x₁ = then (read_list (bytes "post=") size byte s x₁) (make_sides p)

-- the rows of a transition laid in both tables
abbrev pub lay_sides : ℕ → Sides (List ℕ) → Sides (List (List ℕ)) → Sides (List (List ℕ))
lay_sides i row t = record { pre = set t.pre i row.pre; post = set t.post i row.post }

abbrev pub no_tables : Sides (List (List ℕ))
no_tables = record { pre = replicate 32 no_row; post = replicate 32 no_row }

both_tables : (i : ℕ) (l : List Transition) (a b : List (List ℕ))
    → fill (λ k t. lay_sides k (hold_sides t)) i l (record { pre = a; post = b }) ≡ record { pre = fill (put_at (λ (t : Transition). padded t.pre)) i l a; post = fill (put_at (λ (t : Transition). padded t.post)) i l b }
unfolding fill
both_tables i [] a b = refl
both_tables i (t ∷ l) a b = both_tables (suc i) l (set a i (padded t.pre)) (set b i (padded t.post))

pub tables_held : (l : List Transition) → fill (λ k t. lay_sides k (hold_sides t)) 0 l no_tables ≡ hold_tables l
unfolding tabled
tables_held l = both_tables 0 l (replicate 32 no_row) (replicate 32 no_row)

-- ---- the two lines read

module _ (size : ℕ) (old : Reader) where
  abbrev both : Outcome Transition
  both = read_sides size old.src.now old.at

  abbrev one : Text → Text → ℕ → Outcome (List ℕ)
  one key s at = read_list key size byte s at

  pub pre_refused : {new : Reader} (e : Fault) → Reads (kept padded (one (bytes "pre=") old.src.now old.at)) old new (Err e) → Reads (kept hold_sides both) old new (Err e)
  unfolding read_sides
  pre_refused e k = first_refused padded hold_sides (one (bytes "pre=") old.src.now old.at) (behind_pre size) e k

  module _ {mid : Reader} (pre : List ℕ) (first : Reads (kept padded (one (bytes "pre=") old.src.now old.at)) old mid (Ok pre)) where
    at_pre : {new : Reader} (r : Result (Sides (List ℕ)) Fault)
        → ((p : List ℕ) → pre ≡ padded p → Reads (kept hold_sides (behind_pre size mid.src.now p mid.at)) mid new r)
        → Reads (kept hold_sides both) old new r
    unfolding read_sides
    at_pre r next = followed padded hold_sides (one (bytes "pre=") old.src.now old.at) (behind_pre size) pre r first (λ p is held. next p held)

    pub post_refused : {new : Reader} (e : Fault) → Reads (kept padded (one (bytes "post=") mid.src.now mid.at)) mid new (Err e) → Reads (kept hold_sides both) old new (Err e)
    post_refused e k = at_pre (Err e) (λ p held. first_refused padded hold_sides (one (bytes "post=") mid.src.now mid.at) (λ _. make_sides p) e k)

    pub sides_read : {new : Reader} (post : List ℕ) → Reads (kept padded (one (bytes "post=") mid.src.now mid.at)) mid new (Ok post)
        → Reads (kept hold_sides both) old new (Ok (record { pre = pre; post = post }))
    sides_read {new} post k =
        at_pre _
        (λ p held. followed padded hold_sides (one (bytes "post=") mid.src.now mid.at) (λ _. make_sides p) post _ k
        (λ q is held'. rw (held, held') (passes hold_sides (make_sides p q new.at) (record { pre = p; post = q }) refl refl)))
