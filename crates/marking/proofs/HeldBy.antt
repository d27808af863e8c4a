-- Net-tokens that are held are counted as those that they stand for are: they make the same entries, and there is room for the ones where there
-- is for the others.
use Prim.Native.Nat.{ℕ}
use mathlib.Core.Path.{◌≡◌, refl, sym, ap, ◌∙◌}
use mathlib.Core.Bool.{Bool, ◌&&◌}
use mathlib.Core.List.{List, [], ◌∷◌, map}
use lib.Dec.{leb}
use lib.ListN.{length-map}
use Rattle.eos.specs.Counted.{Counted, counted, spelt, up_to, grouped, tally, fits}
use Rattle.eos.specs.Model as eos
use Rattle.eos.proofs.CountedLaws.{Each, rewritten_grouped, spelt_map}
use Rattle.model.specs.Limits.{alike_limit}
use Rattle.marking.specs.Tokens.{like, before, as_entry, all_counted, spelt_out, holding, held_by}
use Rattle.marking.specs.declared.NetToken.{NetToken}
use Rattle.marking.specs.declared.Entry.{Entry}
use Rattle.marking.specs.Held.{Sizes, hold_token, hold_line, hold_marking, has_room}
use Rattle.marking.proofs.HeldOrder.{Fitting, All, none, more, all_canonical, map-canonical}
use Rattle.marking.proofs.CountLaws.{like-held}

-- counted net-tokens, each as it is held
abbrev pub held_ones : eos.Lines → List (Counted NetToken)
held_ones ls = map (λ l. counted (hold_token l.one) l.times) ls

pub held_lines : (ls : eos.Lines) → map as_entry (held_ones ls) ≡ map hold_line ls
held_lines [] = refl
held_lines (l ∷ ls) = ap (λ (k : List Entry). hold_line l ∷ k) (held_lines ls)

pub lines_held : (ls : eos.Lines) → all_counted (map hold_line ls) ≡ held_ones ls
lines_held [] = refl
lines_held (l ∷ ls) = ap (λ (k : List (Counted NetToken)). counted (hold_token l.one) l.times ∷ k) (lines_held ls)

-- what the entries spell is what is held of what the lines spell
pub spelt_held : (ls : eos.Lines) → spelt_out (map hold_line ls) ≡ map hold_token (spelt ls)
spelt_held ls = ap spelt (lines_held ls) ∙ spelt_map hold_token ls

up_to_held : (n : ℕ) (ls : eos.Lines) → up_to n (held_ones ls) ≡ up_to n ls
up_to_held n [] = refl
up_to_held n (l ∷ ls) = ap (λ (b : Bool). leb l.times n && b) (up_to_held n ls)

module _ (z : Sizes) where
  each_fits : (μ : eos.Marking) → All z μ → Each eos.like like hold_token (Fitting z) (like-held z) μ
  each_fits [] none = tt
  each_fits (t ∷ μ) (more f a) = (f, each_fits μ a)

  grouped_held : (μ : eos.Marking) → All z μ → held_ones (grouped eos.like μ) ≡ grouped like (map hold_token μ)
  grouped_held μ a = rewritten_grouped eos.like like hold_token (Fitting z) (like-held z) μ (each_fits μ a)

  -- the entries of what is held are those held
  pub tally_held : (μ : eos.Marking) → All z μ → tally before like (map hold_token μ) ≡ held_ones (eos.entries μ)
  tally_held μ a =
      ap (grouped like) (sym (map-canonical z μ a)) ∙ sym (grouped_held (eos.canonical μ) (all_canonical z μ a))

  pub held_by_is : (μ : eos.Marking) → All z μ → held_by (map hold_token μ) ≡ hold_marking (eos.canonical μ)
  unfolding held_by hold_marking
  held_by_is μ a = ap (λ (cs : List (Counted NetToken)). holding (map as_entry cs)) (tally_held μ a) ∙ ap holding (held_lines (eos.entries μ))

  pub fits_held : (room : ℕ) (μ : eos.Marking) → All z μ → fits before like room alike_limit (map hold_token μ) ≡ has_room room μ
  unfolding fits
  fits_held room μ a =
      let e = tally_held μ a in
      rw (e, length-map (eos.entries μ) (λ l. counted (hold_token l.one) l.times), up_to_held alike_limit (eos.entries μ))
