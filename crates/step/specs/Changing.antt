-- A marking changed by a step's lines: the net-tokens taken are gone before the given come (02, K7), and where it lacks some of the taken, or
-- there is no room for what is left, nothing changes.
use Rattle.std.specs.Prelude.{ℕ, suc, ◌+◌, ◌≤◌, ◌<◌, ◌≡◌, Bool, false, List, ◌++◌, leb, length, take, get_or, Result, Ok, Err}
use Rattle.std.proofs.Math.Option.{Option, none, some}
use Rattle.eos.specs.Multiset as M
use Rattle.eos.specs.Counted.{total, fits}
use Rattle.eos.specs.Causes.{Cause, first}
use Rattle.model.specs.Limits.{alike_limit}
use Rattle.marking.specs.Tokens.{like, before, no_entry, all_counted, spelt_out, tokens_in, held_by, Kept}
use Rattle.marking.specs.declared.NetToken.{NetToken}
use Rattle.marking.specs.declared.Entry.{Entry}
use Rattle.marking.specs.declared.Marking.{Marking}
use Rattle.step.specs.declared.Refusal.{Refusal}
use Rattle.step.specs.Verdict.{marking_causes, left_held, turned_by}

pub record Changed : Type 0 where
  pub answer : Result (Unit {0}) Refusal
  pub marking : Marking

-- by the first cause that the change of k into what holds ts meets, on a step that takes so many lines
unfoldable pub changed_or : ℕ → Marking → List NetToken → Option Cause → Changed
changed_or lines k ts none = record { answer = Ok tt; marking = held_by ts }
changed_or lines k ts (some c) = record { answer = Err (turned_by lines c); marking = k }

unfoldable pub changing : ℕ → Marking → List Entry → List Entry → Changed
changing room k taken given =
    changed_or (length taken) k (left_held (tokens_in k) taken given) (first (marking_causes room taken given (tokens_in k)))

-- ---- what the parts of the code answer

-- line i and those before it take no more of its likes than μ has
unfoldable pub covered : List NetToken → List Entry → ℕ → Bool
covered μ lines i = leb (total like (get_or lines i no_entry).token (all_counted (take (suc i) lines))) (M.count like (get_or lines i no_entry).token μ)

-- the first lines, so many of them, taken from μ: they were there, and of the next there are too few
pub record Took (μ : List NetToken) (lines : List Entry) (done : ℕ) (k : Marking) : Type 0 where
  pub few : done ≤ length lines
  pub kept : Kept k
  pub counts : (x : NetToken) → M.count like x (tokens_in k) + total like x (all_counted (take done lines)) ≡ M.count like x μ
  pub stop : done < length lines → covered μ lines done ≡ false

-- the first lines given into μ: for the next there is no room
pub record Gave (room : ℕ) (μ : List NetToken) (lines : List Entry) (done : ℕ) (k : Marking) : Type 0 where
  pub few : done ≤ length lines
  pub within : k.len ≤ room
  pub kept : Kept k
  pub counts : (x : NetToken) → M.count like x (tokens_in k) ≡ M.count like x μ + total like x (all_counted (take done lines))
  pub stop : done < length lines → fits before like room alike_limit (μ ++ spelt_out (take (suc done) lines)) ≡ false
