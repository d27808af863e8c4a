-- The array of a marking has its room, each entry 32 counts, and in it numbers of 16 bits: from what owning a marking tells, and of what is held
-- of right net-tokens.
use Prim.Native.Nat.{ℕ, zero, suc, ◌-◌, ◌≤◌}
use mathlib.Core.Path.{◌≡◌, refl, ap}
use mathlib.Core.Bool.{Bool, true}
use mathlib.Core.List.{List, [], ◌∷◌, ◌++◌, map}
use native.Mathlib.Omega.{arith}
use lib.Dec.{leb, eqb}
use lib.ListN.{length, replicate, length-map}
use borrow.Author.Tests.{le-leb, leb-true, eq-eqb}
use mir.Val.{Val}
use mir.Syntax.{w16}
use denote.Laws.{Is}
use denote.Shadow.{shadow}
use denote.Plain.{UInt}
use denote.Array.{each}
use Rattle.text.specs.Lines.{every}
use Rattle.text.proofs.Basics.{and_true}
use Rattle.text.proofs.TestLaws.{and_both}
use Rattle.text.specs.Answers.{padded}
use Rattle.text.proofs.PaddedLaws.{padded-is, length-padded}
use Rattle.eos.specs.Counted.{grouped}
use Rattle.eos.specs.Model as eos
use Rattle.model.specs.Limits.{count_limit, alike_limit, room_limit}
use Rattle.marking.specs.Tokens.{row, no_entry, laid}
use Rattle.marking.specs.declared.NetToken.{NetToken}
use Rattle.marking.specs.declared.Entry.{Entry}
use Rattle.marking.specs.Held.{Sizes, Roomy, hold_token, hold_line, hold_marking, SizedMarking}
use Rattle.marking.specs.Reading.{limits, right_net_token, right_block}
use Rattle.marking.specs.declared.Marking.{Marking}
use Rattle.marking.specs.contracts.NetToken as token
use Rattle.marking.specs.contracts.Entry as entry
use Rattle.marking.specs.contracts.Marking as marking
use Rattle.marking.proofs.KeptLaws.{laid_long}
use Rattle.marking.proofs.HoldMarking.{Right, right_is, fitting, Held}

-- a number of 16 bits, and an entry of such
abbrev Small : ℕ → Bool
Small v = leb v count_limit

abbrev SmallEntry : Entry → Bool
SmallEntry e = every Small (row e.token)

abbrev FewEntry : Entry → Bool
FewEntry e = leb e.times alike_limit

-- an entry of 32 counts
abbrev Wide : Entry → Bool
Wide e = eqb (length e.token.counts) 32

-- ---- what owning a marking tells

each-small : (l : List ℕ) (us : List Val) → shadow (each ℕ (UInt w16).own_val l us) → every Small l ≡ true
each-small [] us s = refl
each-small (v ∷ l) [] s = absurd s
each-small (v ∷ l) (u ∷ us) s = and_both (Small v) _ (le-leb v count_limit (omega (arith, s.0.1))) (each-small l us s.1)

token_small : (t : NetToken) (vs : List Val) → Is token.the_row t vs → every Small (row t) ≡ true
token_small t vs p = and_both (Small t.place) _ (le-leb t.place count_limit (omega (arith, p.1.1.0.1))) (each-small t.counts _ p.1.1.1.0.1.1)

token_wide : (t : NetToken) (vs : List Val) → Is token.the_row t vs → eqb (length t.counts) 32 ≡ true
token_wide t vs p = eq-eqb (length t.counts) 32 p.1.1.1.0.1.0.1

each_entry : (f : Entry → Bool) → ((e : Entry) (vs : List Val) → Is entry.the_row e vs → f e ≡ true) → (l : List Entry) (us : List Val)
    → shadow (each (entry.the_row).Denot (entry.the_row).own_val l us) → every f l ≡ true
each_entry f one [] us s = refl
each_entry f one (e ∷ l) [] s = absurd s
each_entry f one (e ∷ l) (u ∷ us) s = and_both (f e) _ (one e (u ∷ []) s.0) (each_entry f one l us s.1)

pub marking_sized : (k : Marking) (vs : List Val) → Is marking.the_row k vs → SizedMarking k
marking_sized k vs p =
    let a = p.1.1.1.0 in
    record {
      long = a.1.0.1;
      wide = each_entry Wide (λ e us q. token_wide e.token _ q.1.1.0) k.entries _ a.1.1;
      small = each_entry SmallEntry (λ e us q. token_small e.token _ q.1.1.0) k.entries _ a.1.1;
      few = each_entry FewEntry (λ e us q. le-leb e.times alike_limit (omega (arith, q.1.1.1.0.1))) k.entries _ a.1.1;
    }

-- ---- what is held of right net-tokens

module _ {A : Type 0} (f : A → Bool) where
  every_append : (l k : List A) → every f l ≡ true → every f k ≡ true → every f (l ++ k) ≡ true
  every_append [] k p q = q
  every_append (v ∷ l) k p q = let a = and_true (f v) _ p in and_both (f v) _ a.0 (every_append l k a.1 q)

  every_same : (a : A) → f a ≡ true → (n : ℕ) → every f (replicate n a) ≡ true
  every_same a h zero = refl
  every_same a h (suc n) = and_both (f a) _ h (every_same a h n)

-- entries, and the room behind them
laid_each : (f : Entry → Bool) → f no_entry ≡ true → (es : List Entry) → every f es ≡ true → every f (laid es) ≡ true
laid_each f h es p = every_append f es (replicate (room_limit - length es) no_entry) p (every_same f no_entry h (room_limit - length es))

lines_wide : (ls : eos.Lines) → every Wide (map hold_line ls) ≡ true
lines_wide [] = refl
lines_wide (l ∷ ls) = and_both (Wide (hold_line l)) _ (eq-eqb (length (padded l.one.inside)) 32 (length-padded l.one.inside)) (lines_wide ls)

module _ (z : Sizes) (roomy : Roomy z) (places : z.places ≤ count_limit) where
  held_small : (t : eos.NetToken) → Right Small z t → every Small (row (hold_token t)) ≡ true
  held_small t r =
      let f = fitting Small z t roomy r in
      and_both (Small (suc t.place)) _ (le-leb (suc t.place) count_limit (omega (arith, r.place)))
      (rw (padded-is t.inside f.room) (every_append Small t.inside (replicate (32 - length t.inside) 0) r.counts (every_same Small 0 refl (32 - length t.inside))))

  lines_small : (ls : eos.Lines) → every (right_net_token (limits 256 65535) z) ls ≡ true → every SmallEntry (map hold_line ls) ≡ true
  lines_small [] h = refl
  lines_small (l ∷ ls) h =
      let p = and_true (right_net_token (limits 256 65535) z l) _ h in
      and_both (SmallEntry (hold_line l)) _ (held_small l.one (right_is (limits 256 65535) z l p.0).token) (lines_small ls p.1)

  lines_few : (ls : eos.Lines) → every (right_net_token (limits 256 65535) z) ls ≡ true → every FewEntry (map hold_line ls) ≡ true
  lines_few [] h = refl
  lines_few (l ∷ ls) h =
      let p = and_true (right_net_token (limits 256 65535) z l) _ h in
      and_both (FewEntry (hold_line l)) _ (right_is (limits 256 65535) z l p.0).times (lines_few ls p.1)

  pub hold_sized : (μ : eos.Marking) → Held z μ → SizedMarking (hold_marking μ)
  unfolding hold_marking right_block
  hold_sized μ h =
      let same : eos.entries μ ≡ grouped eos.like μ = ap (grouped eos.like) h.ordered in
      let ls = grouped eos.like μ in
      let p = and_true (leb (length ls) 256) _ (rw same at h.right) in
      record {
        long = laid_long (map hold_line ls) (omega (arith, length-map ls hold_line, leb-true (length ls) 256 p.0));
        wide = laid_each Wide refl (map hold_line ls) (lines_wide ls);
        small = laid_each SmallEntry refl (map hold_line ls) (lines_small ls p.1);
        few = laid_each FewEntry refl (map hold_line ls) (lines_few ls p.1);
      }
