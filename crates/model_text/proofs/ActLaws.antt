-- The first line of an event: how it is read, and what an act that is read keeps to.
use Prim.Native.Nat.{ℕ, suc, pred, ◌-◌, ◌≤◌}
use mathlib.Core.Path.{◌≡◌, refl}
use borrow.Author.Tests.{le-leb}
use Rattle.std.specs.Prelude.{Result}
use Rattle.std.specs.declared.result.Result.TheVariants.{Ok, Err}
use mathlib.Core.Bool.{Bool, true, false, cond}
use native.Mathlib.Omega.{arith}
use native.Mathlib.Numerals.{sub-one}
use Rattle.text.specs.Bytes.{Text}
use Rattle.text.proofs.TestLaws.{within-is}
use Rattle.text.specs.Lines.{Outcome, got, fault, need, in_range}
use Rattle.text.specs.declared.Keyed.{Keyed}
use Rattle.text.specs.declared.Keyed.TheVariants.{Former, Latter}
use Rattle.text.specs.Answers.{kept}
use Rattle.text.specs.declared.Fault.{Fault}
use Rattle.text.proofs.LineLaws.{need_met, need_unmet}
use Rattle.text_reader.specs.Place.{placed, Reads}
use Rattle.text_reader.specs.declared.Reader.{Reader}
use Rattle.text_reader.proofs.ReadsLaws.{itself, plainly, read_of, first_refused, followed, passes, fails}
use Rattle.text.proofs.Exactly.{then-got, need-got, got-is}
use Rattle.text.specs.declared.Cause.TheVariants.{Idling}
use Rattle.eos.specs.Model.{Act, move, idle, alone}
use Rattle.model.specs.Rules.{Frame}
use Rattle.model.specs.Acts.{index_of}
use Rattle.model.specs.declared.Act as held
use Rattle.model.specs.declared.Act.TheVariants.{Move, Idle, Alone}
use Rattle.model_text.specs.Answers.{hold_act}
use Rattle.model_text.specs.Reading.{idle_most, act_of_line, idles_well, read_act_line, read_act}
use Rattle.model_text.proofs.EventExactly.{act_ranged, act_line}

few : (n k : ℕ) → n ≤ 32 → in_range 1 n k ≡ true → suc (pred k) ≤ 32
few n k most h = let p = within-is 1 n k h in omega (arith, p.0, p.1, sub-one k)

-- what the second key names, by the header
index-latter : (b : Bool) (n : ℕ) → index_of (act_of_line b (Latter n)) ≡ suc (pred n)
index-latter true n = refl
index-latter false n = refl

most-few : (b : Bool) (nets places : ℕ) → nets ≤ 32 → places ≤ 32 → cond b nets places ≤ 32
most-few true nets places n p = n
most-few false nets places n p = p

-- an act that is read is of a place, a net or a move of the frame
module _ (f : Frame) (places : f.places ≤ 32) (moves : f.moves ≤ 32) (nets : f.nets ≤ 8) (s : Text) (at : ℕ) where
  line-few : (a : Keyed) → act_ranged f s a ≡ true → index_of (act_of_line f.alone a) ≤ 32
  line-few (Former k) h = few f.moves k moves h
  line-few (Latter n) h = rw (index-latter f.alone n) (few (idle_most f) n (most-few f.alone f.nets f.places (omega (arith, nets)) places) h)

  pub act-few : (a : Act) (next : ℕ) → read_act f s at ≡ got a next → index_of a ≤ 32
  unfolding read_act
  act-few a next e =
      let p = then-got (read_act_line f s at) _ a next e in
      let q = need-got (idles_well f p.value) Idling at (got (act_of_line f.alone p.value) p.next) a next p.rest in
      rw (← (got-is q.1).0) (line-few p.value ((act_line f s).back at p.value p.next p.first).fine-is)

-- ---- the line read

module _ (f : Frame) (old : Reader) where
  abbrev pub line : Outcome Keyed
  line = read_act_line f old.src.now old.at

  abbrev judge : Keyed → ℕ → Outcome Act
  judge a x = need (idles_well f a) Idling old.at (got (act_of_line f.alone a) x)

  abbrev whole : Outcome Act
  whole = read_act f old.src.now old.at

  pub line_refused : {new : Reader} (e : Fault) → Reads line old new (Err e) → Reads (kept hold_act whole) old new (Err e)
  unfolding read_act
  line_refused e k = first_refused itself hold_act line (λ _. judge) e (plainly k)

  module _ {new : Reader} where
    judged : {last : Reader} (a : Keyed) → Reads line old new (Ok a) → (r : Result held.Act Fault) → Reads (kept hold_act (judge a new.at)) new last r → Reads (kept hold_act whole) old last r
    unfolding read_act
    judged a read r k = followed itself hold_act line (λ _. judge) a r (plainly read) (λ v is same. rw (← same) k)

    -- what is read is in its range
    ranged : (a : Keyed) → Reads line old new (Ok a) → act_ranged f old.src.now a ≡ true
    ranged a read = let q = read_of itself line a (plainly read) in rw q.held ((act_line f old.src.now).back old.at q.value new.at q.is).fine-is

    -- the line of a move
    module _ (k : ℕ) (read : Reads line old new (Ok (Former k))) where
      pub move_in : (1 ≤ k) × (k ≤ f.moves)
      move_in = within-is 1 f.moves k (ranged (Former k) read)

      pub move_read : Reads (kept hold_act whole) old new (Ok (Move (k - 1)))
      move_read = judged (Former k) read _ (rw (sub-one k) (passes hold_act (judge (Former k) new.at) (move (pred k)) (need_met _ _ _ _ refl) refl))

    -- the other line, of one of the nets or of the places of the model
    module _ (n : ℕ) (read : Reads line old new (Ok (Latter n))) where
      pub idle_in : (1 ≤ n) × (n ≤ idle_most f)
      idle_in = within-is 1 (idle_most f) n (ranged (Latter n) read)

      pub alone_read : f.alone ≡ true → Reads (kept hold_act whole) old new (Ok (Alone (n - 1)))
      alone_read b =
          judged (Latter n) read _
          (rw (sub-one n) (passes hold_act (judge (Latter n) new.at) (alone (pred n)) (rw b (need_met _ _ _ _ refl)) refl))

      module _ (b : f.alone ≡ false) where
        pub idle_black : {last : Reader} → last ≡ placed new old.at → f.type (n - 1) ≡ 0 → Reads (kept hold_act whole) old last (Err (fault Idling old.at))
        idle_black back h = judged (Latter n) read _ (fails hold_act _ _ (need_unmet _ _ _ _ (rw (b, ← sub-one n, h) refl)) back)

        pub idle_read : (f.type (n - 1) ≡ 0 → ⊥) → Reads (kept hold_act whole) old new (Ok (Idle (n - 1)))
        idle_read h =
            judged (Latter n) read _
            (rw (sub-one n)
            (passes hold_act (judge (Latter n) new.at) (idle (pred n))
            (rw b (need_met _ _ _ _ (le-leb 1 (f.type (pred n)) (omega (arith, rw (sub-one n) at h))))) refl))
