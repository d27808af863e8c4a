-- Lines of net-tokens are read exactly where they are printed and right, and those of a start where there is room for them too.
use Prim.Native.Nat.{ℕ, suc, ◌-◌}
use mathlib.Core.Path.{◌≡◌, refl, sym, ap, ◌∙◌}
use mathlib.Core.List.{[]}
use mathlib.Core.Bool.{Bool, true, ◌&&◌}
use native.Mathlib.Omega.{arith}
use lib.Dec.{leb-zero}
use lib.ListN.{length}
use Rattle.text.specs.Bytes.{Text, bytes}
use Rattle.text.proofs.Basics.{and_true}
use Rattle.text.specs.Lines.{need, in_range, every}
use Rattle.text.specs.Token.{Token}
use Rattle.text.specs.TokenLine.{right_token}
use Rattle.text.proofs.TestLaws.{and_both, eqb_and, and_eqb, within-is}
use Rattle.text.proofs.Exactly.{Exactly, many_exactly}
use Rattle.text.proofs.ManyWithin.{Fronts, within_exactly}
use Rattle.text.proofs.LinesExactly.{number_exactly, token_exactly}
use Rattle.text.proofs.ChainExactly.{exactly_by, made_exactly, first_makes, last_makes}
use Rattle.eos.specs.Counted.{Counted, counted, spelt, fits}
use Rattle.eos.specs.Model as eos
use Rattle.eos.proofs.CountedLaws.{spelt_append}
use Rattle.eos.proofs.FiringLaws.{alike, token_order}
use Rattle.eos.proofs.RoomLaws.{fits_front}
use Rattle.model.specs.Limits.{alike_limit}
use Rattle.marking.specs.Held.{Sizes, has_room}
use Rattle.marking.specs.Reading.{Limits, token_line, line_token, read_net_token, read_block, read_start, right_net_token, right_block, right_start}
use Rattle.marking.specs.Printed.{net_token_text, block_text}
use Rattle.text.specs.declared.Cause.TheVariants.{Syntax, Crowded}

line_again : (places : ℕ) (size : ℕ → ℕ) (range times : ℕ → Bool) (t : Token) → right_token places size range times t ≡ true → token_line (line_token t) ≡ t
unfolding right_token
line_again places size range times t h =
    let w = within-is 1 places t.place (and_true (in_range 1 places t.place) _ h).0 in
    let p : suc (t.place - 1) ≡ t.place = omega arith in
    λ i. record { place = p i; counts = t.counts; times = t.times }

token_again : (l : Counted eos.NetToken) → line_token (token_line l) ≡ l
token_again l = let p : suc l.one.place - 1 ≡ l.one.place = omega arith in λ i. counted (record { place = p i; inside = l.one.inside }) l.times

-- ---- the room of a start

pub room_fronts : (room : ℕ) → Fronts (λ ls. has_room room (spelt ls))
room_fronts room l m h =
    fits_front eos.before eos.like token_order alike room alike_limit (spelt l) (spelt m) (ap (has_room room) (sym (spelt_append l m)) ∙ h)

pub room_none : (room : ℕ) → has_room room [] ≡ true
unfolding fits
room_none room = rw (leb-zero room)

module _ (lim : Limits) (z : Sizes) (s : Text) where
  -- one line
  pub net_token_exactly : Exactly s (read_net_token lim z s) net_token_text (right_net_token lim z)
  unfolding read_net_token net_token_text right_net_token need
  net_token_exactly =
      exactly_by
      (last_makes (token_exactly (bytes "token=") z.places z.size lim.counts lim.times s) (λ t. true) Syntax line_token token_line
      (line_again z.places z.size lim.counts lim.times))
      (λ t h. h.0) (λ t h. (h, refl, token_again t))

  -- their number, and a line for each
  pub block_exactly : (key : Text) → Exactly s (read_block key lim z s) (block_text key) (right_block lim z)
  unfolding read_block block_text right_block
  block_exactly key =
      exactly_by
      (first_makes (number_exactly key lim.lines s)
      (λ n. made_exactly (many_exactly s (read_net_token lim z s) net_token_text (right_net_token lim z) net_token_exactly n))
      length (λ n ls h r. sym (eqb_and (length ls) n _ r).0))
      (λ ls h. and_both (lim.lines (length ls)) _ h.0 (eqb_and (length ls) (length ls) _ h.1).1)
      (λ ls h. let p = and_true (lim.lines (length ls)) _ h in (p.0, and_eqb (length ls) (length ls) _ refl p.1))

  -- the same where there is room for them
  pub start_exactly : (room : ℕ) → Exactly s (read_start room lim z s) (block_text (bytes "start=")) (right_start room lim z)
  unfolding read_start block_text right_block
  start_exactly room =
      exactly_by
      (first_makes (number_exactly (bytes "start=") lim.lines s)
      (λ n. made_exactly (within_exactly net_token_exactly (λ ls. has_room room (spelt ls)) Crowded (room_fronts room) (room_none room) n))
      length (λ n ls h r. sym (eqb_and (length ls) n _ r).0))
      (λ ls h.
      let p = eqb_and (length ls) (length ls) _ h.1 in
      let q = and_true (every (right_net_token lim z) ls) (has_room room (spelt ls)) p.1 in
      and_both (lim.lines (length ls) && every (right_net_token lim z) ls) _ (and_both (lim.lines (length ls)) _ h.0 q.0) q.1)
      (λ ls h.
      let p = and_true (lim.lines (length ls) && every (right_net_token lim z) ls) _ h in
      let q = and_true (lim.lines (length ls)) _ p.0 in
      (q.0, and_eqb (length ls) (length ls) _ refl (and_both (every (right_net_token lim z) ls) _ q.1 p.1)))
