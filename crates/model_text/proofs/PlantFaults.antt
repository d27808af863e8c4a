-- The lines of a model are refused with 2, 3 or 5 alone.
use Prim.Native.Nat.{ℕ}
use lib.Dec.{leb}
use Rattle.text.specs.Bytes.{Text, bytes}
use Rattle.text.specs.Number.{number}
use Rattle.text.specs.Printed.{decimal}
use Rattle.text.specs.Lines.{many, in_range, read_number, read_list, read_heads}
use Rattle.text.specs.Repeat.{many_at}
use Rattle.text.proofs.FaultLaws.{Faults, then_faults, need_faults, many_faults, many_at_faults, heads_faults, number_faults, row_faults, keyed_faults}
use Rattle.model.specs.Rules.{byte, Frame, frame_of, own_net, takes_part}
use Rattle.model_text.specs.Reading.{read_sides, read_net, idle_key, idle_most, idles_well, read_act_line, read_act, read_sync, read_event, eventless, read_plant}
use Rattle.text.specs.declared.Cause.TheVariants.{Idling}

module _ (P : ℕ → Type 0) (two : P 2) (three : P 3) (five : P 5) (s : Text) where
  sides_faults : (size at : ℕ) → Faults P (read_sides size s at)
  unfolding read_sides
  sides_faults size at =
      then_faults P (read_list (bytes "pre=") size byte s at) _ (row_faults P two three number decimal (bytes "pre=") size byte s at)
      (λ p x₁.
      then_faults P (read_list (bytes "post=") size byte s x₁) _ (row_faults P two three number decimal (bytes "post=") size byte s x₁)
      (λ q x₂. tt))

  net_faults : (at : ℕ) → Faults P (read_net s at)
  unfolding read_net
  net_faults at =
      then_faults P (read_number (bytes "inner=") (in_range 1 32) s at) _ (number_faults P two three (bytes "inner=") (in_range 1 32) s at)
      (λ size x₁.
      then_faults P (read_number (bytes "steps=") (in_range 0 32) s x₁) _ (number_faults P two three (bytes "steps=") (in_range 0 32) s x₁)
      (λ n x₂.
      then_faults P (many (read_sides size s) n x₂) _ (many_faults P (read_sides size s) (sides_faults size) n x₂) (λ ts x₃. tt)))

  module _ (f : Frame) where
    act_faults : (at : ℕ) → Faults P (read_act f s at)
    unfolding read_act
    act_faults at =
        then_faults P (read_act_line f s at) _
        (keyed_faults P two three (bytes "event=") (idle_key f.alone) (in_range 1 f.moves) (in_range 1 (idle_most f)) s at)
        (λ a x. need_faults P (idles_well f a) Idling at _ five tt)

    sync_faults : (own n at : ℕ) → Faults P (read_sync f own s n at)
    unfolding read_sync
    sync_faults own n at =
        then_faults P (read_list (bytes "sync=") (f.steps n) byte s at) _ (row_faults P two three number decimal (bytes "sync=") (f.steps n) byte s at)
        (λ v x. need_faults P (takes_part own n v) Idling at _ five tt)

    event_faults : (at : ℕ) → Faults P (read_event f s at)
    unfolding read_event
    event_faults at =
        then_faults P (read_act f s at) _ (act_faults at)
        (λ a x₁.
        let own = own_net f.type a in
        then_faults P (many_at (read_sync f own s) 0 f.nets x₁) _ (many_at_faults P (read_sync f own s) (sync_faults own) 0 f.nets x₁) (λ v x₂. tt))

  pub plant_faults : (at : ℕ) → Faults P (read_plant s at)
  unfolding read_plant
  plant_faults at =
      let line = number_faults P two three in
      then_faults P (read_heads (bytes "eos=1\n") (bytes "eos=2\n") s at) _ (heads_faults P two (bytes "eos=1\n") (bytes "eos=2\n") s at)
      (λ h x₁. then_faults P (read_number (bytes "nets=") (in_range 0 8) s x₁) _ (line (bytes "nets=") (in_range 0 8) s x₁)
      (λ n x₂. then_faults P (read_number (bytes "places=") (in_range 1 32) s x₂) _ (line (bytes "places=") (in_range 1 32) s x₂)
      (λ p x₃. then_faults P (read_list (bytes "type=") p (λ d. leb d n) s x₃) _ (row_faults P two three number decimal (bytes "type=") p (λ d. leb d n) s x₃)
      (λ types x₄. then_faults P (read_number (bytes "moves=") (in_range 0 32) s x₄) _ (line (bytes "moves=") (in_range 0 32) s x₄)
      (λ k x₅.
      then_faults P (many (read_sides p s) k x₅) _ (many_faults P (read_sides p s) (sides_faults p) k x₅)
      (λ moves x₆. then_faults P (many (read_net s) n x₆) _ (many_faults P (read_net s) net_faults n x₆)
      (λ nets x₇. then_faults P (read_number (bytes "events=") (in_range 0 64) s x₇) _ (line (bytes "events=") (in_range 0 64) s x₇)
      (λ e x₈.
      let f = frame_of (eventless h types moves nets) in
      then_faults P (many (read_event f s) e x₈) _ (many_faults P (read_event f s) (event_faults f) e x₈) (λ events x₉. tt)))))))))
