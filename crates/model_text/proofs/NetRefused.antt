-- With which faults the lines of a transition and of an object net are refused.
use Prim.Native.Nat.{ℕ}
use Rattle.text.specs.Bytes.{Text, bytes}
use Rattle.text.specs.Lines.{in_range}
use Rattle.text.specs.Printed.{list_text}
use Rattle.text.specs.declared.Fault.{Fault}
use Rattle.text.proofs.LinesExactly.{list_exactly}
use Rattle.text.proofs.Refusals.{Refuses, ThenFaults, ManyFaults, made_refuses, then_refuses, many_refuses}
use Rattle.text.proofs.LinesRefused.{ListFaults, NumberThen, list_refuses, number-then}
use Rattle.model.specs.Rules.{byte, list_of, right_sides}
use Rattle.model_text.specs.Reading.{read_sides, read_net}
use Rattle.model_text.specs.Printed.{sides_text}
use Rattle.model_text.proofs.NetExactly.{sides_exactly}

module _ (s : Text) where
  -- the faults of the two lines of a transition
  abbrev pub SidesFaults : ℕ → ℕ → Fault → Type 0
  SidesFaults size =
      ThenFaults s (list_text (bytes "pre=")) (ListFaults s (bytes "pre=") size byte) (list_of size byte) λ p.
      ListFaults s (bytes "post=") size byte

  -- of the lines of an object net
  abbrev pub NetFaults : ℕ → Fault → Type 0
  NetFaults =
      NumberThen s (bytes "inner=") (in_range 1 32) λ size.
      NumberThen s (bytes "steps=") (in_range 0 32) λ n.
      ManyFaults s sides_text (λ i. SidesFaults size) (λ i. right_sides size) 0 n

pub sides_refuses : (size : ℕ) (s : Text) → Refuses (read_sides size s) (SidesFaults s size)
unfolding read_sides
sides_refuses size s =
    then_refuses (list_exactly (bytes "pre=") size byte s) (list_refuses (bytes "pre=") size byte s)
    (λ p. made_refuses (list_refuses (bytes "post=") size byte s) (λ q. record { pre = p; post = q }))

pub net_refuses : (s : Text) → Refuses (read_net s) (NetFaults s)
unfolding read_net
net_refuses s =
    number-then (bytes "inner=") (in_range 1 32) s (λ size.
    number-then (bytes "steps=") (in_range 0 32) s (λ n.
    made_refuses (many_refuses (sides_exactly size s) (sides_refuses size s) n) (λ ts. record { size = size; transitions = ts })))
