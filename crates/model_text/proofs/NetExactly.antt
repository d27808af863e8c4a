-- The lines of a transition and of an object net are accepted exactly where they are printed and right.
use Prim.Native.Nat.{ℕ}
use mathlib.Core.Path.{refl, ap, sym}
use mathlib.Core.Bool.{true, ◌&&◌}
use lib.Dec.{eqb}
use lib.ListN.{length}
use Rattle.text.specs.Bytes.{Text, bytes}
use Rattle.text.proofs.Basics.{and_true}
use Rattle.text.specs.Lines.{need, many, in_range, every}
use Rattle.text.specs.Printed.{texts}
use Rattle.text.proofs.TestLaws.{eqb_and, and_eqb}
use Rattle.text.proofs.Exactly.{Exactly, many_exactly}
use Rattle.text.proofs.LinesExactly.{number_exactly, list_exactly}
use Rattle.text.proofs.ChainExactly.{exactly_by, first_makes, last_makes}
use Rattle.eos.specs.Model.{Transition, ObjectNet}
use Rattle.model.specs.Rules.{byte, list_of, right_sides, right_net}
use Rattle.model_text.specs.Reading.{read_sides, read_net}
use Rattle.model_text.specs.Printed.{sides_text, net_text}
use Rattle.text.specs.declared.Cause.TheVariants.{Syntax}

-- the two lines of a transition
pub sides_exactly : (size : ℕ) (s : Text) → Exactly s (read_sides size s) sides_text (right_sides size)
unfolding read_sides sides_text right_sides need
sides_exactly size s =
    exactly_by (first_makes (list_exactly (bytes "pre=") size byte s)
    (λ p. last_makes (list_exactly (bytes "post=") size byte s) (λ q. true) Syntax (λ q. record { pre = p; post = q }) (λ t. t.post) (λ q h. refl))
    (λ t. t.pre) (λ p t h r. ap (λ (t : Transition). t.pre) r.2))
    (λ t h. rw (h.0, h.1.0))
    (λ t h. let q = and_true (list_of size byte t.pre) (list_of size byte t.post) h in (q.0, (q.1, refl, refl)))

-- the lines of n transitions
steps_exactly : (size n : ℕ) (s : Text) → Exactly s (many (read_sides size s) n) (texts sides_text) (λ ts. eqb (length ts) n && every (right_sides size) ts)
steps_exactly size n s = many_exactly s (read_sides size s) sides_text (right_sides size) (sides_exactly size s) n

-- the lines of an object net
pub net_exactly : (s : Text) → Exactly s (read_net s) net_text right_net
unfolding read_net net_text right_net need
net_exactly s =
    exactly_by (first_makes (number_exactly (bytes "inner=") (in_range 1 32) s)
    (λ size. first_makes (number_exactly (bytes "steps=") (in_range 0 32) s)
    (λ k. last_makes (steps_exactly size k s) (λ ts. true) Syntax (λ ts. record { size = size; transitions = ts }) (λ n. n.transitions) (λ ts h. refl))
    (λ n. length n.transitions) (λ k n h r. sym (eqb_and (length n.transitions) k _ r.0).0))
    (λ n. n.size) (λ size n h r. ap (λ (n : ObjectNet). n.size) r.1.2))
    (λ n h. rw (h.0, h.1.0) (eqb_and (length n.transitions) (length n.transitions) _ h.1.1.0).1)
    (λ n h.
    let p = and_true (in_range 1 32 n.size) _ h in
    let q = and_true (in_range 0 32 (length n.transitions)) _ p.1 in
    (p.0, (q.0, (and_eqb (length n.transitions) (length n.transitions) _ refl q.1, refl, refl))))
