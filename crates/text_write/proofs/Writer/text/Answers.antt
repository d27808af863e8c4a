-- `text` meets its contract: what was before the text, the text, and what was behind it.
use Prim.Native.Nat.{ℕ, ◌+◌, ◌-◌, ◌≤◌}
use mathlib.Core.Path.{◌≡◌, refl, sym, ap, ◌∙◌}
use mathlib.Core.List.{List, ◌++◌}
use native.Mathlib.Omega.{arith}
use lib.ListN.{length, take, drop}
use lib.Seq.{sets, sets-eq}
use borrow.Rule.Slice.PartMut.{put_mid, Post-is}
use Rattle.std.proofs.Common.{append_assoc}
use Rattle.text_write.proofs.Writer.text.Goals as goal

copied : (out text part : List ℕ) (at : ℕ) → at + length text ≤ length out → part ≡ text → put_mid at (at + length text - at) out part ≡ sets out at text
copied out text part at fits e =
    rw e (ap (λ (l : List ℕ). take at out ++ (text ++ l)) (Post-is at (at + length text) out (omega arith))
    ∙ sym (append_assoc (take at out) text (drop (at + length text) out)) ∙ sym (sets-eq text out at fits))

pub returns : goal.returns
returns c =
    let a = c.args in
    let w = a.self.now in
    record { place = refl; bytes = copied w.out.now a.text.now _ w.at c.requires c.copy_from_slice.ensures.after; lent = refl }
