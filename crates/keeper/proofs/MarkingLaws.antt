-- What a held marking's net-tokens hold.
use Prim.Native.Nat.{ℕ, ◌≤◌}
use mathlib.Core.Path.{◌≡◌, ap, ◌∙◌}
use mathlib.Core.Bool.{true}
use mathlib.Core.List.{List, [], ◌∷◌}
use native.Mathlib.Omega.{arith}
use lib.Dec.{leb}
use lib.ListN.{take, drop}
use Rattle.text.proofs.Basics.{and_true}
use Rattle.text.proofs.PaddedLaws.{at-padded}
use Rattle.text.proofs.TestLaws.{within-is}
use Rattle.text.specs.Answers.{padded}
use Rattle.text.specs.Lines.{in_range, every}
use Rattle.eos.proofs.Basics.{true_is}
use Rattle.eos.proofs.VectorLaws.{eq_v_eq}
use Rattle.model.specs.Limits.{room_limit}
use Rattle.model.specs.Rules.{nth}
use Rattle.marking.specs.Tokens.{unused, entries_in, OnPlaces, ascending}
use Rattle.marking.specs.Held.{Sizes, held_token, held_entry, held_entries, held_marking}
use Rattle.marking.specs.declared.NetToken.{NetToken}
use Rattle.marking.specs.declared.Entry.{Entry}
use Rattle.marking.specs.declared.Marking.{Marking}

-- ---- a held net-token
module _ (z : Sizes) (t : NetToken) (held : held_token z t ≡ true) where
  -- its place is one of the model's
  pub place_in : (1 ≤ t.place) × (t.place ≤ z.places)
  unfolding held_token
  place_in = within-is 1 z.places t.place (and_true (in_range 1 z.places t.place) _ held).0

  -- its counts are those of the place, then 0
  pub counts_are : t.counts ≡ padded (take (z.size t.place) t.counts)
  unfolding held_token
  counts_are = eq_v_eq t.counts _ (true_is (and_true (in_range 1 z.places t.place) _ held).1)

  -- of a place without counts they are 0
  pub counts-none : z.size t.place ≡ 0 → (c : ℕ) → nth t.counts c ≡ 0
  counts-none e c =
      ap (λ (l : List ℕ). nth l c) counts_are ∙ ap (λ (n : ℕ). nth (padded (take n t.counts)) c) e ∙ at-padded [] (omega arith) c

-- each has a place
pub on_places : (z : Sizes) → z.places ≤ 32 → (es : List Entry) → every (held_entry z) es ≡ true → OnPlaces es
on_places z few [] h = tt
on_places z few (e ∷ es) h =
    let a = and_true (held_entry z e) _ h in
    let p = place_in z e.token (and_true (held_token z e.token) _ a.0).0 in
    (p.0, omega (arith, p.1), on_places z few es a.1)

-- each entry of a held marking is held, by the test
pub entries_right : (z : Sizes) (k : Marking) → held_marking room_limit z k ≡ true → every (held_entry z) (entries_in k) ≡ true
unfolding held_entries
entries_right z k held =
    let a = (and_true (leb k.len room_limit) _ held).1 in
    let b = (and_true (ascending (entries_in k)) _ a).1 in
    (and_true (every unused (drop k.len k.entries)) _ b).1
