-- What a model's text says, up to its `start` line.
use Rattle.std.specs.Prelude.{ℕ, pred, Bool, true, false, cond, List, [], leb}
use Rattle.text.specs.Bytes.{Text, bytes}
use Rattle.text.specs.Lines.{Outcome, got, then, need, many, in_range, read_number, read_list, read_heads}
use Rattle.text.specs.Keyed.{read_keyed}
use Rattle.text.specs.Repeat.{many_at}
use Rattle.text.specs.declared.Keyed.{Keyed}
use Rattle.text.specs.declared.Keyed.TheVariants.{Former, Latter}
use Rattle.eos.specs.Model.{Transition, ObjectNet, Act, move, idle, alone, Event}
use Rattle.model.specs.Rules.{byte, Plant, under, Frame, frame_of, own_net, takes_part}
use Rattle.text.specs.declared.Cause.TheVariants.{Idling}

-- the lines `pre` and `post` of a transition between `size` places
unfoldable pub read_sides : ℕ → Text → ℕ → Outcome Transition
read_sides size s at =
    then (read_list (bytes "pre=") size byte s at) λ p x₁.
    then (read_list (bytes "post=") size byte s x₁) λ q x₂. got (record { pre = p; post = q }) x₂

unfoldable pub read_net : Text → ℕ → Outcome ObjectNet
read_net s at =
    then (read_number (bytes "inner=") (in_range 1 32) s at) λ size x₁.
    then (read_number (bytes "steps=") (in_range 0 32) s x₁) λ n x₂.
    then (many (read_sides size s) n x₂) λ ts x₃. got (record { size = size; transitions = ts }) x₃

-- the key of the first line of an event that is no move: under header 2 `alone=` and a net, else `idle=` and a place
abbrev pub idle_key : Bool → Text
idle_key true = bytes "alone="
idle_key false = bytes "idle="

-- and how many there are of these
abbrev pub idle_most : Frame → ℕ
idle_most f = cond f.alone f.nets f.places

-- the first line of an event, of a move in range, or of a net or a place in range
abbrev pub read_act_line : Frame → Text → ℕ → Outcome Keyed
read_act_line f = read_keyed (bytes "event=") (idle_key f.alone) (in_range 1 f.moves) (in_range 1 (idle_most f))

-- what it says; moves, nets and places are numbered from 1 there
abbrev pub act_of_line : Bool → Keyed → Act
act_of_line b (Former k) = move (pred k)
act_of_line b (Latter n) = cond b (alone (pred n)) (idle (pred n))

-- no event idles at a place of black tokens
abbrev pub idles_well : Frame → Keyed → Bool
idles_well f (Former k) = true
idles_well f (Latter n) = cond f.alone true (leb 1 (f.type (pred n)))

-- 5 where the event idles at a place of black tokens
unfoldable pub read_act : Frame → Text → ℕ → Outcome Act
read_act f s at = then (read_act_line f s at) λ a x. need (idles_well f a) Idling at (got (act_of_line f.alone a) x)

-- the counts of net n; 5 where the idling net does not take part, or another does
unfoldable pub read_sync : Frame → ℕ → Text → ℕ → ℕ → Outcome (List ℕ)
read_sync f own s n at = then (read_list (bytes "sync=") (f.steps n) byte s at) λ v x. need (takes_part own n v) Idling at (got v x)

unfoldable pub read_event : Frame → Text → ℕ → Outcome Event
read_event f s at =
    then (read_act f s at) λ a x₁.
    then (many_at (read_sync f (own_net f.type a) s) 0 f.nets x₁) λ v x₂. got (record { act = a; sync = v }) x₂

-- a model of its parts, with its header
abbrev pub plant : ℕ → List ℕ → List Transition → List ObjectNet → List Event → Plant
plant header types moves nets events = under header (record { types = types; moves = moves; nets = nets; events = events })

-- one that has no events yet
abbrev pub eventless : ℕ → List ℕ → List Transition → List ObjectNet → Plant
eventless header types moves nets = plant header types moves nets []

-- the lines from `eos` to the last event; `eos=1` and `eos=2` are the two headers
unfoldable pub read_plant : Text → ℕ → Outcome Plant
read_plant s at =
    then (read_heads (bytes "eos=1\n") (bytes "eos=2\n") s at) λ h x₁.
    then (read_number (bytes "nets=") (in_range 0 8) s x₁) λ n x₂.
    then (read_number (bytes "places=") (in_range 1 32) s x₂) λ p x₃.
    then (read_list (bytes "type=") p (λ d. leb d n) s x₃) λ types x₄.
    then (read_number (bytes "moves=") (in_range 0 32) s x₄) λ k x₅.
    then (many (read_sides p s) k x₅) λ moves x₆.
    then (many (read_net s) n x₆) λ nets x₇.
    then (read_number (bytes "events=") (in_range 0 64) s x₇) λ e x₈.
    then (many (read_event (frame_of (eventless h types moves nets)) s) e x₈) λ events x₉.
    got (plant h types moves nets events) x₉
