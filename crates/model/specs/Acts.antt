-- How the system net's part of an event is held, as a kind and an index, and what is asked of these. Each question is answered for the
-- theory's `Act`, and of a kind and an index through the act that they stand for. So a further kind of event is a clause more in `act_side`,
-- in `right_act` and `own_net`, in the matches here, and where an event's lines are read and printed.
use Rattle.std.specs.Prelude.{ℕ, zero, suc, pred, Bool, ◌&&◌, List, eqb}
use Rattle.eos.specs.Model.{Act, move, idle, alone}
use Rattle.eos.specs.Firing.{act_side}
use Rattle.model.specs.Rules.{Frame, right_act, own_net}
use Rattle.model.specs.declared.Act as code
use Rattle.model.specs.declared.Act.TheVariants.{Move, Idle, Alone}

-- ---- by cases

-- the kind of an event: 1 for a move, 2 for idling, 3 for `alone`; its index is the move's, the place's or the net's number, from 1
abbrev pub kind_of : Act → ℕ
kind_of (move k) = 1
kind_of (idle p) = 2
kind_of (alone n) = 3

abbrev pub index_of : Act → ℕ
index_of (move k) = suc k
index_of (idle p) = suc p
index_of (alone n) = suc n

-- the act that a kind and an index stand for; those of no act stand for one too, and `held_act` refuses them
abbrev pub act_of : ℕ → ℕ → Act
act_of zero i = move (pred i)
act_of (suc zero) i = move (pred i)
act_of (suc (suc zero)) i = idle (pred i)
act_of (suc (suc (suc k))) i = alone (pred i)

-- the act of the theory that one of the code is
abbrev pub as_act : code.Act → Act
as_act (Move k) = move k
as_act (Idle p) = idle p
as_act (Alone n) = alone n

-- the move of an event, from 1; 0 where it has none
abbrev pub move_of : Act → ℕ
move_of (move k) = suc k
move_of (idle p) = 0
move_of (alone n) = 0

-- the net of `alone`, from 1; 0 of what names its places
abbrev pub alone_of : Act → ℕ
alone_of (move k) = 0
alone_of (idle p) = 0
alone_of (alone n) = suc n

-- ---- of a kind and an index

-- they are those of the act that they stand for
abbrev pub is_act : ℕ → ℕ → Bool
is_act kind index = let a = act_of kind index in eqb (kind_of a) kind && eqb (index_of a) index

-- they are, and it is one of the model's
unfoldable pub held_act : Frame → ℕ → ℕ → Bool
held_act f kind index = let a = act_of kind index in eqb (kind_of a) kind && (eqb (index_of a) index && right_act f a)

-- the net that the event idles in, or whose counts it has alone, from 1; 0 for a move
abbrev pub own_in : (ℕ → ℕ) → ℕ → ℕ → ℕ
own_in type kind index = own_net type (act_of kind index)

abbrev pub move_in : ℕ → ℕ → ℕ
move_in kind index = move_of (act_of kind index)

-- pre(τ̂) or post(τ̂) in 32 numbers, by the row of each move's arcs on that side
abbrev pub outer_in : ℕ → ℕ → (ℕ → List ℕ) → List ℕ
outer_in kind index rows = act_side rows 32 (act_of kind index)
