-- Why a step is turned down, over its lines and a marking as they are held: 01's causes 8 to 12, in the table's order.
use Rattle.std.specs.Prelude.{ℕ, zero, suc, ◌+◌, ◌-◌, Bool, cond, List, [], ◌∷◌, ◌++◌, map, leb, eqb, get_or, Result, Ok, Err}
use Rattle.std.proofs.Math.Option.{Option, none, some}
use Rattle.eos.specs.Vector.{◌⊕◌, ◌⊖◌, times, zeros, unit, le_v, eq_v}
use Rattle.eos.specs.Multiset as M
use Rattle.eos.specs.Counted.{total, fits}
use Rattle.eos.specs.Causes.{Refusal, Cause, taking, giving, short, unequal, missing, crowded, unless, at, failing}
use Rattle.model.specs.Limits.{alike_limit}
use Rattle.marking.specs.Tokens.{like, before, all_counted, spelt_out}
use Rattle.marking.specs.declared.NetToken.{NetToken}
use Rattle.marking.specs.declared.Entry.{Entry}
use Rattle.model.specs.Held.{row_at}
use Rattle.step.specs.declared.Rule.{Rule}
use Rattle.step.specs.declared.Refusal as refusal
use Rattle.step.specs.declared.Refusal.TheVariants.{Places, Short, Unequal, Missing, Crowded}

-- Π¹, the outer projection: 32 numbers
unfoldable pub outer_entries : List Entry → List ℕ
outer_entries [] = zeros 32
outer_entries (e ∷ es) = times e.times (unit (e.token.place - 1)) ⊕ outer_entries es

-- the inside of a net-token of net n, nothing of any other
abbrev pub inside_in : List ℕ → ℕ → NetToken → List ℕ
inside_in types n t = cond (eqb (get_or types (t.place - 1) 0) (suc n)) t.counts []

-- Π²_N, the inner projection of net n: 32 numbers
unfoldable pub inner_entries : List ℕ → ℕ → List Entry → List ℕ
inner_entries types n [] = zeros 32
inner_entries types n (e ∷ es) = times e.times (inside_in types n e.token) ⊕ inner_entries types n es

-- the type of the place of each net-token
abbrev pub types_in : List ℕ → List Entry → List ℕ
types_in types es = map (λ t. get_or types (t.place - 1) 0) (spelt_out es)

-- what holds of an event that names its places, and what of one that is `alone`, by its net, from 1, or 0
abbrev pub by_alone : {B : Type 0} → ℕ → B → B → B
by_alone zero named alone = named
by_alone (suc n) named alone = alone

-- the net-tokens taken are on the places that the event asks; of `alone` it is one, of its net
unfoldable pub outer_taken_in : Rule → List Entry → Bool
outer_taken_in q taken = by_alone q.alone (eq_v (outer_entries taken) q.pre.outer) (eq_v (types_in q.types taken) (q.alone ∷ []))

-- the net-tokens given are on the places that the event gives; of `alone` on those of the net-tokens taken
unfoldable pub outer_given_in : Rule → List Entry → List Entry → Bool
outer_given_in q taken given = eq_v (outer_entries given) (by_alone q.alone q.post.outer (outer_entries taken))

-- the net-tokens taken have what the event asks of net n
unfoldable pub inner_taken_in : Rule → List Entry → ℕ → Bool
inner_taken_in q taken n = le_v (row_at q.pre.inner n) (inner_entries q.types n taken)

-- the net-tokens given have what the event leaves and gives of net n
unfoldable pub inner_given_in : Rule → List Entry → List Entry → ℕ → Bool
inner_given_in q taken given n =
    eq_v (inner_entries q.types n given) (inner_entries q.types n taken ⊖ row_at q.pre.inner n ⊕ row_at q.post.inner n)

-- the first line, counted from i on, whose likes, counted so far, exceed the marking's; `seen` are those before
abbrev pub lacking_lines : List NetToken → ℕ → List Entry → List Entry → Option ℕ
lacking_lines held i seen [] = none
lacking_lines held i seen (e ∷ es) =
    cond (leb (total like e.token (all_counted (e ∷ seen))) (M.count like e.token held)) (lacking_lines held (suc i) (e ∷ seen) es) (some i)

-- what is held after a step: without the net-tokens taken, and with those given
abbrev pub left_held : List NetToken → List Entry → List Entry → List NetToken
left_held held taken given = M.less like held (spelt_out taken) ++ spelt_out given

-- the tests of a step in three parts: on the places of the system net (8)
unfoldable pub outer_causes : Rule → List Entry → List Entry → List (Option Cause)
outer_causes q taken given =
    unless (outer_taken_in q taken) taking
    ∷ unless (outer_given_in q taken given) giving
    ∷ []

-- on each object net (9 and 10)
unfoldable pub inner_causes : Rule → List Entry → List Entry → List (Option Cause)
inner_causes q taken given =
    at short (failing q.nets 0 (inner_taken_in q taken))
    ∷ at unequal (failing q.nets 0 (inner_given_in q taken given))
    ∷ []

-- on the marking, with its room: it has the net-tokens taken, and there is room for what is held after the step (11 and 12)
unfoldable pub marking_causes : ℕ → List Entry → List Entry → List NetToken → List (Option Cause)
marking_causes room taken given held =
    at missing (lacking_lines held 0 [] taken)
    ∷ unless (fits before like room alike_limit (left_held held taken given)) crowded
    ∷ []

-- on the lines by themselves
abbrev pub line_causes : Rule → List Entry → List Entry → List (Option Cause)
line_causes q taken given = outer_causes q taken given ++ inner_causes q taken given

-- all tests of a step in their order
unfoldable pub causes_in : ℕ → Rule → List Entry → List Entry → List NetToken → List (Option Cause)
causes_in room q taken given held = line_causes q taken given ++ marking_causes room taken given held

-- a step is turned down by a cause. Nets are numbered from 1, lines from the step's `fire` line: `take` is line 2, its `lines` token lines
-- follow, then `give`
abbrev pub turned_by : ℕ → Cause → refusal.Refusal
turned_by lines taking = Places 2
turned_by lines giving = Places (3 + lines)
turned_by lines (short n) = Short (suc n)
turned_by lines (unequal n) = Unequal (suc n)
turned_by lines (missing i) = Missing (3 + i)
turned_by lines crowded = Crowded (3 + lines)

-- its number in 01's table, and what stands beside it
abbrev pub turned_triple : refusal.Refusal → Refusal
turned_triple (Places line) = record { number = 8; beside = line; column = 0 }
turned_triple (Short net) = record { number = 9; beside = net; column = 0 }
turned_triple (Unequal net) = record { number = 10; beside = net; column = 0 }
turned_triple (Missing line) = record { number = 11; beside = line; column = 0 }
turned_triple (Crowded line) = record { number = 12; beside = line; column = 0 }

abbrev pub cause_triple : ℕ → Cause → Refusal
cause_triple lines c = turned_triple (turned_by lines c)

-- a step fires where it meets no cause, and is turned down by the first that it meets
unfoldable pub verdict_of : ℕ → Option Cause → Result (Unit {0}) refusal.Refusal
verdict_of lines none = Ok tt
verdict_of lines (some c) = Err (turned_by lines c)
