-- The table of 01's starred cases: the definitions give each row its outcome. So they do of the worked cases of 02.
use mathlib.Core.Path.{◌≡◌, refl, ap₂}
use mathlib.Core.List.{List, [], ◌∷◌, ◌++◌, map}
use Rattle.starred.specs.Table.{once_read, checked, step_outcome, counted, check_for, step_on, step_for, outcome_of, Case, listed_weighings, listed_steps, insides, new_racks, full_hall_weighing, spread_cases, leaving_racks, counted_lines, alike_read, alike_given, alike_exchanged, counted_racks, rows}
use Rattle.starred.proofs.Opened.{opened}

-- each of the rows is given its outcome
record Gives (l : List Case) : Type 0 where
  each : map (λ (r : Case). outcome_of r.input) l ≡ map (λ (r : Case). r.outcome) l

gives_more : (l m : List Case) → Gives l → Gives m → Gives (l ++ m)
gives_more [] m p q = q
gives_more (r ∷ l) m p q =
    let e = p.each in
    let first : outcome_of r.input ≡ r.outcome = cc in
    let rest : map (λ (r : Case). outcome_of r.input) l ≡ map (λ (r : Case). r.outcome) l = cc in
    record { each = ap₂ ◌∷◌ first (gives_more l m (record { each = rest }) q).each }

-- the calls, and how the table makes outcomes of them
evaluated : Unit {0}
unfolding opened once_read checked step_outcome counted check_for step_on step_for outcome_of
evaluated = tt

weighings_give : Gives listed_weighings
unfolding evaluated
weighings_give = record { each = refl }

steps_give : Gives listed_steps
unfolding evaluated
steps_give = record { each = refl }

insides_give : Gives insides
unfolding evaluated
insides_give = record { each = refl }

racks_give : Gives new_racks
unfolding evaluated
racks_give = record { each = refl }

hall_gives : Gives full_hall_weighing
unfolding evaluated
hall_gives = record { each = refl }

spreads_give : Gives spread_cases
unfolding evaluated
spreads_give = record { each = refl }

-- the definitions give each row of the table its outcome
pub table : map (λ (r : Case). outcome_of r.input) rows ≡ map (λ (r : Case). r.outcome) rows
table =
    (gives_more listed_weighings _ weighings_give
    (gives_more listed_steps _ steps_give (gives_more insides _ insides_give (gives_more new_racks _ racks_give (gives_more full_hall_weighing _ hall_gives spreads_give))))
    ).each

leaving_gives : Gives leaving_racks
unfolding evaluated
leaving_gives = record { each = refl }

-- a rack that is emptied leaves, and one with a token more does not
pub leaving-cases : map (λ (r : Case). outcome_of r.input) leaving_racks ≡ map (λ (r : Case). r.outcome) leaving_racks
leaving-cases = leaving_gives.each

-- ---- counted net-tokens

lines_give : Gives counted_lines
unfolding evaluated
lines_give = record { each = refl }

read_gives : Gives alike_read
unfolding evaluated
read_gives = record { each = refl }

given_gives : Gives alike_given
unfolding evaluated
given_gives = record { each = refl }

exchanged_gives : Gives alike_exchanged
unfolding evaluated
exchanged_gives = record { each = refl }

-- 02, K7, row by row
pub counted-cases : map (λ (r : Case). outcome_of r.input) counted_racks ≡ map (λ (r : Case). r.outcome) counted_racks
counted-cases =
    (gives_more counted_lines _ lines_give (gives_more alike_read _ read_gives (gives_more alike_given _ given_gives exchanged_gives))).each
