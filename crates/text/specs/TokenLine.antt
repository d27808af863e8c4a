-- The line `token=place:counts`, which may end in `*n`. How many counts it has depends on the place.
use Rattle.std.specs.Prelude.{ℕ, zero, suc, ◌+◌, List, Bool, true, false, ◌&&◌, leb, eqb, length}
use Rattle.text.specs.Bytes.{Text, lf, colon, star}
use Rattle.text.specs.Number.{Read, missing, found, made, both, either, number, item}
use Rattle.text.specs.Lists.{list_end, any_list}
use Rattle.text.specs.Token.{Token}
use Rattle.text.specs.Printed.{decimal, end_text, place_text}
use Rattle.text.specs.Lines.{Outcome, judged, every, in_range, behind, out_at}

-- the counts behind a place that is in range or not: as many as the place asks for, n. 01: "A token's place out of range is 3 and its list
-- length is then not tested"; its syntax is
unfoldable pub counts_at : Bool → ℕ → ℕ → Text → ℕ → Read (List ℕ)
counts_at true n last s x = list_end number last n s x
counts_at false n last s x = any_list number last s x

-- a number that begins at `at`, if it is more than 1. 02: "`*0` and `*1` are 2": no number goes on behind a 0, but many do behind a 1
unfoldable pub beyond_one : ℕ → Read ℕ → Read ℕ
beyond_one at (missing b) = missing b
beyond_one at (found zero end) = missing at
beyond_one at (found (suc zero) end) = missing end
beyond_one at (found (suc (suc n)) end) = found (suc (suc n)) end

unfoldable pub more_than_one : Text → ℕ → Read ℕ
more_than_one s at = beyond_one at (number s at)

-- over a reader of counts, by the byte that ends them: the counts of one net-token, or of n where `*n` stands behind them
unfoldable pub timed : (ℕ → Text → ℕ → Read (List ℕ)) → Text → ℕ → Read (List ℕ × ℕ)
timed counts s x =
    either (made (λ l. (l, 1)) (counts lf s x)) (both (λ l n. (l, n)) (counts star s x) λ l y. item more_than_one lf s y)

-- what the line says, its numbers of any size
unfoldable pub token_form : Text → ℕ → (ℕ → ℕ) → Text → ℕ → Read Token
token_form key places size s at =
    both (λ p c. record { place = p; counts = c.0; times = c.1 }) (behind key (item number colon) s at) λ p x.
    timed (counts_at (in_range 1 places p) (size p)) s x

-- the place, the counts and n are in range
abbrev pub token_range : ℕ → (ℕ → Bool) → (ℕ → Bool) → Token → Bool
token_range places range times t = in_range 1 places t.place && (every range t.counts && times t.times)

-- where the first number begins that is not, of counts from x on and n behind their star
unfoldable pub counts_out : (ℕ → Bool) → ℕ → List ℕ → ℕ
counts_out range x l = elim (every range l) [ true ↦ x + length (end_text decimal star l) | false ↦ out_at decimal range x l ]

-- of the whole line, which begins at `at`
unfoldable pub token_out : Text → ℕ → (ℕ → Bool) → ℕ → Token → ℕ
token_out key places range at t =
    elim (in_range 1 places t.place) [ true ↦ counts_out range (at + length (place_text key t.place)) t.counts | false ↦ at + length key ]

-- the line of key, a place from 1 to `places`, and `size place` counts in the range; how many net-tokens it stands for is in a range too
unfoldable pub read_token : Text → ℕ → (ℕ → ℕ) → (ℕ → Bool) → (ℕ → Bool) → Text → ℕ → Outcome Token
read_token key places size range times s at =
    judged (token_range places range times) (token_out key places range at) at (token_form key places size s at)

-- what such a line may say, but for its ranges: as many counts as its place asks for; at a place that there is not, any number of them
unfoldable pub sized : Bool → ℕ → List ℕ → Bool
sized true n counts = eqb (length counts) n
sized false n counts = true

-- no line stands for no net-token
abbrev pub token_formed : ℕ → (ℕ → ℕ) → Token → Bool
token_formed places size t = sized (in_range 1 places t.place) (size t.place) t.counts && leb 1 t.times

-- what such a line may say
unfoldable pub right_token : ℕ → (ℕ → ℕ) → (ℕ → Bool) → (ℕ → Bool) → Token → Bool
right_token places size range times t =
    in_range 1 places t.place && (eqb (length t.counts) (size t.place) && (every range t.counts && (leb 1 t.times && times t.times)))
