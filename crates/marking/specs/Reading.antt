-- What a text says of net-tokens: a number of lines, and the lines, each of a net-token and how many of it. The rule's own run and the engine
-- read alike; they differ in the ranges that they ask for.
use Rattle.std.specs.Prelude.{ℕ, suc, ◌-◌, Bool, true, ◌&&◌, [], leb, length}
use Rattle.text.specs.Bytes.{Text, bytes}
use Rattle.text.specs.Lines.{Outcome, got, then, many, many_within, every, read_number}
use Rattle.text.specs.Token.{Token}
use Rattle.text.specs.TokenLine.{read_token, right_token}
use Rattle.text.specs.declared.Cause.TheVariants.{Crowded}
use Rattle.eos.specs.Counted.{Counted, counted, spelt}
use Rattle.eos.specs.Model as eos
use Rattle.model.specs.Limits.{alike_limit}
use Rattle.marking.specs.Held.{Sizes, has_room}

-- the ranges of the number of lines, of a count inside, and of how many net-tokens a line stands for
pub record Limits : Type 0 where
  pub lines : ℕ → Bool
  pub counts : ℕ → Bool
  pub times : ℕ → Bool

abbrev pub limits : ℕ → ℕ → Limits
limits lines counts = record { lines = λ n. leb n lines; counts = λ c. leb c counts; times = λ n. leb n alike_limit }

-- 01: "The rule takes a step's numbers as written, however large"
abbrev pub free : Limits
free = record { lines = λ n. true; counts = λ c. true; times = λ n. true }

-- net-tokens as their line says them, and back
abbrev pub token_line : Counted eos.NetToken → Token
token_line l = record { place = suc l.one.place; counts = l.one.inside; times = l.times }

abbrev pub line_token : Token → Counted eos.NetToken
line_token t = counted (record { place = t.place - 1; inside = t.counts }) t.times

unfoldable pub read_net_token : Limits → Sizes → Text → ℕ → Outcome (Counted eos.NetToken)
read_net_token lim z s at = then (read_token (bytes "token=") z.places z.size lim.counts lim.times s at) λ t x. got (line_token t) x

-- the line of key and a number, and that many lines of net-tokens, in any order
unfoldable pub read_block : Text → Limits → Sizes → Text → ℕ → Outcome eos.Lines
read_block key lim z s at = then (read_number key lim.lines s at) λ n x. many (read_net_token lim z s) n x

-- the same of a marking with its room: the reading ends in 12 at the line whose net-tokens, with those before them, have none (02, K7)
unfoldable pub read_start : ℕ → Limits → Sizes → Text → ℕ → Outcome eos.Lines
read_start room lim z s at =
    then (read_number (bytes "start=") lim.lines s at) λ n x. many_within (λ ls. has_room room (spelt ls)) Crowded (read_net_token lim z s) [] n x

-- what such lines may say
unfoldable pub right_net_token : Limits → Sizes → Counted eos.NetToken → Bool
right_net_token lim z l = right_token z.places z.size lim.counts lim.times (token_line l)

unfoldable pub right_block : Limits → Sizes → eos.Lines → Bool
right_block lim z ls = lim.lines (length ls) && every (right_net_token lim z) ls

abbrev pub right_start : ℕ → Limits → Sizes → eos.Lines → Bool
right_start room lim z ls = right_block lim z ls && has_room room (spelt ls)
