-- What the end of a token's line says, by the position behind its counts.
use Rattle.std.specs.Prelude.{ℕ, [], ◌∷◌, Result}
use Rattle.std.specs.declared.result.Result.TheVariants.{Ok, Err}
use Rattle.text.specs.Bytes.{Text, lf, star}
use Rattle.text.specs.Number.{Read, found, made, either, literal, ended, item}
use Rattle.text.specs.Capped.{passed}
use Rattle.text.specs.Lines.{behind}
use Rattle.text.specs.TokenLine.{more_than_one}

-- how many net-tokens a line stands for whose counts end at x: one where LF stands there, n where `*n` does
unfoldable pub times_at : Text → ℕ → Read ℕ
times_at s x = either (made (λ v. 1) (literal (lf ∷ []) s x)) (behind (star ∷ []) (item more_than_one lf) s x)

-- where a list ends that `last` ends, by where its values do
unfoldable pub closed : ℕ → Text → Result ℕ ℕ → Result ℕ ℕ
closed last s (Ok x) = passed (ended last s (found (tt {0}) x))
closed last s (Err b) = Err b
