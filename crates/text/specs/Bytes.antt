-- Bytes. A text is the list of its bytes; how far another goes with it, how many lines end in it, and where in its line a byte stands.
use Rattle.std.specs.Prelude.{ℕ, suc, ◌+◌, ◌-◌, List, [], ◌∷◌, true, false, eqb, length, take, drop}
use Prim.Native.Char.{code}
use Prim.Native.String as str

abbrev pub Text : Type 0
Text = List ℕ

-- the bytes of a quoted text of ASCII characters
abbrev pub bytes : str.String → Text
bytes str.[] = []
bytes (str.◌∷◌ c s) = code c ∷ bytes s

-- LF, which ends a line
abbrev pub lf : ℕ
lf = 10

abbrev pub comma : ℕ
comma = 44

abbrev pub minus : ℕ
minus = 45

abbrev pub colon : ℕ
colon = 58

abbrev pub star : ℕ
star = 42

-- how many bytes two texts have in common from their beginnings on
unfoldable pub meet : Text → Text → ℕ
meet [] rest = 0
meet (c ∷ t) [] = 0
meet (c ∷ t) (b ∷ rest) = elim (eqb b c) [ true ↦ suc (meet t rest) | false ↦ 0 ]

-- how far the text t goes with s from a position on: where the first byte of s stands that is not t's, or the byte behind t
unfoldable pub far : Text → ℕ → Text → ℕ
far s at t = at + meet t (drop at s)

-- the lines ended in a text
unfoldable pub newlines : Text → ℕ
newlines [] = 0
newlines (b ∷ s) = elim (eqb b lf) [ true ↦ suc (newlines s) | false ↦ newlines s ]

-- the number, from 1, of the line that begins at a position: the lines before it are counted
abbrev pub line_at : Text → ℕ → ℕ
line_at s at = suc (newlines (take at s))

-- the bytes of a text from a position up to another
abbrev pub between : Text → ℕ → ℕ → Text
between s at b = take (b - at) (drop at s)

-- the column, from 1, of a byte in the line that begins at a position: the bytes of the line before it are counted
abbrev pub column_at : Text → ℕ → ℕ → ℕ
column_at s at b = suc (length (between s at b))
