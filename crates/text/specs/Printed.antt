-- How things are written.
use Rattle.std.specs.Prelude.{ℕ, zero, suc, ◌+◌, ◌/◌, ◌%◌, List, [], ◌∷◌, ◌++◌, true, false, ltb, ℤ, pos, negsuc, length}
use Rattle.text.specs.Bytes.{Text, lf, colon, star, minus}
use Rattle.text.specs.Lists.{stop_of}
use Rattle.text.specs.Token.{Token}

-- the digits of n, at most k of them
unfoldable pub decimal_of : ℕ → ℕ → Text
decimal_of zero n = []
decimal_of (suc k) n = elim (ltb n 10) [ true ↦ (48 + n) ∷ [] | false ↦ decimal_of k (n / 10) ++ ((48 + n % 10) ∷ []) ]

-- decimal, without leading zeros; n has no more than n + 1 digits
unfoldable pub decimal : ℕ → Text
decimal n = decimal_of (n + 1) n

-- the same with a minus sign before a number below 0
unfoldable pub signed_text : ℤ → Text
signed_text (pos n) = decimal n
signed_text (negsuc n) = minus ∷ decimal (suc n)

-- over the text of one value
module _ {A : Type 0} (text : A → Text) where
  -- over the byte that ends a list
  module _ (last : ℕ) where
    -- values joined by commas and ended; for no value, nothing at all
    unfoldable pub items_text : List A → Text
    items_text [] = []
    items_text (a ∷ l) = text a ++ (stop_of last (length l) ∷ items_text l)

    -- a list to its end: of length 0, nothing but the byte that ends it
    unfoldable pub end_text : List A → Text
    end_text [] = last ∷ []
    end_text (a ∷ l) = items_text (a ∷ l)

  -- the texts of several things, one after the other
  unfoldable pub texts : List A → Text
  texts [] = []
  texts (a ∷ l) = text a ++ texts l

-- the lines of key, which has its '=' at its end
unfoldable pub number_text : Text → ℕ → Text
number_text key n = key ++ (decimal n ++ (lf ∷ []))

unfoldable pub list_text : Text → List ℕ → Text
list_text key vs = key ++ end_text decimal lf vs

unfoldable pub weights_text : Text → List ℤ → Text
weights_text key ws = key ++ end_text signed_text lf ws

-- the key, a place and the colon behind it
abbrev pub place_text : Text → ℕ → Text
place_text key p = key ++ (decimal p ++ (colon ∷ []))

-- counts to the end of their line, and how many net-tokens it stands for: `*n` where that is not one
unfoldable pub counts_text : List ℕ → ℕ → Text
counts_text counts (suc zero) = end_text decimal lf counts
counts_text counts n = end_text decimal star counts ++ (decimal n ++ (lf ∷ []))

unfoldable pub token_text : Text → Token → Text
token_text key t = key ++ ((decimal t.place ++ (colon ∷ [])) ++ counts_text t.counts t.times)

-- the first line of a file that has two forms, by its number
abbrev pub head_text : Text → Text → ℕ → Text
head_text one two (suc zero) = one
head_text one two h = two
