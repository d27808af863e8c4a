-- Lists of values in a line, joined by commas: of numbers and of signed numbers alike.
use Rattle.std.specs.Prelude.{ℕ, zero, suc, List, [], ◌∷◌, length}
use Rattle.text.specs.Bytes.{Text, comma}
use Rattle.text.specs.Number.{Read, found, both, either, ended, item}

-- what stands behind a value with n more to come: the byte that ends the list after the last, else a comma
unfoldable pub stop_of : ℕ → ℕ → ℕ
stop_of last zero = last
stop_of last (suc n) = comma

-- over a reader of one value
module _ {A : Type 0} (value : Text → ℕ → Read A) where
  -- a value with n more to come: where there are any, with the comma behind it
  unfoldable pub joined : ℕ → Text → ℕ → Read A
  joined zero s at = value s at
  joined (suc n) s at = item value comma s at

  -- n values, joined by commas; for no value, nothing at all
  unfoldable pub values : ℕ → Text → ℕ → Read (List A)
  values zero s at = found [] at
  values (suc n) s at = both (λ a l. a ∷ l) (joined n s at) λ a next. values n s next

  -- over the byte that ends a list: LF at the end of a line
  module _ (last : ℕ) where
    -- a list of n values to its end. 01: "a list of length 0 is nothing after the sign"
    unfoldable pub list_end : ℕ → Text → ℕ → Read (List A)
    list_end n s at = ended last s (values n s at)

    -- values to the end of their list, one and at most k more
    unfoldable pub any_items : ℕ → Text → ℕ → Read (List A)
    any_items zero s at = list_end 1 s at
    any_items (suc k) s at = either (list_end 1 s at) (both (λ a l. a ∷ l) (item value comma s at) λ a next. any_items k s next)

    -- a list of any length to its end; a text has fewer values than bytes
    unfoldable pub any_list : Text → ℕ → Read (List A)
    any_list s at = either (list_end zero s at) (any_items (length s) s at)
