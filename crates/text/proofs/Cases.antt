-- The definitions compute: a small model and its weights line by line, the edges of each rule, and what is printed.
use Prim.Native.Nat.{ℕ}
use mathlib.Core.Path.{◌≡◌, refl}
use mathlib.Core.List.{List, [], ◌∷◌, ◌++◌}
use mathlib.Core.Bool.{true, false}
use lib.IntN.{ℤ, pos, negsuc}
use lib.ListN.{length, take}
use Rattle.text.specs.Bytes.{Text, bytes, meet, far, newlines}
use Rattle.text.specs.Number.{made, both, either, literal, digits, number_of, number, negated, signed, ended, item}
use Rattle.text.specs.Lists.{stop_of, joined, values, list_end, any_items, any_list}
use Rattle.text.specs.Lines.{Outcome, got, bad, fault_at, spot_of, then, many, judged, out_at, in_range, modest, behind, read_number, read_row, read_list, read_weights, read_head, read_heads}
use Rattle.text.specs.Token.{Token}
use Rattle.text.specs.TokenLine.{counts_at, beyond_one, more_than_one, timed, token_form, counts_out, token_out, read_token}
use Rattle.text.specs.Keyed.{keyed_form, read_keyed}
use Rattle.text.specs.Printed.{decimal_of, decimal, signed_text, items_text, end_text, texts, number_text, list_text, weights_text, counts_text, token_text}
use Rattle.text.proofs.Standing.{differ}
use Rattle.text.specs.declared.Cause.TheVariants.{Syntax, Range, Idling, Crowded}
use Rattle.text.specs.declared.Keyed.{Keyed}
use Rattle.text.specs.declared.Keyed.TheVariants.{Former, Latter}

abbrev tokens : ℕ → List ℕ → ℕ → Token
tokens p cs n = record { place = p; counts = cs; times = n }

abbrev token : ℕ → List ℕ → Token
token p cs = tokens p cs 1

-- a token's line where there are two places, of two counts each
abbrev token_of : Text → ℕ → Outcome Token
token_of = read_token (bytes "token=") 2 (λ p. 2) (in_range 0 65535) (in_range 0 65535)

abbrev model : Text
model =
    bytes "eos=1\nnets=1\nplaces=2\ntype=1,1\nmoves=1\npre=1,0\npost=0,1\n"
    ++ bytes "inner=2\nsteps=1\npre=1,0\npost=0,1\n"
    ++ bytes "events=2\nevent=1\nsync=1\nidle=2\nsync=1\n"
    ++ bytes "start=2\ntoken=1:1,0\ntoken=1:0,0\n"

-- each line of a model is read where the line before it ends, and the last ends with the text
pub model_reads : (read_head (bytes "eos=1\n") model 0 ≡ got tt 6)
    × (read_number (bytes "nets=") (in_range 0 8) model 6 ≡ got 1 13)
    × (read_number (bytes "places=") (in_range 1 32) model 13 ≡ got 2 22)
    × (read_list (bytes "type=") 2 (in_range 0 1) model 22 ≡ got (1 ∷ 1 ∷ []) 31)
    × (read_number (bytes "moves=") (in_range 0 32) model 31 ≡ got 1 39)
    × (read_list (bytes "pre=") 2 (in_range 0 255) model 39 ≡ got (1 ∷ 0 ∷ []) 47)
    × (read_list (bytes "post=") 2 (in_range 0 255) model 47 ≡ got (0 ∷ 1 ∷ []) 56)
    × (read_number (bytes "inner=") (in_range 1 32) model 56 ≡ got 2 64)
    × (read_number (bytes "steps=") (in_range 0 32) model 64 ≡ got 1 72)
    × (read_list (bytes "pre=") 2 (in_range 0 255) model 72 ≡ got (1 ∷ 0 ∷ []) 80)
    × (read_list (bytes "post=") 2 (in_range 0 255) model 80 ≡ got (0 ∷ 1 ∷ []) 89)
    × (read_number (bytes "events=") (in_range 0 64) model 89 ≡ got 2 98)
    × (read_number (bytes "event=") (in_range 1 1) model 98 ≡ got 1 106)
    × (read_list (bytes "sync=") 1 (in_range 0 255) model 106 ≡ got (1 ∷ []) 113)
    × (read_number (bytes "idle=") (in_range 1 2) model 113 ≡ got 2 120)
    × (read_list (bytes "sync=") 1 (in_range 0 255) model 120 ≡ got (1 ∷ []) 127)
    × (read_number (bytes "start=") (in_range 0 256) model 127 ≡ got 2 135)
    × (token_of model 135 ≡ got (token 1 (1 ∷ 0 ∷ [])) 147)
    × (token_of model 147 ≡ got (token 1 (0 ∷ 0 ∷ [])) 159)
    × (many (token_of model) 2 135 ≡ got (token 1 (1 ∷ 0 ∷ []) ∷ token 1 (0 ∷ 0 ∷ []) ∷ []) 159)
    × (length model ≡ 159)
unfolding read_head read_number read_row read_token token_form timed counts_at beyond_one more_than_one either many then judged behind literal both made far meet
    list_end values joined item ended number number_of digits
model_reads = (refl, refl, refl, refl, refl, refl, refl, refl, refl, refl, refl, refl, refl, refl, refl, refl, refl, refl, refl, refl, refl)

abbrev weights : Text
weights = bytes "inv=1\nouter=1,1\ninner=1,1\n"

-- the same of its weights
pub weights_read : (read_head (bytes "inv=1\n") weights 0 ≡ got tt 6)
    × (read_weights (bytes "outer=") 2 (modest 1000) weights 6 ≡ got (pos 1 ∷ pos 1 ∷ []) 16)
    × (read_weights (bytes "inner=") 2 (modest 1000) weights 16 ≡ got (pos 1 ∷ pos 1 ∷ []) 26)
    × (length weights ≡ 26)
unfolding read_head read_row judged behind literal both made far meet list_end values joined item ended signed negated number number_of digits
weights_read = (refl, refl, refl, refl)

abbrev nets : Text → Outcome ℕ
nets s = read_number (bytes "nets=") (in_range 0 8) s 0

-- a line of one number: its end, its key, its digits and its range
pub number_edges : (nets (bytes "nets=8\n") ≡ got 8 7)
    × (nets (bytes "nets=9\n") ≡ bad (fault_at Range 0 5))
    × (nets (bytes "nets=123456789012345678901234567890\n") ≡ bad (fault_at Range 0 5))
    × (nets (bytes "nets=1") ≡ bad (fault_at Syntax 0 6))
    × (nets (bytes "nets=9") ≡ bad (fault_at Syntax 0 6))
    × (nets (bytes "") ≡ bad (fault_at Syntax 0 0))
    × (nets (bytes "nets=\n") ≡ bad (fault_at Syntax 0 5))
    × (nets (bytes "nets=1\r\n") ≡ bad (fault_at Syntax 0 6))
    × (nets (bytes "nets=1 \n") ≡ bad (fault_at Syntax 0 6))
    × (nets (bytes "nets=-1\n") ≡ bad (fault_at Syntax 0 5))
    × (nets (bytes "nets=+1\n") ≡ bad (fault_at Syntax 0 5))
    × (nets (bytes "nets=00\n") ≡ bad (fault_at Syntax 0 6))
    × (nets (bytes "Nets=1\n") ≡ bad (fault_at Syntax 0 0))
    × (read_number (bytes "places=") (in_range 1 32) (bytes "nets=1\nplaces=0\n") 7 ≡ bad (fault_at Range 7 14))
    × (read_head (bytes "inv=1\n") (bytes "inv=2\n") 0 ≡ bad (fault_at Syntax 0 4))
    × (read_head (bytes "inv=1\n") (bytes "inv=123456789012345678901234567890\n") 0 ≡ bad (fault_at Syntax 0 5))
    × (read_head (bytes "inv=1\n") (bytes "inv=01\n") 0 ≡ bad (fault_at Syntax 0 4))
    × (read_head (bytes "inv=1\n") (bytes "inv=11\n") 0 ≡ bad (fault_at Syntax 0 5))
    × (read_head (bytes "inv=1\n") (bytes "inv=1") 0 ≡ bad (fault_at Syntax 0 5))
unfolding read_head read_number judged behind literal both made far meet item ended number number_of digits
number_edges = (refl, refl, refl, refl, refl, refl, refl, refl, refl, refl, refl, refl, refl, refl, refl, refl, refl, refl, refl)

abbrev pre : Text → Outcome (List ℕ)
pre s = read_list (bytes "pre=") 2 (in_range 0 255) s 0

abbrev sync : ℕ → Text → Outcome (List ℕ)
sync n s = read_list (bytes "sync=") n (in_range 0 255) s 0

-- a line of several numbers: its length and syntax are judged before any range
pub list_edges : (pre (bytes "pre=1,2\n") ≡ got (1 ∷ 2 ∷ []) 8)
    × (pre (bytes "pre=1,300\n") ≡ bad (fault_at Range 0 6))
    × (pre (bytes "pre=1,2,300\n") ≡ bad (fault_at Syntax 0 7))
    × (pre (bytes "pre=300\n") ≡ bad (fault_at Syntax 0 7))
    × (pre (bytes "pre=300,01\n") ≡ bad (fault_at Syntax 0 9))
    × (pre (bytes "pre=1,\n") ≡ bad (fault_at Syntax 0 6))
    × (pre (bytes "pre=\n") ≡ bad (fault_at Syntax 0 4))
    × (sync 1 (bytes "sync=01\n") ≡ bad (fault_at Syntax 0 6))
    × (sync 0 (bytes "sync=\n") ≡ got [] 6)
    × (sync 0 (bytes "sync=0\n") ≡ bad (fault_at Syntax 0 5))
unfolding read_row judged behind literal both made far meet out_at list_end values joined item ended number number_of digits decimal decimal_of
list_edges = (refl, refl, refl, refl, refl, refl, refl, refl, refl, refl)

abbrev outer : Text → Outcome (List ℤ)
outer s = read_weights (bytes "outer=") 1 (modest 1000) s 0

-- a weight: no minus before 0, no leading zeros, and the range on both sides
pub weight_edges : (outer (bytes "outer=-5\n") ≡ got (negsuc 4 ∷ []) 9)
    × (outer (bytes "outer=0\n") ≡ got (pos 0 ∷ []) 8)
    × (outer (bytes "outer=-1000\n") ≡ got (negsuc 999 ∷ []) 12)
    × (outer (bytes "outer=-1001\n") ≡ bad (fault_at Range 0 6))
    × (outer (bytes "outer=1001\n") ≡ bad (fault_at Range 0 6))
    × (outer (bytes "outer=-0\n") ≡ bad (fault_at Syntax 0 7))
    × (outer (bytes "outer=-01\n") ≡ bad (fault_at Syntax 0 7))
    × (outer (bytes "outer=--1\n") ≡ bad (fault_at Syntax 0 7))
    × (outer (bytes "outer=-\n") ≡ bad (fault_at Syntax 0 7))
unfolding read_row judged behind literal both made far meet out_at list_end values joined item ended signed negated number number_of digits signed_text decimal decimal_of
weight_edges = (refl, refl, refl, refl, refl, refl, refl, refl, refl)

-- the same where there are three, of no count
abbrev black_of : Text → ℕ → Outcome Token
black_of = read_token (bytes "token=") 3 (λ p. 0) (in_range 0 65535) (in_range 0 65535)

-- a token: out of range, its place is 3 whatever the length of the list, whose syntax is judged
pub token_edges : (token_of (bytes "token=2:65535,0\n") 0 ≡ got (token 2 (65535 ∷ 0 ∷ [])) 16)
    × (token_of (bytes "token=2:65536,0\n") 0 ≡ bad (fault_at Range 0 8))
    × (token_of (bytes "token=2:1\n") 0 ≡ bad (fault_at Syntax 0 9))
    × (token_of (bytes "token=2:1,0,0\n") 0 ≡ bad (fault_at Syntax 0 11))
    × (token_of (bytes "token=2,1,0\n") 0 ≡ bad (fault_at Syntax 0 7))
    × (token_of (bytes "token=3:9\n") 0 ≡ bad (fault_at Range 0 6))
    × (token_of (bytes "token=3:9,9,70000\n") 0 ≡ bad (fault_at Range 0 6))
    × (token_of (bytes "token=3:9,\n") 0 ≡ bad (fault_at Syntax 0 10))
    × (token_of (bytes "token=3:9") 0 ≡ bad (fault_at Syntax 0 9))
    × (token_of (bytes "token=3:01\n") 0 ≡ bad (fault_at Syntax 0 9))
    × (token_of (bytes "token=0:\n") 0 ≡ bad (fault_at Range 0 6))
    × (black_of (bytes "token=3:\n") 0 ≡ got (token 3 []) 9)
unfolding read_token token_form timed token_out counts_out counts_at beyond_one more_than_one judged behind literal both made either far meet out_at list_end values joined item ended any_list any_items number number_of digits decimal decimal_of
token_edges = (refl, refl, refl, refl, refl, refl, refl, refl, refl, refl, refl, refl)

-- `*n`: n from 2 on; 0 is wrong at its byte, 1 behind it, and its range is judged last
pub times_edges : (token_of (bytes "token=2:1,0*2\n") 0 ≡ got (tokens 2 (1 ∷ 0 ∷ []) 2) 14)
    × (black_of (bytes "token=3:*5\n") 0 ≡ got (tokens 3 [] 5) 11)
    × (token_of (bytes "token=2:1,0*65535\n") 0 ≡ got (tokens 2 (1 ∷ 0 ∷ []) 65535) 18)
    × (token_of (bytes "token=2:1,0*0\n") 0 ≡ bad (fault_at Syntax 0 12))
    × (token_of (bytes "token=2:1,0*1\n") 0 ≡ bad (fault_at Syntax 0 13))
    × (token_of (bytes "token=2:1,0*01\n") 0 ≡ bad (fault_at Syntax 0 12))
    × (token_of (bytes "token=2:1,0*1x") 0 ≡ bad (fault_at Syntax 0 13))
    × (token_of (bytes "token=2:1,0*2x") 0 ≡ bad (fault_at Syntax 0 13))
    × (token_of (bytes "token=2:1,0*2*2\n") 0 ≡ bad (fault_at Syntax 0 13))
    × (token_of (bytes "token=2:1,0*\n") 0 ≡ bad (fault_at Syntax 0 12))
    × (token_of (bytes "token=2:1,0*") 0 ≡ bad (fault_at Syntax 0 12))
    × (token_of (bytes "token=2:1,0*1") 0 ≡ bad (fault_at Syntax 0 13))
    × (token_of (bytes "token=2:1,0*2") 0 ≡ bad (fault_at Syntax 0 13))
    × (token_of (bytes "token=2:1,0x") 0 ≡ bad (fault_at Syntax 0 11))
    × (token_of (bytes "token=2:1*2\n") 0 ≡ bad (fault_at Syntax 0 9))
    × (token_of (bytes "token=2:1,0*65536\n") 0 ≡ bad (fault_at Range 0 12))
    × (black_of (bytes "token=3:*65536\n") 0 ≡ bad (fault_at Range 0 9))
    × (token_of (bytes "token=2:1,70000*70000\n") 0 ≡ bad (fault_at Range 0 10))
    × (token_of (bytes "token=2:70000,0*1\n") 0 ≡ bad (fault_at Syntax 0 17))
    × (token_of (bytes "token=9:0*2\n") 0 ≡ bad (fault_at Range 0 6))
    × (token_of (bytes "token=9:*70000\n") 0 ≡ bad (fault_at Range 0 6))
    × (token_of (bytes "token=9:0*1\n") 0 ≡ bad (fault_at Syntax 0 11))
    × (token_of (bytes "token=9:*0\n") 0 ≡ bad (fault_at Syntax 0 9))
    × (token_of (bytes "token=9:1,*2\n") 0 ≡ bad (fault_at Syntax 0 10))
unfolding read_token token_form timed token_out counts_out counts_at beyond_one more_than_one judged behind literal both made either far meet out_at list_end values joined item ended any_list any_items
    number number_of digits end_text items_text stop_of decimal decimal_of
times_edges = (refl, refl, refl, refl, refl, refl, refl, refl, refl, refl, refl, refl, refl, refl, refl, refl, refl, refl, refl, refl, refl, refl, refl, refl)

abbrev act : Text → Outcome Keyed
act s = read_keyed (bytes "event=") (bytes "idle=") (in_range 1 3) (in_range 1 2) s 0

-- a line of one of two keys: each in its own range, and a line that is neither goes wrong where the better of them does
pub keyed_edges : (act (bytes "event=3\n") ≡ got (Former 3) 8)
    × (act (bytes "idle=2\n") ≡ got (Latter 2) 7)
    × (act (bytes "event=4\n") ≡ bad (fault_at Range 0 6))
    × (act (bytes "idle=3\n") ≡ bad (fault_at Range 0 5))
    × (act (bytes "xvent=1\n") ≡ bad (fault_at Syntax 0 0))
    × (act (bytes "ivent=1\n") ≡ bad (fault_at Syntax 0 1))
    × (act (bytes "even=1\n") ≡ bad (fault_at Syntax 0 4))
    × (act (bytes "idle=2") ≡ bad (fault_at Syntax 0 6))
unfolding read_keyed keyed_form judged behind literal both made either far meet item ended number number_of digits
keyed_edges = (refl, refl, refl, refl, refl, refl, refl, refl)

abbrev eos : Text → Outcome ℕ
eos s = read_heads (bytes "eos=1\n") (bytes "eos=2\n") s 0

-- a first line of two forms: which of them it is, and a line that is neither goes wrong where no such line goes on
pub heads_edges : (eos (bytes "eos=1\n") ≡ got 1 6)
    × (eos (bytes "eos=2\n") ≡ got 2 6)
    × (eos (bytes "eos=3\n") ≡ bad (fault_at Syntax 0 4))
    × (eos (bytes "eos=12\n") ≡ bad (fault_at Syntax 0 5))
    × (eos (bytes "eos=21\n") ≡ bad (fault_at Syntax 0 5))
    × (eos (bytes "eos=2x") ≡ bad (fault_at Syntax 0 5))
    × (eos (bytes "eos=2") ≡ bad (fault_at Syntax 0 5))
    × (eos (bytes "eoz=1\n") ≡ bad (fault_at Syntax 0 2))
    × (eos (bytes "") ≡ bad (fault_at Syntax 0 0))
    × (read_heads (bytes "eos=1\n") (bytes "eos=2\n") (bytes "\neos=2\n") 1 ≡ got 2 7)
    × (read_heads (bytes "eos=1\n") (bytes "eos=2\n") (bytes "\neos=3\n") 1 ≡ bad (fault_at Syntax 1 5))
unfolding read_heads judged literal made either far meet
heads_edges = (refl, refl, refl, refl, refl, refl, refl, refl, refl, refl, refl)

-- its two forms differ, as its laws want; a beginning of the other would not
pub forms_differ : (differ (bytes "eos=1\n") (bytes "eos=2\n") ≡ true) × (differ (bytes "eos=1") (bytes "eos=12") ≡ false)
forms_differ = (refl, refl)

-- a fault by its line and its column, from 1, which only 2 and 3 have
pub spots : (spot_of (bytes "eos=1\nnets=99\n") (fault_at Range 6 11) ≡ record { cause = Range; line = 2; column = 6 })
    × (spot_of (bytes "eos=1\nnets=") (fault_at Syntax 6 11) ≡ record { cause = Syntax; line = 2; column = 6 })
    × (spot_of (bytes "eos=1\n") (fault_at Syntax 6 6) ≡ record { cause = Syntax; line = 2; column = 1 })
    × (spot_of (bytes "eos=1\nidle=1\n") (fault_at Idling 6 6) ≡ record { cause = Idling; line = 2; column = 0 })
    × (spot_of (bytes "start=1\ntoken=1:0\n") (fault_at Crowded 8 8) ≡ record { cause = Crowded; line = 2; column = 0 })
unfolding newlines
spots = (refl, refl, refl, refl, refl)

-- the lines ended before a position
pub lines-counted : (newlines model ≡ 19)
    × (newlines (take 31 model) ≡ 4)
    × (newlines (take 30 model) ≡ 3)
    × (newlines (bytes "eos=1") ≡ 0)
    × (newlines (bytes "\n\n") ≡ 2)
unfolding newlines
lines-counted = (refl, refl, refl, refl, refl)

-- what is printed
pub printed : (number_text (bytes "nets=") 12 ≡ bytes "nets=12\n")
    × (number_text (bytes "nets=") 0 ≡ bytes "nets=0\n")
    × (list_text (bytes "pre=") (0 ∷ 10 ∷ 255 ∷ []) ≡ bytes "pre=0,10,255\n")
    × (list_text (bytes "sync=") [] ≡ bytes "sync=\n")
    × (weights_text (bytes "outer=") (pos 0 ∷ negsuc 0 ∷ pos 1000 ∷ negsuc 999 ∷ []) ≡ bytes "outer=0,-1,1000,-1000\n")
    × (token_text (bytes "token=") (token 1 (1 ∷ 0 ∷ [])) ≡ bytes "token=1:1,0\n")
    × (token_text (bytes "token=") (token 3 []) ≡ bytes "token=3:\n")
    × (token_text (bytes "token=") (tokens 1 (1 ∷ 0 ∷ []) 3) ≡ bytes "token=1:1,0*3\n")
    × (token_text (bytes "token=") (tokens 3 [] 65535) ≡ bytes "token=3:*65535\n")
    × (texts (token_text (bytes "token=")) (token 1 (65535 ∷ []) ∷ token 2 [] ∷ []) ≡ bytes "token=1:65535\ntoken=2:\n")
unfolding number_text list_text weights_text token_text counts_text texts end_text items_text signed_text decimal decimal_of stop_of
printed = (refl, refl, refl, refl, refl, refl, refl, refl, refl, refl)
