-- The text of net-tokens, and of a marking.
use Rattle.std.specs.Prelude.{◌++◌, length, take}
use Rattle.text.specs.Bytes.{Text, bytes}
use Rattle.text.specs.Printed.{number_text, token_text, texts}
use Rattle.marking.specs.declared.Entry.{Entry}
use Rattle.marking.specs.Held.{Sizes}
use Rattle.eos.specs.Counted.{Counted}
use Rattle.eos.specs.Model as eos
use Rattle.marking.specs.Reading.{token_line}

unfoldable pub net_token_text : Counted eos.NetToken → Text
net_token_text l = token_text (bytes "token=") (token_line l)

-- the line of key and their number, and a line for each
unfoldable pub block_text : Text → eos.Lines → Text
block_text key ls = number_text key (length ls) ++ texts net_token_text ls

-- 01: "A written marking is start=n and its token lines"; 02, K7: "written lines never do" repeat a net-token
unfoldable pub marking_text : eos.Marking → Text
marking_text μ = block_text (bytes "start=") (eos.entries μ)

-- the line of an entry
unfoldable pub held_text : Sizes → Entry → Text
held_text z e = token_text (bytes "token=") (record { place = e.token.place; counts = take (z.size e.token.place) e.token.counts; times = e.times })
