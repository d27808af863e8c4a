-- How net-tokens that are read are held.
use Rattle.eos.specs.Counted.{spelt}
use Rattle.eos.specs.Model as eos
use Rattle.text.specs.declared.TokenLine.{TokenLine}
use Rattle.marking.specs.Held.{hold_marking}
use Rattle.marking.specs.declared.Entry.{Entry}
use Rattle.marking.specs.declared.Marking.{Marking}

-- net-tokens as their line says them
abbrev pub entry_line : TokenLine → Entry
entry_line line = record { token = record { place = line.place; counts = line.counts }; times = line.times }

-- in canonical order, whatever the order of their lines
abbrev pub hold_block : eos.Lines → Marking
hold_block ls = hold_marking (eos.canonical (spelt ls))
