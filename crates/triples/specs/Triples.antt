-- A triple as the code has it.
use Rattle.eos.specs.Causes.{Refusal}
use Rattle.triples.specs.declared.Triple.{Triple}

-- a triple as the definitions have it
abbrev pub refusal_of : Triple → Refusal
refusal_of p = record { number = p.number; beside = p.beside; column = p.column }
