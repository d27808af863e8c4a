-- The triple of an answer is 0,0,0 or that of its refusal.
use mathlib.Core.Path.{◌≡◌}
use Rattle.std.specs.Prelude.{Result, Ok, Err, MatchResult}
use Rattle.eos.specs.Causes.{Refusal}
use Rattle.reader.specs.Answers.{pair, triple_of}
use Rattle.triples.specs.Triples.{refusal_of}
use Rattle.triples.specs.declared.Triple.{Triple}

pub answered : {A E : Type 0} (refused : E → Refusal) (a : Result A E) (p : Triple)
    → MatchResult a (λ _. refusal_of p ≡ pair 0 0) (λ e. refusal_of p ≡ refused e) → refusal_of p ≡ triple_of refused a
answered refused (Ok x) p h = h
answered refused (Err e) p h = h
