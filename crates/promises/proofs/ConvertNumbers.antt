-- The number of a conversion, and what its number 0 gives.
use Prim.Native.Nat.{ℕ, suc}
use mathlib.Core.Path.{◌≡◌, refl, ap, sym, subst, ◌∙◌}
use mathlib.Core.Logic.{inl, inr}
use mathlib.Core.Bool.{true, false}
use mathlib.Core.Option.{none, some}
use native.Mathlib.Omega.{arith}
use Rattle.eos.specs.Causes.{Refusal}
use Rattle.eos.specs.Converting.{unreplaced}
use Rattle.eos.proofs.ConvertedLaws.{unreplaced_least, unreplaced_none}
use Rattle.model.specs.Held.{model_of, plant_of}
use Rattle.model.specs.Test.{held_model}
use Rattle.model.specs.declared.Model.{Model}
use Rattle.marking.specs.declared.Marking.{Marking}
use Rattle.reader.specs.Answers.{pair}
use Rattle.reader.proofs.HeldExactly.{held_exactly}
use Rattle.reader.proofs.GivenLaws.{Given, given-held, given-model, given_marking}
use Rattle.converter.specs.Answers.{conversion, conversion_triple, converting}
use Rattle.converter.specs.declared.Conversion.{Conversion}
use Rattle.converter.proofs.ConvertLaws.{by_answer, converted_exactly, refused_unheld, refused_irreplaceable, answer_sized, same_markings}
use Rattle.promises.specs.Numbers.{ConvertNumbered}
use Rattle.promises.proofs.NumberLaws.{num, side}
use Rattle.std.specs.Prelude.{Ok}

module _ (m : Model) where
  abbrev r : Refusal
  r = conversion_triple (converting m)

  by_way : {G : Type 0} → (held_model m ≡ false → r ≡ pair 14 0 → G)
      → (held_model m ≡ true → (k : ℕ) → unreplaced (model_of m) ≡ some k → r ≡ pair 21 (suc k) → G)
      → (held_model m ≡ true → unreplaced (model_of m) ≡ none → r ≡ pair 0 0 → G) → G
  by_way f g i = by_answer m (λ h a. f h (ap conversion_triple a)) (λ h k u a. g h k u (ap conversion_triple a)) (λ h u a. i h u (ap conversion_triple a))

  pub convert_number : ConvertNumbered m r
  convert_number = record {
    listed = by_way (λ h q. inr (inl (num q))) (λ h k u q. inr (inr (inl (num q)))) (λ h u q. inl (num q));
    fourteen = (
      λ z. by_way (λ h q. h) (λ h k u q. absurd (omega (arith, num q, num z))) (λ h u q. absurd (omega (arith, num q, num z))),
      λ h. ap conversion_triple ((refused_unheld m).1 h),
    );
    twenty_one = λ k. (
      λ z.
          by_way (λ h q. absurd (omega (arith, num q, num z)))
          (λ h j u q. let e : j ≡ k = omega (arith, side q, side z) in let l = rw e at ((unreplaced_least (model_of m) j).0 u) in (h, l.0, l.1))
          (λ h u q. absurd (omega (arith, num q, num z))),
      λ (h, l, b). ap conversion_triple ((refused_irreplaceable m (suc k)).1 (h, (k, refl, (l, b)))),
    );
    good = (
      λ z. by_way (λ h q. absurd (omega (arith, num q, num z))) (λ h k u q. absurd (omega (arith, num q, num z))) (λ h u q. (h, (unreplaced_none (model_of m)).0 u)),
      λ (h, all). ap conversion_triple ((converted_exactly m (conversion (plant_of m))).1 (h, all, refl)),
    );
  }

-- a model and a marking that some accepted reading gives: so are the model's conversion and that marking
pub converted_given : (m : Model) (k : Marking) → Given m k → (c : Conversion) → converting m ≡ Ok c → Given c.model k
converted_given m k g c e =
    let (held, all, is) = (converted_exactly m c).0 e in
    let sized = given-model m k g in
    subst (λ (c : Conversion). Given c.model k) (sym is)
    ((held_exactly (conversion (plant_of m)).model (answer_sized m sized held) k (given_marking m k g)).0
    (same_markings m sized held 256 k ∙ given-held m k g))
