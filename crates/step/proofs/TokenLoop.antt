-- Net-tokens laid one behind the other into room for them are the first of it.
use Prim.Native.Nat.{ℕ, suc, ◌≤◌}
use mathlib.Core.Path.{◌≡◌, refl, sym, ap, ◌∙◌}
use mathlib.Core.List.{List, [], ◌∷◌, map}
use native.Mathlib.Omega.{arith}
use native.Mathlib.Nat.{zero-add}
use lib.ListN.{length, set, take, drop, length-map}
use lib.Seq.{sets, sets-eq, take-append_seam}
use Rattle.std.specs.declared.result.Result.TheVariants.{Ok, Err}
use Rattle.text.specs.declared.Fault.{Fault}
use Rattle.text.specs.Lines.{Outcome, many}
use Rattle.text.specs.Repeat.{fill}
use Rattle.text.specs.Answers.{kept}
use Rattle.text_reader.specs.Place.{Reads}
use Rattle.text_reader.specs.declared.Reader.{Reader}
use Rattle.text_reader.proofs.ReadsLaws.{read_of, refused_of, passes, fails}
use Rattle.text_reader.proofs.LoopLaws.{filling}
use Rattle.model_text.proofs.LineAnswers.{many-long}
use Rattle.eos.specs.Counted.{Counted}
use Rattle.eos.specs.Model as eos
use Rattle.marking.specs.declared.Entry.{Entry}
use Rattle.marking.specs.Held.{hold_line}

abbrev pub lay : ℕ → Entry → List Entry → List Entry
lay i t room = set room i t

laid_is : (i : ℕ) (ts : eos.Lines) (room : List Entry) → fill (λ k t. lay k (hold_line t)) i ts room ≡ sets room i (map hold_line ts)
unfolding fill
laid_is i [] room = refl
laid_is i (t ∷ ts) room = laid_is (suc i) ts (set room i (hold_line t))

first_laid : {A : Type 0} (vs room : List A) → length vs ≤ length room → take (length vs) (sets room 0 vs) ≡ vs
first_laid vs room h = ap (take (length vs)) (sets-eq vs room 0 (omega (arith, h)) ∙ rw (zero-add (length vs)) refl) ∙ take-append_seam vs (drop (length vs) room)

pub first_held : (start : List Entry) (f : ℕ → Outcome (Counted eos.NetToken)) (n at : ℕ) (old new : Reader) (room : List Entry) → n ≤ length start
    → Reads (kept (filling hold_line lay start) (many f n at)) old new (Ok room) → Reads (kept (map hold_line) (many f n at)) old new (Ok (take n room))
first_held start f n at old new room few k =
    let q = read_of (filling hold_line lay start) (many f n at) room k in
    let long : length q.value ≡ n = many-long f n at q.value new.at q.is in
    let m : length (map hold_line q.value) ≡ n = length-map q.value hold_line ∙ long in
    let same : take n room ≡ map hold_line q.value =
    ap (take n) (q.held ∙ laid_is 0 q.value start) ∙ ap (λ (i : ℕ). take i (sets start 0 (map hold_line q.value))) (sym m)
    ∙ first_laid (map hold_line q.value) start (omega (arith, m, few)) in
    rw same (passes (map hold_line) (many f n at) q.value q.is q.moved)

-- a refusal is one whatever is held
pub still_refused : {A B C : Type 0} (f : A → B) (g : A → C) (o : Outcome A) (e : Fault) {old new : Reader} → Reads (kept f o) old new (Err e) → Reads (kept g o) old new (Err e)
still_refused f g o e k = let r = refused_of f o e k in fails g o e r.is r.stands
