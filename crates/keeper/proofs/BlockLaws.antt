-- The blocks of a weight file, by the answers of the readings in them: the outer weights, and those of the nets behind them.
use Prim.Native.Nat.{ℕ, ◌<◌}
use mathlib.Core.Path.{◌≡◌, refl, ap, sym, subst, ◌∙◌}
use mathlib.Core.Bool.{true}
use mathlib.Core.List.{List, []}
use lib.Dec.{lit≤}
use lib.IntN.{ℤ}
use lib.ListN.{length, get_or, set}
use Rattle.std.specs.Prelude.{Result}
use Rattle.std.specs.declared.result.Result.TheVariants.{Ok, Err}
use Rattle.std.proofs.lemmas.List.{get_or_default}
use Rattle.text.specs.Bytes.{Text, bytes}
use Rattle.text.specs.Number.{signed_if}
use Rattle.text.specs.Printed.{signed_text}
use Rattle.text.specs.Lines.{Outcome, got, bad, then, modest, read_row, read_head, read_weights}
use Rattle.text.specs.Repeat.{many_at}
use Rattle.text.specs.Values.{weight_in}
use Rattle.text.specs.Answers.{kept, row}
use Rattle.text.specs.declared.Fault.{Fault}
use Rattle.text_reader.specs.Place.{Reads}
use Rattle.text_reader.specs.declared.Reader.{Reader}
use Rattle.text_reader.proofs.ReadsLaws.{first_refused, followed, itself, plainly, read_of, refused_of, passes, fails}
use Rattle.text_reader.proofs.LoopLaws.{filling}
use Rattle.eos.specs.Model as eos
use Rattle.eos.specs.Weights.{Weights}
use Rattle.model.specs.Limits.{weight_limit}
use Rattle.model.specs.Held.{no_net, net_of, model_of}
use Rattle.model.specs.Test.{held_model}
use Rattle.model.specs.declared.Model.{Model}
use Rattle.model.specs.declared.ObjectNet.{ObjectNet}
use Rattle.model.proofs.HeldTests.{held-is, most-places}
use Rattle.keeper.specs.Reading.{read_inner}
use Rattle.keeper.specs.Held.{no_rows, weight_row, hold_weights}
use Rattle.keeper.specs.Parts.{read_outer, read_weight_lines, put_next, behind_outer}
use Rattle.keeper.specs.declared.HeldWeights.{HeldWeights}
use Rattle.keeper.proofs.ChainLaws.{all_held}
use Rattle.model.proofs.ShapeLaws.{nets-long, places-long, net-is}
use Rattle.keeper.proofs.WeightLineLaws.{weights_read}

-- a line of n weights, as the reader answers it
abbrev pub Line : Text → ℕ → Reader → Reader → Result (List ℤ) Fault → Type 0
Line key n old new r = Reads (kept (row weight_in) (read_row (signed_if true) signed_text key n (modest weight_limit) old.src.now old.at)) old new r

module _ (m : Model) where
  -- ---- the outer weights
  module _ (old : Reader) where
    abbrev head : Outcome (Unit {0})
    head = read_head (bytes "inv=1\n") old.src.now old.at

    -- the line behind the first
    abbrev outer-line : Text → Unit {0} → ℕ → Outcome (List ℤ)
    outer-line s u x = read_weights (bytes "outer=") (eos.places (model_of m)) (modest weight_limit) s x

    pub outer_refused : (new : Reader) (e : Fault) → Reads head old new (Err e) → Reads (kept weight_row (read_outer (model_of m) old.src.now old.at)) old new (Err e)
    unfolding read_outer
    outer_refused new e h = first_refused itself weight_row head outer-line e (plainly h)

    pub outer_read : (held : held_model m ≡ true) (long : length m.types ≡ 32) (mid new : Reader) (u : Unit {0}) (r : Result (List ℤ) Fault) → Reads head old mid (Ok u)
        → Line (bytes "outer=") m.places mid new r → Reads (kept weight_row (read_outer (model_of m) old.src.now old.at)) old new r
    unfolding read_outer
    outer_read held long mid new u r h k =
        followed itself weight_row head outer-line u r (plainly h) λ a e f.
        subst (λ (n : ℕ). Reads (kept weight_row (read_weights (bytes "outer=") n (modest weight_limit) mid.src.now mid.at)) mid new r)
        (sym (places-long m long (most-places m (held-is m held))))
        (weights_read weight_limit (bytes "outer=") m.places mid.src.now mid.at (lit≤ tt) k)

  -- ---- a line of a net
  abbrev pub one : Text → ℕ → ℕ → Outcome (List ℤ)
  one s n at = read_inner (model_of m) s n at

  abbrev pub array_net : ObjectNet
  array_net = record { places = 0; transitions = 0; pre = []; post = [] }

  pub inner_line : (room : length m.objects ≡ 8) (n : ℕ) → n < m.nets → n < 8 → (old new : Reader) (r : Result (List ℤ) Fault)
      → Line (bytes "inner=") (get_or m.objects n array_net).places old new r → Reads (kept weight_row (one old.src.now n old.at)) old new r
  unfolding read_inner net_of
  inner_line room n h few old new r k =
      let e : (get_or m.objects n array_net).places ≡ (eos.net (model_of m) n).size =
      ap (λ (o : ObjectNet). o.places) (get_or_default m.objects n array_net no_net (rw room few)) ∙ ap (λ (o : eos.ObjectNet). o.size) (sym (net-is m n h)) in
      subst (λ (n : ℕ). Reads (kept weight_row (read_weights (bytes "inner=") n (modest weight_limit) old.src.now old.at)) old new r) e
      (weights_read weight_limit (bytes "inner=") (get_or m.objects n array_net).places old.src.now old.at (lit≤ tt) k)

  -- ---- the weights of the nets, in rows behind one
  abbrev in-rows : List ℤ → List (List ℤ) → List (List ℤ)
  in-rows row = filling weight_row put_next (set no_rows 0 row)

  module _ (row : List ℤ) (o : Outcome (List (List ℤ))) {old new : Reader} where
    pub nets_refused : (e : Fault) → Reads (kept (in-rows row) o) old new (Err e) → Reads (kept (behind_outer row) o) old new (Err e)
    nets_refused e h = let r = refused_of (in-rows row) o e h in fails (behind_outer row) o e r.is r.stands

    pub nets_read : (rows : List (List ℤ)) → Reads (kept (in-rows row) o) old new (Ok rows) → Reads (kept (behind_outer row) o) old new (Ok (record { rows = rows }))
    unfolding behind_outer
    nets_read rows h =
        let q = read_of (in-rows row) o rows h in
        let z : ◌≡◌ {A = HeldWeights} (record { rows = rows }) (behind_outer row q.value) = ap {B = HeldWeights} (λ (t : List (List ℤ)). record { rows = t }) q.held in
        subst (λ (x : HeldWeights). Reads (kept (behind_outer row) o) old new (Ok x)) (sym z) (passes (behind_outer row) o q.value q.is q.moved)

  -- ---- both
  -- what stands behind the outer weights
  abbrev behind-them : Text → List ℤ → ℕ → Outcome Weights
  behind-them s o x = then (many_at (read_inner (model_of m) s) 0 (length (model_of m).nets) x) λ i y. got (record { outward = o; inward = i }) y

  with_inner : (o : List ℤ) (p : Outcome (List (List ℤ))) → kept (behind_outer (weight_row o)) p ≡ kept hold_weights (then p λ i y. got (record { outward = o; inward = i }) y)
  unfolding kept then
  with_inner o (got l y) = ap (λ (h : HeldWeights). got h y) (all_held o l)
  with_inner o (bad e) = refl

  module _ (old mid : Reader) where
    pub lines_stop : (e : Fault) → Reads (kept weight_row (read_outer (model_of m) old.src.now old.at)) old mid (Err e)
        → Reads (kept hold_weights (read_weight_lines (model_of m) old.src.now old.at)) old mid (Err e)
    unfolding read_weight_lines
    lines_stop e h = first_refused weight_row hold_weights (read_outer (model_of m) old.src.now old.at) behind-them e h

    pub lines_read : (new : Reader) (b : List ℤ) (r : Result HeldWeights Fault) → Reads (kept weight_row (read_outer (model_of m) old.src.now old.at)) old mid (Ok b)
        → Reads (kept (behind_outer b) (many_at (read_inner (model_of m) mid.src.now) 0 m.nets mid.at)) mid new r
        → Reads (kept hold_weights (read_weight_lines (model_of m) old.src.now old.at)) old new r
    unfolding read_weight_lines
    lines_read new b r h k =
        followed weight_row hold_weights (read_outer (model_of m) old.src.now old.at) behind-them b r h λ a e f.
        let p : Outcome (List (List ℤ)) = many_at (read_inner (model_of m) mid.src.now) 0 m.nets mid.at in
        let is : kept (behind_outer b) p ≡ kept hold_weights (behind-them mid.src.now a mid.at) =
        ap (λ (x : List ℤ). kept (behind_outer x) p) f ∙ with_inner a p
        ∙ ap (λ (n : ℕ). kept hold_weights (then (many_at (read_inner (model_of m) mid.src.now) 0 n mid.at) λ i y. got (record { outward = a; inward = i }) y)) (sym (nets-long m)) in
        subst (λ (o : Outcome HeldWeights). Reads o mid new r) is k
