-- The lines of an outline and of a system read one after the other, and what those that are read keep to.
use Prim.Native.Nat.{ℕ, ◌≤◌}
use mathlib.Core.Path.{◌≡◌, refl, sym}
use mathlib.Core.List.{List}
use Rattle.std.specs.Prelude.{Result}
use Rattle.std.specs.declared.result.Result.TheVariants.{Ok, Err}
use Rattle.text.specs.Answers.{kept, padded}
use Rattle.text.specs.declared.Fault.{Fault}
use Rattle.text_reader.specs.Place.{Reads}
use Rattle.text_reader.specs.declared.Reader.{Reader}
use Rattle.text_reader.proofs.ReadsLaws.{itself, plainly, read_of, first_refused, followed, passes}
use Rattle.model.specs.Held.{hold_nets}
use Rattle.model.specs.declared.Model.{Model}
use Rattle.model.specs.declared.ObjectNet as held
use Rattle.model_text.specs.Answers.{hold_outline, hold_tables, with_system}
use Rattle.model_text.specs.declared.Outline.{Outline}
use Rattle.model_text.specs.declared.Sides.{Sides}
use mathlib.Core.Bool.{true}
use native.Mathlib.Omega.{arith}
use lib.Dec.{leb}
use lib.ListN.{length}
use Rattle.text.specs.Bytes.{Text, bytes}
use Rattle.text.specs.Lines.{Outcome, got, then, many, in_range, every, read_number, read_list, read_heads}
use Rattle.text.proofs.Exactly.{then-got, got-is}
use Rattle.eos.specs.Model.{Transition, ObjectNet}
use Rattle.model_text.specs.Reading.{read_sides, read_net}
use Rattle.model_text.specs.Parts as parts
use Rattle.model_text.specs.Parts.{read_outline, read_system}
use Rattle.model_text.proofs.LineAnswers.{number_in, list_in, many-long, many-every}
use Rattle.model_text.proofs.NetLaws.{net-few}

-- what an outline that is read keeps to
pub record Sound (o : parts.Outline) : Type 0 where
  pub nets : o.nets ≤ 8
  pub places : o.places ≤ 32
  pub long : length o.types ≡ o.places

pub outline_sound : (s : Text) (at : ℕ) (o : parts.Outline) (next : ℕ) → read_outline s at ≡ got o next → Sound o
unfolding read_outline
outline_sound s at o next e =
    let a = then-got (read_heads (bytes "eos=1\n") (bytes "eos=2\n") s at) _ o next e in
    let b = then-got (read_number (bytes "nets=") (in_range 0 8) s a.next) _ o next a.rest in
    let c = then-got (read_number (bytes "places=") (in_range 1 32) s b.next) _ o next b.rest in
    let d = then-got (read_list (bytes "type=") c.value (λ d. leb d b.value) s c.next) _ o next c.rest in
    let k = got-is d.rest in
    let n = number_in (bytes "nets=") 0 8 s a.next b.value b.next b.first in
    let p = number_in (bytes "places=") 1 32 s b.next c.value c.next c.first in
    let l = list_in (bytes "type=") c.value b.value s c.next d.value d.next d.first in
    rw (← k.0) (record { nets = n.1; places = p.1; long = l.0 })

-- what a system that is read keeps to
pub record Bounded (nets : ℕ) (y : parts.System) : Type 0 where
  pub moves : length y.moves ≤ 32
  pub long : length y.nets ≡ nets
  pub few : every (λ m. leb (length m.transitions) 32) y.nets ≡ true

pub system_bounded : (nets places : ℕ) (s : Text) (at : ℕ) (y : parts.System) (next : ℕ)
    → read_system nets places s at ≡ got y next → Bounded nets y
unfolding read_system
system_bounded nets places s at y next e =
    let a = then-got (read_number (bytes "moves=") (in_range 0 32) s at) _ y next e in
    let b = then-got (many (read_sides places s) a.value a.next) _ y next a.rest in
    let c = then-got (many (read_net s) nets b.next) _ y next b.rest in
    let k = got-is c.rest in
    let n = number_in (bytes "moves=") 0 32 s at a.value a.next a.first in
    let l = many-long (read_sides places s) a.value a.next b.value b.next b.first in
    rw (← k.0) (record {
      moves = omega (arith, n.1, l);
      long = many-long (read_net s) nets b.next c.value c.next c.first;
      few = many-every (λ m. leb (length m.transitions) 32) (read_net s) (net-few s) nets b.next c.value c.next c.first;
    })

-- ---- the lines of an outline

abbrev make_outline : ℕ → ℕ → ℕ → List ℕ → ℕ → Outcome parts.Outline
make_outline h n p types x₄ = got (record { header = h; nets = n; places = p; types = types }) x₄

abbrev behind_places : ℕ → ℕ → Text → ℕ → ℕ → Outcome parts.Outline
behind_places h n s p x₃ = then (read_list (bytes "type=") p (λ d. leb d n) s x₃) (make_outline h n p)

abbrev behind_nets : ℕ → Text → ℕ → ℕ → Outcome parts.Outline
behind_nets h s n x₂ = then (read_number (bytes "places=") (in_range 1 32) s x₂) (behind_places h n s)

abbrev behind_head : Text → ℕ → ℕ → Outcome parts.Outline
behind_head s h x₁ = then (read_number (bytes "nets=") (in_range 0 8) s x₁) (behind_nets h s)

module _ (old : Reader) where
  abbrev head_line : Outcome ℕ
  head_line = read_heads (bytes "eos=1\n") (bytes "eos=2\n") old.src.now old.at

  abbrev outline : Outcome parts.Outline
  outline = read_outline old.src.now old.at

  pub head_refused : {new : Reader} (e : Fault) → Reads head_line old new (Err e) → Reads (kept hold_outline outline) old new (Err e)
  unfolding read_outline
  head_refused e k = first_refused itself hold_outline head_line behind_head e (plainly k)

  module _ {a : Reader} (h : ℕ) (first : Reads head_line old a (Ok h)) where
    abbrev nets_line : Outcome ℕ
    nets_line = read_number (bytes "nets=") (in_range 0 8) a.src.now a.at

    at_head : {new : Reader} (r : Result Outline Fault) → Reads (kept hold_outline (behind_head a.src.now h a.at)) a new r → Reads (kept hold_outline outline) old new r
    unfolding read_outline
    at_head r k = followed itself hold_outline head_line behind_head h r (plainly first) (λ v is same. rw (← same) k)

    pub nets_refused : {new : Reader} (e : Fault) → Reads nets_line a new (Err e) → Reads (kept hold_outline outline) old new (Err e)
    nets_refused e k = at_head (Err e) (first_refused itself hold_outline nets_line (behind_nets h) e (plainly k))

    module _ {b : Reader} (n : ℕ) (second : Reads nets_line a b (Ok n)) where
      abbrev places_line : Outcome ℕ
      places_line = read_number (bytes "places=") (in_range 1 32) b.src.now b.at

      pub nets_few : n ≤ 8
      nets_few = let q = read_of itself nets_line n (plainly second) in omega (arith, q.held, (number_in (bytes "nets=") 0 8 a.src.now a.at q.value b.at q.is).1)

      at_nets : {new : Reader} (r : Result Outline Fault) → Reads (kept hold_outline (behind_nets h b.src.now n b.at)) b new r → Reads (kept hold_outline outline) old new r
      at_nets r k = at_head r (followed itself hold_outline nets_line (behind_nets h) n r (plainly second) (λ v is same. rw (← same) k))

      pub places_refused : {new : Reader} (e : Fault) → Reads places_line b new (Err e) → Reads (kept hold_outline outline) old new (Err e)
      places_refused e k = at_nets (Err e) (first_refused itself hold_outline places_line (behind_places h n) e (plainly k))

      module _ {c : Reader} (p : ℕ) (third : Reads places_line b c (Ok p)) where
        abbrev types_line : Outcome (List ℕ)
        types_line = read_list (bytes "type=") p (λ d. leb d n) c.src.now c.at

        at_places : {new : Reader} (r : Result Outline Fault) → Reads (kept hold_outline (behind_places h n c.src.now p c.at)) c new r → Reads (kept hold_outline outline) old new r
        at_places r k = at_nets r (followed itself hold_outline places_line (behind_places h n) p r (plainly third) (λ v is same. rw (← same) k))

        pub types_refused : {new : Reader} (e : Fault) → Reads (kept padded types_line) c new (Err e) → Reads (kept hold_outline outline) old new (Err e)
        types_refused e k = at_places (Err e) (first_refused padded hold_outline types_line (λ _. make_outline h n p) e k)

        pub outline_read : {new : Reader} (types : List ℕ) → Reads (kept padded types_line) c new (Ok types)
            → Reads (kept hold_outline outline) old new (Ok (record { header = h; nets = n; places = p; types = types }))
        outline_read {new} types k =
            at_places _
            (followed padded hold_outline types_line (λ _. make_outline h n p) types _ k
            (λ l is held. rw held (passes hold_outline (make_outline h n p l new.at) (record { header = h; nets = n; places = p; types = l }) refl refl)))

-- ---- the lines of a system

abbrev make_system : List Transition → List ObjectNet → ℕ → Outcome parts.System
make_system l o x₃ = got (record { moves = l; nets = o }) x₃

module _ (m : Model) (old : Reader) where
  abbrev system : Outcome parts.System
  system = read_system m.nets m.places old.src.now old.at

  abbrev moves_line : Outcome ℕ
  moves_line = read_number (bytes "moves=") (in_range 0 32) old.src.now old.at

  abbrev behind_arcs : Text → List Transition → ℕ → Outcome parts.System
  behind_arcs s l x₂ = then (many (read_net s) m.nets x₂) (make_system l)

  abbrev behind_moves : Text → ℕ → ℕ → Outcome parts.System
  behind_moves s k x₁ = then (many (read_sides m.places s) k x₁) (behind_arcs s)

  pub moves_refused : {new : Reader} (e : Fault) → Reads moves_line old new (Err e) → Reads (kept (with_system m) system) old new (Err e)
  unfolding read_system
  moves_refused e k = first_refused itself (with_system m) moves_line behind_moves e (plainly k)

  module _ {a : Reader} (k : ℕ) (first : Reads moves_line old a (Ok k)) where
    abbrev rows : Outcome (List Transition)
    rows = many (read_sides m.places a.src.now) k a.at

    pub moves_few : k ≤ 32
    moves_few = let q = read_of itself moves_line k (plainly first) in omega (arith, q.held, (number_in (bytes "moves=") 0 32 old.src.now old.at q.value a.at q.is).1)

    at_moves : {new : Reader} (r : Result Model Fault) → Reads (kept (with_system m) (behind_moves a.src.now k a.at)) a new r → Reads (kept (with_system m) system) old new r
    unfolding read_system
    at_moves r h = followed itself (with_system m) moves_line behind_moves k r (plainly first) (λ v is same. rw (← same) h)

    pub rows_refused : {new : Reader} (e : Fault) → Reads (kept hold_tables rows) a new (Err e) → Reads (kept (with_system m) system) old new (Err e)
    rows_refused e h = at_moves (Err e) (first_refused hold_tables (with_system m) rows behind_arcs e h)

    module _ {b : Reader} (t : Sides (List (List ℕ))) (second : Reads (kept hold_tables rows) a b (Ok t)) where
      abbrev objects_lines : Outcome (List ObjectNet)
      objects_lines = many (read_net b.src.now) m.nets b.at

      at_rows : {new : Reader} (r : Result Model Fault)
          → ((l : List Transition) → k ≡ length l → t ≡ hold_tables l → Reads (kept (with_system m) (then objects_lines (make_system l))) b new r)
          → Reads (kept (with_system m) system) old new r
      at_rows r next =
          at_moves r
          (followed hold_tables (with_system m) rows behind_arcs t r second
          (λ l is held. next l (sym (many-long (read_sides m.places a.src.now) k a.at l b.at is)) held))

      pub objects_refused : {new : Reader} (e : Fault) → Reads (kept hold_nets objects_lines) b new (Err e) → Reads (kept (with_system m) system) old new (Err e)
      objects_refused e h = at_rows (Err e) (λ l long held. first_refused hold_nets (with_system m) objects_lines (λ _. make_system l) e h)

      pub system_read : {new : Reader} (objects : List held.ObjectNet) → Reads (kept hold_nets objects_lines) b new (Ok objects)
          → Reads (kept (with_system m) system) old new (Ok (record {
            header = m.header;
            nets = m.nets;
            places = m.places;
            moves = k;
            listed = m.listed;
            types = m.types;
            pre = t.pre;
            post = t.post;
            objects = objects;
            events = m.events;
          }))
      system_read {new} objects h =
          at_rows _
          (λ l long held.
          followed hold_nets (with_system m) objects_lines (λ _. make_system l) objects _ h
          (λ o is held'. rw (long, held, held') (passes (with_system m) (make_system l o new.at) (record { moves = l; nets = o }) refl refl)))
