-- What an accepted reading gives, at the held structs: it is the printed text that was read, the tests pass exactly for what some
-- accepted reading gives, a marking is held in one way, and a written marking reads back.
use Prim.Native.Nat.{ℕ, ◌≤◌}
use mathlib.Core.Path.{◌≡◌, refl, ap, ap₂, sym, ◌∙◌, subst}
use mathlib.Core.Logic.{◌↔◌}
use mathlib.Core.List.{[]}
use mathlib.Core.Bool.{true}
use native.Mathlib.Omega.{arith}
use lib.Dec.{leb}
use lib.ListN.{length, length-append}
use borrow.Author.Tests.{le-leb, leb-true}
use Rattle.text.specs.Bytes.{Text}
use Rattle.text.proofs.Basics.{by_test, and_true}
use Rattle.text.specs.Lines.{Outcome, got, bad}
use Rattle.text.proofs.TestLaws.{and_both}
use Rattle.text.proofs.Unique.{was_printed}
use Rattle.eos.specs.Multiset as M
use Rattle.eos.specs.Counted.{spelt}
use Rattle.eos.specs.Model as eos
use Rattle.eos.proofs.OrderLaws.{sort_same}
use Rattle.eos.proofs.FiringLaws.{alike, token_order}
use Rattle.model.specs.Limits.{room_limit, longest}
use Rattle.model.specs.Rules.{Plant, right_plant}
use Rattle.model.specs.Held.{hold_plant}
use Rattle.model.specs.Held as model
use Rattle.model.specs.Test.{held_model}
use Rattle.model.specs.declared.Model.{Model}
use Rattle.model.proofs.HoldHeld.{hold_held}
use Rattle.model.proofs.HeldLaws as laws
use Rattle.model.proofs.RuleLaws.{right_is, few-places}
use Rattle.model.proofs.HeldTests.{held-is, most-places}
use Rattle.model_text.specs.Printed.{plant_text}
use Rattle.model_text.proofs.ModelLength.{plant-length}
use Rattle.marking.specs.Held.{Sizes, sizes_of, Roomy, hold_marking, tokens_of, has_room, held_marking}
use Rattle.marking.specs.Held as marking
use Rattle.marking.specs.Reading.{right_block, right_start}
use Rattle.marking.specs.Printed.{marking_text}
use Rattle.marking.specs.declared.Marking.{Marking}
use Rattle.marking.proofs.HoldMarking as hold
use Rattle.marking.proofs.HoldMarking.{room_right}
use Rattle.marking.proofs.RightTokens.{start_held}
use Rattle.marking.proofs.WriteLaws.{spelt_entries, marking_length}
use Rattle.reader.specs.Reading.{bounds, Loaded, read_lines, read_model, read_marking, right_loaded, read_model_at}
use Rattle.reader.specs.Printed.{model_text}
use Rattle.marking.specs.Sizes.{sizes_for}
use Rattle.reader.specs.Answers.{loaded, model_reading, model_given, restored, marking_or, marking_reading, held_both, held_in}
use Rattle.reader.specs.declared.ReadRefusal.{ReadRefusal}
use Rattle.reader.specs.declared.ModelReading.{ModelReading}
use Rattle.std.specs.Prelude.{Result, Ok, Err}
use Rattle.reader.proofs.EndLaws.{ended}
use Rattle.reader.proofs.ReadsWhatItSays.{lines_exactly, reads_what_it_says, reads_what_marking_says}
use Rattle.marking.proofs.SizeLaws.{held_roomy, sizes_same}

-- ---- accepted is printed

abbrev pub accepted : Model → Marking → Result ModelReading ReadRefusal
accepted m k = Ok (record { model = m; start = k })

-- a text is accepted with this held model and this held start
abbrev pub Accepts : Text → Model → Marking → Type 0
Accepts s m k = model_reading s ≡ accepted m k

-- a text of at most 1,048,576 bytes is the printed text of a right model and right lines of its net-tokens, which may be split up and stand in any
-- order; this is how the two are held, the net-tokens in canonical order
abbrev pub Printed : Text → Model → Marking → Type 0
Printed s m k =
    (l : Loaded) × (s ≡ model_text l) × (right_loaded l ≡ true) × (length s ≤ 1048576) × (m ≡ hold_plant l.plant)
    × (k ≡ hold_marking (eos.canonical (spelt l.start)))

-- what is refused is not accepted
pub refused≢accepted : {A G : Type 0} {e : ReadRefusal} {a : A} → ◌≡◌ {A = Result A ReadRefusal} (Err e) (Ok a) → G
refused≢accepted h = let z : ◌≡◌ {A = ℕ} 0 1 = cc in absurd (omega arith)

-- equal models and starts are accepted alike
accepts_as : (s : Text) (m n : Model) (k l : Marking) → m ≡ n → k ≡ l → Accepts s n l → Accepts s m k
accepts_as s m n k l p q h = rw (p, q) h

module _ (s : Text) (m : Model) (k : Marking) where
  got_printed : (o : Outcome Loaded) → read_model s ≡ o → length s ≤ longest → loaded s o ≡ accepted m k → Printed s m k
  unfolding read_model_at loaded
  got_printed (got l x) e h f =
      let p = ended (read_lines s 0) s l x e in
      let w = was_printed read_lines model_text right_loaded lines_exactly s l x p.0 p.1 in
      let r = sym (ap model_given f) in
      (l, w.0, w.1, h, ap (λ (r : ModelReading). r.model) r, ap (λ (r : ModelReading). r.start) r)
  got_printed (bad d) e h f = refused≢accepted f

  accepted_printed : Accepts s m k → Printed s m k
  unfolding model_reading
  accepted_printed e =
      by_test (leb (length s) longest)
      (λ h. got_printed (read_model s) refl (leb-true (length s) longest h) (rw (h, model_reading) at e))
      (λ h. refused≢accepted (rw (h, model_reading) at e))

  printed_accepted : Printed s m k → Accepts s m k
  unfolding model_reading loaded
  printed_accepted (l, text, right, short, model_is, start_is) =
      let r = (reads_what_it_says s l).1 (text, right) in
      rw (le-leb (length s) longest short, model_reading) (ap (loaded s) r ∙ rw (model_is, start_is))

  -- a model's text is accepted with a held model and a held start exactly where it is printed and this is how they are held
  pub accepted_is_printed : Accepts s m k ↔ Printed s m k
  accepted_is_printed = (accepted_printed, printed_accepted)

-- ---- the tests pass exactly for what some accepted reading gives

pub right_parts : (l : Loaded) → right_loaded l ≡ true → (right_plant l.plant ≡ true) × (right_start room_limit bounds (sizes_of l.plant.model) l.start ≡ true)
unfolding right_loaded
right_parts l h = and_true (right_plant l.plant) _ h

module _ (d : Plant) (right : right_plant d ≡ true) where
  roomy : Roomy (sizes_of d.model)
  roomy = subst Roomy (sizes_same _ d.model right) (held_roomy (hold_plant d) (hold_held d right))

  -- a right model and a marking in canonical order are accepted where the model and the marking's entries are printed
  said_accepted : (μ : eos.Marking) → hold.Held (sizes_of d.model) μ
      → Accepts (model_text (record { plant = d; start = eos.entries μ })) (hold_plant d) (hold_marking μ)
  unfolding model_text right_loaded marking_text
  said_accepted μ h =
      let z = sizes_of d.model in
      let l : Loaded = record { plant = d; start = eos.entries μ } in
      let n = marking_length z roomy (omega (arith, few-places d (right_is d right))) μ h.right in
      let same = spelt_entries μ h.ordered in
      let fit : has_room room_limit (spelt (eos.entries μ)) ≡ true = ap (has_room room_limit) same ∙ room_right z μ h in
      printed_accepted (model_text l) (hold_plant d) (hold_marking μ) (
        l,
        refl,
        and_both (right_plant d) _ right (and_both (right_block bounds z (eos.entries μ)) _ h.right fit),
        omega (arith, length-append (plant_text d) (marking_text μ), plant-length d right),
        refl,
        ap hold_marking (sym (ap eos.canonical same ∙ h.ordered)),
      )

-- what an accepted reading gives passes the tests
pub accepted-held : (s : Text) (m : Model) (k : Marking) → Accepts s m k → held_both m k ≡ true
unfolding held_in
accepted-held s m k e =
    let p = accepted_printed s m k e in
    let r = right_parts p.0 p.2 in
    let d = p.0.plant in
    let z : sizes_for m ≡ sizes_of d.model = ap sizes_for p.4 ∙ sizes_same _ d.model r.0 in
    and_both (held_model m) _ (rw p.4 (hold_held d r.0))
    (ap₂ (held_marking room_limit) z p.5
    ∙ hold.hold_held (sizes_of d.model) (roomy d r.0) (eos.canonical (spelt p.0.start)) (start_held (sizes_of d.model) p.0.start r.1))

module _ (m : Model) (sized : model.SizedModel m) where
  -- the test of a model passes exactly for what some accepted reading gives
  pub held_model_exactly : (held_model m ≡ true) ↔ ((s : Text) × (k : Marking) × Accepts s m k)
  unfolding right_block
  held_model_exactly = (
    λ h.
        let e = (laws.held_exactly m sized).0 h in
        let d = e.0 in (
          model_text (record { plant = d; start = [] }),
          hold_marking [],
          accepts_as _ m (hold_plant d) _ _ e.2 refl (said_accepted d e.1 [] (record { right = refl; ordered = refl })),
        ),
    λ (s, k, e).
        let p = accepted_printed s m k e in
        rw p.4 (hold_held p.0.plant (right_parts p.0 p.2).0),
  )

  -- the tests of a model and a marking of it pass exactly for what some accepted reading gives
  pub held_exactly : (k : Marking) → marking.SizedMarking k
      → (held_both m k ≡ true) ↔ ((s : Text) × Accepts s m k)
  unfolding held_in
  held_exactly k small = (
    λ h.
        let a = and_true (held_model m) _ h in
        let e = (laws.held_exactly m sized).0 a.0 in
        let d = e.0 in
        let z : sizes_for m ≡ sizes_of d.model = ap sizes_for e.2 ∙ sizes_same _ d.model e.1 in
        let t : held_marking room_limit (sizes_of d.model) k ≡ true = rw z at a.1 in
        let b = hold.held_tokens (sizes_of d.model) (roomy d e.1) k small t in
        let μ = tokens_of (sizes_of d.model) k in
        (model_text (record { plant = d; start = eos.entries μ }), accepts_as _ m (hold_plant d) k (hold_marking μ) e.2 b.1 (said_accepted d e.1 μ b.0)),
    λ (s, e). accepted-held s m k e,
  )

-- ---- a marking is held in one way

-- two held markings of a held model that stand for the same net-tokens, each as often, are the same
pub held_once : (m : Model) (j k : Marking) → marking.SizedMarking j → marking.SizedMarking k → held_both m j ≡ true → held_both m k ≡ true
    → M.Same eos.like (tokens_of (sizes_for m) j) (tokens_of (sizes_for m) k) → j ≡ k
unfolding held_in
held_once m j k sized sized' h h' same =
    let z = sizes_for m in
    let a = and_true (held_model m) _ h in
    let a' = and_true (held_model m) _ h' in
    let roomy = held_roomy m a.0 in
    let b = hold.held_tokens z roomy j sized a.1 in
    let b' = hold.held_tokens z roomy k sized' a'.1 in
    let e = sym b.0.ordered ∙ sort_same eos.before token_order eos.like alike (tokens_of z j) (tokens_of z k) same ∙ b'.0.ordered in
    b.1 ∙ ap hold_marking e ∙ sym b'.1

-- ---- written reads back

-- the text of a held marking of a held model is accepted, and the marking is given back
pub written_reads_back : (m : Model) (k : Marking) → marking.SizedMarking k → held_both m k ≡ true
    → marking_reading m (marking_text (tokens_of (sizes_for m) k)) ≡ Ok k
unfolding held_in marking_reading marking_or restored marking_text
written_reads_back m k small h =
    let a = and_true (held_model m) _ h in
    let z = sizes_for m in
    let b = hold.held_tokens z (held_roomy m a.0) k small a.1 in
    let μ = tokens_of z k in
    let s = marking_text μ in
    let n = marking_length z (held_roomy m a.0) (omega (arith, most-places m (held-is m a.0))) μ b.0.right in
    let same = spelt_entries μ b.0.ordered in
    let fit : has_room room_limit (spelt (eos.entries μ)) ≡ true = ap (has_room room_limit) same ∙ room_right z μ b.0 in
    let r = (reads_what_marking_says z s (eos.entries μ)).1 (refl, and_both (right_block bounds z (eos.entries μ)) _ b.0.right fit) in
    let q : restored s (read_marking z s) ≡ Ok k = ap (restored s) r ∙ ap Ok (ap hold_marking (ap eos.canonical same ∙ b.0.ordered) ∙ sym b.1) in
    rw (le-leb (length s) longest (omega arith), marking_reading, a.0) q
