-- A model's lines are its three parts in a row; what is held of them is the held model.
use Prim.Native.Nat.{ℕ, ◌≤◌}
use mathlib.Core.Path.{◌≡◌, refl, sym, ap, subst, ◌∙◌}
use mathlib.Core.List.{List}
use native.Mathlib.Omega.{arith}
use lib.ListN.{length}
use Rattle.text.specs.Bytes.{Text, bytes}
use Rattle.text.specs.Lines.{Outcome, got, then, many, in_range, read_number}
use Rattle.std.specs.Prelude.{Result}
use Rattle.std.specs.declared.result.Result.TheVariants.{Ok, Err}
use Rattle.text.specs.Answers.{kept}
use Rattle.text.specs.declared.Fault.{Fault}
use Rattle.text_reader.specs.Place.{Reads}
use Rattle.text_reader.specs.declared.Reader.{Reader}
use Rattle.text_reader.proofs.ReadsLaws.{itself, plainly, read_of, first_refused, followed, passes}
use Rattle.text.proofs.Exactly.{then-then}
use Rattle.eos.specs.Model as eos
use Rattle.model.specs.Rules.{Plant, Frame, frame_of}
use Rattle.model.specs.Held.{hold_plant}
use Rattle.model.specs.Test.{frame_in}
use Rattle.model.specs.declared.Model.{Model}
use Rattle.model_text.specs.Reading.{read_event, read_plant, plant, eventless}
use Rattle.model_text.proofs.LineAnswers.{number_in}
use Rattle.model_text.specs.Parts as parts
use Rattle.model_text.specs.Parts.{read_outline, read_system, read_listed}
use Rattle.model_text.specs.Answers.{hold_outline, with_system, with_events, Fitting}
use Rattle.model_text.specs.declared.Outline.{Outline}
use Rattle.model_text.proofs.PartLaws.{Sound, outline_sound, Bounded, system_bounded}
use Rattle.model_text.proofs.FrameLaws.{step-few, frame_is}

-- ---- the three parts in a row are the lines of a model

then_of : {A B : Type 0} (a : A) (x : ℕ) (f : A → ℕ → Outcome B) → then (got a x) f ≡ f a x
unfolding then
then_of a x f = refl

-- the model of its parts, with its header
abbrev pub whole : parts.Outline → parts.System → List eos.Event → Plant
whole o y l = plant o.header o.types y.moves y.nets l

pub plant_parts : (s : Text) (at : ℕ) → read_plant s at
    ≡ then (read_outline s at) λ o x₁.
    then (read_system o.nets o.places s x₁) λ y x₂.
    then (read_listed (frame_of (eventless o.header o.types y.moves y.nets)) s x₂) λ l x₃. got (whole o y l) x₃
unfolding read_plant read_outline read_system read_listed
plant_parts s at = sym (simp (then-then, then_of))

-- ---- what is held of the parts

-- a model with the outline that is read
abbrev pub with_outline : Model → Outline → Model
with_outline m a = record {
  header = a.header;
  nets = a.nets;
  places = a.places;
  moves = m.moves;
  listed = m.listed;
  types = a.types;
  pre = m.pre;
  post = m.post;
  objects = m.objects;
  events = m.events;
}

module _ (o : parts.Outline) (sound : Sound o) where
  module _ (start : Model) (y : parts.System) (bounded : Bounded o.nets y) where
    abbrev pub held : Model
    held = with_system (with_outline start (hold_outline o)) y

    -- the events depend on the same
    pub frame_exact : frame_in held ≡ frame_of (eventless o.header o.types y.moves y.nets)
    frame_exact = frame_is o.header o.types o.places sound.long sound.places y.moves y.nets o.nets bounded.long sound.nets

    pub frame_fits : Fitting held
    frame_fits = record {
      places = sound.places;
      moves = bounded.moves;
      nets = sound.nets;
      steps = λ n. let eight : length y.nets ≤ 8 = omega (arith, bounded.long, sound.nets) in step-few y.nets eight bounded.few n;
    }

    pub model-held : (l : List eos.Event) → with_events held l ≡ hold_plant (whole o y l)
    unfolding hold_plant
    model-held l = rw (← sound.long, ← bounded.long) refl

-- ---- the three parts read

abbrev behind_listed : parts.Outline → parts.System → List eos.Event → ℕ → Outcome Plant
behind_listed o y l x₃ = got (whole o y l) x₃

abbrev behind_system : parts.Outline → Text → parts.System → ℕ → Outcome Plant
behind_system o s y x₂ = then (read_listed (frame_of (eventless o.header o.types y.moves y.nets)) s x₂) (behind_listed o y)

abbrev behind_outline : Text → parts.Outline → ℕ → Outcome Plant
behind_outline s o x₁ = then (read_system o.nets o.places s x₁) (behind_system o s)

module _ (old : Reader) where
  abbrev outline_lines : Outcome parts.Outline
  outline_lines = read_outline old.src.now old.at

  abbrev lines : Outcome Plant
  lines = read_plant old.src.now old.at

  pub outline_refused : {new : Reader} (e : Fault) → Reads (kept hold_outline outline_lines) old new (Err e) → Reads (kept hold_plant lines) old new (Err e)
  outline_refused e k = rw (plant_parts old.src.now old.at) (first_refused hold_outline hold_plant outline_lines behind_outline e k)

  module _ {a : Reader} (outline : Outline) (first : Reads (kept hold_outline outline_lines) old a (Ok outline)) where
    -- what the outline is, and what it keeps to
    at_outline : {new : Reader} (r : Result Model Fault)
        → ((o : parts.Outline) → Sound o → outline ≡ hold_outline o → Reads (kept hold_plant (behind_outline a.src.now o a.at)) a new r)
        → Reads (kept hold_plant lines) old new r
    at_outline r next =
        rw (plant_parts old.src.now old.at)
        (followed hold_outline hold_plant outline_lines behind_outline outline r first
        (λ o is held. next o (outline_sound old.src.now old.at o a.at is) held))

    pub outline_fits : (outline.nets ≤ 8) × (outline.places ≤ 32)
    outline_fits =
        let q = read_of hold_outline outline_lines outline first in
        let z = outline_sound old.src.now old.at q.value a.at q.is in
        rw q.held (z.nets, z.places)

  -- what comes behind it, into the model lent
  module _ {a : Reader} (outline : Outline) (first : Reads (kept hold_outline outline_lines) old a (Ok outline)) (start : Model) where
    abbrev begun : Model
    begun = with_outline start outline

    abbrev system_lines : Outcome parts.System
    system_lines = read_system begun.nets begun.places a.src.now a.at

    -- the same lines, by what was read
    exact : (o : parts.Outline) → outline ≡ hold_outline o → system_lines ≡ read_system o.nets o.places a.src.now a.at
    exact o held = rw held refl

    pub system_refused : {new : Reader} (e : Fault) → Reads (kept (with_system begun) system_lines) a new (Err e) → Reads (kept hold_plant lines) old new (Err e)
    system_refused e k =
        at_outline outline first (Err e)
        (λ o sound held.
        first_refused (with_system begun) hold_plant (read_system o.nets o.places a.src.now a.at) (behind_system o) e (rw (exact o held) at k))

    module _ {b : Reader} (m : Model) (second : Reads (kept (with_system begun) system_lines) a b (Ok m)) where
      -- what the system is, and what it keeps to
      at_system : {new : Reader} (r : Result Model Fault)
          → ((o : parts.Outline) (sound : Sound o) (y : parts.System) (bounded : Bounded o.nets y) → m ≡ held o sound start y bounded
          → Reads (kept hold_plant (behind_system o b.src.now y b.at)) b new r)
          → Reads (kept hold_plant lines) old new r
      at_system r next =
          at_outline outline first r
          (λ o sound held.
          followed (with_system begun) hold_plant (read_system o.nets o.places a.src.now a.at) (behind_system o) m r
          (rw (exact o held) at second)
          (λ y is k. next o sound y (system_bounded o.nets o.places a.src.now a.at y b.at is) (k ∙ ap (λ (x : Outline). with_system (with_outline start x) y) held)))

      -- the events depend on what is held
      pub fits : Fitting m
      fits =
          let q = read_of hold_outline outline_lines outline first in
          let sound = outline_sound old.src.now old.at q.value a.at q.is in
          let r = read_of (with_system begun) system_lines m second in
          let e = exact q.value q.held in
          let bounded = system_bounded q.value.nets q.value.places a.src.now a.at r.value b.at (sym e ∙ r.is) in
          rw (r.held ∙ ap (λ (x : Outline). with_system (with_outline start x) r.value) q.held) (frame_fits q.value sound start r.value bounded)

      abbrev listed_line : Outcome ℕ
      listed_line = read_number (bytes "events=") (in_range 0 64) b.src.now b.at

      abbrev event_lines : Text → ℕ → ℕ → Outcome (List eos.Event)
      event_lines s n x = many (read_event (frame_in m) s) n x

      -- the number of events and their lines, by what is held
      listed_exact : (o : parts.Outline) (sound : Sound o) (y : parts.System) (bounded : Bounded o.nets y) → m ≡ held o sound start y bounded
          → read_listed (frame_of (eventless o.header o.types y.moves y.nets)) b.src.now b.at ≡ then listed_line (event_lines b.src.now)
      unfolding read_listed
      listed_exact o sound y bounded is =
          ap (λ (f : Frame). then listed_line (λ n x. many (read_event f b.src.now) n x)) (sym (ap frame_in is ∙ frame_exact o sound start y bounded))

      -- what is read of them is held beside the rest
      at_listed : {new : Reader} (r : Result Model Fault) → Reads (kept (with_events m) (then listed_line (event_lines b.src.now))) b new r → Reads (kept hold_plant lines) old new r
      at_listed {new} r k =
          at_system r
          (λ o sound y bounded is. made o sound y bounded is r (rw (sym (listed_exact o sound y bounded is)) at k))
        where
          made : (o : parts.Outline) (sound : Sound o) (y : parts.System) (bounded : Bounded o.nets y) → m ≡ held o sound start y bounded → (r : Result Model Fault)
              → Reads (kept (with_events m) (read_listed (frame_of (eventless o.header o.types y.moves y.nets)) b.src.now b.at)) b new r
              → Reads (kept hold_plant (behind_system o b.src.now y b.at)) b new r
          made o sound y bounded is (Err e) k =
              first_refused (with_events m) hold_plant (read_listed (frame_of (eventless o.header o.types y.moves y.nets)) b.src.now b.at) (λ _. behind_listed o y) e k
          made o sound y bounded is (Ok t) k =
              followed (with_events m) hold_plant (read_listed (frame_of (eventless o.header o.types y.moves y.nets)) b.src.now b.at) (λ _. behind_listed o y) t (Ok t) k
              (λ l got is'.
              subst (λ (x : Model). Reads (kept hold_plant (behind_listed o y l new.at)) new new (Ok x))
              (sym (is' ∙ ap (λ (x : Model). with_events x l) is ∙ model-held o sound start y bounded l))
              (passes hold_plant (behind_listed o y l new.at) (whole o y l) refl refl))

      pub listed_refused : {new : Reader} (e : Fault) → Reads listed_line b new (Err e) → Reads (kept hold_plant lines) old new (Err e)
      listed_refused e k = at_listed (Err e) (first_refused itself (with_events m) listed_line event_lines e (plainly k))

      module _ {c : Reader} (n : ℕ) (third : Reads listed_line b c (Ok n)) where
        pub listed_few : n ≤ 64
        listed_few = let q = read_of itself listed_line n (plainly third) in omega (arith, q.held, (number_in (bytes "events=") 0 64 b.src.now b.at q.value c.at q.is).1)

        pub events_read : {new : Reader} (r : Result Model Fault) → Reads (kept (with_events m) (many (read_event (frame_in m) c.src.now) n c.at)) c new r
            → Reads (kept hold_plant lines) old new r
        events_read r k = at_listed r (followed itself (with_events m) listed_line event_lines n r (plainly third) (λ v is same. rw (← same) k))
