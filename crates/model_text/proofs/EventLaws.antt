-- The lines of an event read one after the other: its counts, net after net, and all of them behind its first line; events laid into a model.
use Prim.Native.Nat.{ℕ, suc, ◌≤◌}
use mathlib.Core.Path.{◌≡◌, refl, sym, ap, subst, ◌∙◌}
use mathlib.Core.List.{List, [], ◌∷◌}
use mathlib.Core.Bool.{true, false}
use native.Mathlib.Omega.{arith}
use lib.ListN.{length, set, replicate}
use Rattle.std.specs.Prelude.{Result}
use Rattle.std.specs.declared.result.Result.TheVariants.{Ok, Err}
use Rattle.text.specs.Bytes.{Text, bytes}
use Rattle.text.specs.Lines.{Outcome, got, fault, then, need, many, read_list}
use Rattle.text.specs.Repeat.{many_at, fill}
use Rattle.text.specs.Answers.{kept, padded}
use Rattle.text.specs.declared.Cause.TheVariants.{Idling}
use Rattle.text.specs.declared.Fault.{Fault}
use Rattle.text.proofs.LineLaws.{need_met, need_unmet}
use Rattle.text_reader.specs.Place.{placed, Reads}
use Rattle.text_reader.specs.declared.Reader.{Reader}
use Rattle.text_reader.proofs.ReadsLaws.{read_of, refused_of, first_refused, followed, passes, fails}
use Rattle.text_reader.proofs.LoopLaws.{filling}
use Rattle.eos.specs.Model.{Act, move, idle, alone, Event}
use Rattle.model.specs.Rules.{byte, Frame, own_net, takes_part}
use Rattle.model.specs.Acts.{as_act, kind_of, index_of}
use Rattle.model.specs.Held.{row, tabled, hold_event, put_at, hold_events, no_event}
use Rattle.model.specs.declared.Act as code
use Rattle.model.specs.declared.Event as held
use Rattle.model.specs.declared.Model.{Model}
use Rattle.model.proofs.HeldTests.{part_padded}
use Rattle.model_text.specs.Reading.{read_act, read_sync, read_event}
use Rattle.model_text.specs.Answers.{hold_act, with_events}
use Rattle.model_text.proofs.LineAnswers.{list_in, many-long}
use Rattle.model_text.proofs.ActLaws.{act-few}

-- ---- the counts of a net

module _ (f : Frame) (own n : ℕ) (few : f.steps n ≤ 32) (old : Reader) where
  abbrev line : Outcome (List ℕ)
  line = read_list (bytes "sync=") (f.steps n) byte old.src.now old.at

  abbrev judge : List ℕ → ℕ → Outcome (List ℕ)
  judge v x = need (takes_part own n v) Idling old.at (got v x)

  pub sync_refused : {new : Reader} (e : Fault) → Reads (kept padded line) old new (Err e) → Reads (kept padded (read_sync f own old.src.now n old.at)) old new (Err e)
  unfolding read_sync
  sync_refused e k = first_refused padded padded line (λ _. judge) e k

  module _ {new : Reader} (counts : List ℕ) (read : Reads (kept padded line) old new (Ok counts)) where
    judged : {last : Reader} (r : Result (List ℕ) Fault)
        → ((v : List ℕ) → counts ≡ padded v → takes_part own n counts ≡ takes_part own n v → Reads (kept padded (judge v new.at)) new last r)
        → Reads (kept padded (read_sync f own old.src.now n old.at)) old last r
    unfolding read_sync
    judged r next =
        followed padded padded line (λ _. judge) counts r read
        (λ v is held. next v held
        (rw held (part_padded own n v (omega (arith, few, (list_in (bytes "sync=") (f.steps n) 255 old.src.now old.at v new.at is).0)))))

    pub no_part : {last : Reader} → last ≡ placed new old.at → takes_part own n counts ≡ false
        → Reads (kept padded (read_sync f own old.src.now n old.at)) old last (Err (fault Idling old.at))
    no_part back h = judged _ (λ v held same. fails padded _ _ (need_unmet _ _ _ _ (sym same ∙ h)) back)

    pub sync_read : takes_part own n counts ≡ true → Reads (kept padded (read_sync f own old.src.now n old.at)) old new (Ok counts)
    sync_read h = judged _ (λ v held same. rw held (passes padded _ v (need_met _ _ _ _ (sym same ∙ h)) refl))

-- ---- an event

-- an act is held as it is
pub act_again : (a : Act) → as_act (hold_act a) ≡ a
act_again (move k) = refl
act_again (idle p) = refl
act_again (alone n) = refl

module _ (f : Frame) (old : Reader) where
  abbrev first_line : Outcome Act
  first_line = read_act f old.src.now old.at

  abbrev make : Act → List (List ℕ) → ℕ → Outcome Event
  make a v x₂ = got (record { act = a; sync = v }) x₂

  abbrev behind_act : Text → Act → ℕ → Outcome Event
  behind_act s a x₁ = then (many_at (read_sync f (own_net f.type a) s) 0 f.nets x₁) (make a)

  abbrev whole : Outcome Event
  whole = read_event f old.src.now old.at

  pub act_refused : {new : Reader} (e : Fault) → Reads (kept hold_act first_line) old new (Err e) → Reads (kept hold_event whole) old new (Err e)
  unfolding read_event
  act_refused e k = first_refused hold_act hold_event first_line behind_act e k

  module _ {mid : Reader} (a : code.Act) (first : Reads (kept hold_act first_line) old mid (Ok a)) where
    -- its index is one of 01's
    pub act_in : f.places ≤ 32 → f.moves ≤ 32 → f.nets ≤ 8 → index_of (as_act a) ≤ 32
    act_in p m n =
        let q = read_of hold_act first_line a first in
        rw (q.held, act_again q.value) (act-few f p m n old.src.now old.at q.value mid.at q.is)

    module _ (own : ℕ) (owns : own ≡ own_net f.type (as_act a)) where
      abbrev counts : Outcome (List (List ℕ))
      counts = many_at (read_sync f own mid.src.now) 0 f.nets mid.at

      behind : {new : Reader} (r : Result held.Event Fault)
          → ((b : Act) → a ≡ hold_act b → own ≡ own_net f.type b → Reads (kept hold_event (then counts (make b))) mid new r) → Reads (kept hold_event whole) old new r
      unfolding read_event
      behind r next =
          followed hold_act hold_event first_line behind_act a r first
          (λ b is same.
          let o : own ≡ own_net f.type b = owns ∙ ap (own_net f.type) (ap as_act same ∙ act_again b) in
          rw (← o) (next b same o))

      pub counts_refused : {new : Reader} (e : Fault) → Reads (kept (tabled row 8) counts) mid new (Err e) → Reads (kept hold_event whole) old new (Err e)
      counts_refused e k = behind (Err e) (λ b same o. first_refused (tabled row 8) hold_event counts (λ _. make b) e k)

      pub event_read : {new : Reader} (sync : List (List ℕ)) → Reads (kept (tabled row 8) counts) mid new (Ok sync)
          → Reads (kept hold_event whole) old new (Ok (record { kind = kind_of (as_act a); index = index_of (as_act a); sync = sync }))
      unfolding hold_event
      event_read {new} sync k =
          behind _
          (λ b same o.
          followed (tabled row 8) hold_event counts (λ _. make b) sync _ k
          (λ v is held. rw (same, act_again b, held) (passes hold_event (make b v new.at) (record { act = b; sync = v }) refl refl)))

-- ---- events laid into a model

abbrev pub lay_event : ℕ → held.Event → Model → Model
lay_event i e m = record {
  header = m.header;
  nets = m.nets;
  places = m.places;
  moves = m.moves;
  listed = m.listed;
  types = m.types;
  pre = m.pre;
  post = m.post;
  objects = m.objects;
  events = set m.events i e;
}

abbrev pub with_listed : Model → ℕ → List held.Event → Model
with_listed m n events = record {
  header = m.header;
  nets = m.nets;
  places = m.places;
  moves = m.moves;
  listed = n;
  types = m.types;
  pre = m.pre;
  post = m.post;
  objects = m.objects;
  events = events;
}

laid_is : (i : ℕ) (l : List Event) (m : Model) → fill (λ k e. lay_event k (hold_event e)) i l m ≡ with_listed m m.listed (fill (put_at hold_event) i l m.events)
unfolding fill
laid_is i [] m = refl
laid_is i (e ∷ l) m = laid_is (suc i) l (lay_event i (hold_event e) m)

-- a model whose room for events is empty
abbrev pub emptied : Model → Model
emptied m = with_listed m m.listed (replicate 64 no_event)

-- a model with all of them, and their number
pub events_held : (m : Model) (f : ℕ → Outcome Event) (n at : ℕ) (old new : Reader) (t : Model)
    → Reads (kept (filling hold_event lay_event (emptied m)) (many f n at)) old new (Ok t) → Reads (kept (with_events m) (many f n at)) old new (Ok (with_listed t n t.events))
unfolding hold_events
events_held m f n at old new t k =
    let q = read_of (filling hold_event lay_event (emptied m)) (many f n at) t k in
    let held : t ≡ with_listed m m.listed (fill (put_at hold_event) 0 q.value (replicate 64 no_event)) = q.held ∙ laid_is 0 q.value (emptied m) in
    let long : length q.value ≡ n = many-long f n at q.value new.at q.is in
    let same : with_listed t n t.events ≡ with_events m q.value =
    ap (λ (x : Model). with_listed x n x.events) held ∙ ap (λ (k : ℕ). with_listed m k (fill (put_at hold_event) 0 q.value (replicate 64 no_event))) (sym long) in
    subst (λ (x : Model). Reads (kept (with_events m) (many f n at)) old new (Ok x)) (sym same) (passes (with_events m) (many f n at) q.value q.is q.moved)

-- or one of them is refused
pub events_bad : (m : Model) (f : ℕ → Outcome Event) (n at : ℕ) (old new : Reader) (e : Fault)
    → Reads (kept (filling hold_event lay_event (emptied m)) (many f n at)) old new (Err e) → Reads (kept (with_events m) (many f n at)) old new (Err e)
events_bad m f n at old new e k = let r = refused_of (filling hold_event lay_event (emptied m)) (many f n at) e k in fails (with_events m) (many f n at) e r.is r.stands
