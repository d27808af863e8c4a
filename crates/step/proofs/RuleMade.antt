-- An event's sides, summed up on a held model, are those that the firing rule asks.
use Prim.Native.Nat.{ℕ, ◌≤◌, ◌<◌}
use mathlib.Core.Path.{◌≡◌, ap, ◌∙◌}
use mathlib.Core.Bool.{true}
use native.Mathlib.Omega.{arith}
use lib.ListN.{get_or}
use Rattle.eos.specs.Model.{Act}
use Rattle.eos.specs.Firing.{act_side}
use Rattle.model.specs.Acts.{index_of, alone_of, act_of}
use Rattle.model.specs.Held.{SizedModel, row_at, no_net, no_event, model_of}
use Rattle.model.specs.Test.{held_model}
use Rattle.model.specs.declared.Event.{Event}
use Rattle.model.specs.declared.Model.{Model}
use Rattle.model.proofs.HeldTests.{Held, held-is, most-nets, most-events}
use Rattle.model.proofs.HeldTestLoops.{at_any}
use Rattle.model.proofs.HeldActs.{index_back}
use Rattle.step.specs.Rule.{hold_rule}
use Rattle.step.specs.RuleParts.{net_sums, pre_arcs, post_arcs}
use Rattle.step.specs.declared.Rule.{Rule}
use Rattle.step.proofs.RuleHeld.{few-transitions, index-few, rule_is}

module _ (m : Model) (right : held_model m ≡ true) where
  is_held : Held m
  is_held = held-is m right

  pub few_nets : m.nets ≤ 8
  few_nets = most-nets m is_held

  pub few_events : (e : ℕ) → e < m.listed → e < 64
  few_events e known = omega (arith, most-events m is_held)

  module _ (sized : SizedModel m) where
    pub few_steps : (n : ℕ) → (get_or m.objects n no_net).transitions ≤ 32
    few_steps n = few-transitions m is_held sized.objects n

    module _ (e : ℕ) (known : e < m.listed) where
      abbrev event : Event
      event = get_or m.events e no_event

      -- the act that is read of the event
      pub act_read : (none : Event) (a : Act) → a ≡ act_of (get_or m.events e none).kind (get_or m.events e none).index → a ≡ act_of event.kind event.index
      act_read none a r =
          r ∙ ap (λ (v : Event). act_of v.kind v.index) (at_any m.events e none no_event (omega (arith, sized.events, few_events e known)))

      pub act_few : (a : Act) → a ≡ act_of event.kind event.index → index_of a ≤ 32
      act_few a r =
          let i = index-few m is_held e known in
          omega (arith, ap index_of r, index_back event.kind event.index i.0, i.1)

      -- a rule from its parts
      pub rule_made : (r : Rule) → r.nets ≡ m.nets → r.alone ≡ alone_of (act_of event.kind event.index) → r.types ≡ m.types
          → r.pre.outer ≡ act_side (row_at m.pre) 32 (act_of event.kind event.index) → r.pre.inner ≡ net_sums pre_arcs m event.sync
          → r.post.outer ≡ act_side (row_at m.post) 32 (act_of event.kind event.index) → r.post.inner ≡ net_sums post_arcs m event.sync
          → r ≡ hold_rule (model_of m) e
      rule_made r a u b o i p j =
          (λ x. record { nets = a x; alone = u x; types = b x; pre = record { outer = o x; inner = i x }; post = record { outer = p x; inner = j x } })
          ∙ rule_is m is_held e known sized.types sized.pre.wide sized.post.wide

      -- the same, where the counts are read of the event
      pub counts_read : (none : Event) → (get_or m.events e none).sync ≡ event.sync
      counts_read none = ap (λ (v : Event). v.sync) (at_any m.events e none no_event (omega (arith, sized.events, few_events e known)))
