use Rattle.std.proofs.Common.{◌≡◌, ◌∙◌, ℕ, ap, sym, subst, true, false, [], None, List, Option, All, length, arith, rules}
use Rattle.std.proofs.lemmas.List.FromFn.{length-map-range_with_len}
use Rattle.vq_turns.specs.declared.look.Holding.{Holding}
use Rattle.vq_turns.specs.declared.look.Seen.{Seen}
use Rattle.vq_turns.specs.Turns.{Place}
use Rattle.vq_actor.specs.declared.held.Held.{Held}
use Rattle.vq_actor.specs.Positions.{holding_from, HasRoom}
use Rattle.vq_actor.proofs.Slots.{none_yet}
use Rattle.vq_actor.proofs.tracker.Tracker.at_first.Goals as goal

pub returns-clause-place : goal.returns-clause-place
returns-clause-place c =
    let place : List Holding → List Seen → Place = λ hs xs. record { done = 0; holding = hs; met = false; seen = xs } in
    ap (λ (slots : List (Option Held)). place (holding_from 0 slots) c.in_ok-seen.seen.items)
    (c.in_ok-held.ensures {u = tt})
    ∙ (ap (λ hs. place hs c.in_ok-seen.seen.items) (none_yet c.most_needs.result 0)
    ∙ ap (place []) (c.in_ok-seen.ensures {u = tt}).items)

pub returns-clause-fits : goal.returns-clause-fits
returns-clause-fits c =
    let tasks = c.args.tasks.now in
    let most = c.most_needs.result in
    let slots : length c.in_ok-held.held.items ≡ most =
    ap length (c.in_ok-held.ensures {u = tt})
    ∙ length-map-range_with_len {X = Option Held} (λ k. None) 0 most in
    let count = c.count_compares.ensures in
    let none = ap length (c.in_ok-seen.ensures {u = tt}).items in
    let capacity = (c.in_ok-seen.ensures {u = tt}).capacity in
    record {
      short = search rules;
      within = omega arith;
      slots = subst (λ (n : ℕ). All (HasRoom n) tasks) (sym slots) c.most_needs.ensures;
      room = omega (arith, none, capacity, count);
    }

pub invariant_of-result : goal.invariant_of-result
invariant_of-result c = λ x. absurd (never x)
  where
    never : false ≡ true → ⊥
    never x = cc
