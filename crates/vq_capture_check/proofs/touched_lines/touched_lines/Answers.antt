use Rattle.std.proofs.Common.{◌≡◌, ◌⊎◌, ◌∷◌, [], ℕ, List, true, inl, inr, subst, sym, rules}
use Rattle.std.specs.BTreeMap.{keys}
use Rattle.vq_ground.specs.Lists.{has}
use Rattle.vq_capture.specs.Points.{IsMember}
use Rattle.vq_capture_check.specs.Watches.{touched_at}
use Rattle.vq_capture_check.specs.Watching.{all_touched}
use Rattle.vq_capture_check.proofs.KeptOrders.{sorted_in_order, sorted_has}
use Rattle.vq_capture_check.proofs.LoweredLines.{in_keys}
use Rattle.vq_capture_check.proofs.touched_lines.touched_lines.Goals as goal

pub returns-clause-order : goal.returns-clause-order
returns-clause-order c = sorted_in_order c.sort_unstable.new.self.items c.sort_unstable.ensures.sorted

pub returns-clause-all : goal.returns-clause-all
returns-clause-all c r t m =
    sorted_has c.loop-resource.lines.items c.sort_unstable.new.self.items c.sort_unstable.ensures.permutation t.step.line
    (there (c.loop-resource.invariant r t (in_keys c.args.things.now.entries r t m) m))
  where
    none : c.loop-resource.resource-iterator ≡ []
    none = search rules

    there : IsMember r c.loop-resource.resource-iterator ⊎ (has c.loop-resource.lines.items t.step.line ≡ true) → has c.loop-resource.lines.items t.step.line ≡ true
    there (inl i) = absurd (subst (λ (rs : List ℕ). IsMember r rs) none i)
    there (inr h) = h

pub loop-resource-init : goal.loop-resource-init
loop-resource-init c r t m i =
    let all : c.into_iter-resource-iterator.result ≡ keys c.args.things.now = search rules in
    inl (subst (λ (rs : List ℕ). IsMember r rs) (sym all) m)

pub loop-resource-preserved : goal.loop-resource-preserved
loop-resource-preserved c r t m i = by (c.loop-resource.invariant r t m i)
  where
    next : c.loop-resource.resource-iterator ≡ c.in-Some.resource.now ∷ c.next.new.self
    next = search rules

    of_first : IsMember r (c.in-Some.resource.now ∷ c.next.new.self) → IsMember r c.next.new.self ⊎ (has c.add_resource.new.lines.items t.step.line ≡ true)
    of_first (inl e) =
        inr (c.in_ok-add_resource.ensures.added t (subst (λ (q : ℕ). IsMember t (all_touched (touched_at c.args.things.now q))) e i))
    of_first (inr j) = inl j

    by : IsMember r c.loop-resource.resource-iterator ⊎ (has c.loop-resource.lines.items t.step.line ≡ true) →
        IsMember r c.next.new.self ⊎ (has c.add_resource.new.lines.items t.step.line ≡ true)
    by (inl j) = of_first (subst (λ (rs : List ℕ). IsMember r rs) next j)
    by (inr h) = inr (c.in_ok-add_resource.ensures.kept t.step.line h)
