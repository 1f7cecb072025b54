use Rattle.std.proofs.Common.{◌≡◌, ◌≤◌, ◌∙◌, ℕ, [], List, sym, ap, subst, rules}
use Rattle.std.specs.BTreeMap.{keys}
use Rattle.vq_capture_check.specs.Least.{least_in, lower_things}
use Rattle.vq_capture_check.specs.Watches.{touched_at}
use Rattle.vq_capture_check.proofs.LoweredLines.{asked_least}
use Rattle.vq_capture_check.proofs.least.asked.Goals as goal

pub returns : goal.returns
returns c line lane a =
    let none : c.loop-resource.resource-iterator ≡ [] = search rules in
    let is : least_in c.loop-resource.least ≡ lower_things (λ k. c.args.next) (touched_at c.args.things.now) (keys c.args.things.now) =
    sym (ap (λ (rs : List ℕ). lower_things (least_in c.loop-resource.least) (touched_at c.args.things.now) rs) none) ∙ c.loop-resource.invariant in
    subst (λ (f : ℕ → ℕ). f lane ≤ line) (sym is) (asked_least c.args.things.now c.args.next line lane a)

pub loop-resource-init : goal.loop-resource-init
loop-resource-init c =
    (let all : c.into_iter-resource-iterator.result ≡ keys c.args.things.now = search rules in
    (λ i. lower_things (c.new-least.ensures i) (touched_at c.args.things.now) (all i)))
