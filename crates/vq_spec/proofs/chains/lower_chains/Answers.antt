use Rattle.std.proofs.Common.{◌≡◌, ◌∙◌, Some, None, ap, sym, subst, arith, length, map, refl, ℕ, List}
use Rattle.std.specs.List.{range_with_len, slice_get}
use Rattle.vq_spec.specs.declared.chains.Chain.{Chain}
use Rattle.vq_spec.specs.ChainParts.{members, Sorts}
use Rattle.vq_spec.proofs.GatheredChains.{lists_length, lists_left, sorted_push}
use Rattle.vq_spec.proofs.chains.lower_chains.Goals as goal

pub loop-members-init : goal.loop-members-init
loop-members-init c =
    let none = (c.in_ok-chains.ensures {u = tt}).items in
    let all = c.into_iter-members-iterator.ensures.into_iter_gives.0 in
    let gathered = c.in_ok-lists.ensures {u = tt} in
    let count = lists_length (λ v. v.items) c.args.ops.now c.in_ok-lists.lists.items
    (length c.args.counts.now) gathered in
    record {
      left = ap (map (λ v. v.items)) all
          ∙ (gathered
          ∙ ((λ i. map (members c.args.ops.now) (range_with_len 0 (sym count i)))
          ∙ (λ i. map (members c.args.ops.now) (range_with_len (length (sym none i)) (length (sym all i))))));
      count = omega (arith, ap length none, ap length all, count);
      each = λ t d at. absurd (
          let empty : None ≡ Some d = sym (ap (λ (xs : List Chain). slice_get xs t) none) ∙ at in cc
          );
    }

pub loop-members-preserved : goal.loop-members-preserved
loop-members-preserved c =
    let n = length c.loop-members.chains.items in
    let rest = c.loop-members.members-iterator.rest.items in
    let first = c.in-Some.ensures.steps.0 in
    let left = lists_left (λ v. v.items) c.args.ops.now rest c.next.new.self.rest.items c.in-Some.members n
    first c.loop-members.invariant.left in
    let more = sorted_push c.args.ops.now c.loop-members.chains.items c.push.new.self.items n
    c.in_ok-of.field-0 refl c.loop-members.invariant.each
    (subst (λ (ps : List (ℕ × ℕ)). Sorts ps c.in_ok-of.field-0) left.0 (c.in_ok-of.ensures {u = tt}))
    (c.in_ok-push.ensures {u = tt}).items in
    record {
      left = left.1
          ∙ ap (λ k. map (members c.args.ops.now) (range_with_len k (length c.next.new.self.rest.items)))
          (sym more.0);
      count = omega (arith, more.0, ap length first, c.loop-members.invariant.count);
      each = more.1;
    }

pub returns : goal.returns
returns c =
    let none = c.in-None.ensures.steps.0 in
    record {
      number = omega (arith, none, c.loop-members.members-iterator.rest.ok.0, c.loop-members.invariant.count);
      each = c.loop-members.invariant.each;
    }
