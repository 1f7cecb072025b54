use Rattle.std.proofs.Common.{◌≡◌, ◌<◌, ◌++◌, ◌∷◌, [], ℕ, List, Some, length, sym, ap, ◌∙◌, inl, inr, subst, arith, length-append, rules}
use Rattle.std.specs.List.{slice_get}
use Rattle.vq_model.specs.Plan.{Plan}
use Rattle.vq_model.specs.SlowRun.{slow_order}
use Rattle.vq_clocks.specs.declared.clocks.parts.Parts.{Parts}
use Rattle.vq_clocks.specs.PartClocks.{AreParts}
use Rattle.vq_clocks.proofs.Marking.{last_item_cases}
use Rattle.vq_clocks.proofs.PartLaws.{none_waits, past_end}
use Rattle.vq_clocks.proofs.RowLaws.{position_within}
use Rattle.vq_clocks.proofs.clocks.parts.all_parts.Goals as goal

pub parts_of-requires : goal.parts_of-requires
parts_of-requires c =
    let p = c.args.run.now in
    let n = ap (λ (q : Plan). length q.jobs) c.plan-2.ensures.value in
    let k = c.jobs-j-end.ensures in
    let t = c.loop-j-test.true in
    let exists : c.loop-j.j < length p.jobs = omega arith in
    record {
      complete = c.plan.ensures.complete;
      exists = exists;
      made = length (slow_order p);
      enough = let l = position_within p c.plan.ensures.complete c.loop-j.j exists in omega arith;
      earlier = c.requires;
    }

pub loop-j-preserved : goal.loop-j-preserved
loop-j-preserved c =
    let p = c.args.run.now in
    let xs = c.loop-j.parts.items in
    let a = c.in_ok-parts_of.field-0 in
    let e : c.push.new.self.items ≡ xs ++ a ∷ [] = search rules in
    let n = length-append xs (a ∷ []) in
    let m = ap length e in
    let k = c.loop-j.invariant.0 in (
      (omega arith),
      (λ i b g. elim (last_item_cases xs a i b (subst (λ (ys : List Parts). slice_get ys i ≡ Some b) e g)) [
        | inl h ↦ c.loop-j.invariant.1 i b h
        | inr q ↦ subst (λ (z : ℕ × Parts). AreParts p z.0 z.1) (λ t. (sym (q.0 ∙ k) t, sym q.1 t)) c.in_ok-parts_of.ensures
      ]),
    )

pub returns : goal.returns
returns c =
    let p = c.args.run.now in
    let n = ap (λ (q : Plan). length q.jobs) c.plan-2.ensures.value in
    let k = c.jobs-j-end.ensures in
    let t = c.loop-j-test.false in
    let m = c.loop-j.invariant.0 in
    record {
      whole = λ j e. none_waits p j (let l = past_end c.loop-j.parts.items j e in omega arith);
      each = c.loop-j.invariant.1;
    }
