use Rattle.std.proofs.Common.{◌≡◌, ◌++◌, ◌∷◌, [], ℕ, List, length, Some, sym, ap, ◌∙◌, inl, inr, subst, arith, length-append, rules}
use Rattle.std.specs.List.{slice_get}
use Rattle.vq_model.specs.Plan.{Plan}
use Rattle.vq_order.specs.Accessed.{IsAccess}
use Rattle.vq_order.specs.declared.races.accesses.MemoryAccess.{MemoryAccess}
use Rattle.vq_clocks.proofs.Cited.{last_item_cases}
use Rattle.vq_order.proofs.races.accesses.all_accesses.Goals as goal

pub command_access-requires : goal.command_access-requires
command_access-requires c =
    let n = ap (λ (q : Plan). length q.commands) c.plan.ensures.value in
    let k = c.commands-count.ensures in
    let t = c.loop-c-test.true in
    omega arith

pub loop-c-preserved : goal.loop-c-preserved
loop-c-preserved c =
    let p = c.args.order.now in
    let xs = c.loop-c.accesses.items in
    let a = c.command_access.result in
    let e : c.push.new.self.items ≡ xs ++ a ∷ [] = search rules in
    let n = length-append xs (a ∷ []) in
    let m = ap length e in
    let k = c.loop-c.invariant.0 in (
      (omega arith),
      (λ i b g. elim (last_item_cases xs a i b (subst (λ (ys : List MemoryAccess). slice_get ys i ≡ Some b) e g)) [
        | inl h ↦ c.loop-c.invariant.1 i b h
        | inr q ↦ subst (λ (z : ℕ × MemoryAccess). IsAccess p z.0 z.1) (λ t. (sym (q.0 ∙ k) t, sym q.1 t)) c.command_access.ensures
      ]),
    )
