use Rattle.std.proofs.Common.{arith, length, take}
use Rattle.std.proofs.lemmas.Option.{slice_get-get_or}
use Rattle.vq_model.specs.declared.plan.Op.{Op}
use Rattle.vq_spec.proofs.GatheredChains.{lists_length, gathered_push}
use Rattle.vq_spec.proofs.chains.gather.Goals as goal

pub index_mut-requires : goal.index_mut-requires
index_mut-requires c =
    let none : Op = record { chain = 0; index = 0; value = 0; job = 0; line = 0 } in
    let l = c.requires.exist c.loop-e.e none c.loop-e-test.true in
    let n = lists_length (λ v. v.items) (take c.loop-e.e c.args.ops.now) c.loop-e.lists.items
    (length c.args.counts.now) c.loop-e.invariant in
    omega (arith, c.loop-e.lists.ok.0)

pub loop-e-preserved : goal.loop-e-preserved
loop-e-preserved c =
    let none : Op = record { chain = 0; index = 0; value = 0; job = 0; line = 0 } in
    let l = c.requires.exist c.loop-e.e none c.loop-e-test.true in
    gathered_push (λ v. v.items) c.args.ops.now c.loop-e.lists.items (length c.args.counts.now) c.loop-e.e _
    c.index_mut.result.now c.push.new.self
    (slice_get-get_or c.args.ops.now c.loop-e.e none c.loop-e-test.true) l c.loop-e.invariant
    c.index_mut.ensures.value (c.in_ok-push.ensures {u = tt}).items
