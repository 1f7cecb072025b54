use Rattle.std.proofs.Common.{◌<◌, arith, length, subst, sym}
use Rattle.vq_model.specs.declared.plan.Op.{Op}
use Rattle.vq_spec.proofs.PlacedOps.{placed_next, placed_over, placed_all}
use Rattle.vq_spec.proofs.chains.place_ops.Goals as goal

pub place_op-requires-clause-exists : goal.place_op-requires-clause-exists
place_op-requires-clause-exists c =
    let none : Op = record { chain = 0; index = 0; value = 0; job = 0; line = 0 } in
    subst (λ (o : Op). o.chain < length c.args.chains.now)
    (sym (placed_next c.args.chains.now c.args.ops.now c.loop-e.ops c.loop-e.e none c.loop-e-test.true
    c.loop-e.invariant))
    (c.requires.exist c.loop-e.e none c.loop-e-test.true)

pub loop-e-preserved : goal.loop-e-preserved
loop-e-preserved c =
    let none : Op = record { chain = 0; index = 0; value = 0; job = 0; line = 0 } in
    placed_over c.args.chains.now c.args.ops.now c.loop-e.ops c.loop-e.e none c.loop-e-test.true
    c.loop-e.invariant c.place_op.result c.place_op.ensures

pub returns : goal.returns
returns c =
    placed_all c.args.chains.now c.args.ops.now c.loop-e.ops c.loop-e.e (omega arith) c.loop-e.invariant
