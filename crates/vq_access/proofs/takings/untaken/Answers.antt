use Rattle.std.proofs.Common.{◌<◌, ◌∙◌, get_or, length, subst, sym}
use Rattle.vq_ground.proofs.Gets.{has_at}
use Rattle.vq_board.specs.Named.{view}
use Rattle.vq_model.specs.Plan.{Plan}
use Rattle.std.proofs.lemmas.Option.{slice_get-get_or}
use Rattle.vq_access.proofs.TakenLooks.{looked_on, taken_on}
use Rattle.vq_access.proofs.takings.untaken.Goals as goal

pub point_of-point-requires-clause-exists : goal.point_of-point-requires-clause-exists
point_of-point-requires-clause-exists g c =
    c.requires.ops (get_or c.args.ops.now c.loop-k.k 0) (has_at c.args.ops.now c.loop-k.k c.loop-k-test.true)

pub sees_taken-requires-clause-exists : goal.sees_taken-requires-clause-exists
sees_taken-requires-clause-exists g c =
    subst (λ (p : Plan). c.point_of-point.result < length p.ops) (sym c.requires.plan) c.point_of-point.ensures.below

pub returns-in-Err-clause-pass : goal.returns-in-Err-clause-pass
returns-in-Err-clause-pass g c =
    let last = c.in-Err.ensures.untaken in (
      c.sees_taken.ensures.board ∙ c.loop-k.invariant.0.0,
      looked_on (view c.args.pass.now) (view c.loop-k.pass) (view c.sees_taken.new.pass) c.point_of-point.result
          c.in-Err.found c.loop-k.invariant.0.1 last.1,
    )

pub loop-k-preserved : goal.loop-k-preserved
loop-k-preserved g c =
    let last = c.in_default.ensures.taken in (
      (
        c.sees_taken.ensures.board ∙ c.loop-k.invariant.0.0,
        looked_on (view c.args.pass.now) (view c.loop-k.pass) (view c.sees_taken.new.pass) c.point_of-point.result last.0
            c.loop-k.invariant.0.1 last.2,
      ),
      taken_on (view c.loop-k.pass) (view c.sees_taken.new.pass) c.args.ops.now c.loop-k.k
          (get_or c.args.ops.now c.loop-k.k 0) c.point_of-point.result last.0 c.loop-k.invariant.1
          (slice_get-get_or c.args.ops.now c.loop-k.k 0 c.loop-k-test.true) last.1 last.2,
    )
