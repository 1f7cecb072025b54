use Rattle.std.proofs.Common.{◌≡◌, ◌++◌, take}
use Rattle.vq_model.specs.Edges.{must_finish}
use Rattle.vq_clocks.specs.PartClocks.{jobs_for}
use Rattle.vq_clocks.proofs.clocks.parts.edges_at.Given as goal

abbrev pub invariant-loop-need : goal.invariant-loop-need
invariant-loop-need l = l.edges.items ≡ must_finish l.plan l.fn.j ++ jobs_for l.plan l.place (take l.need-index l.need-items)
