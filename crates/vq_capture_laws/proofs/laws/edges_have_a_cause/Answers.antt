use Rattle.vq_capture_laws.proofs.Joined.{joined}
use Rattle.vq_capture_laws.proofs.laws.edges_have_a_cause.Goals as goal

pub returns : goal.returns
returns c steps x y h = joined steps x y h
