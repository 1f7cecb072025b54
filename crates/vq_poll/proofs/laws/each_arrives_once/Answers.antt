use Rattle.vq_poll.proofs.Arrived.{once}
use Rattle.vq_poll.proofs.laws.each_arrives_once.Goals as goal

pub returns : goal.returns
returns c = once
