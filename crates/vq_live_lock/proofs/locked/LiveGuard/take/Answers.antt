use Rattle.vq_live_lock.proofs.InHand.{still}
use Rattle.vq_live_lock.proofs.locked.LiveGuard.take.Goals as goal

pub returns-clause-taken : goal.returns-clause-taken
returns-clause-taken c =
    still c.args.of.now c.args.self.now c.content.result.now c.take.new.self c.requires c.content.ensures.value
    c.take.ensures.kept c.take.ensures.rises
