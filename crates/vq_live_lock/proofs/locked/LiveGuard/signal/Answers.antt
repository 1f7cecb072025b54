use Rattle.vq_live_lock.proofs.InHand.{still}
use Rattle.vq_live_lock.proofs.locked.LiveGuard.signal.Goals as goal

pub returns-clause-taken : goal.returns-clause-taken
returns-clause-taken c =
    still c.args.of.now c.args.self.now c.content.result.now c.signal.new.self c.requires c.content.ensures.value
    c.signal.ensures.kept c.signal.ensures.rises
