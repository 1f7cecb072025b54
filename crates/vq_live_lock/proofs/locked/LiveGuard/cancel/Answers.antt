use Rattle.vq_live_lock.proofs.InHand.{still}
use Rattle.vq_live_lock.proofs.locked.LiveGuard.cancel.Goals as goal

pub returns-clause-taken : goal.returns-clause-taken
returns-clause-taken c =
    still c.args.of.now c.args.self.now c.content.result.now c.cancel.new.self c.requires c.content.ensures.value
    c.cancel.ensures.kept c.cancel.ensures.rises
