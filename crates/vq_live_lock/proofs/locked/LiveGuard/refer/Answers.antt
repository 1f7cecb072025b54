use Rattle.vq_live_lock.proofs.InHand.{still}
use Rattle.vq_live_lock.proofs.locked.LiveGuard.refer.Goals as goal

pub returns-clause-taken : goal.returns-clause-taken
returns-clause-taken c =
    still c.args.of.now c.args.self.now c.content.result.now c.refer.new.self c.requires c.content.ensures.value
    c.refer.ensures.kept c.refer.ensures.rises
