use Rattle.vq_live_lock.proofs.InHand.{still}
use Rattle.vq_live_lock.proofs.locked.LiveGuard.install.Goals as goal

pub returns-clause-taken : goal.returns-clause-taken
returns-clause-taken c =
    still c.args.of.now c.args.self.now c.content.result.now c.install.new.self c.requires c.content.ensures.value
    c.install.ensures.kept c.install.ensures.rises
