use Rattle.vq_capture_things.proofs.things.Things.rise_of.Goals as goal

pub rise_of-requires : goal.rise_of-requires
rise_of-requires c = c.args.self.now.rising c.args.timeline
