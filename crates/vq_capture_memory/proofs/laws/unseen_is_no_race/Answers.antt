use Rattle.vq_capture_memory.proofs.laws.unseen_is_no_race.Goals as goal

pub returns : goal.returns
returns c steps a b u r = r.unordered u.ordered
