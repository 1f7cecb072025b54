use Rattle.vq_board_laws.proofs.laws.buffers_hold_the_log.Goals as goal

pub returns-clause-free : goal.returns-clause-free
returns-clause-free c = λ p s k h. k.rule.log.free h

pub returns-clause-held : goal.returns-clause-held
returns-clause-held c = λ p s k i n v at h. (k.rule.log.holding i v at).folded n h
