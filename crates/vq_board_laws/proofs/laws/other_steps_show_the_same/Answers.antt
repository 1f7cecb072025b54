use Rattle.vq_board_laws.proofs.MachineSteps.{submit_shows, release_shows, assign_shows, bind_shows, complete_shows, retire_shows, refer_shows, unrefer_shows, count_shows, turn_shows}
use Rattle.vq_board_laws.proofs.laws.other_steps_show_the_same.Goals as goal

pub returns-clause-submit : goal.returns-clause-submit
returns-clause-submit c = λ p s k i j v at may. submit_shows p s k i v at j may

pub returns-clause-release : goal.returns-clause-release
returns-clause-release c = λ p s k i j v at may. release_shows p s k i v at j may

pub returns-clause-assign : goal.returns-clause-assign
returns-clause-assign c = λ p s k i q e v at may. assign_shows p s k i v at q e may

pub returns-clause-bind : goal.returns-clause-bind
returns-clause-bind c = λ p s k i e q v at may. bind_shows p s k i v at e q may

pub returns-clause-complete : goal.returns-clause-complete
returns-clause-complete c = λ p s k i e v at may. complete_shows p s k i v at (c.runs_keep.ensures p k.plan k.lawful) e may

pub returns-clause-retire : goal.returns-clause-retire
returns-clause-retire c = λ p s k i q e v at may. retire_shows p s k i v at q e may

pub returns-clause-refer : goal.returns-clause-refer
returns-clause-refer c = λ p s k q e carries. refer_shows p s k q e carries

pub returns-clause-unrefer : goal.returns-clause-unrefer
returns-clause-unrefer c = λ p s k i q e v at listed. unrefer_shows p s k i v at q e listed

pub returns-clause-count : goal.returns-clause-count
returns-clause-count c = λ p s k n. count_shows p s k n

pub returns-clause-turn : goal.returns-clause-turn
returns-clause-turn c = λ p s k n. turn_shows p s k n
