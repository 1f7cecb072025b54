use Rattle.vq_board_laws.specs.Words.{words_of}
use Rattle.vq_board_laws.proofs.Frames.{so_of}
use Rattle.vq_board_laws.proofs.laws.passes_know_what_is.Goals as goal

pub returns : goal.returns
returns c = λ p s k i v f at m. so_of (words_of s.words) v.known f (k.rule.knowledge i v at) m
