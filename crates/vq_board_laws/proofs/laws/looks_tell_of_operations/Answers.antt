use Rattle.vq_board_laws.specs.Words.{words_of}
use Rattle.vq_board_laws.proofs.Needs.{knows_made}
use Rattle.vq_board_laws.proofs.PointLaws.{signaled_made, unsignaled_unmade}
use Rattle.vq_board_laws.proofs.laws.looks_tell_of_operations.Goals as goal

pub returns-clause-signaled : goal.returns-clause-signaled
returns-clause-signaled c = λ p s k i q e v at listed bit. signaled_made p s k i v at q e listed bit

pub returns-clause-unsignaled : goal.returns-clause-unsignaled
returns-clause-unsignaled c = λ p s k i q e v at listed bit. unsignaled_unmade p s k i v at q e listed bit

pub returns-clause-made : goal.returns-clause-made
returns-clause-made c = λ p s k i e v at known. knows_made p (words_of s.words) s.views v.known e (c.runs_keep.ensures p k.plan k.lawful) k.rule.run (k.rule.knowledge i v at) known
