use Rattle.vq_board_laws.specs.Words.{words_of}
use Rattle.vq_board_laws.proofs.PointLaws.{assigned_free, retired_past}
use Rattle.vq_board_laws.proofs.PointParts.{none_refers}
use Rattle.vq_board_laws.proofs.laws.points_are_kept_for_references.Goals as goal

pub returns-clause-carried : goal.returns-clause-carried
returns-clause-carried c = λ p s k i q e v at listed. k.rule.references.carried i v at q e listed

pub returns-clause-counted : goal.returns-clause-counted
returns-clause-counted c = λ p s k. k.rule.references.counts

pub returns-clause-none_left : goal.returns-clause-none_left
returns-clause-none_left c = λ p s k i q e v at none. none_refers (words_of s.words).point s.views k.rule.references q none i v e at

pub returns-clause-given : goal.returns-clause-given
returns-clause-given c = λ p s k i q e f v at may. (assigned_free p s k i v at q e may).1 f

pub returns-clause-unreferred : goal.returns-clause-unreferred
returns-clause-unreferred c = λ p s k i a q e f v w at there may. (assigned_free p s k i v at q e may).2 a w f there

pub returns-clause-freed : goal.returns-clause-freed
returns-clause-freed c = λ p s k i q e v at may. retired_past p s k i v at q e may

pub returns-clause-owned : goal.returns-clause-owned
returns-clause-owned c = λ p s k. k.rule.ownership.owners

pub returns-clause-below : goal.returns-clause-below
returns-clause-below c = λ p s k i q v at mine. k.rule.ownership.owned i v at q mine

pub returns-clause-unmade : goal.returns-clause-unmade
returns-clause-unmade c = λ p s k. k.rule.points.unmade
