use Rattle.vq_core_laws.proofs.Cited.{facts}
use Rattle.vq_timeline_laws.proofs.Binding.{among, not_among}
use Rattle.vq_timeline_laws.proofs.Places.{held_below, owned_is}
use Rattle.vq_timeline_laws.proofs.laws.lists_are_those_of_the_pass.Goals as goal

pub returns-clause-bound : goal.returns-clause-bound
returns-clause-bound c = λ p t l v x i e at low. among p t l.bound i e v.bound x.lists.bound_are at low

pub returns-clause-unbound : goal.returns-clause-unbound
returns-clause-unbound c = λ p t l v x i e at behind.
    not_among p (facts p x.plan x.lawful) t l.bound i e v.bound x.lists.bound_are at behind

pub returns-clause-past : goal.returns-clause-past
returns-clause-past c = λ p t l v x i e at low. among p t l.completed i e v.past x.lists.past_are at low

pub returns-clause-pending : goal.returns-clause-pending
returns-clause-pending c = λ p t l v x i e at behind.
    not_among p (facts p x.plan x.lawful) t l.completed i e v.past x.lists.past_are at behind

pub returns-clause-owned : goal.returns-clause-owned
returns-clause-owned c = owned_is

pub returns-clause-exists : goal.returns-clause-exists
returns-clause-exists c = held_below
