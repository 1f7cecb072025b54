use Rattle.vq_access_laws.proofs.Truths.{fresh_true}
use Rattle.vq_turns.specs.Turns.{first_place}
use Rattle.std.proofs.Common.{refl}
use Rattle.vq_access_laws.proofs.laws.first_places_are_true_of_passes.Goals as goal

pub returns : goal.returns
returns c p a n = fresh_true p a n (λ b. first_place) (λ b s. refl)
