-- Who is served, and where those stand who are.
use Rattle.std.proofs.Common.{◌≡◌, true, refl, sym}
use Rattle.vq_model.specs.declared.script.ActorName.{ActorName}
use Rattle.vq_model.specs.declared.script.ActorName.TheVariants.{Host, Submit, Ring}
use Rattle.vq_model.specs.Plan.{Plan}
use Rattle.vq_model.proofs.Actors.{same_actor_is}
use Rattle.vq_actor.specs.Stages.{Serves}
use Rattle.vq_access.specs.Served.{is_served}

pub serves_of : (p : Plan) (a b : ActorName) → is_served p a b ≡ true → Serves p a b
serves_of p Host Host h = refl
serves_of p Host (Submit q) h = h
serves_of p Host (Ring q) h = absurd (cc)
serves_of p (Submit q) Host h = absurd (cc)
serves_of p (Submit q) (Submit r) h = sym (same_actor_is (Submit q) (Submit r) h)
serves_of p (Submit q) (Ring r) h = absurd (cc)
serves_of p (Ring q) Host h = absurd (cc)
serves_of p (Ring q) (Submit r) h = absurd (cc)
serves_of p (Ring q) (Ring r) h = sym (same_actor_is (Ring q) (Ring r) h)
