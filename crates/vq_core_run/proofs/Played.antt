-- A turn that was played, said of equals.
use Rattle.std.proofs.Common.{◌≡◌, subst}
use Rattle.vq_model.specs.declared.script.ActorName.{ActorName}
use Rattle.vq_turns.specs.declared.outcome.Outcome.{Outcome}
use Rattle.vq_core_run.specs.Casts.{Cast, Plays}

pub played_so : (x y z : Cast) (a b : ActorName) (o : Outcome) → x ≡ y → a ≡ b → Plays x z a o → Plays y z b o
played_so x y z a b o e f h =
    subst (λ (w : Cast). Plays w z b o) e (subst (λ (n : ActorName). Plays x z n o) f h)
