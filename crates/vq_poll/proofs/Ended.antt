-- What a wait that has answered gives.
use Rattle.std.proofs.Common.{◌≡◌, ℕ, length, Option, Some, IfSome, ◌∙◌, subst}
use Rattle.futures.specs.declared.task.Poll.{Poll}
use Rattle.futures.specs.declared.task.Poll.TheVariants.{Ready, Pending}
use Rattle.futures.specs.Poll.{IfReady}
use Rattle.vq_board.specs.declared.parts.Pass.{Pass}
use Rattle.vq_board.specs.Named.{view, IsOf}
use Rattle.vq_poll.specs.declared.awaited.Awaited.{Awaited}
use Rattle.vq_poll.specs.declared.pairs.Met.{Met}
use Rattle.vq_poll.specs.declared.pairs.WaitMode.{WaitMode}
use Rattle.vq_poll.specs.declared.pairs.WaitMode.TheVariants.{All}
use Rattle.vq_poll.specs.declared.wait.Wait.{Wait}
use Rattle.vq_poll.specs.Missing.{IsMet, KnowsMet, KnowsFirst}
use Rattle.vq_poll.specs.Owning.{GivesBack}
use Rattle.vq_poll.specs.Waiting.{CanWait, IsAnswered, Stays, plan_in, pairs_in}
use Rattle.vq_poll.specs.Watching.{plan_at}

-- with its pass, the wait gives back what the pass knows of it
gives_own : (w : Wait) (x : Pass) (m : Met) → CanWait w x → w.met ≡ Some m → GivesBack w m x
gives_own w x m can is =
    let answered : IsAnswered w x m = subst (λ (o : Option Met). IfSome o (IsAnswered w x)) is can.ended in
    record {
      is_met = answered.is_met;
      board_is = can.can_read.pass_is;
      knows = answered.knows;
      knows_all = λ all. subst (λ (n : ℕ). KnowsFirst (plan_in w) (view x).known (pairs_in w) n) (answered.all all) (can.first all);
    }

-- only the loans, the pairs and the mode matter
pub same_gives : (v w : Wait) (x : Pass) (m : Met) → Stays v w → GivesBack w m x → GivesBack v m x
same_gives v w x m stays h =
    record {
      is_met = subst (λ (a : Awaited). IsMet (plan_at a.watched) v.mode a.pairs.items m) stays.0 (subst (λ (q : WaitMode). IsMet (plan_in w) q (pairs_in w) m) stays.1 h.is_met);
      board_is = subst (λ (a : Awaited). IsOf a.watched.board.now x) stays.0 h.board_is;
      knows = subst (λ (a : Awaited). KnowsMet (plan_at a.watched) (view x).known a.pairs.items m) stays.0 h.knows;
      knows_all = λ all. subst (λ (a : Awaited). KnowsFirst (plan_at a.watched) (view x).known a.pairs.items (length a.pairs.items)) stays.0 (h.knows_all (stays.1 ∙ all));
    }

pub gives_back : (v w : Wait) (x : Pass) (m : Met) → Stays v w → CanWait w x → w.met ≡ Some m → GivesBack v m x
gives_back v w x m stays can is = same_gives v w x m stays (gives_own w x m can is)

pub ready_back : (v w : Wait) (x : Pass) (r : Poll Met) → Stays v w → CanWait w x → IfReady r (λ m. w.met ≡ Some m) → IfReady r (λ m. GivesBack v m x)
ready_back v w x (Ready m) stays can is = gives_back v w x m stays can is
ready_back v w x Pending stays can is = tt

-- part by part
pub ready_met : (v : Wait) (x : Pass) (r : Poll Met) → IfReady r (λ m. GivesBack v m x) → IfReady r (IsMet (plan_in v) v.mode (pairs_in v))
ready_met v x (Ready m) h = h.is_met
ready_met v x Pending h = tt

pub ready_knows : (v : Wait) (x : Pass) (r : Poll Met) → IfReady r (λ m. GivesBack v m x) → IfReady r (KnowsMet (plan_in v) (view x).known (pairs_in v))
ready_knows v x (Ready m) h = h.knows
ready_knows v x Pending h = tt

pub ready_all : (v : Wait) (x : Pass) (r : Poll Met) → v.mode ≡ All → IfReady r (λ m. GivesBack v m x) → IfReady r (λ _. KnowsFirst (plan_in v) (view x).known (pairs_in v) (length (pairs_in v)))
ready_all v x (Ready m) all h = h.knows_all all
ready_all v x Pending all h = tt
