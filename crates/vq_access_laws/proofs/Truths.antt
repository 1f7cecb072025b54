-- That places are true has at most one proof; the first places are true of a pass that has done nothing; places that
-- agree are as true; and a table is known by its numbers.
use Rattle.std.proofs.Common.{◌≡◌, ℕ, true, List, [], ◌∷◌, None, refl, sym, ap, subst, drop, not, is_some, length, count_by, slice_index}
use Rattle.std.proofs.Props.{props}
use Rattle.std.specs.List.{list_all}
use Rattle.std.proofs.lemmas.Bool.{false≢true, and_from}
use Rattle.atomic_table.specs.Seated.{TableId}
use Rattle.vq_model.specs.declared.script.ActorName.{ActorName}
use Rattle.vq_model.specs.declared.plan.Need.{Need}
use Rattle.vq_model.specs.Outputs.{asking}
use Rattle.vq_model.specs.Plan.{Plan}
use Rattle.vq_ground.specs.Lists.{has}
use Rattle.vq_turns.specs.declared.task.Task.{Task}
use Rattle.vq_turns.specs.declared.task.Task.TheVariants.{AwaitSubmitted, AwaitReleased, AwaitFinished, AwaitBound, AwaitNeeds, Submit, Take, Release, Bind, Start, Apply, Signal, Compare, Answer, Finish}
use Rattle.vq_turns.specs.Programs.{program}
use Rattle.vq_turns.specs.Turns.{Place, first_place}
use Rattle.vq_actor.specs.Stages.{Serves}
use Rattle.vq_board_laws.specs.declared.view.View.{View}
use Rattle.vq_board_laws.specs.Reached.{answer_told}
use Rattle.vq_board_laws.specs.Roles.{role_number}
use Rattle.vq_board_laws.specs.Rule.{fresh}
use Rattle.vq_access_laws.specs.AccessMeanings.{names_of}
use Rattle.vq_access_laws.specs.TrueTasks.{is_left}
use Rattle.vq_access_laws.specs.TruePasses.{AreTrue, IsOwn, HasDone, HoldsAs, are_told_once, role_of_actor, is_to, tasks_before, tasks_left}
use Rattle.vq_access_laws.proofs.ServedActors.{serves_itself}

-- One proof

holds_prop : (p : Plan) (v : View) (ns : List Need) (x : Place) → IsProp (HoldsAs p v ns x)
holds_prop p v ns x = Prim.hlevel props

done_prop : (p : Plan) (v : View) (before after : List Task) → IsProp (HasDone p v before after)
done_prop p v before after = Prim.hlevel props

-- The first places

none_left : (v : View) → v.submitted ≡ [] → v.released ≡ [] → v.begun ≡ [] → v.told ≡ [] → (t : Task) → is_left v t ≡ true
none_left v s r b t (AwaitSubmitted j) = refl
none_left v s r b t (AwaitReleased j) = refl
none_left v s r b t (AwaitFinished j) = refl
none_left v s r b t (AwaitBound e) = refl
none_left v s r b t (AwaitNeeds ns) = refl
none_left v s r b t (Submit j) = ap (λ js. not (has js j)) s
none_left v s r b t (Take e c) = refl
none_left v s r b t (Release j) = ap (λ js. not (has js j)) r
none_left v s r b t (Bind e) = refl
none_left v s r b t (Start j) = ap (λ js. not (has js j)) b
none_left v s r b t (Apply j c) = refl
none_left v s r b t (Signal e) = refl
none_left v s r b t (Compare c w) = refl
none_left v s r b t (Answer j asks) = ap (λ ts. not (is_some (answer_told ts j))) t
none_left v s r b t (Finish j) = refl

-- a pass that has done nothing but to be cut
pub record HasDoneNothing (v : View) : Type 0 where
  pub submitted : v.submitted ≡ []
  pub released : v.released ≡ []
  pub begun : v.begun ≡ []
  pub told : v.told ≡ []
  pub runs : v.runs ≡ None
  pub held : v.held ≡ None
  pub refs : v.refs ≡ []

pub first_true : (p : Plan) (a : ActorName) (v : View) (places : ActorName → Place) →
    v.role ≡ role_number p (role_of_actor p a) → HasDoneNothing v → ((b : ActorName) → Serves p a b → places b ≡ first_place) →
    AreTrue p a v places
first_true p a v places role idle first = record {
  role = role;
  told = ap (λ ts. are_told_once (asking p) ts) idle.told;
  own = subst (λ (x : Place). IsOwn p v (tasks_before p a x) (tasks_left p a x) x) (sym (first a (serves_itself p a))) record {
    runs = record { job = idle.runs; counts = λ x is. absurd (let z = is in cc) };
    turnless = idle.held;
    holds = record {
      refs = λ q e. ap (λ rs. count_by (is_to q e) rs) idle.refs;
      count = ap length idle.refs;
      for_needs = refl;
      rising = refl;
      met = λ is. absurd (false≢true is);
    };
    rest = record { met = λ _. refl; saw = λ _. refl; unseen = λ _. refl };
  };
  served = λ b s. subst (λ (x : Place). HasDone p v (tasks_before p b x) (tasks_left p b x)) (sym (first b s)) record {
    done = refl;
    left = all_left (program p b);
  };
}
  where
    all_left : (ts : List Task) → list_all (is_left v) ts ≡ true
    all_left [] = refl
    all_left (t ∷ ts) = and_from (is_left v t) (list_all (is_left v) ts)
        (none_left v idle.submitted idle.released idle.begun idle.told t) (all_left ts)

-- of the pass that a board deals, fresh or cut
pub fresh_true : (p : Plan) (a : ActorName) (n : ℕ) (places : ActorName → Place) →
    ((b : ActorName) → Serves p a b → places b ≡ first_place) →
    AreTrue p a (record (fresh p (role_number p (role_of_actor p a))) { given = n }) places
fresh_true p a n places first = first_true p a (record (fresh p (role_number p (role_of_actor p a))) { given = n }) places refl
    record { submitted = refl; released = refl; begun = refl; told = refl; runs = refl; held = refl; refs = refl } first

-- Places that agree

pub true_alike : (p : Plan) (a : ActorName) (v : View) (places others : ActorName → Place) →
    ((b : ActorName) → Serves p a b → others b ≡ places b) → AreTrue p a v places → AreTrue p a v others
true_alike p a v places others same k = record {
  role = k.role;
  told = k.told;
  own = subst (λ (x : Place). IsOwn p v (tasks_before p a x) (tasks_left p a x) x) (sym (same a (serves_itself p a))) k.own;
  served = λ b s. subst (λ (x : Place). HasDone p v (tasks_before p b x) (tasks_left p b x)) (sym (same b s)) (k.served b s);
}

-- Tables

-- a table with the same numbers is the same
pub names_same : (y z : TableId) → names_of y ≡ names_of z → y ≡ z
names_same y z e =
    λ i. record {
      words = ap (λ (xs : List ℕ). slice_index xs 0) e i;
      slots = ap (λ (xs : List ℕ). slice_index xs 1) e i;
      views_name = ap (λ (xs : List ℕ). slice_index xs 2) e i;
      atom = ap (λ (xs : List ℕ). slice_index xs 3) e i;
      block = ap (λ (xs : List ℕ). slice_index xs 4) e i;
      offset = ap (λ (xs : List ℕ). slice_index xs 5) e i;
      slot_names = ap (λ (xs : List ℕ). drop 6 xs) e i;
    }
