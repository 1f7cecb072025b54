-- An access whose place is true of its core: its next event may come, and the place behind it is true.
use Rattle.std.proofs.Common.{
  ◌≡◌,
  ℕ,
  ◌<◌,
  ◌^◌,
  ◌+◌,
  ◌-◌,
  ◌≤◌,
  Bool,
  true,
  false,
  List,
  length,
  drop,
  Some,
  None,
  ap₂,
  refl,
  sym,
  subst,
  ap,
}
use Rattle.std.proofs.Common.{◌∙◌, ◌∷◌, [], arith}
use Rattle.std.specs.List.{slice_get}
use Rattle.std.proofs.Math.Logic.{∥∥₁_elim}
use Rattle.std.proofs.lemmas.List.Sums.{fold-append}
use Rattle.vq_model.specs.declared.script.ActorName.{ActorName}
use Rattle.vq_model.specs.declared.plan.Event.{Event}
use Rattle.vq_model.specs.declared.plan.Event.TheVariants.{Submit as Submits, Release as Releases, Bind as Binds}
use Rattle.vq_model.specs.declared.plan.Event.TheVariants.{Start as Starts, Apply as Applies, Signal as Signals}
use Rattle.vq_model.specs.declared.plan.Event.TheVariants.{Finish as Finishes, Answer as AnswersAs, Refer, Look, Unref}
use Rattle.vq_model.specs.declared.plan.Question.{Question}
use Rattle.vq_model.specs.declared.plan.Need.{Need}
use Rattle.vq_model.specs.Plan.{Plan}
use Rattle.vq_point_laws.specs.Points.{PointState, after_event, opening_points}
use Rattle.vq_turns.specs.Programs.{program}
use Rattle.vq_turns.specs.Turns.{
  Place,
  forward,
  taken,
  collected,
  found,
  unbound_before,
  point_of,
  held_for,
  holding_also,
}
use Rattle.vq_turns.specs.Turns.{without_first, answer_by, seeing, past_value}
use Rattle.vq_turns.specs.declared.look.Found.TheVariants.{Past, Pending}
use Rattle.vq_turns.specs.declared.look.Holding.{Holding}
use Rattle.vq_turns.specs.declared.task.Task.{Task}
use Rattle.vq_turns.specs.declared.task.Task.TheVariants.{AwaitNeeds, Submit, Take, Release, Bind, Start, Apply, Signal}
use Rattle.vq_turns.specs.declared.task.Task.TheVariants.{Compare, Answer, Finish}
use Rattle.vq_turns.specs.declared.outcome.Outcome.TheVariants.{Moved}
use Rattle.vq_turn_laws.specs.PlanParts.{IsOrderly}
use Rattle.vq_turn_laws.specs.TruePlaces.{IsTrueFor, IsTrueTurn}
use Rattle.vq_turn_laws.specs.Places.{IsDone}
use Rattle.vq_turn_laws.specs.Tasks.{is_waiting, is_asking}
use Rattle.vq_turn_laws.proofs.Cited.{plan_orderly, Reached, reached, true_for_prop, is_plain, goes_on, collects}
use Rattle.vq_turn_laws.proofs.Cited.{
  call_submit,
  call_release,
  call_take,
  call_bind,
  call_start,
  call_apply,
  call_signal,
}
use Rattle.vq_turn_laws.proofs.Cited.{call_finish, call_refer, call_look, call_unref, call_met, call_over}
use Rattle.vq_turn_laws.proofs.Cited.{call_answer, call_compare, next_left}
use Rattle.vq_core_run.specs.Seats.{HoldsForNeeds, IsSeated}
use Rattle.vq_core.specs.CoreState.{Course, IsCourse, world}
use Rattle.vq_core_run.specs.CoreAccesses.{with_event}
use Rattle.vq_actor.specs.Answers.{answered}
use Rattle.vq_actor.specs.Trackers.{Tracked, FitsIn}
use Rattle.vq_actor.specs.Waits.{looked_at, given_back, met_at}
use Rattle.vq_actor.proofs.Cited.{fits_short, fits_still, fits_forward, fits_answer, fits_see, fits_pass}
use Rattle.vq_actor.proofs.Cited.{fits_give_back}
use Rattle.vq_core_run.proofs.Holding.{nothing_held, held_also, held_behind, need_of}

-- one event more leads to the world after it
pub world_after : (c d : Course) (event : Event) → d ≡ with_event c event → world d ≡ after_event c.plan (world c) event
world_after c d event e =
    ap world e ∙ fold-append (after_event c.plan) (opening_points c.plan) c.history (event ∷ [])

at_most : (m n : ℕ) → m ≡ n → m ≤ n
at_most m n e = omega arith

pub plan_after : (c d : Course) (event : Event) → d ≡ with_event c event → c.plan ≡ d.plan
plan_after c d event e = sym (ap (λ (z : Course). z.plan) e)

module _ (c : Course) (i : IsCourse c) (a : ActorName) (seat : Tracked) (s : IsSeated c a seat) where
  abbrev x : Place
  x = seat.place

  abbrev tasks : List Task
  tasks = program c.plan a

  pub here : IsTrueFor c.plan (world c) a x
  here = ∥∥₁_elim s.stands (true_for_prop c.plan (world c) a x) (λ z. z)

  pub orderly : IsOrderly c.plan
  orderly = plan_orderly c.plan i.read i.lawful

  pub at_world : Reached c.plan (world c)
  at_world = reached c.plan orderly c.history i.history_from

  -- The turns of tasks

  abbrev IsNextTask : Task → Type 0
  IsNextTask u = slice_get (program c.plan a) x.done ≡ Some u

  abbrev Turns : Event → Place → Type 0
  Turns event y = IsTrueTurn c.plan (world c) a (Moved event) y

  pub turns_submit : (j : ℕ) → IsNextTask (Submit j) → Turns (Submits j) (forward x)
  turns_submit j n = call_submit c.plan orderly (world c) at_world a x j n here

  pub turns_release : (j : ℕ) → IsNextTask (Release j) → Turns (Releases j) (forward x)
  turns_release j n = call_release c.plan orderly (world c) at_world a x j n here

  pub turns_take : (e u : ℕ) → IsNextTask (Take e u) → Turns (taken (world c) e u) (forward x)
  turns_take e u n = call_take c.plan orderly (world c) at_world a x e u n here

  pub turns_bind : (e : ℕ) → unbound_before c.plan (world c) e ≡ None → IsNextTask (Bind e) →
      Turns (Binds e (point_of (world c) e)) (forward x)
  turns_bind e none n = call_bind c.plan orderly (world c) at_world a x e none n here

  pub turns_start : (j : ℕ) → IsNextTask (Start j) → Turns (Starts j) (forward x)
  turns_start j n = call_start c.plan orderly (world c) at_world a x j n here

  pub turns_apply : (j d : ℕ) → IsNextTask (Apply j d) → Turns (Applies j d) (forward x)
  turns_apply j d n = call_apply c.plan orderly (world c) at_world a x j d n here

  pub turns_signal : (e : ℕ) → (world c).bound e ≡ true → IsNextTask (Signal e) → Turns (Signals e) (forward x)
  turns_signal e bound n = call_signal c.plan orderly (world c) at_world a x e bound n here

  pub turns_finish : (j : ℕ) → IsNextTask (Finish j) → Turns (Finishes j) (forward x)
  turns_finish j n = call_finish c.plan orderly (world c) at_world a x j n here

  pub turns_collect : (u : Task) → IsNextTask u → (chain : ℕ) (event : Event) →
      collected c.plan (world c) chain ≡ Some event → Turns event x
  turns_collect u n chain event is = collects c.plan orderly (world c) at_world a x u n here chain event is

  pub turns_refer : (ns : List Need) → IsNextTask (AwaitNeeds ns) → x.met ≡ false →
      (k : ℕ) (need : Need) (e q : ℕ) → slice_get ns k ≡ Some need → held_for k x.holding ≡ None →
      found c.plan (world c) need.chain need.value ≡ Some (Pending e q) → Turns (Refer a q e) (holding_also x k e q)
  turns_refer ns n m k need e q at none f = call_refer c.plan orderly (world c) at_world a x ns n here m k need e q
      at none f

  pub turns_look : (ns : List Need) → IsNextTask (AwaitNeeds ns) → x.met ≡ false → (k q e : ℕ) →
      held_for k x.holding ≡ Some (record { need = k; point = q; op = e }) → (world c).machine.progress.made e ≡ true →
      Turns (Look a q e) (looked_at x)
  turns_look ns n m k q e is made =
      let need = need_of tasks x ns n k q e is s.for_needs in
      call_look c.plan orderly (world c) at_world a x ns n here m k need.0 (record { need = k; point = q; op = e })
      need.1 is made

  pub turns_unref : (ns : List Need) → IsNextTask (AwaitNeeds ns) → x.met ≡ true →
      (g : Holding) (hs : List Holding) → x.holding ≡ g ∷ hs → Turns (Unref a g.point g.op) (without_first x hs)
  turns_unref ns n m g hs e = call_unref c.plan orderly (world c) at_world a x ns n here m g hs e

  pub turns_answer : (j : ℕ) (q : Question) → IsNextTask (Answer j q) →
      Turns (AnswersAs j (answer_by q x.seen)) (answered x)
  turns_answer j q n = call_answer c.plan orderly (world c) at_world a x j q n here

  -- the place that a turn's event leads to is true
  pub seated_after : (d : Course) (event : Event) (y : Tracked) (z : Place) → d ≡ with_event c event → y.place ≡ z →
      FitsIn tasks y → HoldsForNeeds tasks z → Turns event z → IsSeated d a y
  seated_after d event y z e same fits held turn =
      let plan = plan_after c d event e in
      record {
        fits = subst (λ (p : Plan). FitsIn (program p a) y) plan fits;
        for_needs = subst (λ (p : Plan). HoldsForNeeds (program p a) y.place) plan
            (subst (HoldsForNeeds tasks) (sym same) held);
        stands = ∣ subst (λ (p : Plan). IsTrueFor p (world d) a y.place) plan
            (subst (λ (w : PointState). IsTrueFor c.plan w a y.place) (sym (world_after c d event e))
            (subst (λ (u : Place). IsTrueFor c.plan (after_event c.plan (world c) event) a u) (sym same) turn.2)) ∣₁;
      }

  -- a look leads to another place of the same world
  seated_at : (y : Tracked) (z : Place) → y.place ≡ z → FitsIn tasks y → HoldsForNeeds tasks z →
      IsTrueFor c.plan (world c) a z → IsSeated c a y
  seated_at y z same fits held stands =
      record {
        fits = fits;
        for_needs = subst (HoldsForNeeds tasks) (sym same) held;
        stands = ∣ subst (IsTrueFor c.plan (world c) a) (sym same) stands ∣₁;
      }

  module _ (u : Task) (n : IsNextTask u) where
    -- one task more can be counted
    pub counts : x.done < 2 ^ 64 - 1
    counts = fits_short tasks seat u n s.fits

    -- between waits nothing is held
    held_none : is_waiting (u ∷ drop (x.done + 1) tasks) ≡ false → x.holding ≡ []
    held_none w = (subst (λ (ts : List Task). is_waiting ts ≡ false → (x.holding ≡ []) × (x.met ≡ false)) (next_left
        x.done tasks u n) here.stands.between w).0

    -- Collection on a chain, before a task.
    pub seated_collected : (d : Course) (event : Event) → d ≡ with_event c event → Turns event x → IsSeated d a seat
    seated_collected d event e turn = seated_after d event seat x e refl s.fits s.for_needs turn

    module _ (w : is_waiting (u ∷ drop (x.done + 1) tasks) ≡ false) where
      -- The event of a task that is no wait.
      pub seated_next : (d : Course) (event : Event) (y : Tracked) → d ≡ with_event c event →
          y ≡ record seat { place = forward x } → Turns event (forward x) → IsSeated d a y
      seated_next d event y e same turn =
          seated_after d event y (forward x) e (ap (λ (z : Tracked). z.place) same)
          (fits_forward tasks seat u n s.fits y same) (nothing_held tasks (forward x) (held_none w)) turn

      pub seated_answered : (d : Course) (event : Event) (y : Tracked) → d ≡ with_event c event →
          y ≡ record seat { place = answered x } → Turns event (answered x) → IsSeated d a y
      seated_answered d event y e same turn =
          seated_after d event y (answered x) e (ap (λ (z : Tracked). z.place) same)
          (fits_answer tasks seat u n s.fits y same) (nothing_held tasks (answered x) (held_none w)) turn

      -- A look that finds its thing so.
      pub seated_looked : (y : Tracked) → y ≡ record seat { place = forward x } → is_plain u ≡ true →
          is_asking (u ∷ drop (x.done + 1) tasks) ≡ false → IsDone (world c) u → IsSeated c a y
      seated_looked y same plain k done =
          seated_at y (forward x) (ap (λ (z : Tracked). z.place) same) (fits_forward tasks seat u n s.fits y same)
          (nothing_held tasks (forward x) (held_none w))
          (goes_on c.plan orderly (world c) at_world a x u n here plain w k done)

  -- A comparison with a chain's past value.
  pub seated_seen : (chain v : ℕ) (n : IsNextTask (Compare chain v)) → collected c.plan (world c) chain ≡ None →
      (y : Tracked) → y ≡ record seat { place = seeing x v (past_value c.plan (world c) chain) } → IsSeated c a y
  seated_seen chain v n none y same =
      let past = past_value c.plan (world c) chain in
      seated_at y (seeing x v past) (ap (λ (z : Tracked). z.place) same)
      (fits_see tasks seat (Compare chain v) n s.fits chain v past refl y same)
      (nothing_held tasks (seeing x v past) (held_none (Compare chain v) n refl))
      (call_compare c.plan orderly (world c) at_world a x chain v none n here)

  -- Waits

  module _ (ns : List Need) (n : IsNextTask (AwaitNeeds ns)) where
    wait : Task
    wait = AwaitNeeds ns

    -- A reference to the point that was found.
    pub seated_referred : x.met ≡ false → (k : ℕ) (need : Need) (e q : ℕ) → slice_get ns k ≡ Some need →
        (d : Course) (y : Tracked) → d ≡ with_event c (Refer a q e) →
        y ≡ record seat { place = holding_also x k e q } → Turns (Refer a q e) (holding_also x k e q) →
        IsSeated d a y
    seated_referred m k need e q at d y after same turn =
        let fits = fits_still tasks seat (AwaitNeeds ns) n s.fits y (ap (λ (z : Tracked). z.slots) same) (ap
        (λ (z : Tracked). z.room) same) (ap (λ (z : Tracked). z.place.done) same)
        (at_most (length y.place.seen) (length x.seen) (ap (λ (z : Tracked). length z.place.seen) same)) in
        seated_after d (Refer a q e) y (holding_also x k e q) after (ap (λ (z : Tracked). z.place) same) fits
        (held_also tasks x ns n k e q need at s.for_needs) turn

    -- A look at a reference, which ends the waiting.
    pub seated_met : (d : Course) (event : Event) (y : Tracked) → d ≡ with_event c event →
        y ≡ record seat { place = looked_at x } → Turns event (looked_at x) → IsSeated d a y
    seated_met d event y after same turn =
        let fits = fits_still tasks seat (AwaitNeeds ns) n s.fits y (ap (λ (z : Tracked). z.slots) same) (ap
        (λ (z : Tracked). z.room) same) (ap (λ (z : Tracked). z.place.done) same)
        (at_most (length y.place.seen) (length x.seen) (ap (λ (z : Tracked). length z.place.seen) same)) in
        seated_after d event y (looked_at x) after (ap (λ (z : Tracked). z.place) same) fits s.for_needs turn

    -- The first reference is given back; after the last one the actor goes on.
    pub seated_returned : (g : Holding) (hs : List Holding) → x.holding ≡ g ∷ hs → (d : Course) (event : Event)
        (y : Tracked) → d ≡ with_event c event → y ≡ record seat { place = given_back x x.holding } →
        Turns event (without_first x hs) → IsSeated d a y
    seated_returned g hs held d event y after same turn =
        seated_after d event y (without_first x hs) after (ap (λ (z : Tracked). z.place) same
        ∙ ap (given_back x) held) (fits_give_back tasks seat (AwaitNeeds ns) n s.fits y same) (by_rest hs held) turn
      where
        by_rest : (fs : List Holding) → x.holding ≡ g ∷ fs → HoldsForNeeds tasks (without_first x fs)
        by_rest [] e = nothing_held tasks (without_first x []) refl
        by_rest (f ∷ fs) e = held_behind tasks x ns n g f fs e s.for_needs

    -- A need that is past: what is held has to be given back, and where nothing is the actor goes on.
    pub seated_past : x.met ≡ false → (k : ℕ) (need : Need) → slice_get ns k ≡ Some need →
        found c.plan (world c) need.chain need.value ≡ Some Past → (y : Tracked) →
        y ≡ record seat { place = met_at x x.holding } → IsSeated c a y
    seated_past m k need at f y same = by_holding x.holding refl
      where
        met_now : IsTrueFor c.plan (world c) a (looked_at x)
        met_now = call_met c.plan orderly (world c) at_world a x ns n here m k need at f

        is_at : (hs : List Holding) → x.holding ≡ hs → y.place ≡ met_at x hs
        is_at hs e = ap (λ (z : Tracked). z.place) same ∙ ap (met_at x) e

        by_holding : (hs : List Holding) → x.holding ≡ hs → IsSeated c a y
        by_holding [] e =
            let behind : record (forward x) { holding = []; met = false } ≡ forward x =
            ap₂ (λ (hs : List Holding) (b : Bool). record (forward x) { holding = hs; met = b }) (sym e) (sym m) in
            seated_at y (forward x) (is_at [] e) (fits_pass tasks seat (AwaitNeeds ns) n s.fits y same)
            (nothing_held tasks (forward x) e)
            (subst (IsTrueFor c.plan (world c) a) behind
            (call_over c.plan orderly (world c) at_world a (looked_at x) ns n met_now refl e))
        by_holding (h ∷ hs) e =
            seated_at y (looked_at x) (is_at (h ∷ hs) e) (fits_pass tasks seat (AwaitNeeds ns) n s.fits y same)
            s.for_needs met_now
