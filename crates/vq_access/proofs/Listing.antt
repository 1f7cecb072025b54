-- What the lists of a chain tell an actor at a board.
use Rattle.std.proofs.Common.{◌≡◌, ◌≤◌, ℕ, true, List, Option, Err, Some, None, IfSome, length, option_map, refl, sym, ap, ◌∙◌, subst, arith}
use Rattle.std.specs.List.{slice_get}
use Rattle.std.specs.Borrow.{GName}
use Rattle.std.proofs.lemmas.Option.{same_Some}
use Rattle.vq_ground.proofs.Gets.{get_has}
use Rattle.vq_model.specs.Checks.{IsLawful}
use Rattle.vq_model.specs.LoweredPlans.{IsPlan}
use Rattle.vq_model.specs.Plan.{Plan, chain, chain_of}
use Rattle.vq_ground.specs.Lists.{has}
use Rattle.vq_model.specs.declared.plan.Op.{Op}
use Rattle.vq_model.specs.declared.plan.Event.{Event}
use Rattle.vq_model.specs.declared.script.ActorName.{ActorName}
use Rattle.vq_point_laws.specs.Points.{PointState}
use Rattle.vq_turns.specs.declared.outcome.Want.{Want}
use Rattle.vq_turns.specs.declared.task.Task.TheVariants.{Take, Bind, Compare}
use Rattle.vq_turns.specs.Turns.{Place, forward, seeing}
use Rattle.std.specs.Prelude.{Result, Ok, IfOk, IfErr}
use Rattle.vq_actor.specs.Answers.{AnswersTry}
use Rattle.vq_actor.specs.Collections.{AnswersPast}
use Rattle.vq_actor.specs.Meanings.{Recent}
use Rattle.vq_board_laws.specs.declared.view.View.{View}
use Rattle.vq_board_laws.specs.Learning.{Learns as Looked, Learns}
use Rattle.vq_payload.specs.Tests.{saw_payload}
use Rattle.vq_timeline.specs.declared.parts.Collected.{Collected}
use Rattle.vq_timeline.specs.declared.parts.Collected.TheVariants.{Completed}
use Rattle.vq_timeline_laws.specs.Shelves.{State}
use Rattle.vq_timeline.specs.declared.timeline.LockedTimeline.{LockedTimeline}
use Rattle.vq_access.specs.Timelines.{HasAsked, HasAskedOr}
use Rattle.vq_timeline.specs.Answers.{Collects}
use Rattle.vq_timeline.specs.Named.{chain_at, state_of}
use Rattle.vq_access.specs.Shown.{IsShownAt}
use Rattle.vq_access_laws.specs.AccessMeanings.{meaning_of, answers_told}
use Rattle.vq_access_laws.specs.Causes.{Refusals, refused, is_of_lists}
use Rattle.vq_access_laws.specs.Tests.{saw_value}
use Rattle.vq_access_laws.proofs.Cited.{refused_now, saw_read, true_learned, true_taken, true_bound, true_compared}
use Rattle.vq_access.specs.declared.post.Post.{Post}
use Rattle.vq_access.specs.Seatings.{places_of}
use Rattle.vq_access.proofs.Posting.{at, here, seen_by, IsNextTask, AreTrueOf, served, next_there, goes_forward, goes_to, there}
use Rattle.vq_access.proofs.Replies.{keeps, refuses}
use Rattle.vq_access.proofs.Untaking.{learned_steps, learned_told}

-- what was completed is of the chain
pub completed_there : (p : Plan) (t u : ℕ) (x y : State) (r : Collected) (e : ℕ) → Collects p t x y r → r ≡ Completed e →
    t ≡ u → has (chain p u) e ≡ true
completed_there p t u x y r e k is same =
    let done = subst (Collects p t x y) is k in
    subst (λ (z : ℕ). has (chain p z) e ≡ true) same (get_has (chain p t) done.entry.index e done.operation)

-- the same of what was asked, where it was
pub completed_by : (p : Plan) (x : LockedTimeline) (u : ℕ) (r : Option Collected) → IfSome r (HasAsked p x) →
    chain_at x ≡ u → IfSome r (λ k. (e : ℕ) → k ≡ Completed e → has (chain p u) e ≡ true)
completed_by p x u None k same = tt
completed_by p x u (Some r) k same = λ e is.
    completed_there p (chain_at x) u (state_of k.0) (state_of k.1) r e k.4 is same

-- what was answered, where it is known
pub ok_of : {A E : Type 0} (r : Result A E) (P : A → Type 0) (a : A) → r ≡ Ok a → IfOk r P → P a
ok_of r P a e h = subst (λ z. IfOk z P) e h

pub err_of : {A E : Type 0} (r : Result A E) (P : E → Type 0) (x : E) → r ≡ Err x → IfErr r P → P x
err_of r P x e h = subst (λ z. IfErr z P) e h

-- the timeline of the chain was asked, or its lists were in use
pub asked_or : (tries : Type 0) (p : Plan) (x : LockedTimeline) (r : Option Collected) → IfSome r (HasAsked p x) →
    (r ≡ None → tries) → HasAskedOr tries p x r
asked_or tries p x None k in_use = in_use refl
asked_or tries p x (Some r) k in_use = k

pub asked_there : (tries : Type 0) (p : Plan) (x y : LockedTimeline) (r : Option Collected) → Some x ≡ Some y →
    HasAskedOr tries p x r → HasAskedOr tries p y r
asked_there tries p x y r e k = subst (λ (z : LockedTimeline). HasAskedOr tries p z r) (same_Some x y e) k

-- it is the timeline of the operation's chain
pub asked_at : (b p : Plan) (ts : List LockedTimeline) (e t : ℕ) (o : Op) (x y : LockedTimeline) → b ≡ p →
    slice_get b.ops e ≡ Some o → chain_of p e ≡ Some t → slice_get ts o.chain ≡ Some x → slice_get ts t ≡ Some y → x ≡ y
asked_at b p ts e t o x y same is of here there =
    let at = subst (λ (z : Plan). slice_get z.ops e ≡ Some o) same is in
    let number = same_Some o.chain t (sym (ap (option_map (λ (z : Op). z.chain)) at) ∙ of) in
    same_Some x y (sym here ∙ (ap (λ (n : ℕ). slice_get ts n) number ∙ there))

-- a refusal of lists is kept, after which the pass has this view
pub refused_lists : (l : List GName) (p : Plan) (a : ActorName) (x : Place) (r s : Recent) (v w : View) (f g : Refusals)
    (want : Want) → length v.steps ≤ length w.steps → w.told ≡ v.told → is_of_lists want ≡ true → g ≡ refused f want →
    f.count ≤ g.count → (to : Place) (expected : PointState → Result Event Want) (Names : Event → Type 0) →
    AnswersTry (meaning_of l p a x r v f) (meaning_of l p a x s w g) to expected Names
    (λ o t. IsShownAt w g o t) (Err want)
refused_lists l p a x r s v w f g want ahead told lists same more to expected Names =
    subst (λ (h : Refusals). AnswersTry (meaning_of l p a x r v f) (meaning_of l p a x s w h) to expected Names
    (λ o t. IsShownAt w h o t) (Err want)) (sym same)
    (refuses l p a x x r s v w f (refused f want) ahead
    (subst (λ (h : Refusals). f.count ≤ h.count) same more) to expected Names want told refl
    (refused_now w.steps f (length v.steps) want lists))

-- the pass looked and learned
pub looked_so : (v w : View) → Looked v w → Learns v w
looked_so v w k = record { same = k.same; known = k.known; unmade = k.unmade; steps = k.steps }

pub saw_so : (p : Plan) (w : View) (t wanted n : ℕ) → saw_payload p w t n ≡ true →
    saw_value p w (t, wanted) (record { wanted = wanted; past = n }) ≡ true
saw_so p w t wanted n h = saw_read p w t wanted n h

pub past_answered : (l : List GName) (p : Plan) (a : ActorName) (x y : Place) (r s : Recent) (v w : View) (f : Refusals)
    (t wanted n : ℕ) → Learns v w → y ≡ seeing x wanted n →
    AnswersPast (meaning_of l p a x r v f) (meaning_of l p a y s w f) t wanted n
past_answered l p a x y r s v w f t wanted n k e =
    record {
      kept = keeps l p a x y r s v w f f (learned_steps v w k) (omega arith);
      state = refl;
      events = ap answers_told (learned_told v w k);
      place = e;
      true_of_state = λ u is. absurd (cc);
    }

module _ (x : Post) (i : IsPlan x.ordered.now) (l : IsLawful x.ordered.now) where
  -- after a look behind what the lists did
  module _ (w : View) (learned : Learns (seen_by x) w) where
    still_true : AreTrueOf x w (here x)
    still_true = true_learned x.ordered.now i l x.owner (seen_by x) (at x (here x)) x.places w learned

    pub takes_truly : (e t : ℕ) → IsNextTask x (Take e t) → AreTrueOf x w (forward (here x))
    takes_truly e t n =
        true_taken x.ordered.now i l x.owner w (at x (here x)) still_true x.actor (served x) e t
        (next_there x (Take e t) n) (at x (forward (here x))) (goes_forward x)

    pub binds_truly : (e : ℕ) → IsNextTask x (Bind e) → AreTrueOf x w (forward (here x))
    binds_truly e n =
        true_bound x.ordered.now i l x.owner w (at x (here x)) still_true x.actor (served x) e
        (next_there x (Bind e) n) (at x (forward (here x))) (goes_forward x)

  pub compares_truly : (w : View) (t wanted n : ℕ) → IsNextTask x (Compare t wanted) → Learns (seen_by x) w →
      saw_value x.ordered.now w (t, wanted) (record { wanted = wanted; past = n }) ≡ true →
      AreTrueOf x w (seeing (here x) wanted n)
  compares_truly w t wanted n next k saw =
      true_compared x.ordered.now i l x.owner (seen_by x) (at x (here x)) x.places x.actor (served x)
      (at x (seeing (here x) wanted n)) w t wanted n (next_there x (Compare t wanted) next) k saw
      (goes_to x (seeing (here x) wanted n) (seeing (at x (here x) x.actor) wanted n)
      (ap (λ (y : Place). seeing y wanted n) (there (places_of x.owner x.seats.now.value) x.actor (here x))))
