-- What an actor at a board may do, and what is true of its place after it.
use Rattle.std.proofs.Common.{◌≡◌, ◌<◌, ◌-◌, ◌^◌, ℕ, ◌≤◌, Bool, true, false, List, Some, All, length, refl, sym, ap, ◌∙◌, subst, if◌then◌else◌}
use Rattle.std.specs.List.{slice_get}
use Rattle.vq_model.specs.Naming.{same_actor}
use Rattle.vq_model.specs.Plan.{Plan}
use Rattle.vq_model.specs.declared.script.ActorName.{ActorName}
use Rattle.vq_model.proofs.Actors.{same_actor_is, same_actor_self}
use Rattle.std.proofs.lemmas.Option.{get_or_from_slice_get}
use Rattle.vq_ground.proofs.Gets.{get_within}
use Rattle.vq_model.specs.declared.plan.Need.{Need}
use Rattle.vq_turns.specs.declared.task.Task.TheVariants.{AwaitNeeds}
use Rattle.vq_turns.specs.declared.task.Task.{Task}
use Rattle.vq_turns.specs.Programs.{program}
use Rattle.vq_turns.specs.Turns.{Place, forward}
use Rattle.vq_turn_laws.specs.TruePlaces.{with_place}
use Rattle.vq_actor.specs.Stages.{Serves}
use Rattle.vq_actor.specs.Trackers.{Tracked, FitsIn}
use Rattle.vq_actor.proofs.Cited.{fits_short, fits_forward}
use Rattle.vq_board_laws.specs.declared.view.View.{View}
use Rattle.vq_board.specs.declared.parts.Pass.{Pass}
use Rattle.vq_board.specs.Named.{view, plan_of, IsOf}
use Rattle.vq_access_laws.specs.TruePasses.{AreTrue, Moves}
use Rattle.vq_actor.specs.Meanings.{Collected, Other}
use Rattle.vq_access.specs.Lasts.{FindsTruly, IsFew}
use Rattle.vq_access.specs.Taken.{HasLearned}
use Rattle.vq_access.specs.Seatings.{places_of}
use Rattle.vq_access.specs.declared.post.Post.{Post}
use Rattle.vq_access.proofs.Serving.{serves_of}

-- places but for one actor's

pub there : (f : ActorName → Place) (b : ActorName) (y : Place) → with_place f b y b ≡ y
there f b y = ap (λ (t : Bool). if t then y else f b) (same_actor_self b)

pub elsewhere : (f : ActorName → Place) (b c : ActorName) (y : Place) → (c ≡ b → ⊥) → with_place f b y c ≡ f c
elsewhere f b c y apart = by_test (same_actor c b) refl
  where
    by_test : (t : Bool) → same_actor c b ≡ t → (if t then y else f c) ≡ f c
    by_test true e = absurd (apart (same_actor_is c b e))
    by_test false e = refl

-- after another call nothing was found
pub other_finds : (p : Plan) (a : ActorName) (y : Place) → FindsTruly p a y Other
other_finds p a y k e q is = absurd (cc)

pub collected_finds : (p : Plan) (a : ActorName) (y : Place) (t : ℕ) → FindsTruly p a y (Collected t)
collected_finds p a y t k e q is = absurd (cc)

-- what holds of each holds of one
all_at : (P : Task → Type 0) (ts : List Task) (n : ℕ) (t : Task) → All P ts → slice_get ts n ≡ Some t → P t
all_at P ts n t h at =
    subst P (get_or_from_slice_get ts n t t at) (h n t (get_within ts n t at))

module _ (x : Post) where
  abbrev pub plan : Plan
  plan = x.ordered.now

  abbrev pub here : Place
  here = x.seat.now.place

  abbrev pub seen_by : View
  seen_by = view x.pass.now

  -- the places of all actors of the pass, where this actor is at a place
  abbrev pub at : Place → ActorName → Place
  at y = with_place (places_of x.owner x.seats.now.value) x.actor y

  abbrev pub IsNextTask : Task → Type 0
  IsNextTask t = slice_get (program x.ordered.now x.actor) x.seat.now.place.done ≡ Some t

  abbrev pub AreTrueOf : View → Place → Type 0
  AreTrueOf w y = AreTrue x.ordered.now x.owner w (with_place (places_of x.owner x.seats.now.value) x.actor y)

  pub served : Serves x.ordered.now x.owner x.actor
  served = serves_of x.ordered.now x.owner x.actor x.serves

  pub next_there : (t : Task) → IsNextTask t → slice_get (program x.ordered.now x.actor) (at here x.actor).done ≡ Some t
  next_there t n =
      subst (λ (y : Place). slice_get (program x.ordered.now x.actor) y.done ≡ Some t)
      (sym (there (places_of x.owner x.seats.now.value) x.actor here)) n

  -- this actor goes to another place
  pub goes_to : (y z : Place) → z ≡ y → Moves (at here) x.actor z (at y)
  goes_to y z e =
      record {
        here = there (places_of x.owner x.seats.now.value) x.actor y ∙ sym e;
        others = λ c apart. elsewhere (places_of x.owner x.seats.now.value) x.actor c y apart
            ∙ sym (elsewhere (places_of x.owner x.seats.now.value) x.actor c here apart);
      }

  pub goes_forward : Moves (at here) x.actor (forward (at here x.actor)) (at (forward here))
  goes_forward =
      goes_to (forward here) (forward (at here x.actor))
      (ap forward (there (places_of x.owner x.seats.now.value) x.actor here))

  -- what is true by these equations
  pub true_at : (w u : View) (y : Tracked) (z : Place) → w ≡ u → y ≡ record x.seat.now { place = z } → AreTrueOf u z →
      AreTrueOf w y.place
  true_at w u y z e same k =
      subst (λ (a : Place). AreTrueOf w a) (sym (ap (λ (t : Tracked). t.place) same))
      (subst (λ (a : View). AreTrueOf a z) (sym e) k)

  -- one task more can be counted
  pub counts : (t : Task) → IsNextTask t → x.seat.now.place.done < 2 ^ 64 - 1
  counts t n = fits_short (program x.ordered.now x.actor) x.seat.now t n x.fits

  pub fits_on : (t : Task) → IsNextTask t → (y : Tracked) → y ≡ record x.seat.now { place = forward here } →
      FitsIn (program x.ordered.now x.actor) y
  fits_on t n y same = fits_forward (program x.ordered.now x.actor) x.seat.now t n x.fits y same

  -- it stays a pass of the board while it learns
  pub learned_of : (y : Pass) → HasLearned x.pass.now y → IsOf x.board.now y
  learned_of y k = (k.0 ∙ x.of_board.0, ap (λ (v : View). v.plan) k.1.same ∙ x.of_board.1)

  -- a wait is for few needs
  pub few_needs : (ns : List Need) → IsNextTask (AwaitNeeds ns) → length ns ≤ 16
  few_needs ns n = all_at IsFew (program x.ordered.now x.actor) x.seat.now.place.done (AwaitNeeds ns) x.few n

  -- the same for the board's plan
  pub of_board_plan : (P : Plan → Type 0) → P x.ordered.now → P (plan_of x.board.now)
  of_board_plan P h = subst P (sym x.planned) h
