-- What a turn over a post leaves.
use Rattle.std.proofs.Common.{◌≡◌, ℕ, List, [], ◌∷◌, drop, None, refl, sym, ap, ◌∙◌, subst}
use Rattle.std.specs.List.{slice_get}
use Rattle.vq_model.specs.declared.script.ActorName.{ActorName}
use Rattle.vq_model.specs.Plan.{Plan}
use Rattle.vq_turns.specs.Programs.{program}
use Rattle.vq_turns.specs.Turns.{Place}
use Rattle.vq_turns.specs.declared.outcome.Outcome.{Outcome}
use Rattle.vq_turn_laws.specs.TruePlaces.{with_place}
use Rattle.vq_actor.specs.Actors.{IsTurn}
use Rattle.vq_actor.specs.Meanings.{Other}
use Rattle.vq_actor.specs.Trackers.{FitsIn}
use Rattle.vq_board_laws.specs.declared.view.View.{View}
use Rattle.vq_board.specs.declared.parts.Board.{Board}
use Rattle.vq_board.specs.Named.{id_of, plan_of, view, IsOf}
use Rattle.vq_access_laws.specs.AccessMeanings.{meaning_of}
use Rattle.vq_access_laws.specs.Causes.{Refusals}
use Rattle.vq_access_laws.specs.TruePasses.{AreTrue}
use Rattle.vq_access.specs.declared.post.Post.{Post}
use Rattle.vq_access.specs.Pinned.{pins}
use Rattle.vq_access.specs.Posts.{meaning, shows}
use Rattle.vq_access.specs.Shown.{IsShownBy}
use Rattle.vq_access.specs.Seatings.{Seating, places_of}
use Rattle.vq_access.proofs.Pins.{pins_same}

module _ (p : Plan) (b : Board) (owner : ActorName) (s : Seating) (a name : ActorName) (x : Place) (v : View)
    (r : Refusals) (l m n : ℕ) (y : Post) (o : Outcome) (planned : plan_of b ≡ p) (called : a ≡ name)
    (k : IsTurn (meaning_of (l ∷ m ∷ n ∷ pins owner s (id_of b)) p a x Other v r) (meaning y) (shows y) o) where
  pinned : pins y.owner y.seats.now.value (id_of y.board.now) ≡ pins owner s (id_of b)
  pinned = ap (λ (xs : List ℕ). drop 3 xs) k.kept.lenders

  same_pins : (y.owner ≡ owner) × (y.seats.now.value ≡ s) × (id_of y.board.now ≡ id_of b)
  same_pins = pins_same y.owner owner y.seats.now.value s (id_of y.board.now) (id_of b) pinned

  actor_is : y.actor ≡ name
  actor_is = k.kept.actor ∙ called

  pub ends_of : IsOf b y.pass.now
  ends_of = (y.of_board.0 ∙ same_pins.2, y.of_board.1 ∙ (y.planned ∙ (k.kept.plan ∙ sym planned)))

  pub ends_true : AreTrue p owner (view y.pass.now) (with_place (places_of owner s) name y.seat.now.place)
  ends_true =
      subst (λ (z : Plan × ActorName × Seating × ActorName). AreTrue z.0 z.1 (view y.pass.now)
      (with_place (places_of z.1 z.2) z.3 y.seat.now.place))
      (λ i. (k.kept.plan i, same_pins.0 i, same_pins.1 i, actor_is i)) y.places

  pub ends_fit : FitsIn (program p name) y.seat.now
  ends_fit =
      subst (λ (z : Plan × ActorName). FitsIn (program z.0 z.1) y.seat.now) (λ i. (k.kept.plan i, actor_is i)) y.fits

  pub ends_turn : IsTurn (meaning_of [] p name x Other v r)
      (meaning_of [] p name y.seat.now.place Other (view y.pass.now) y.refused.now)
      (IsShownBy y.pass.now y.refused.now) o
  ends_turn =
      record {
        kept = record { plan = refl; actor = refl; noted = refl; steps = k.kept.steps; lenders = refl };
        events = k.events;
        named = λ w e. absurd (cc);
        made = k.made;
        shown = k.shown;
        ended = λ e. subst (λ (z : Plan × ActorName). slice_get (program z.0 z.1) y.seat.now.place.done ≡ None)
            (λ i. (k.kept.plan i, actor_is i)) (k.ended e);
      }
