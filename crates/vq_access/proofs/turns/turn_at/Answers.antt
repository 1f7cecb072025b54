use Rattle.std.proofs.Common.{[], ap, subst, sym, ◌∙◌}
use Rattle.vq_actor.specs.Actors.{IsTurn}
use Rattle.vq_actor.specs.Meanings.{Meaning, Other}
use Rattle.vq_actor.specs.Trackers.{FitsIn, Tracked}
use Rattle.vq_access.specs.Posts.{meaning, shows}
use Rattle.vq_access.specs.Seatings.{places_of}
use Rattle.vq_access_laws.specs.AccessMeanings.{meaning_of}
use Rattle.vq_access.specs.Shown.{IsShownBy}
use Rattle.vq_access_laws.specs.Causes.{Refusals}
use Rattle.vq_access_laws.specs.TruePasses.{AreTrue}
use Rattle.vq_board.specs.declared.parts.Pass.{Pass}
use Rattle.vq_board.specs.Named.{view, IsOf}
use Rattle.vq_turn_laws.specs.TruePlaces.{with_place}
use Rattle.vq_turns.specs.Programs.{program}
use Rattle.vq_access.proofs.TurnEnds.{ends_fit, ends_of, ends_true, ends_turn}
use Rattle.vq_access.proofs.turns.turn_at.Goals as goal

pub returns-clause-board : goal.returns-clause-board
returns-clause-board g c =
    let k = subst (λ (m : Meaning). IsTurn m (meaning c.turn_over.new.post) (shows c.turn_over.new.post)
    c.turn_over.result) c.new-post.ensures.meaning c.turn_over.ensures.turn in
    let pass_is = c.pass-1.given.1 (sym (c.turn_over.ensures.keeps_pass ∙ c.new-post.ensures.keeps_pass)) in
    subst (λ (z : Pass). IsOf c.args.grounds.now.board.now z) (sym pass_is)
    (ends_of c.args.grounds.now.ordered.now c.args.grounds.now.board.now c.args.owner c.args.seats.value c.name.result
    c.args.actor.now.name c.args.seat.now.place (view c.args.pass.now) c.args.refused.now _ _ _ c.turn_over.new.post
    c.turn_over.result c.args.grounds.now.planned c.name.ensures k)

pub returns-clause-places : goal.returns-clause-places
returns-clause-places g c =
    let k = subst (λ (m : Meaning). IsTurn m (meaning c.turn_over.new.post) (shows c.turn_over.new.post)
    c.turn_over.result) c.new-post.ensures.meaning c.turn_over.ensures.turn in
    let pass_is = c.pass-1.given.1 (sym (c.turn_over.ensures.keeps_pass ∙ c.new-post.ensures.keeps_pass)) in
    let seat_is = c.seat-1.given.1 (sym (c.turn_over.ensures.keeps_seat ∙ c.new-post.ensures.keeps_seat)) in
    subst (λ (z : Pass × Tracked). AreTrue c.args.grounds.now.ordered.now c.args.owner (view z.0)
    (with_place (places_of c.args.owner c.args.seats.value) c.args.actor.now.name z.1.place))
    (λ i. (sym pass_is i, sym seat_is i))
    (ends_true c.args.grounds.now.ordered.now c.args.grounds.now.board.now c.args.owner c.args.seats.value c.name.result
    c.args.actor.now.name c.args.seat.now.place (view c.args.pass.now) c.args.refused.now _ _ _ c.turn_over.new.post
    c.turn_over.result c.args.grounds.now.planned c.name.ensures k)

pub returns-clause-fits : goal.returns-clause-fits
returns-clause-fits g c =
    let k = subst (λ (m : Meaning). IsTurn m (meaning c.turn_over.new.post) (shows c.turn_over.new.post)
    c.turn_over.result) c.new-post.ensures.meaning c.turn_over.ensures.turn in
    let seat_is = c.seat-1.given.1 (sym (c.turn_over.ensures.keeps_seat ∙ c.new-post.ensures.keeps_seat)) in
    subst (λ (z : Tracked). FitsIn (program c.args.grounds.now.ordered.now c.args.actor.now.name) z) (sym seat_is)
    (ends_fit c.args.grounds.now.ordered.now c.args.grounds.now.board.now c.args.owner c.args.seats.value c.name.result
    c.args.actor.now.name c.args.seat.now.place (view c.args.pass.now) c.args.refused.now _ _ _ c.turn_over.new.post
    c.turn_over.result c.args.grounds.now.planned c.name.ensures k)

pub returns-clause-turn : goal.returns-clause-turn
returns-clause-turn g c =
    let k = subst (λ (m : Meaning). IsTurn m (meaning c.turn_over.new.post) (shows c.turn_over.new.post)
    c.turn_over.result) c.new-post.ensures.meaning c.turn_over.ensures.turn in
    let pass_is = c.pass-1.given.1 (sym (c.turn_over.ensures.keeps_pass ∙ c.new-post.ensures.keeps_pass)) in
    let seat_is = c.seat-1.given.1 (sym (c.turn_over.ensures.keeps_seat ∙ c.new-post.ensures.keeps_seat)) in
    let refused_is = c.refused-1.given.1 (sym (c.turn_over.ensures.keeps_refused ∙ c.new-post.ensures.keeps_refused)) in
    subst (λ (z : Pass × (Tracked × Refusals)). IsTurn
    (meaning_of [] c.args.grounds.now.ordered.now c.args.actor.now.name c.args.seat.now.place Other (view c.args.pass.now) c.args.refused.now)
    (meaning_of [] c.args.grounds.now.ordered.now c.args.actor.now.name z.1.0.place Other (view z.0) z.1.1) (IsShownBy z.0 z.1.1)
    c.turn_over.result)
    (λ i. (sym pass_is i, (sym seat_is i, sym refused_is i)))
    (ends_turn c.args.grounds.now.ordered.now c.args.grounds.now.board.now c.args.owner c.args.seats.value c.name.result
    c.args.actor.now.name c.args.seat.now.place (view c.args.pass.now) c.args.refused.now _ _ _ c.turn_over.new.post
    c.turn_over.result c.args.grounds.now.planned c.name.ensures k)

pub returns-clause-untouched : goal.returns-clause-untouched
returns-clause-untouched g c e =
    let same = c.turn_over.ensures.untouched e in
    let pass_is = c.pass-1.given.1 (sym (c.turn_over.ensures.keeps_pass ∙ c.new-post.ensures.keeps_pass)) in
    let refused_is = c.refused-1.given.1 (sym (c.turn_over.ensures.keeps_refused ∙ c.new-post.ensures.keeps_refused)) in (
      ap view pass_is ∙ (ap (λ z. view z.pass.now) same ∙ c.new-post.ensures.starts.0),
      refused_is ∙ (ap (λ z. z.refused.now) same ∙ c.new-post.ensures.starts.1),
    )
