-- The looks and references of an actor at a board that waits for needs: that it may, and that the places stay true.
use Rattle.std.proofs.Common.{◌≡◌, ◌<◌, ◌≤◌, ◌==◌, ◌⊎◌, ℕ, true, false, List, ◌∷◌, Option, Some, None, length, refl, ap, ◌∙◌, arith, inl, inr, eq-eqb}
use Rattle.std.specs.List.{slice_get, list_any}
use Rattle.std.specs.Option.{option_map_or}
use Rattle.std.proofs.lemmas.Bool.{and_from, lt-ltb}
use Rattle.vq_board_laws.proofs.Cited.{learns_on, learns_look}
use Rattle.vq_model.specs.Checks.{IsLawful}
use Rattle.vq_model.specs.LoweredPlans.{IsPlan}
use Rattle.vq_model.specs.Plan.{Plan, resolver}
use Rattle.vq_model.specs.declared.plan.Need.{Need}
use Rattle.vq_model.specs.declared.script.ActorName.{ActorName}
use Rattle.vq_point_laws.specs.PointWord.{parts, PointWord as PointParts}
use Rattle.vq_point.specs.Word.{bits_of}
use Rattle.vq_point.specs.declared.PointWord.{PointWord}
use Rattle.vq_turns.specs.declared.look.Holding.{Holding}
use Rattle.vq_turns.specs.declared.task.Task.{Task}
use Rattle.vq_turns.specs.declared.task.Task.TheVariants.{AwaitNeeds}
use Rattle.vq_turns.specs.Programs.{program}
use Rattle.vq_turns.specs.Turns.{Place, held_for, holding_also}
use Rattle.vq_turn_laws.specs.TruePlaces.{with_place}
use Rattle.vq_actor.specs.Meanings.{FoundAt}
use Rattle.vq_actor.specs.Waits.{looked_at, given_back, met_at}
use Rattle.vq_actor.specs.Trackers.{Tracked, FitsIn}
use Rattle.vq_actor.proofs.Cited.{fits_still}
use Rattle.vq_board_laws.specs.declared.view.View.{View}
use Rattle.vq_board_laws.specs.Points.{reference, Lists}
use Rattle.vq_board_laws.specs.PointSteps.{sees, refers, unrefers, misses_point}
use Rattle.vq_board_laws.specs.Words.{Carries}
use Rattle.vq_board_laws.specs.MayPoints.{MayRefer}
use Rattle.vq_board.specs.declared.parts.Pass.{Pass}
use Rattle.vq_board.specs.Answers.{IsLost}
use Rattle.vq_board.specs.Named.{view, plan_of, IsOf, Turns}
use Rattle.vq_board_laws.specs.Learning.{Learns}
use Rattle.vq_access_laws.specs.Tests.{shows_reached}
use Rattle.vq_access_laws.specs.TruePasses.{is_for}
use Rattle.vq_access_laws.proofs.Cited.{learns_miss, may_refer, listed_held, listed_first}
use Rattle.vq_access_laws.proofs.Cited.{true_past, true_met, true_referred, true_given_back}
use Rattle.vq_access.specs.declared.post.Post.{Post}
use Rattle.vq_access.specs.Lasts.{IsFound, recent_of}
use Rattle.vq_access.specs.Seatings.{places_of}
use Rattle.vq_access.proofs.Looking.{learned}
use Rattle.vq_access.proofs.Posting.{at, here, seen_by, IsNextTask, AreTrueOf, served, next_there, goes_to, there, of_board_plan}

-- what was found for a need may be held for it
for_need : (p : Plan) (ns : List Need) (k q e : ℕ) (n : Need) → slice_get ns k ≡ Some n → q < length p.ops →
    resolver p n.chain n.value ≡ Some e → is_for p ns (record { need = k; point = q; op = e }) ≡ true
for_need p ns k q e n at low resolves =
    let inner : option_map_or (λ f. f == e) (resolver p n.chain n.value) false ≡ true =
    ap (λ (o : Option ℕ). option_map_or (λ f. f == e) o false) resolves ∙ eq-eqb e e refl in
    and_from _ _ (lt-ltb q (length p.ops) low)
    (ap (λ (o : Option Need). option_map_or (λ m. option_map_or (λ f. f == e) (resolver p m.chain m.value) false) o
    false) at ∙ inner)

-- what a look at a point says of it
pub carried : (w : PointWord) (e : ℕ) →
    parts (bits_of w) ≡ record { op = w.op; refs = w.refs; signaled = w.signaled; held = w.held } →
    (w.held ≡ true) × (w.op ≡ e) → Carries (bits_of w) e
carried w e same is =
    record { held = ap (λ (u : PointParts). u.held) same ∙ is.0; op = ap (λ (u : PointParts). u.op) same ∙ is.1 }

-- a tracker whose task stays has room
pub fits_here : (x : Post) (t : Task) → IsNextTask x t → (y : Tracked) (z : Place) → y ≡ record x.seat.now { place = z } →
    z.done ≡ (here x).done → z.seen ≡ (here x).seen → FitsIn (program x.ordered.now x.actor) y
fits_here x t n y z same done seen =
    let longer = ap (λ (u : Tracked). length u.place.seen) same ∙ ap length seen in
    fits_still (program x.ordered.now x.actor) x.seat.now t n x.fits y (ap (λ (u : Tracked). u.slots) same)
    (ap (λ (u : Tracked). u.room) same) (ap (λ (u : Tracked). u.place.done) same ∙ done)
    (omega arith)

module _ (x : Post) (i : IsPlan x.ordered.now) (l : IsLawful x.ordered.now) where
  abbrev places : ActorName → Place
  places = with_place (places_of x.owner x.seats.now.value) x.actor x.seat.now.place

  -- where this actor stands
  standing : places x.actor ≡ x.seat.now.place
  standing = there (places_of x.owner x.seats.now.value) x.actor x.seat.now.place

  module _ (ns : List Need) (next : IsNextTask x (AwaitNeeds ns)) where
    -- References

    found_for : (k q e : ℕ) (n : Need) → slice_get ns k ≡ Some n → recent_of x.last ≡ FoundAt k e q →
        (q < length x.ordered.now.ops) × (is_for x.ordered.now ns (record { need = k; point = q; op = e }) ≡ true)
    found_for k q e n is last =
        let f : IsFound x.ordered.now x.actor (here x) k e q = x.finds k e q last in
        (f.point, for_need x.ordered.now ns k q e n is f.point (f.resolves ns n next is))

    pub refers_may : (k q e : ℕ) (n : Need) → slice_get ns k ≡ Some n → recent_of x.last ≡ FoundAt k e q →
        held_for k (here x).holding ≡ None → length ns ≤ 16 → MayRefer (plan_of x.board.now) (seen_by x)
    refers_may k q e n is last none few =
        of_board_plan x (λ p. MayRefer p (seen_by x))
        (may_refer x.ordered.now i l x.owner (seen_by x) places x.places x.actor (served x) ns
        (next_there x (AwaitNeeds ns) next) k q e (found_for k q e n is last).1
        (ap (λ (y : Place). held_for k y.holding) standing ∙ none) few)

    pub refers_there : (k q e : ℕ) (n : Need) → slice_get ns k ≡ Some n → recent_of x.last ≡ FoundAt k e q →
        q < length (plan_of x.board.now).ops
    refers_there k q e n is last = of_board_plan x (λ p. q < length p.ops) (found_for k q e n is last).0

    pub refers_truly : (k q e m : ℕ) (n : Need) → slice_get ns k ≡ Some n → recent_of x.last ≡ FoundAt k e q →
        held_for k (here x).holding ≡ None →
        AreTrueOf x (refers (sees (seen_by x) q m) q e m) (holding_also (here x) k e q)
    refers_truly k q e m n is last none =
        true_referred x.ordered.now i l x.owner (seen_by x) places x.places x.actor (served x) ns
        (next_there x (AwaitNeeds ns) next) (at x (holding_also (here x) k e q)) k q e m (found_for k q e n is last).1
        (ap (λ (y : Place). held_for k y.holding) standing ∙ none)
        (goes_to x (holding_also (here x) k e q) (holding_also (places x.actor) k e q)
        (ap (λ (y : Place). holding_also y k e q) standing))

    -- Looks at references

    held_there : (k q e : ℕ) → held_for k (here x).holding ≡ Some (record { need = k; point = q; op = e }) →
        held_for k (places x.actor).holding ≡ Some (record { need = k; point = q; op = e })
    held_there k q e h = ap (λ (y : Place). held_for k y.holding) standing ∙ h

    pub looks_listed : (k q e : ℕ) → held_for k (here x).holding ≡ Some (record { need = k; point = q; op = e }) →
        Lists (seen_by x).refs (reference q e)
    looks_listed k q e h =
        (listed_held x.ordered.now i l x.owner (seen_by x) places x.places x.actor (served x) ns
        (next_there x (AwaitNeeds ns) next) k q e (held_there k q e h)).0

    pub looks_there : (k q e : ℕ) → held_for k (here x).holding ≡ Some (record { need = k; point = q; op = e }) →
        q < length (plan_of x.board.now).ops
    looks_there k q e h =
        of_board_plan x (λ p. q < length p.ops)
        (listed_held x.ordered.now i l x.owner (seen_by x) places x.places x.actor (served x) ns
        (next_there x (AwaitNeeds ns) next) k q e (held_there k q e h)).1

    pub meets_truly : (k q e m : ℕ) → held_for k (here x).holding ≡ Some (record { need = k; point = q; op = e }) →
        Carries m e → (parts m).signaled ≡ true → AreTrueOf x (sees (seen_by x) q m) (looked_at (here x))
    meets_truly k q e m h c signaled =
        true_met x.ordered.now i l x.owner (seen_by x) places x.places x.actor (served x) ns
        (next_there x (AwaitNeeds ns) next) (at x (looked_at (here x))) k q e m (held_there k q e h) c signaled
        (goes_to x (looked_at (here x)) (looked_at (places x.actor)) (ap looked_at standing))

    -- Giving back

    module _ (k q e : ℕ) (rest : List Holding) (first : (here x).holding ≡ record { need = k; point = q; op = e } ∷ rest) where
      first_there : (places x.actor).holding ≡ record { need = k; point = q; op = e } ∷ rest
      first_there = ap (λ (y : Place). y.holding) standing ∙ first

      pub gives_listed : Lists (seen_by x).refs (reference q e)
      gives_listed =
          (listed_first x.ordered.now i l x.owner (seen_by x) places x.places x.actor (served x) ns
          (next_there x (AwaitNeeds ns) next) (record { need = k; point = q; op = e }) rest first_there).0

      pub gives_there : q < length (plan_of x.board.now).ops
      gives_there =
          of_board_plan x (λ p. q < length p.ops)
          (listed_first x.ordered.now i l x.owner (seen_by x) places x.places x.actor (served x) ns
          (next_there x (AwaitNeeds ns) next) (record { need = k; point = q; op = e }) rest first_there).1

      pub gives_truly : (m : ℕ) → (here x).met ≡ true →
          AreTrueOf x (unrefers (sees (seen_by x) q m) q e m) (given_back (here x) (here x).holding)
      gives_truly m met =
          true_given_back x.ordered.now i l x.owner (seen_by x) places x.places x.actor (served x) ns
          (next_there x (AwaitNeeds ns) next) (at x (given_back (here x) (here x).holding)) k q e m rest
          (ap (λ (y : Place). y.met) standing ∙ met) first_there
          (goes_to x (given_back (here x) (here x).holding) (given_back (places x.actor) (places x.actor).holding)
          (ap (λ (y : Place). given_back y y.holding) standing))

    -- A need that was found past

    pub passes_truly : (w : View) → Learns (seen_by x) w → (here x).met ≡ false →
        list_any (shows_reached x.ordered.now w.known) ns ≡ true → AreTrueOf x w (met_at (here x) (here x).holding)
    passes_truly w k unmet reached =
        true_past x.ordered.now i l x.owner (seen_by x) places x.places x.actor (served x) ns
        (next_there x (AwaitNeeds ns) next) (at x (met_at (here x) (here x).holding)) w k
        (ap (λ (y : Place). y.met) standing ∙ unmet) reached
        (goes_to x (met_at (here x) (here x).holding) (met_at (places x.actor) (places x.actor).holding)
        (ap (λ (y : Place). met_at y y.holding) standing))

  -- Looks at points that change no place

  pub looked_at_point : (w : View) (q m : ℕ) → w ≡ sees (seen_by x) q m → AreTrueOf x w (here x)
  looked_at_point w q m e = learned x i l w (sees (seen_by x) q m) e (learns_look (seen_by x) q m)

  pub missed_point : (w : View) (q m n : ℕ) → w ≡ misses_point (sees (seen_by x) q m) q n → AreTrueOf x w (here x)
  missed_point w q m n e =
      learned x i l w (misses_point (sees (seen_by x) q m) q n) e
      (learns_on (seen_by x) (sees (seen_by x) q m) (misses_point (sees (seen_by x) q m) q n)
      (learns_look (seen_by x) q m) (learns_miss (sees (seen_by x) q m) q n))

  -- it stays a pass of the board
  pub lost_of : (y : Pass) (q found : ℕ) → IsLost x.pass.now y q found → IsOf x.board.now y
  lost_of y q found (n, ne, t) = (t.0 ∙ x.of_board.0, ap (λ (v : View). v.plan) t.2 ∙ x.of_board.1)

  pub moved_of : (y : Pass) (q found : ℕ) → Turns x.pass.now y (sees (seen_by x) q found) ⊎ IsLost x.pass.now y q found →
      IsOf x.board.now y
  moved_of y q found (inl t) = (t.0 ∙ x.of_board.0, ap (λ (v : View). v.plan) t.2 ∙ x.of_board.1)
  moved_of y q found (inr t) = lost_of y q found t

  pub lost_point : (y : Pass) (q found : ℕ) → IsLost x.pass.now y q found → AreTrueOf x (view y) (here x)
  lost_point y q found (n, ne, t) = missed_point (view y) q n found t.2

  pub moved_point : (y : Pass) (q found : ℕ) →
      Turns x.pass.now y (sees (seen_by x) q found) ⊎ IsLost x.pass.now y q found → AreTrueOf x (view y) (here x)
  moved_point y q found (inl t) = looked_at_point (view y) q found t.2
  moved_point y q found (inr t) = lost_point y q found t
