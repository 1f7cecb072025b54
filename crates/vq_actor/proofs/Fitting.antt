-- A tracked place keeps its room, task after task.
use Rattle.std.proofs.Common.{◌≡◌, ℕ, suc, ◌∙◌, ◌+◌, ◌<◌, ◌≤◌, ◌^◌, ◌-◌, true, false, if◌then◌else◌, List, [], ◌∷◌}
use Rattle.std.proofs.Common.{All, length, drop, Some, refl, sym, ap, subst, arith, length-append}
use Rattle.std.specs.List.{slice_get}
use Rattle.std.proofs.lemmas.List.Sums.{sum_by-cons}
use Rattle.std.proofs.lemmas.Option.{slice_get_within}
use Rattle.vq_ground.proofs.Gets.{all_at}
use Rattle.vq_model.specs.declared.plan.Need.{Need}
use Rattle.vq_turns.specs.declared.look.Holding.{Holding}
use Rattle.vq_turns.specs.declared.task.Task.{Task}
use Rattle.vq_turns.specs.declared.task.Task.TheVariants.{AwaitNeeds, Compare}
use Rattle.vq_turns.specs.Turns.{forward, seeing}
use Rattle.vq_actor.specs.Answers.{answered}
use Rattle.vq_actor.specs.Waits.{met_at, looked_at, given_back}
use Rattle.vq_actor.specs.Positions.{HasRoom, is_compare, compares}
use Rattle.vq_actor.specs.Trackers.{Tracked, FitsIn}
use Rattle.vq_actor.proofs.TurnSteps.{drop_at}

-- how many comparisons are left, before and after a task
compares_at : (tasks : List Task) (k : ℕ) (t : Task) → slice_get tasks k ≡ Some t →
    compares (drop k tasks) ≡ compares (drop (k + 1) tasks) + (if is_compare t then 1 else 0)
compares_at tasks k t at =
    let e : suc k ≡ k + 1 = omega arith in
    ap compares (drop_at tasks k t at ∙ ap (λ (i : ℕ). t ∷ drop i tasks) e)
    ∙ (sum_by-cons (λ u. if is_compare u then 1 else 0) t (drop (k + 1) tasks)
    ∙ turned (if is_compare t then 1 else 0) (compares (drop (k + 1) tasks)))
  where
    turned : (u v : ℕ) → u + v ≡ v + u
    turned u v = omega arith

-- where there is room there is also in more
pub more_room : (t : Task) (r s : ℕ) → r ≤ s → HasRoom r t → HasRoom s t
more_room t r s le h = omega (arith, le, h)

module _ (tasks : List Task) (x : Tracked) (t : Task) (at : slice_get tasks x.place.done ≡ Some t)
    (f : FitsIn tasks x) where
  -- one task more can be counted
  pub fits_short : x.place.done < 2 ^ 64 - 1
  fits_short =
      let l = slice_get_within tasks x.place.done t at in
      let s = f.short in
      omega (arith, l, s)

  -- there is room for a reference for each need
  pub fits_need : (ns : List Need) (k : ℕ) (n : Need) → t ≡ AwaitNeeds ns → slice_get ns k ≡ Some n → k < x.slots
  fits_need ns k n e is =
      let l = slice_get_within ns k n is in
      let room = subst (HasRoom x.slots) e (all_at (HasRoom x.slots) tasks x.place.done t f.slots at) in
      omega (arith, l, room)

  left_now : length x.place.seen + (compares (drop (x.place.done + 1) tasks) + (if is_compare t then 1 else 0)) ≤ x.room
  left_now = subst (λ (n : ℕ). length x.place.seen + n ≤ x.room) (compares_at tasks x.place.done t at) f.room

  -- and for a comparison
  pub fits_seen : (u v : ℕ) → t ≡ Compare u v → length x.place.seen < x.room
  fits_seen u v e =
      let is : is_compare t ≡ true = ap is_compare e in
      let h = subst (λ b. length x.place.seen + (compares (drop (x.place.done + 1) tasks) +
      (if b then 1 else 0)) ≤ x.room)
      is left_now in
      omega (arith, h)

  -- the task stays
  pub fits_still : (y : Tracked) → y.slots ≡ x.slots → y.room ≡ x.room → y.place.done ≡ x.place.done →
      length y.place.seen ≤ length x.place.seen → FitsIn tasks y
  fits_still y slots room done seen =
      let first = f.room in
      record {
        short = f.short;
        within = subst (λ (i : ℕ). i ≤ length tasks) (sym done) f.within;
        slots = subst (λ (n : ℕ). All (HasRoom n) tasks) (sym slots) f.slots;
        room = subst (λ (i : ℕ). length y.place.seen + compares (drop i tasks) ≤ y.room) (sym done)
            (omega (arith, first, seen, room));
      }

  -- the task is done; a comparison adds one
  pub fits_on : (y : Tracked) → y.slots ≡ x.slots → y.room ≡ x.room → y.place.done ≡ x.place.done + 1 →
      length y.place.seen ≤ length x.place.seen + (if is_compare t then 1 else 0) → FitsIn tasks y
  fits_on y slots room done seen =
      let l = slice_get_within tasks x.place.done t at in
      record {
        short = f.short;
        within = subst (λ (i : ℕ). i ≤ length tasks) (sym done) (omega (arith, l));
        slots = subst (λ (n : ℕ). All (HasRoom n) tasks) (sym slots) f.slots;
        room = subst (λ (i : ℕ). length y.place.seen + compares (drop i tasks) ≤ y.room) (sym done)
            (at_sum (length y.place.seen) (length x.place.seen) (compares (drop (x.place.done + 1) tasks))
            (if is_compare t then 1 else 0) x.room y.room left_now seen room);
      }
    where
      at_sum : (u v r o c d : ℕ) → v + (r + o) ≤ c → u ≤ v + o → d ≡ c → u + r ≤ d
      at_sum u v r o c d h i j = omega arith

  seen_more : (o : ℕ) → length x.place.seen ≤ length x.place.seen + o
  seen_more o = omega arith

  -- after each change of a tracker that does the task
  pub fits_forward : (y : Tracked) → y ≡ record x { place = forward x.place } → FitsIn tasks y
  fits_forward y e =
      subst (λ (z : Tracked). FitsIn tasks z) (sym e)
      (fits_on (record x { place = forward x.place }) refl refl refl (seen_more (if is_compare t then 1 else 0)))

  pub fits_answer : (y : Tracked) → y ≡ record x { place = answered x.place } → FitsIn tasks y
  fits_answer y e =
      subst (λ (z : Tracked). FitsIn tasks z) (sym e)
      (fits_on (record x { place = answered x.place }) refl refl refl (omega arith))

  pub fits_see : (u v past : ℕ) → t ≡ Compare u v → (y : Tracked) →
      y ≡ record x { place = seeing x.place v past } → FitsIn tasks y
  fits_see u v past is y e =
      let one : 1 ≡ (if is_compare t then 1 else 0) = ap (λ b. if b then 1 else 0) (sym (ap is_compare is)) in
      let longer = length-append x.place.seen (record { wanted = v; past = past } ∷ []) in
      subst (λ (z : Tracked). FitsIn tasks z) (sym e)
      (fits_on (record x { place = seeing x.place v past }) refl refl refl
      (subst (λ (n : ℕ). length (seeing x.place v past).seen ≤ length x.place.seen + n) one (omega (arith, longer))))

  pub fits_pass : (y : Tracked) → y ≡ record x { place = met_at x.place x.place.holding } → FitsIn tasks y
  fits_pass y e = subst (λ (z : Tracked). FitsIn tasks z) (sym e) (by_holding x.place.holding)
    where
      by_holding : (hs : List Holding) → FitsIn tasks (record x { place = met_at x.place hs })
      by_holding [] = fits_on (record x {
        place =
            forward x.place;
      }) refl refl refl (seen_more (if is_compare t then 1 else 0))
      by_holding (h ∷ hs) = fits_still (record x { place = looked_at x.place }) refl refl refl (omega arith)

  pub fits_give_back : (y : Tracked) → y ≡ record x { place = given_back x.place x.place.holding } → FitsIn tasks y
  fits_give_back y e = subst (λ (z : Tracked). FitsIn tasks z) (sym e) (by_holding x.place.holding)
    where
      by_holding : (hs : List Holding) → FitsIn tasks (record x { place = given_back x.place hs })
      by_holding [] = f
      by_holding (h ∷ []) =
          fits_on (record x { place = record (forward x.place) { holding = []; met = false } }) refl refl refl
          (seen_more (if is_compare t then 1 else 0))
      by_holding (h ∷ g ∷ hs) =
          fits_still (record x { place = record x.place { holding = g ∷ hs; met = true } }) refl refl refl (omega arith)
