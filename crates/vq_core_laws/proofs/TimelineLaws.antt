-- The lists of timelines follow the world, event by event.
use Rattle.std.proofs.Common.{◌≡◌, ℕ, suc, ◌+◌, ◌-◌, ◌<◌, Bool, true, false, not, ◌&&◌, ◌||◌, List, [], ◌∷◌, ◌++◌, length, map, filter, take, drop, set, get_or, Option, Some, None, refl, sym, ap, ◌∙◌, inl, inr, subst, arith, ◌==◌}
use Rattle.std.specs.Prelude.{slice_range, nat_lt}
use Rattle.std.specs.List.{slice_get, list_all}
use Rattle.std.specs.Option.{option_map_or}
use Rattle.std.proofs.lemmas.Bool.{cond-true, cond-false, false≢true, eq-eqb, eqb-true, ne_eqb, cases_eq, cases_lt, and_from, or_parts, or_from, or_right, ltb-true, lt-ltb}
use Rattle.std.proofs.lemmas.List.{get_or-replicate, get_or-set_same, get_or-set_other, get_or-take, get_or-drop, get_or_past, length-map, length-take}
use Rattle.vq_model.specs.Machine.{put}
use Rattle.vq_model.specs.Plan.{Plan, chain, chain_of, value, initial}
use Rattle.vq_ground.specs.Lists.{has}
use Rattle.vq_ground.proofs.Filters.{filter-has, filter-has_cases}
use Rattle.vq_ground.proofs.Gets.{get_some, get_within, first_is, place_in, get_has}
use Rattle.vq_ground.proofs.Lists.{has_here, has-append, list_all_has, list_all_from}
use Rattle.vq_model.proofs.Puts.{put_here, put_there}
use Rattle.vq_point_laws.specs.Points.{PointState, CanTake, after_event, at_option, opening_points, smaller_ops}
use Rattle.vq_point_laws.specs.Timeline.{Timeline, KeepsLists, point_at, new_timeline, take_from, after_take, after_bind, after_complete, complete_from, after_free, all_points, points_of, entries_from, taken, pending, IsAbsent, MayTake, MayBind, MayFree, Entry}
use Rattle.vq_model.specs.declared.plan.Event.TheVariants.{Take, Bind, Complete, Free}
use Rattle.vq_point_laws.proofs.Cited.{least_pending, IsLeast, Latest}
use Rattle.vq_core_laws.specs.Firsts.{AreFirst, StandOnce}
use Rattle.vq_core_laws.specs.TimelineOf.{IsTimelineOf, waits_on}
use Rattle.vq_core_laws.proofs.Firsts.{put_next, put_other}
use Rattle.vq_core_laws.proofs.Keeps.{Keeps, free_below}
use Rattle.vq_core_laws.proofs.PlanFacts.{Facts, ordered_once, chain_places}

-- At the opening no operation has a point.
pub opening_timeline : (p : Plan) (t : ℕ) →
    IsTimelineOf p (opening_points p) t (new_timeline (initial p t) (map (value p) (chain p t)))
opening_timeline p t =
    record {
      initial_value = refl;
      values = refl;
      points = λ i e h. (let l = get_within (chain p t) i e h in let m = length-map (chain p t) (value p) in
          get_or-replicate (length (map (value p) (chain p t))) i None None (omega arith));
      bound = record { within = omega arith; before = λ i x h l. absurd (omega arith); after = λ i x h l. refl };
      completed = record { within = omega arith; before = λ i x h l. absurd (omega arith); after = λ i x h l. refl };
      waiting = λ q. refl;
      free = refl;
    }

-- a point that waits carries what it carried before
waits_same : (p : Plan) (t : ℕ) (waiting : Bool) (a b : Option ℕ) → (waiting ≡ true → a ≡ b) →
    (waiting && option_map_or (λ e. option_map_or (λ s. s == t) (chain_of p e) false) a false) ≡ (waiting &&
    option_map_or (λ e. option_map_or (λ s. s == t) (chain_of p e) false) b false)
waits_same p t true a b f = ap (λ o. option_map_or (λ e. option_map_or (λ s. s == t) (chain_of p e) false) o false)
    (f refl)
waits_same p t false a b f = refl

carries_not : (p : Plan) (t s e : ℕ) (o : Option ℕ) → o ≡ Some e → chain_of p e ≡ Some s → (t ≡ s → ⊥) →
    option_map_or (λ e. option_map_or (λ s. s == t) (chain_of p e) false) o false ≡ false
carries_not p t s e o c is n =
    ap (λ o. option_map_or (λ e. option_map_or (λ s. s == t) (chain_of p e) false) o false) c
    ∙ (ap (λ o. option_map_or (λ s. s == t) o false) is ∙ ne_eqb s t (λ h. n (sym h)))

carries_it : (p : Plan) (t e : ℕ) (o : Option ℕ) → o ≡ Some e → chain_of p e ≡ Some t →
    option_map_or (λ e. option_map_or (λ s. s == t) (chain_of p e) false) o false ≡ true
carries_it p t e o c is =
    ap (λ o. option_map_or (λ e. option_map_or (λ s. s == t) (chain_of p e) false) o false) c
    ∙ (ap (λ o. option_map_or (λ s. s == t) o false) is ∙ eq-eqb t t refl)

module _ (p : Plan) (f : Facts p) (w : PointState) (k : Keeps p w) where
  once : (t : ℕ) → StandOnce (chain p t)
  once t = ordered_once p (chain p t) (f.formed.chain_order t)

  chain_at : (t i e : ℕ) → slice_get (chain p t) i ≡ Some e → chain_of p e ≡ Some t
  chain_at t i e h = f.formed.of_chain e t (get_has (chain p t) i e h)

  -- an operation isn't of another chain
  not_there : (t s e i : ℕ) → chain_of p e ≡ Some s → (t ≡ s → ⊥) → slice_get (chain p t) i ≡ Some e → ⊥
  not_there t s e i of n h =
      let c = sym (chain_at t i e h) ∙ of in
      let same : t ≡ s = cc in
      n same

  module _ (t : ℕ) (l : Timeline) (is : IsTimelineOf p w t l) (kept : KeepsLists l) where
    count : length l.values ≡ length (chain p t)
    count = ap length is.values ∙ length-map (chain p t) (value p)

    -- Takes

    waiting_after : (e q : ℕ) → w.waiting q ≡ false → (x : ℕ) →
        waits_on p w t x ≡ (w.waiting x && option_map_or (λ e. option_map_or (λ s. s == t) (chain_of p e) false) (put
        w.carried q (Some e) x) false)
    waiting_after e q idle x = waits_same p t (w.waiting x) (w.carried x) (put w.carried q (Some e) x) (λ h. sym
        (put_there w.carried q (Some e) x (λ s. false≢true (sym idle ∙ (ap w.waiting (sym s) ∙ h)))))

    -- a point that carries nothing doesn't wait
    unwaiting : (q : ℕ) → w.carried q ≡ None → w.waiting q ≡ false
    unwaiting q none = by_test (w.waiting q) refl
      where
        by_test : (b : Bool) → w.waiting q ≡ b → b ≡ false
        by_test false h = refl
        by_test true h = let v = k.links.waits q h in let c = sym none ∙ v.carried in absurd (cc)

    module _ (i e : ℕ) (here : slice_get (chain p t) i ≡ Some e) where
      points_set : (q j x : ℕ) → slice_get (chain p t) j ≡ Some x →
          get_or (set l.points i (Some q)) j None ≡ put w.point_of e (Some q) x
      points_set q j x h = elim (cases_eq j i) [
        | inl s ↦
            let same : e ≡ x = let a = sym here ∙ (ap (slice_get (chain p t)) (sym s) ∙ h) in cc in
            let w1 = get_within (chain p t) i e here in
            let w2 = kept.one_each in
            let w3 = count in
            ap (λ (n : ℕ). get_or (set l.points i (Some q)) n None) s
            ∙ get_or-set_same l.points i (Some q) None (omega arith)
            ∙ sym (ap (put w.point_of e (Some q)) (sym same) ∙ put_here w.point_of e (Some q))
        | inr d ↦
            get_or-set_other l.points i j (Some q) None d ∙ (is.points j x h
            ∙ sym (put_there w.point_of e (Some q) x (λ s. d (once t j i e (h ∙ ap Some s) here))))
      ]

      pub fresh_take : (q : ℕ) → CanTake p w e q true → chain_of p e ≡ Some t →
          IsTimelineOf p (after_event p w (Take e q true)) t (after_take l i w.points)
      fresh_take q g of =
          let same : g.chain ≡ t = let c = sym g.in_chain ∙ of in cc in
          let none : l.free ≡ [] = is.free ∙ (ap w.free (sym same) ∙ g.point.0) in
          subst (λ (fs : List ℕ). IsTimelineOf p (after_event p w (Take e q true)) t (take_from l i w.points fs))
          (sym none)
          (record {
            initial_value = is.initial_value;
            values = is.values;
            points = λ j x h. ap (λ (n : ℕ). get_or (set l.points i (Some n)) j None) (sym g.point.1)
                ∙ points_set q j x h;
            bound = is.bound;
            completed = is.completed;
            waiting = λ x. is.waiting x ∙ waiting_after e q (unwaiting q (k.links.beyond q (let z = g.point.1 in
                omega arith)).0) x;
            free = is.free;
          })

      pub reused_take : (q : ℕ) → CanTake p w e q false → chain_of p e ≡ Some t →
          IsTimelineOf p (after_event p w (Take e q false)) t (after_take l i w.points)
      reused_take q g of =
          let same : g.chain ≡ t = let c = sym g.in_chain ∙ of in cc in
          let first = first_is (w.free t) q (ap (λ (n : ℕ). slice_get (w.free n) 0) (sym same) ∙ g.point) in
          let rest = first.0 in
          let whole : l.free ≡ q ∷ rest = is.free ∙ first.1 in
          let is_free : has (w.free t) q ≡ true = ap (λ zs. has zs q) first.1 ∙ has_here q rest in
          let gone : has rest q ≡ false = (subst (Latest k.before) first.1 (k.links.free_order t)).1 in
          let left : filter (λ r. not (r == q)) (w.free t) ≡ rest = ap (filter (λ r. not (r == q))) first.1
          ∙ without_head q rest gone in
          let freed : rest ≡ at_option {A = ℕ → List ℕ} (λ t f. put f t (filter (λ r. not (r == q)) (f t))) (chain_of
          p e) w.free t =
          sym (ap (λ o. at_option {A = ℕ → List ℕ} (λ t f. put f t (filter (λ r. not (r == q)) (f t))) o w.free t) of
          ∙ (put_here w.free t (filter (λ r. not (r == q)) (w.free t)) ∙ left)) in
          subst (λ (fs : List ℕ). IsTimelineOf p (after_event p w (Take e q false)) t (take_from l i w.points fs))
          (sym whole)
          (record {
            initial_value = is.initial_value;
            values = is.values;
            points = λ j x h. points_set q j x h;
            bound = is.bound;
            completed = is.completed;
            waiting = λ x. is.waiting x ∙ waiting_after e q (unwaiting q (k.links.free_in t q is_free).0) x;
            free = freed;
          })
        where
          without_head : (q : ℕ) (rest : List ℕ) → has rest q ≡ false → filter (λ r. not (r == q)) (q ∷ rest) ≡ rest
          without_head q rest h =
              cond-false (not (q == q)) (q ∷ filter (λ r. not (r == q)) rest) (filter (λ r. not (r == q)) rest) (ap
              not (eq-eqb q q refl)) ∙ all_stay rest h
            where
              all_stay : (xs : List ℕ) → has xs q ≡ false → filter (λ r. not (r == q)) xs ≡ xs
              all_stay [] h = refl
              all_stay (x ∷ xs) h =
                  let parts = or_parts (x == q) (has xs q) h in
                  cond-true (not (x == q)) (x ∷ filter (λ r. not (r == q)) xs) (filter (λ r. not (r == q)) xs) (ap
                  not parts.0) ∙ ap (λ zs. x ∷ zs) (all_stay xs parts.1)

    pub other_take : (s e q : ℕ) (fresh : Bool) → CanTake p w e q fresh → chain_of p e ≡ Some s → (t ≡ s → ⊥) →
        IsTimelineOf p (after_event p w (Take e q fresh)) t l
    other_take s e q true g of n =
        record {
          initial_value = is.initial_value;
          values = is.values;
          points = λ j x h. is.points j x h ∙ sym (put_there w.point_of e (Some q) x (λ i. not_there t s e j of n (h
              ∙ ap Some i)));
          bound = is.bound;
          completed = is.completed;
          waiting = λ x. is.waiting x ∙ waiting_after e q (unwaiting q (k.links.beyond q (let z = g.point.1 in omega
              arith)).0) x;
          free = is.free;
        }
    other_take s e q false g of n =
        let same : g.chain ≡ s = let c = sym g.in_chain ∙ of in cc in
        let first = first_is (w.free s) q (ap (λ (n : ℕ). slice_get (w.free n) 0) (sym same) ∙ g.point) in
        let is_free : has (w.free s) q ≡ true = ap (λ zs. has zs q) first.1 ∙ has_here q first.0 in
        record {
          initial_value = is.initial_value;
          values = is.values;
          points = λ j x h. is.points j x h ∙ sym (put_there w.point_of e (Some q) x (λ i. not_there t s e j of n (h
              ∙ ap Some i)));
          bound = is.bound;
          completed = is.completed;
          waiting = λ x. is.waiting x ∙ waiting_after e q (unwaiting q (k.links.free_in s q is_free).0) x;
          free = is.free ∙ sym (ap (λ o. at_option {A = ℕ →
              List ℕ} (λ t f. put f t (filter (λ r. not (r == q)) (f t))) o w.free t) of
              ∙ put_there w.free s (filter (λ r. not (r == q)) (w.free s)) t n);
        }

    -- a point that isn't made yet stands in no list
    entries_below : (n : ℕ) (xs : List (Option ℕ)) → ((j q : ℕ) → get_or xs j None ≡ Some q → q < w.points) →
        has (points_of (entries_from n xs)) w.points ≡ false
    entries_below n [] b = refl
    entries_below n (None ∷ xs) b = entries_below (n + 1) xs (λ j q h. b (suc j) q h)
    entries_below n (Some r ∷ xs) b =
        let l = b 0 r refl in
        or_from (r == w.points) (has (points_of (entries_from (n + 1) xs)) w.points) (ne_eqb r w.points (λ e. omega
        arith)) (entries_below (n + 1) xs (λ j q h. b (suc j) q h))

    points_below : (j q : ℕ) → get_or l.points j None ≡ Some q → q < w.points
    points_below j q h = elim (cases_lt j (length (chain p t))) [
      | inl m ↦
          let x = get_some (chain p t) j m in
          k.points.made x.0 q (sym (is.points j x.0 x.1) ∙ h)
      | inr m ↦
          let w2 = kept.one_each in
          let w3 = count in
          let none = get_or_past l.points j None (omega arith) in
          let c = sym none ∙ h in
          absurd (cc)
    ]

    unknown : IsAbsent w.points (all_points l)
    unknown =
        has-append (l.free ++ points_of (taken l) ++ points_of (pending l)) l.waiting w.points
        ∙ or_from (has (l.free ++ points_of (taken l) ++ points_of (pending l)) w.points) (has l.waiting w.points)
        (has-append (l.free ++ points_of (taken l)) (points_of (pending l)) w.points
        ∙ or_from (has (l.free ++ points_of (taken l)) w.points) (has (points_of (pending l)) w.points)
        (has-append l.free (points_of (taken l)) w.points
        ∙ or_from (has l.free w.points) (has (points_of (taken l)) w.points) free_not taken_not)
        pending_not) waiting_not
      where
        free_not : has l.free w.points ≡ false
        free_not = by_test (has (w.free t) w.points) refl
          where
            by_test : (b : Bool) → has (w.free t) w.points ≡ b → has l.free w.points ≡ false
            by_test false h = ap (λ zs. has zs w.points) is.free ∙ h
            by_test true h = let b = free_below p f w k t w.points h in absurd (omega arith)

        taken_not : has (points_of (taken l)) w.points ≡ false
        taken_not = entries_below l.bound (drop l.bound l.points) (λ j q h. points_below (l.bound + j) q (sym
            (get_or-drop l.bound l.points j None) ∙ h))

        pending_not : has (points_of (pending l)) w.points ≡ false
        pending_not = entries_below l.completed (slice_range l.points l.completed l.bound) (λ j q h. at j q h)
          where
            at : (j q : ℕ) → get_or (take (l.bound - l.completed) (drop l.completed l.points)) j None ≡ Some q →
                q < w.points
            at j q h = elim (cases_lt j (l.bound - l.completed)) [
              | inl m ↦ points_below (l.completed + j) q (sym (get_or-take (l.bound - l.completed) (drop l.completed
                  l.points) j None m ∙ get_or-drop l.completed l.points j None) ∙ h)
              | inr m ↦
                  let z = length-take (l.bound - l.completed) (drop l.completed l.points) in
                  let none = get_or_past (take (l.bound - l.completed) (drop l.completed l.points)) j None (omega
                  arith) in
                  let c = sym none ∙ h in
                  absurd (cc)
            ]

        waiting_not : has l.waiting w.points ≡ false
        waiting_not = is.waiting w.points ∙ ap (λ b. b && option_map_or (λ e. option_map_or (λ s. s == t) (chain_of p
            e) false) (w.carried w.points) false) (unwaiting w.points (k.links.beyond w.points (omega arith)).0)

    module _ (i e : ℕ) (here : slice_get (chain p t) i ≡ Some e) where
      pub may_take : w.point_of e ≡ None → MayTake l i w.points
      may_take none =
          record {
            exists = (let m = get_within (chain p t) i e here in let c = count in omega arith);
            without = is.points i e here ∙ none;
            unknown = unknown;
          }

      -- The operation whose turn it is in the chain

      pub turn_place : (done : ℕ → Bool) (n : ℕ) → AreFirst done (chain p t) n → done e ≡ false →
          list_all done (smaller_ops p t e) ≡ true → i ≡ n
      turn_place done n first idle all = elim (cases_lt i n) [
        | inl m ↦ absurd (false≢true (sym idle ∙ first.before i e here m))
        | inr m ↦ elim (cases_eq i n) [
          | inl s ↦ s
          | inr d ↦ absurd (behind (grind arith))
        ]
      ]
        where
          behind : n < i → ⊥
          behind m =
              let w1 = get_within (chain p t) i e here in
              let x = get_some (chain p t) n (omega arith) in
              let less = chain_places p (initial p t) (chain p t) (f.order.chains t) n i x.0 e x.1 here m in
              let member = filter-has (λ g. nat_lt (value p g) (value p e)) (chain p t) x.0 (get_has (chain p t) n x.0
              x.1) (lt-ltb (value p x.0) (value p e) less) in
              false≢true (sym (first.after n x.0 x.1 (omega arith))
              ∙ list_all_has done (smaller_ops p t e) x.0 all member)

      pub smaller_done : (done : ℕ → Bool) → AreFirst done (chain p t) i → list_all done (smaller_ops p t e) ≡ true
      smaller_done done first = list_all_from done (smaller_ops p t e) (λ x m. one x (filter-has_cases (λ g. nat_lt
          (value p g) (value p e)) (chain p t) x m))
        where
          one : (x : ℕ) → (has (chain p t) x ≡ true) × (nat_lt (value p x) (value p e) ≡ true) → done x ≡ true
          one x h =
              let at = place_in (chain p t) x h.0 in
              let less = ltb-true (value p x) (value p e) h.1 in
              elim (cases_lt at.0 i) [
                | inl m ↦ first.before at.0 x at.1 m
                | inr m ↦ elim (cases_eq i at.0) [
                  | inl s ↦
                      let same : e ≡ x = let z = sym here ∙ (ap (slice_get (chain p t)) s ∙ at.1) in cc in
                      let v = ap (value p) same in
                      absurd (omega arith)
                  | inr d ↦
                      let more = chain_places p (initial p t) (chain p t) (f.order.chains t) i at.0 e x here at.1
                      (grind arith) in
                      absurd (omega arith)
                ]
              ]

      -- Binds

      pub own_bind : (q : ℕ) → i ≡ l.bound → IsTimelineOf p (after_event p w (Bind e q)) t (after_bind l)
      own_bind q s =
          record {
            initial_value = is.initial_value;
            values = is.values;
            points = is.points;
            bound = put_next w.bound (chain p t) l.bound e is.bound (once t) (ap (slice_get (chain p t)) (sym s)
                ∙ here);
            completed = is.completed;
            waiting = is.waiting;
            free = is.free;
          }

      pub may_bind : (q : ℕ) → w.carried q ≡ Some e → i ≡ l.bound → MayBind l i q
      may_bind q c s = record { unbound = (omega arith); taken = is.points i e here ∙ k.points.carries q e c }

      -- Completions

      pub own_complete : i ≡ l.completed → w.bound e ≡ true → w.past e ≡ false →
          (l.completed < l.bound) × IsTimelineOf p (after_event p w (Complete e)) t (after_complete l)
      own_complete s b unpast = (
        some,
        subst (λ (u : Timeline). IsTimelineOf p (after_event p w (Complete e)) t u) (sym is_after)
            (record {
              initial_value = is.initial_value;
              values = is.values;
              points = is.points;
              bound = is.bound;
              completed = put_next w.past (chain p t) l.completed e is.completed (once t) (ap (slice_get (chain p t))
                  (sym s) ∙ here);
              waiting = λ x. has-append l.waiting (least.0.point ∷ []) x ∙ more x;
              free = is.free;
            }),
      )
        where
          some : l.completed < l.bound
          some = elim (cases_lt i l.bound) [
            | inl m ↦ omega arith
            | inr m ↦ absurd (false≢true (sym (is.bound.after i e here m) ∙ b))
          ]

          least : (x : Entry) × IsLeast l x
          least = least_pending l kept some

          is_after : after_complete l ≡ record l {
            completed = l.completed + 1;
            waiting = l.waiting ++ least.0.point
                ∷ [];
          }
          is_after = ap (complete_from l) least.1.first

          of_e : w.point_of e ≡ Some least.0.point
          of_e = sym (is.points i e here) ∙ (ap (point_at l) s ∙ least.1.point)

          carries : w.carried least.0.point ≡ Some e
          carries = k.links.pending e least.0.point of_e unpast

          more : (x : ℕ) → (has l.waiting x || has (least.0.point ∷ []) x) ≡ (at_option {A = ℕ →
              Bool} (λ q f. put f q true) (w.point_of e) w.waiting x && option_map_or (λ e. option_map_or (λ s. s ==
              t) (chain_of p e) false) (w.carried x) false)
          more x =
              subst (λ (o : Option ℕ). (has l.waiting x || has (least.0.point ∷ []) x) ≡ (at_option {A = ℕ →
              Bool} (λ q f. put f q true) o w.waiting x && option_map_or (λ e. option_map_or (λ s. s == t)
              (chain_of p e) false) (w.carried x) false)) (sym of_e)
              (elim (cases_eq x least.0.point) [
                | inl h ↦
                    or_right (has l.waiting x) (has (least.0.point ∷ []) x) (ap (has (least.0.point ∷ [])) h
                    ∙ has_here least.0.point [])
                    ∙ sym (and_from (put w.waiting least.0.point true x) (option_map_or (λ e. option_map_or (λ s. s
                    == t) (chain_of p e) false) (w.carried x) false)
                    (ap (put w.waiting least.0.point true) h ∙ put_here w.waiting least.0.point true)
                    (carries_it p t e (w.carried x) (ap w.carried h ∙ carries) (chain_at t i e here)))
                | inr d ↦
                    ap (λ b. has l.waiting x || b) (or_from (least.0.point == x) false (ne_eqb least.0.point x (λ h.
                    d (sym h))) refl)
                    ∙ (or_none (has l.waiting x)
                    ∙ (is.waiting x ∙ ap (λ b. b && option_map_or (λ e. option_map_or (λ s. s == t) (chain_of p e)
                    false) (w.carried x) false) (sym (put_there w.waiting least.0.point true x d))))
              ])
            where
              or_none : (b : Bool) → (b || false) ≡ b
              or_none true = refl
              or_none false = refl

    pub other_bind : (s e q : ℕ) → chain_of p e ≡ Some s → (t ≡ s → ⊥) → IsTimelineOf p (after_event p w (Bind e q)) t l
    other_bind s e q of n =
        record {
          initial_value = is.initial_value;
          values = is.values;
          points = is.points;
          bound = put_other w.bound (chain p t) l.bound e is.bound (λ j h. not_there t s e j of n h);
          completed = is.completed;
          waiting = is.waiting;
          free = is.free;
        }

    pub other_complete : (s e : ℕ) → w.past e ≡ false → chain_of p e ≡ Some s → (t ≡ s → ⊥) →
        IsTimelineOf p (after_event p w (Complete e)) t l
    other_complete s e unpast of n =
        record {
          initial_value = is.initial_value;
          values = is.values;
          points = is.points;
          bound = is.bound;
          completed = put_other w.past (chain p t) l.completed e is.completed (λ j h. not_there t s e j of n h);
          waiting = λ x. is.waiting x ∙ by_point (w.point_of e) refl x;
          free = is.free;
        }
      where
        by_point : (o : Option ℕ) → w.point_of e ≡ o → (x : ℕ) → waits_on p w t x ≡ (at_option {A = ℕ →
            Bool} (λ q f. put f q true) o w.waiting x && option_map_or (λ e. option_map_or (λ s. s == t) (chain_of p
            e) false) (w.carried x) false)
        by_point None h x = refl
        by_point (Some q) h x = elim (cases_eq x q) [
          | inl j ↦
              let c = ap w.carried j ∙ k.links.pending e q h unpast in
              let none = carries_not p t s e (w.carried x) c of n in
              ap (λ b. w.waiting x && b) none ∙ (and_none (w.waiting x)
              ∙ sym (ap (λ b. put w.waiting q true x && b) none ∙ and_none (put w.waiting q true x)))
          | inr d ↦ ap (λ b. b && option_map_or (λ e. option_map_or (λ s. s == t) (chain_of p e) false) (w.carried x)
              false) (sym (put_there w.waiting q true x d))
        ]
          where
            and_none : (b : Bool) → (b && false) ≡ false
            and_none true = refl
            and_none false = refl

    -- Freeings

    freed_carries : (e q : ℕ) → w.carried q ≡ Some e → (x : ℕ) → (x ≡ q → ⊥) →
        (put w.waiting q false x && option_map_or (λ e. option_map_or (λ s. s == t) (chain_of p e) false) (put
        w.carried q None x) false) ≡ waits_on p w t x
    freed_carries e q c x d =
        ap (λ b. b && option_map_or (λ e. option_map_or (λ s. s == t) (chain_of p e) false) (put w.carried q None x)
        false) (put_there w.waiting q false x d)
        ∙ ap (λ o. w.waiting x && option_map_or (λ e. option_map_or (λ s. s == t) (chain_of p e) false) o false)
        (put_there w.carried q None x d)

    freed_gone : (q x : ℕ) → x ≡ q → (put w.waiting q false x && option_map_or (λ e. option_map_or (λ s. s == t)
        (chain_of p e) false) (put w.carried q None x) false) ≡ false
    freed_gone q x h =
        ap (λ b. b && option_map_or (λ e. option_map_or (λ s. s == t) (chain_of p e) false) (put w.carried q None x)
        false) (ap (put w.waiting q false) h ∙ put_here w.waiting q false)

    pub own_free : (e q : ℕ) → w.waiting q ≡ true → w.carried q ≡ Some e → chain_of p e ≡ Some t →
        (MayFree l q) × IsTimelineOf p (after_event p w (Free q)) t (after_free l q)
    own_free e q g c of = (
      is.waiting q ∙ and_from (w.waiting q) (option_map_or (λ e. option_map_or (λ s. s == t) (chain_of p e) false)
          (w.carried q) false) g (carries_it p t e (w.carried q) c of),
      record {
        initial_value = is.initial_value;
        values = is.values;
        points = is.points;
        bound = is.bound;
        completed = is.completed;
        waiting = λ x. elim (cases_eq x q) [
          | inl h ↦ gone x h l.waiting ∙ sym (freed_gone q x h)
          | inr d ↦ stays x d l.waiting ∙ (is.waiting x ∙ sym (freed_carries e q c x d))
        ];
        free =
            ap (λ zs. q ∷ zs) is.free
            ∙ sym (ap (λ o. at_option {A = ℕ → List ℕ} (λ t f. put f t (q ∷ f t)) o w.free t) (ap (λ o. option_map_or
            (chain_of p) o None) c ∙ of) ∙ put_here w.free t (q ∷ w.free t));
      },
    )
      where
        gone : (x : ℕ) → x ≡ q → (zs : List ℕ) → has (filter (λ p. not (p == q)) zs) x ≡ false
        gone x h [] = refl
        gone x h (z ∷ zs) = by_test (z == q) refl (gone x h zs)
          where
            by_test : (b : Bool) → (z == q) ≡ b → has (filter (λ p. not (p == q)) zs) x ≡ false →
                has (filter (λ p. not (p == q)) (z ∷ zs)) x ≡ false
            by_test true j r = ap (λ us. has us x) (cond-false (not (z == q)) (z ∷ filter (λ p. not (p == q)) zs)
                (filter (λ p. not (p == q)) zs) (ap not j)) ∙ r
            by_test false j r =
                ap (λ us. has us x) (cond-true (not (z == q)) (z ∷ filter (λ p. not (p == q)) zs) (filter (λ p. not
                (p == q)) zs) (ap not j))
                ∙ or_from (z == x) (has (filter (λ p. not (p == q)) zs) x) (ap (λ (n : ℕ). z == n) h ∙ j) r

        stays : (x : ℕ) → (x ≡ q → ⊥) → (zs : List ℕ) → has (filter (λ p. not (p == q)) zs) x ≡ has zs x
        stays x d [] = refl
        stays x d (z ∷ zs) = by_test (z == q) refl (stays x d zs)
          where
            by_test : (b : Bool) → (z == q) ≡ b → has (filter (λ p. not (p == q)) zs) x ≡ has zs x →
                has (filter (λ p. not (p == q)) (z ∷ zs)) x ≡ has (z ∷ zs) x
            by_test true j r =
                ap (λ us. has us x) (cond-false (not (z == q)) (z ∷ filter (λ p. not (p == q)) zs) (filter (λ p. not
                (p == q)) zs) (ap not j))
                ∙ (r ∙ ap (λ b. b || has zs x) (sym (ne_eqb z x (λ h. d (sym h ∙ eqb-true z q j)))))
            by_test false j r =
                ap (λ us. has us x) (cond-true (not (z == q)) (z ∷ filter (λ p. not (p == q)) zs) (filter (λ p. not
                (p == q)) zs) (ap not j))
                ∙ ap (λ b. (z == x) || b) r

    pub other_free : (s e q : ℕ) → w.waiting q ≡ true → w.carried q ≡ Some e → chain_of p e ≡ Some s → (t ≡ s →
        ⊥) → IsTimelineOf p (after_event p w (Free q)) t l
    other_free s e q g c of n =
        record {
          initial_value = is.initial_value;
          values = is.values;
          points = is.points;
          bound = is.bound;
          completed = is.completed;
          waiting = λ x. elim (cases_eq x q) [
            | inl h ↦
                is.waiting x ∙ (ap (λ b. w.waiting x && b) (carries_not p t s e (w.carried x) (ap w.carried h
                ∙ c) of n) ∙ and_none (w.waiting x)) ∙ sym (freed_gone q x h)
            | inr d ↦ is.waiting x ∙ sym (freed_carries e q c x d)
          ];
          free =
              is.free
              ∙ sym (ap (λ o. at_option {A = ℕ → List ℕ} (λ t f. put f t (q ∷ f t)) o w.free t) (ap (λ o.
              option_map_or (chain_of p) o None) c ∙ of) ∙ put_there w.free s (q ∷ w.free s) t n);
        }
      where
        and_none : (b : Bool) → (b && false) ≡ false
        and_none true = refl
        and_none false = refl
