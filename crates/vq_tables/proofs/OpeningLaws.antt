-- The tables before the first event.
use Rattle.std.proofs.Common.{◌≡◌, ℕ, zero, suc, ◌+◌, ◌<◌, ◌≤◌, ◌++◌, ◌∷◌, [], Bool, true, false, List, length, get_or, set, map, take, filter, replicate, Some, None, refl, sym, ap, ◌∙◌, inl, inr, subst, arith}
use Rattle.std.specs.Prelude.{sum, count_by, ◌||◌}
use Rattle.std.specs.List.{slice_get, range_with_len}
use Rattle.std.specs.Option.{option_map_or}
use Rattle.std.proofs.lemmas.Bool.{cases_lt, cases_eq, cond-true, cond-false, ne_eqb}
use Rattle.std.proofs.lemmas.List.{get_or_past, get_or_push, get_or_append_left, length-replicate, get_or-set_same, get_or-set_other, length-set}
use Rattle.std.proofs.lemmas.Option.{slice_get_past}
use Rattle.vq_model.specs.declared.plan.Lane.{Lane}
use Rattle.vq_model.specs.declared.plan.PlanJob.{PlanJob}
use Rattle.vq_model.specs.Lanes.{lane_number, KeepsLanes, KeepsSemaphores}
use Rattle.vq_model.specs.Plan.{Plan, initial, needs, of_job, same_lane, chain, value}
use Rattle.vq_ground.specs.Lists.{has}
use Rattle.vq_ground.proofs.Gets.{has_at, place_in as place_of}
use Rattle.vq_ground.proofs.Lists.{has_here, has_there}
use Rattle.std.proofs.lemmas.List.Sums.{sum_by-cons, count_by-le-length}
use Rattle.vq_point_laws.specs.Points.{opening_points, jobs_of_lane}
use Rattle.vq_core_laws.proofs.Cited.{ordered_once, count_raised, same_lane_self, in_lane, InLane, lane_at_is, opening_timeline}
use Rattle.vq_tables.specs.declared.lanes.LaneState.{LaneState}
use Rattle.vq_tables.specs.declared.notes.Note.{Note}
use Rattle.vq_tables.specs.Lanes.{AreLanes, lane_named, no_lane}
use Rattle.vq_tables.specs.Notes.{AreNotes, IsNote, place_in, no_note}
use Rattle.vq_tables.specs.Opening.{nothing, unmarked, HasLanesUpTo, are_in_lane}
use Rattle.vq_tables.specs.Tables.{ArePayloads, AreTimelines, no_timeline}
use Rattle.vq_core_laws.specs.Firsts.{StandOnce}
use Rattle.vq_core_laws.specs.TimelineOf.{IsTimelineOf}
use Rattle.vq_model.specs.WellFormed.{IsWellFormed}
use Rattle.vq_point_laws.specs.Timeline.{Timeline, KeepsLists, new_timeline}
use Rattle.std.proofs.lemmas.List.FromFn.{length-range_with_len}
use Rattle.vq_model.proofs.Actors.{same_lane_is}
use Rattle.vq_model.proofs.Plans.{op_within}
use Rattle.vq_tables.proofs.LaneLaws.{named_once}
use Rattle.vq_tables.proofs.LaneNext.{named}

pub replicate_same : {A : Type 0} (n i : ℕ) (x : A) → get_or (replicate n x) i x ≡ x
replicate_same zero i x = refl
replicate_same (suc n) zero x = refl
replicate_same (suc n) (suc i) x = replicate_same n i x

-- the needs of one more job
pub needs_more : (f : PlanJob → ℕ) (xs : List PlanJob) (j : ℕ) (x : PlanJob) → slice_get xs j ≡ Some x →
    sum (map f (take (j + 1) xs)) ≡ sum (map f (take j xs)) + f x
needs_more f xs j x e = let one : j + 1 ≡ suc j = omega arith in ap (λ (n : ℕ). sum (map f (take n xs))) one
    ∙ from xs j x e
  where
    from : (xs : List PlanJob) (j : ℕ) (x : PlanJob) → slice_get xs j ≡ Some x →
        sum (map f (take (suc j) xs)) ≡ sum (map f (take j xs)) + f x
    from [] j x e = absurd (let c : None ≡ Some x = e in cc)
    from (y ∷ xs) zero x e =
        let same : y ≡ x = cc in
        let g = ap f same in
        let c = sum_by-cons (λ (n : ℕ). n) (f y) [] in
        omega arith
    from (y ∷ xs) (suc j) x e =
        let r = from xs j x e in
        let a = sum_by-cons (λ (n : ℕ). n) (f y) (map f (take (suc j) xs)) in
        let b = sum_by-cons (λ (n : ℕ). n) (f y) (map f (take j xs)) in
        omega arith

pub payloads_open : (p : Plan) → KeepsSemaphores p → (xs : List ℕ) → length xs ≡ length p.chains → ((t : ℕ) →
    t < length p.chains → get_or xs t 0 ≡ initial p t) → ArePayloads (length p.script.semaphores) (initial p) xs
payloads_open p semaphores xs n each =
    record {
      count = n ∙ semaphores.chains;
      each = λ t. elim (cases_lt t (length p.chains)) [
        | inl l ↦ each t l
        | inr l ↦
            let a = semaphores.initials in
            let b = semaphores.chains in
            get_or_past xs t 0 (omega arith) ∙ sym (ap (λ o. option_map_or (λ x. x) o 0) (slice_get_past p.initials t
            (omega arith)))
      ];
    }

pub notes_open : (p : Plan) (rows : List (List Note)) → length rows ≡ length p.jobs → ((j : ℕ) →
    j < length p.jobs → get_or rows j [] ≡ replicate (length (needs p j)) no_note) →
    AreNotes p unmarked [] nothing nothing rows
notes_open p rows n each =
    record {
      count = n;
      one_each = λ j. elim (cases_lt j (length p.jobs)) [
        | inl l ↦ ap length (each j l) ∙ length-replicate (length (needs p j)) no_note
        | inr l ↦ ap length (get_or_past rows j [] (omega arith))
            ∙ ap length (sym (ap (λ o. option_map_or (λ (x : PlanJob). x.needs) o []) (slice_get_past p.jobs j l)))
      ];
      each = λ j e some. subst (IsNote p unmarked [] nothing nothing j e) (sym (empty j (place_in p j e))) (record {
        references = refl;
        looks = refl;
        next_held = λ a h. refl;
        other_held = λ h. refl;
      });
    }
  where
    empty : (j k : ℕ) → get_or (get_or rows j []) k no_note ≡ no_note
    empty j k = elim (cases_lt j (length p.jobs)) [
      | inl l ↦ ap (λ (r : List Note). get_or r k no_note) (each j l) ∙ replicate_same (length (needs p j)) k no_note
      | inr l ↦ ap (λ (r : List Note). get_or r k no_note) (get_or_past rows j [] (omega arith))
    ]

pub lanes_none : (p : Plan) (n : ℕ) → HasLanesUpTo p 0 (replicate n no_lane)
lanes_none p n =
    record {
      jobs = λ k l. ap (λ (s : LaneState). s.jobs) (replicate_same n k no_lane);
      none_released = λ k. ap (λ (s : LaneState). s.released) (replicate_same n k no_lane);
      none_finished = λ k. ap (λ (s : LaneState). s.finished) (replicate_same n k no_lane);
      none_held = λ k. ap (λ (s : LaneState). s.held) (replicate_same n k no_lane);
    }

-- one more job is sorted into its lane
filter_push : (test : ℕ → Bool) (a n : ℕ) →
    filter test (range_with_len a (suc n)) ≡ filter test (range_with_len a n) ++ filter test ((a + n) ∷ [])
filter_push test a zero = let e : a ≡ a + 0 = omega arith in ap (λ (k : ℕ). filter test (k ∷ [])) e
filter_push test a (suc n) = by_test (test a) refl (filter_push test (a + 1) n)
  where
    here : (a + 1) + n ≡ a + suc n
    here = omega arith

    by_test : (b : Bool) → test a ≡ b → filter test (range_with_len (a + 1) (suc n)) ≡ filter test (range_with_len (a
        + 1) n) ++ filter test (((a + 1) + n) ∷ []) →
        filter test (range_with_len a (suc (suc n))) ≡ filter test (range_with_len a (suc n)) ++ filter test ((a +
        suc n) ∷ [])
    by_test true e r =
        cond-true (test a) (a ∷ filter test (range_with_len (a + 1) (suc n))) (filter test (range_with_len (a + 1)
        (suc n))) e
        ∙ (ap (λ zs. a ∷ zs) (r ∙ ap (λ (k : ℕ). filter test (range_with_len (a + 1) n) ++ filter test (k ∷ [])) here)
        ∙ ap (λ zs. zs ++ filter test ((a + suc n) ∷ [])) (sym (cond-true (test a) (a ∷ filter test (range_with_len
        (a + 1) n)) (filter test (range_with_len (a + 1) n)) e)))
    by_test false e r =
        cond-false (test a) (a ∷ filter test (range_with_len (a + 1) (suc n))) (filter test (range_with_len (a + 1)
        (suc n))) e
        ∙ (r ∙ ap (λ (k : ℕ). filter test (range_with_len (a + 1) n) ++ filter test (k ∷ [])) here
        ∙ ap (λ zs. zs ++ filter test ((a + suc n) ∷ [])) (sym (cond-false (test a) (a ∷ filter test (range_with_len
        (a + 1) n)) (filter test (range_with_len (a + 1) n)) e)))

append_none : (xs : List ℕ) → xs ++ [] ≡ xs
append_none [] = refl
append_none (x ∷ xs) = ap (λ zs. x ∷ zs) (append_none xs)

module _ (p : Plan) (n : ℕ) (x : PlanJob) (at : slice_get p.jobs n ≡ Some x) where
  in_own : (k : ℕ) → of_job (λ y. same_lane (lane_named k) y.lane) false p n ≡ same_lane (lane_named k) x.lane
  in_own k = ap (λ o. option_map_or (λ (y : PlanJob). same_lane (lane_named k) y.lane) o false) at

  one_more : (k : ℕ) → are_in_lane p k (n + 1) ≡ are_in_lane p k n ++ filter (λ j. of_job (λ y. same_lane (lane_named
      k) y.lane) false p j) (n ∷ [])
  one_more k =
      let e : n + 1 ≡ suc n = omega arith in
      let z : 0 + n ≡ n = omega arith in
      ap (are_in_lane p k) e ∙ (filter_push (λ j. of_job (λ y. same_lane (lane_named k) y.lane) false p j) 0 n
      ∙ ap (λ (i : ℕ). are_in_lane p k n ++ filter (λ j. of_job (λ y. same_lane (lane_named k) y.lane) false p j) (i
      ∷ [])) z)

  pub lanes_more : (xs : List LaneState) → HasLanesUpTo p n xs → lane_number x.lane < length xs →
      HasLanesUpTo p (n + 1) (set xs (lane_number x.lane) (record (get_or xs (lane_number x.lane) no_lane) {
        jobs =
            (get_or xs (lane_number x.lane) no_lane).jobs ++ n ∷ [];
      }))
  lanes_more xs up within =
      record {
        jobs = λ k l. elim (cases_eq k (lane_number x.lane)) [
          | inl s ↦
              ap (λ (i : ℕ). (get_or (set xs (lane_number x.lane) new) i no_lane).jobs) s
              ∙ (ap (λ (y : LaneState). y.jobs) (get_or-set_same xs (lane_number x.lane) new no_lane within)
              ∙ (ap (λ js. js ++ n ∷ []) (up.jobs (lane_number x.lane) within)
              ∙ (sym (own_more ∙ refl) ∙ ap (λ (i : ℕ). are_in_lane p i (n + 1)) (sym s))))
          | inr d ↦
              ap (λ (y : LaneState). y.jobs) (get_or-set_other xs (lane_number x.lane) k new no_lane d)
              ∙ (up.jobs k (let z = length-set xs (lane_number x.lane) new in omega arith) ∙ sym (other_more k d))
        ];
        none_released = λ k. kept (λ s. s.released) refl up.none_released k;
        none_finished = λ k. kept (λ s. s.finished) refl up.none_finished k;
        none_held = λ k. kept (λ s. s.held) refl up.none_held k;
      }
    where
      new : LaneState
      new = record (get_or xs (lane_number x.lane) no_lane) {
        jobs = (get_or xs (lane_number x.lane) no_lane).jobs ++
            n ∷ [];
      }

      kept : (part : LaneState → ℕ) → part new ≡ part (get_or xs (lane_number x.lane) no_lane) → ((k : ℕ) →
          part (get_or xs k no_lane) ≡ 0) → (k : ℕ) → part (get_or (set xs (lane_number x.lane) new) k no_lane) ≡ 0
      kept part same zeros k = elim (cases_eq k (lane_number x.lane)) [
        | inl s ↦
            ap (λ (i : ℕ). part (get_or (set xs (lane_number x.lane) new) i no_lane)) s
            ∙ (ap part (get_or-set_same xs (lane_number x.lane) new no_lane within) ∙ (same
            ∙ zeros (lane_number x.lane)))
        | inr d ↦ ap part (get_or-set_other xs (lane_number x.lane) k new no_lane d) ∙ zeros k
      ]

      own_more : are_in_lane p (lane_number x.lane) (n + 1) ≡ are_in_lane p (lane_number x.lane) n ++ n ∷ []
      own_more =
          one_more (lane_number x.lane)
          ∙ ap (λ zs. are_in_lane p (lane_number x.lane) n ++ zs) (cond-true (of_job (λ y. same_lane (lane_named
          (lane_number x.lane)) y.lane) false p n) (n ∷ []) [] (in_own (lane_number x.lane)
          ∙ (ap (λ (l : Lane). same_lane l x.lane) (named x.lane) ∙ same_lane_self x.lane)))

      other_more : (k : ℕ) → (k ≡ lane_number x.lane → ⊥) → are_in_lane p k (n + 1) ≡ are_in_lane p k n
      other_more k d =
          one_more k
          ∙ (ap (λ zs. are_in_lane p k n ++ zs) (cond-false (of_job (λ y. same_lane (lane_named k) y.lane) false p n)
          (n ∷ []) [] (by_test (same_lane (lane_named k) x.lane) refl))
          ∙ append_none (are_in_lane p k n))
        where
          by_test : (b : Bool) → same_lane (lane_named k) x.lane ≡ b →
              of_job (λ y. same_lane (lane_named k) y.lane) false p n ≡ false
          by_test false e = in_own k ∙ e
          by_test true e = absurd (d (named_once k x.lane (same_lane_is (lane_named k) x.lane e)))

pub lanes_open : (p : Plan) → KeepsLanes p → (xs : List LaneState) → length xs ≡ length p.script.queues + 1 →
    HasLanesUpTo p (length p.jobs) xs → AreLanes p unmarked unmarked [] xs
lanes_open p lanes xs n up =
    record {
      count = n;
      each = λ k. record {
        jobs = jobs_are k;
        first_released = record {
          within = (let z = up.none_released k in omega arith);
          before = λ i y e l. let z = up.none_released k in absurd (omega arith);
          after = λ i y e l. refl;
        };
        first_finished = record {
          within = (let z = up.none_finished k in omega arith);
          before = λ i y e l. let z = up.none_finished k in absurd (omega arith);
          after = λ i y e l. refl;
        };
        references = up.none_held k;
      };
    }
  where
    jobs_are : (k : ℕ) → (get_or xs k no_lane).jobs ≡ jobs_of_lane p (lane_named k)
    jobs_are k = elim (cases_lt k (length xs)) [
      | inl l ↦ up.jobs k l
      | inr l ↦ ap (λ (s : LaneState). s.jobs) (get_or_past xs k no_lane l)
          ∙ sym (none (jobs_of_lane p (lane_named k)) (λ j m. beyond j (in_lane p (lane_named k) j m) l))
    ]
      where
        none : (js : List ℕ) → ((j : ℕ) → has js j ≡ true → ⊥) → js ≡ []
        none [] h = refl
        none (j ∷ js) h = absurd (h j (has_here j js))

        beyond : (j : ℕ) → InLane p (lane_named k) j → length xs ≤ k → ⊥
        beyond j i l =
            let e = lanes.lane_exists j in
            let g = lane_at_is p (lane_named k) j i in
            let m = named_once k (lane_named k) refl in
            omega arith

-- Chains

-- a list without a number twice, all below a bound, is no longer than the bound
once_few : (n : ℕ) (xs : List ℕ) → StandOnce xs → ((x : ℕ) → has xs x ≡ true → x < n) →
    length xs ≤ count_by (has xs) (range_with_len 0 n)
once_few n [] once below = omega arith
once_few n (x ∷ xs) once below =
    let rest = once_few n xs (λ i k y a b. suc_same i k (once (suc i) (suc k) y a b)) (λ y m. below y (has_there x xs
    y m)) in
    let l = below x (has_here x xs) in
    let up = count_raised (has xs) (has (x ∷ xs)) x (by_test (has xs x) refl) (has_here x xs) (λ i d. ap (λ b. b ||
    has xs i) (ne_eqb x i (λ e. d (sym e)))) 0 n (omega arith) (omega arith) in
    omega arith
  where
    suc_same : (i k : ℕ) → suc i ≡ suc k → i ≡ k
    suc_same i k e = omega arith

    by_test : (b : Bool) → has xs x ≡ b → b ≡ false
    by_test false e = refl
    by_test true e = let p = place_of xs x e in let z = once 0 (suc p.0) x refl p.1 in absurd (omega arith)

pub chain_few : (p : Plan) → IsWellFormed p → (t : ℕ) → length (chain p t) ≤ length p.ops
chain_few p wf t =
    let few = once_few (length p.ops) (chain p t) (ordered_once p (chain p t) (wf.chain_order t)) (λ e m. op_within p
    e t (wf.of_chain e t m)) in
    let most = count_by-le-length (has (chain p t)) (range_with_len 0 (length p.ops)) in
    let size = length-range_with_len 0 (length p.ops) in
    omega arith

pub chain_op : (p : Plan) → IsWellFormed p → (t k : ℕ) → k < length (chain p t) → get_or (chain p t) k 0 < length p.ops
chain_op p wf t k l = op_within p (get_or (chain p t) k 0) t (wf.of_chain (get_or (chain p t) k 0) t (has_at (chain p
    t) k l))

-- one more timeline
pub timelines_more : (p : Plan) (ls : List Timeline) (n : ℕ) (l : Timeline) → length ls ≡ n → ((k : ℕ) → k < n →
    (get_or ls k no_timeline ≡ new_timeline (initial p k) (map (value p) (chain p k)))
    × KeepsLists (get_or ls k no_timeline)) → l ≡ new_timeline (initial p n) (map (value p) (chain p n)) →
    KeepsLists l → (k : ℕ) → k < n + 1 → (get_or (ls ++ l ∷ []) k no_timeline ≡ new_timeline (initial p k) (map
    (value p) (chain p k))) × KeepsLists (get_or (ls ++ l ∷ []) k no_timeline)
timelines_more p ls n l size each is kept k b = elim (cases_eq k n) [
  | inl s ↦
      let at = get_or_push ls l no_timeline n size in
      let here = ap (λ (i : ℕ). get_or (ls ++ l ∷ []) i no_timeline) s ∙ at in (
        here ∙ (is ∙ ap (λ (i : ℕ). new_timeline (initial p i) (map (value p) (chain p i))) (sym s)),
        subst KeepsLists
            (sym here) kept,
      )
  | inr d ↦
      let m : k < n = grind arith in
      let at = get_or_append_left ls (l ∷ []) no_timeline k (omega arith) in
      (at ∙ (each k m).0, subst KeepsLists (sym at) (each k m).1)
]

pub timelines_open : (p : Plan) (ls : List Timeline) → length ls ≡ length p.chains → ((k : ℕ) →
    k < length p.chains → (get_or ls k no_timeline ≡ new_timeline (initial p k) (map (value p) (chain p k)))
    × KeepsLists (get_or ls k no_timeline)) → AreTimelines p (opening_points p) ls
timelines_open p ls size each =
    record {
      count = size;
      each = λ t l. subst (IsTimelineOf p (opening_points p) t) (sym (each t (omega arith)).0) (opening_timeline p t);
      kept = λ t l. (each t (omega arith)).1;
    }
