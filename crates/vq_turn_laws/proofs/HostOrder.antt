-- In the program of the host each task stands behind what it asks.
use Rattle.std.proofs.Common.{◌≡◌, ℕ, zero, ◌<◌, ◌+◌, Bool, true, false, if◌then◌else◌, List, [], ◌∷◌, ◌++◌, length}
use Rattle.std.proofs.Common.{map, filter, Option, Some, None, refl, sym, subst, ap, ◌∙◌, inl, inr, arith, nat_le, suc}
use Rattle.std.proofs.Common.{◌==◌}
use Rattle.std.specs.List.{flat_map, range_with_len, slice_get}
use Rattle.std.specs.Option.{option_map_or}
use Rattle.std.proofs.lemmas.Bool.{false≢true, eqb-true, le-leb, cases_eq, cond-true, cond-false}
use Rattle.vq_model.specs.declared.script.ActorName.{ActorName}
use Rattle.vq_model.specs.declared.script.ActorName.TheVariants.{Host as HostActor}
use Rattle.vq_model.specs.declared.plan.Lane.{Lane}
use Rattle.vq_model.specs.declared.plan.Lane.TheVariants.{Host as HostLane, Queue as QueueLane}
use Rattle.vq_model.specs.declared.plan.PlanJob.{PlanJob}
use Rattle.vq_model.specs.declared.plan.Need.{Need}
use Rattle.vq_model.specs.Plan.{Plan, of_job, same_lane, is_host_lane, signals_of, commands_of, job_of, chain_of}
use Rattle.vq_ground.specs.Lists.{has}
use Rattle.vq_model.specs.Plan.{is_host_step, needs, asked, question, is_silent, waits_for_any, previous, idle_after}
use Rattle.vq_model.specs.Edges.{Stage, At, AtEnd, awaited_at, needs_at}
use Rattle.vq_model.specs.EdgeReasons.{waits_at_start}
use Rattle.vq_ground.proofs.Lists.{has_here, has_there, pushed}
use Rattle.vq_model.specs.Checks.{is_immediate_lane}
use Rattle.vq_point_laws.specs.Points.{resolves, jobs_of_lane, earlier_in_queue}
use Rattle.vq_turns.specs.declared.task.Task.{Task}
use Rattle.vq_turns.specs.declared.task.Task.TheVariants.{AwaitFinished, AwaitBound, AwaitNeeds, Submit, Take, Release}
use Rattle.vq_turns.specs.declared.task.Task.TheVariants.{Bind, Start, Signal, Compare, Answer, Finish}
use Rattle.vq_turns.specs.Programs.{program, waits_where, takes, host_waits, moves_batch, does_step, host_does}
use Rattle.vq_turn_laws.specs.Orders.{waited_since, Within, Waited, InJob, AsksStart, AsksFinish, AsksSubmit, InOrder}
use Rattle.vq_turn_laws.specs.Tasks.{onto, compares, Among, finishes, compared_now, is_asking}
use Rattle.vq_turn_laws.proofs.WaitParts.{all_of, wait, within_filter, filter_within, among_waits, waits_each, one_wait}
use Rattle.vq_turn_laws.proofs.ProgramLaws.{InPart, onto_append, joined, parts, together, among_onto, among_turned}
use Rattle.vq_turn_laws.proofs.ProgramLaws.{among_right, among_left, among_map, chain_or, IsBatch, moves_part}
use Rattle.vq_turn_laws.proofs.Rooms.{Quiet, quiet_append, quiet_map, filter_few}
use Rattle.vq_turn_laws.proofs.RingOrder.{push, signals_each}

-- What a plan says of a host step.
pub record IsStep (p : Plan) (j : ℕ) : Type 0 where
  pub exists : j < length p.jobs
  pub host : is_host_step p j ≡ true
  pub job_before : (i : ℕ) → previous p j ≡ Some i → (i < j) × (is_host_step p i ≡ true)
  pub at_start : waits_at_start p j ≡ true
  pub commands : commands_of p j ≡ []
  pub ops : (e : ℕ) → has (signals_of p j) e ≡ true → job_of p e ≡ Some j
  pub chains : (e : ℕ) → has (signals_of p j) e ≡ true → chain_of p e ≡ Some (chain_or p e)
  pub loud : (n : Need) → Within n (asked p j) → is_silent (question p j) ≡ false

-- tasks that compare nothing
compares_none : (f : ℕ → Task) → ((x : ℕ) (ts : List Task) → compared_now (f x ∷ ts) ≡ []) →
    (xs : List ℕ) (before : List Task) → compared_now before ≡ [] → compared_now (onto (map f xs) before) ≡ []
compares_none f g [] before c = c
compares_none f g (x ∷ xs) before c = compares_none f g xs (f x ∷ before) (g x before)

compares_finish : (ns : List Need) (left : List Task) → finishes (compares ns ++ left) ≡ finishes left
compares_finish [] left = refl
compares_finish (n ∷ ns) left = compares_finish ns left

compares_ask : (ns : List Need) (left : List Task) → is_asking left ≡ true → is_asking (compares ns ++ left) ≡ true
compares_ask [] left h = h
compares_ask (n ∷ ns) left h = refl

filter_whole : (test : Need → Bool) (ns : List Need) → ((n : Need) → Within n ns → test n ≡ true) → filter test ns ≡ ns
filter_whole test [] f = refl
filter_whole test (m ∷ ms) f =
    cond-true (test m) (m ∷ filter test ms) (filter test ms) (f m (inl refl)) ∙ ap (λ us. m ∷ us)
    (filter_whole test ms (λ n w. f n (inr w)))

nine : (a b c d e f g h i : List Task) →
    a ++ b ++ c ++ d ++ e ++ f ++ g ++ h ++ i ≡ a ++ (b ++ (c ++ (d ++ (e ++ (f ++ (g ++ (h ++ i)))))))
nine a b c d e f g h i =
    together (a ++ b ++ c ++ d ++ e ++ f ++ g) h i
    ∙ (together (a ++ b ++ c ++ d ++ e ++ f) g (h ++ i)
    ∙ (together (a ++ b ++ c ++ d ++ e) f (g ++ (h ++ i))
    ∙ (together (a ++ b ++ c ++ d) e (f ++ (g ++ (h ++ i)))
    ∙ (together (a ++ b ++ c) d (e ++ (f ++ (g ++ (h ++ i))))
    ∙ (together (a ++ b) c (d ++ (e ++ (f ++ (g ++ (h ++ i)))))
    ∙ together a b (c ++ (d ++ (e ++ (f ++ (g ++ (h ++ i)))))))))))

module _ (p : Plan) (a : ActorName) (j : ℕ) (b : IsStep p j) where
  starts_at_one : (n : Need) → Within n (needs p j) → nat_le n.from 1 ≡ true
  starts_at_one n w = let e = eqb-true n.from 1
      (all_of (λ (z : Need). z.from == 1) (needs p j) n b.at_start w) in le-leb n.from 1 (omega arith)

  all_at_one : needs_at p j (At 1) ≡ needs p j
  all_at_one = filter_whole (λ (z : Need). nat_le z.from 1) (needs p j) starts_at_one

  to_first : (n : Need) → Within n (needs p j) → Within n (needs_at p j (At 1))
  to_first n w = filter_within (λ (z : Need). nat_le z.from 1) (needs p j) n w (starts_at_one n w)

  waits_part : (before left : List Task) → InJob p a before left j (needs_at p j (At 1)) →
      ((e : ℕ) → waited_since p e before ≡ 0) → (x : Bool) →
      InPart p a before (if x then AwaitNeeds (needs p j) ∷ [] else waits_where p j (λ n. true)) left
  waits_part before left k clear true = (
    one_wait p a j (needs_at p j (At 1)) before left (needs p j) k to_first
        (λ e. let c = clear e in omega arith),
    tt,
  )
  waits_part before left k clear false =
      waits_each p a j (needs_at p j (At 1)) (filter (λ (n : Need). true) (needs p j)) before left k
      (λ n w. to_first n (within_filter (λ (z : Need). true) (needs p j) n w).0)
      (λ e. let c = clear e in let x = filter_few (λ (n : Need). true) (resolves p e) (needs p j) in omega arith)

  waited_any : (x : Bool) → waits_for_any p j ≡ x → x ≡ true → (before : List Task) →
      Among (AwaitNeeds (needs p j))
      (onto (if x then AwaitNeeds (needs p j) ∷ [] else waits_where p j (λ n. true)) before)
  waited_any true is e before = inl refl
  waited_any false is e before = absurd (false≢true e)

  waited_all : (x : Bool) → waits_for_any p j ≡ x → x ≡ false → (before : List Task) (n : Need) → Within n (needs p j) →
      Among (wait n) (onto (if x then AwaitNeeds (needs p j) ∷ [] else waits_where p j (λ n. true)) before)
  waited_all true is e before n w = absurd (false≢true (sym e))
  waited_all false is e before n w =
      among_turned (wait n) (waits_where p j (λ n. true)) before
      (among_waits (filter (λ (z : Need). true) (needs p j)) n
      (filter_within (λ (z : Need). true) (needs p j) n w refl))

  waited_at_end : (before : List Task) → Waited p (onto (host_waits p j) before) j AtEnd
  waited_at_end before = record {
    any = λ h. waited_any (waits_for_any p j) refl h before;
    all = λ h n w. waited_all
        (waits_for_any p j) refl h before n w;
  }

  waited_first : (before : List Task) → Waited p (onto (host_waits p j) before) j (At 1)
  waited_first before =
      record {
        any = λ h. subst (λ ns. Among (AwaitNeeds ns) (onto (host_waits p j) before)) (sym all_at_one)
            (waited_any (waits_for_any p j) refl h before);
        all = λ h n w. waited_all (waits_for_any p j) refl h before n
            (within_filter (λ (z : Need). nat_le z.from 1) (needs p j) n w).0;
      }

  waited_more : (ts before : List Task) (k : Stage) → Waited p before j k → Waited p (onto ts before) j k
  waited_more ts before k w =
      record {
        any = λ h. among_onto (AwaitNeeds (needs_at p j k)) ts before (w.any h);
        all = λ h n m. among_onto
            (wait n) ts before (w.all h n m);
      }

  finished_part : (is : List ℕ) (before left : List Task) → InPart p a before (map AwaitFinished is) left
  finished_part [] before left = tt
  finished_part (i ∷ is) before left = (tt, finished_part is (AwaitFinished i ∷ before) left)

  compares_part : (ns : List Need) (before left : List Task) → Among (Start j) before → (later : List ℕ) →
      finishes left ≡ j ∷ later → ((n : Need) → Within n ns → is_asking left ≡ true) →
      InPart p a before (compares ns) left
  compares_part [] before left s later f g = tt
  compares_part (n ∷ ns) before left s later f g = (
    record {
      job = j;
      started = s;
      later = later;
      first = compares_finish ns left ∙ f;
      asking = compares_ask ns left (g n (inl refl));
    },
    compares_part ns (Compare n.chain n.value ∷ before) left (inr s) later f (λ m w. g m (inr w)),
  )

  takes_part : (es : List ℕ) → ((e : ℕ) → has es e ≡ true → has (signals_of p j) e ≡ true) → (before left : List Task) →
      Among (Start j) before → InPart p a before (map (λ e. Take e (chain_or p e)) es) left
  takes_part [] f before left s = tt
  takes_part (e ∷ es) f before left s = (
    record {
      job = j;
      of_job = b.ops e (f e (has_here e es));
      in_chain = b.chains e (f e (has_here e es));
      started = λ h. s;
      moves = λ h. absurd (false≢true (sym h ∙ b.host));
      release = λ h. absurd (false≢true (sym h ∙ b.host));
    },
    takes_part es (λ x m. f x (has_there e es x m)) (Take e (chain_or p e) ∷ before) left (inr s),
  )

  binds_part : (es : List ℕ) → ((e : ℕ) → has es e ≡ true → has (signals_of p j) e ≡ true) → (before left : List Task) →
      Among (Start j) before → ((e : ℕ) → has es e ≡ true → (t : ℕ) × Among (Take e t) before) →
      InPart p a before (map Bind es) left
  binds_part [] f before left s g = tt
  binds_part (e ∷ es) f before left s g = (
    record {
      job = j;
      of_job = b.ops e (f e (has_here e es));
      chain = chain_or p e;
      in_chain = b.chains e (f e (has_here e es));
      started = λ h. s;
      released = λ h. absurd (false≢true (sym h ∙ b.host));
      taken = g e (has_here e es);
    },
    binds_part es (λ x m. f x (has_there e es x m)) (Bind e ∷ before) left (inr s)
        (λ x m. let old = g x (has_there e es x m) in (old.0, inr old.1)),
  )

  answer_part : (x : Bool) → is_silent (question p j) ≡ x → (before left earlier : List Task) →
      before ≡ onto (compares (asked p j)) earlier → compared_now earlier ≡ [] → Among (Start j) earlier →
      (later : List ℕ) → finishes left ≡ j ∷ later → Waited p before j AtEnd →
      InPart p a before (if x then [] else Answer j (question p j) ∷ []) left
  answer_part true e before left earlier is c s later f w = tt
  answer_part false e before left earlier is c s later f w = (
    record {
      is = refl;
      loud = e;
      needs = w;
      earlier = earlier;
      compared = is;
      alone = c;
      started = s;
      later = later;
      first = f;
    },
    tt,
  )

  answered : (x : Bool) → is_silent (question p j) ≡ x → x ≡ false → (before : List Task) →
      Among (Answer j (question p j)) (onto (if x then [] else Answer j (question p j) ∷ []) before)
  answered true is e before = absurd (false≢true (sym e))
  answered false is e before = inl refl

  first7 : (x : Bool) (left : List Task) →
      finishes (((if x then [] else Answer j (question p j) ∷ []) ++ Finish j ∷ []) ++ left) ≡ j ∷ finishes left
  first7 true left = refl
  first7 false left = refl

  asks7 : (x : Bool) → x ≡ false → (left : List Task) →
      is_asking (((if x then [] else Answer j (question p j) ∷ []) ++ Finish j ∷ []) ++ left) ≡ true
  asks7 true h left = absurd (false≢true (sym h))
  asks7 false h left = refl

  -- A host step behind the host steps and the batches written before it.
  pub does_part : (before left : List Task) → InJob p a before (Start j ∷ Finish j ∷ []) j (needs_at p j (At 1)) →
      ((i : ℕ) → i < j → is_host_step p i ≡ true → Among (Finish i) before) →
      ((i : ℕ) → i < j → is_host_step p i ≡ false → Among (Submit i) before) → ((e : ℕ) → waited_since p e before ≡ 0) →
      InPart p a before (does_step p j) left
  does_part before left at hosts batches clear =
      let ws : List Task = host_waits p j in
      let is : List Task = map AwaitFinished (idle_after p j) in
      let ss : List Task = Start j ∷ [] in
      let ts : List Task = takes p j in
      let bs : List Task = map Bind (signals_of p j) in
      let es : List Task = map Signal (signals_of p j) in
      let cs : List Task = compares (asked p j) in
      let as' : List Task = if is_silent (question p j) then [] else Answer j (question p j) ∷ [] in
      let fs : List Task = Finish j ∷ [] in
      let b1 : List Task = onto ws before in
      let b2 : List Task = onto is b1 in
      let b3 : List Task = Start j ∷ b2 in
      let b4 : List Task = onto ts b3 in
      let b5 : List Task = onto bs b4 in
      let b6 : List Task = onto es b5 in
      let b7 : List Task = onto cs b6 in
      let b8 : List Task = onto as' b7 in
      let l7 : List Task = as' ++ fs in
      let l6 : List Task = cs ++ l7 in
      let l5 : List Task = es ++ l6 in
      let l4 : List Task = bs ++ l5 in
      let l3 : List Task = ts ++ l4 in
      let l2 : List Task = ss ++ l3 in
      let l1 : List Task = is ++ l2 in
      let f7 : Among (Finish j) l7 = among_right (Finish j) as' fs (inl refl) in
      let f6 : Among (Finish j) l6 = among_right (Finish j) cs l7 f7 in
      let f5 : Among (Finish j) l5 = among_right (Finish j) es l6 f6 in
      let f4 : Among (Finish j) l4 = among_right (Finish j) bs l5 f5 in
      let f3 : Among (Finish j) l3 = among_right (Finish j) ts l4 f4 in
      let in_first : InJob p a before (l1 ++ left) j (needs_at p j (At 1)) = record {
        lane = at.lane;
        of_actor = at.of_actor;
        behind = at.behind;
        unfinished = among_left (Finish j) l1 left (among_right (Finish j) is l2 (inr f3));
        released = at.released;
        stage = inl (among_left (Start j) l1 left (among_right (Start j) is l2 (inl refl)), refl);
      }
      in
      let starts : AsksStart p b2 j = record {
        exists = b.exists;
        lane = λ i h. let x = b.job_before i h in among_onto (Finish i) is b1
            (among_onto (Finish i) ws before (hosts i x.0 x.1));
        needs = waited_more is b1 (At 1) (waited_first before);
        idle = λ i m. among_turned (AwaitFinished i) is b1 (among_map AwaitFinished (idle_after p j) i m);
        batches = λ h i l x. among_onto (Submit i) is b1 (among_onto (Submit i) ws before (batches i l x));
        released = λ h. absurd (false≢true (sym h ∙ b.host));
      }
      in
      let started4 : Among (Start j) b4 = among_onto (Start j) ts b3 (inl refl) in
      let started5 : Among (Start j) b5 = among_onto (Start j) bs b4 started4 in
      let started6 : Among (Start j) b6 = among_onto (Start j) es b5 started5 in
      let alone6 : compared_now b6 ≡ [] = compares_none Signal (λ x us. refl) (signals_of p j) b5
      (compares_none Bind (λ x us. refl) (signals_of p j) b4
      (compares_none (λ x. Take x (chain_or p x)) (λ x us. refl) (signals_of p j) b3 refl)) in
      let none : (c : ℕ) → has (commands_of p j) c ≡ true → ⊥ = λ c m. false≢true
      (ap (λ xs. has xs c) (sym b.commands) ∙ m) in
      let waited5 : Waited p b5 j AtEnd = waited_more bs b4 AtEnd
      (waited_more ts b3 AtEnd (waited_more ss b2 AtEnd (waited_more is b1 AtEnd (waited_at_end before)))) in
      let ends : AsksFinish p b8 j = record {
        started = among_onto (Start j) as' b7 (among_onto (Start j) cs b6 started6);
        commands = λ c m. absurd (none c m);
        signals = λ e m. among_onto (Signal e) as' b7
            (among_onto (Signal e) cs b6 (among_turned (Signal e) es b5 (among_map Signal (signals_of p j) e m)));
        needs = waited_more as' b7 AtEnd (waited_more cs b6 AtEnd (waited_more es b5 AtEnd waited5));
        answered = λ h. answered (is_silent (question p j)) refl h b7;
      }
      in
      let part8 : InPart p a b7 (as' ++ fs) left = parts p a b7 as' fs left
      (answer_part (is_silent (question p j)) refl b7 (fs ++ left) b6 refl alone6 started6 (finishes left) refl
      (waited_more cs b6 AtEnd (waited_more es b5 AtEnd waited5))) (ends, tt) in
      let part7 : InPart p a b6 l6 left = parts p a b6 cs l7 left
      (compares_part (asked p j) b6 (l7 ++ left) started6 (finishes left) (first7 (is_silent (question p j)) left)
      (λ n w. asks7 (is_silent (question p j)) (b.loud n w) left)) part8 in
      let part6 : InPart p a b5 l5 left = parts p a b5 es l6 left
      (signals_each p a j b.chains (signals_of p j) [] refl b5 (l6 ++ left) started5 (among_left (Finish j) l6 left f6)
      (λ c m. absurd (none c m)) waited5 (λ e m. absurd (false≢true m)))
      part7
      in
      let part5 : InPart p a b4 l4 left = parts p a b4 bs l5 left
      (binds_part (signals_of p j) (λ e m. m) b4 (l5 ++ left) started4
      (λ e m. (
        chain_or p e,
        among_turned (Take e (chain_or p e)) ts b3
            (among_map (λ x. Take x (chain_or p x)) (signals_of p j) e m),
      )))
      part6
      in
      let part4 : InPart p a b3 l3 left = parts p a b3 ts l4 left
      (takes_part (signals_of p j) (λ e m. m) b3 (l4 ++ left) (inl refl)) part5 in
      let part3 : InPart p a b2 l2 left = (starts, part4) in
      let part2 : InPart p a b1 l1 left = parts p a b1 is l2 left
      (finished_part (idle_after p j) b1 (l2 ++ left)) part3 in
      let part1 : InPart p a before (ws ++ l1) left = parts p a before ws l1 left
      (waits_part before (l1 ++ left) in_first clear (waits_for_any p j)) part2 in
      subst (λ us. InPart p a before us left) (sym (nine ws is ss ts bs es cs as' fs)) part1

-- The batches that the host moves itself, of immediate queues.
abbrev pub is_moved : Plan → ℕ → Bool
is_moved p j = of_job (λ x. is_immediate_lane p x.lane) false p j

pub host_same : (p : Plan) (j : ℕ) → of_job (λ x. same_lane HostLane x.lane) false p j ≡ is_host_step p j
host_same p j = by_job (slice_get p.jobs j)
  where
    by_lane : (l : Lane) → same_lane HostLane l ≡ is_host_lane l
    by_lane HostLane = refl
    by_lane (QueueLane q) = refl

    by_job : (o : Option PlanJob) →
        option_map_or (λ x. same_lane HostLane x.lane) o false ≡ option_map_or (λ x. is_host_lane x.lane) o false
    by_job None = refl
    by_job (Some x) = by_lane x.lane

finish_in : (p : Plan) (j : ℕ) → is_host_step p j ≡ true → Among (Finish j) (host_does p j)
finish_in p j h = by_test (is_host_step p j) h
  where
    by_test : (x : Bool) → x ≡ true →
        Among (Finish j) (if x then does_step p j else Submit j ∷ (if is_moved p j then moves_batch p j else []))
    by_test false e = absurd (false≢true e)
    by_test true e =
        among_right (Finish j)
        (host_waits p j ++ map AwaitFinished (idle_after p j) ++ Start j ∷ [] ++ takes p j ++ map Bind
        (signals_of p j) ++ map Signal (signals_of p j) ++ map (λ n. Compare n.chain n.value) (asked p j) ++
        (if is_silent (question p j) then [] else Answer j (question p j) ∷ [])) (Finish j ∷ []) (inl refl)

submit_in : (p : Plan) (j : ℕ) → is_host_step p j ≡ false → Among (Submit j) (host_does p j)
submit_in p j h = by_test (is_host_step p j) h
  where
    by_test : (x : Bool) → x ≡ false →
        Among (Submit j) (if x then does_step p j else Submit j ∷ (if is_moved p j then moves_batch p j else []))
    by_test true e = absurd (false≢true (sym e))
    by_test false e = inl refl

release_in : (p : Plan) (j : ℕ) → is_host_step p j ≡ false → is_moved p j ≡ true → Among (Release j) (host_does p j)
release_in p j h m = by_test (is_host_step p j) h (is_moved p j) m
  where
    by_test : (x : Bool) → x ≡ false → (y : Bool) → y ≡ true →
        Among (Release j) (if x then does_step p j else Submit j ∷ (if y then moves_batch p j else []))
    by_test true e y d = absurd (false≢true (sym e))
    by_test false e false d = absurd (false≢true d)
    by_test false e true d =
        inr (among_left (Release j) (map _ _ ++ takes p j ++ Release j ∷ []) (map Bind (signals_of p j))
        (among_right (Release j) (map _ _ ++ takes p j) (Release j ∷ []) (inl refl)))

moves_quiet : (p : Plan) (j : ℕ) → Quiet p (moves_batch p j)
moves_quiet p j =
    let ws : List Task = map AwaitBound (awaited_at p j AtEnd) in
    let ts : List Task = takes p j in
    quiet_append p (ws ++ ts ++ Release j ∷ []) (map Bind (signals_of p j))
    (quiet_append p (ws ++ ts) (Release j ∷ [])
    (quiet_append p ws ts (quiet_map p AwaitBound (λ x e b. refl) (awaited_at p j AtEnd))
    (quiet_map p (λ x. Take x (chain_or p x)) (λ x e b. refl) (signals_of p j))) (λ e b. refl))
    (quiet_map p Bind (λ x e b. refl) (signals_of p j))

host_clear : (p : Plan) (j : ℕ) (before : List Task) → ((e : ℕ) → waited_since p e before ≡ 0) → (e : ℕ) →
    waited_since p e (onto (host_does p j) before) ≡ 0
host_clear p j before clear e = by_test (is_host_step p j) (is_moved p j)
  where
    by_test : (x y : Bool) →
        waited_since p e (onto (if x then does_step p j else Submit j ∷ (if y then moves_batch p j else [])) before) ≡ 0
    by_test true y =
        ap (waited_since p e)
        (onto_append (host_waits p j ++ map AwaitFinished (idle_after p j) ++ Start j ∷ [] ++ takes p j ++ map Bind
        (signals_of p j) ++ map Signal (signals_of p j) ++ map (λ n. Compare n.chain n.value) (asked p j) ++
        (if is_silent (question p j) then [] else Answer j (question p j) ∷ [])) (Finish j ∷ []) before)
    by_test false true = moves_quiet p j e (Submit j ∷ before) ∙ clear e
    by_test false false = clear e

-- What a plan says of its host steps and batches.
pub record HasHostOrder (p : Plan) : Type 0 where
  pub steps : (j : ℕ) → j < length p.jobs → is_host_step p j ≡ true → IsStep p j
  pub batches : (j : ℕ) → j < length p.jobs → is_host_step p j ≡ false → IsBatch p j
  -- the earlier batches of an immediate queue are of that queue
  pub earlier_moved : (j i : ℕ) → is_moved p j ≡ true → has (earlier_in_queue p j) i ≡ true →
      (i < j) × (is_host_step p i ≡ false) × (is_moved p i ≡ true)

module _ (p : Plan) (o : HasHostOrder p) where
  abbrev in_lane : ℕ → Bool
  in_lane j = of_job (λ x. same_lane HostLane x.lane) false p j

  -- what the host has done with the jobs before one
  record DidBefore (before : List Task) (k : ℕ) : Type 0 where
    finished : (i : ℕ) → i < k → is_host_step p i ≡ true → Among (Finish i) before
    submitted : (i : ℕ) → i < k → is_host_step p i ≡ false → Among (Submit i) before
    released : (i : ℕ) → i < k → is_host_step p i ≡ false → is_moved p i ≡ true → Among (Release i) before

  did_next : (before : List Task) (k : ℕ) → DidBefore before k → DidBefore (onto (host_does p k) before) (k + 1)
  did_next before k d =
      record {
        finished = λ i l h. elim (cases_eq i k) [
          | inl e ↦ among_turned (Finish i) (host_does p k) before
              (subst (λ (z : ℕ). Among (Finish i) (host_does p z)) e (finish_in p i h))
          | inr n ↦ among_onto (Finish i) (host_does p k) before (d.finished i (omega arith) h)
        ];
        submitted = λ i l h. elim (cases_eq i k) [
          | inl e ↦ among_turned (Submit i) (host_does p k) before
              (subst (λ (z : ℕ). Among (Submit i) (host_does p z)) e (submit_in p i h))
          | inr n ↦ among_onto (Submit i) (host_does p k) before (d.submitted i (omega arith) h)
        ];
        released = λ i l h m. elim (cases_eq i k) [
          | inl e ↦ among_turned (Release i) (host_does p k) before
              (subst (λ (z : ℕ). Among (Release i) (host_does p z)) e (release_in p i h m))
          | inr n ↦ among_onto (Release i) (host_does p k) before (d.released i (omega arith) h m)
        ];
      }

  moved_part : (j : ℕ) → IsBatch p j → (before left : List Task) → DidBefore before j → (y : Bool) → is_moved p j ≡ y →
      InPart p HostActor (Submit j ∷ before) (if y then moves_batch p j else []) left
  moved_part j b before left d false is = tt
  moved_part j b before left d true is =
      moves_part p HostActor j b (Submit j ∷ before) left (inr (inl refl))
      (λ i m. let x = o.earlier_moved j i is m in inr (d.released i x.0 x.1 x.2))

  host_part : (j : ℕ) → j < length p.jobs → (before left : List Task) → DidBefore before j → (front back : List ℕ) →
      jobs_of_lane p HostLane ≡ front ++ (if in_lane j then j ∷ back else back) →
      ((i : ℕ) → has front i ≡ true → Among (Finish i) before) → ((e : ℕ) → waited_since p e before ≡ 0) →
      InPart p HostActor before (host_does p j) left
  host_part j l before left d front back whole done clear = by_test (is_host_step p j) refl
    where
      by_test : (x : Bool) → is_host_step p j ≡ x →
          InPart p HostActor before
          (if x then does_step p j else Submit j ∷ (if is_moved p j then moves_batch p j else [])) left
      by_test true e =
          let at : InJob p HostActor before (Start j ∷ Finish j ∷ []) j (needs_at p j (At 1)) = record {
            lane = HostLane;
            of_actor = refl;
            behind = record {
              front = front;
              back = back;
              whole = whole ∙ ap (λ us. front ++ us)
                  (cond-true (in_lane j) (j ∷ back) back (host_same p j ∙ e));
              earlier = done;
            };
            unfinished = inr (inl refl);
            released = λ h. absurd (false≢true (sym h ∙ e));
            stage = inl (inl refl, refl);
          }
          in
          does_part p HostActor j (o.steps j l e) before left at d.finished d.submitted clear
      by_test false e =
          let b = o.batches j l e in
          let asks : AsksSubmit p before j = record { batch = b.batch; hosts = d.finished; batches = d.submitted } in
          (asks, moved_part j b before left d (is_moved p j) refl)

  -- The jobs from one on.
  host_from : (n k : ℕ) → k + n ≡ length p.jobs → (before : List Task) → DidBefore before k → (front : List ℕ) →
      jobs_of_lane p HostLane ≡ front ++ filter in_lane (range_with_len k n) →
      ((i : ℕ) → has front i ≡ true → Among (Finish i) before) → ((e : ℕ) → waited_since p e before ≡ 0) →
      InOrder p HostActor before (flat_map (host_does p) (range_with_len k n))
  host_from zero k l before d front whole done clear = tt
  host_from (suc n) k l before d front whole done clear =
      joined p HostActor before (host_does p k) (flat_map (host_does p) (range_with_len (k + 1) n))
      (host_part k (omega arith) before (flat_map (host_does p) (range_with_len (k + 1) n)) d front
      (filter in_lane (range_with_len (k + 1) n)) whole done clear)
      (by_lane (in_lane k) refl
      (λ f w g. host_from n (k + 1) (omega arith) (onto (host_does p k) before) (did_next before k d) f w g
      (host_clear p k before clear)))
    where
      by_lane : (x : Bool) → in_lane k ≡ x →
          ((f : List ℕ) → jobs_of_lane p HostLane ≡ f ++ filter in_lane (range_with_len (k + 1) n) →
          ((i : ℕ) → has f i ≡ true → Among (Finish i) (onto (host_does p k) before)) →
          InOrder p HostActor (onto (host_does p k) before) (flat_map (host_does p) (range_with_len (k + 1) n))) →
          InOrder p HostActor (onto (host_does p k) before) (flat_map (host_does p) (range_with_len (k + 1) n))
      by_lane true e f =
          f (front ++ k ∷ []) (whole ∙
          (ap (λ us. front ++ us)
          (cond-true (in_lane k) (k ∷ filter in_lane (range_with_len (k + 1) n))
          (filter in_lane (range_with_len (k + 1) n)) e) ∙ push front k
          (filter in_lane (range_with_len (k + 1) n))))
          (λ i m. elim (pushed front k i m) [
            | inl old ↦ among_onto (Finish i) (host_does p k) before (done i old)
            | inr s ↦ among_turned (Finish i) (host_does p k) before
                (subst (λ (z : ℕ). Among (Finish z) (host_does p k)) s (finish_in p k (sym (host_same p k) ∙ e)))
          ])
      by_lane false e f =
          f front (whole ∙ ap (λ us. front ++ us)
          (cond-false (in_lane k) (k ∷ filter in_lane (range_with_len (k + 1) n))
          (filter in_lane (range_with_len (k + 1) n)) e))
          (λ i m. among_onto (Finish i) (host_does p k) before (done i m))

  pub host_in_order : InOrder p HostActor [] (program p HostActor)
  host_in_order =
      host_from (length p.jobs) 0 (omega arith) []
      (record {
        finished = λ i l. absurd (omega arith);
        submitted = λ i l. absurd
            (omega arith);
        released = λ i l. absurd (omega arith);
      }) [] refl (λ i m. absurd (false≢true m)) (λ e. refl)
