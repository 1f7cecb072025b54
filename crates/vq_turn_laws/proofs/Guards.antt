-- The event of the next task may come, where the place is true.
use Rattle.std.proofs.Common.{map, ◌≡◌, ℕ, ◌<◌, ◌+◌, ◌||◌, ◌&&◌, Bool, true, false, not, cond, if◌then◌else◌, List, []}
use Rattle.std.proofs.Common.{◌∷◌, ◌++◌, Option, Some, None, is_some, refl, sym, subst, ap, ◌∙◌, inl, inr, arith, find}
use Rattle.std.proofs.Common.{nat_lt, ◌==◌}
use Rattle.std.specs.List.{list_any, list_all, filter_map}
use Rattle.std.specs.Option.{option_map_or, option_to_list}
use Rattle.std.proofs.lemmas.Bool.{or_cases, or_left, or_right, and_parts, and_from, false≢true, le-leb, leb-true}
use Rattle.std.proofs.lemmas.Bool.{ltb-true}
use Rattle.std.proofs.lemmas.Option.{same_Some}
use Rattle.vq_ground.proofs.Numbers.{has-range_cases}
use Rattle.vq_ground.proofs.Filters.{filter-has_cases}
use Rattle.vq_model.specs.declared.plan.Answer.TheVariants.{Reached, Timeout, NotReady}
use Rattle.vq_model.specs.declared.plan.Question.{Question}
use Rattle.vq_model.specs.declared.plan.Question.TheVariants.{Silent, Reached as AsksReached, PollAll, PollAny, Fence}
use Rattle.vq_model.specs.declared.plan.Question.TheVariants.{Value as AsksValue}
use Rattle.vq_model.specs.declared.plan.Need.{Need}
use Rattle.vq_model.specs.Plan.{Plan, of_job, chain, chain_of, value, signals_of, commands_of, is_host_step, asked}
use Rattle.vq_ground.specs.Lists.{has}
use Rattle.vq_model.specs.Plan.{question, is_silent, waits_for_any, previous, idle_after}
use Rattle.vq_model.specs.Edges.{Stage, At, AtEnd, needs_at, stage_of}
use Rattle.vq_model.specs.WellFormed.{IsWellFormed, AreInOrder}
use Rattle.vq_model.specs.Machine.{is_reached, are_reached, next, was_since, may_answer, CanApply, CanAnswer}
use Rattle.vq_ground.proofs.Lists.{has_here, has_there, has_cases, list_all_from}
use Rattle.vq_ground.proofs.Searches.{find_splits}
use Rattle.vq_ground.proofs.Mapped.{mapped}
use Rattle.vq_model.specs.Naming.{same_actor}
use Rattle.vq_point_laws.specs.Points.{PointState, Reference, actor_of_lane, smaller_ops, is_pending, written_before}
use Rattle.vq_point_laws.specs.Points.{CanSubmit, CanBind, CanStartNow, CanSignalNow, CanFinishNow, CanComplete, CanFree}
use Rattle.vq_run_laws.proofs.Cited.{next_in, next_at}
use Rattle.vq_turns.specs.declared.task.Task.{Task}
use Rattle.vq_turns.specs.declared.task.Task.TheVariants.{AwaitReleased, AwaitFinished, AwaitNeeds, Submit, Take}
use Rattle.vq_turns.specs.declared.task.Task.TheVariants.{Release, Bind, Start, Apply, Signal, Answer, Finish}
use Rattle.vq_turns.specs.declared.look.Seen.{Seen}
use Rattle.vq_turns.specs.Turns.{point_of, unbound_before, reaches, first_past, answer_by, to_complete, to_free}
use Rattle.vq_turns.specs.Turns.{waiting_of, waiting_point, has_reference_to}
use Rattle.vq_turn_laws.specs.Orders.{Waited, AsksSubmit, AsksBind, AsksStart, AsksApply, AsksSignal, AsksAnswer}
use Rattle.vq_turn_laws.specs.Orders.{AsksFinish}
use Rattle.vq_turn_laws.specs.Places.{IsDone, IsLeft}
use Rattle.vq_turn_laws.specs.Tasks.{compares, Each, Among}
use Rattle.vq_turn_laws.specs.Worlds.{Sees}
use Rattle.vq_turn_laws.proofs.PlaceLaws.{each_among}
use Rattle.vq_turn_laws.proofs.ProgramLaws.{among_onto}
use Rattle.vq_turn_laws.proofs.WaitParts.{all_within}

or_none : (b : Bool) → (b || false) ≡ true → b ≡ true
or_none true h = refl
or_none false h = absurd (false≢true h)

-- the chains and values of needs
abbrev pub pairs_of : List Need → List (ℕ × ℕ)
pairs_of ns = map (λ n. (n.chain, n.value)) ns

module _ (p : Plan) (w : PointState) (before : List Task) (d : Each (IsDone w) before) where
  is_done : (t : Task) → Among t before → IsDone w t
  is_done t m = each_among (IsDone w) before t d m

  pub reached : (j : ℕ) (k : Stage) → Waited p before j k → are_reached p w.machine.progress.payload j k ≡ true
  reached j k x = by_any (waits_for_any p j) refl
    where
      by_any : (b : Bool) → waits_for_any p j ≡ b →
          (if b then list_any (is_reached w.machine.progress.payload) (needs_at p j k) else list_all
          (is_reached w.machine.progress.payload) (needs_at p j k)) ≡ true
      by_any true e = is_done (AwaitNeeds (needs_at p j k)) (x.any e)
      by_any false e = all_within (is_reached w.machine.progress.payload) (needs_at p j k)
          (λ n m. or_none (is_reached w.machine.progress.payload n) (is_done (AwaitNeeds (n ∷ [])) (x.all e n m)))

  pub can_submit : (j : ℕ) → AsksSubmit p before j → IsLeft w (Submit j) → CanSubmit p w j
  can_submit j k left =
      record {
        batch = k.batch;
        waiting = left;
        in_order = list_all_from (λ i. if is_host_step p i then w.machine.progress.finished i else w.submitted i)
            (written_before p j) (λ i m. by_host i (has-range_cases j 0 i m).1 (is_host_step p i) refl);
      }
    where
      by_host : (i : ℕ) → i < 0 + j → (b : Bool) → is_host_step p i ≡ b →
          (if b then w.machine.progress.finished i else w.submitted i) ≡ true
      by_host i l true e = is_done (Finish i) (k.hosts i (omega arith) e)
      by_host i l false e = is_done (Submit i) (k.batches i (omega arith) e)

  pub can_start : (j : ℕ) → AsksStart p before j → IsLeft w (Start j) → CanStartNow p w j
  can_start j k left =
      record {
        exists = k.exists;
        waiting = left;
        lane = by_previous (previous p j) refl;
        ready = reached j (At 1) k.needs;
        idle = list_all_from w.machine.progress.finished (idle_after p j)
            (λ i m. is_done (AwaitFinished i) (k.idle i m));
        released = by_host (is_host_step p j) refl;
      }
    where
      by_previous : (o : Option ℕ) → previous p j ≡ o → list_all w.machine.progress.finished (option_to_list o) ≡ true
      by_previous None e = refl
      by_previous (Some i) e = and_from (w.machine.progress.finished i) true (is_done (Finish i) (k.lane i e)) refl

      submitted : is_host_step p j ≡ true → (i : ℕ) → i < 0 + j → (b : Bool) → is_host_step p i ≡ b →
          (b || w.submitted i) ≡ true
      submitted h i l true e = refl
      submitted h i l false e = is_done (Submit i) (k.batches h i (omega arith) e)

      by_host : (b : Bool) → is_host_step p j ≡ b →
          (if b then list_all (λ i. is_host_step p i || w.submitted i) (written_before p j) else w.released j) ≡ true
      by_host true e = list_all_from (λ i. is_host_step p i || w.submitted i) (written_before p j)
          (λ i m. submitted e i (has-range_cases j 0 i m).1 (is_host_step p i) refl)
      by_host false e = is_done (AwaitReleased j) (k.released e)

  pub can_apply : (j c : ℕ) (after : List Task) → AsksApply p before j c after → Each (IsLeft w) (Apply j c ∷ after) →
      CanApply p w.machine.progress j c
  can_apply j c after k left =
      record {
        started = is_done (Start j) k.started;
        unfinished = each_among (IsLeft w) after (Finish j) left.1 k.unfinished;
        next = ap (next (has w.machine.progress.applied)) k.next.whole ∙ next_at
            (has w.machine.progress.applied) k.next.front c k.next.back
            (λ y m. is_done (Apply j y) (k.next.earlier y m)) left.0;
        ready = reached j (stage_of p j c) k.needs;
      }

  -- That the operation is bound is what the turn asks.
  pub can_signal : (e : ℕ) (after : List Task) → AsksSignal p before e after → w.bound e ≡ true →
      Each (IsLeft w) (Signal e ∷ after) → CanSignalNow p w e
  can_signal e after k bound left =
      record {
        job = k.job;
        chain = k.chain;
        in_chain = k.in_chain;
        started = is_done (Start k.job) k.started;
        unfinished = each_among (IsLeft w) after (Finish k.job) left.1 k.unfinished;
        commands = list_all_from (has w.machine.progress.applied) (commands_of p k.job)
            (λ c m. is_done (Apply k.job c) (k.commands c m));
        next = ap (next w.machine.progress.made) k.next.whole
            ∙ next_at w.machine.progress.made k.next.front e k.next.back
            (λ y m. is_done (Signal y) (k.next.earlier y m)) left.0;
        ready = reached k.job AtEnd k.needs;
        bound = bound;
      }

  -- That no reference is held is a fact of what the actor holds (`none_referring` of References).
  pub can_finish : (j : ℕ) → AsksFinish p before j → IsLeft w (Finish j) →
      list_any (λ (r : Reference). of_job (λ x. same_actor (actor_of_lane x.lane) r.actor) false p j) w.held ≡ false →
      CanFinishNow p w j
  can_finish j k left free =
      record {
        step = record {
          done = record {
            started = is_done (Start j) k.started;
            unfinished = left;
            commands = list_all_from (has w.machine.progress.applied) (commands_of p j)
                (λ c m. is_done (Apply j c) (k.commands c m));
            signals = list_all_from w.machine.progress.made (signals_of p j)
                (λ e m. is_done (Signal e) (k.signals e m));
            ready = reached j AtEnd k.needs;
          };
          answered = by_silent (is_silent (question p j)) refl;
        };
        unreferring = free;
      }
    where
      by_silent : (b : Bool) → is_silent (question p j) ≡ b → (b || is_some (w.machine.answer j)) ≡ true
      by_silent true e = refl
      by_silent false e = is_done (Answer j (question p j)) (k.answered e)

  -- The point of an operation that isn't bound carries it, in every history; that no smaller one is unbound is what
  -- the turn asks.
  pub can_bind : (e : ℕ) → ((q : ℕ) → w.point_of e ≡ Some q → w.bound e ≡ false → w.carried q ≡ Some e) →
      AsksBind p before e → unbound_before p w e ≡ None → IsLeft w (Bind e) → CanBind p w e (point_of w e)
  can_bind e pending k none left =
      record {
        job = k.job;
        of_job = k.of_job;
        chain = k.chain;
        in_chain = k.in_chain;
        carries = by_point (w.point_of e) refl (is_done (Take e k.taken.0) k.taken.1);
        unbound = left;
        ready = by_host (is_host_step p k.job) refl;
        in_order = all_bound (smaller_ops p k.chain e)
            (sym (ap (λ o. option_map_or (λ t. find (λ f. not (w.bound f)) (smaller_ops p t e)) o None) k.in_chain)
            ∙ none);
      }
    where
      by_point : (o : Option ℕ) → w.point_of e ≡ o → is_some o ≡ true → w.carried (option_map_or (λ q. q) o 0) ≡ Some e
      by_point None is s = absurd (false≢true s)
      by_point (Some q) is s = pending q is left

      by_host : (b : Bool) → is_host_step p k.job ≡ b →
          (if b then w.machine.progress.started k.job else w.released k.job) ≡ true
      by_host true h = is_done (Start k.job) (k.started h)
      by_host false h = is_done (Release k.job) (k.released h)

      all_bound : (fs : List ℕ) → find (λ f. not (w.bound f)) fs ≡ None → list_all w.bound fs ≡ true
      all_bound [] h = refl
      all_bound (f ∷ fs) h = by_test (w.bound f) refl (all_bound fs)
        where
          by_test : (b : Bool) → w.bound f ≡ b → (find (λ f. not (w.bound f)) fs ≡ None → list_all w.bound fs ≡ true) →
              list_all w.bound (f ∷ fs) ≡ true
          by_test true i g = and_from (w.bound f) (list_all w.bound fs) i
              (g (sym (ap (λ b. cond (not b) (Some f) (find (λ f. not (w.bound f)) fs)) i) ∙ h))
          by_test false i g = absurd
              (let c = sym (ap (λ b. cond (not b) (Some f) (find (λ f. not (w.bound f)) fs)) i) ∙ h in cc)

  -- What the actor saw is truly so; a value is asked of the chain that the question names.
  pub can_answer : (j : ℕ) (asks : Question) (seen : List Seen) (left_tasks : List Task) →
      AsksAnswer p before j asks left_tasks → IsLeft w (Answer j asks) → Sees p w j (pairs_of (asked p j)) seen →
      ((t : ℕ) → question p j ≡ AsksValue t → (n : Need) × (ns : List Need) × (asked p j ≡ n ∷ ns) × (n.chain ≡ t)) →
      CanAnswer p w.machine j (answer_by asks seen)
  can_answer j asks seen left_tasks k left sees valued =
      record {
        started = is_done (Start j)
            (subst (λ us. Among (Start j) us) (sym k.compared)
            (among_onto (Start j) (compares (asked p j)) k.earlier k.started));
        unanswered = ap is_some left;
        allowed = subst (λ z. may_answer p w.machine j (question p j) (answer_by z seen) ≡ true) (sym k.is)
            (by_question (question p j) refl k.loud);
      }
    where
      reach_now : (ns : List Need) (xs : List Seen) → Sees p w j (pairs_of ns) xs → list_all reaches xs ≡ true →
          list_all (is_reached w.machine.progress.payload) ns ≡ true
      reach_now [] [] s h = refl
      reach_now [] (x ∷ xs) s h = absurd s
      reach_now (n ∷ ns) [] s h = absurd s
      reach_now (n ∷ ns) (x ∷ xs) s h =
          let two = and_parts (reaches x) (list_all reaches xs) h in
          let l = leb-true x.wanted x.past two.0 in
          let a = s.0 in
          let b = s.2 in
          and_from (is_reached w.machine.progress.payload n) (list_all (is_reached w.machine.progress.payload) ns)
          (le-leb n.value (w.machine.progress.payload n.chain) (omega arith)) (reach_now ns xs s.4 two.1)

      reach_start : (ns : List Need) (xs : List Seen) → Sees p w j (pairs_of ns) xs →
          list_all (is_reached (w.machine.at_start j)) ns ≡ true → list_all reaches xs ≡ true
      reach_start [] [] s h = refl
      reach_start [] (x ∷ xs) s h = absurd s
      reach_start (n ∷ ns) [] s h = absurd s
      reach_start (n ∷ ns) (x ∷ xs) s h =
          let two = and_parts (is_reached (w.machine.at_start j) n)
          (list_all (is_reached (w.machine.at_start j)) ns) h in
          let l = leb-true n.value (w.machine.at_start j n.chain) two.0 in
          let a = s.0 in
          let b = s.1 in
          and_from (reaches x) (list_all reaches xs) (le-leb x.wanted x.past (omega arith))
          (reach_start ns xs s.4 two.1)

      any_now : (ns : List Need) (xs : List Seen) → Sees p w j (pairs_of ns) xs → list_any reaches xs ≡ true →
          list_any (is_reached w.machine.progress.payload) ns ≡ true
      any_now [] [] s h = absurd (false≢true h)
      any_now [] (x ∷ xs) s h = absurd s
      any_now (n ∷ ns) [] s h = absurd s
      any_now (n ∷ ns) (x ∷ xs) s h =
          elim (or_cases (reaches x) (list_any reaches xs) h) [
            | inl t ↦
                let l = leb-true x.wanted x.past t in
                let a = s.0 in
                let b = s.2 in
                or_left (is_reached w.machine.progress.payload n) (list_any (is_reached w.machine.progress.payload) ns)
                (le-leb n.value (w.machine.progress.payload n.chain) (omega arith))
            | inr r ↦ or_right (is_reached w.machine.progress.payload n)
                (list_any (is_reached w.machine.progress.payload) ns) (any_now ns xs s.4 r)
          ]

      any_start : (ns : List Need) (xs : List Seen) → Sees p w j (pairs_of ns) xs →
          list_any (is_reached (w.machine.at_start j)) ns ≡ true → list_any reaches xs ≡ true
      any_start [] [] s h = absurd (false≢true h)
      any_start [] (x ∷ xs) s h = absurd s
      any_start (n ∷ ns) [] s h = absurd s
      any_start (n ∷ ns) (x ∷ xs) s h =
          elim (or_cases (is_reached (w.machine.at_start j) n) (list_any (is_reached (w.machine.at_start j)) ns) h) [
            | inl t ↦
                let l = leb-true n.value (w.machine.at_start j n.chain) t in
                let a = s.0 in
                let b = s.1 in
                or_left (reaches x) (list_any reaches xs) (le-leb x.wanted x.past (omega arith))
            | inr r ↦ or_right (reaches x) (list_any reaches xs) (any_start ns xs s.4 r)
          ]

      unless : (b c : Bool) → c ≡ false → (b ≡ true → c ≡ true) → not b ≡ true
      unless true c e f = absurd (false≢true (sym e ∙ f refl))
      unless false c e f = refl

      first_seen : (n : Need) (ns : List Need) (xs : List Seen) → Sees p w j (pairs_of (n ∷ ns)) xs →
          was_since p w.machine j n.chain (first_past xs) ≡ true
      first_seen n ns [] s = absurd s
      first_seen n ns (x ∷ xs) s = s.3

      by_question : (z : Question) → question p j ≡ z → is_silent (question p j) ≡ false →
          may_answer p w.machine j z (answer_by z seen) ≡ true
      by_question Silent e l = absurd (false≢true (sym l ∙ ap is_silent e))
      by_question AsksReached e l = reached j AtEnd k.needs
      by_question PollAll e l = by_test (list_all reaches seen) refl
        where
          by_test : (b : Bool) → list_all reaches seen ≡ b →
              may_answer p w.machine j PollAll (if b then Reached else Timeout) ≡ true
          by_test true h = reach_now (asked p j) seen sees h
          by_test false h = unless (list_all (is_reached (w.machine.at_start j)) (asked p j)) (list_all reaches seen) h
              (reach_start (asked p j) seen sees)
      by_question PollAny e l = by_test (list_any reaches seen) refl
        where
          by_test : (b : Bool) → list_any reaches seen ≡ b →
              may_answer p w.machine j PollAny (if b then Reached else Timeout) ≡ true
          by_test true h = any_now (asked p j) seen sees h
          by_test false h = unless (list_any (is_reached (w.machine.at_start j)) (asked p j)) (list_any reaches seen) h
              (any_start (asked p j) seen sees)
      by_question Fence e l = by_test (list_all reaches seen) refl
        where
          by_test : (b : Bool) → list_all reaches seen ≡ b →
              may_answer p w.machine j Fence (if b then Reached else NotReady) ≡ true
          by_test true h = reach_now (asked p j) seen sees h
          by_test false h = unless (list_all (is_reached (w.machine.at_start j)) (asked p j)) (list_all reaches seen) h
              (reach_start (asked p j) seen sees)
      by_question (AsksValue t) e l =
          let v = valued t e in
          subst (λ (z : ℕ). was_since p w.machine j z (first_past seen) ≡ true) v.3
          (first_seen v.0 v.1 seen (subst (λ ns. Sees p w j (pairs_of ns) seen) v.2 sees))

-- Collection

module _ (p : Plan) (wf : IsWellFormed p) (w : PointState) where
  in_front : (front : List ℕ) (e : ℕ) (back : List ℕ) → AreInOrder p (front ++ e ∷ back) → (f : ℕ) →
      has (front ++ e ∷ back) f ≡ true → value p f < value p e → has front f ≡ true
  in_front [] e back o f m l =
      elim (has_cases e back f m) [
        | inl s ↦ let same : value p e ≡ value p f = ap (value p) s in absurd (omega arith)
        | inr r ↦ elim (o.0 f r) [
          | inl up ↦ absurd (omega arith)
          | inr same ↦ let x = same.0 in absurd (omega arith)
        ]
      ]
  in_front (x ∷ xs) e back o f m l =
      elim (has_cases x (xs ++ e ∷ back) f m) [
        | inl s ↦ subst (λ (z : ℕ). has (x ∷ xs) z ≡ true) s (has_here x xs)
        | inr r ↦ has_there x xs f (in_front xs e back o.1 f r l)
      ]

  pub can_complete : (t e : ℕ) →
      ((f : ℕ) → chain_of p e ≡ Some t → w.bound e ≡ true → has (smaller_ops p t e) f ≡ true → w.bound f ≡ true) →
      to_complete p w t ≡ Some e → CanComplete p w e
  can_complete t e below h = by_found (find (is_pending w) (chain p t)) refl h
    where
      by_found : (o : Option ℕ) → find (is_pending w) (chain p t) ≡ o →
          option_map_or (λ f. if w.machine.progress.made f then Some f else None) o None ≡ Some e → CanComplete p w e
      by_found None is s = absurd (let c = s in cc)
      by_found (Some f) is s = by_made (w.machine.progress.made f) refl s
        where
          facts : w.machine.progress.made f ≡ true → f ≡ e → CanComplete p w e
          facts made same =
              let x = find_splits (is_pending w) (chain p t) f is in
              let found = next_in (λ y. not (is_pending w y)) (chain p t) f (find_not (chain p t) ∙ is) in
              let pends : is_pending w f ≡ true = not_not (is_pending w f) found.1 in
              let bound : w.bound e ≡ true = subst (λ (z : ℕ). w.bound z ≡ true) same
              (and_parts (w.bound f) (not (w.past f)) pends).0 in
              record {
                chain = t;
                in_chain = subst (λ (z : ℕ). chain_of p z ≡ Some t) same (wf.of_chain f t found.0);
                pending = subst (λ (z : ℕ). is_pending w z ≡ true) same pends;
                in_order = list_all_from w.past (smaller_ops p t e) (λ g m.
                    let q = filter-has_cases (λ (z : ℕ). nat_lt (value p z) (value p e)) (chain p t) g m in
                    let less : value p g < value p f = subst (λ (z : ℕ). value p g < value p z) (sym same)
                    (ltb-true (value p g) (value p e) q.1) in
                    let front = in_front x.front f x.back (subst (AreInOrder p) x.whole (wf.chain_order t)) g
                    (subst (λ us. has us g ≡ true) x.whole q.0) less in
                    past_of g (below g (subst (λ (z : ℕ). chain_of p z ≡ Some t) same (wf.of_chain f t found.0)) bound
                    m) (x.fail g front));
                signaled = subst (λ (z : ℕ). w.machine.progress.made z ≡ true) same made;
              }
            where
              not_not : (b : Bool) → not b ≡ false → b ≡ true
              not_not true h = refl
              not_not false h = absurd (false≢true (sym h))

              find_not : (xs : List ℕ) → find (λ y. not (not (is_pending w y))) xs ≡ find (is_pending w) xs
              find_not [] = refl
              find_not (y ∷ ys) = either (is_pending w y) (find_not ys)
                where
                  either : (b : Bool) → find (λ y. not (not (is_pending w y))) ys ≡ find (is_pending w) ys →
                      cond (not (not b)) (Some y) (find (λ y. not (not (is_pending w y))) ys) ≡ cond b (Some y)
                      (find (is_pending w) ys)
                  either true r = refl
                  either false r = r

              past_of : (g : ℕ) → w.bound g ≡ true → is_pending w g ≡ false → w.past g ≡ true
              past_of g b n = by_past (w.past g) (sym (ap (λ c. c && not (w.past g)) b) ∙ n)
                where
                  by_past : (c : Bool) → not c ≡ false → c ≡ true
                  by_past true h = refl
                  by_past false h = absurd (false≢true (sym h))

          by_made : (b : Bool) → w.machine.progress.made f ≡ b → (if b then Some f else None) ≡ Some e →
              CanComplete p w e
          by_made true m i = facts m (same_Some f e i)
          by_made false m i = absurd (let c = i in cc)

  -- Nothing else is needed to free a point.
  pub can_free : (t q : ℕ) → to_free p w t ≡ Some q → CanFree w q
  can_free t q h =
      let found = next_in (has_reference_to w) (filter_map (waiting_point w) (chain p t)) q h in
      let from = mapped (waiting_point w) (chain p t) q found.0 in
      record { waiting = by_point from.0 (w.point_of from.0) from.2; unreferenced = found.1 }
    where
      by_wait : (b : Bool) (r : ℕ) → b ≡ w.waiting r → (c : Bool) → (if b && c then Some r else None) ≡ Some q →
          w.waiting q ≡ true
      by_wait true r is true h = subst (λ (z : ℕ). w.waiting z ≡ true) (same_Some r q h) (sym is)
      by_wait true r is false h = absurd (let c = h in cc)
      by_wait false r is true h = absurd (let c = h in cc)
      by_wait false r is false h = absurd (let c = h in cc)

      by_point : (e : ℕ) (o : Option ℕ) → waiting_of w e o ≡ Some q → w.waiting q ≡ true
      by_point e None h = absurd (let c = h in cc)
      by_point e (Some r) h = by_wait (w.waiting r) r refl (option_map_or (λ f. f == e) (w.carried r) false) h
