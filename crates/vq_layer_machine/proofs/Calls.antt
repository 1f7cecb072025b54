-- Calls that are no step, and the host's signal, keep the tie.
use Rattle.std.proofs.Common.{◌≡◌, ◌⊎◌, ℕ, ◌+◌, ◌-◌, ◌<◌, ◌≤◌, Bool, true, false, List, [], ◌∷◌, ◌++◌, length, map, Option, Some, inl, inr, refl, sym, ap, ◌∙◌, subst, arith}
use Rattle.std.specs.List.{list_all}
use Rattle.std.proofs.lemmas.Bool.{cases_lt, cases_eq}
use Rattle.std.proofs.lemmas.List.{map-append, take-map, length-map}
use Rattle.vq_model.specs.Plan.{Plan, commands_of, chain_of, value, initial}
use Rattle.vq_model.specs.Edges.{must_finish}
use Rattle.vq_model.specs.Lanes.{lane_at}
use Rattle.vq_model.specs.Machine.{Progress, State, StartStep, after_step, is_reached, with_signal, CanStart, CanSignal, CanFinish, put}
use Rattle.vq_model.proofs.Puts.{put_here, put_there, put_keeps}
use Rattle.vq_ground.specs.Lists.{has}
use Rattle.vq_ground.proofs.Numbers.{has-range_cases}
use Rattle.vq_live.specs.Live.{Live, opened}
use Rattle.vq_layer.specs.declared.answers.Kind.{Kind}
use Rattle.vq_layer.specs.declared.answers.Kind.TheVariants.{Closed}
use Rattle.vq_layer.specs.Names.{is_closed}
use Rattle.vq_layer_laws.proofs.Cited.{closed_counted, closed_uncounted, free_closed}
use Rattle.vq_layer.specs.declared.answers.Wanted.{Wanted}
use Rattle.vq_layer.specs.Layer.{Layer, Batch, live_at, kind_at, queue_at}
use Rattle.vq_layer.specs.Names.{signals_named}
use Rattle.vq_layer.specs.Calls.{free_number, after_open, after_submit, after_take_back_of}
use Rattle.vq_layer_laws.specs.Stuck.{IsAmong}
use Rattle.vq_layer_laws.specs.Runs.{submits}
use Rattle.vq_layer_machine.specs.Tales.{Work, Place, Scene, count_commands, count_batches, layer_called, at_start, after_place, after_told, host_steps}
use Rattle.vq_layer_machine.proofs.Jobs.{Asked, IsJob, rename_asked}
use Rattle.vq_layer_machine.proofs.Moves.{Runs, IsFresh, may_start, may_signal, may_finish}
use Rattle.vq_layer_machine.proofs.Layers.{payload_submitted, payload_taken_back, asked_in, asked_of, asked_for, asked_submitted, asked_unsubmitted, asked_taken_back, asked_left, named_weaker, asked_same, put_read, put_other, free_within}
use Rattle.vq_layer_machine.proofs.Ties.{IsOpen, KeepsNames, asked_at, ArePlaced, AreJobs, AreAt, IsPlaced, Ties, Goes, among_push, among_left, among_last, below_next, placed_more, placed_push, jobs_push, jobs_more, jobs_fewer, at_push, put_each, Touches, at_kept, is_done}
use Rattle.vq_layer_machine.proofs.Steps.{raised, raised_unopened, low_kept, started_after, signaled_after, finished_after}

-- what a call leaves that changes no payload and no batch
pub record IsQuiet (work : Work) (l m : Layer) : Type 0 where
  pub still : (n : ℕ) → IsOpen m n → IsOpen l n
  pub same : (n : ℕ) → IsOpen m n → (live_at m.timelines n).payload ≡ (live_at l.timelines n).payload
  pub asked : (q : ℕ) → asked_in work q m ≡ asked_in work q l

-- the scene after an opening
abbrev pub opened_scene : Scene → ℕ → Kind → Scene
opened_scene sc v kind =
    record sc {
      layer = after_open sc.layer (opened v) kind;
      opened = sc.opened + 1;
      names = put sc.names (free_number sc.layer) sc.opened;
    }

module _ (work : Work) (p : Plan) (sc : Scene) (keeps : KeepsNames work sc) (st : State) (ties : Ties work p sc st.progress) where
  pub quiet_told : (m : Layer) → IsQuiet work sc.layer m → Ties work p (record sc { layer = m }) st.progress
  quiet_told m k = record {
    payload = λ n o. ties.payload n (k.still n o) ∙ sym (k.same n o);
    unopened = ties.unopened;
    low = ties.low;
    jobs = λ q. subst (λ (bs : List Asked). AreJobs p (q + 1) (map (rename_asked sc.names) bs) (sc.places q)) (sym (k.asked q)) (ties.jobs q);
    placed = ties.placed;
    at = ties.at;
    left = ties.left;
    new = ties.new;
    below = ties.below;
    applied = ties.applied;
  }

  -- the number that is given next is closed
  pub not_free : (n : ℕ) → IsOpen sc.layer n → n ≡ free_number sc.layer → ⊥
  not_free n o e =
      let both : true ≡ false = sym (free_closed sc.layer.kinds) ∙ ap (λ (k : ℕ). is_closed (kind_at sc.layer.kinds k)) (sym e) ∙ o in
      cc

  pub open_before : (v : ℕ) (kind : Kind) (n : ℕ) → (n ≡ free_number sc.layer → ⊥) → IsOpen (after_open sc.layer (opened v) kind) n → IsOpen sc.layer n
  open_before v kind n ne o =
      let l = free_within 0 sc.layer.kinds in
      ap is_closed (sym (put_other sc.layer.kinds (free_number sc.layer) n kind Closed (omega arith) ne)) ∙ o

  pub open_told : (v : ℕ) (kind : Kind) → initial p sc.opened ≡ v → Ties work p (opened_scene sc v kind) st.progress
  open_told v kind h = record {
    payload = put_each (λ n x. IsOpen (after_open sc.layer (opened v) kind) n → st.progress.payload x ≡ (live_at (after_open sc.layer (opened v) kind).timelines n).payload) sc.names (free_number sc.layer) sc.opened
        (λ o. ties.unopened sc.opened (omega arith) ∙ h ∙ sym (ap (λ (x : Live). x.payload) (put_read sc.layer.timelines (free_number sc.layer) (opened v) (opened 0) within)))
        (λ n ne o. ties.payload n (open_before v kind n ne o) ∙ sym (ap (λ (x : Live). x.payload) (put_other sc.layer.timelines (free_number sc.layer) n (opened v) (opened 0) within ne)));
    unopened = λ t l. ties.unopened t (omega arith);
    low = ties.low;
    jobs = λ q. subst (λ (bs : List Asked). AreJobs p (q + 1) bs (sc.places q)) (sym (asked_same sc.names (free_number sc.layer) sc.opened (asked_in work q sc.layer) (named_weaker (IsOpen sc.layer) (λ n. n ≡ free_number sc.layer → ⊥) (asked_in work q sc.layer) not_free (keeps.named q)))) (ties.jobs q);
    placed = ties.placed;
    at = ties.at;
    left = ties.left;
    new = ties.new;
    below = ties.below;
    applied = ties.applied;
  }
    where
      within : free_number sc.layer ≤ length sc.layer.timelines
      within = let l = free_within 0 sc.layer.kinds in let e = keeps.same in omega arith

  -- a job that is new hasn't started
  new_fresh : (lane : ℕ) (a : Asked) → IsJob p lane a sc.next → IsFresh p st.progress sc.next
  new_fresh lane a job = record { waiting = (ties.new sc.next.job (omega arith)).0; unfinished = (ties.new sc.next.job (omega arith)).1; undone = λ c h. undone c h (has st.progress.applied c) refl }
    where
      undone : (c : ℕ) → has (commands_of p sc.next.job) c ≡ true → (b : Bool) → has st.progress.applied c ≡ b → has st.progress.applied c ≡ false
      undone c h true e =
          let r = has-range_cases a.commands sc.next.command c (sym (ap (λ cs. has cs c) job.commands) ∙ h) in
          let from = r.0 in
          let under = ties.applied c e in
          absurd (omega arith)
      undone c h false e = e

  pub submit_told : (q token : ℕ) (waits signals : List Wanted) → q < length sc.layer.queues → length (sc.places q) ≡ count_batches sc.layer q → IsJob p (q + 1) (rename_asked sc.names (asked_for work sc.layer.kinds token waits signals)) sc.next → Ties work p (after_told work sc (layer_called (submits q token waits signals))) st.progress
  submit_told q token waits signals l each job = record {
    payload = λ n o. ties.payload n (sym (closed_counted sc.layer.kinds waits (signals_named sc.layer.kinds signals) n) ∙ o) ∙ sym (payload_submitted sc.layer.timelines (signals_named sc.layer.kinds signals) n);
    unopened = ties.unopened;
    low = ties.low;
    jobs = put_each (λ r zs. AreJobs p (r + 1) (map (rename_asked sc.names) (asked_in work r (after_submit sc.layer q token waits signals))) zs) sc.places q (sc.places q ++ sc.next ∷ [])
        (subst (λ (bs : List Asked). AreJobs p (q + 1) bs (sc.places q ++ sc.next ∷ [])) (sym (ap (map (rename_asked sc.names)) (asked_submitted work sc.layer q token waits signals l) ∙ map-append (rename_asked sc.names) (asked_in work q sc.layer) (asked_for work sc.layer.kinds token waits signals ∷ []))) (jobs_push p (q + 1) (asked_at work sc q) (sc.places q) (rename_asked sc.names (asked_for work sc.layer.kinds token waits signals)) sc.next (each ∙ sym (length-map (asked_in work q sc.layer) (rename_asked sc.names) ∙ length-map (queue_at sc.layer.queues q).batches (asked_of work))) (ties.jobs q) job))
        (λ r n. subst (λ (bs : List Asked). AreJobs p (r + 1) (map (rename_asked sc.names) bs) (sc.places r)) (sym (asked_unsubmitted work sc.layer q r token waits signals n)) (ties.jobs r));
    placed = put_each (λ r zs. ArePlaced (sc.next.job + 1) zs) sc.places q (sc.places q ++ sc.next ∷ []) (placed_push sc.next.job sc.next (sc.places q) refl (ties.placed q)) (λ r n. placed_more sc.next.job (sc.next.job + 1) (sc.places r) (omega arith) (ties.placed r));
    at = put_each (λ r zs. AreAt p st.progress zs (sc.running r)) sc.places q (sc.places q ++ sc.next ∷ []) (at_push p st.progress (sc.places q) (sc.running q) sc.next (ties.at q) (new_fresh (q + 1) (rename_asked sc.names (asked_for work sc.layer.kinds token waits signals)) job)) (λ r n. ties.at r);
    left = left;
    new = λ i m. ties.new i (omega arith);
    below = put_each (λ r zs. (y : Place) → IsAmong y zs → (c : ℕ) → has (commands_of p y.job) c ≡ true → c < sc.next.command + count_commands work token) sc.places q (sc.places q ++ sc.next ∷ [])
        (λ y i c h. elim (among_push (sc.places q) sc.next y i) [ inl j ↦ (let under = ties.below q y j c h in omega arith) | inr e ↦ own c (ap (λ (z : Place). has (commands_of p z.job) c) e ∙ h) ])
        (λ r n y i c h. let under = ties.below r y i c h in omega arith);
    applied = λ c h. let under = ties.applied c h in omega arith;
  }
    where
      own : (c : ℕ) → has (commands_of p sc.next.job) c ≡ true → c < sc.next.command + count_commands work token
      own c h = (has-range_cases (count_commands work token) sc.next.command c (sym (ap (λ cs. has cs c) job.commands) ∙ h)).1

      still : (r : ℕ) (y : Place) → IsAmong y (sc.places r) → IsAmong y (put sc.places q (sc.places q ++ sc.next ∷ []) r)
      still = put_each (λ r zs. (y : Place) → IsAmong y (sc.places r) → IsAmong y zs) sc.places q (sc.places q ++ sc.next ∷ []) (λ y i. among_left (sc.places q) sc.next y i) (λ r n y i. i)

      left : (i : ℕ) → i < sc.next.job + 1 → (st.progress.finished i ≡ true) ⊎ IsPlaced (put sc.places q (sc.places q ++ sc.next ∷ [])) i
      left i m = elim (cases_lt i sc.next.job) [
        | inl k ↦ elim (ties.left i k) [
          | inl f ↦ inl f
          | inr x ↦ inr (record { queue = x.queue; place = x.place; among = still x.queue x.place x.among; is = x.is })
        ]
        | inr k ↦ inr (record { queue = q; place = sc.next; among = subst (IsAmong sc.next) (sym (put_here sc.places q (sc.places q ++ sc.next ∷ []))) (among_last (sc.places q) sc.next); is = omega arith })
      ]

  -- the host's signal
  abbrev pub asked_host : ℕ → ℕ → Asked
  asked_host n v = record { waits = []; commands = 0; signals = record { timeline = n; value = v } ∷ [] }

  -- A batch that has no place, and that is taken back.
  pub tried_told : (q token : ℕ) (waits signals : List Wanted) → q < length sc.layer.queues → Ties work p (record sc { layer = after_submit sc.layer q token waits signals }) st.progress
  tried_told q token waits signals l = record {
    payload = λ n o. ties.payload n (sym (closed_counted sc.layer.kinds waits (signals_named sc.layer.kinds signals) n) ∙ o) ∙ sym (payload_submitted sc.layer.timelines (signals_named sc.layer.kinds signals) n);
    unopened = ties.unopened;
    low = ties.low;
    jobs = jobs;
    placed = ties.placed;
    at = ties.at;
    left = ties.left;
    new = ties.new;
    below = ties.below;
    applied = ties.applied;
  }
    where
      jobs : (r : ℕ) → AreJobs p (r + 1) (map (rename_asked sc.names) (asked_in work r (after_submit sc.layer q token waits signals))) (sc.places r)
      jobs r = elim (cases_eq r q) [
        | inl e ↦
            subst (λ (i : ℕ). AreJobs p (i + 1) (map (rename_asked sc.names) (asked_in work i (after_submit sc.layer q token waits signals))) (sc.places i)) (sym e)
            (subst (λ (bs : List Asked). AreJobs p (q + 1) bs (sc.places q)) (sym (ap (map (rename_asked sc.names)) (asked_submitted work sc.layer q token waits signals l) ∙ map-append (rename_asked sc.names) (asked_in work q sc.layer) (asked_for work sc.layer.kinds token waits signals ∷ [])))
            (jobs_more p (q + 1) (asked_at work sc q) (sc.places q) (rename_asked sc.names (asked_for work sc.layer.kinds token waits signals)) (ties.jobs q)))
        | inr n ↦ subst (λ (bs : List Asked). AreJobs p (r + 1) (map (rename_asked sc.names) bs) (sc.places r)) (sym (asked_unsubmitted work sc.layer q r token waits signals n)) (ties.jobs r)
      ]

  pub undone_told : (q : ℕ) (b : Batch) → q < length sc.layer.queues → length (sc.places q) < count_batches sc.layer q → Ties work p (record sc { layer = after_take_back_of sc.layer q b }) st.progress
  undone_told q b l tried = record {
    payload = λ n o. ties.payload n (sym (closed_uncounted sc.layer.kinds b.signals b.waits n) ∙ o) ∙ sym (payload_taken_back sc.layer.timelines b.signals n);
    unopened = ties.unopened;
    low = ties.low;
    jobs = jobs;
    placed = ties.placed;
    at = ties.at;
    left = ties.left;
    new = ties.new;
    below = ties.below;
    applied = ties.applied;
  }
    where
      jobs : (r : ℕ) → AreJobs p (r + 1) (map (rename_asked sc.names) (asked_in work r (after_take_back_of sc.layer q b))) (sc.places r)
      jobs r = elim (cases_eq r q) [
        | inl e ↦
            subst (λ (i : ℕ). AreJobs p (i + 1) (map (rename_asked sc.names) (asked_in work i (after_take_back_of sc.layer q b))) (sc.places i)) (sym e)
            (subst (λ (bs : List Asked). AreJobs p (q + 1) bs (sc.places q)) (sym (ap (map (rename_asked sc.names)) (asked_taken_back work sc.layer q b l) ∙ sym (take-map (rename_asked sc.names) (count_batches sc.layer q - 1) (asked_in work q sc.layer))))
            (jobs_fewer p (q + 1) (count_batches sc.layer q - 1) (asked_at work sc q) (sc.places q) (omega arith) (ties.jobs q)))
        | inr n ↦ subst (λ (bs : List Asked). AreJobs p (r + 1) (map (rename_asked sc.names) bs) (sc.places r)) (sym (asked_left work sc.layer q r b n)) (ties.jobs r)
      ]

  -- a signal of the host's, after which the layer has these timelines and kinds
  abbrev pub scene_hosted : List Live → List Kind → Scene
  scene_hosted ts ks =
      record sc { layer = record sc.layer { timelines = ts; kinds = ks }; next = after_place sc.next 0 1 }

  pub host_goes : (n v : ℕ) (ts : List Live) (ks : List Kind) → IsJob p 0 (asked_host (sc.names n) v) sc.next → IsOpen sc.layer n → (live_at sc.layer.timelines n).payload < v → ((u : ℕ) → is_closed (kind_at ks u) ≡ false → put st.progress.payload (sc.names n) v (sc.names u) ≡ (live_at ts u).payload) → Goes work p st (host_steps sc.next) (scene_hosted ts ks)
  host_goes n v ts ks job is_open above payload = record {
    run = (can_start, (subst (CanSignal p begun) at_op can_signal, (subst (λ (o : Option ℕ). CanFinish p (record (after_step p st (StartStep sc.next.job)) { progress = with_signal p (started_after st.progress sc.next.job) sc.next.op o }) sc.next.job) (sym chain) can_finish, tt)));
    ties = subst (λ (o : Option ℕ). Ties work p (scene_hosted ts ks) (finished_after (with_signal p (started_after st.progress sc.next.job) sc.next.op o) sc.next.job)) (sym chain) tied;
  }
    where
      begun : Progress
      begun = started_after st.progress sc.next.job

      at_op : sc.next.op + 0 ≡ sc.next.op
      at_op = omega arith

      fresh : IsFresh p st.progress sc.next
      fresh = new_fresh 0 (asked_host (sc.names n) v) job

      done : (i : ℕ) → has (must_finish p sc.next.job) i ≡ true → st.progress.finished i ≡ true
      done i h = by_lane (job.first i h)
        where
          by_lane : (i < sc.next.job) × ((lane_at p i ≡ 0) ⊎ (lane_at p i ≡ 0)) → st.progress.finished i ≡ true
          by_lane (l, inl e) = is_done work p sc st.progress ties i 0 l e (λ q y a k z. (let none : 0 ≡ q + 1 = k in omega arith))
          by_lane (l, inr e) = is_done work p sc st.progress ties i 0 l e (λ q y a k z. (let none : 0 ≡ q + 1 = k in omega arith))

      can_start : CanStart p st.progress sc.next.job
      can_start = may_start p 0 (asked_host (sc.names n) v) sc.next job st.progress fresh done (ap (list_all (is_reached st.progress.payload)) job.needed)

      runs : Runs p (started_after st.progress sc.next.job) sc.next at_start
      runs = record {
        started = put_here st.progress.started sc.next.job true;
        unfinished = fresh.unfinished;
        reached = ap (list_all (is_reached st.progress.payload)) job.needed;
        done = λ i l. absurd (omega arith);
        undone = λ c h l. fresh.undone c h;
        made_first = λ i l. absurd (omega arith);
      }

      on : (chain_of p (sc.next.op + 0) ≡ Some (sc.names n)) × (value p (sc.next.op + 0) ≡ v)
      on = job.signal 0 (record { timeline = sc.names n; value = v }) refl

      chain : chain_of p sc.next.op ≡ Some (sc.names n)
      chain = ap (chain_of p) (sym at_op) ∙ on.0

      value_is : value p sc.next.op ≡ v
      value_is = ap (value p) (sym at_op) ∙ on.1

      rises : st.progress.payload (sc.names n) < v
      rises = let same = ties.payload n is_open in let l = above in omega arith

      low : st.progress.payload (sc.names n) ≤ value p sc.next.op
      low = let l = rises in let e = value_is in omega arith

      can_signal : CanSignal p (started_after st.progress sc.next.job) (sc.next.op + 0)
      can_signal = may_signal p 0 (asked_host (sc.names n) v) sc.next job (started_after st.progress sc.next.job) at_start (record { timeline = sc.names n; value = v }) runs ties.low refl refl rises

      signaled : Runs p (signaled_after p (started_after st.progress sc.next.job) sc.next.op (sc.names n)) sc.next (record { applied = 0; made = 1 })
      signaled = record {
        started = runs.started;
        unfinished = runs.unfinished;
        reached = ap (list_all (is_reached (put st.progress.payload (sc.names n) (value p sc.next.op)))) job.needed;
        done = λ i l. absurd (omega arith);
        undone = runs.undone;
        made_first = λ i l.
            let same : sc.next.op + i ≡ sc.next.op = omega arith in
            ap (put st.progress.made sc.next.op true) same ∙ put_here st.progress.made sc.next.op true;
      }

      can_finish : CanFinish p (record (after_step p st (StartStep sc.next.job)) { progress = signaled_after p (started_after st.progress sc.next.job) sc.next.op (sc.names n) }) sc.next.job
      can_finish = may_finish p 0 (asked_host (sc.names n) v) sc.next job (record (after_step p st (StartStep sc.next.job)) { progress = signaled_after p (started_after st.progress sc.next.job) sc.next.op (sc.names n) }) (record { applied = 0; made = 1 }) signaled refl refl

      touches : Touches p st.progress (finished_after (signaled_after p (started_after st.progress sc.next.job) sc.next.op (sc.names n)) sc.next.job) sc.next.job
      touches = record {
        started = λ i k. put_there st.progress.started sc.next.job true i k;
        finished = λ i k. put_there st.progress.finished sc.next.job true i k;
        applied = λ i c k h. refl;
        kept = λ c h. h;
        payload = λ k. raised st.progress.payload (sc.names n) (value p sc.next.op) low k;
        made = λ f h. put_keeps st.progress.made sc.next.op f h;
      }

      tied : Ties work p (scene_hosted ts ks) (finished_after (signaled_after p (started_after st.progress sc.next.job) sc.next.op (sc.names n)) sc.next.job)
      tied = record {
        payload = λ u o. ap (λ (k : ℕ). put st.progress.payload (sc.names n) k (sc.names u)) value_is ∙ payload u o;
        unopened = raised_unopened work sc n (value p sc.next.op) p st.progress.payload keeps is_open ties.unopened;
        low = low_kept p (started_after st.progress sc.next.job) sc.next.op (sc.names n) ties.low chain low;
        jobs = ties.jobs;
        placed = λ q. placed_more sc.next.job (sc.next.job + 1) (sc.places q) (omega arith) (ties.placed q);
        at = λ q. at_kept p st.progress (finished_after (signaled_after p (started_after st.progress sc.next.job) sc.next.op (sc.names n)) sc.next.job) sc.next.job touches (sc.places q) (sc.running q) (λ y i e. let l = below_next sc.next.job (sc.places q) y (ties.placed q) i in omega arith) (ties.at q);
        left = left;
        new = λ i l. (put_there st.progress.started sc.next.job true i (λ e. let c : i ≡ sc.next.job = e in omega arith) ∙ (ties.new i (omega arith)).0, put_there st.progress.finished sc.next.job true i (λ e. let c : i ≡ sc.next.job = e in omega arith) ∙ (ties.new i (omega arith)).1);
        below = λ q y i c h. let l = ties.below q y i c h in omega arith;
        applied = λ c h. let l = ties.applied c h in omega arith;
      }
        where
          left : (i : ℕ) → i < sc.next.job + 1 → (put st.progress.finished sc.next.job true i ≡ true) ⊎ IsPlaced sc.places i
          left i l = elim (cases_lt i sc.next.job) [
            | inl k ↦ elim (ties.left i k) [
              | inl f ↦ inl (put_keeps st.progress.finished sc.next.job i f)
              | inr x ↦ inr x
            ]
            | inr k ↦
                let same : i ≡ sc.next.job = omega arith in
                inl (ap (put st.progress.finished sc.next.job true) same ∙ put_here st.progress.finished sc.next.job true)
          ]
