-- What the plan of a script says of the job of a batch, and of a host's signal.
use Rattle.std.proofs.Common.{◌≡◌, ◌⊎◌, ℕ, zero, suc, ◌+◌, ◌<◌, ◌≤◌, true, false, List, [], ◌∷◌, ◌++◌, length, map, take, append-nil, count_by, Some, None, option_map, inl, inr, refl, sym, ap, ◌∙◌, subst, arith}
use Rattle.std.specs.Prelude.{◌==◌, ◌&&◌, nat_lt, if◌then◌else◌}
use Rattle.std.specs.List.{slice_get, range_with_len}
use Rattle.std.specs.Option.{option_map_or, option_to_list}
use Rattle.std.proofs.lemmas.Bool.{cond-true, cond-false, eqb-true, false≢true}
use Rattle.std.proofs.lemmas.Option.{same_Some}
use Rattle.std.proofs.lemmas.List.{length-map}
use Rattle.vq_model.specs.declared.script.Script.{Script}
use Rattle.vq_model.specs.declared.script.CommandLine.{CommandLine}
use Rattle.vq_model.specs.declared.script.Job.{Job}
use Rattle.vq_model.specs.declared.script.Job.TheVariants.{Host, Batch}
use Rattle.vq_model.specs.declared.plan.Lane.{Lane}
use Rattle.vq_model.specs.declared.plan.Lane.TheVariants.{Host as HostLane, Queue as QueueLane}
use Rattle.vq_model.specs.declared.plan.Need.{Need}
use Rattle.vq_model.specs.declared.plan.PlanJob.{PlanJob}
use Rattle.vq_model.specs.Plan.{Plan, of_job, same_lane, previous, host_before, idle_after, waits_for_any, needs, commands_of, signals_of, question, is_silent, chain_of, value}
use Rattle.vq_model.specs.Edges.{must_finish}
use Rattle.vq_model.specs.Lanes.{lane_number, lane_at}
use Rattle.vq_model.specs.Signals.{Signaling, all_signals, job_signals, of_mark, is_timeline_at, signals_semaphore}
use Rattle.vq_model.specs.Lowering.{plan_of, plan_job, lane_of, last_before, of_wait}
use Rattle.vq_ground.specs.Lists.{has}
use Rattle.vq_ground.proofs.Gets.{get-map, get-take, get-take_within, get_within}
use Rattle.vq_ground.proofs.Lists.{has-append_cases, in_option}
use Rattle.vq_plan_laws.proofs.Cited.{part_is, op_chain_is, op_value_is, value_is, counted_value, count_jobs, last_cases, counted, IsLast, HasNone}
use Rattle.vq_layer.specs.declared.answers.Wanted.{Wanted}
use Rattle.vq_layer.specs.declared.answers.Kind.{Kind}
use Rattle.vq_layer.specs.declared.answers.Kind.TheVariants.{Closed, Timeline, Binary}
use Rattle.vq_layer.specs.Layer.{kind_at}
use Rattle.vq_layer.specs.Names.{waits_named, signal_named, wait_value, signal_value, next_number}
use Rattle.vq_layer.specs.Takes.{AreApart}
use Rattle.vq_ground.proofs.Options.{some_of}
use Rattle.vq_layer_machine.proofs.Counted.{counted_before, counted_jobs, counted_ops, marks, none_in_front, named_at_place}
use Rattle.vq_layer_machine.proofs.Standing.{KindStands, HasRoom, AllAt, all_named, next_is}
use Rattle.vq_layer_machine.specs.Tales.{Place}
use Rattle.vq_layer_machine.specs.Scripts.{mark_of, renamed, batch_of, signal_of}
use Rattle.vq_layer_machine.proofs.Ops.{signals_before, signal_at, job_ops_are}

-- what a job waits for, does and signals
pub record Asked : Type 0 where
  pub waits : List Need
  -- how many commands
  pub commands : ℕ
  pub signals : List Wanted

-- with the semaphores that numbers stand for
abbrev pub rename_need : (ℕ → ℕ) → Need → Need
rename_need names n = record { line = n.line; chain = names n.chain; value = n.value; from = n.from }

abbrev pub rename_asked : (ℕ → ℕ) → Asked → Asked
rename_asked names a =
    record { waits = map (rename_need names) a.waits; commands = a.commands; signals = map (renamed names) a.signals }

abbrev pub need_for : Wanted → Need
need_for w = record { line = 0; chain = w.timeline; value = w.value; from = 1 }

-- The job at a place of a plan, in the lane of this number, with these waits and signals.
pub record IsJob (p : Plan) (lane : ℕ) (a : Asked) (x : Place) : Type 0 where
  pub exists : x.job < length p.jobs
  pub in_lane : lane_at p x.job ≡ lane
  pub first : (i : ℕ) → has (must_finish p x.job) i ≡ true → (i < x.job) × ((lane_at p i ≡ lane) ⊎ (lane_at p i ≡ 0))
  pub any : waits_for_any p x.job ≡ false
  pub needed : needs p x.job ≡ a.waits
  pub commands : commands_of p x.job ≡ range_with_len x.command a.commands
  pub ops : signals_of p x.job ≡ range_with_len x.op (length a.signals)
  pub signal : (k : ℕ) (w : Wanted) → slice_get a.signals k ≡ Some w → (chain_of p (x.op + k) ≡ Some w.timeline) × (value p (x.op + k) ≡ w.value)
  pub silent : is_silent (question p x.job) ≡ true

module _ (s : Script) where
  -- a part of a job
  at_job : {B : Type 0} (part : PlanJob → B) (none : B) (j : ℕ) (job : Job) → slice_get s.jobs j ≡ Some job → of_job part none (plan_of s) j ≡ part (plan_job s (j, job))
  at_job part none j job e = part_is part none s j ∙ ap (λ o. option_map_or (λ y. part (plan_job s (j, y))) o none) e

  lane_is : (j : ℕ) (job : Job) → slice_get s.jobs j ≡ Some job → lane_at (plan_of s) j ≡ lane_number (lane_of job)
  lane_is j job e = at_job (λ x. lane_number x.lane) 0 j job e ∙ by_job job
    where
      by_job : (y : Job) → lane_number (plan_job s (j, y)).lane ≡ lane_number (lane_of y)
      by_job (Host h) = refl
      by_job (Batch b) = refl

  number_of : (a b : Lane) → same_lane a b ≡ true → lane_number b ≡ lane_number a
  number_of HostLane HostLane e = refl
  number_of HostLane (QueueLane r) e = absurd (false≢true e)
  number_of (QueueLane q) HostLane e = absurd (false≢true e)
  number_of (QueueLane q) (QueueLane r) e = ap (λ k. k + 1) (sym (eqb-true q r e))

  -- the last job of a lane is one of the lane, and stands before
  last_in_lane : (j i : ℕ) (lane : Lane) → last_before s j (λ x. same_lane lane (lane_of x)) ≡ Some i → (i < j) × (lane_at (plan_of s) i ≡ lane_number lane)
  last_in_lane j i lane h = by_last (last_cases 0 (λ x. same_lane lane (lane_of x)) (take j s.jobs) None)
    where
      by_last : HasNone 0 (λ x. same_lane lane (lane_of x)) (take j s.jobs) None ⊎ IsLast 0 (λ x. same_lane lane (lane_of x)) (take j s.jobs) None → (i < j) × (lane_at (plan_of s) i ≡ lane_number lane)
      by_last (inl r) = absurd (let c : None ≡ Some i = sym r.same ∙ h in cc)
      by_last (inr r) =
          let below = get-take_within j s.jobs r.place r.job r.is in
          let z : 0 + r.place ≡ r.place = omega arith in
          let same = same_Some r.place i (sym (r.is_found ∙ ap Some z) ∙ h) in
          let at : slice_get s.jobs r.place ≡ Some r.job = sym (get-take j s.jobs r.place below) ∙ r.is in
          subst (λ (k : ℕ). (k < j) × (lane_at (plan_of s) k ≡ lane_number lane)) same
          (below, lane_is r.place r.job at ∙ number_of lane (lane_of r.job) r.passes)

  exists_at : (j : ℕ) (job : Job) → slice_get s.jobs j ≡ Some job → j < length (plan_of s).jobs
  exists_at j job e = let l = get_within s.jobs j job e in let n = count_jobs s in omega arith

  -- the operation of a signal of a timeline
  op_at_signal : (e n v j : ℕ) → slice_get (all_signals s) e ≡ Some (record { job = j; line = 0; semaphore = n; value = v }) → is_timeline_at s n ≡ true → (chain_of (plan_of s) e ≡ Some n) × (value (plan_of s) e ≡ v)
  op_at_signal e n v j h t =
      let x : Signaling = record { job = j; line = 0; semaphore = n; value = v } in (
        op_chain_is s e ∙ ap (option_map (λ y. y.semaphore)) h,
        op_value_is s e
            ∙ value_is s e x h
            ∙ cond-true (is_timeline_at s n) v (count_by (signals_semaphore n) (take e (all_signals s)) + 1) t,
      )

  -- the value of a wait
  need_value : (j n v : ℕ) (k : Kind) → KindStands s j n k → (if is_timeline_at s n then v else count_by (λ x. (x.semaphore == n) && nat_lt x.job j) (all_signals s)) ≡ wait_value k v
  need_value j n v Closed h = absurd h
  need_value j n v Timeline h = cond-true (is_timeline_at s n) v (count_by (λ x. (x.semaphore == n) && nat_lt x.job j) (all_signals s)) h
  need_value j n v (Binary c t) h =
      cond-false (is_timeline_at s n) v (count_by (λ x. (x.semaphore == n) && nat_lt x.job j) (all_signals s)) h.0
      ∙ counted_jobs s n j
      ∙ sym h.1.0

  -- a batch
  module _ (j first op q : ℕ) (cs : List CommandLine) (names : ℕ → ℕ) (waits signals : List Wanted) (is : slice_get s.jobs j ≡ Some (batch_of q cs (map (renamed names) waits) (map (renamed names) signals))) (from : first ≡ counted 0 (take j s.jobs)) (at : op ≡ signals_before 0 s.jobs j) where
    waits_are : (ks : List Kind) (ws : List Wanted) → AllAt (λ n. KindStands s j (names n) (kind_at ks n)) ws → map (of_wait s j) (map mark_of (map (renamed names) ws)) ≡ map (rename_need names) (map (λ x. need_for x.wanted) (waits_named ks ws))
    waits_are ks [] a = refl
    waits_are ks (w ∷ ws) a =
        let v = need_value j (names w.timeline) w.value (kind_at ks w.timeline) a.0 in
        let rest = waits_are ks ws a.1 in
        λ i. record { line = 0; chain = names w.timeline; value = v i; from = 1 } ∷ rest i

    pub batch_signals_are : job_signals (j, batch_of q cs (map (renamed names) waits) (map (renamed names) signals)) ≡ marks j (map (renamed names) signals)
    batch_signals_are = ap (map (of_mark j)) (append-nil (map mark_of (map (renamed names) signals)))

    pub batch_count : length (job_signals (j, batch_of q cs (map (renamed names) waits) (map (renamed names) signals))) ≡ length (map (renamed names) signals)
    batch_count = ap length batch_signals_are ∙ length-map (map mark_of (map (renamed names) signals)) (of_mark j) ∙ length-map (map (renamed names) signals) mark_of

    batch_signal : (k : ℕ) (w : Wanted) → slice_get (map (renamed names) signals) k ≡ Some w → slice_get (all_signals s) (op + k) ≡ Some (record { job = j; line = 0; semaphore = w.timeline; value = w.value })
    batch_signal k w e =
        let l = get_within (map (renamed names) signals) k w e in
        let n = batch_count in
        let z : 0 + j ≡ j = omega arith in
        let there = signal_at 0 s.jobs j (batch_of q cs (map (renamed names) waits) (map (renamed names) signals)) k is (subst (λ (i : ℕ). k < length (job_signals (i, batch_of q cs (map (renamed names) waits) (map (renamed names) signals)))) (sym z) (omega arith)) in
        ap (λ (i : ℕ). slice_get (all_signals s) (i + k)) at
        ∙ there
        ∙ ap (λ (i : ℕ). slice_get (job_signals (i, batch_of q cs (map (renamed names) waits) (map (renamed names) signals))) k) z
        ∙ ap (λ xs. slice_get xs k) batch_signals_are
        ∙ get-map (of_mark j) (map mark_of (map (renamed names) signals)) k
        ∙ ap (option_map (of_mark j)) (get-map mark_of (map (renamed names) signals) k ∙ ap (option_map mark_of) e)

    batch_first : (i : ℕ) → has (must_finish (plan_of s) j) i ≡ true → (i < j) × ((lane_at (plan_of s) i ≡ q + 1) ⊎ (lane_at (plan_of s) i ≡ 0))
    batch_first i m =
        elim (has-append_cases (option_to_list (previous (plan_of s) j) ++ option_to_list (host_before (plan_of s) j)) (idle_after (plan_of s) j) i m) [
          | inl a ↦ elim (has-append_cases (option_to_list (previous (plan_of s) j)) (option_to_list (host_before (plan_of s) j)) i a) [
            | inl b ↦ by_previous (last_in_lane j i (QueueLane q) (sym (at_job (λ x. x.previous) None j (batch_of q cs (map (renamed names) waits) (map (renamed names) signals)) is) ∙ in_option (previous (plan_of s) j) i b))
            | inr b ↦ by_host (last_in_lane j i HostLane (sym (at_job (λ x. x.host_before) None j (batch_of q cs (map (renamed names) waits) (map (renamed names) signals)) is) ∙ in_option (host_before (plan_of s) j) i b))
          ]
          | inr a ↦ absurd (false≢true (ap (λ xs. has xs i) (sym (at_job (λ x. x.idle_after) [] j (batch_of q cs (map (renamed names) waits) (map (renamed names) signals)) is)) ∙ a))
        ]
      where
        by_previous : (i < j) × (lane_at (plan_of s) i ≡ q + 1) → (i < j) × ((lane_at (plan_of s) i ≡ q + 1) ⊎ (lane_at (plan_of s) i ≡ 0))
        by_previous r = (r.0, inl r.1)

        by_host : (i < j) × (lane_at (plan_of s) i ≡ 0) → (i < j) × ((lane_at (plan_of s) i ≡ q + 1) ⊎ (lane_at (plan_of s) i ≡ 0))
        by_host r = (r.0, inr r.1)

    signal_is : (k : ℕ) (w : Wanted) (c : Kind) → AreApart (map (renamed names) signals) → slice_get (map (renamed names) signals) k ≡ Some w → KindStands s j w.timeline c → HasRoom c → value (plan_of s) (op + k) ≡ signal_value c w.value
    signal_is k w Closed a e h r = absurd h
    signal_is k w Timeline a e h r = (op_at_signal (op + k) w.timeline w.value j (batch_signal k w e) h).1
    signal_is k w (Binary c t) a e h r =
        let x : Signaling = record { job = j; line = 0; semaphore = w.timeline; value = w.value } in
        let l = get_within (map (renamed names) signals) k w e in
        let n = batch_count in
        let few : k ≤ length (job_signals (j, batch_of q cs (map (renamed names) waits) (map (renamed names) signals))) = omega arith in
        let front : count_by (signals_semaphore w.timeline) (take (op + k) (all_signals s)) ≡ counted_before s w.timeline j + 0 =
        ap (λ (i : ℕ). count_by (signals_semaphore w.timeline) (take (i + k) (all_signals s))) at
        ∙ counted_ops s w.timeline j k (batch_of q cs (map (renamed names) waits) (map (renamed names) signals)) is few
        ∙ ap (λ xs. counted_before s w.timeline j + count_by (signals_semaphore w.timeline) (take k xs)) batch_signals_are
        ∙ ap (λ (i : ℕ). counted_before s w.timeline j + i) (none_in_front j (map (renamed names) signals) k w a e) in
        let next = (next_is c h.1.1 r).0 in
        let count = h.1.0 in
        let same : count_by (signals_semaphore w.timeline) (take (op + k) (all_signals s)) + 1 ≡ next_number c = omega arith in
        op_value_is s (op + k) ∙ counted_value s (op + k) x (batch_signal k w e) h.0 ∙ same

    pub batch_job : (ks : List Kind) (named : List Wanted) → AreApart (map (renamed names) signals) → named ≡ map (signal_named ks) signals → AllAt (λ n. KindStands s j (names n) (kind_at ks n)) waits → AllAt (λ n. KindStands s j (names n) (kind_at ks n)) signals → AllAt (λ n. HasRoom (kind_at ks n)) signals → IsJob (plan_of s) (q + 1) (rename_asked names (record { waits = map (λ x. need_for x.wanted) (waits_named ks waits); commands = length cs; signals = named })) (record { job = j; command = first; op = op })
    batch_job ks named apart are w t r =
        let n : length (job_signals (j, batch_of q cs (map (renamed names) waits) (map (renamed names) signals))) ≡ length (map (renamed names) named) =
        batch_count ∙ length-map signals (renamed names) ∙ sym (length-map named (renamed names) ∙ ap length are ∙ length-map signals (signal_named ks)) in
        record {
          exists = exists_at j (batch_of q cs (map (renamed names) waits) (map (renamed names) signals)) is;
          in_lane = lane_is j (batch_of q cs (map (renamed names) waits) (map (renamed names) signals)) is;
          first = batch_first;
          any = at_job (λ x. x.any) false j (batch_of q cs (map (renamed names) waits) (map (renamed names) signals)) is;
          needed = at_job (λ x. x.needs) [] j (batch_of q cs (map (renamed names) waits) (map (renamed names) signals)) is ∙ waits_are ks waits w;
          commands = at_job (λ x. x.commands) [] j (batch_of q cs (map (renamed names) waits) (map (renamed names) signals)) is ∙ λ i. range_with_len (sym from i) (length cs);
          ops = at_job (λ x. x.signals) [] j (batch_of q cs (map (renamed names) waits) (map (renamed names) signals)) is ∙ job_ops_are s j (batch_of q cs (map (renamed names) waits) (map (renamed names) signals)) is ∙ λ i. range_with_len (sym at i) (n i);
          signal = signal;
          silent = ap is_silent (at_job (λ x. x.question) _ j (batch_of q cs (map (renamed names) waits) (map (renamed names) signals)) is);
        }
      where
        signal : (k : ℕ) (v : Wanted) → slice_get (map (renamed names) named) k ≡ Some v → (chain_of (plan_of s) (op + k) ≡ Some v.timeline) × (value (plan_of s) (op + k) ≡ v.value)
        signal k v e =
            let y = some_of (renamed names) (slice_get named k) v (sym (get-map (renamed names) named k) ∙ e) in
            let x = some_of (signal_named ks) (slice_get signals k) y.0 (sym (get-map (signal_named ks) signals k) ∙ ap (λ ws. slice_get ws k) (sym are) ∙ y.1) in
            let there = named_at_place signals k x.0 x.1 in
            let here : slice_get (map (renamed names) signals) k ≡ Some (renamed names x.0) = get-map (renamed names) signals k ∙ ap (option_map (renamed names)) x.1 in (
              op_chain_is s (op + k) ∙ ap (option_map (λ z. z.semaphore)) (batch_signal k (renamed names x.0) here) ∙ ap (λ (u : Wanted). Some (names u.timeline)) x.2 ∙ ap (λ (u : Wanted). Some u.timeline) y.2,
              signal_is k (renamed names x.0) (kind_at ks x.0.timeline) apart here (all_named (λ n. KindStands s j (names n) (kind_at ks n)) signals x.0.timeline t there) (all_named (λ n. HasRoom (kind_at ks n)) signals x.0.timeline r there)
                  ∙ ap (λ (u : Wanted). u.value) x.2
                  ∙ ap (λ (u : Wanted). u.value) y.2,
            )

  -- a host's signal
  module _ (j first op n v : ℕ) (is : slice_get s.jobs j ≡ Some (signal_of n v)) (at : op ≡ signals_before 0 s.jobs j) where
    host_first : (i : ℕ) → has (must_finish (plan_of s) j) i ≡ true → (i < j) × ((lane_at (plan_of s) i ≡ 0) ⊎ (lane_at (plan_of s) i ≡ 0))
    host_first i m =
        elim (has-append_cases (option_to_list (previous (plan_of s) j) ++ option_to_list (host_before (plan_of s) j)) (idle_after (plan_of s) j) i m) [
          | inl a ↦ elim (has-append_cases (option_to_list (previous (plan_of s) j)) (option_to_list (host_before (plan_of s) j)) i a) [
            | inl b ↦ by_previous (last_in_lane j i HostLane (sym (at_job (λ x. x.previous) None j (signal_of n v) is) ∙ in_option (previous (plan_of s) j) i b))
            | inr b ↦ absurd (none_is (sym (at_job (λ x. x.host_before) None j (signal_of n v) is) ∙ in_option (host_before (plan_of s) j) i b))
          ]
          | inr a ↦ absurd (false≢true (ap (λ xs. has xs i) (sym (at_job (λ x. x.idle_after) [] j (signal_of n v) is)) ∙ a))
        ]
      where
        none_is : None ≡ Some i → ⊥
        none_is e = cc

        by_previous : (i < j) × (lane_at (plan_of s) i ≡ 0) → (i < j) × ((lane_at (plan_of s) i ≡ 0) ⊎ (lane_at (plan_of s) i ≡ 0))
        by_previous r = (r.0, inl r.1)

    host_signal : slice_get (all_signals s) op ≡ Some (record { job = j; line = 0; semaphore = n; value = v })
    host_signal =
        let z : 0 + j ≡ j = omega arith in
        let y : op ≡ op + 0 = omega arith in
        let there = signal_at 0 s.jobs j (signal_of n v) 0 is (omega arith) in
        ap (slice_get (all_signals s)) y
        ∙ ap (λ (i : ℕ). slice_get (all_signals s) (i + 0)) at
        ∙ there
        ∙ ap (λ (i : ℕ). slice_get (job_signals (i, signal_of n v)) 0) z

    -- a timeline's value is the written one; the first signal of a binary semaphore has value 1
    pub host_value : is_timeline_at s n ≡ true → value (plan_of s) op ≡ v
    host_value t = (op_at_signal op n v j host_signal t).1

    pub host_first_value : is_timeline_at s n ≡ false → counted_before s n j ≡ 0 → value (plan_of s) op ≡ 1
    host_first_value t none =
        let x : Signaling = record { job = j; line = 0; semaphore = n; value = v } in
        let y : op ≡ signals_before 0 s.jobs j + 0 = omega arith in
        let front : count_by (signals_semaphore n) (take op (all_signals s)) ≡ counted_before s n j + 0 =
        ap (λ (i : ℕ). count_by (signals_semaphore n) (take i (all_signals s))) y ∙ counted_ops s n j 0 (signal_of n v) is (omega arith) in
        let one : count_by (signals_semaphore n) (take op (all_signals s)) + 1 ≡ 1 = omega arith in
        op_value_is s op ∙ counted_value s op x host_signal t ∙ one

    host_op : (u k : ℕ) (w : Wanted) → value (plan_of s) op ≡ u → slice_get (record { timeline = n; value = u } ∷ []) k ≡ Some w → (chain_of (plan_of s) (op + k) ≡ Some w.timeline) × (value (plan_of s) (op + k) ≡ w.value)
    host_op u zero w h e =
        let one : Wanted = record { timeline = n; value = u } in
        let same : one ≡ w = cc in
        let z : op + 0 ≡ op = omega arith in
        subst (λ (y : Wanted). (chain_of (plan_of s) (op + 0) ≡ Some y.timeline) × (value (plan_of s) (op + 0) ≡ y.value)) same
        (ap (chain_of (plan_of s)) z ∙ op_chain_is s op ∙ ap (option_map (λ y. y.semaphore)) host_signal, ap (value (plan_of s)) z ∙ h)
    host_op u (suc k) w h e = absurd (cc)

    pub host_job : (u : ℕ) → value (plan_of s) op ≡ u → IsJob (plan_of s) 0 (record { waits = []; commands = 0; signals = record { timeline = n; value = u } ∷ [] }) (record { job = j; command = first; op = op })
    host_job u h =
        record {
          exists = exists_at j (signal_of n v) is;
          in_lane = lane_is j (signal_of n v) is;
          first = host_first;
          any = at_job (λ x. x.any) false j (signal_of n v) is;
          needed = at_job (λ x. x.needs) [] j (signal_of n v) is;
          commands = at_job (λ x. x.commands) [] j (signal_of n v) is;
          ops = at_job (λ x. x.signals) [] j (signal_of n v) is ∙ job_ops_are s j (signal_of n v) is ∙ λ i. range_with_len (sym at i) 1;
          signal = λ k w e. host_op u k w h e;
          silent = ap is_silent (at_job (λ x. x.question) _ j (signal_of n v) is);
        }
