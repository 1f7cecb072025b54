-- The tasks of all programs are different: an event is that of one task at most.
use Rattle.std.proofs.Common.{◌≡◌, ℕ, zero, suc, ◌+◌, ◌&&◌, ◌||◌, Bool, true, false, not, if◌then◌else◌, List, [], ◌∷◌}
use Rattle.std.proofs.Common.{◌++◌, length, map, filter, Option, Some, None, refl, sym, subst, ap, ◌∙◌, ◌⊎◌, inl, inr}
use Rattle.std.proofs.Common.{arith, nat_lt, ◌==◌}
use Rattle.std.specs.List.{list_all, flat_map, range_with_len, enumerate_from, slice_get}
use Rattle.std.specs.Option.{option_map_or}
use Rattle.std.proofs.lemmas.Bool.{false≢true, eqb-true, ne_eqb}
use Rattle.std.proofs.lemmas.Option.{same_Some}
use Rattle.vq_ground.proofs.Filters.{filter-has_cases, rising_filter}
use Rattle.vq_ground.proofs.Numbers.{rising_range}
use Rattle.vq_model.specs.declared.script.ActorName.{ActorName}
use Rattle.vq_model.specs.declared.script.ActorName.TheVariants.{Host as HostActor, Submit as SubmitActor}
use Rattle.vq_model.specs.declared.script.ActorName.TheVariants.{Ring as RingActor}
use Rattle.vq_model.specs.declared.plan.Lane.{Lane}
use Rattle.vq_model.specs.declared.plan.Lane.TheVariants.{Host as HostLane, Queue as QueueLane}
use Rattle.vq_model.specs.declared.plan.PlanJob.{PlanJob}
use Rattle.vq_model.specs.declared.plan.Need.{Need}
use Rattle.vq_model.specs.declared.plan.Event.{Event}
use Rattle.vq_model.specs.declared.plan.Event.TheVariants.{Submit as Submits, Take as Takes, Release as Releases}
use Rattle.vq_model.specs.declared.plan.Event.TheVariants.{Bind as Binds, Start as Starts, Apply as Applies}
use Rattle.vq_model.specs.declared.plan.Event.TheVariants.{Signal as Signals, Finish as Finishes, Answer as AnswersAs}
use Rattle.vq_model.specs.Plan.{Plan, of_job, same_lane, is_host_lane, job_of, is_host_step, signals_of}
use Rattle.vq_ground.specs.Lists.{has, AreRising}
use Rattle.vq_model.specs.Plan.{commands_of, needs, asked, question, is_silent, waits_for_any, idle_after}
use Rattle.vq_model.specs.Edges.{AtEnd, awaited_at}
use Rattle.vq_model.specs.WellFormed.{IsWellFormed}
use Rattle.vq_ground.proofs.Lists.{has_here, has_there, has_cases, has-append_left, has-append_right, list_all_has}
use Rattle.vq_model.specs.ValidScripts.{is_immediate_queue}
use Rattle.vq_model.specs.Checks.{is_immediate_lane}
use Rattle.vq_point_laws.specs.Points.{jobs_of_lane}
use Rattle.vq_turns.specs.declared.task.Task.{Task}
use Rattle.vq_turns.specs.declared.task.Task.TheVariants.{AwaitSubmitted, AwaitReleased, AwaitFinished, AwaitBound}
use Rattle.vq_turns.specs.declared.task.Task.TheVariants.{AwaitNeeds, Submit, Take, Release, Bind, Start, Apply, Signal}
use Rattle.vq_turns.specs.declared.task.Task.TheVariants.{Compare, Answer, Finish}
use Rattle.vq_turns.specs.Programs.{program, waits_where, takes, moves_batch, submits_batch, runs_command, runs_batch}
use Rattle.vq_turns.specs.Programs.{host_waits, does_step, host_does}
use Rattle.vq_turn_laws.specs.PlanParts.{lane_of_job, HasOwnProgram}
use Rattle.vq_turn_laws.specs.Tasks.{AreApart, Differ, compares, IsOf, Among}
use Rattle.vq_turn_laws.proofs.ProgramLaws.{chain_or}

pub apart_behind : (xs ys : List Task) → AreApart (xs ++ ys) → AreApart ys
apart_behind [] ys k = k
apart_behind (x ∷ xs) ys k = apart_behind xs ys k.1

pub among_either : (u : Task) (xs ys : List Task) → Among u (xs ++ ys) → Among u xs ⊎ Among u ys
among_either u [] ys m = inr m
among_either u (x ∷ xs) ys (inl e) = inl (inl e)
among_either u (x ∷ xs) ys (inr m) = elim (among_either u xs ys m) [ inl r ↦ inl (inr r) | inr r ↦ inr r ]

apart_append : (xs ys : List Task) → AreApart xs → AreApart ys → ((t u : Task) → Among t xs → Among u ys → Differ t u) →
    AreApart (xs ++ ys)
apart_append [] ys k l f = l
apart_append (x ∷ xs) ys k l f = (
  λ u m. elim (among_either u xs ys m) [ inl a ↦ k.0 u a | inr b ↦ f x u (inl refl) b ],
  apart_append xs ys k.1 l (λ t u a b. f t u (inr a) b),
)

pub among_flat : (f : ℕ → List Task) (js : List ℕ) (t : Task) → Among t (flat_map f js) →
    (j : ℕ) × (has js j ≡ true) × Among t (f j)
among_flat f [] t m = absurd m
among_flat f (j ∷ js) t m =
    elim (among_either t (f j) (flat_map f js) m) [
      | inl a ↦ (j, has_here j js, a)
      | inr b ↦ let r = among_flat f js t b in (r.0, has_there j js r.0 r.1, r.2)
    ]

among_mapped : (f : ℕ → Task) (es : List ℕ) (t : Task) → Among t (map f es) → (e : ℕ) × (has es e ≡ true) × (f e ≡ t)
among_mapped f [] t m = absurd m
among_mapped f (e ∷ es) t (inl i) = (e, has_here e es, i)
among_mapped f (e ∷ es) t (inr m) = let r = among_mapped f es t m in (r.0, has_there e es r.0 r.1, r.2)

-- Events by kind

abbrev pub code : Event → ℕ
code (Submits j) = 0
code (Takes e q fresh) = 1
code (Releases j) = 2
code (Binds e q) = 3
code (Starts j) = 4
code (Applies j c) = 5
code (Signals e) = 6
code (AnswersAs j a) = 7
code (Finishes j) = 8
code other = 9

-- the job that an event is of
abbrev pub JobOf : Plan → Event → ℕ → Type 0
JobOf p (Submits i) j = i ≡ j
JobOf p (Takes e q fresh) j = job_of p e ≡ Some j
JobOf p (Releases i) j = i ≡ j
JobOf p (Binds e q) j = job_of p e ≡ Some j
JobOf p (Starts i) j = i ≡ j
JobOf p (Applies i c) j = has (commands_of p j) c ≡ true
JobOf p (Signals e) j = job_of p e ≡ Some j
JobOf p (Finishes i) j = i ≡ j
JobOf p (AnswersAs i a) j = i ≡ j
JobOf p other j = ⊥

pub one_job_of : (p : Plan) → IsWellFormed p → (x : Event) (i j : ℕ) → JobOf p x i → JobOf p x j → i ≡ j
one_job_of p wf (Submits k) i j a b = sym a ∙ b
one_job_of p wf (Takes e q fresh) i j a b = same_Some i j (sym a ∙ b)
one_job_of p wf (Releases k) i j a b = sym a ∙ b
one_job_of p wf (Binds e q) i j a b = same_Some i j (sym a ∙ b)
one_job_of p wf (Starts k) i j a b = sym a ∙ b
one_job_of p wf (Applies k c) i j a b = wf.one_job c i j a b
one_job_of p wf (Signals e) i j a b = same_Some i j (sym a ∙ b)
one_job_of p wf (Finishes k) i j a b = sym a ∙ b
one_job_of p wf (AnswersAs k z) i j a b = sym a ∙ b
one_job_of p wf other i j a b = absurd a

-- What an event of each kind of task is.

of_submit : (p : Plan) (x : Event) (j : ℕ) → IsOf x (Submit j) → JobOf p x j × (code x ≡ 0)
of_submit p (Submits i) j h = (h, refl)
of_submit p other j h = absurd h

of_take : (p : Plan) (x : Event) (e t j : ℕ) → job_of p e ≡ Some j → IsOf x (Take e t) → JobOf p x j × (code x ≡ 1)
of_take p (Takes f q fresh) e t j g h = (ap (job_of p) h ∙ g, refl)
of_take p other e t j g h = absurd h

of_release : (p : Plan) (x : Event) (j : ℕ) → IsOf x (Release j) → JobOf p x j × (code x ≡ 2)
of_release p (Releases i) j h = (h, refl)
of_release p other j h = absurd h

of_bind : (p : Plan) (x : Event) (e j : ℕ) → job_of p e ≡ Some j → IsOf x (Bind e) → JobOf p x j × (code x ≡ 3)
of_bind p (Binds f q) e j g h = (ap (job_of p) h ∙ g, refl)
of_bind p other e j g h = absurd h

of_start : (p : Plan) (x : Event) (j : ℕ) → IsOf x (Start j) → JobOf p x j × (code x ≡ 4)
of_start p (Starts i) j h = (h, refl)
of_start p other j h = absurd h

of_apply : (p : Plan) (x : Event) (j c : ℕ) → has (commands_of p j) c ≡ true → IsOf x (Apply j c) →
    JobOf p x j × (code x ≡ 5)
of_apply p (Applies i d) j c g h = (subst (λ (z : ℕ). has (commands_of p j) z ≡ true) (sym h) g, refl)
of_apply p other j c g h = absurd h

of_signal : (p : Plan) (x : Event) (e j : ℕ) → job_of p e ≡ Some j → IsOf x (Signal e) → JobOf p x j × (code x ≡ 6)
of_signal p (Signals f) e j g h = (ap (job_of p) h ∙ g, refl)
of_signal p other e j g h = absurd h

of_answer : (p : Plan) (x : Event) (j : ℕ) (asks : _) → IsOf x (Answer j asks) → JobOf p x j × (code x ≡ 7)
of_answer p (AnswersAs i a) j asks h = (h, refl)
of_answer p other j asks h = absurd h

of_finish : (p : Plan) (x : Event) (j : ℕ) → IsOf x (Finish j) → JobOf p x j × (code x ≡ 8)
of_finish p (Finishes i) j h = (h, refl)
of_finish p other j h = absurd h

no_submitted : (x : Event) (j : ℕ) → IsOf x (AwaitSubmitted j) → ⊥
no_submitted (Starts i) j h = h
no_submitted other j h = h

no_released : (x : Event) (j : ℕ) → IsOf x (AwaitReleased j) → ⊥
no_released (Starts i) j h = h
no_released other j h = h

no_finished : (x : Event) (j : ℕ) → IsOf x (AwaitFinished j) → ⊥
no_finished (Starts i) j h = h
no_finished other j h = h

no_bound : (x : Event) (e : ℕ) → IsOf x (AwaitBound e) → ⊥
no_bound (Starts i) e h = h
no_bound other e h = h

no_needs : (x : Event) (ns : _) → IsOf x (AwaitNeeds ns) → ⊥
no_needs (Starts i) ns h = h
no_needs other ns h = h

no_compare : (x : Event) (t v : ℕ) → IsOf x (Compare t v) → ⊥
no_compare (Starts i) t v h = h
no_compare other t v h = h

same_take : (x : Event) (e t f u : ℕ) → IsOf x (Take e t) → IsOf x (Take f u) → e ≡ f
same_take (Takes g q fresh) e t f u a b = sym a ∙ b
same_take other e t f u a b = absurd a

same_bind : (x : Event) (e f : ℕ) → IsOf x (Bind e) → IsOf x (Bind f) → e ≡ f
same_bind (Binds g q) e f a b = sym a ∙ b
same_bind other e f a b = absurd a

same_apply : (x : Event) (i c j d : ℕ) → IsOf x (Apply i c) → IsOf x (Apply j d) → c ≡ d
same_apply (Applies k e) i c j d a b = sym a ∙ b
same_apply other i c j d a b = absurd a

same_signal : (x : Event) (e f : ℕ) → IsOf x (Signal e) → IsOf x (Signal f) → e ≡ f
same_signal (Signals g) e f a b = sym a ∙ b
same_signal other e f a b = absurd a

-- A part of a job's program: its tasks are apart, and its events are of the job and of these kinds.
record Part (p : Plan) (j : ℕ) (ts : List Task) (codes : List ℕ) : Type 0 where
  apart : AreApart ts
  kinds : (t : Task) → Among t ts → (x : Event) → IsOf x t → JobOf p x j × (has codes (code x) ≡ true)

module _ (p : Plan) (wf : IsWellFormed p) (j : ℕ) where
  join : (xs ys : List Task) (cs ds : List ℕ) → Part p j xs cs → Part p j ys ds →
      list_all (λ c. not (has ds c)) cs ≡ true → Part p j (xs ++ ys) (cs ++ ds)
  join xs ys cs ds k l d =
      record {
        apart = apart_append xs ys k.apart l.apart
            (λ t u a b x m n. clash (has ds (code x)) (l.kinds u b x n).1
            (list_all_has (λ c. not (has ds c)) cs (code x) d (k.kinds t a x m).1));
        kinds = λ t m x h. elim (among_either t xs ys m) [
          | inl a ↦ let r = k.kinds t a x h in (r.0, has-append_left cs ds (code x) r.1)
          | inr b ↦ let r = l.kinds t b x h in (r.0, has-append_right cs ds (code x) r.1)
        ];
      }
    where
      clash : (b : Bool) → b ≡ true → not b ≡ true → ⊥
      clash true e n = false≢true n
      clash false e n = false≢true e

  no_events : (ts : List Task) → ((t : Task) → Among t ts → (x : Event) → IsOf x t → ⊥) → Part p j ts []
  no_events ts f = record { apart = all_apart ts f; kinds = λ t m x h. absurd (f t m x h) }
    where
      all_apart : (us : List Task) → ((t : Task) → Among t us → (x : Event) → IsOf x t → ⊥) → AreApart us
      all_apart [] g = tt
      all_apart (u ∷ us) g = (λ v m x a b. g u (inl refl) x a, all_apart us (λ t m. g t (inr m)))

  no_map : (f : ℕ → Task) (es : List ℕ) → ((e : ℕ) (x : Event) → IsOf x (f e) → ⊥) → Part p j (map f es) []
  no_map f es g = no_events (map f es)
      (λ t m x h. let r = among_mapped f es t m in g r.0 x (subst (IsOf x) (sym r.2) h))

  no_waits : (ns : List Need) → Part p j (map (λ n. AwaitNeeds (n ∷ [])) ns) []
  no_waits ns = no_events (map (λ n. AwaitNeeds (n ∷ [])) ns) (none ns)
    where
      none : (ms : List Need) (t : Task) → Among t (map (λ n. AwaitNeeds (n ∷ [])) ms) → (x : Event) → IsOf x t → ⊥
      none [] t m x h = m
      none (n ∷ ms) t (inl e) x h = no_needs x (n ∷ []) (subst (IsOf x) (sym e) h)
      none (n ∷ ms) t (inr m) x h = none ms t m x h

  no_compares : (ns : List Need) → Part p j (compares ns) []
  no_compares ns = no_events (compares ns) (none ns)
    where
      none : (ms : List Need) (t : Task) → Among t (compares ms) → (x : Event) → IsOf x t → ⊥
      none [] t m x h = m
      none (n ∷ ms) t (inl e) x h = no_compare x n.chain n.value (subst (IsOf x) (sym e) h)
      none (n ∷ ms) t (inr m) x h = none ms t m x h

  one_task : (t : Task) (c : ℕ) → ((x : Event) → IsOf x t → JobOf p x j × (code x ≡ c)) → Part p j (t ∷ []) (c ∷ [])
  one_task t c f =
      record {
        apart = (λ u m. absurd m, tt);
        kinds = λ u m x h. elim m [
          | inl e ↦ let r = f x (subst (IsOf x) (sym e) h) in
              (r.0, subst (λ (z : ℕ). has (c ∷ []) z ≡ true) (sym r.1) (has_here c []))
          | inr o ↦ absurd o
        ];
      }

  mapped_tasks : (f : ℕ → Task) (c : ℕ) (es : List ℕ) → AreRising es →
      ((e : ℕ) → has es e ≡ true → (x : Event) → IsOf x (f e) → JobOf p x j × (code x ≡ c)) →
      ((e g : ℕ) (x : Event) → IsOf x (f e) → IsOf x (f g) → e ≡ g) → Part p j (map f es) (c ∷ [])
  mapped_tasks f c es rising k s =
      record {
        apart = all_apart es rising;
        kinds = λ t m x h.
            let r = among_mapped f es t m in
            let q = k r.0 r.1 x (subst (IsOf x) (sym r.2) h) in
            (q.0, subst (λ (z : ℕ). has (c ∷ []) z ≡ true) (sym q.1) (has_here c []));
      }
    where
      all_apart : (gs : List ℕ) → AreRising gs → AreApart (map f gs)
      all_apart [] r = tt
      all_apart (g ∷ gs) r = (
        λ u m x a b.
            let q = among_mapped f gs u m in
            let same : g ≡ q.0 = s g q.0 x a (subst (IsOf x) (sym q.2) b) in
            let less = r.0 q.0 q.1 in
            omega arith,
        all_apart gs r.1,
      )

  job_of_signal : (e : ℕ) → has (signals_of p j) e ≡ true → job_of p e ≡ Some j
  job_of_signal e m = wf.of_job e j m

  takes_tasks : Part p j (takes p j) (1 ∷ [])
  takes_tasks = mapped_tasks (λ e. Take e (chain_or p e)) 1 (signals_of p j) (wf.signals j)
      (λ e m x h. of_take p x e (chain_or p e) j (job_of_signal e m) h)
      (λ e g x a b. same_take x e (chain_or p e) g (chain_or p g) a b)

  binds_tasks : Part p j (map Bind (signals_of p j)) (3 ∷ [])
  binds_tasks = mapped_tasks Bind 3 (signals_of p j) (wf.signals j) (λ e m x h. of_bind p x e j (job_of_signal e m) h)
      (λ e g x a b. same_bind x e g a b)

  signals_tasks : Part p j (map Signal (signals_of p j)) (6 ∷ [])
  signals_tasks = mapped_tasks Signal 6 (signals_of p j) (wf.signals j)
      (λ e m x h. of_signal p x e j (job_of_signal e m) h) (λ e g x a b. same_signal x e g a b)

  moves_tasks : Part p j (moves_batch p j) (1 ∷ 2 ∷ 3 ∷ [])
  moves_tasks =
      let ws : List Task = map AwaitBound (awaited_at p j AtEnd) in
      let ts : List Task = takes p j in
      join (ws ++ ts ++ Release j ∷ []) (map Bind (signals_of p j)) (1 ∷ 2 ∷ []) (3 ∷ [])
      (join (ws ++ ts) (Release j ∷ []) (1 ∷ []) (2 ∷ [])
      (join ws ts [] (1 ∷ []) (no_map AwaitBound (awaited_at p j AtEnd) (λ e x h. no_bound x e h)) takes_tasks refl)
      (one_task (Release j) 2 (λ x h. of_release p x j h)) refl)
      binds_tasks refl

  submits_tasks : Part p j (submits_batch p j) (1 ∷ 2 ∷ 3 ∷ [])
  submits_tasks =
      join (AwaitSubmitted j ∷ []) (moves_batch p j) [] (1 ∷ 2 ∷ 3 ∷ [])
      (no_events (AwaitSubmitted j ∷ []) (λ t m x h. elim m [
        | inl e ↦ no_submitted x j (subst (IsOf x) (sym e) h)
        | inr o ↦ o
      ])) moves_tasks refl

  -- a command of those that are left
  in_commands : (cs : List ℕ) (k : ℕ) (t : Task) → Among t (flat_map (runs_command p j) (enumerate_from k cs)) →
      (x : Event) → IsOf x t → (c : ℕ) × (has cs c ≡ true) × IsOf x (Apply j c)
  in_commands [] k t m x h = absurd m
  in_commands (c ∷ cs) k t m x h =
      let ws : List Task = waits_where p j (λ n. nat_lt 1 k && (n.from == k)) in
      elim (among_either t (ws ++ Apply j c ∷ []) (flat_map (runs_command p j) (enumerate_from (k + 1) cs)) m) [
        | inl a ↦ elim (among_either t ws (Apply j c ∷ []) a) [
          | inl u ↦ absurd (false≢true
              ((no_waits (filter (λ n. nat_lt 1 k && (n.from == k)) (needs p j))).kinds t u x h).1)
          | inr v ↦ elim v [ inl e ↦ (c, has_here c cs, subst (IsOf x) (sym e) h) | inr o ↦ absurd o ]
        ]
        | inr b ↦ let r = in_commands cs (k + 1) t b x h in (r.0, has_there c cs r.0 r.1, r.2)
      ]

  commands_apart : (cs : List ℕ) (k : ℕ) → AreRising cs → AreApart (flat_map (runs_command p j) (enumerate_from k cs))
  commands_apart [] k r = tt
  commands_apart (c ∷ cs) k r =
      let ws : List Task = waits_where p j (λ n. nat_lt 1 k && (n.from == k)) in
      let waits = no_waits (filter (λ n. nat_lt 1 k && (n.from == k)) (needs p j)) in
      apart_append (ws ++ Apply j c ∷ []) (flat_map (runs_command p j) (enumerate_from (k + 1) cs))
      (apart_append ws (Apply j c ∷ []) waits.apart (λ u m. absurd m, tt)
      (λ t u a b x m n. false≢true (waits.kinds t a x m).1))
      (commands_apart cs (k + 1) r.1)
      (λ t u a b x m n.
      let q = in_commands cs (k + 1) u b x n in
      elim (among_either t ws (Apply j c ∷ []) a) [
        | inl v ↦ false≢true (waits.kinds t v x m).1
        | inr v ↦ elim v [
          | inl e ↦
              let same : c ≡ q.0 = same_apply x j c j q.0 (subst (IsOf x) (sym e) m) q.2 in
              let less = r.0 q.0 q.1 in
              omega arith
          | inr o ↦ o
        ]
      ])

  commands_tasks : Part p j (flat_map (runs_command p j) (enumerate_from 1 (commands_of p j))) (5 ∷ [])
  commands_tasks =
      record {
        apart = commands_apart (commands_of p j) 1 (wf.commands j);
        kinds = λ t m x h.
            let r = in_commands (commands_of p j) 1 t m x h in
            let q = of_apply p x j r.0 r.1 r.2 in
            (q.0, subst (λ (z : ℕ). has (5 ∷ []) z ≡ true) (sym q.1) refl);
      }

  runs_tasks : Part p j (runs_batch p j) (4 ∷ 5 ∷ 6 ∷ 8 ∷ [])
  runs_tasks =
      let a : List Task = AwaitReleased j ∷ [] in
      let b : List Task = waits_where p j (λ n. n.from == 1) in
      let c : List Task = Start j ∷ [] in
      let d : List Task = flat_map (runs_command p j) (enumerate_from 1 (commands_of p j)) in
      let e : List Task = waits_where p j (λ n. nat_lt 1 n.from && nat_lt (length (commands_of p j)) n.from) in
      let f : List Task = map Signal (signals_of p j) in
      join (a ++ b ++ c ++ d ++ e ++ f) (Finish j ∷ []) (4 ∷ 5 ∷ 6 ∷ []) (8 ∷ [])
      (join (a ++ b ++ c ++ d ++ e) f (4 ∷ 5 ∷ []) (6 ∷ [])
      (join (a ++ b ++ c ++ d) e (4 ∷ 5 ∷ []) []
      (join (a ++ b ++ c) d (4 ∷ []) (5 ∷ [])
      (join (a ++ b) c [] (4 ∷ [])
      (join a b [] [] (no_events a (λ t m x h. elim m [
        | inl e ↦ no_released x j (subst (IsOf x) (sym e) h)
        | inr o ↦ o
      ])) (no_waits (filter (λ n. n.from == 1) (needs p j))) refl)
      (one_task (Start j) 4 (λ x h. of_start p x j h)) refl)
      commands_tasks refl)
      (no_waits (filter (λ n. nat_lt 1 n.from && nat_lt (length (commands_of p j)) n.from) (needs p j))) refl)
      signals_tasks refl)
      (one_task (Finish j) 8 (λ x h. of_finish p x j h)) refl

  host_waits_tasks : (b : Bool) → Part p j (if b then AwaitNeeds (needs p j) ∷ [] else waits_where p j (λ n. true)) []
  host_waits_tasks true = no_events (AwaitNeeds (needs p j) ∷ []) (λ t m x h. elim m [
    | inl e ↦ no_needs x (needs p j) (subst (IsOf x) (sym e) h)
    | inr o ↦ o
  ])
  host_waits_tasks false = no_waits (filter (λ n. true) (needs p j))

  answer_tasks : (b : Bool) → Part p j (if b then [] else Answer j (question p j) ∷ []) (7 ∷ [])
  answer_tasks true = record { apart = tt; kinds = λ t m. absurd m }
  answer_tasks false = one_task (Answer j (question p j)) 7 (λ x h. of_answer p x j (question p j) h)

  does_tasks : Part p j (does_step p j) (4 ∷ 1 ∷ 3 ∷ 6 ∷ 7 ∷ 8 ∷ [])
  does_tasks =
      let a : List Task = host_waits p j in
      let b : List Task = map AwaitFinished (idle_after p j) in
      let c : List Task = Start j ∷ [] in
      let d : List Task = takes p j in
      let e : List Task = map Bind (signals_of p j) in
      let f : List Task = map Signal (signals_of p j) in
      let g : List Task = compares (asked p j) in
      let h : List Task = if is_silent (question p j) then [] else Answer j (question p j) ∷ [] in
      join (a ++ b ++ c ++ d ++ e ++ f ++ g ++ h) (Finish j ∷ []) (4 ∷ 1 ∷ 3 ∷ 6 ∷ 7 ∷ []) (8 ∷ [])
      (join (a ++ b ++ c ++ d ++ e ++ f ++ g) h (4 ∷ 1 ∷ 3 ∷ 6 ∷ []) (7 ∷ [])
      (join (a ++ b ++ c ++ d ++ e ++ f) g (4 ∷ 1 ∷ 3 ∷ 6 ∷ []) []
      (join (a ++ b ++ c ++ d ++ e) f (4 ∷ 1 ∷ 3 ∷ []) (6 ∷ [])
      (join (a ++ b ++ c ++ d) e (4 ∷ 1 ∷ []) (3 ∷ [])
      (join (a ++ b ++ c) d (4 ∷ []) (1 ∷ [])
      (join (a ++ b) c [] (4 ∷ [])
      (join a b [] [] (host_waits_tasks (waits_for_any p j))
      (no_map AwaitFinished (idle_after p j) (λ i x m. no_finished x i m)) refl)
      (one_task (Start j) 4 (λ x m. of_start p x j m)) refl)
      takes_tasks refl)
      binds_tasks refl)
      signals_tasks refl)
      (no_compares (asked p j)) refl)
      (answer_tasks (is_silent (question p j))) refl)
      (one_task (Finish j) 8 (λ x m. of_finish p x j m)) refl

  moved_tasks : (b : Bool) → Part p j (if b then moves_batch p j else []) (1 ∷ 2 ∷ 3 ∷ [])
  moved_tasks true = moves_tasks
  moved_tasks false = record { apart = tt; kinds = λ t m. absurd m }

  abbrev all_codes : List ℕ
  all_codes = 0 ∷ 1 ∷ 2 ∷ 3 ∷ 4 ∷ 5 ∷ 6 ∷ 7 ∷ 8 ∷ []

  batch_tasks : (b : Bool) → Part p j (Submit j ∷ (if b then moves_batch p j else [])) (0 ∷ 1 ∷ 2 ∷ 3 ∷ [])
  batch_tasks b = join (Submit j ∷ []) (if b then moves_batch p j else []) (0 ∷ []) (1 ∷ 2 ∷ 3 ∷ [])
      (one_task (Submit j) 0 (λ x h. of_submit p x j h)) (moved_tasks b) refl

  host_apart : (b : Bool) →
      AreApart (if b then does_step p j else Submit j ∷
      (if of_job (λ x. is_immediate_lane p x.lane) false p j then moves_batch p j else []))
  host_apart true = does_tasks.apart
  host_apart false = (batch_tasks (of_job (λ x. is_immediate_lane p x.lane) false p j)).apart

  host_job : (b : Bool) (t : Task) →
      Among t (if b then does_step p j else Submit j ∷
      (if of_job (λ x. is_immediate_lane p x.lane) false p j then moves_batch p j else [])) → (x : Event) → IsOf x t →
      JobOf p x j
  host_job true t m x h = (does_tasks.kinds t m x h).0
  host_job false t m x h = ((batch_tasks (of_job (λ x. is_immediate_lane p x.lane) false p j)).kinds t m x h).0

-- Jobs one after another

module _ (p : Plan) (wf : IsWellFormed p) where
  flat_apart : (f : ℕ → List Task) → ((j : ℕ) → AreApart (f j)) →
      ((j : ℕ) (t : Task) → Among t (f j) → (x : Event) → IsOf x t → JobOf p x j) → (js : List ℕ) → AreRising js →
      AreApart (flat_map f js)
  flat_apart f k o [] r = tt
  flat_apart f k o (j ∷ js) r =
      apart_append (f j) (flat_map f js) (k j) (flat_apart f k o js r.1) (λ t u a b x m n.
      let q = among_flat f js u b in
      let same : j ≡ q.0 = one_job_of p wf x j q.0 (o j t a x m) (o q.0 u q.2 x n) in
      let less = r.0 q.0 q.1 in
      omega arith)

  pub lane_rises : (lane : Lane) → AreRising (jobs_of_lane p lane)
  lane_rises lane = rising_filter _ (range_with_len 0 (length p.jobs)) (rising_range (length p.jobs) 0)

  -- In each program the tasks are apart.
  pub program_apart : (a : ActorName) → AreApart (program p a)
  program_apart HostActor = flat_apart (host_does p) (λ j. host_apart p wf j (is_host_step p j))
      (λ j t m x h. host_job p wf j (is_host_step p j) t m x h) (range_with_len 0 (length p.jobs))
      (rising_range (length p.jobs) 0)
  program_apart (SubmitActor q) = flat_apart (submits_batch p) (λ j. (submits_tasks p wf j).apart)
      (λ j t m x h. ((submits_tasks p wf j).kinds t m x h).0) (jobs_of_lane p (QueueLane q)) (lane_rises (QueueLane q))
  program_apart (RingActor q) = flat_apart (runs_batch p) (λ j. (runs_tasks p wf j).apart)
      (λ j t m x h. ((runs_tasks p wf j).kinds t m x h).0) (jobs_of_lane p (QueueLane q)) (lane_rises (QueueLane q))

-- Whose an event is

-- the actor of an event of this kind in this lane
abbrev pub owner_in : Plan → Lane → ℕ → ActorName
owner_in p HostLane c = HostActor
owner_in p (QueueLane q) c = if has (0 ∷ []) c then HostActor else if has (1 ∷ 2 ∷ 3 ∷ []) c then
    (if is_immediate_queue p.script q then HostActor else SubmitActor q) else RingActor q

record Owned (p : Plan) (x : Event) (a : ActorName) : Type 0 where
  job : ℕ
  of_job : JobOf p x job
  owner : owner_in p (lane_of_job p job) (code x) ≡ a

module _ (p : Plan) (wf : IsWellFormed p) where
  pub in_queue : (q j : ℕ) → has (jobs_of_lane p (QueueLane q)) j ≡ true → lane_of_job p j ≡ QueueLane q
  in_queue q j m = by_job (slice_get p.jobs j)
      (filter-has_cases (λ i. of_job (λ x. same_lane (QueueLane q) x.lane) false p i)
      (range_with_len 0 (length p.jobs)) j m).1
    where
      by_lane : (l : Lane) → same_lane (QueueLane q) l ≡ true → l ≡ QueueLane q
      by_lane HostLane h = absurd (false≢true h)
      by_lane (QueueLane r) h = ap (λ (z : ℕ). QueueLane z) (sym (eqb-true q r h))

      by_job : (o : Option PlanJob) → option_map_or (λ x. same_lane (QueueLane q) x.lane) o false ≡ true →
          option_map_or (λ x. x.lane) o HostLane ≡ QueueLane q
      by_job None h = absurd (false≢true h)
      by_job (Some x) h = by_lane x.lane h

  pub host_lane : (j : ℕ) → is_host_step p j ≡ true → lane_of_job p j ≡ HostLane
  host_lane j h = by_job (slice_get p.jobs j) h
    where
      by_lane : (l : Lane) → is_host_lane l ≡ true → l ≡ HostLane
      by_lane HostLane h = refl
      by_lane (QueueLane r) h = absurd (false≢true h)

      by_job : (o : Option PlanJob) → option_map_or (λ x. is_host_lane x.lane) o false ≡ true →
          option_map_or (λ x. x.lane) o HostLane ≡ HostLane
      by_job None h = absurd (false≢true h)
      by_job (Some x) h = by_lane x.lane h

  one_code : (c n : ℕ) → has (c ∷ []) n ≡ true → n ≡ c
  one_code c n m = elim (has_cases c [] n m) [ inl e ↦ sym e | inr o ↦ absurd (false≢true o) ]

  submits_own : (l : Lane) (c : ℕ) → has (0 ∷ []) c ≡ true → owner_in p l c ≡ HostActor
  submits_own HostLane c m = refl
  submits_own (QueueLane q) c m = ap
      (λ (b : Bool). if b then HostActor else if has (1 ∷ 2 ∷ 3 ∷ []) c then
      (if is_immediate_queue p.script q then HostActor else SubmitActor q) else RingActor q) m

  moved_own : (l : Lane) (c : ℕ) → is_immediate_lane p l ≡ true → has (1 ∷ 2 ∷ 3 ∷ []) c ≡ true →
      owner_in p l c ≡ HostActor
  moved_own HostLane c i m = refl
  moved_own (QueueLane q) c i m = either (has (0 ∷ []) c)
    where
      either : (b : Bool) →
          (if b then HostActor else if has (1 ∷ 2 ∷ 3 ∷ []) c then
          (if is_immediate_queue p.script q then HostActor else SubmitActor q) else RingActor q) ≡ HostActor
      either true = refl
      either false =
          ap (λ (b : Bool). if b then
          (if is_immediate_queue p.script q then HostActor else SubmitActor q) else RingActor q) m
          ∙ ap (λ (b : Bool). if b then HostActor else SubmitActor q) i

  submit_own : (q c : ℕ) → is_immediate_queue p.script q ≡ false → has (1 ∷ 2 ∷ 3 ∷ []) c ≡ true →
      owner_in p (QueueLane q) c ≡ SubmitActor q
  submit_own q c i m =
      ap (λ (b : Bool). if b then HostActor else if has (1 ∷ 2 ∷ 3 ∷ []) c then
      (if is_immediate_queue p.script q then HostActor else SubmitActor q) else RingActor q) (not_zero c m)
      ∙ (ap (λ (b : Bool). if b then
      (if is_immediate_queue p.script q then HostActor else SubmitActor q) else RingActor q) m
      ∙ ap (λ (b : Bool). if b then HostActor else SubmitActor q) i)
    where
      not_zero : (n : ℕ) → has (1 ∷ 2 ∷ 3 ∷ []) n ≡ true → has (0 ∷ []) n ≡ false
      not_zero zero m = absurd (false≢true m)
      not_zero (suc n) m = ap (λ b. b || false) (ne_eqb 0 (suc n) (λ e. omega arith))

  ring_own : (q c : ℕ) → has (4 ∷ 5 ∷ 6 ∷ 8 ∷ []) c ≡ true → owner_in p (QueueLane q) c ≡ RingActor q
  ring_own q c m =
      elim (has_cases 4 (5 ∷ 6 ∷ 8 ∷ []) c m) [
        | inl e ↦ subst (λ (z : ℕ). owner_in p (QueueLane q) z ≡ RingActor q) e refl
        | inr r ↦ elim (has_cases 5 (6 ∷ 8 ∷ []) c r) [
          | inl e ↦ subst (λ (z : ℕ). owner_in p (QueueLane q) z ≡ RingActor q) e refl
          | inr s ↦ elim (has_cases 6 (8 ∷ []) c s) [
            | inl e ↦ subst (λ (z : ℕ). owner_in p (QueueLane q) z ≡ RingActor q) e refl
            | inr t ↦ elim (has_cases 8 [] c t) [
              | inl e ↦ subst (λ (z : ℕ). owner_in p (QueueLane q) z ≡ RingActor q) e refl
              | inr o ↦ absurd (false≢true o)
            ]
          ]
        ]
      ]

  owned : (a : ActorName) → HasOwnProgram p a → (t : Task) → Among t (program p a) → (x : Event) → IsOf x t →
      Owned p x a
  owned (SubmitActor q) act t m x h =
      let r = among_flat (submits_batch p) (jobs_of_lane p (QueueLane q)) t m in
      let k = (submits_tasks p wf r.0).kinds t r.2 x h in
      record {
        job = r.0;
        of_job = k.0;
        owner = ap (λ l. owner_in p l (code x)) (in_queue q r.0 r.1) ∙ submit_own q
            (code x) act k.1;
      }
  owned (RingActor q) act t m x h =
      let r = among_flat (runs_batch p) (jobs_of_lane p (QueueLane q)) t m in
      let k = (runs_tasks p wf r.0).kinds t r.2 x h in
      record {
        job = r.0;
        of_job = k.0;
        owner = ap (λ l. owner_in p l (code x)) (in_queue q r.0 r.1) ∙ ring_own q
            (code x) k.1;
      }
  owned HostActor act t m x h =
      let r = among_flat (host_does p) (range_with_len 0 (length p.jobs)) t m in
      by_host r.0 (is_host_step p r.0) refl r.2
    where
      by_moved : (j : ℕ) (b : Bool) → of_job (λ y. is_immediate_lane p y.lane) false p j ≡ b →
          Among t (Submit j ∷ (if b then moves_batch p j else [])) → Owned p x HostActor
      by_moved j b e (inl i) =
          let k = of_submit p x j (subst (IsOf x) (sym i) h) in
          record {
            job = j;
            of_job = k.0;
            owner = submits_own (lane_of_job p j) (code x)
                (subst (λ (z : ℕ). has (0 ∷ []) z ≡ true) (sym k.1) refl);
          }
      by_moved j false e (inr m) = absurd m
      by_moved j true e (inr m) =
          let k = (moves_tasks p wf j).kinds t m x h in
          record {
            job = j;
            of_job = k.0;
            owner = moved_own (lane_of_job p j) (code x)
                (by_job (slice_get p.jobs j) e) k.1;
          }
        where
          by_job : (o : Option PlanJob) → option_map_or (λ y. is_immediate_lane p y.lane) o false ≡ true →
              is_immediate_lane p (option_map_or (λ y. y.lane) o HostLane) ≡ true
          by_job None g = absurd (false≢true g)
          by_job (Some y) g = g

      by_host : (j : ℕ) (b : Bool) → is_host_step p j ≡ b →
          Among t (if b then does_step p j else Submit j ∷
          (if of_job (λ y. is_immediate_lane p y.lane) false p j then moves_batch p j else [])) → Owned p x HostActor
      by_host j true e m =
          record {
            job = j;
            of_job = ((does_tasks p wf j).kinds t m x h).0;
            owner = ap (λ l. owner_in p l (code x))
                (host_lane j e);
          }
      by_host j false e m = by_moved j (of_job (λ y. is_immediate_lane p y.lane) false p j) refl m

  -- An event is that of a task in one program only.
  pub programs_apart : (a b : ActorName) → HasOwnProgram p a → HasOwnProgram p b → (t u : Task) →
      Among t (program p a) → Among u (program p b) → (x : Event) → IsOf x t → IsOf x u → a ≡ b
  programs_apart a b i j t u m n x g h =
      let k = owned a i t m x g in
      let l = owned b j u n x h in
      let same : k.job ≡ l.job = one_job_of p wf x k.job l.job k.of_job l.of_job in
      sym k.owner ∙ (ap (λ (z : ℕ). owner_in p (lane_of_job p z) (code x)) same ∙ l.owner)
