-- Openings in a tale: the new number stands for the script's next semaphore, and what is opened signaled is signaled by
-- the host.
use Rattle.std.proofs.Common.{◌≡◌, ◌⊎◌, ℕ, suc, ◌+◌, ◌<◌, ◌≤◌, true, false, List, [], ◌∷◌, length, drop, option_map, Option, Some, None, inl, inr, refl, sym, ap, ◌∙◌, subst, arith}
use Rattle.std.specs.Prelude.{nat_lt, if◌then◌else◌}
use Rattle.std.specs.List.{slice_get, filter_map, cons_option}
use Rattle.std.specs.Option.{option_map_or}
use Rattle.std.proofs.lemmas.Bool.{cases_eq}
use Rattle.vq_model.specs.declared.script.Script.{Script}
use Rattle.vq_model.specs.declared.script.Semaphore.{Semaphore}
use Rattle.vq_model.specs.declared.script.Job.{Job}
use Rattle.vq_model.specs.Plan.{initial}
use Rattle.vq_model.specs.Signals.{is_timeline_at, initial_value}
use Rattle.vq_model.specs.Context.{is_timeline}
use Rattle.vq_model.specs.Lowering.{plan_of}
use Rattle.vq_model.specs.Machine.{State, put}
use Rattle.vq_model.proofs.Puts.{put_here, put_there}
use Rattle.vq_ground.proofs.Gets.{get-map}
use Rattle.vq_live.specs.Live.{Live, opened}
use Rattle.vq_layer.specs.declared.answers.Kind.TheVariants.{Closed, Timeline, Binary}
use Rattle.vq_layer.specs.declared.answers.Kind.{Kind}
use Rattle.vq_layer.specs.Layer.{live_at, kind_at, queue_at}
use Rattle.vq_layer.specs.Names.{is_closed}
use Rattle.vq_layer.specs.Calls.{free_number, put_at, after_open}
use Rattle.vq_layer_laws.specs.Lived.{HaveLived}
use Rattle.vq_layer_laws.specs.Runs.{opens, opens_binary}
use Rattle.vq_layer_laws.proofs.Cited.{put_count, lived_call}
use Rattle.vq_layer_machine.specs.Tales.{Work, Told, Place, Scene, layer_called, tried_in, after_place, after_told}
use Rattle.vq_layer_machine.specs.Scripts.{jobs_from, job_told, semaphore_told, signal_of, timeline_of, binary_told}
use Rattle.vq_layer_machine.proofs.Jobs.{IsJob, host_job, host_first_value}
use Rattle.vq_layer_machine.proofs.Layers.{asked_in, put_read, put_other, named_weaker, free_within}
use Rattle.vq_layer_machine.proofs.Counted.{counted_before, host_uncounted, host_counted}
use Rattle.vq_layer_machine.proofs.Standing.{KindStands}
use Rattle.vq_layer_machine.proofs.Tried.{KindNear, near_same, near_stands, numbered, SomeCarries, Tries, KeptNumber, ClearNumber, tries_kept, carried_at}
use Rattle.vq_layer_machine.proofs.Ties.{IsOpen, KeepsNames, Ties, put_each}
use Rattle.vq_layer_machine.proofs.Calls.{opened_scene, not_free, open_before, open_told, host_goes}
use Rattle.vq_layer_machine.proofs.Going.{Stands, Next, next_job, Follows, next_at_drop}

module _ (work : Work) (s : Script) (sc : Scene) (st : State) (tale : List Told) (keeps : KeepsNames work sc) (ties : Ties work (plan_of s) sc st.progress) where
  -- Openings

  pub next_semaphore : (x : Semaphore) (t : Told) → semaphore_told t ≡ Some x → Stands work s sc (t ∷ tale) → (slice_get s.semaphores sc.opened ≡ Some x) × (drop (sc.opened + 1) s.semaphores ≡ filter_map semaphore_told tale)
  next_semaphore x t told k =
      let first = k.semaphores ∙ ap (λ (o : Option Semaphore). cons_option o (filter_map semaphore_told tale)) told in
      let both = next_at_drop s.semaphores (filter_map semaphore_told tale) sc.opened x first in
      let one : sc.opened + 1 ≡ suc sc.opened = omega arith in
      (both.0, ap (λ (n : ℕ). drop n s.semaphores) one ∙ both.1)

  pub starts_at : (x : Semaphore) → slice_get s.semaphores sc.opened ≡ Some x → initial (plan_of s) sc.opened ≡ initial_value x.kind
  starts_at x e =
      ap (λ (o : Option ℕ). option_map_or (λ y. y) o 0) (get-map (λ y. initial_value y.kind) s.semaphores sc.opened)
      ∙ ap (λ (o : Option Semaphore). option_map_or (λ y. y) (option_map (λ y. initial_value y.kind) o) 0) e

  pub kind_there : (x : Semaphore) → slice_get s.semaphores sc.opened ≡ Some x → is_timeline_at s sc.opened ≡ is_timeline x.kind
  kind_there x e = ap (λ (o : Option Semaphore). option_map_or is_timeline (option_map (λ y. y.kind) o) false) e

  within : free_number sc.layer ≤ length sc.layer.kinds
  within = let l = free_within 0 sc.layer.kinds in omega arith

  module _ (v : ℕ) (kind : Kind) where
    before : (n : ℕ) → (n ≡ free_number sc.layer → ⊥) → IsOpen (after_open sc.layer (opened v) kind) n → IsOpen sc.layer n
    before n ne o = open_before work (plan_of s) sc keeps st ties v kind n ne o

    still_open : (n : ℕ) → IsOpen sc.layer n → IsOpen (after_open sc.layer (opened v) kind) n
    still_open n o = ap is_closed (put_other sc.layer.kinds (free_number sc.layer) n kind Closed within (not_free work (plan_of s) sc keeps st ties n o)) ∙ o

    -- the new name is above the others
    one_name : (a b : ℕ) → IsOpen (after_open sc.layer (opened v) kind) a → IsOpen (after_open sc.layer (opened v) kind) b → put sc.names (free_number sc.layer) sc.opened a ≡ put sc.names (free_number sc.layer) sc.opened b → a ≡ b
    one_name a b oa ob e = by_places (cases_eq a (free_number sc.layer)) (cases_eq b (free_number sc.layer))
      where
        at : (n : ℕ) → n ≡ free_number sc.layer → put sc.names (free_number sc.layer) sc.opened n ≡ sc.opened
        at n q = ap (put sc.names (free_number sc.layer) sc.opened) q ∙ put_here sc.names (free_number sc.layer) sc.opened

        by_places : (a ≡ free_number sc.layer) ⊎ (a ≡ free_number sc.layer → ⊥) → (b ≡ free_number sc.layer) ⊎ (b ≡ free_number sc.layer → ⊥) → a ≡ b
        by_places (inl q) (inl r) = q ∙ sym r
        by_places (inl q) (inr r) =
            let x = at a q in let y = put_there sc.names (free_number sc.layer) sc.opened b r in let l = keeps.known b (before b r ob) in absurd (omega arith)
        by_places (inr q) (inl r) =
            let x = at b r in let y = put_there sc.names (free_number sc.layer) sc.opened a q in let l = keeps.known a (before a q oa) in absurd (omega arith)
        by_places (inr q) (inr r) =
            keeps.one_each a b (before a q oa) (before b r ob) (sym (put_there sc.names (free_number sc.layer) sc.opened a q) ∙ e ∙ put_there sc.names (free_number sc.layer) sc.opened b r)

    open_kept : HaveLived (after_open sc.layer (opened v) kind).timelines → KeepsNames work (opened_scene sc v kind)
    open_kept lived = record {
      same =
          put_count sc.layer.kinds (free_number sc.layer) kind
          ∙ ap (λ (n : ℕ). if nat_lt (free_number sc.layer) n then n else n + 1) keeps.same
          ∙ sym (put_count sc.layer.timelines (free_number sc.layer) (opened v));
      lived = lived;
      known = put_each (λ n y. IsOpen (after_open sc.layer (opened v) kind) n → y < sc.opened + 1) sc.names (free_number sc.layer) sc.opened (λ o. omega arith) (λ n ne o. let l = keeps.known n (before n ne o) in omega arith);
      one_each = one_name;
      named = λ q. named_weaker (IsOpen sc.layer) (IsOpen (after_open sc.layer (opened v) kind)) (asked_in work q sc.layer) still_open (keeps.named q);
      released = keeps.released;
    }

    -- what all numbers stand for, after so many jobs
    open_kinds : (j : ℕ) → KindNear s j sc.opened kind → ((n : ℕ) → IsOpen sc.layer n → KindNear s j (sc.names n) (kind_at sc.layer.kinds n)) → (n : ℕ) → IsOpen (after_open sc.layer (opened v) kind) n → KindNear s j (put sc.names (free_number sc.layer) sc.opened n) (kind_at (after_open sc.layer (opened v) kind).kinds n)
    open_kinds j new old =
        put_each (λ n y. IsOpen (after_open sc.layer (opened v) kind) n → KindNear s j y (kind_at (after_open sc.layer (opened v) kind).kinds n)) sc.names (free_number sc.layer) sc.opened
        (λ o. subst (KindNear s j sc.opened) (sym (put_read sc.layer.kinds (free_number sc.layer) kind Closed within)) new)
        (λ n ne o. subst (KindNear s j (sc.names n)) (sym (put_other sc.layer.kinds (free_number sc.layer) n kind Closed within ne)) (old n (before n ne o)))

    -- nothing that is taken back signals the new number
    open_tries : (next : Place) → Tries s sc → numbered kind ≤ counted_before s sc.opened next.job → ((n : ℕ) → IsOpen sc.layer n → counted_before s (sc.names n) next.job ≡ counted_before s (sc.names n) sc.next.job) → Tries s (record (opened_scene sc v kind) { next = next })
    open_tries next tries new old = tries_kept s sc (record (opened_scene sc v kind) { next = next }) tries (λ r. refl) (λ n o b. each n o b (cases_eq n (free_number sc.layer)))
      where
        none : (r u : ℕ) → SomeCarries (free_number sc.layer) u (tried_in sc r) → ⊥
        none r u c =
            not_free work (plan_of s) sc keeps st ties (free_number sc.layer)
            (carried_at work (IsOpen sc.layer) (free_number sc.layer) u (length (sc.places r)) (queue_at sc.layer.queues r).batches (keeps.named r) c) refl

        each : (n : ℕ) → IsOpen (after_open sc.layer (opened v) kind) n → is_timeline_at s (put sc.names (free_number sc.layer) sc.opened n) ≡ false → (n ≡ free_number sc.layer) ⊎ (n ≡ free_number sc.layer → ⊥) → KeptNumber s sc (record (opened_scene sc v kind) { next = next }) n ⊎ ClearNumber s sc (record (opened_scene sc v kind) { next = next }) n
        each n o b (inl e) =
            let name = ap (put sc.names (free_number sc.layer) sc.opened) e ∙ put_here sc.names (free_number sc.layer) sc.opened in
            let kind_is = ap (kind_at (put_at sc.layer.kinds (free_number sc.layer) kind)) e ∙ put_read sc.layer.kinds (free_number sc.layer) kind Closed within in
            inr (record {
              none = λ r u c. none r u (subst (λ (i : ℕ). SomeCarries i u (tried_in sc r)) e c);
              all =
                  let high = ap numbered kind_is in
                  let low = ap (λ (x : ℕ). counted_before s x next.job) name in
                  omega arith;
            })
        each n o b (inr ne) =
            let name = put_there sc.names (free_number sc.layer) sc.opened n ne in
            inl (record {
              was = before n ne o;
              binary = sym (ap (is_timeline_at s) name) ∙ b;
              count = ap (λ (x : ℕ). counted_before s x next.job) name ∙ old n (before n ne o);
              kind = ap numbered (put_other sc.layer.kinds (free_number sc.layer) n kind Closed within ne);
            })

  -- a timeline, or what isn't signaled
  record Opens (v : ℕ) (kind : Kind) : Type 0 where
    tied : Ties work (plan_of s) (opened_scene sc v kind) st.progress
    kept : KeepsNames work (opened_scene sc v kind)
    stands : Stands work s (opened_scene sc v kind) tale

  opening : (v : ℕ) (kind : Kind) (x : Semaphore) (t : Told) → after_told work sc t ≡ opened_scene sc v kind → HaveLived (after_open sc.layer (opened v) kind).timelines → initial_value x.kind ≡ v → semaphore_told t ≡ Some x → job_told work sc t ≡ None → (is_timeline x.kind ≡ is_timeline_at s sc.opened → counted_before s sc.opened sc.next.job ≡ 0 → KindStands s sc.next.job sc.opened kind) → numbered kind ≤ 0 → Stands work s sc (t ∷ tale) → Opens v kind
  opening v kind x t after lived value told no_job stand few k =
      let next = next_semaphore x t told k in
      record {
        tied = open_told work (plan_of s) sc keeps st ties v kind (starts_at x next.0 ∙ value);
        kept = open_kept v kind lived;
        stands = record {
          jobs = k.jobs ∙ ap (λ (o : Option Job). cons_option o (jobs_from work (after_told work sc t) tale)) no_job ∙ ap (λ (y : Scene). jobs_from work y tale) after;
          semaphores = next.1;
          op = k.op;
          command = k.command;
          kinds = open_kinds v kind sc.next.job (near_stands s sc.next.job sc.opened kind (stand (sym (kind_there x next.0)) (k.unsignaled sc.opened (omega arith)))) k.kinds;
          tries = open_tries v kind sc.next k.tries (omega arith) (λ n o. refl);
          unsignaled = λ y l. k.unsignaled y (omega arith);
        };
      }

  pub open_timeline : (v : ℕ) → Stands work s sc (layer_called (opens v) ∷ tale) → Follows work s sc st (layer_called (opens v)) tale
  open_timeline v k =
      let o = opening v Timeline (timeline_of v) (layer_called (opens v)) refl (lived_call sc.layer (opens v) keeps.lived tt) refl refl refl (λ t c. sym t) (omega arith) k in
      record { goes = record { run = tt; ties = o.tied }; keeps = o.kept; stands = o.stands }

  pub open_binary : Stands work s sc (layer_called (opens_binary false) ∷ tale) → Follows work s sc st (layer_called (opens_binary false)) tale
  open_binary k =
      let o = opening 0 (Binary 0 0) binary_told (layer_called (opens_binary false)) refl (lived_call sc.layer (opens_binary false) keeps.lived tt) refl refl refl (λ t c. (sym t, (sym c, omega arith))) (omega arith) k in
      record { goes = record { run = tt; ties = o.tied }; keeps = o.kept; stands = o.stands }

  -- What is opened signaled is opened and then signaled by the host.
  pub open_signaled : Stands work s sc (layer_called (opens_binary true) ∷ tale) → Follows work s sc st (layer_called (opens_binary true)) tale
  open_signaled k = record {
    goes =
        host_goes work (plan_of s) (opened_scene sc 0 (Binary 0 0)) unsignaled_kept st tied (free_number sc.layer) 1 (put_at sc.layer.timelines (free_number sc.layer) (opened 1)) (put_at sc.layer.kinds (free_number sc.layer) (Binary 1 0))
        (subst (λ (x : ℕ). IsJob (plan_of s) 0 (record { waits = []; commands = 0; signals = record { timeline = x; value = 1 } ∷ [] }) sc.next) (sym name) job) is_open above payload;
    keeps = record { same = kept.same; lived = kept.lived; known = kept.known; one_each = kept.one_each; named = kept.named; released = kept.released };
    stands = record {
      jobs = next.jobs;
      semaphores = there.1;
      op = next.op;
      command = next.command;
      kinds = open_kinds 1 (Binary 1 0) (sc.next.job + 1) (near_stands s (sc.next.job + 1) sc.opened (Binary 1 0) here) (λ n o. near_same s sc.next.job (sc.next.job + 1) (sc.names n) (kind_at sc.layer.kinds n) (uncounted n o) (k.kinds n o));
      tries = open_tries 1 (Binary 1 0) (after_place sc.next 0 1) k.tries (let one = here.1.0 in omega arith) uncounted;
      unsignaled = λ y l. host_uncounted s y sc.opened 1 sc.next.job next.is (λ e. (let same : y ≡ sc.opened = e in absurd (omega arith))) ∙ k.unsignaled y (omega arith);
    };
  }
    where
      there : (slice_get s.semaphores sc.opened ≡ Some binary_told) × (drop (sc.opened + 1) s.semaphores ≡ filter_map semaphore_told tale)
      there = next_semaphore binary_told (layer_called (opens_binary true)) refl k

      next : Next work s sc (layer_called (opens_binary true)) (signal_of sc.opened 1) tale
      next = next_job work s sc (layer_called (opens_binary true)) (signal_of sc.opened 1) tale refl k

      none : counted_before s sc.opened sc.next.job ≡ 0
      none = k.unsignaled sc.opened (omega arith)

      uncounted : (n : ℕ) → IsOpen sc.layer n → counted_before s (sc.names n) (sc.next.job + 1) ≡ counted_before s (sc.names n) sc.next.job
      uncounted n o = host_uncounted s (sc.names n) sc.opened 1 sc.next.job next.is (λ e. (let low = keeps.known n o in let same : sc.names n ≡ sc.opened = e in absurd (omega arith)))

      size : free_number sc.layer ≤ length sc.layer.timelines
      size = let l = within in let e = keeps.same in omega arith

      unsignaled_kept : KeepsNames work (opened_scene sc 0 (Binary 0 0))
      unsignaled_kept = open_kept 0 (Binary 0 0) (lived_call sc.layer (opens_binary false) keeps.lived tt)

      kept : KeepsNames work (opened_scene sc 1 (Binary 1 0))
      kept = open_kept 1 (Binary 1 0) (lived_call sc.layer (opens_binary true) keeps.lived tt)

      tied : Ties work (plan_of s) (opened_scene sc 0 (Binary 0 0)) st.progress
      tied = open_told work (plan_of s) sc keeps st ties 0 (Binary 0 0) (starts_at binary_told there.0)

      name : put sc.names (free_number sc.layer) sc.opened (free_number sc.layer) ≡ sc.opened
      name = put_here sc.names (free_number sc.layer) sc.opened

      job : IsJob (plan_of s) 0 (record { waits = []; commands = 0; signals = record { timeline = sc.opened; value = 1 } ∷ [] }) sc.next
      job =
          host_job s sc.next.job sc.next.command sc.next.op sc.opened 1 next.is k.op 1
          (host_first_value s sc.next.job sc.next.command sc.next.op sc.opened 1 next.is k.op (kind_there binary_told there.0) none)

      here : KindStands s (sc.next.job + 1) sc.opened (Binary 1 0)
      here =
          let c = host_counted s sc.opened 1 sc.next.job next.is in
          let z = none in
          (kind_there binary_told there.0, (let one : 1 ≡ counted_before s sc.opened (sc.next.job + 1) = omega arith in one, omega arith))

      is_open : IsOpen (opened_scene sc 0 (Binary 0 0)).layer (free_number sc.layer)
      is_open = ap is_closed (put_read sc.layer.kinds (free_number sc.layer) (Binary 0 0) Closed within)

      above : (live_at (opened_scene sc 0 (Binary 0 0)).layer.timelines (free_number sc.layer)).payload < 1
      above =
          let zero_there = ap (λ (x : Live). x.payload) (put_read sc.layer.timelines (free_number sc.layer) (opened 0) (opened 0) size) in omega arith

      payload : (u : ℕ) → is_closed (kind_at (put_at sc.layer.kinds (free_number sc.layer) (Binary 1 0)) u) ≡ false → put st.progress.payload (put sc.names (free_number sc.layer) sc.opened (free_number sc.layer)) 1 (put sc.names (free_number sc.layer) sc.opened u) ≡ (live_at (put_at sc.layer.timelines (free_number sc.layer) (opened 1)) u).payload
      payload u o = elim (cases_eq u (free_number sc.layer)) [
        | inl e ↦
            ap (λ (i : ℕ). put st.progress.payload (put sc.names (free_number sc.layer) sc.opened (free_number sc.layer)) 1 (put sc.names (free_number sc.layer) sc.opened i)) e
            ∙ put_here st.progress.payload (put sc.names (free_number sc.layer) sc.opened (free_number sc.layer)) 1
            ∙ sym (ap (λ (x : Live). x.payload) (ap (live_at (put_at sc.layer.timelines (free_number sc.layer) (opened 1))) e ∙ put_read sc.layer.timelines (free_number sc.layer) (opened 1) (opened 0) size))
        | inr ne ↦
            put_there st.progress.payload (put sc.names (free_number sc.layer) sc.opened (free_number sc.layer)) 1 (put sc.names (free_number sc.layer) sc.opened u) (λ q. ne (kept.one_each u (free_number sc.layer) o (ap is_closed (put_read sc.layer.kinds (free_number sc.layer) (Binary 1 0) Closed within)) q))
            ∙ tied.payload u (still_open 0 (Binary 0 0) u (before 1 (Binary 1 0) u ne o))
            ∙ ap (λ (x : Live). x.payload) (put_other sc.layer.timelines (free_number sc.layer) u (opened 0) (opened 0) size ne)
            ∙ sym (ap (λ (x : Live). x.payload) (put_other sc.layer.timelines (free_number sc.layer) u (opened 1) (opened 0) size ne))
      ]
