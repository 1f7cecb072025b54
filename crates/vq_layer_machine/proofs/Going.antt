-- Where a scene stands in the script of the whole tale, and what goes on from there.
use Rattle.std.proofs.Common.{◌≡◌, ℕ, zero, suc, ◌+◌, ◌≤◌, false, List, [], ◌∷◌, length, drop, take, Option, Some, None, inl, refl, sym, ap, ◌∙◌, subst, arith}
use Rattle.std.specs.List.{slice_get, filter_map, cons_option}
use Rattle.vq_model.specs.declared.script.Script.{Script}
use Rattle.vq_model.specs.declared.script.Semaphore.{Semaphore}
use Rattle.vq_model.specs.declared.script.Job.{Job}
use Rattle.vq_model.specs.Signals.{job_signals}
use Rattle.vq_model.specs.Lowering.{plan_of, commands_in}
use Rattle.vq_model.specs.Machine.{State, Step}
use Rattle.vq_live.specs.Live.{Live}
use Rattle.vq_layer.specs.declared.answers.Kind.TheVariants.{Closed, Timeline, Binary}
use Rattle.vq_layer.specs.declared.answers.Kind.{Kind}
use Rattle.vq_plan_laws.proofs.Cited.{counted}
use Rattle.vq_layer.specs.Layer.{Layer, kind_at, queue_at}
use Rattle.vq_layer.specs.Names.{is_closed}
use Rattle.vq_layer.specs.Calls.{set_fault_in}
use Rattle.vq_layer_laws.specs.Lived.{HaveLived}
use Rattle.vq_layer_laws.specs.Runs.{Call, after_call}
use Rattle.vq_layer_machine.specs.Tales.{Running, Work, Told, Place, Scene, layer_called, count_released, tried_in, after_told, steps_called, steps_told}
use Rattle.vq_layer_machine.specs.Scripts.{jobs_from, job_told, semaphore_told}
use Rattle.vq_layer_machine.proofs.Ops.{signals_before, before_more}
use Rattle.vq_layer_machine.proofs.Layers.{asked_in, AreNamed, named_weaker}
use Rattle.vq_layer_machine.proofs.Counted.{counted_before}
use Rattle.vq_layer_machine.proofs.Standing.{bare}
use Rattle.vq_layer_machine.proofs.Tried.{KindNear, near_bare, numbered_bare, Tries, tries_kept}
use Rattle.vq_layer_machine.proofs.Ties.{IsOpen, KeepsNames, Ties, Goes}
use Rattle.vq_layer_machine.proofs.Counting.{counted_more}
use Rattle.vq_layer_machine.proofs.Calls.{IsQuiet, quiet_told}

-- Where a scene stands in the script of the whole tale.
pub record Stands (work : Work) (s : Script) (sc : Scene) (tale : List Told) : Type 0 where
  pub jobs : drop sc.next.job s.jobs ≡ jobs_from work sc tale
  pub semaphores : drop sc.opened s.semaphores ≡ filter_map semaphore_told tale
  pub op : sc.next.op ≡ signals_before 0 s.jobs sc.next.job
  pub command : sc.next.command ≡ counted 0 (take sc.next.job s.jobs)
  pub kinds : (n : ℕ) → IsOpen sc.layer n → KindNear s sc.next.job (sc.names n) (kind_at sc.layer.kinds n)
  pub tries : Tries s sc
  -- nothing was signaled that isn't opened
  pub unsignaled : (x : ℕ) → sc.opened ≤ x → counted_before s x sc.next.job ≡ 0

pub next_at_drop : {X : Type 0} (xs ys : List X) (n : ℕ) (y : X) → drop n xs ≡ y ∷ ys → (slice_get xs n ≡ Some y) × (drop (suc n) xs ≡ ys)
next_at_drop [] ys zero y c = absurd (cc)
next_at_drop [] ys (suc n) y c = absurd (cc)
next_at_drop (z ∷ zs) ys zero y c = (cc, cc)
next_at_drop (z ∷ zs) ys (suc n) y c = next_at_drop zs ys n y c

-- what the host signals is open
pub set_open : (c : Kind) (t : Live) (v : ℕ) → set_fault_in c t v ≡ None → is_closed c ≡ false
set_open Closed t v g = absurd (cc)
set_open Timeline t v g = refl
set_open (Binary k taken) t v g = refl

module _ (work : Work) (s : Script) where
  -- the job that comes next
  pub record Next (sc : Scene) (t : Told) (job : Job) (tale : List Told) : Type 0 where
    pub is : slice_get s.jobs sc.next.job ≡ Some job
    pub jobs : drop (sc.next.job + 1) s.jobs ≡ jobs_from work (after_told work sc t) tale
    pub op : sc.next.op + length (job_signals (sc.next.job, job)) ≡ signals_before 0 s.jobs (sc.next.job + 1)
    pub command : sc.next.command + commands_in job ≡ counted 0 (take (sc.next.job + 1) s.jobs)

  pub next_job : (sc : Scene) (t : Told) (job : Job) (tale : List Told) → job_told work sc t ≡ Some job → Stands work s sc (t ∷ tale) → Next sc t job tale
  next_job sc t job tale e k =
      let both = next_at_drop s.jobs (jobs_from work (after_told work sc t) tale) sc.next.job job (k.jobs ∙ ap (λ (o : Option Job). cons_option o (jobs_from work (after_told work sc t) tale)) e) in
      let one : sc.next.job + 1 ≡ suc sc.next.job = omega arith in
      let z : 0 + sc.next.job ≡ sc.next.job = omega arith in
      record {
        is = both.0;
        jobs = ap (λ (n : ℕ). drop n s.jobs) one ∙ both.1;
        op =
            (λ i. k.op i + length (job_signals (sym z i, job)))
            ∙ sym (before_more 0 s.jobs sc.next.job job both.0)
            ∙ ap (signals_before 0 s.jobs) (sym one);
        command =
            ap (λ (n : ℕ). n + commands_in job) k.command
            ∙ sym (counted_more 0 s.jobs sc.next.job job both.0)
            ∙ ap (λ (n : ℕ). counted 0 (take n s.jobs)) (sym one);
      }

  -- the tie after what is told, and what goes on
  pub record Follows (sc : Scene) (st : State) (t : Told) (tale : List Told) : Type 0 where
    pub goes : Goes work (plan_of s) st (steps_told sc t) (after_told work sc t)
    pub keeps : KeepsNames work (after_told work sc t)
    pub stands : Stands work s (after_told work sc t) tale

  -- what leaves the numbers as they are, but for those that are closed
  pub record IsSteady (sc : Scene) (l : Layer) (places : ℕ → List Place) : Type 0 where
    pub still : (n : ℕ) → IsOpen l n → IsOpen sc.layer n
    pub same : length l.kinds ≡ length l.timelines
    pub lived : HaveLived l.timelines
    pub named : (q : ℕ) → AreNamed (IsOpen l) (asked_in work q l)
    pub released : (q : ℕ) → count_released l q ≤ length (places q)
    pub bare : (n : ℕ) → IsOpen l n → bare (kind_at l.kinds n) ≡ bare (kind_at sc.layer.kinds n)
    pub tried : (q : ℕ) → drop (length (places q)) (queue_at l.queues q).batches ≡ tried_in sc q

  module _ (sc : Scene) (st : State) (tale : List Told) (keeps : KeepsNames work sc) (ties : Ties work (plan_of s) sc st.progress) where
    -- what changes neither names nor numbers of the script
    pub goes_with : (t : Told) (l : Layer) (places : ℕ → List Place) (running : ℕ → Option Running) → after_told work sc t ≡ record sc { layer = l; places = places; running = running } → Goes work (plan_of s) st (steps_told sc t) (after_told work sc t) → job_told work sc t ≡ None → semaphore_told t ≡ None → KeepsNames work (record sc { layer = l; places = places; running = running }) → ((n : ℕ) → IsOpen l n → KindNear s sc.next.job (sc.names n) (kind_at l.kinds n)) → Tries s (record sc { layer = l; places = places; running = running }) → Stands work s sc (t ∷ tale) → Follows sc st t tale
    goes_with t l places running after goes no_job no_semaphore kept kinds tries k = record {
      goes = goes;
      keeps = subst (KeepsNames work) (sym after) kept;
      stands = subst (λ (x : Scene). Stands work s x tale) (sym after) (record {
        jobs = k.jobs ∙ ap (λ (o : Option Job). cons_option o (jobs_from work (after_told work sc t) tale)) no_job ∙ ap (λ (x : Scene). jobs_from work x tale) after;
        semaphores = k.semaphores ∙ ap (λ (o : Option Semaphore). cons_option o (filter_map semaphore_told tale)) no_semaphore;
        op = k.op;
        command = k.command;
        kinds = kinds;
        tries = tries;
        unsignaled = k.unsignaled;
      });
    }

    pub goes_on : (t : Told) (l : Layer) (places : ℕ → List Place) (running : ℕ → Option Running) → after_told work sc t ≡ record sc { layer = l; places = places; running = running } → Goes work (plan_of s) st (steps_told sc t) (after_told work sc t) → job_told work sc t ≡ None → semaphore_told t ≡ None → IsSteady sc l places → Stands work s sc (t ∷ tale) → Follows sc st t tale
    goes_on t l places running after goes no_job no_semaphore steady k =
        goes_with t l places running after goes no_job no_semaphore
        (record {
          same = steady.same;
          lived = steady.lived;
          known = λ n o. keeps.known n (steady.still n o);
          one_each = λ m n a b e. keeps.one_each m n (steady.still m a) (steady.still n b) e;
          named = steady.named;
          released = steady.released;
        })
        (λ n o. near_bare s sc.next.job (sc.names n) (kind_at sc.layer.kinds n) (kind_at l.kinds n) (sym (steady.bare n o)) (k.kinds n (steady.still n o)))
        (tries_kept s sc (record sc { layer = l; places = places; running = running }) k.tries steady.tried (λ n o b. inl (record {
          was = steady.still n o;
          binary = b;
          count = refl;
          kind = numbered_bare (kind_at l.kinds n) (kind_at sc.layer.kinds n) (steady.bare n o);
        }))) k

    -- the layer as it is, and with the same kinds
    pub as_it_is : IsSteady sc sc.layer sc.places
    as_it_is = record { still = λ n o. o; same = keeps.same; lived = keeps.lived; named = keeps.named; released = keeps.released; bare = λ n o. refl; tried = λ q. refl }

    pub with_kinds : (l : Layer) (places : ℕ → List Place) → l.kinds ≡ sc.layer.kinds → length l.timelines ≡ length sc.layer.timelines → HaveLived l.timelines → ((q : ℕ) → AreNamed (IsOpen sc.layer) (asked_in work q l)) → ((q : ℕ) → count_released l q ≤ length (places q)) → ((q : ℕ) → drop (length (places q)) (queue_at l.queues q).batches ≡ tried_in sc q) → IsSteady sc l places
    with_kinds l places e count lived named released tried = record {
      still = λ n o. subst (λ (ks : List Kind). is_closed (kind_at ks n) ≡ false) e o;
      same = ap length e ∙ keeps.same ∙ sym count;
      lived = lived;
      named = λ q. named_weaker (IsOpen sc.layer) (IsOpen l) (asked_in work q l) (λ n o. subst (λ (ks : List Kind). is_closed (kind_at ks n) ≡ false) (sym e) o) (named q);
      released = released;
      bare = λ n o. ap (λ (ks : List Kind). bare (kind_at ks n)) e;
      tried = tried;
    }

    -- a call that changes no payload and no batch
    pub quiet : (c : Call) → steps_called sc c ≡ [] → job_told work sc (layer_called c) ≡ None → semaphore_told (layer_called c) ≡ None → after_told work sc (layer_called c) ≡ record sc { layer = after_call sc.layer c } → IsSteady sc (after_call sc.layer c) sc.places → IsQuiet work sc.layer (after_call sc.layer c) → Stands work s sc (layer_called c ∷ tale) → Follows sc st (layer_called c) tale
    quiet c silent no_job no_semaphore after steady q k =
        goes_on (layer_called c) (after_call sc.layer c) sc.places sc.running after
        (subst (λ (xs : List Step). Goes work (plan_of s) st xs (after_told work sc (layer_called c))) (sym silent) (record { run = tt; ties = subst (λ (x : Scene). Ties work (plan_of s) x st.progress) (sym after) (quiet_told work (plan_of s) sc keeps st ties (after_call sc.layer c) q) }))
        no_job no_semaphore steady k
