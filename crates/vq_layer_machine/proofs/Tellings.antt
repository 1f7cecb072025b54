-- A tale is a run of the machine: each thing told, and then all.
use Rattle.std.proofs.Common.{◌≡◌, set, get_or-set_same, get_or-set_other, ◌⊎◌, ℕ, ◌+◌, ◌<◌, ◌≤◌, true, false, List, [], ◌∷◌, ◌++◌, length, map, drop, fold, option_map, Option, Some, None, inl, inr, refl, sym, ap, ◌∙◌, subst, arith}
use Rattle.std.specs.Prelude.{nat_le, if◌then◌else◌, Bool}
use Rattle.std.proofs.lemmas.Bool.{cases_eq, cases_lt, false≢true}
use Rattle.std.proofs.lemmas.List.{length-set, length-drop, drop-set-lt, get_or_past}
use Rattle.std.proofs.lemmas.List.Sums.{fold-append}
use Rattle.vq_model.specs.declared.script.Script.{Script}
use Rattle.vq_model.specs.Plan.{Plan}
use Rattle.vq_model.specs.Signals.{is_timeline_at}
use Rattle.vq_model.specs.Lowering.{plan_of}
use Rattle.vq_model.specs.Machine.{State, Step, RunFrom, Run, after_step, opening_state, state_after, put}
use Rattle.vq_ground.proofs.Tests.{above_of_test}
use Rattle.vq_live.specs.declared.answers.SignalFault.TheVariants as signal_as
use Rattle.vq_live.specs.Live.{Live, opened}
use Rattle.vq_live.specs.Calls.{below_first, after_refer, after_unref, after_complete, after_signal}
use Rattle.vq_layer.specs.declared.answers.Kind.TheVariants.{Closed, Timeline, Binary}
use Rattle.vq_layer.specs.declared.answers.Kind.{Kind}
use Rattle.vq_layer.specs.Layer.{Batch, Queue, live_at, kind_at, queue_at, no_layer}
use Rattle.vq_layer.specs.Names.{with_wait, is_closed}
use Rattle.vq_layer.specs.Queues.{next_batch, batch_released, after_release, after_finish}
use Rattle.vq_layer.specs.Calls.{finish_from, after_close, after_finish_of, oldest_in, set_fault_in}
use Rattle.vq_layer.proofs.Cited.{count_released as released_count, count_returned}
use Rattle.vq_layer_laws.specs.Runs.{Call, opens, opens_binary, opens_queue, closes, submits, takes_back, releases, finishes, completes, sets, resets, refers_to, gives_back, MayCall, AreCalls, after_call}
use Rattle.vq_layer_laws.proofs.Cited.{closed_set, closed_wait, queue_same, queue_other, oldest_exists, lived_call, lived_opened, set_may, queue_more, ready_exists}
use Rattle.vq_layer_machine.specs.Tales.{at_start, run_applied, run_signaled, Work, Told, Scene, layer_called, batch_starts, batch_applies, batch_signals, batch_ends, host_signals, batch_tried, batch_taken_back, no_scene, count_released, tried_in, MayTell, IsTold, after_told, after_tale, IsTaleFrom, IsTale, steps_told, steps_from, steps_of, calls_of}
use Rattle.vq_layer_machine.specs.Scripts.{script_of, signal_of}
use Rattle.vq_layer_machine.proofs.Jobs.{host_job, host_value}
use Rattle.vq_layer_machine.proofs.Layers.{payload_written, payload_released, asked_of, asked_in, asked_released, oldest_some, asked_first, asked_finished, asked_unfinished, AreNamed, named_weaker, named_pair, closed_unnamed}
use Rattle.vq_layer_machine.proofs.Counted.{counted_before, host_uncounted}
use Rattle.vq_layer_machine.proofs.Standing.{bare, bare_reset}
use Rattle.vq_layer_machine.proofs.Tried.{KindNear, Tries, tries_kept, drop_both}
use Rattle.vq_layer_machine.proofs.Ties.{IsOpen, KeepsNames, Ties, Goes, put_each}
use Rattle.vq_layer_machine.proofs.Counting.{has_one_job}
use Rattle.vq_layer_machine.proofs.Steps.{raised_payload, start_told, apply_told, signal_told, end_told}
use Rattle.vq_layer_machine.proofs.Calls.{host_goes}
use Rattle.vq_layer_machine.proofs.Going.{Stands, Next, next_job, Follows, goes_on, quiet, as_it_is, with_kinds, set_open}
use Rattle.vq_layer_machine.proofs.Openings.{open_timeline, open_binary, open_signaled}
use Rattle.vq_layer_machine.proofs.Submissions.{submission, trying, undoing}

module _ (work : Work) (s : Script) where
  module _ (sc : Scene) (st : State) (tale : List Told) (keeps : KeepsNames work sc) (ties : Ties work (plan_of s) sc st.progress) where
    hosting : (n v : ℕ) → MayCall sc.layer (sets n v) → Stands work s sc (host_signals n v ∷ tale) → Follows work s sc st (host_signals n v) tale
    hosting n v m k = record {
      goes =
          host_goes work (plan_of s) sc keeps st ties n v (set sc.layer.timelines n (after_signal (live_at sc.layer.timelines n) v)) sc.layer.kinds
          (host_job s sc.next.job sc.next.command sc.next.op (sc.names n) v next.is k.op v (host_value s sc.next.job sc.next.command sc.next.op (sc.names n) v next.is k.op is_timeline_there))
          is_open above (raised_payload work sc n v (after_signal (live_at sc.layer.timelines n) v) st.progress.payload keeps is_open refl ties.payload);
      keeps = record {
        same = keeps.same ∙ sym (length-set sc.layer.timelines n (after_signal (live_at sc.layer.timelines n) v));
        lived = lived_call sc.layer (sets n v) keeps.lived m;
        known = keeps.known;
        one_each = keeps.one_each;
        named = keeps.named;
        released = keeps.released;
      };
      stands = record {
        jobs = next.jobs;
        semaphores = k.semaphores;
        op = next.op;
        command = next.command;
        kinds = λ i o. kinds (sc.names i) (kind_at sc.layer.kinds i) (k.kinds i o);
        tries = tries;
        unsignaled = λ x l. unnamed x (λ e. (let under = keeps.known n is_open in let same : x ≡ sc.names n = e in omega arith)) ∙ k.unsignaled x l;
      };
    }
      where
        next : Next work s sc (host_signals n v) (signal_of (sc.names n) v) tale
        next = next_job work s sc (host_signals n v) (signal_of (sc.names n) v) tale refl k

        is_open : IsOpen sc.layer n
        is_open = set_open (kind_at sc.layer.kinds n) (live_at sc.layer.timelines n) v m

        is_timeline_there : is_timeline_at s (sc.names n) ≡ true
        is_timeline_there = by_kind (kind_at sc.layer.kinds n) (k.kinds n is_open) m
          where
            by_kind : (c : Kind) → KindNear s sc.next.job (sc.names n) c → set_fault_in c (live_at sc.layer.timelines n) v ≡ None → is_timeline_at s (sc.names n) ≡ true
            by_kind Closed h g = absurd h
            by_kind Timeline h g = h
            by_kind (Binary c t) h g = absurd (cc)

        unnamed : (x : ℕ) → (x ≡ sc.names n → ⊥) → counted_before s x (sc.next.job + 1) ≡ counted_before s x sc.next.job
        unnamed x ne = host_uncounted s x (sc.names n) v sc.next.job next.is ne

        other_count : (x : ℕ) → is_timeline_at s x ≡ false → counted_before s x (sc.next.job + 1) ≡ counted_before s x sc.next.job
        other_count x b =
            unnamed x (λ e. (let both : true ≡ false = sym is_timeline_there ∙ ap (is_timeline_at s) (sym e) ∙ b in cc))

        kinds : (x : ℕ) (c : Kind) → KindNear s sc.next.job x c → KindNear s (sc.next.job + 1) x c
        kinds x Closed h = h
        kinds x Timeline h = h
        kinds x (Binary c t) h = let same = other_count x h.0 in let low = h.1.0 in (h.0, (omega arith, h.1.1))

        tries : Tries s (after_told work sc (host_signals n v))
        tries = tries_kept s sc (after_told work sc (host_signals n v)) k.tries (λ r. refl) (λ i o b. inl (record { was = o; binary = b; count = other_count (sc.names i) b; kind = refl }))

        above : (live_at sc.layer.timelines n).payload < v
        above = by_test (nat_le v (live_at sc.layer.timelines n).payload) refl (set_may (kind_at sc.layer.kinds n) (live_at sc.layer.timelines n) v m)
          where
            by_test : (b : Bool) → nat_le v (live_at sc.layer.timelines n).payload ≡ b → (if b then Some (signal_as.NotAbove (live_at sc.layer.timelines n).payload) else below_first (live_at sc.layer.timelines n).ops v) ≡ None → (live_at sc.layer.timelines n).payload < v
            by_test true e g = absurd (cc)
            by_test false e g = above_of_test v (live_at sc.layer.timelines n).payload e

    -- a close
    closing : (n : ℕ) → MayCall sc.layer (closes n) → Stands work s sc (layer_called (closes n) ∷ tale) → Follows work s sc st (layer_called (closes n)) tale
    closing n m k =
        quiet work s sc st tale keeps ties (closes n) refl refl refl refl
        (record {
          still = still;
          same = length-set sc.layer.kinds n Closed ∙ keeps.same ∙ sym (length-set sc.layer.timelines n (opened 0));
          lived = lived_call sc.layer (closes n) keeps.lived m;
          named = λ q. named_both q;
          released = keeps.released;
          bare = λ x o. ap bare (get_or-set_other sc.layer.kinds n x Closed Closed (other x o));
          tried = λ q. refl;
        })
        (record {
          still = still;
          same = λ x o. ap (λ (t : Live). t.payload) (get_or-set_other sc.layer.timelines n x (opened 0) (opened 0) (other x o));
          asked = λ q. refl;
        }) k
      where
        other : (x : ℕ) → IsOpen (after_close sc.layer n) x → x ≡ n → ⊥
        other x o e =
            let both : true ≡ false = sym there ∙ ap (λ (i : ℕ). is_closed (kind_at (set sc.layer.kinds n Closed) i)) (sym e) ∙ o in
            cc
          where
            there : is_closed (kind_at (set sc.layer.kinds n Closed) n) ≡ true
            there = elim (cases_lt n (length sc.layer.kinds)) [
              | inl l ↦ ap is_closed (get_or-set_same sc.layer.kinds n Closed Closed l)
              | inr l ↦ ap is_closed (get_or_past (set sc.layer.kinds n Closed) n Closed (let c = length-set sc.layer.kinds n Closed in omega arith))
            ]

        still : (x : ℕ) → IsOpen (after_close sc.layer n) x → IsOpen sc.layer x
        still x o = ap is_closed (sym (get_or-set_other sc.layer.kinds n x Closed Closed (other x o))) ∙ o

        named_both : (q : ℕ) → AreNamed (IsOpen (after_close sc.layer n)) (asked_in work q sc.layer)
        named_both q =
            named_weaker (λ x. (x ≡ n → ⊥) × IsOpen sc.layer x) (IsOpen (after_close sc.layer n)) (asked_in work q sc.layer)
            (λ x both. ap is_closed (get_or-set_other sc.layer.kinds n x Closed Closed both.0) ∙ both.1)
            (named_pair (λ x. x ≡ n → ⊥) (IsOpen sc.layer) (asked_in work q sc.layer) (closed_unnamed work sc.layer n m q) (keeps.named q))

    -- all that may be told
    follows_call : (c : Call) → IsTold sc c → MayCall sc.layer c → Stands work s sc (layer_called c ∷ tale) → Follows work s sc st (layer_called c) tale
    follows_call (opens v) i m k = open_timeline work s sc st tale keeps ties v k
    follows_call opens_queue i m k =
        quiet work s sc st tale keeps ties opens_queue refl refl refl refl
        (with_kinds work s sc st tale keeps ties (after_call sc.layer opens_queue) sc.places refl refl keeps.lived (λ q. subst (AreNamed (IsOpen sc.layer)) (sym (same q)) (keeps.named q)) (λ q. (let more = ap (λ (x : Queue). x.released) (queue_more sc.layer.queues q) in let was = keeps.released q in omega arith)) (λ q. ap (λ (x : Queue). drop (length (sc.places q)) x.batches) (queue_more sc.layer.queues q)))
        (record { still = λ n o. o; same = λ n o. refl; asked = same }) k
      where
        same : (q : ℕ) → asked_in work q (after_call sc.layer opens_queue) ≡ asked_in work q sc.layer
        same q = ap (λ (x : Queue). map (asked_of work) x.batches) (queue_more sc.layer.queues q)
    follows_call (submits q token waits signals) i m k = submission work s sc st tale keeps ties q token waits signals m i k
    follows_call (releases q) i m k =
        quiet work s sc st tale keeps ties (releases q) refl refl refl refl
        (with_kinds work s sc st tale keeps ties (after_call sc.layer (releases q)) sc.places refl (released_count sc.layer.timelines (next_batch (queue_at sc.layer.queues q))) (lived_call sc.layer (releases q) keeps.lived m) (λ r. subst (AreNamed (IsOpen sc.layer)) (sym (asked_released work sc.layer q r (ready_exists sc.layer q m))) (keeps.named r)) (λ r. more r (cases_eq r q)) (λ r. behind r (cases_eq r q)))
        (record {
          still = λ n o. o;
          same = λ n o. payload_released sc.layer.timelines (next_batch (queue_at sc.layer.queues q)) n;
          asked = λ r. asked_released work sc.layer q r (ready_exists sc.layer q m);
        }) k
      where
        more : (r : ℕ) → (r ≡ q) ⊎ (r ≡ q → ⊥) → count_released (after_call sc.layer (releases q)) r ≤ length (sc.places r)
        more r (inl e) =
            let now = ap (λ (x : Queue). x.released) (queue_same sc.layer.queues q (after_release sc.layer.timelines (queue_at sc.layer.queues q)) (ready_exists sc.layer q m)) in
            subst (λ (x : ℕ). count_released (after_call sc.layer (releases q)) x ≤ length (sc.places x)) (sym e) (omega arith)
        more r (inr ne) =
            let now = ap (λ (x : Queue). x.released) (queue_other sc.layer.queues q r (after_release sc.layer.timelines (queue_at sc.layer.queues q)) ne) in
            let was = keeps.released r in
            omega arith

        behind : (r : ℕ) → (r ≡ q) ⊎ (r ≡ q → ⊥) → tried_in (record sc { layer = after_call sc.layer (releases q) }) r ≡ tried_in sc r
        behind r (inl e) =
            subst (λ (x : ℕ). tried_in (record sc { layer = after_call sc.layer (releases q) }) x ≡ tried_in sc x) (sym e)
            (ap (λ (x : Queue). drop (length (sc.places q)) x.batches) (queue_same sc.layer.queues q (after_release sc.layer.timelines (queue_at sc.layer.queues q)) (ready_exists sc.layer q m))
            ∙ drop-set-lt (length (sc.places q)) (queue_at sc.layer.queues q).batches (queue_at sc.layer.queues q).released (batch_released sc.layer.timelines (next_batch (queue_at sc.layer.queues q))) i)
        behind r (inr ne) =
            ap (λ (x : Queue). drop (length (sc.places r)) x.batches) (queue_other sc.layer.queues q r (after_release sc.layer.timelines (queue_at sc.layer.queues q)) ne)
    follows_call (refers_to n x) i m k =
        quiet work s sc st tale keeps ties (refers_to n x) refl refl refl refl
        (with_kinds work s sc st tale keeps ties (after_call sc.layer (refers_to n x)) sc.places refl (length-set sc.layer.timelines n (after_refer (live_at sc.layer.timelines n) x)) (lived_call sc.layer (refers_to n x) keeps.lived m) keeps.named keeps.released (λ q. refl))
        (record { still = λ y o. o; same = λ y o. payload_written sc.layer.timelines n (after_refer (live_at sc.layer.timelines n) x) refl y; asked = λ r. refl }) k
    follows_call (gives_back n x) i m k =
        quiet work s sc st tale keeps ties (gives_back n x) refl refl refl refl
        (with_kinds work s sc st tale keeps ties (after_call sc.layer (gives_back n x)) sc.places refl (length-set sc.layer.timelines n (after_unref (live_at sc.layer.timelines n) x)) (lived_call sc.layer (gives_back n x) keeps.lived m) keeps.named keeps.released (λ q. refl))
        (record { still = λ y o. o; same = λ y o. payload_written sc.layer.timelines n (after_unref (live_at sc.layer.timelines n) x) refl y; asked = λ r. refl }) k
    follows_call (resets n) i m k =
        quiet work s sc st tale keeps ties (resets n) refl refl refl refl
        (record {
          still = λ x o. sym (same x) ∙ o;
          same = length-set sc.layer.kinds n (with_wait (kind_at sc.layer.kinds n)) ∙ keeps.same;
          lived = keeps.lived;
          named = λ q. named_weaker (IsOpen sc.layer) (IsOpen (after_call sc.layer (resets n))) (asked_in work q sc.layer) (λ x o. same x ∙ o) (keeps.named q);
          released = keeps.released;
          bare = λ x o. bare_reset sc.layer.kinds n x;
          tried = λ q. refl;
        })
        (record { still = λ x o. sym (same x) ∙ o; same = λ x o. refl; asked = λ r. refl }) k
      where
        same : (x : ℕ) → is_closed (kind_at (set sc.layer.kinds n (with_wait (kind_at sc.layer.kinds n))) x) ≡ is_closed (kind_at sc.layer.kinds x)
        same x = closed_set sc.layer.kinds n x (with_wait (kind_at sc.layer.kinds n)) (closed_wait (kind_at sc.layer.kinds n))
    follows_call (opens_binary true) i m k = open_signaled work s sc st tale keeps ties k
    follows_call (opens_binary false) i m k = open_binary work s sc st tale keeps ties k
    follows_call (closes n) i m k = closing n m k
    follows_call (takes_back q) i m k = absurd i
    follows_call (finishes q) i m k = absurd i
    follows_call (completes n) i m k = absurd i
    follows_call (sets n v) i m k = absurd i

    -- what is left of a queue after its oldest batch
    named_finished : (q : ℕ) (b : Batch) → oldest_in sc.layer q ≡ Some b → (r : ℕ) → AreNamed (IsOpen sc.layer) (asked_in work r (after_finish_of sc.layer q))
    named_finished q b e r = elim (cases_eq r q) [
      | inl d ↦
          subst (λ (i : ℕ). AreNamed (IsOpen sc.layer) (asked_in work i (after_finish_of sc.layer q))) (sym d)
          (subst (AreNamed (IsOpen sc.layer)) (sym (asked_finished work sc.layer q b e)) (subst (AreNamed (IsOpen sc.layer)) (asked_first work sc.layer q b e) (keeps.named q)).1)
      | inr n ↦ subst (AreNamed (IsOpen sc.layer)) (sym (asked_unfinished work sc.layer q r b e n)) (keeps.named r)
    ]

    released_finished : (q : ℕ) (b : Batch) → oldest_in sc.layer q ≡ Some b → (r : ℕ) → count_released (after_finish_of sc.layer q) r ≤ length (put sc.places q (drop 1 (sc.places q)) r)
    released_finished q b e =
        put_each (λ r zs. count_released (after_finish_of sc.layer q) r ≤ length zs) sc.places q (drop 1 (sc.places q))
        (let was = keeps.released q in let size = length-drop 1 (sc.places q) in let now = ap (λ (x : Queue). x.released) (queue_same sc.layer.queues q (after_finish (queue_at sc.layer.queues q)) (oldest_exists sc.layer.queues q b e)) in let done = ap (λ (o : Option Batch). count_released (finish_from sc.layer q o) q) e in omega arith)
        (λ r n. (let was = keeps.released r in let now = ap (λ (x : Queue). x.released) (queue_other sc.layer.queues q r (after_finish (queue_at sc.layer.queues q)) n) in let done = ap (λ (o : Option Batch). count_released (finish_from sc.layer q o) r) e in omega arith))

    tried_finished : (q : ℕ) (b : Batch) → oldest_in sc.layer q ≡ Some b → (r : ℕ) → drop (length (put sc.places q (drop 1 (sc.places q)) r)) (queue_at (after_finish_of sc.layer q).queues r).batches ≡ tried_in sc r
    tried_finished q b e =
        put_each (λ r zs. drop (length zs) (queue_at (after_finish_of sc.layer q).queues r).batches ≡ tried_in sc r) sc.places q (drop 1 (sc.places q))
        (let some = oldest_some (queue_at sc.layer.queues q).released (queue_at sc.layer.queues q).batches b e in
        let was = keeps.released q in
        ap (λ (o : Option Batch). drop (length (drop 1 (sc.places q))) (queue_at (finish_from sc.layer q o).queues q).batches) e
        ∙ ap (λ (x : Queue). drop (length (drop 1 (sc.places q))) x.batches) (queue_same sc.layer.queues q (after_finish (queue_at sc.layer.queues q)) (oldest_exists sc.layer.queues q b e))
        ∙ drop_both (sc.places q) (queue_at sc.layer.queues q).batches (omega arith))
        (λ r n.
        ap (λ (o : Option Batch). drop (length (sc.places r)) (queue_at (finish_from sc.layer q o).queues r).batches) e
        ∙ ap (λ (x : Queue). drop (length (sc.places r)) x.batches) (queue_other sc.layer.queues q r (after_finish (queue_at sc.layer.queues q)) n))

    pub follows : (t : Told) → MayTell work sc t → Stands work s sc (t ∷ tale) → Follows work s sc st t tale
    follows (layer_called c) m k = follows_call c m.0 m.1 k
    follows (batch_starts q) m k =
        goes_on work s sc st tale keeps ties (batch_starts q) sc.layer sc.places (put sc.running q (Some at_start)) refl (start_told work (plan_of s) (has_one_job s) sc keeps st ties q m) refl refl (as_it_is work s sc st tale keeps ties) k
    follows (batch_applies q) m k =
        goes_on work s sc st tale keeps ties (batch_applies q) sc.layer sc.places (put sc.running q (option_map run_applied (sc.running q))) refl (apply_told work (plan_of s) (has_one_job s) sc keeps st ties q m) refl refl (as_it_is work s sc st tale keeps ties) k
    follows (batch_signals q n) m k =
        goes_on work s sc st tale keeps ties (batch_signals q n) (after_call sc.layer (completes n)) sc.places (put sc.running q (option_map run_signaled (sc.running q))) refl (signal_told work (plan_of s) (has_one_job s) sc keeps st ties q n m) refl refl
        (with_kinds work s sc st tale keeps ties (after_call sc.layer (completes n)) sc.places refl (length-set sc.layer.timelines n (after_complete (live_at sc.layer.timelines n))) (lived_call sc.layer (completes n) keeps.lived (record { given = m.signal.given; first = m.first })) keeps.named keeps.released (λ r. refl)) k
    follows (batch_ends q) m k =
        goes_on work s sc st tale keeps ties (batch_ends q) (after_finish_of sc.layer q) (put sc.places q (drop 1 (sc.places q))) (put sc.running q None) refl (end_told work (plan_of s) (has_one_job s) sc keeps st ties q m) refl refl
        (with_kinds work s sc st tale keeps ties (after_finish_of sc.layer q) (put sc.places q (drop 1 (sc.places q)))
        (ap (λ (o : Option Batch). (finish_from sc.layer q o).kinds) m.oldest)
        (ap (λ (o : Option Batch). length (finish_from sc.layer q o).timelines) m.oldest ∙ count_returned sc.layer.timelines m.batch.waits)
        (lived_call sc.layer (finishes q) keeps.lived (record { batch = m.batch; first = m.oldest }))
        (named_finished q m.batch m.oldest)
        (released_finished q m.batch m.oldest)
        (tried_finished q m.batch m.oldest)) k
    follows (host_signals n v) m k = hosting n v m k
    follows (batch_tried q token waits signals) m k = trying work s sc st tale keeps ties q token waits signals m k
    follows (batch_taken_back q) m k = undoing work s sc st tale keeps ties q m k

  -- steps one behind another
  join : (st : State) (xs ys : List Step) (a b : Scene) → Goes work (plan_of s) st xs a → Goes work (plan_of s) (fold (after_step (plan_of s)) st xs) ys b → Goes work (plan_of s) st (xs ++ ys) b
  join st xs ys a b g h = record {
    run = run_append st xs g.run h.run;
    ties = subst (λ (x : State). Ties work (plan_of s) b x.progress) (sym (fold-append (after_step (plan_of s)) st xs ys)) h.ties;
  }
    where
      run_append : (u : State) (zs : List Step) → RunFrom (plan_of s) u zs → RunFrom (plan_of s) (fold (after_step (plan_of s)) u zs) ys → RunFrom (plan_of s) u (zs ++ ys)
      run_append u [] r t = t
      run_append u (z ∷ zs) r t = (r.0, run_append (after_step (plan_of s) u z) zs r.1 t)

  all_told : (sc : Scene) (st : State) (tale : List Told) → KeepsNames work sc → Ties work (plan_of s) sc st.progress → Stands work s sc tale → IsTaleFrom work sc tale → Goes work (plan_of s) st (steps_from work sc tale) (after_tale work sc tale)
  all_told sc st [] keeps ties k m = record { run = tt; ties = ties }
  all_told sc st (t ∷ tale) keeps ties k m =
      let f = follows sc st tale keeps ties t m.0 k in
      join st (steps_told sc t) (steps_from work (after_told work sc t) tale) (after_told work sc t) (after_tale work (after_told work sc t) tale) f.goes
      (all_told (after_told work sc t) (fold (after_step (plan_of s)) st (steps_told sc t)) tale f.keeps f.goes.ties f.stands m.1)

pub opening_ties : (work : Work) (p : Plan) → Ties work p no_scene (opening_state p).progress
opening_ties work p = record {
  payload = λ n o. absurd (none o);
  unopened = λ t l. refl;
  low = λ e t m c. absurd (false≢true m);
  jobs = λ q. tt;
  placed = λ q. tt;
  at = λ q. tt;
  left = λ i l. absurd (omega arith);
  new = λ i l. (refl, refl);
  below = λ q y i c h. absurd i;
  applied = λ c h. absurd (false≢true h);
}
  where
    none : true ≡ false → ⊥
    none e = cc

pub first_keeps : (work : Work) → KeepsNames work no_scene
first_keeps work = record { same = refl; lived = λ n. lived_opened 0; known = λ n o. absurd (none o); one_each = λ a b oa ob e. e; named = λ q. tt; released = λ q. omega arith }
  where
    none : true ≡ false → ⊥
    none e = cc

pub first_stands : (work : Work) (tale : List Told) → Stands work (script_of work tale) no_scene tale
first_stands work tale = record { jobs = refl; semaphores = refl; op = refl; command = refl; kinds = λ n o. absurd (none o); tries = record { ahead = λ n r v o. absurd (none o); carried = λ n v o. absurd (none o); apart = λ r. tt }; unsignaled = λ x l. refl }
  where
    none : true ≡ false → ⊥
    none e = cc

tale_goes : (work : Work) (tale : List Told) → IsTale work tale → Goes work (plan_of (script_of work tale)) (opening_state (plan_of (script_of work tale))) (steps_of work tale) (after_tale work no_scene tale)
tale_goes work tale m =
    all_told work (script_of work tale) no_scene (opening_state (plan_of (script_of work tale))) tale
    (first_keeps work) (opening_ties work (plan_of (script_of work tale))) (first_stands work tale) m

pub tales_are_runs : (work : Work) (tale : List Told) → IsTale work tale → Run (plan_of (script_of work tale)) (steps_of work tale)
tales_are_runs work tale m = (tale_goes work tale m).run

pub tales_show : (work : Work) (tale : List Told) → IsTale work tale → (n : ℕ) → is_closed (kind_at (after_tale work no_scene tale).layer.kinds n) ≡ false → (state_after (plan_of (script_of work tale)) (steps_of work tale)).progress.payload ((after_tale work no_scene tale).names n) ≡ (live_at (after_tale work no_scene tale).layer.timelines n).payload
tales_show work tale m n o = (tale_goes work tale m).ties.payload n o

calls_from : (work : Work) (sc : Scene) (tale : List Told) → IsTaleFrom work sc tale → AreCalls sc.layer (calls_of tale)
calls_from work sc [] m = tt
calls_from work sc (layer_called c ∷ tale) m = (m.0.1, calls_from work (after_told work sc (layer_called c)) tale m.1)
calls_from work sc (batch_starts q ∷ tale) m = calls_from work (after_told work sc (batch_starts q)) tale m.1
calls_from work sc (batch_applies q ∷ tale) m = calls_from work (after_told work sc (batch_applies q)) tale m.1
calls_from work sc (batch_signals q n ∷ tale) m =
    (record { given = m.0.signal.given; first = m.0.first }, calls_from work (after_told work sc (batch_signals q n)) tale m.1)
calls_from work sc (batch_ends q ∷ tale) m =
    (record { batch = m.0.batch; first = m.0.oldest }, calls_from work (after_told work sc (batch_ends q)) tale m.1)
calls_from work sc (host_signals n v ∷ tale) m = (m.0, calls_from work (after_told work sc (host_signals n v)) tale m.1)
calls_from work sc (batch_tried q token waits signals ∷ tale) m =
    (m.0, calls_from work (after_told work sc (batch_tried q token waits signals)) tale m.1)
calls_from work sc (batch_taken_back q ∷ tale) m =
    (m.0.may, calls_from work (after_told work sc (batch_taken_back q)) tale m.1)

pub tales_call : (work : Work) (tale : List Told) → IsTale work tale → AreCalls no_layer (calls_of tale)
tales_call work tale m = calls_from work no_scene tale m
