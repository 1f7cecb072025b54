-- Submissions in a tale: those that have a place in the script, and those that are taken back.
use Rattle.std.proofs.Common.{◌≡◌, ◌⊎◌, ℕ, ◌+◌, ◌-◌, ◌<◌, ◌≤◌, count_by, true, false, List, [], ◌∷◌, ◌++◌, length, map, drop, Option, Some, None, inl, inr, refl, sym, ap, ◌∙◌, subst, arith}
use Rattle.std.specs.Prelude.{Bool}
use Rattle.std.proofs.lemmas.Bool.{cases_eq, cases_lt}
use Rattle.std.proofs.lemmas.List.{length-map, length-append, drop-append-le}
use Rattle.std.proofs.Math.ListN.{drop_of_length-le}
use Rattle.vq_model.specs.declared.script.Script.{Script}
use Rattle.vq_model.specs.Signals.{is_timeline_at, signals_semaphore}
use Rattle.vq_model.specs.Lowering.{plan_of}
use Rattle.vq_model.specs.Machine.{State}
use Rattle.vq_ground.proofs.Tests.{below_of_test}
use Rattle.vq_layer.specs.declared.answers.Wanted.{Wanted}
use Rattle.vq_layer.specs.declared.answers.Kind.TheVariants.{Timeline, Binary}
use Rattle.vq_layer.specs.declared.answers.Kind.{Kind}
use Rattle.vq_layer.specs.Layer.{Batch, Queue, kind_at, queue_at}
use Rattle.vq_layer.specs.Names.{merged_all, waits_named, signals_named, signal_named, is_named, with_signal, without_signal, next_number, last_number, first_used_signal, first_used_wait, signals_name, kinds_waited, kinds_unsignaled}
use Rattle.vq_layer.specs.Takes.{AreApart, signals_all}
use Rattle.vq_layer.specs.Queues.{newest, batch_made, with_batch, after_take_back}
use Rattle.vq_layer.specs.Calls.{after_submit, after_take_back_of, used_fault}
use Rattle.vq_layer.proofs.Cited.{count_taken, count_cancelled, apart_named}
use Rattle.vq_layer_laws.specs.Tied.{SignalApart, BatchesApart}
use Rattle.vq_layer_laws.specs.Runs.{submits, takes_back, MayCall}
use Rattle.vq_layer_laws.proofs.Cited.{closed_counted, closed_uncounted, counted_count, uncounted_count, waited_count, signals_apart, MayTakeBack, take_back_may, queue_same, queue_other, lived_call, MaySubmit, submit_may}
use Rattle.vq_layer_machine.specs.Tales.{Work, Told, Scene, layer_called, batch_tried, batch_taken_back, count_batches, count_released, AreClear, MayPlace, MayUndo, tried_in, signals_some, after_told}
use Rattle.vq_layer_machine.specs.Scripts.{renamed, batch_of}
use Rattle.vq_layer_machine.proofs.Jobs.{IsJob, rename_asked, batch_job, batch_count, batch_signals_are}
use Rattle.vq_layer_machine.proofs.Layers.{asked_for, asked_of, asked_in, asked_submitted, asked_unsubmitted, asked_taken_back, asked_left, named_fewer, AreNamed, named_weaker, named_push, waits_named_at, signals_named_at}
use Rattle.vq_layer_machine.proofs.Counted.{counted_before, counted_next, marks, none_named, one_named}
use Rattle.vq_layer_machine.proofs.Standing.{KindStands, HasRoom, bare, bare_waited, bare_unwaited, signaled_here, signaled_other, next_is, room_open, stands_submitted, AllAt, all_named, all_all, all_weaker_at, rooms, signals_are, apart_are, apart_renamed, named_are, named_renamed, unnamed_past, waits_open, exists_open}
use Rattle.vq_layer_machine.proofs.Tried.{KindNear, near_bare, near_same, near_stands, near_binary, near_low, near_most, near_more, near_less, stands_near, numbered, numbered_bare, numbered_low, numbered_signal, Carries, SomeCarries, Tries, KeptNumber, ClearNumber, tries_kept, tries_more, tries_less, carries_name, carries_last, some_name, apart_left, named_carries, last_carried, unsignaled_here, unsignaled_other, tried_last, made_ahead, made_carries}
use Rattle.vq_layer_machine.proofs.Ties.{IsOpen, KeepsNames, Ties, put_each, jobs_count}
use Rattle.vq_layer_machine.proofs.Calls.{submit_told, tried_told, undone_told}
use Rattle.vq_layer_machine.proofs.Going.{Stands, Next, next_job, Follows, goes_with}

module _ (work : Work) (s : Script) (sc : Scene) (st : State) (tale : List Told) (keeps : KeepsNames work sc) (ties : Ties work (plan_of s) sc st.progress) where
  placed_within : (q : ℕ) → length (sc.places q) ≤ count_batches sc.layer q
  placed_within q =
      let few = jobs_count (plan_of s) (q + 1) (map (rename_asked sc.names) (asked_in work q sc.layer)) (sc.places q) (ties.jobs q) in
      let sizes = length-map (asked_in work q sc.layer) (rename_asked sc.names) ∙ length-map (queue_at sc.layer.queues q).batches (asked_of work) in
      omega arith

  -- A number that no batch signals that is taken back stands for what the script has.
  clear_none : {t : Told} → Stands work s sc (t ∷ tale) → (n : ℕ) → IsOpen sc.layer n → is_timeline_at s (sc.names n) ≡ false → (kind_at sc.layer.kinds n ≡ Timeline) ⊎ ((r : ℕ) → signals_some n (tried_in sc r) ≡ false) → (r u : ℕ) → SomeCarries n u (tried_in sc r) → ⊥
  clear_none k n o b (inl e) r u c =
      let binary = near_binary s sc.next.job (sc.names n) (kind_at sc.layer.kinds n) (k.kinds n o) b in
      let is = binary.is in
      let both : Binary binary.signals binary.taken ≡ Timeline = sym is ∙ e in
      cc
  clear_none k n o b (inr f) r u c = let both : true ≡ false = sym (some_name n u (tried_in sc r) c) ∙ f r in cc

  clear_one : {t : Told} → Stands work s sc (t ∷ tale) → (n : ℕ) → IsOpen sc.layer n → (kind_at sc.layer.kinds n ≡ Timeline) ⊎ ((r : ℕ) → signals_some n (tried_in sc r) ≡ false) → KindStands s sc.next.job (sc.names n) (kind_at sc.layer.kinds n)
  clear_one k n o f = stands_near s sc.next.job (sc.names n) (kind_at sc.layer.kinds n) (k.kinds n o) (λ b. low b (cases_lt (counted_before s (sc.names n) sc.next.job) (numbered (kind_at sc.layer.kinds n))))
    where
      low : is_timeline_at s (sc.names n) ≡ false → (counted_before s (sc.names n) sc.next.job < numbered (kind_at sc.layer.kinds n)) ⊎ (numbered (kind_at sc.layer.kinds n) ≤ counted_before s (sc.names n) sc.next.job) → numbered (kind_at sc.layer.kinds n) ≤ counted_before s (sc.names n) sc.next.job
      low b (inl l) =
          let c = k.tries.carried n (numbered (kind_at sc.layer.kinds n)) o b l (omega arith) in
          absurd (clear_none k n o b f c.queue (numbered (kind_at sc.layer.kinds n)) c.there)
      low b (inr l) = l

  clear_stand : {t : Told} → Stands work s sc (t ∷ tale) → (ws : List Wanted) → AreClear sc ws → AllAt (IsOpen sc.layer) ws → AllAt (λ n. KindStands s sc.next.job (sc.names n) (kind_at sc.layer.kinds n)) ws
  clear_stand k [] f o = tt
  clear_stand k (w ∷ ws) f o = (clear_one k w.timeline o.0 f.0, clear_stand k ws f.1 o.1)

  clear_all : (ws : List Wanted) → AreClear sc ws → AllAt (λ n. (kind_at sc.layer.kinds n ≡ Timeline) ⊎ ((r : ℕ) → signals_some n (tried_in sc r) ≡ false)) ws
  clear_all [] f = tt
  clear_all (w ∷ ws) f = (f.0, clear_all ws f.1)

  module _ (q token : ℕ) (waits signals : List Wanted) (m : MayCall sc.layer (submits q token waits signals)) where
    may : MaySubmit sc.layer q waits signals
    may = submit_may sc.layer q waits signals m

    exists_queue : q < length sc.layer.queues
    exists_queue = below_of_test q (length sc.layer.queues) may.queue

    was_open : (n : ℕ) → IsOpen (after_submit sc.layer q token waits signals) n → IsOpen sc.layer n
    was_open n o = sym (closed_counted sc.layer.kinds waits (signals_named sc.layer.kinds signals) n) ∙ o

    stays_open : (n : ℕ) → IsOpen sc.layer n → IsOpen (after_submit sc.layer q token waits signals) n
    stays_open n o = closed_counted sc.layer.kinds waits (signals_named sc.layer.kinds signals) n ∙ o

    apart : AreApart (merged_all [] signals)
    apart = apart_are sc.layer.kinds waits signals may.signaled

    named_is : signals_named sc.layer.kinds signals ≡ map (signal_named sc.layer.kinds) (merged_all [] signals)
    named_is = signals_are sc.layer.kinds waits signals may.signaled

    room : AllAt (λ n. HasRoom (kind_at sc.layer.kinds n)) (merged_all [] signals)
    room = all_all (λ n. HasRoom (kind_at sc.layer.kinds n)) [] signals tt (rooms sc.layer.kinds waits signals may.signaled)

    opens_all : AllAt (IsOpen sc.layer) (merged_all [] signals)
    opens_all = all_weaker_at (λ n. HasRoom (kind_at sc.layer.kinds n)) (IsOpen sc.layer) (merged_all [] signals) (λ n r. room_open (kind_at sc.layer.kinds n) r) room

    signals_all_open : AllAt (IsOpen sc.layer) signals
    signals_all_open = all_weaker_at (λ n. HasRoom (kind_at sc.layer.kinds n)) (IsOpen sc.layer) signals (λ n h. room_open (kind_at sc.layer.kinds n) h) (rooms sc.layer.kinds waits signals may.signaled)

    clear_named : (n : ℕ) → is_named n (merged_all [] signals) ≡ true → AreClear sc signals → (kind_at sc.layer.kinds n ≡ Timeline) ⊎ ((r : ℕ) → signals_some n (tried_in sc r) ≡ false)
    clear_named n e f =
        all_named (λ i. (kind_at sc.layer.kinds i ≡ Timeline) ⊎ ((r : ℕ) → signals_some i (tried_in sc r) ≡ false)) (merged_all [] signals) n
        (all_all (λ i. (kind_at sc.layer.kinds i ≡ Timeline) ⊎ ((r : ℕ) → signals_some i (tried_in sc r) ≡ false)) [] signals tt (clear_all signals f)) e

    abbrev made : Batch
    made = batch_made sc.layer.timelines token (waits_named sc.layer.kinds waits) (signals_named sc.layer.kinds signals)

    waits_all_open : AllAt (IsOpen sc.layer) waits
    waits_all_open = waits_open sc.layer.kinds waits may.waited

    -- what is named is open
    named : (r : ℕ) → (r ≡ q) ⊎ (r ≡ q → ⊥) → AreNamed (IsOpen sc.layer) (asked_in work r (after_submit sc.layer q token waits signals))
    named r (inl e) =
        subst (λ (i : ℕ). AreNamed (IsOpen sc.layer) (asked_in work i (after_submit sc.layer q token waits signals))) (sym e)
        (subst (AreNamed (IsOpen sc.layer)) (sym (asked_submitted work sc.layer q token waits signals exists_queue))
        (named_push (IsOpen sc.layer) (asked_in work q sc.layer) (asked_for work sc.layer.kinds token waits signals) (keeps.named q) (waits_named_at (IsOpen sc.layer) sc.layer.kinds waits waits_all_open)
        (subst (AllAt (IsOpen sc.layer)) (sym named_is) (signals_named_at (IsOpen sc.layer) sc.layer.kinds (merged_all [] signals) opens_all))))
    named r (inr ne) = subst (AreNamed (IsOpen sc.layer)) (sym (asked_unsubmitted work sc.layer q r token waits signals ne)) (keeps.named r)

    released_is : (r : ℕ) → count_released (after_submit sc.layer q token waits signals) r ≡ count_released sc.layer r
    released_is r =
        let b = batch_made sc.layer.timelines token (waits_named sc.layer.kinds waits) (signals_named sc.layer.kinds signals) in
        elim (cases_eq r q) [
          | inl e ↦
              ap (count_released (after_submit sc.layer q token waits signals)) e
              ∙ ap (λ (x : Queue). x.released) (queue_same sc.layer.queues q (with_batch (queue_at sc.layer.queues q) b) exists_queue)
              ∙ sym (ap (count_released sc.layer) e)
          | inr n ↦ ap (λ (x : Queue). x.released) (queue_other sc.layer.queues q r (with_batch (queue_at sc.layer.queues q) b) n)
        ]

    pub submission : MayPlace sc q waits signals → Stands work s sc (layer_called (submits q token waits signals) ∷ tale) → Follows work s sc st (layer_called (submits q token waits signals)) tale
    submission place k = record {
      goes = record { run = tt; ties = submit_told work (plan_of s) sc keeps st ties q token waits signals exists_queue place.each job };
      keeps = record {
        same = counted_count sc.layer.kinds waits (signals_named sc.layer.kinds signals) ∙ keeps.same ∙ sym (count_taken sc.layer.timelines (signals_named sc.layer.kinds signals));
        lived = lived_call sc.layer (submits q token waits signals) keeps.lived m;
        known = λ n o. keeps.known n (was_open n o);
        one_each = λ a b oa ob e. keeps.one_each a b (was_open a oa) (was_open b ob) e;
        named = λ r. named_weaker (IsOpen sc.layer) (IsOpen (after_submit sc.layer q token waits signals)) (asked_in work r (after_submit sc.layer q token waits signals)) stays_open (named r (cases_eq r q));
        released = put_each (λ r zs. count_released (after_submit sc.layer q token waits signals) r ≤ length zs) sc.places q (sc.places q ++ sc.next ∷ []) (let was = keeps.released q in let now = released_is q in let more = length-append (sc.places q) (sc.next ∷ []) in omega arith) (λ r n. let was = keeps.released r in let now = released_is r in omega arith);
      };
      stands = record {
        jobs = next.jobs;
        semaphores = k.semaphores;
        op = ap (λ (n : ℕ). sc.next.op + n) (sym (batch_count s sc.next.job sc.next.command sc.next.op q (work.commands token) sc.names waits (merged_all [] signals) next.is k.command k.op ∙ length-map (merged_all [] signals) (renamed sc.names))) ∙ next.op;
        command = next.command;
        kinds = kinds;
        tries = tries;
        unsignaled = λ x l. unnamed x (unnamed_past sc.names sc.opened x (merged_all [] signals) l (all_weaker_at (IsOpen sc.layer) (λ n. sc.names n < sc.opened) (merged_all [] signals) keeps.known opens_all)) ∙ k.unsignaled x l;
      };
    }
      where
        next : Next work s sc (layer_called (submits q token waits signals)) (batch_of q (work.commands token) (map (renamed sc.names) waits) (map (renamed sc.names) (merged_all [] signals))) tale
        next = next_job work s sc (layer_called (submits q token waits signals)) (batch_of q (work.commands token) (map (renamed sc.names) waits) (map (renamed sc.names) (merged_all [] signals))) tale refl k

        apart_names : AreApart (map (renamed sc.names) (merged_all [] signals))
        apart_names = apart_renamed (IsOpen sc.layer) sc.names keeps.one_each (merged_all [] signals) opens_all apart

        signals_stand : AllAt (λ n. KindStands s sc.next.job (sc.names n) (kind_at sc.layer.kinds n)) (merged_all [] signals)
        signals_stand = all_all (λ n. KindStands s sc.next.job (sc.names n) (kind_at sc.layer.kinds n)) [] signals tt (clear_stand k signals place.signaled signals_all_open)

        job : IsJob (plan_of s) (q + 1) (rename_asked sc.names (asked_for work sc.layer.kinds token waits signals)) sc.next
        job =
            batch_job s sc.next.job sc.next.command sc.next.op q (work.commands token) sc.names waits (merged_all [] signals) next.is k.command k.op sc.layer.kinds (signals_named sc.layer.kinds signals) apart_names named_is
            (clear_stand k waits place.waited waits_all_open)
            signals_stand
            room

        -- how many signals of a semaphore there are then
        counted_then : (x : ℕ) → counted_before s x (sc.next.job + 1) ≡ counted_before s x sc.next.job + count_by (signals_semaphore x) (marks sc.next.job (map (renamed sc.names) (merged_all [] signals)))
        counted_then x =
            counted_next s x sc.next.job (batch_of q (work.commands token) (map (renamed sc.names) waits) (map (renamed sc.names) (merged_all [] signals))) next.is
            ∙ ap (λ xs. counted_before s x sc.next.job + count_by (signals_semaphore x) xs) (batch_signals_are s sc.next.job sc.next.command sc.next.op q (work.commands token) sc.names waits (merged_all [] signals) next.is k.command k.op)

        unnamed : (x : ℕ) → is_named x (map (renamed sc.names) (merged_all [] signals)) ≡ false → counted_before s x (sc.next.job + 1) ≡ counted_before s x sc.next.job
        unnamed x e = let c = counted_then x in let z = none_named sc.next.job x (map (renamed sc.names) (merged_all [] signals)) e in omega arith

        there : (n : ℕ) → IsOpen sc.layer n → is_named (sc.names n) (map (renamed sc.names) (merged_all [] signals)) ≡ is_named n (signals_named sc.layer.kinds signals)
        there n o =
            named_renamed sc.names n (merged_all [] signals) (all_weaker_at (IsOpen sc.layer) (λ i. sc.names i ≡ sc.names n → i ≡ n) (merged_all [] signals) (λ i open_i e. keeps.one_each i n open_i o e) opens_all)
            ∙ sym (named_are sc.layer.kinds waits signals n may.signaled)

        named_stands : (n : ℕ) → IsOpen sc.layer n → is_named n (signals_named sc.layer.kinds signals) ≡ true → KindStands s (sc.next.job + 1) (sc.names n) (kind_at (after_submit sc.layer q token waits signals).kinds n)
        named_stands n o e =
            let names = named_are sc.layer.kinds waits signals n may.signaled in
            stands_submitted s sc.next.job (sc.names n) n sc.layer.kinds waits (signals_named sc.layer.kinds signals) (apart_named sc.layer.kinds signals) (exists_open sc.layer.kinds n o)
            (λ f. all_named (λ i. HasRoom (kind_at sc.layer.kinds i)) (merged_all [] signals) n room (sym names ∙ f))
            (λ f. unnamed (sc.names n) (there n o ∙ f))
            (λ f. (let c = counted_then (sc.names n) in let one = one_named sc.next.job (sc.names n) (map (renamed sc.names) (merged_all [] signals)) apart_names (there n o ∙ f) in omega arith))
            (all_named (λ i. KindStands s sc.next.job (sc.names i) (kind_at sc.layer.kinds i)) (merged_all [] signals) n signals_stand (sym names ∙ e))

        bare_same : (n : ℕ) → is_named n (signals_named sc.layer.kinds signals) ≡ false → bare (kind_at (after_submit sc.layer q token waits signals).kinds n) ≡ bare (kind_at sc.layer.kinds n)
        bare_same n e =
            ap bare (signaled_other (kinds_waited sc.layer.kinds waits) (signals_named sc.layer.kinds signals) n e) ∙ bare_waited sc.layer.kinds waits n

        kinds : (n : ℕ) → IsOpen (after_submit sc.layer q token waits signals) n → KindNear s (sc.next.job + 1) (sc.names n) (kind_at (after_submit sc.layer q token waits signals).kinds n)
        kinds n o = by_test (is_named n (signals_named sc.layer.kinds signals)) refl
          where
            by_test : (b : Bool) → is_named n (signals_named sc.layer.kinds signals) ≡ b → KindNear s (sc.next.job + 1) (sc.names n) (kind_at (after_submit sc.layer q token waits signals).kinds n)
            by_test true e =
                near_stands s (sc.next.job + 1) (sc.names n) (kind_at (after_submit sc.layer q token waits signals).kinds n) (named_stands n (was_open n o) e)
            by_test false e =
                near_bare s (sc.next.job + 1) (sc.names n) (kind_at sc.layer.kinds n) (kind_at (after_submit sc.layer q token waits signals).kinds n) (sym (bare_same n e))
                (near_same s sc.next.job (sc.next.job + 1) (sc.names n) (kind_at sc.layer.kinds n) (unnamed (sc.names n) (there n (was_open n o) ∙ e)) (k.kinds n (was_open n o)))

        tried_same : (r : ℕ) → tried_in (after_told work sc (layer_called (submits q token waits signals))) r ≡ tried_in sc r
        tried_same =
            put_each (λ r zs. drop (length zs) (queue_at (after_submit sc.layer q token waits signals).queues r).batches ≡ tried_in sc r) sc.places q (sc.places q ++ sc.next ∷ [])
            (let each = place.each in
            let now = ap (λ (x : Queue). x.batches) (queue_same sc.layer.queues q (with_batch (queue_at sc.layer.queues q) made) exists_queue) in
            let more = length-append (sc.places q) (sc.next ∷ []) in
            let longer = length-append (queue_at sc.layer.queues q).batches (made ∷ []) in
            ap (drop (length (sc.places q ++ sc.next ∷ []))) now
            ∙ drop_of_length-le ((queue_at sc.layer.queues q).batches ++ made ∷ []) (omega arith)
            ∙ sym (drop_of_length-le (queue_at sc.layer.queues q).batches (omega arith)))
            (λ r n. ap (λ (x : Queue). drop (length (sc.places r)) x.batches) (queue_other sc.layer.queues q r (with_batch (queue_at sc.layer.queues q) made) n))

        tries : Tries s (after_told work sc (layer_called (submits q token waits signals)))
        tries = tries_kept s sc (after_told work sc (layer_called (submits q token waits signals))) k.tries tried_same (λ n o b. each n (was_open n o) b (is_named n (signals_named sc.layer.kinds signals)) refl)
          where
            each : (n : ℕ) → IsOpen sc.layer n → is_timeline_at s (sc.names n) ≡ false → (c : Bool) → is_named n (signals_named sc.layer.kinds signals) ≡ c → KeptNumber s sc (after_told work sc (layer_called (submits q token waits signals))) n ⊎ ClearNumber s sc (after_told work sc (layer_called (submits q token waits signals))) n
            each n o b true e = inr (record {
              none = λ r u c. clear_none k n o b (clear_named n (sym (named_are sc.layer.kinds waits signals n may.signaled) ∙ e) place.signaled) r u c;
              all = numbered_low s (sc.next.job + 1) (sc.names n) (kind_at (after_submit sc.layer q token waits signals).kinds n) (named_stands n o e);
            })
            each n o b false e = inl (record {
              was = o;
              binary = b;
              count = unnamed (sc.names n) (there n o ∙ e);
              kind = numbered_bare (kind_at (after_submit sc.layer q token waits signals).kinds n) (kind_at sc.layer.kinds n) (bare_same n e);
            })

    -- a batch that is taken back
    pub trying : Stands work s sc (batch_tried q token waits signals ∷ tale) → Follows work s sc st (batch_tried q token waits signals) tale
    trying k =
        goes_with work s sc st tale keeps ties (batch_tried q token waits signals) (after_submit sc.layer q token waits signals) sc.places sc.running refl
        (record { run = tt; ties = tried_told work (plan_of s) sc keeps st ties q token waits signals exists_queue }) refl refl
        (record {
          same = counted_count sc.layer.kinds waits (signals_named sc.layer.kinds signals) ∙ keeps.same ∙ sym (count_taken sc.layer.timelines (signals_named sc.layer.kinds signals));
          lived = lived_call sc.layer (submits q token waits signals) keeps.lived m;
          known = λ n o. keeps.known n (was_open n o);
          one_each = λ x y ox oy e. keeps.one_each x y (was_open x ox) (was_open y oy) e;
          named = λ r. named_weaker (IsOpen sc.layer) (IsOpen (after_submit sc.layer q token waits signals)) (asked_in work r (after_submit sc.layer q token waits signals)) stays_open (named r (cases_eq r q));
          released = λ r. let was = keeps.released r in let now = released_is r in omega arith;
        })
        (λ n o. kinds n (was_open n o) (is_named n (signals_named sc.layer.kinds signals)) refl)
        (tries_more s sc (record sc { layer = after_submit sc.layer q token waits signals }) q made k.tries pushed_here others (signals_apart sc.layer.timelines (signals_named sc.layer.kinds signals) (apart_named sc.layer.kinds signals)) was_open (λ n. refl) refl low high) k
      where
        -- what a named binary semaphore counts then
        counts : (n x u : ℕ) → kind_at sc.layer.kinds n ≡ Binary x u → IsOpen sc.layer n → is_named n (signals_named sc.layer.kinds signals) ≡ true → (c : Kind) × (kind_at (after_submit sc.layer q token waits signals).kinds n ≡ with_signal c) × (bare c ≡ Binary x 0)
        counts n x u e o f =
            let size = waited_count sc.layer.kinds waits in
            let exists = exists_open sc.layer.kinds n o in (
              kind_at (kinds_waited sc.layer.kinds waits) n,
              signaled_here (kinds_waited sc.layer.kinds waits) (signals_named sc.layer.kinds signals) n (apart_named sc.layer.kinds signals) (omega arith) f,
              bare_waited sc.layer.kinds waits n ∙ ap bare e,
            )

        room_at : (n x u : ℕ) → kind_at sc.layer.kinds n ≡ Binary x u → is_named n (signals_named sc.layer.kinds signals) ≡ true → x ≤ last_number → (next_number x ≡ x + 1) × (x + 1 ≤ last_number)
        room_at n x u e f l =
            next_is x l (subst HasRoom e (all_named (λ i. HasRoom (kind_at sc.layer.kinds i)) (merged_all [] signals) n room (sym (named_are sc.layer.kinds waits signals n may.signaled) ∙ f)))

        kinds : (n : ℕ) → IsOpen sc.layer n → (b : Bool) → is_named n (signals_named sc.layer.kinds signals) ≡ b → KindNear s sc.next.job (sc.names n) (kind_at (after_submit sc.layer q token waits signals).kinds n)
        kinds n o false e =
            near_bare s sc.next.job (sc.names n) (kind_at sc.layer.kinds n) (kind_at (after_submit sc.layer q token waits signals).kinds n) (sym (ap bare (signaled_other (kinds_waited sc.layer.kinds waits) (signals_named sc.layer.kinds signals) n e) ∙ bare_waited sc.layer.kinds waits n)) (k.kinds n o)
        kinds n o true e =
            near_more s sc.next.job (sc.names n) (kind_at sc.layer.kinds n) (kind_at (kinds_waited sc.layer.kinds waits) n) (kind_at (after_submit sc.layer q token waits signals).kinds n) (sym (bare_waited sc.layer.kinds waits n))
            (let size = waited_count sc.layer.kinds waits in
            let exists = exists_open sc.layer.kinds n o in
            signaled_here (kinds_waited sc.layer.kinds waits) (signals_named sc.layer.kinds signals) n (apart_named sc.layer.kinds signals) (omega arith) e)
            (all_named (λ i. HasRoom (kind_at sc.layer.kinds i)) (merged_all [] signals) n room (sym (named_are sc.layer.kinds waits signals n may.signaled) ∙ e)) (k.kinds n o)

        pushed_here : tried_in (record sc { layer = after_submit sc.layer q token waits signals }) q ≡ tried_in sc q ++ made ∷ []
        pushed_here =
            ap (λ (x : Queue). drop (length (sc.places q)) x.batches) (queue_same sc.layer.queues q (with_batch (queue_at sc.layer.queues q) made) exists_queue)
            ∙ drop-append-le (length (sc.places q)) (queue_at sc.layer.queues q).batches (made ∷ []) (placed_within q)

        others : (r : ℕ) → (r ≡ q → ⊥) → tried_in (record sc { layer = after_submit sc.layer q token waits signals }) r ≡ tried_in sc r
        others r ne = ap (λ (x : Queue). drop (length (sc.places r)) x.batches) (queue_other sc.layer.queues q r (with_batch (queue_at sc.layer.queues q) made) ne)

        signals_is : made.signals ≡ signals_all sc.layer.timelines (map (signal_named sc.layer.kinds) (merged_all [] signals))
        signals_is = ap (signals_all sc.layer.timelines) named_is

        low : (n v : ℕ) → IsOpen sc.layer n → is_timeline_at s (sc.names n) ≡ false → Carries n v made.signals → counted_before s (sc.names n) sc.next.job < v
        low n v o b c =
            let binary = near_binary s sc.next.job (sc.names n) (kind_at sc.layer.kinds n) (k.kinds n o) b in
            let ahead = made_ahead sc.layer.timelines sc.layer.kinds (merged_all [] signals) n v binary.signals binary.taken binary.is (subst (Carries n v) signals_is c) in
            let near = near_low s sc.next.job (sc.names n) (kind_at sc.layer.kinds n) (k.kinds n o) b in
            let most = near_most s sc.next.job (sc.names n) (kind_at sc.layer.kinds n) (k.kinds n o) in
            let few = ap numbered binary.is in
            let next = room_at n binary.signals binary.taken binary.is (ap (is_named n) named_is ∙ ahead.1) (omega arith) in
            let up = next.0 in
            let value = ahead.0 in
            omega arith

        high : (n v : ℕ) → IsOpen sc.layer n → is_timeline_at s (sc.names n) ≡ false → v ≤ numbered (kind_at (after_submit sc.layer q token waits signals).kinds n) → (v ≤ numbered (kind_at sc.layer.kinds n)) ⊎ Carries n v made.signals
        high n v o b u = by_test (is_named n (signals_named sc.layer.kinds signals)) refl
          where
            by_test : (t : Bool) → is_named n (signals_named sc.layer.kinds signals) ≡ t → (v ≤ numbered (kind_at sc.layer.kinds n)) ⊎ Carries n v made.signals
            by_test false e =
                let same = numbered_bare (kind_at (after_submit sc.layer q token waits signals).kinds n) (kind_at sc.layer.kinds n) (ap bare (signaled_other (kinds_waited sc.layer.kinds waits) (signals_named sc.layer.kinds signals) n e) ∙ bare_waited sc.layer.kinds waits n) in
                inl (omega arith)
            by_test true e =
                let binary = near_binary s sc.next.job (sc.names n) (kind_at sc.layer.kinds n) (k.kinds n o) b in
                let most = near_most s sc.next.job (sc.names n) (kind_at sc.layer.kinds n) (k.kinds n o) in
                let few = ap numbered binary.is in
                let next = room_at n binary.signals binary.taken binary.is e (omega arith) in
                let up = next.0 in
                let there = counts n binary.signals binary.taken binary.is o e in
                let now = ap numbered there.1 ∙ numbered_signal there.0 binary.signals there.2 in
                elim (cases_lt (numbered (kind_at sc.layer.kinds n)) v) [
                  | inl l ↦
                      let same : next_number binary.signals ≡ v = omega arith in
                      inr (subst (Carries n v) (sym signals_is) (subst (λ (i : ℕ). Carries n i (signals_all sc.layer.timelines (map (signal_named sc.layer.kinds) (merged_all [] signals)))) same (made_carries sc.layer.timelines sc.layer.kinds (merged_all [] signals) n binary.signals binary.taken binary.is (sym (ap (is_named n) named_is) ∙ e))))
                  | inr l ↦ inl l
                ]

  -- and is taken back then
  pub undoing : (q : ℕ) → MayUndo sc q → Stands work s sc (batch_taken_back q ∷ tale) → Follows work s sc st (batch_taken_back q) tale
  undoing q m k =
      goes_with work s sc st tale keeps ties (batch_taken_back q) (after_take_back_of sc.layer q b) sc.places sc.running refl
      (record { run = tt; ties = undone_told work (plan_of s) sc keeps st ties q b may.exists m.tried }) refl refl
      (record {
        same = uncounted_count sc.layer.kinds b.signals b.waits ∙ keeps.same ∙ sym (count_cancelled sc.layer.timelines b.signals);
        lived = lived_call sc.layer (takes_back q) keeps.lived m.may;
        known = λ n o. keeps.known n (open_before_it n o);
        one_each = λ x y ox oy e. keeps.one_each x y (open_before_it x ox) (open_before_it y oy) e;
        named = λ r. named_weaker (IsOpen sc.layer) (IsOpen (after_take_back_of sc.layer q b)) (asked_in work r (after_take_back_of sc.layer q b)) open_after_it (left r (cases_eq r q));
        released = λ r. released r (cases_eq r q);
      })
      (λ n o. kinds n (open_before_it n o) (signals_name n b.signals) refl)
      (tries_less s sc (record sc { layer = after_take_back_of sc.layer q b }) q b k.tries popped others open_before_it (λ n. refl) refl high) k
    where
      b : Batch
      b = newest (queue_at sc.layer.queues q)

      may : MayTakeBack sc.layer q
      may = take_back_may sc.layer q m.may

      open_before_it : (n : ℕ) → IsOpen (after_take_back_of sc.layer q b) n → IsOpen sc.layer n
      open_before_it n o = sym (closed_uncounted sc.layer.kinds b.signals b.waits n) ∙ o

      open_after_it : (n : ℕ) → IsOpen sc.layer n → IsOpen (after_take_back_of sc.layer q b) n
      open_after_it n o = closed_uncounted sc.layer.kinds b.signals b.waits n ∙ o

      left : (r : ℕ) → (r ≡ q) ⊎ (r ≡ q → ⊥) → AreNamed (IsOpen sc.layer) (asked_in work r (after_take_back_of sc.layer q b))
      left r (inl e) =
          subst (λ (i : ℕ). AreNamed (IsOpen sc.layer) (asked_in work i (after_take_back_of sc.layer q b))) (sym e)
          (subst (AreNamed (IsOpen sc.layer)) (sym (asked_taken_back work sc.layer q b may.exists)) (named_fewer (IsOpen sc.layer) (count_batches sc.layer q - 1) (asked_in work q sc.layer) (keeps.named q)))
      left r (inr ne) = subst (AreNamed (IsOpen sc.layer)) (sym (asked_left work sc.layer q r b ne)) (keeps.named r)

      released : (r : ℕ) → (r ≡ q) ⊎ (r ≡ q → ⊥) → count_released (after_take_back_of sc.layer q b) r ≤ length (sc.places r)
      released r (inl e) =
          let same = ap (λ (x : Queue). x.released) (queue_same sc.layer.queues q (after_take_back (queue_at sc.layer.queues q)) may.exists) in
          let was = keeps.released q in
          subst (λ (i : ℕ). count_released (after_take_back_of sc.layer q b) i ≤ length (sc.places i)) (sym e) (omega arith)
      released r (inr ne) =
          let same = ap (λ (x : Queue). x.released) (queue_other sc.layer.queues q r (after_take_back (queue_at sc.layer.queues q)) ne) in
          let was = keeps.released r in
          omega arith

      popped : tried_in sc q ≡ tried_in (record sc { layer = after_take_back_of sc.layer q b }) q ++ b ∷ []
      popped =
          tried_last (length (sc.places q)) (queue_at sc.layer.queues q).batches m.tried
          ∙ ap (λ (x : Queue). drop (length (sc.places q)) x.batches ++ b ∷ []) (sym (queue_same sc.layer.queues q (after_take_back (queue_at sc.layer.queues q)) may.exists))

      others : (r : ℕ) → (r ≡ q → ⊥) → tried_in (record sc { layer = after_take_back_of sc.layer q b }) r ≡ tried_in sc r
      others r ne = ap (λ (x : Queue). drop (length (sc.places r)) x.batches) (queue_other sc.layer.queues q r (after_take_back (queue_at sc.layer.queues q)) ne)

      apart : SignalApart b.signals
      apart = (apart_left (tried_in (record sc { layer = after_take_back_of sc.layer q b }) q) b (subst BatchesApart popped (k.tries.apart q))).1

      unused : first_used_signal sc.layer.kinds b.signals ≡ None
      unused = by_used (first_used_signal sc.layer.kinds b.signals) (first_used_wait sc.layer.kinds b.signals b.waits) may.unused
        where
          by_used : (x y : Option ℕ) → used_fault x y ≡ None → x ≡ None
          by_used None y e = refl
          by_used (Some n) y e = absurd (cc)

      carries : (n v : ℕ) → Carries n v b.signals → SomeCarries n v (tried_in sc q)
      carries n v c = subst (SomeCarries n v) (sym popped) (carries_last n v (tried_in (record sc { layer = after_take_back_of sc.layer q b }) q) b c)

      -- what is left of a signaled number
      here : (n : ℕ) → IsOpen sc.layer n → signals_name n b.signals ≡ true → bare (kind_at (after_take_back_of sc.layer q b).kinds n) ≡ bare (without_signal (kind_at sc.layer.kinds n))
      here n o e =
          bare_unwaited (kinds_unsignaled sc.layer.kinds b.signals) b.waits n
          ∙ ap bare (unsignaled_here sc.layer.kinds b.signals n apart (exists_open sc.layer.kinds n o) e)

      elsewhere : (n : ℕ) → signals_name n b.signals ≡ false → bare (kind_at (after_take_back_of sc.layer q b).kinds n) ≡ bare (kind_at sc.layer.kinds n)
      elsewhere n e =
          bare_unwaited (kinds_unsignaled sc.layer.kinds b.signals) b.waits n ∙ ap bare (unsignaled_other sc.layer.kinds b.signals n e)

      kinds : (n : ℕ) → IsOpen sc.layer n → (t : Bool) → signals_name n b.signals ≡ t → KindNear s sc.next.job (sc.names n) (kind_at (after_take_back_of sc.layer q b).kinds n)
      kinds n o false e =
          near_bare s sc.next.job (sc.names n) (kind_at sc.layer.kinds n) (kind_at (after_take_back_of sc.layer q b).kinds n) (sym (elsewhere n e)) (k.kinds n o)
      kinds n o true e =
          near_bare s sc.next.job (sc.names n) (without_signal (kind_at sc.layer.kinds n)) (kind_at (after_take_back_of sc.layer q b).kinds n) (sym (here n o e))
          (near_less s sc.next.job (sc.names n) (kind_at sc.layer.kinds n) (k.kinds n o) (λ x u f g. (let c = named_carries n b.signals e in let same = last_carried sc.layer.kinds b.signals n c.0 x u unused f c.1 in let low = k.tries.ahead n q c.0 o g (carries n c.0 c.1) in omega arith)))

      high : (n v : ℕ) → IsOpen sc.layer n → is_timeline_at s (sc.names n) ≡ false → counted_before s (sc.names n) sc.next.job < v → v ≤ numbered (kind_at (after_take_back_of sc.layer q b).kinds n) → (v ≤ numbered (kind_at sc.layer.kinds n)) × (Carries n v b.signals → ⊥)
      high n v o t l u = by_test (signals_name n b.signals) refl
        where
          by_test : (c : Bool) → signals_name n b.signals ≡ c → (v ≤ numbered (kind_at sc.layer.kinds n)) × (Carries n v b.signals → ⊥)
          by_test false e =
              let same = numbered_bare (kind_at (after_take_back_of sc.layer q b).kinds n) (kind_at sc.layer.kinds n) (elsewhere n e) in
              (omega arith, λ c. (let both : true ≡ false = sym (carries_name n v b.signals c) ∙ e in cc))
          by_test true e =
              let binary = near_binary s sc.next.job (sc.names n) (kind_at sc.layer.kinds n) (k.kinds n o) t in
              let few = ap numbered binary.is in
              let now = numbered_bare (kind_at (after_take_back_of sc.layer q b).kinds n) (without_signal (kind_at sc.layer.kinds n)) (here n o e) ∙ ap (λ (c : Kind). numbered (without_signal c)) binary.is in
              (omega arith, λ c. (let same = last_carried sc.layer.kinds b.signals n v binary.signals binary.taken unused binary.is c in omega arith))
