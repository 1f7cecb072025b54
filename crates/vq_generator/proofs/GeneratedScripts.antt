-- Each generated script keeps the rules of the format, so it can be written.
use Rattle.std.proofs.Common.{ℕ, zero, suc, ◌≡◌, ◌<◌, ◌≤◌, ◌≢◌, ◌+◌, ◌-◌, ◌*◌, ◌%◌, ◌^◌, Bool, true, false, not, ◌&&◌, ◌==◌, List, [], ◌∷◌, ◌++◌, length, length-append, map, refl, ap, ◌∙◌, arith, sum, flat_map, filter, cond, inl}
use Rattle.std.specs.Prelude.{nat_lt}
use Rattle.std.specs.List.{AllByRecursion as Every, range_with_len}
use Rattle.std.proofs.lemmas.List.{length-map, map-append}
use Rattle.std.proofs.lemmas.List.Sums.{length-filter, count_by-le-length, sum_by-append}
use Rattle.std.proofs.lemmas.Bool.{and_from, lt-ltb, eq-eqb, false_from_ne_true, eqb-true, ltb-true}
use Rattle.vq_ground.proofs.Every.{every_append}
use Rattle.vq_model.specs.declared.script.Buffer.{Buffer}
use Rattle.vq_model.specs.declared.script.Semaphore.{Semaphore}
use Rattle.vq_model.specs.declared.script.Job.{Job}
use Rattle.vq_model.specs.Limits.{limits_of}
use Rattle.vq_model.specs.Lowering.{commands_in}
use Rattle.vq_model.specs.Ranges.{is_aligned}
use Rattle.vq_model.specs.SameScript.{IsScript, job_without_lines}
use Rattle.vq_canonical_laws.specs.FormatRules.{KeepsRules, JobFits, IsWaitOf, IsSignalOf, IsCommandOf, HasValue}
use Rattle.vq_model.specs.LineFaults.{is_within}
use Rattle.vq_model.specs.Context.{size_in}
use Rattle.vq_canonical_laws.proofs.Cited.{ruled_is_written}
use Rattle.vq_generator.specs.Generated.{buffer_names, timeline_names, small_buffer, timeline_from_zero, generated_script, generated_round, generated_batch, mark_at, others, buffer_in_round, copy_of_round, fill_of_round}

-- What is declared

abbrev generated_buffers : List Buffer
generated_buffers = map small_buffer buffer_names

abbrev generated_timelines : List Semaphore
generated_timelines = map timeline_from_zero timeline_names

-- each buffer has 64 bytes
size_of : (b : ℕ) → b < 8 → size_in generated_buffers b ≡ 64
size_of zero l = refl
size_of (suc zero) l = refl
size_of (suc (suc zero)) l = refl
size_of (suc (suc (suc zero))) l = refl
size_of (suc (suc (suc (suc zero)))) l = refl
size_of (suc (suc (suc (suc (suc zero))))) l = refl
size_of (suc (suc (suc (suc (suc (suc zero)))))) l = refl
size_of (suc (suc (suc (suc (suc (suc (suc zero))))))) l = refl
size_of (suc (suc (suc (suc (suc (suc (suc (suc b)))))))) l = absurd (omega arith)

-- each timeline takes a value
mark_fits : (value t : ℕ) → value < 2 ^ 64 → t < 4 →
    IsSignalOf generated_timelines (mark_at value t)
mark_fits value zero v l = (record { semaphore = _; there = refl; takes = v }, refl)
mark_fits value (suc zero) v l = (record { semaphore = _; there = refl; takes = v }, refl)
mark_fits value (suc (suc zero)) v l = (record { semaphore = _; there = refl; takes = v }, refl)
mark_fits value (suc (suc (suc zero))) v l = (record { semaphore = _; there = refl; takes = v }, refl)
mark_fits value (suc (suc (suc (suc t)))) v l = absurd (omega arith)

-- waits for it hold back a whole batch
waits_fit : (n commands value : ℕ) (ts : List ℕ) → value < 2 ^ 64 → Every (λ t. t < 4) ts →
    Every (IsWaitOf (generated_script n) commands) (map (mark_at value) ts)
waits_fit n commands value [] v h = tt
waits_fit n commands value (t ∷ ts) v h = (
  record {
    marked = (mark_fits value t v h.0).0;
    held = record { counted = omega arith; whole = λ e. refl };
    near = omega arith;
  },
  waits_fit n commands value ts v h.1,
)

-- what is made of each of some names
all_made : {A : Type 0} (P : A → Type 0) (made : List ℕ → A) (names : List (List ℕ)) →
    ((name : List ℕ) → P (made name)) → Every P (map made names)
all_made P made [] h = tt
all_made P made (name ∷ names) h = (h name, all_made P made names h)

-- The commands of a batch

-- bytes of a buffer
within : (b o n : ℕ) → b < 8 → 0 < n → o + n ≤ 64 → is_within generated_buffers b o n ≡ true
within b o n l some fits =
    ap (λ (size : ℕ). nat_lt o size && nat_lt 0 n && not (nat_lt size (o + n))) (size_of b l)
    ∙ and_from (nat_lt o 64 && nat_lt 0 n) (not (nat_lt 64 (o + n)))
    (and_from (nat_lt o 64) (nat_lt 0 n) (lt-ltb o 64 (omega arith)) (lt-ltb 0 n some))
    (ap not (false_from_ne_true (nat_lt 64 (o + n)) (λ e. let m = ltb-true 64 (o + n) e in omega arith)))

-- a place of a word
aligned : (k : ℕ) → is_aligned (4 * k) ≡ true
aligned k = eq-eqb (4 * k % 4) 0 (omega arith)

apart : (a b : ℕ) → a ≢ b → (a == b) ≡ false
apart a b ne = false_from_ne_true (a == b) (λ e. ne (eqb-true a b e))

copy_fits : (r q : ℕ) → q < 4 → IsCommandOf generated_buffers (copy_of_round r q)
copy_fits r q l =
    let source = buffer_in_round (r - 1) ((q + 1) % 4) in
    let target = buffer_in_round r q in
    record {
      range = and_from (is_within generated_buffers source 0 64)
          (is_within generated_buffers target 0 64)
          (within source 0 64 (omega arith) (omega arith) (omega arith))
          (within target 0 64 (omega arith) (omega arith) (omega arith));
      apart = ap (λ (b : Bool). b && true) (apart target source (λ e. omega arith));
      numerals = (omega arith, omega arith, omega arith);
    }

fill_fits : (r q : ℕ) → r ≤ 500 → q < 4 → IsCommandOf generated_buffers (fill_of_round r q)
fill_fits r q last l =
    let target = buffer_in_round r q in
    let o = 4 * (r % 16) in
    record {
      range = and_from (is_within generated_buffers target o 4 && is_aligned o) true
          (and_from (is_within generated_buffers target o 4) (is_aligned o)
          (within target o 4 (omega arith) (omega arith) (omega arith)) (aligned (r % 16))) refl;
      apart = refl;
      numerals = (omega arith, omega arith, omega arith);
    }

-- The batches

-- what is kept of numbers below 4
kept_below : (test : ℕ → Bool) (ts : List ℕ) → Every (λ t. t < 4) ts →
    Every (λ t. t < 4) (filter test ts)
kept_below test [] h = tt
kept_below test (t ∷ ts) h = by_test (test t) (kept_below test ts h.1)
  where
    by_test : (b : Bool) → Every (λ t. t < 4) (filter test ts) →
        Every (λ t. t < 4) (cond b (t ∷ filter test ts) (filter test ts))
    by_test true rest = (h.0, rest)
    by_test false rest = rest

pub others_below : (q : ℕ) → Every (λ t. t < 4) (others q)
others_below q =
    kept_below (λ other. not (other == q)) (range_with_len 0 4)
    (omega arith, (omega arith, (omega arith, (omega arith, tt))))

pub few_others : (r q : ℕ) → length (map (mark_at (r - 1)) (others q)) ≤ (limits_of 1).waits
few_others r q =
    let same = length-map (others q) (mark_at (r - 1)) in
    let counted = length-filter (λ other. not (other == q)) (range_with_len 0 4) in
    let few = count_by-le-length (λ other. not (other == q)) (range_with_len 0 4) in
    omega arith

batch_fits : (n r q : ℕ) → 1 ≤ r → r ≤ 500 → q < 4 →
    JobFits (generated_script n) (generated_batch r q)
batch_fits n r q first last l =
    record {
      queue = l;
      waits = waits_fit n 2 (r - 1) (others q) (omega arith) (others_below q);
      commands = (copy_fits r q l, (fill_fits r q last l, tt));
      signals = (mark_fits r q (omega arith) l, tt);
      fence = tt;
      few_waits = few_others r q;
      few_commands = omega arith;
      few_signals = omega arith;
    }

round_fits : (n r : ℕ) → 1 ≤ r → r ≤ 500 → Every (JobFits (generated_script n)) (generated_round r)
round_fits n r first last = (
  batch_fits n r 0 first last (omega arith),
  (
    batch_fits n r 1 first last (omega arith),
    (batch_fits n r 2 first last (omega arith), (batch_fits n r 3 first last (omega arith), tt)),
  ),
)

-- The rounds

rounds_fit : (n a m : ℕ) → 1 ≤ a → a + m ≤ 501 →
    Every (JobFits (generated_script n)) (flat_map generated_round (range_with_len a m))
rounds_fit n a zero first last = tt
rounds_fit n a (suc m) first last =
    every_append (JobFits (generated_script n)) (generated_round a)
    (flat_map generated_round (range_with_len (a + 1) m)) (round_fits n a first (omega arith))
    (rounds_fit n (a + 1) m (omega arith) (omega arith))

-- they have no lines
rounds_lineless : (a m : ℕ) →
    map job_without_lines (flat_map generated_round (range_with_len a m))
    ≡ flat_map generated_round (range_with_len a m)
rounds_lineless a zero = refl
rounds_lineless a (suc m) =
    map-append job_without_lines (generated_round a) (flat_map generated_round (range_with_len (a + 1) m))
    ∙ ap (λ (js : List Job). generated_round a ++ js) (rounds_lineless (a + 1) m)

-- four batches in each, and eight commands
pub batches_counted : (a m : ℕ) → length (flat_map generated_round (range_with_len a m)) ≡ 4 * m
batches_counted a zero = refl
batches_counted a (suc m) =
    let rest = batches_counted (a + 1) m in
    length-append (generated_round a) (flat_map generated_round (range_with_len (a + 1) m))
    ∙ omega arith

commands_counted : (a m : ℕ) →
    sum (map commands_in (flat_map generated_round (range_with_len a m))) ≡ 8 * m
commands_counted a zero = refl
commands_counted a (suc m) =
    let rest = commands_counted (a + 1) m in
    let more = flat_map generated_round (range_with_len (a + 1) m) in
    ap sum (map-append commands_in (generated_round a) more)
    ∙ (sum_by-append (λ (k : ℕ). k) (map commands_in (generated_round a)) (map commands_in more)
    ∙ omega arith)

-- Each generated script keeps the rules of the format.
generated_keeps_rules : (n : ℕ) → n ≤ 500 → KeepsRules (generated_script n)
generated_keeps_rules n last =
    let batches = batches_counted 1 n in
    let commands = commands_counted 1 n in
    record {
      version = inl refl;
      lineless = λ i. record (generated_script n) { jobs = rounds_lineless 1 n i };
      unscheduled = record { unscheduled = refl; turns = refl };
      names = refl;
      some_bytes = all_made (λ b. 0 < b.size) small_buffer buffer_names (λ name. omega arith);
      values = all_made (λ x. HasValue x.kind) timeline_from_zero timeline_names (λ name. omega arith);
      jobs = rounds_fit n 1 n (omega arith) (omega arith);
      limits = record {
        buffers = omega arith;
        bytes = omega arith;
        semaphores = omega arith;
        queues = omega arith;
        jobs = omega arith;
        commands = omega arith;
      };
    }

-- So it can be written.
pub generated_is_script : (n : ℕ) → 1 ≤ n → n ≤ 500 → IsScript (generated_script n)
generated_is_script n first last = ruled_is_written (generated_script n) (generated_keeps_rules n last)
