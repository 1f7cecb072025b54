-- Every finished run of a lawful plan leaves the bytes of the slow run.
use Rattle.std.proofs.Common.{ℕ, ◌≡◌, true, List, [], ◌∷◌, Option, Some, None, refl, ◌<◌, ◌≤◌, length, map, sym, ap, ◌∙◌, ◌⊎◌, inl, inr, arith, false, ◌||◌, subst}
use Rattle.std.specs.Option.{option_map_or, option_to_list}
use Rattle.vq_model.specs.Memory.{Memory, effect, after_all, buffer}
use Rattle.vq_model.specs.FittingCommands.{HasSizes}
use Rattle.vq_model.specs.Plan.{Plan, command_at, commands_of}
use Rattle.vq_ground.specs.Lists.{has}
use Rattle.vq_run_laws.proofs.Swaps.{acts, same_result}
use Rattle.std.specs.List.{filter_map, cons_option, range_with_len, slice_index_or, list_any, flat_map}
use Rattle.vq_model.specs.declared.script.Command.{Command}
use Rattle.std.proofs.lemmas.Bool.{cases_lt, or_parts, cases_eq}
use Rattle.std.proofs.lemmas.List.{length-map, get_or-map, get_or_past}
use Rattle.std.proofs.lemmas.List.FromFn.{length-map-range_with_len}
use Rattle.vq_model.specs.SlowRun.{zeros, slow_order, bytes_after, final}
use Rattle.vq_model.specs.ProgressRuns.{HasOneResult}
use Rattle.vq_model.specs.Ranges.{conflict}
use Rattle.vq_model.specs.WellFormed.{IsWellFormed}
use Rattle.vq_model.specs.Machine.{Progress, Step, state_after, AreFinished}
use Rattle.vq_model.specs.ProgressRuns.{progress_after, ProgressRun}
use Rattle.vq_model.specs.Races.{conflicts}
use Rattle.vq_model.specs.SureOrder.{HasSureOrder}
use Rattle.vq_ground.proofs.Lists.{HaveSame}
use Rattle.vq_ground.proofs.Bools.{same_tests}
use Rattle.vq_memory_laws.proofs.Cited.{effect_sizes, effects_commute}
use Rattle.vq_run_laws.proofs.StateFacts.{Must, Invariant}
use Rattle.vq_run_laws.proofs.KeptRuns.{run_keeps, progress_keeps}
use Rattle.vq_run_laws.proofs.CommandsInOrder.{has-flat_map, flat_map-has, slow_extends, in_range, jobs_extend, jobs_distinct}
use Rattle.vq_order_laws.proofs.Cited.{slow_distinct, slow_has}

-- Commands as actions

abbrev act : Plan → ℕ → Memory → Memory
act p c m = option_map_or (λ x. effect x m) (command_at p c) m

-- a command of some job
record Known (p : Plan) (c : ℕ) : Type 0 where
  job : ℕ
  in_job : has (commands_of p job) c ≡ true

-- what commands leave, one after another
abbrev folded : Plan → List ℕ → Memory → Memory
folded p = acts (act p)

bytes_are_acts : (p : Plan) (cs : List ℕ) (m : Memory) → after_all (filter_map (command_at p) cs) m ≡ folded p cs m
bytes_are_acts p [] m = refl
bytes_are_acts p (c ∷ cs) m = by_case (command_at p c) refl (bytes_are_acts p cs)
  where
    by_case : (o : Option Command) → command_at p c ≡ o → ((n : Memory) → after_all (filter_map (command_at p) cs) n ≡ folded p cs n) → after_all (cons_option o (filter_map (command_at p) cs)) m ≡ folded p cs (option_map_or (λ x. effect x m) o m)
    by_case None e f = f m
    by_case (Some x) e f = f (effect x m)

zeros_fit : (p : Plan) → HasSizes p.sizes (zeros p)
zeros_fit p =
    record { count = length-map p.sizes (λ size. map (λ k. 0) (range_with_len 0 size)); each = λ b. at_buffer b (cases_lt b (length p.sizes)) }
  where
    at_buffer : (b : ℕ) → ((b < length p.sizes) ⊎ (length p.sizes ≤ b)) → length (buffer (zeros p) b) ≡ slice_index_or p.sizes b 0
    at_buffer b (inl l) =
        ap length (get_or-map (λ size. map (λ k. 0) (range_with_len 0 size)) p.sizes b 0 [] l) ∙ length-map-range_with_len (λ k. 0) 0 (slice_index_or p.sizes b 0)
    at_buffer b (inr l) =
        let n : length (zeros p) ≡ length p.sizes = length-map p.sizes (λ size. map (λ k. 0) (range_with_len 0 size)) in
        ap length (get_or_past (zeros p) b [] (omega arith)) ∙ sym (get_or_past p.sizes b 0 l)

module _ (p : Plan) (w : IsWellFormed p) (lawful : HasSureOrder p) where
  act_keeps : (c : ℕ) (m : Memory) → Known p c → HasSizes p.sizes m → HasSizes p.sizes (act p c m)
  act_keeps c m k h =
      let f = w.fits c k.job k.in_job in
      let P : Option Command → Type 0 = λ o. HasSizes p.sizes (option_map_or (λ x. effect x m) o m) in
      subst P (sym f.1) (effect_sizes p.sizes f.0 m h f.2)

  act_commutes : (c d : ℕ) (m : Memory) → Known p c → Known p d → conflicts p c d ≡ false → HasSizes p.sizes m → act p c (act p d m) ≡ act p d (act p c m)
  act_commutes c d m kc kd apart h =
      let fc = w.fits c kc.job kc.in_job in
      let fd = w.fits d kd.job kd.in_job in
      let P : Option Command → Option Command → Type 0 = λ o q. option_map_or (λ x. effect x (option_map_or (λ y. effect y m) q m)) o (option_map_or (λ y. effect y m) q m) ≡ option_map_or (λ y. effect y (option_map_or (λ x. effect x m) o m)) q (option_map_or (λ x. effect x m) o m) in
      let both = subst (λ o. list_any (λ x. list_any (conflict p.sizes x) (option_to_list (command_at p d))) (option_to_list o) ≡ false) fc.1 apart in
      let both' = subst (λ o. (list_any (conflict p.sizes fc.0) (option_to_list o) || false) ≡ false) fd.1 both in
      let no = (or_parts (conflict p.sizes fc.0 fd.0) false (or_parts (conflict p.sizes fc.0 fd.0 || false) false both').0).0 in
      subst (λ o. P o (command_at p d)) (sym fc.1) (subst (λ q. P (Some fc.0) q) (sym fd.1) (effects_commute p.sizes fc.0 fd.0 m h fc.2 fd.2 no))

  act_compares : (c d : ℕ) → Known p c → Known p d → (c ≡ d → ⊥) → conflicts p c d ≡ true → Must p c d ⊎ Must p d c
  act_compares c d kc kd apart clash =
      elim (cases_eq kc.job kd.job) [
        | inl e ↦ elim (cases_lt c d) [
          | inl l ↦ inl (record { first_job = kc.job; second_job = kd.job; first = kc.in_job; second = kd.in_job; order = inr (e, l) })
          | inr l ↦ inr (record { first_job = kd.job; second_job = kc.job; first = kd.in_job; second = kc.in_job; order = inr (sym e, below l) })
        ]
        | inr n ↦ elim (lawful.no_race c d kc.job kd.job kc.in_job kd.in_job n clash) [
          | inl b ↦ inl (record { first_job = kc.job; second_job = kd.job; first = kc.in_job; second = kd.in_job; order = inl b })
          | inr b ↦ inr (record { first_job = kd.job; second_job = kc.job; first = kd.in_job; second = kc.in_job; order = inl b })
        ]
      ]
    where
      below : d ≤ c → d < c
      below l = grind arith

  slow_commands : List ℕ
  slow_commands = flat_map (commands_of p) (slow_order p)

  same_commands : (s : Progress) → Invariant p s → AreFinished p s → HaveSame s.applied (flat_map (commands_of p) (slow_order p))
  same_commands s k f c =
      same_tests (has s.applied c) (has (flat_map (commands_of p) (slow_order p)) c)
      (λ h. let o = k.applied_job c h in flat_map-has (commands_of p) (slow_order p) o.job c (slow_has p lawful.reachable o.job (in_range p o.job c o.in_job)) o.in_job)
      (λ h. let o = has-flat_map (commands_of p) (slow_order p) c h in k.finished_commands o.0 c (f o.0 (in_range p o.0 c o.2)) o.2)

  -- where all jobs are finished, the bytes are those of the slow run
  finished_result : (s : Progress) → Invariant p s → AreFinished p s → bytes_after p s.applied ≡ final p
  finished_result s k done =
      bytes_are_acts p s.applied (zeros p)
      ∙ (same_result Memory (act p) (HasSizes p.sizes) (Must p) (conflicts p) (Known p) act_keeps act_commutes act_compares
      s.applied (flat_map (commands_of p) (slow_order p)) (zeros p) k.distinct (jobs_distinct p w lawful (slow_order p) (slow_distinct p)) (same_commands s k done)
      (λ c h. let o = k.applied_job c h in record { job = o.job; in_job = o.in_job })
      k.extends (jobs_extend p w lawful (slow_order p) (slow_distinct p) (slow_extends p)) (zeros_fit p)
      ∙ sym (bytes_are_acts p (flat_map (commands_of p) (slow_order p)) (zeros p)))

  -- every finished run leaves the bytes of the slow run
  pub one_result : HasOneResult p
  one_result steps run done = finished_result (state_after p steps).progress (run_keeps p w lawful.chains steps run) done

  -- and so does every finished run without answers
  pub progress_result : (steps : List Step) → ProgressRun p steps → AreFinished p (progress_after p steps) → bytes_after p (progress_after p steps).applied ≡ final p
  progress_result steps run done = finished_result (progress_after p steps) (progress_keeps p w lawful.chains steps run) done
