-- What the commands of the log leave has the sizes of the plan's buffers.
use Rattle.std.proofs.Common.{◌≡◌, ℕ, ◌<◌, ◌≤◌, true, List, [], ◌∷◌, length, map, Option, ap, sym, ◌∙◌, subst, ◌⊎◌, inl, inr, arith, get_or}
use Rattle.std.specs.List.{filter_map, cons_option, slice_index_or, range_with_len}
use Rattle.std.proofs.lemmas.Bool.{cases_lt}
use Rattle.std.proofs.lemmas.List.{length-map, get_or-map, get_or_past, same_lists, get_or_default}
use Rattle.std.proofs.lemmas.List.FromFn.{length-map-range_with_len}
use Rattle.atomic_table.specs.Table.{State}
use Rattle.vq_model.specs.declared.script.Command.{Command}
use Rattle.vq_model.specs.Memory.{Memory, buffer, effect, after_all, zeros_of}
use Rattle.vq_model.specs.FittingCommands.{HasSizes}
use Rattle.vq_model.specs.Plan.{Plan, commands_of, command_at}
use Rattle.vq_ground.specs.Lists.{has}
use Rattle.vq_model.specs.SlowRun.{bytes_after, zeros}
use Rattle.vq_model.specs.WellFormed.{IsWellFormed}
use Rattle.vq_ground.proofs.Lists.{has_here, has_there}
use Rattle.vq_model.proofs.Sizes.{sizes_are}
use Rattle.vq_memory_laws.proofs.Cited.{effect_sizes}
use Rattle.vq_plan_laws.proofs.Cited.{plan_well_formed}
use Rattle.vq_board_laws.specs.declared.view.View.{View}
use Rattle.vq_board_laws.specs.declared.view.LoggedBuffers.{LoggedBuffers}
use Rattle.vq_board_laws.specs.Words.{words_of, log_of}
use Rattle.vq_board_laws.specs.Rule.{Kept}

zeros_fit : (sizes : List ℕ) → HasSizes sizes (zeros_of sizes)
zeros_fit sizes =
    record { count = length-map sizes (λ size. map (λ k. 0) (range_with_len 0 size)); each = λ b. at_buffer b (cases_lt b (length sizes)) }
  where
    at_buffer : (b : ℕ) → ((b < length sizes) ⊎ (length sizes ≤ b)) → length (buffer (zeros_of sizes) b) ≡ slice_index_or sizes b 0
    at_buffer b (inl l) =
        ap length (get_or-map (λ size. map (λ k. 0) (range_with_len 0 size)) sizes b 0 [] l) ∙ length-map-range_with_len (λ k. 0) 0 (slice_index_or sizes b 0)
    at_buffer b (inr l) =
        let n : length (zeros_of sizes) ≡ length sizes = length-map sizes (λ size. map (λ k. 0) (range_with_len 0 size)) in
        ap length (get_or_past (zeros_of sizes) b [] (omega arith)) ∙ sym (get_or_past sizes b 0 l)

-- commands of jobs leave the sizes
run_sizes : (p : Plan) → IsWellFormed p → (cs : List ℕ) (m : Memory) → ((c : ℕ) → has cs c ≡ true → (j : ℕ) × (has (commands_of p j) c ≡ true)) → HasSizes p.sizes m → HasSizes p.sizes (after_all (filter_map (command_at p) cs) m)
run_sizes p w [] m f h = h
run_sizes p w (c ∷ cs) m f h = by_command (λ n. run_sizes p w cs n (λ x i. f x (has_there c cs x i)))
  where
    by_command : ((n : Memory) → HasSizes p.sizes n → HasSizes p.sizes (after_all (filter_map (command_at p) cs) n)) → HasSizes p.sizes (after_all (filter_map (command_at p) (c ∷ cs)) m)
    by_command rest =
        let owner = f c (has_here c cs) in
        let t = w.fits c owner.0 owner.1 in
        subst (λ (o : Option Command). HasSizes p.sizes (after_all (cons_option o (filter_map (command_at p) cs)) m)) (sym t.1) (rest (effect t.0 m) (effect_sizes p.sizes t.0 m h t.2))

pub log_sizes : (p : Plan) (s : State LoggedBuffers View) → Kept p s → map length (bytes_after p (log_of p (words_of s.words))) ≡ p.sizes
log_sizes p s k = sizes_are p.sizes (bytes_after p (log_of p (words_of s.words)))
    (run_sizes p (plan_well_formed p k.plan) (log_of p (words_of s.words)) (zeros p) (λ c h. let t = k.rule.jobs.applied_begun c h in (t.0, t.1)) (zeros_fit p.sizes))
