-- The jobs of host steps.
use Rattle.std.proofs.Common.{◌≡◌, ℕ, ◌<◌, List, [], ◌∷◌, length, map, filter_map, Option, refl, ap, ◌∙◌, subst}
use Rattle.std.specs.List.{cons_option, range_with_len}
use Rattle.vq_model.specs.declared.script.Script.{Script}
use Rattle.vq_model.specs.Lowering.{fence_value, last_before}
use Rattle.vq_spec.specs.declared.fences.FenceState.{FenceState}
use Rattle.vq_spec.specs.Counts.{in_queue, last_of_queues}
use Rattle.vq_spec.specs.Fences.{AreFences, fence_need, fresh}
use Rattle.vq_spec.proofs.FenceStates.{states_length, value_is}

-- what a wait or a poll of a fence asks for
pub fence_need_is : (s : Script) (j : ℕ) (states : List FenceState) → AreFences s j states →
    (line f : ℕ) → f < length states → fence_need states line f
    ≡ record { line = line; chain = f; value = fence_value s j f; from = 1 }
fence_need_is s j states k line f inside =
    let l : f < length s.semaphores = subst (λ (n : ℕ). f < n) (states_length s j states k) inside in
    λ i. record {
      line = line;
      chain = f;
      value = value_is s j states k f fresh l i;
      from = 1;
    }

-- the last jobs of the queues that have one
pub idle_jobs : (s : Script) (j : ℕ) (last : List (Option ℕ)) → last ≡ last_of_queues s j →
    filter_map (λ job. job) last
    ≡ filter_map (λ q. last_before s j (in_queue q)) (range_with_len 0 (length s.queues))
idle_jobs s j last e = ap (filter_map (λ job. job)) e ∙ each (range_with_len 0 (length s.queues))
  where
    each : (qs : List ℕ) → filter_map (λ job. job) (map (λ q. last_before s j (in_queue q)) qs)
        ≡ filter_map (λ q. last_before s j (in_queue q)) qs
    each [] = refl
    each (q ∷ qs) = ap (cons_option (last_before s j (in_queue q))) (each qs)
