-- The tokens of a queue's batches along a run: those that are finished, and those that were submitted and not taken back.
use Rattle.std.specs.Prelude.{ℕ, Bool, true, false, List, [], ◌∷◌, ◌++◌, ◌-◌, ◌≡◌, Option, map, take, length, nat_eq, if◌then◌else◌}
use Rattle.std.specs.Option.{option_map_or}
use Rattle.vq_layer.specs.Layer.{Layer, Batch, Queue, queue_at}
use Rattle.vq_layer.specs.Queues.{oldest}
use Rattle.vq_layer_laws.specs.Runs.{Call, submits, takes_back, finishes, after_call}

-- the tokens of a queue's batches that aren't finished
abbrev pub tokens : List Batch → List ℕ
tokens bs = map (λ b. b.token) bs

abbrev pub tokens_in : ℕ → Layer → List ℕ
tokens_in q l = tokens (queue_at l.queues q).batches

-- the first ones of these are released
abbrev pub released_in : ℕ → Layer → List ℕ
released_in q l = take (queue_at l.queues q).released (tokens_in q l)

abbrev pub without_last : List ℕ → List ℕ
without_last xs = take (length xs - 1) xs

abbrev pub if_its : Bool → List ℕ → List ℕ → List ℕ
if_its its now before = if its then now else before

-- what is submitted to a queue and not taken back, after what was
abbrev pub listed : ℕ → List ℕ → List Call → List ℕ
listed q known [] = known
listed q known (submits r token waits signals ∷ calls) = listed q (if_its (nat_eq r q) (known ++ token ∷ []) known) calls
listed q known (takes_back r ∷ calls) = listed q (if_its (nat_eq r q) (without_last known) known) calls
listed q known (c ∷ calls) = listed q known calls

-- what is finished, after what was
abbrev pub oldest_token : Queue → ℕ
oldest_token q = option_map_or (λ b. b.token) (oldest q) 0

abbrev pub finished : ℕ → List ℕ → Layer → List Call → List ℕ
finished q known l [] = known
finished q known l (finishes r ∷ calls) =
    finished q (if_its (nat_eq r q) (known ++ oldest_token (queue_at l.queues r) ∷ []) known) (after_call l (finishes r)) calls
finished q known l (c ∷ calls) = finished q known (after_call l c) calls
