use Rattle.std.proofs.Common.{◌≡◌, ℕ, List, find}
use Rattle.std.specs.List.{range_with_len}
use Rattle.std.specs.Str.{bytes_eq}
use Rattle.vq_model.specs.Naming.{queue_name}
use Rattle.vq_trace.specs.NameTables.{named}
use Rattle.vq_trace.proofs.names.queue_names.Given as goal

abbrev pub invariant-loop-number : goal.invariant-loop-number
invariant-loop-number l =
    (name : List ℕ) → named l.names name
    ≡ find (λ t. bytes_eq name (queue_name l.script t)) (range_with_len 0 l.number)
