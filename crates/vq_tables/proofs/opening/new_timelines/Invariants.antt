use Rattle.std.proofs.Common.{◌≡◌, ◌<◌, ℕ, length, get_or, map}
use Rattle.vq_model.specs.Plan.{initial, value, chain}
use Rattle.vq_point_laws.specs.Timeline.{new_timeline, KeepsLists}
use Rattle.vq_tables.specs.Tables.{no_timeline}
use Rattle.vq_tables.proofs.opening.new_timelines.Given as goal

abbrev pub invariant-loop-chain : goal.invariant-loop-chain
invariant-loop-chain l =
    (length l.timelines.items ≡ l.chain) × ((k : ℕ) → k < l.chain →
    (get_or l.timelines.items k no_timeline ≡ new_timeline (initial l.plan k) (map (value l.plan) (chain l.plan
    k))) × KeepsLists (get_or l.timelines.items k no_timeline))
