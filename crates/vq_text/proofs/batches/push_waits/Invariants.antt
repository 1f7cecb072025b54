use Rattle.std.proofs.Common.{◌≡◌, ◌++◌, take}
use Rattle.std.specs.List.{flat_map}
use Rattle.vq_model.specs.Canonical.{wait_words, line_text}
use Rattle.vq_text.proofs.batches.push_waits.Given as goal

abbrev pub invariant-loop-wait : goal.invariant-loop-wait
invariant-loop-wait l = l.out.items ≡ l.fn.out.items
    ++ flat_map (λ m. line_text (wait_words l.script m)) (take l.wait-index l.waits)
