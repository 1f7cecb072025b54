use Rattle.std.proofs.Common.{◌≡◌, ◌++◌, take}
use Rattle.std.specs.List.{flat_map}
use Rattle.vq_model.specs.Canonical.{buffer_words, line_text}
use Rattle.vq_text.proofs.declarations.push_buffers.Given as goal

abbrev pub invariant-loop-buffer : goal.invariant-loop-buffer
invariant-loop-buffer l = l.out.items ≡ l.fn.out.items
    ++ flat_map (λ b. line_text (buffer_words b)) (take l.buffer-index l.buffers)
