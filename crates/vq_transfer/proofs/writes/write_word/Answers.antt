use Rattle.std.proofs.Common.{arith, length}
use Rattle.std.proofs.lemmas.List.FromFn.{fill_by_all}
use Rattle.vq_model.specs.Memory.{word_byte}
use Rattle.vq_transfer.proofs.writes.write_word.Goals as goal

pub returns : goal.returns
returns c =
    fill_by_all (word_byte c.args.word) c.loop-place.part (length c.args.part.now) 0
    c.loop-place.auto.part (λ k h. c.loop-place.invariant k (omega arith))
