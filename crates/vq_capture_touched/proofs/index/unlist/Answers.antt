use Rattle.std.proofs.Common.{rules}
use Rattle.vq_capture_touched.proofs.IndexLists.{listed_set}
use Rattle.vq_capture_touched.proofs.index.unlist.Goals as goal

pub returns-then-place-len : goal.returns-then-place-len
returns-then-place-len c = λ s t f e.
    listed_set s t c.args.kinds.now.items c.kind_for-place.result c.index_mut.result.now c.unlist.new.self (search rules) c.index_mut.ensures.value
    (λ h. c.unlist.ensures s t f h) e
