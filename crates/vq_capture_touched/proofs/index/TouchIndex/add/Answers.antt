use Rattle.std.proofs.Common.{◌∙◌, ℕ, List, ap}
use Rattle.std.specs.Map.{values_of}
use Rattle.vq_capture_touched.specs.declared.touch.Touch.{Touch}
use Rattle.vq_capture_touched.proofs.IndexLists.{added_last}
use Rattle.vq_capture_touched.proofs.index.TouchIndex.add.Goals as goal

pub returns : goal.returns
returns c =
    ap (λ (es : List (ℕ × Touch)). values_of es) c.in_ok-insert.ensures.entries
    ∙ added_last c.args.self.now.next c.args.touch.now c.args.self.now.touches c.insert.ensures.was_ordered c.args.self.now.below
