use Rattle.std.proofs.Common.{◌++◌, ◌∙◌, List, subst, sym, inl, inr}
use Rattle.vq_capture.specs.Points.{IsMember}
use Rattle.vq_capture_touched.specs.declared.touch.Touch.{Touch}
use Rattle.vq_capture_touched.specs.Indexed.{touches_of}
use Rattle.vq_capture_check.proofs.KeptOrders.{in_either}
use Rattle.vq_capture_check.proofs.touched_lines.add_thing.Goals as goal

pub returns-clause-added : goal.returns-clause-added
returns-clause-added c t m = elim (in_either t (indexed ++ recent) newest m) [
  | inl a ↦ elim (in_either t indexed recent a) [
    | inl i ↦ c.in_ok-add_lines-3.ensures.kept t.step.line (c.in_ok-add_lines-2.ensures.kept t.step.line (c.in_ok-add_lines.ensures.added t (subst (λ (ts : List Touch). IsMember t ts) (sym (c.deref.ensures.value ∙ c.in_ok-indexed.ensures)) i)))
    | inr i ↦ c.in_ok-add_lines-3.ensures.kept t.step.line (c.in_ok-add_lines-2.ensures.added t (subst (λ (ts : List Touch). IsMember t ts) (sym c.deref-2.ensures.value) i))
  ]
  | inr a ↦ c.in_ok-add_lines-3.ensures.added t (subst (λ (ts : List Touch). IsMember t ts) (sym c.deref-3.ensures.value) a)
]
  where
    indexed : List Touch
    indexed = touches_of c.args.thing.now.index

    recent : List Touch
    recent = c.args.thing.now.recent.items

    newest : List Touch
    newest = c.args.thing.now.newest.items
