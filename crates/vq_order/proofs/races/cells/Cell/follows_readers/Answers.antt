use Rattle.std.proofs.Common.{List, get_or, inl, inr, subst}
use Rattle.vq_order.specs.declared.races.accesses.Visitor.{Visitor}
use Rattle.vq_order.specs.Swept.{AtOrBefore, IsAmong}
use Rattle.vq_order.proofs.SweepLaws.{among_at, no_visitor, taken_among}
use Rattle.vq_order.proofs.races.cells.Cell.follows_readers.Goals as goal

pub is_before-requires-clause-first : goal.is_before-requires-clause-first
is_before-requires-clause-first c =
    let xs = c.as_slice-reader-items.result.now in
    let x = get_or xs c.loop-reader.reader-index no_visitor in
    c.requires.may.kept.readers x (subst (λ (ys : List Visitor). IsAmong ys x) c.as_slice-reader-items.ensures.value (among_at xs c.loop-reader.reader-index no_visitor c.loop-reader-test.true))

pub loop-reader-preserved : goal.loop-reader-preserved
loop-reader-preserved c =
    let xs = c.as_slice-reader-items.result.now in
    let i = c.loop-reader.reader-index in (
      (λ y h. elim (taken_among xs i no_visitor y c.loop-reader-test.true h) [
        | inl m ↦ c.loop-reader.invariant.0 y m
        | inr e ↦ subst (λ z. AtOrBefore c.args.order.now z c.args.by) e (c.is_before.ensures.before c.if-not-is_before.false)
      ]),
      c.is_before.ensures.known,
    )
