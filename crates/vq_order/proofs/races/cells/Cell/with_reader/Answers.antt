use Rattle.std.proofs.Common.{◌≡◌, ◌++◌, ◌∷◌, ◌+◌, ◌⊎◌, [], List, get_or, take, sym, ap, ◌∙◌, subst}
use Rattle.std.proofs.lemmas.List.{take_all}
use Rattle.vq_order.specs.declared.races.accesses.Visitor.{Visitor}
use Rattle.vq_order.specs.Swept.{AtOrBefore, IsAmong, KeepsLater}
use Rattle.vq_order.proofs.SweepLaws.{among_at, no_visitor, Others, Only, keep_one, skip_one, kept_at_last}
use Rattle.vq_order.proofs.races.cells.Cell.with_reader.Goals.{then-not-is_at_or_before+in_ok-push, else-not-is_at_or_before}
use Rattle.vq_order.proofs.races.cells.Cell.with_reader.Goals as goal

pub is_at_or_before-requires-clause-first : goal.is_at_or_before-requires-clause-first
is_at_or_before-requires-clause-first c =
    let xs = c.as_slice-reader-items.result.now in
    let x = get_or xs c.loop-reader.reader-index no_visitor in
    c.requires.kept.readers x (subst (λ (ys : List Visitor). IsAmong ys x) c.as_slice-reader-items.ensures.value (among_at xs c.loop-reader.reader-index no_visitor c.loop-reader-test.true))

pub loop-reader-preserved : goal.loop-reader-preserved
loop-reader-preserved c =
    let p = c.args.order.now in
    let xs = c.as_slice-reader-items.result.now in
    let i = c.loop-reader.reader-index in
    let Kept : List Visitor → Type 0 = λ ys. Others p c.args.by xs i no_visitor c.loop-reader-test.true ys (i + 1) × Only p c.args.by xs i no_visitor c.loop-reader-test.true ys in
    elim c.if-not-is_at_or_before.branch [
      | then-not-is_at_or_before+in_ok-push w ↦
          let e : c.if-not-is_at_or_before.kept.items ≡ c.loop-reader.kept.items ++ get_or xs i no_visitor ∷ [] = ap (λ v. v.items) w.kept-is ∙ w.in_ok-push.ensures.items in
          subst Kept (sym e) (keep_one p c.args.by xs i no_visitor c.loop-reader-test.true c.loop-reader.kept.items c.loop-reader.invariant)
      | else-not-is_at_or_before w ↦
          let e : c.if-not-is_at_or_before.kept.items ≡ c.loop-reader.kept.items = ap (λ v. v.items) w.kept-is in
          subst Kept (sym e) (skip_one p c.args.by xs i no_visitor c.loop-reader-test.true c.loop-reader.kept.items (c.is_at_or_before.ensures.0 w.if-not-is_at_or_before.false) c.loop-reader.invariant)
    ]

pub returns : goal.returns
returns c =
    let p = c.args.order.now in
    let xs = c.as_slice-reader-items.result.now in
    let i = c.loop-reader.reader-index in
    let kept = c.loop-reader.kept.items in
    let all : take i xs ≡ xs = take_all i xs c.loop-reader-test.false in
    subst (λ (z : List Visitor × List Visitor). KeepsLater p z.0 c.args.by z.1) (λ t. (c.as_slice-reader-items.ensures.value t, sym c.in_ok-push-2.ensures.items t)) (kept_at_last p c.args.by xs kept (subst (λ (ys : List Visitor). (y : Visitor) → IsAmong ys y → AtOrBefore p y c.args.by ⊎ IsAmong kept y) all c.loop-reader.invariant.0) c.loop-reader.invariant.1)
