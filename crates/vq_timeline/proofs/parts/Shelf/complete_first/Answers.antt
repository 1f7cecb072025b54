use Rattle.std.proofs.Common.{ℕ, length, Some, List, sym, ap, ◌∙◌, arith}
use Rattle.std.specs.List.{slice_index_or}
use Rattle.std.proofs.lemmas.Bool.{not-false}
use Rattle.vq_model.specs.Plan.{chain}
use Rattle.vq_ground.proofs.Gets.{get_some}
use Rattle.vq_point_laws.specs.Timeline.{first_pending}
use Rattle.vq_board.specs.Named.{plan_of, view}
use Rattle.vq_timeline_laws.proofs.Cited.{first_within, op_below, point_below, point_carries}
use Rattle.vq_timeline.proofs.Completion.{may, completed_shelf, completed}
use Rattle.vq_timeline.proofs.Shared.{entry_of, get_at}
use Rattle.vq_timeline.proofs.parts.Shelf.complete_first.Goals as goal

pub look-word-requires-clause-exists : goal.look-word-requires-clause-exists
look-word-requires-clause-exists c =
    let p = plan_of c.args.board.now in
    let x = c.args.self.now in
    let k = c.requires.shelf.1.kept in
    let first = entry_of (first_pending x.core) _ _ (sym c.first.ensures ∙ c.in_ok-index.was) in
    let within = first_within p x.chain x.core (view x.pass) k _ first in
    let op = get_some (chain p x.chain) c.in_ok-index.index within in
    point_below p x.chain x.core (view x.pass) k _ op.0 first op.1

pub index-op-requires : goal.index-op-requires
index-op-requires c =
    let p = plan_of c.args.board.now in
    let x = c.args.self.now in
    let k = c.requires.shelf.1.kept in
    let first = entry_of (first_pending x.core) _ _ (sym c.first.ensures ∙ c.in_ok-index.was) in
    let within = first_within p x.chain x.core (view x.pass) k _ first in
    let many = ap length c.requires.shelf.1.operations in
    let size = x.ops.ok.0 in
    omega arith

pub complete-requires-clause-exists : goal.complete-requires-clause-exists
complete-requires-clause-exists c =
    let p = plan_of c.args.board.now in
    let x = c.args.self.now in
    let k = c.requires.shelf.1.kept in
    let first = entry_of (first_pending x.core) _ _ (sym c.first.ensures ∙ c.in_ok-index.was) in
    let within = first_within p x.chain x.core (view x.pass) k _ first in
    let here = get_at (chain p x.chain) c.in_ok-index.index c.index-op.result.now within
    ∙ ap Some (sym (c.index-op.ensures
    ∙ ap (λ (xs : List ℕ). slice_index_or xs c.in_ok-index.index c.index-op.result.now) c.requires.shelf.1.operations)) in
    op_below p x.chain x.core (view x.pass) k _ c.index-op.result.now first here

pub complete-requires-clause-may : goal.complete-requires-clause-may
complete-requires-clause-may c =
    let p = plan_of c.args.board.now in
    let x = c.args.self.now in
    let k = c.requires.shelf.1.kept in
    let first = entry_of (first_pending x.core) _ _ (sym c.first.ensures ∙ c.in_ok-index.was) in
    let within = first_within p x.chain x.core (view x.pass) k _ first in
    let here = get_at (chain p x.chain) c.in_ok-index.index c.index-op.result.now within
    ∙ ap Some (sym (c.index-op.ensures
    ∙ ap (λ (xs : List ℕ). slice_index_or xs c.in_ok-index.index c.index-op.result.now) c.requires.shelf.1.operations)) in
    let carried = point_carries p x.chain x.core (view x.pass) k _ c.index-op.result.now first here in
    may c.args.board.now x c.requires.shelf _ c.index-op.result.now c.look-word.result first here
    (c.look-word.ensures.carried c.index-op.result.now carried) (not-false _ c.if-not-word.false)
    c.look-word.ensures.parts c.look-word.new.pass c.look-word.ensures.pass

pub returns-clause-shelf : goal.returns-clause-shelf
returns-clause-shelf c =
    let p = plan_of c.args.board.now in
    let x = c.args.self.now in
    let k = c.requires.shelf.1.kept in
    let first = entry_of (first_pending x.core) _ _ (sym c.first.ensures ∙ c.in_ok-index.was) in
    let within = first_within p x.chain x.core (view x.pass) k _ first in
    let here = get_at (chain p x.chain) c.in_ok-index.index c.index-op.result.now within
    ∙ ap Some (sym (c.index-op.ensures
    ∙ ap (λ (xs : List ℕ). slice_index_or xs c.in_ok-index.index c.index-op.result.now) c.requires.shelf.1.operations)) in
    let carried = point_carries p x.chain x.core (view x.pass) k _ c.index-op.result.now first here in
    completed_shelf c.args.board.now x c.requires.shelf _ c.index-op.result.now c.look-word.result first here
    (c.look-word.ensures.carried c.index-op.result.now carried) (not-false _ c.if-not-word.false)
    c.look-word.ensures.parts c.look-word.new.pass c.look-word.ensures.pass
    c.complete.new.pass c.complete_first.new.self c.complete.ensures.pass c.complete_first.ensures.after
    c.complete_first.ensures.kept (c.calls_lose_no_point.ensures.complete x.core k.kept)

pub returns-clause-completed : goal.returns-clause-completed
returns-clause-completed c =
    let p = plan_of c.args.board.now in
    let x = c.args.self.now in
    let k = c.requires.shelf.1.kept in
    let first = entry_of (first_pending x.core) _ _ (sym c.first.ensures ∙ c.in_ok-index.was) in
    let within = first_within p x.chain x.core (view x.pass) k _ first in
    let here = get_at (chain p x.chain) c.in_ok-index.index c.index-op.result.now within
    ∙ ap Some (sym (c.index-op.ensures
    ∙ ap (λ (xs : List ℕ). slice_index_or xs c.in_ok-index.index c.index-op.result.now) c.requires.shelf.1.operations)) in
    let carried = point_carries p x.chain x.core (view x.pass) k _ c.index-op.result.now first here in
    completed c.args.board.now x c.requires.shelf _ c.index-op.result.now c.look-word.result first here
    (c.look-word.ensures.carried c.index-op.result.now carried) (not-false _ c.if-not-word.false)
    c.look-word.ensures.parts c.look-word.new.pass c.look-word.ensures.pass
    c.complete.new.pass c.complete_first.new.self c.complete.ensures.pass c.complete_first.ensures.after
