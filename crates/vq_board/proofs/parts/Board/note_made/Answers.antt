use Rattle.std.proofs.Common.{◌≡◌, ◌+◌, ℕ, arith, ap, length, slice_index, slice_set, subst}
use Rattle.std.proofs.lemmas.Grind.{get_or_default_zero}
use Rattle.vq_model.specs.Plan.{Plan, chain}
use Rattle.vq_ground.proofs.Gets.{get_within}
use Rattle.vq_board.specs.Firsts.{AreFirsts}
use Rattle.vq_board.specs.Named.{view}
use Rattle.vq_board.proofs.Firsts.{firsts_raised, has_count}
use Rattle.vq_board.proofs.Placed.{copied_place}
use Rattle.vq_board.proofs.parts.Board.note_made.Goals as goal

pub index-requires : goal.index-requires
index-requires c =
    let x = c.args.pass.now in
    let b = c.args.self.now in
    let here = copied_place b.table.shared.key (view x).plan b.copies.ops c.args.op c.in-Some.op c.op.result b.placed b.ops c.requires.board.1 c.op.ensures c.in-Some.is in
    let low = has_count _ _ x.first_made.items c.in-Some.op.chain c.in-Some.op.index c.args.op x.firsts here in
    omega (arith, x.first_made.ok)

pub index_mut-requires : goal.index_mut-requires
index_mut-requires c =
    let x = c.args.pass.now in
    let b = c.args.self.now in
    let here = copied_place b.table.shared.key (view x).plan b.copies.ops c.args.op c.in-Some.op c.op.result b.placed b.ops c.requires.board.1 c.op.ensures c.in-Some.is in
    let low = has_count _ _ x.first_made.items c.in-Some.op.chain c.in-Some.op.index c.args.op x.firsts here in
    omega (arith, x.first_made.ok)

pub overflow_add-index_mut : goal.overflow_add-index_mut
overflow_add-index_mut c =
    let x = c.args.pass.now in
    let b = c.args.self.now in
    let t : ℕ = c.in-Some.op.chain in
    let here = copied_place b.table.shared.key (view x).plan b.copies.ops c.args.op c.in-Some.op c.op.result b.placed b.ops c.requires.board.1 c.op.ensures c.in-Some.is in
    let low = has_count _ _ x.first_made.items t c.in-Some.op.index c.args.op x.firsts here in
    let inside = get_within (chain (view x).plan t) c.in-Some.op.index c.args.op here in
    let few = b.short t in
    let same = ap (λ (p : Plan). length (chain p t)) c.requires.board.1 in
    let read = c.index.ensures in
    let read_zero = get_or_default_zero x.first_made.items t c.index.result.now low in
    let raised = c.index_mut.ensures.value in
    let raised_zero = get_or_default_zero x.first_made.items t c.index_mut.result.now low in
    let test = c.if-index-op.true in
    omega arith

pub invariant_of-pass : goal.invariant_of-pass
invariant_of-pass c =
    let x = c.args.pass.now in
    let b = c.args.self.now in
    let t : ℕ = c.in-Some.op.chain in
    let here = copied_place b.table.shared.key (view x).plan b.copies.ops c.args.op c.in-Some.op c.op.result b.placed b.ops c.requires.board.1 c.op.ensures c.in-Some.is in
    let low = has_count _ _ x.first_made.items t c.in-Some.op.index c.args.op x.firsts here in
    let read = c.index.ensures in
    let read_zero = get_or_default_zero x.first_made.items t c.index.result.now low in
    let raised = c.index_mut.ensures.value in
    let raised_zero = get_or_default_zero x.first_made.items t c.index_mut.result.now low in
    let test = c.if-index-op.true in
    let next : slice_index x.first_made.items t ≡ c.in-Some.op.index = omega arith in
    let same : c.in-Some.op.index ≡ c.index_mut.result.now = omega arith in
    record {
      running = x.running;
      hand = x.hand;
      firsts = subst (λ (n : ℕ). AreFirsts (view x).plan (view x).known (slice_set x.first_made.items t (n + 1))) same
          (firsts_raised _ _ x.first_made.items t c.in-Some.op.index c.args.op x.firsts next here c.requires.made);
    }
