use Rattle.std.proofs.Common.{◌≡◌, ◌+◌, ◌++◌, length, take, drop, sym, ap, subst, arith, List, ℕ, length-take, length-append, length-drop}
use Rattle.std.proofs.lemmas.List.{take-append-le}
use Rattle.vq_port.specs.Reading.{Takes}
use Rattle.vq_port.proofs.Counting.{rose_later}
use Rattle.vq_port.proofs.Taking.{takes_nothing, takes_more, takes_all, takes_to_end, takes_to, takes_no_others, takes_past, taken_length}
use Rattle.vq_port.proofs.read.read_whole.Goals as goal

pub loop-bytes-init : goal.loop-bytes-init
loop-bytes-init g c =
    let none = c.new-bytes.ensures.items in
    let size = c.in_ok-room.ensures.len in record {
      within = omega (arith, ap length none);
      whole_piece = omega (arith, c.in_ok-room.room.ok.0, ap length c.as_mut_slice-piece.ensures.value);
      counted = omega arith;
      taken = rw none (takes_nothing _);
    }

pub returns-then-count-eq0-clause-whole : goal.returns-then-count-eq0-clause-whole
returns-then-count-eq0-clause-whole g c =
    takes_all _ _ _
    (takes_no_others _ _ _ _ _ _ c.if-count-eq0.true c.loop-bytes.invariant.taken c.in_ok-count.ensures.takes)
    (c.in_ok-count.ensures.end c.if-count-eq0.true
    (omega (arith, length-take c.min-most.result c.loop-bytes.piece, c.loop-bytes.bytes.ok.0)))

pub returns-then-count-eq0-clause-ended : goal.returns-then-count-eq0-clause-ended
returns-then-count-eq0-clause-ended g c =
    takes_to_end _ _ _
    (takes_no_others _ _ _ _ _ _ c.if-count-eq0.true c.loop-bytes.invariant.taken c.in_ok-count.ensures.takes)
    (c.in_ok-count.ensures.end c.if-count-eq0.true
    (omega (arith, length-take c.min-most.result c.loop-bytes.piece, c.loop-bytes.bytes.ok.0)))

pub returns-then-limit-len-clause-too_long : goal.returns-then-limit-len-clause-too_long
returns-then-limit-len-clause-too_long g c = λ _.
    let within = c.in_ok-count.ensures.at_most in
    let size = length-take c.min-most.result c.loop-bytes.piece in
    let same = c.read.auto.piece in
    let all = taken_length c.loop-bytes.bytes.items c.read.new.piece c.in_ok-count.count (omega arith) in
    takes_past c.args.limit (c.loop-bytes.bytes.items ++ take c.in_ok-count.count c.read.new.piece) _ _
    (omega (arith, c.loop-bytes.bytes.ok.0))
    (takes_more _ _ _ _ _ c.loop-bytes.invariant.taken c.in_ok-count.ensures.takes)

pub returns-then-limit-len-clause-one_past : goal.returns-then-limit-len-clause-one_past
returns-then-limit-len-clause-one_past g c = λ _.
    let within = c.in_ok-count.ensures.at_most in
    let size = length-take c.min-most.result c.loop-bytes.piece in
    let same = c.read.auto.piece in
    let all = taken_length c.loop-bytes.bytes.items c.read.new.piece c.in_ok-count.count (omega arith) in
    takes_to (c.args.limit + 1) (c.loop-bytes.bytes.items ++ take c.in_ok-count.count c.read.new.piece) _ _
    (omega (arith, c.loop-bytes.bytes.ok.0))
    (takes_more _ _ _ _ _ c.loop-bytes.invariant.taken c.in_ok-count.ensures.takes)

pub loop-bytes-preserved : goal.loop-bytes-preserved
loop-bytes-preserved g c =
    let within = c.in_ok-count.ensures.at_most in
    let size = length-take c.min-most.result c.loop-bytes.piece in
    let same = c.read.auto.piece in
    let piece = c.read.new.piece in
    let behind = drop c.min-most.result c.loop-bytes.piece in
    let first : take c.in_ok-count.count (piece ++ behind) ≡ take c.in_ok-count.count piece = take-append-le c.in_ok-count.count piece behind (omega arith) in
    let all = taken_length c.loop-bytes.bytes.items piece c.in_ok-count.count (omega arith) in
    let bytes : c.extend_from_slice.new.self.items ≡ c.loop-bytes.bytes.items ++ take c.in_ok-count.count piece =
    rw first at c.in_ok-extend_from_slice.ensures.items in record {
      within = omega (arith, ap length bytes, c.loop-bytes.bytes.ok.0);
      whole_piece = omega (arith, length-append piece behind, length-drop c.min-most.result c.loop-bytes.piece);
      counted = omega (arith, c.in_ok-count.ensures.counted);
      taken = subst (λ (w : List ℕ). Takes w (g.S.Source.left c.args.source.now) (g.S.Source.left c.read.new.self)) (sym bytes)
          (takes_more _ _ _ _ _ c.loop-bytes.invariant.taken c.in_ok-count.ensures.takes);
    }

pub returns-in_err-extend_from_slice-clause-memory : goal.returns-in_err-extend_from_slice-clause-memory
returns-in_err-extend_from_slice-clause-memory g c = λ _.
    let within = c.in_ok-count.ensures.at_most in
    let same = c.read.auto.piece in
    let all = taken_length c.loop-bytes.bytes.items c.read.new.piece c.in_ok-count.count (omega arith) in (
      c.loop-bytes.bytes.items ++ take c.in_ok-count.count c.read.new.piece,
      omega (arith, c.loop-bytes.bytes.ok.0),
      takes_more _ _ _ _ _ c.loop-bytes.invariant.taken c.in_ok-count.ensures.takes,
    )

pub returns-in_err-count-clause-failed : goal.returns-in_err-count-clause-failed
returns-in_err-count-clause-failed g c = λ _.
    rose_later _ _ _ c.loop-bytes.invariant.counted c.in_err-count.ensures.failed
