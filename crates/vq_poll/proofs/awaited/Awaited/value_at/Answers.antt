use Rattle.std.proofs.Common.{◌<◌, length, arith}
use Rattle.vq_board.specs.Named.{view}
use Rattle.vq_poll.proofs.Looked.{seen_before, seen_now}
use Rattle.vq_poll.proofs.awaited.Awaited.value_at.Goals as goal

pub returns-in-Some-clause-looked : goal.returns-in-Some-clause-looked
returns-in-Some-clause-looked c = λ v looked.
    seen_before c.args.self.now v (view c.args.pass.now) c.args.cx.now c.args.seen.now c.args.index c.in-Some.value c.pair-chain.result c.pair-chain.ensures looked c.in-Some.ensures.some

pub returns-clause-looked : goal.returns-clause-looked
returns-clause-looked c = λ v looked.
    let x = c.pair-chain.result in
    let at = c.pair-chain.ensures in
    let see = c.see-value.ensures in
    let exists = c.requires.exists in
    let room = c.requires.room in
    let within : c.args.index < length c.args.seen.now = omega arith in
    seen_now c.args.self.now v (view c.args.pass.now) (view c.see-value.new.pass) c.args.cx.now c.see-value.new.cx c.args.seen.now c.args.index c.see-value.result x at looked within
    (c.seen_of.ensures.none c.in_default.is) see.learned.2 (see.payload x at) (see.heard x at) see.armed see.kept
