use Rattle.std.proofs.Common.{◌≡◌, ℕ, ◌<◌, length, slice_index_or, Some, sym, subst, arith}
use Rattle.std.specs.List.{slice_get}
use Rattle.futures.specs.Task.{Hears}
use Rattle.vq_board.specs.Named.{view}
use Rattle.vq_payload.specs.Reading.{HasRead}
use Rattle.vq_timeline.specs.declared.timeline.LockedTimeline.{LockedTimeline}
use Rattle.vq_poll.specs.declared.bell.Bell.{Bell}
use Rattle.vq_poll.specs.declared.pairs.Pair.{Pair}
use Rattle.vq_poll.specs.Watching.{plan_at}
use Rattle.vq_poll.proofs.Places.{get_at}
use Rattle.vq_poll.proofs.awaited.Awaited.see.Goals as goal

pub returns-clause-payload : goal.returns-clause-payload
returns-clause-payload c = λ x at.
    let board = c.args.self.now.watched in
    let mine = c.pair-chain.ensures in
    let t = c.pair-chain.result.chain in
    let same : c.pair-chain.result ≡ x = (let a = mine in let b = at in cc) in
    let lines = c.requires.can.board_is.timelines_are in
    let exists = c.requires.can.pairs_are.exist c.args.index c.pair-chain.result mine in
    let whole = lines.whole in
    let within : t < length board.timelines.now = omega arith in
    let line : LockedTimeline = slice_index_or board.timelines.now t c.index-self-chain-2.result in
    let is = lines.each t line (get_at board.timelines.now t c.index-self-chain-2.result within) in
    subst (λ (y : Pair). HasRead (plan_at board) y.chain (view c.args.pass.now) (view c.read_heard.new.pass) c.read_heard.result) same
    (subst (λ (k : ℕ). HasRead (plan_at board) k (view c.args.pass.now) (view c.read_heard.new.pass) c.read_heard.result) is.1 c.read_heard.ensures.payload)

pub returns-clause-heard : goal.returns-clause-heard
returns-clause-heard c = λ x at b there.
    let board = c.args.self.now.watched in
    let mine = c.pair-chain.ensures in
    let t = c.pair-chain.result.chain in
    let same : c.pair-chain.result ≡ x = (let p = mine in let q = at in cc) in
    let exists = c.requires.can.pairs_are.exist c.args.index c.pair-chain.result mine in
    let whole = c.requires.can.board_is.bells_are in
    let within : t < length board.bells.now = omega arith in
    let bell : Bell = slice_index_or board.bells.now t c.index-self-chain.result in
    let is : slice_get board.bells.now t ≡ Some bell = get_at board.bells.now t c.index-self-chain.result within in
    let given : slice_get board.bells.now t ≡ Some b = subst (λ (y : Pair). slice_get board.bells.now y.chain ≡ Some b) (sym same) there in
    let one : bell ≡ b = (let p = is in let q = given in cc) in
    subst (λ (y : Bell). Hears c.hear.new.cx y.source.id) one c.hear.ensures.heard
