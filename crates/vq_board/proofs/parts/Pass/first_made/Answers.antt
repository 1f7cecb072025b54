use Rattle.std.proofs.Common.{arith}
use Rattle.std.proofs.lemmas.Grind.{get_or_default_zero}
use Rattle.vq_board.proofs.Firsts.{shown_known}
use Rattle.vq_board.proofs.parts.Pass.first_made.Goals as goal

pub returns-clause-shown : goal.returns-clause-shown
returns-clause-shown c = λ i e l g.
    let x = c.args.self.now in
    let whole = x.firsts.whole in
    let read = c.index.ensures in
    let same = get_or_default_zero x.first_made.items c.args.chain c.index.result.now (omega (arith, c.requires)) in
    x.firsts.shown c.args.chain i e (omega arith) g

pub returns-clause-known : goal.returns-clause-known
returns-clause-known c = λ i e l g.
    let x = c.args.self.now in
    let whole = x.firsts.whole in
    let read = c.index.ensures in
    let same = get_or_default_zero x.first_made.items c.args.chain c.index.result.now (omega (arith, c.requires)) in
    shown_known _ _ e (x.firsts.shown c.args.chain i e (omega arith) g)
