use Rattle.std.proofs.Common.{sym}
use Rattle.vq_trace.proofs.FirstNames.{name_known, name_put}
use Rattle.vq_trace.proofs.names.Names.add.Goals as goal

pub returns-then-contains_key : goal.returns-then-contains_key
returns-then-contains_key c =
    name_known c.args.self.now.numbers c.args.name.now c.args.number (sym c.if-contains_key.ensures)

pub returns : goal.returns
returns c =
    name_put c.args.self.now.numbers c.insert.new.self c.in_ok-key.key c.args.name.now c.args.number
    c.in_ok-insert.ensures.updates c.in_ok-key.ensures.items (sym c.if-contains_key.ensures)
