use Rattle.std.proofs.Common.{◌≡◌, true, false, refl, rules}
use Rattle.std.specs.Option.{is_some}
use Rattle.vq_capture_reader.specs.NameMaps.{thing_in}
use Rattle.vq_capture_reader.proofs.NameTables.{declared_before, declared_now}
use Rattle.vq_capture_reader.proofs.names.put_new.Goals as goal

pub returns-then-contains_key-clause-put : goal.returns-then-contains_key-clause-put
returns-then-contains_key-clause-put c = λ names all.
    let has : is_some (thing_in c.args.map.now c.args.name.items) ≡ true = search rules in
    declared_before c.args.map.now names all c.args.thing c.args.name.items has

pub returns-clause-put : goal.returns-clause-put
returns-clause-put c = λ names all.
    let free : is_some (thing_in c.args.map.now c.args.name.items) ≡ false = search rules in
    declared_now c.args.map.now names all c.args.thing c.args.name.items c.insert.new.self c.args.name refl free c.in_ok-insert.ensures.updates
