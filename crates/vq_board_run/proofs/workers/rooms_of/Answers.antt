use Rattle.std.proofs.Common.{rules, ◌≡◌, ◌++◌, ◌∷◌, [], All, List, map, Some, None, sym, ap, ◌∙◌, subst, map-id, append-nil}
use Rattle.std.specs.Iterator.Adapters.{chain_first, chain_second}
use Rattle.std.specs.List.{filter_map}
use Rattle.std.proofs.lemmas.List.{map_push}
use Rattle.std.proofs.lemmas.List.Elements.{All-push}
use Rattle.std.proofs.lemmas.Iterator.Adapters.{YieldsList-from_vec}
use Rattle.std.proofs.lemmas.Iterator.Consumers.{YieldsList-from_chain, YieldsList-turn, YieldsList-end}
use Rattle.vq_model.specs.Plan.{Plan}
use Rattle.vq_board_run.specs.Rooming.{Room}
use Rattle.vq_board.specs.Named.{plan_of}
use Rattle.vq_board_run.specs.Crewed.{IsWorkerOf, owner_of}
use Rattle.vq_board_run.specs.Unused.{IsUnused}
use Rattle.vq_board_run.specs.Crews.{worker_of, workers}
use Rattle.vq_board_run.proofs.Crewing.{crew_named, idle_of, named_more, next_due, worker_at, worker_room}
use Rattle.vq_board_run.proofs.workers.rooms_of.Goals as goal

pub loop-pass-preserved-in_default : goal.loop-pass-preserved-in_default
loop-pass-preserved-in_default c =
    let who : worker_at c.in-Some.pass ≡ None =
    ap worker_of (sym c.role.ensures) ∙ (sym c.worker_of.ensures ∙ c.in_default.is) in
    record {
      each = c.loop-pass.invariant.each;
      unused = c.loop-pass.invariant.unused;
      owners = c.loop-pass.invariant.owners
          ∙ (sym (append-nil (filter_map worker_at c.loop-pass.yielded))
          ∙ sym (named_more c.loop-pass.yielded c.in-Some.pass None who));
    }

pub new-requires : goal.new-requires
new-requires c =
    let it = c.into_iter-pass-iterator.result in
    let road = YieldsList-from_chain {s = it}
    (YieldsList-from_vec {s = chain_first it} c.args.submits.items (search rules) (search rules))
    (YieldsList-from_vec {s = chain_second it} c.args.rings.items (search rules) (search rules)) (cc) (cc) in
    let turn = YieldsList-turn road c.loop-pass.yielded _ c.loop-pass.yielded_by _ c.next.new.self c.in-Some.pass
    c.in-Some.is c.next.ensures.steps in
    let due = next_due c.args.board.now c.args.ordered.now c.args.submits.items c.args.rings.items c.requires.submits
    c.requires.rings _ c.in-Some.pass turn in
    let who : worker_at c.in-Some.pass ≡ Some c.in-Some-worker_of.actor =
    ap worker_of (sym c.role.ensures) ∙ (sym c.worker_of.ensures ∙ c.in-Some-worker_of.is) in
    let own = due.1 c.in-Some-worker_of.actor who in
    record {
      company = c.requires.company;
      actor = own.0;
      idle = idle_of c.args.board.now c.args.ordered.now c.in-Some-worker_of.actor c.in-Some.pass c.requires.plan due.0
          own.1;
    }

pub loop-pass-preserved : goal.loop-pass-preserved
loop-pass-preserved c =
    let it = c.into_iter-pass-iterator.result in
    let road = YieldsList-from_chain {s = it}
    (YieldsList-from_vec {s = chain_first it} c.args.submits.items (search rules) (search rules))
    (YieldsList-from_vec {s = chain_second it} c.args.rings.items (search rules) (search rules)) (cc) (cc) in
    let turn = YieldsList-turn road c.loop-pass.yielded _ c.loop-pass.yielded_by _ c.next.new.self c.in-Some.pass
    c.in-Some.is c.next.ensures.steps in
    let due = next_due c.args.board.now c.args.ordered.now c.args.submits.items c.args.rings.items c.requires.submits
    c.requires.rings _ c.in-Some.pass turn in
    let who : worker_at c.in-Some.pass ≡ Some c.in-Some-worker_of.actor =
    ap worker_of (sym c.role.ensures) ∙ (sym c.worker_of.ensures ∙ c.in-Some-worker_of.is) in
    let own = due.1 c.in-Some-worker_of.actor who in
    let made = c.in_ok-new.ensures {u = tt} in
    let items = (c.in_ok-push.ensures {u = tt}).items in
    let rooms = c.loop-pass.rooms.items in
    let room = c.in_ok-new.field-0 in
    let here = All-push (IsWorkerOf c.args.board.now) rooms room c.loop-pass.invariant.each
    (worker_room c.args.board.now c.args.ordered.now c.in-Some-worker_of.actor c.in-Some.pass room c.requires.plan
    due.0 own.0 made.pass made.owner) in
    let unused = All-push (IsUnused (plan_of c.args.board.now)) rooms room c.loop-pass.invariant.unused
    (subst (λ (p : Plan). IsUnused p room) (sym c.requires.plan) made.unused) in
    record {
      each = subst (λ (rs : List Room). All (IsWorkerOf c.args.board.now) rs) (sym items) here;
      unused = subst (λ (rs : List Room). All (IsUnused (plan_of c.args.board.now)) rs) (sym items) unused;
      owners = ap (map owner_of) items
          ∙ (map_push owner_of rooms room
          ∙ ((λ i. c.loop-pass.invariant.owners i ++ made.owner i ∷ [])
          ∙ sym (named_more c.loop-pass.yielded c.in-Some.pass (Some c.in-Some-worker_of.actor) who)));
    }

pub returns : goal.returns
returns c =
    let it = c.into_iter-pass-iterator.result in
    let road = YieldsList-from_chain {s = it}
    (YieldsList-from_vec {s = chain_first it} c.args.submits.items (search rules) (search rules))
    (YieldsList-from_vec {s = chain_second it} c.args.rings.items (search rules) (search rules)) (cc) (cc) in
    let end = YieldsList-end road c.loop-pass.yielded _ c.loop-pass.yielded_by _ c.next.new.self
    c.in-None.is c.next.ensures.steps in
    let p = c.args.ordered.now in
    let all = sym (map-id c.loop-pass.yielded) ∙ end.0 in
    record {
      each = c.loop-pass.invariant.each;
      unused = c.loop-pass.invariant.unused;
      owners = c.loop-pass.invariant.owners
          ∙ (ap (filter_map worker_at) all
          ∙ (crew_named c.args.board.now p c.args.submits.items c.args.rings.items c.requires.submits c.requires.rings
          ∙ ap (λ (z : Plan). workers z.script) (sym c.requires.plan)));
    }
