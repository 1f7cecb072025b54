use Rattle.std.proofs.Common.{rules, ◌≡◌, ◌-◌, ◌<◌, ℕ, length, sym, ap, ◌∙◌, arith}
use Rattle.std.specs.Iterator.Adapters.{zip_first, zip_second}
use Rattle.std.proofs.lemmas.List.{length_push}
use Rattle.std.proofs.lemmas.Iterator.{YieldsList-from_range, YieldsList-from_zip}
use Rattle.std.proofs.lemmas.Iterator.Adapters.{YieldsList-from_vec}
use Rattle.std.proofs.lemmas.Iterator.Consumers.{YieldsList-turn, YieldsList-end}
use Rattle.vq_model.specs.Plan.{Plan}
use Rattle.vq_board_laws.specs.declared.view.Role.TheVariants.{Shelf as ShelfRole}
use Rattle.vq_board_run.proofs.Shelving.{next_shelf, timelines_all, timelines_more, zipped}
use Rattle.vq_board_run.proofs.timelines.timelines_of.Goals as goal

pub new-requires : goal.new-requires
new-requires c =
    let n : ℕ = length c.args.ordered.now.chains in
    let it = c.into_iter-chain-iterator.result in
    let chains : c.chains-chains.result ≡ n =
    c.chains-chains.ensures ∙ ap (λ (p : Plan). length p.chains) c.plan.ensures.value in
    let all : c.chains-chains.result - 0 ≡ n = omega arith in
    let range = ap zip_first c.into_iter-chain-iterator.ensures.into_iter_gives ∙ c.zip-chain-items.ensures.first in
    let road = YieldsList-from_zip {s = it}
    (YieldsList-from_range {s = zip_first it} 0 c.chains-chains.result n range all)
    (YieldsList-from_vec {s = zip_second it} c.args.shelves.items (search rules) (search rules)) in
    let turn = YieldsList-turn road c.loop-chain.yielded _ c.loop-chain.yielded_by _ c.next.new.self
    (c.in-Some.chain, c.in-Some.shelf) c.in-Some.is c.next.ensures.steps in
    let next = next_shelf c.args.board.now n c.args.shelves.items c.requires.shelves _
    (c.in-Some.chain, c.in-Some.shelf) turn in
    let at = next.chain in
    let below = next.within in
    let within : c.in-Some.chain < n = omega (arith, at, below) in
    record {
      plan = c.requires.plan;
      exists = within;
      fresh = next.fresh;
      role = next.role ∙ ap ShelfRole (sym at);
    }

pub loop-chain-preserved : goal.loop-chain-preserved
loop-chain-preserved c =
    let n : ℕ = length c.args.ordered.now.chains in
    let it = c.into_iter-chain-iterator.result in
    let chains : c.chains-chains.result ≡ n =
    c.chains-chains.ensures ∙ ap (λ (p : Plan). length p.chains) c.plan.ensures.value in
    let all : c.chains-chains.result - 0 ≡ n = omega arith in
    let range = ap zip_first c.into_iter-chain-iterator.ensures.into_iter_gives ∙ c.zip-chain-items.ensures.first in
    let road = YieldsList-from_zip {s = it}
    (YieldsList-from_range {s = zip_first it} 0 c.chains-chains.result n range all)
    (YieldsList-from_vec {s = zip_second it} c.args.shelves.items (search rules) (search rules)) in
    let turn = YieldsList-turn road c.loop-chain.yielded _ c.loop-chain.yielded_by _ c.next.new.self
    (c.in-Some.chain, c.in-Some.shelf) c.in-Some.is c.next.ensures.steps in
    let next = next_shelf c.args.board.now n c.args.shelves.items c.requires.shelves _
    (c.in-Some.chain, c.in-Some.shelf) turn in
    let made = c.in_ok-new.ensures {u = tt} in
    timelines_more c.args.board.now (length c.loop-chain.yielded) _ c.loop-chain.timelines.items _ c.in_ok-new.field-0
    c.loop-chain.invariant made.board (made.chain ∙ next.chain)
    (length_push c.loop-chain.yielded (c.in-Some.chain, c.in-Some.shelf)) (c.in_ok-push.ensures {u = tt}).items

pub returns : goal.returns
returns c =
    let n : ℕ = length c.args.ordered.now.chains in
    let it = c.into_iter-chain-iterator.result in
    let chains : c.chains-chains.result ≡ n =
    c.chains-chains.ensures ∙ ap (λ (p : Plan). length p.chains) c.plan.ensures.value in
    let all : c.chains-chains.result - 0 ≡ n = omega arith in
    let range = ap zip_first c.into_iter-chain-iterator.ensures.into_iter_gives ∙ c.zip-chain-items.ensures.first in
    let road = YieldsList-from_zip {s = it}
    (YieldsList-from_range {s = zip_first it} 0 c.chains-chains.result n range all)
    (YieldsList-from_vec {s = zip_second it} c.args.shelves.items (search rules) (search rules)) in
    let end = YieldsList-end road c.loop-chain.yielded _ c.loop-chain.yielded_by _ c.next.new.self
    c.in-None.is c.next.ensures.steps in
    let count : length c.loop-chain.yielded ≡ n =
    end.1 ∙ zipped c.args.board.now n c.args.shelves.items c.requires.shelves in
    timelines_all c.args.board.now _ c.loop-chain.timelines.items c.loop-chain.invariant
    (count ∙ ap (λ (p : Plan). length p.chains) (sym c.requires.plan))
