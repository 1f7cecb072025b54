use Rattle.std.proofs.Common.{◌≡◌, ℕ, ◌<◌, List, take, get_or, sym, ◌∙◌, ap, subst}
use Rattle.vq_live.specs.Live.{Live}
use Rattle.vq_layer.specs.declared.answers.Wanted.{Wanted}
use Rattle.vq_layer.specs.Takes.{unreserved_all}
use Rattle.vq_layer.specs.Calls.{MayLackOf}
use Rattle.vq_layer.proofs.Reserving.{apart_take, known_at, lacks, reserved_back, reserved_more, bare_on}
use Rattle.vq_layer.proofs.signals.reserve_all.Goals as goal

pub reserve_in-requires : goal.reserve_in-requires
reserve_in-requires c =
    let d : Wanted = record { timeline = 0; value = 0 } in
    let exists = known_at c.args.timelines.now c.args.signals.now c.loop-i.i d c.requires.known c.loop-i-test.true in
    record { exists = subst (λ (n : ℕ). (get_or c.args.signals.now c.loop-i.i d).timeline < n) (sym c.loop-i.auto.timelines) exists }

pub returns-in-Err-clause-fault : goal.returns-in-Err-clause-fault
returns-in-Err-clause-fault c =
    let d : Wanted = record { timeline = 0; value = 0 } in
    subst (MayLackOf c.args.timelines.now c.args.signals.now) (sym c.lack.ensures)
    (lacks c.args.timelines.now c.args.signals.now c.loop-i.i d c.loop-i.timelines c.in-Err.fault c.loop-i-test.true c.loop-i.invariant c.in-Err.ensures.fault)

pub returns-in-Err-clause-unchanged : goal.returns-in-Err-clause-unchanged
returns-in-Err-clause-unchanged c =
    let ts = c.args.timelines.now in
    let ws = take c.loop-i.i c.args.signals.now in
    let back : c.unreserve_all.new.timelines ≡ unreserved_all c.reserve_in.new.timelines ws = c.unreserve_all.ensures in
    back
    ∙ ap (λ (us : List Live). unreserved_all us ws) (c.in-Err.ensures.unchanged ∙ c.loop-i.invariant)
    ∙ reserved_back ts ws (apart_take c.loop-i.i c.args.signals.now c.requires.apart) (bare_on ts ws c.requires.bare)

pub loop-i-preserved : goal.loop-i-preserved
loop-i-preserved c =
    let d : Wanted = record { timeline = 0; value = 0 } in
    reserved_more c.args.timelines.now c.args.signals.now c.loop-i.i d c.loop-i.timelines c.reserve_in.new.timelines c.loop-i-test.true c.loop-i.invariant c.in_default.ensures.after
