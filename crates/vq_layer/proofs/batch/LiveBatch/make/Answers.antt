use Rattle.std.proofs.Common.{◌≡◌, List, sym, ◌∙◌, ap, subst}
use Rattle.vq_live.specs.Live.{Live}
use Rattle.vq_layer.specs.Takes.{AreReserved, taken_all, signals_all}
use Rattle.vq_layer.proofs.Reserving.{are_reserved, signals_reserved, taken_reserved, bare_on}
use Rattle.vq_layer.proofs.batch.LiveBatch.make.Goals as goal

pub take_all-requires-clause-reserved : goal.take_all-requires-clause-reserved
take_all-requires-clause-reserved c =
    let ts = c.args.timelines.now in
    let ws = c.args.signals.now in
    subst (λ (us : List Live). AreReserved us ws) (sym c.in_ok-reserve_all.ensures.after) (are_reserved ts ws c.requires.apart c.requires.known c.requires.fine)

pub returns-clause-made : goal.returns-clause-made
returns-clause-made c =
    let ts = c.args.timelines.now in
    let ws = c.args.signals.now in
    let same : c.take_all.new.signals.items ≡ signals_all ts ws =
    c.take_all.ensures.listed
    ∙ ap (λ (us : List Live). signals_all us ws) c.in_ok-reserve_all.ensures.after
    ∙ signals_reserved ts ws c.requires.apart (bare_on ts ws c.requires.bare) in
    λ i. record { token = c.args.token; waits = c.args.waits.items; signals = same i }

pub returns-clause-after : goal.returns-clause-after
returns-clause-after c =
    let ts = c.args.timelines.now in
    let ws = c.args.signals.now in
    c.take_all.ensures.after
    ∙ ap (λ (us : List Live). taken_all us ws) c.in_ok-reserve_all.ensures.after
    ∙ taken_reserved ts ws c.requires.apart (bare_on ts ws c.requires.bare)
