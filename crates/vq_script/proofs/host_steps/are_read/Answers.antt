use Rattle.std.proofs.Common.{Option, not, is_some, sym, ap, ◌∙◌}
use Rattle.std.proofs.lemmas.List.{take_rest}
use Rattle.vq_model.specs.declared.script.Pair.{Pair}
use Rattle.vq_script.specs.Holds.{kept}
use Rattle.vq_script.proofs.PairsRead.{pairs_left}
use Rattle.vq_script.proofs.host_steps.are_read.Goals as goal

pub loop-rest-preserved : goal.loop-rest-preserved
loop-rest-preserved c =
    let rest = c.loop-rest.rest.now in
    let read = ap (λ (p : Option Pair). is_some p) (sym c.pair.ensures) ∙ c.is_none.ensures
    ∙ ap not c.if-is_none.false in
    rw (take_rest rest 2)
    (pairs_left (kept c.args.known.now) _ rest c.in-len2-up.len_at_least read
    ∙ c.loop-rest.invariant)
