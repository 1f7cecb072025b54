use Rattle.std.proofs.Common.{◌≡◌, ◌++◌, ◌∙◌, ap, ℕ, length, take, arith}
use Rattle.std.specs.List.{flat_map}
use Rattle.std.proofs.Math.Seq.{take-length}
use Rattle.vq_actor.specs.ProgramParts.{wait_where}
use Rattle.vq_actor.proofs.ProgramsMade.{waits_are}
use Rattle.vq_actor.proofs.programs.waits.push_waits.Goals as goal

pub returns : goal.returns
returns c =
    let ns = c.args.needs.now in
    let old = c.args.tasks.now.items in
    let at_end : c.loop-need.need-index ≡ length ns =
    omega (arith, c.loop-need.auto.need-index-end, c.loop-need-test.false) in
    c.loop-need.invariant
    ∙ (ap (λ (k : ℕ). old ++ flat_map (wait_where c.args.within) (take k ns)) at_end
    ∙ (ap (λ ms. old ++ flat_map (wait_where c.args.within) ms) (take-length ns)
    ∙ ap (λ ts. old ++ ts) (waits_are c.args.within ns)))
