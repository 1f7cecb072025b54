use Rattle.std.proofs.Common.{◌∙◌, ◌++◌, List, ap, subst, sym}
use Rattle.std.specs.List.{flat_map}
use Rattle.vq_replay.specs.declared.played.Played.{Played}
use Rattle.vq_replay.specs.Passages.{AreWritten}
use Rattle.vq_replay.specs.Traces.{turn_line}
use Rattle.vq_replay.proofs.RoundsTraced.{written_on}
use Rattle.vq_replay.proofs.fair.write_many.Goals as goal

pub returns : goal.returns
returns c = λ turns w.
    subst (AreWritten c.args.plan.now turns c.add.new.self) (sym c.clear.ensures.items)
    (written_on c.args.plan.now turns c.args.text.now c.add.new.self c.args.played.now.items w
    (c.in_ok-add.ensures {u = tt}
    ∙ ap (λ (ps : List Played). c.args.text.now ++ flat_map (turn_line c.args.plan.now) ps)
    c.as_slice.ensures.value))
