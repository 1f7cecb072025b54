use Rattle.std.proofs.Common.{◌≡◌, [], length, sym, subst, arith}
use Rattle.vq_tables.specs.Notes.{AreNotes}
use Rattle.vq_tables.specs.Opening.{nothing, unmarked}
use Rattle.vq_tables.proofs.OpeningLaws.{notes_open}
use Rattle.vq_tables.proofs.opening.empty_notes.Goals as goal

pub returns : goal.returns
returns c =
    let p = c.args.plan.now in
    let n = c.loop-job.invariant.0 in
    let size : length c.loop-job.rows.items ≡ length p.jobs = omega (
      arith,
      c.jobs-job-end.ensures,
      c.loop-job.auto.job-end,
    ) in
    subst (AreNotes p unmarked [] nothing nothing) (sym c.of-2.ensures) (notes_open p c.loop-job.rows.items size (λ j
    l. c.loop-job.invariant.1 j (omega arith)))
