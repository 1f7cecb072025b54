use Rattle.std.proofs.Common.{Option, sym, subst}
use Rattle.vq_model.specs.declared.script.Batch.{Batch}
use Rattle.vq_model.specs.Reading.{with_line}
use Rattle.vq_script.specs.Holds.{Holds, Kept, kept}
use Rattle.vq_script.specs.SaidLines.{statement_in}
use Rattle.vq_script.proofs.Pushes.{holds_after}
use Rattle.vq_script.proofs.VersionNamed.{some_lines}
use Rattle.vq_script.proofs.line_reader.read_formed.Goals as goal

pub returns-in_ok-add-in-Ok : goal.returns-in_ok-add-in-Ok
returns-in_ok-add-in-Ok c = λ lines h.
    let told = c.in-Ok.ensures.told lines h in
    let s = statement_in (kept c.args.known.now) c.in-Ok.said in (
      s,
      told.0,
      told.1,
      record {
        holds = subst (λ (now : Kept × Option Batch). Holds (with_line lines c.args.number s) now.0 now.1)
            (sym c.in_ok-add-in-Ok.ensures)
            (holds_after lines c.args.number c.in-Ok.said _ _ h.holds c.in-Ok.ensures.may.keep);
        first = some_lines lines c.args.number s;
      },
    )
