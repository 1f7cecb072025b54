use Rattle.std.proofs.Common.{◌≡◌, suc, Result, [], arith, length, refl, sym, ap, subst, ◌∙◌}
use Rattle.std.specs.Prelude.{IfErr}
use Rattle.vq_ground.proofs.Options.{returned}
use Rattle.vq_model.specs.declared.script.Script.{Script}
use Rattle.vq_model.specs.Reading.{read_script}
use Rattle.vq_model.specs.Text.{lines_of}
use Rattle.vq_script.specs.declared.fault.ScriptFault.{ScriptFault}
use Rattle.vq_script.specs.Outcomes.{Gives, IsFirst}
use Rattle.vq_script.proofs.ReadOn.{gives_fault, is_first, on_read}
use Rattle.vq_script.proofs.reader.parse.Goals as goal

pub returns-in_err-read_line-clause-exact : goal.returns-in_err-read_line-clause-exact
returns-in_err-read_line-clause-exact c =
    let now = c.loop-line.invariant in
    let same = returned c.from_residual.result c.in_err-read_line.field-0.0 c.from_residual.ensures.0 c.from_residual.ensures.1 in
    subst (λ (r : Result Script ScriptFault). Gives r (read_script c.args.bytes.now c.args.form)) (sym same)
    (gives_fault c.args.bytes.now c.args.form now.read c.loop-line.number c.in-Some.line.now
    (lines_of c.loop-line.rest.now) (lines_of c.in-Some.after.now) c.in_err-read_line.field-0.0 _
    c.in-Some.ensures.0 now.same (c.in_err-read_line.ensures c.args.form now.read now.has_read))

pub returns-in_err-read_line-clause-fault : goal.returns-in_err-read_line-clause-fault
returns-in_err-read_line-clause-fault c =
    let now = c.loop-line.invariant in
    let same = returned c.from_residual.result c.in_err-read_line.field-0.0 c.from_residual.ensures.0 c.from_residual.ensures.1 in
    subst (λ (r : Result Script ScriptFault). IfErr r (IsFirst c.args.bytes.now c.args.form)) (sym same)
    (is_first c.args.bytes.now c.args.form c.in_err-read_line.field-0.0
    (gives_fault c.args.bytes.now c.args.form now.read c.loop-line.number c.in-Some.line.now
    (lines_of c.loop-line.rest.now) (lines_of c.in-Some.after.now) c.in_err-read_line.field-0.0 _
    c.in-Some.ensures.0 now.same (c.in_err-read_line.ensures c.args.form now.read now.has_read)))

pub loop-line-init : goal.loop-line-init
loop-line-init c = record {
  read = [];
  has_read = c.new-reader.ensures;
  same = refl;
  counted = refl;
}

pub loop-line-preserved : goal.loop-line-preserved
loop-line-preserved c =
    let now = c.loop-line.invariant in
    let next = c.in-Some.ensures.0 in
    let got = c.in_ok-read_line.ensures c.args.form now.read now.has_read in
    let long : length (lines_of c.loop-line.rest.now) ≡ suc (length (lines_of c.in-Some.after.now)) = ap length next in
    let counted = now.counted in
    record {
      read = got.0;
      has_read = got.2;
      same = sym (on_read c.args.form now.read got.0 c.loop-line.number c.in-Some.line.now
          (lines_of c.loop-line.rest.now) (lines_of c.in-Some.after.now) next got.1) ∙ now.same;
      counted = omega arith;
    }
