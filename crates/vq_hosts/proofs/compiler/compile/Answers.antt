use Rattle.std.proofs.Common.{◌≡◌, suc, Result, arith, length, refl, sym, ap, subst, ◌∙◌}
use Rattle.std.specs.Prelude.{IfErr}
use Rattle.vq_ground.proofs.Options.{returned}
use Rattle.vq_model.specs.declared.script.Script.{Script}
use Rattle.vq_model.specs.declared.statement.Form.TheVariants.{Plain}
use Rattle.vq_model.specs.Canonical.{canonical_text}
use Rattle.vq_model.specs.Reading.{StandsFor}
use Rattle.vq_model.specs.Text.{lines_of}
use Rattle.vq_blocks.specs.Blocks.{nothing_told}
use Rattle.vq_block_laws.proofs.Cited.{compiled_reads_back}
use Rattle.vq_hosts.specs.declared.compiler.Compiled.{Compiled}
use Rattle.vq_hosts.specs.declared.fault.HostsFault.{HostsFault}
use Rattle.vq_hosts.specs.Outcomes.{IsFirst}
use Rattle.vq_hosts.proofs.ReadOn.{first_fault, on_told, tells_all}
use Rattle.vq_hosts.proofs.compiler.compile.Goals as goal

pub returns-in_err-read_line-clause-fault : goal.returns-in_err-read_line-clause-fault
returns-in_err-read_line-clause-fault c =
    let now = c.loop-line.invariant in
    let same = returned c.from_residual.result c.in_err-read_line.field-0.0 c.from_residual.ensures.0 c.from_residual.ensures.1 in
    subst (λ (r : Result Compiled HostsFault). IfErr r (IsFirst c.args.bytes.now)) (sym same)
    (first_fault c.args.bytes.now now.told c.loop-line.number c.in-Some.line.now
    (lines_of c.loop-line.rest.now) (lines_of c.in-Some.after.now) c.in_err-read_line.field-0.0 _
    c.in-Some.ensures.0 now.same (c.in_err-read_line.ensures now.told now.has_told))

pub loop-line-init : goal.loop-line-init
loop-line-init c = record {
  told = nothing_told;
  has_told = c.new-reader.ensures;
  same = refl;
  counted = refl;
}

pub loop-line-preserved : goal.loop-line-preserved
loop-line-preserved c =
    let now = c.loop-line.invariant in
    let next = c.in-Some.ensures.0 in
    let got = c.in_ok-read_line.ensures now.told now.has_told in
    let long : length (lines_of c.loop-line.rest.now) ≡ suc (length (lines_of c.in-Some.after.now)) = ap length next in
    let counted = now.counted in
    record {
      told = got.0;
      has_told = got.2;
      same = sym (on_told now.told got.0 c.loop-line.number c.in-Some.line.now
          (lines_of c.loop-line.rest.now) (lines_of c.in-Some.after.now) next got.1) ∙ now.same;
      counted = omega arith;
    }

pub returns-clause-compiled : goal.returns-clause-compiled
returns-clause-compiled c =
    let now = c.loop-line.invariant in
    let joined = c.in_ok-joined.ensures now.told now.has_told in
    record {
      told = now.told;
      tells = tells_all c.args.bytes.now now.told c.loop-line.number (lines_of c.loop-line.rest.now)
          c.in_default.ensures now.same joined.0;
      compiled = record {
        stands = subst (λ (s : Script). StandsFor (canonical_text s) Plain c.in_ok-script.script) joined.1
            c.in_ok-script.ensures.stands;
        origin = joined.2;
      };
    }

pub renumbered-requires : goal.renumbered-requires
renumbered-requires c =
    let now = c.loop-line.invariant in
    let joined = c.in_ok-joined.ensures now.told now.has_told in
    let back = compiled_reads_back c.args.bytes.now now.told
    (tells_all c.args.bytes.now now.told c.loop-line.number (lines_of c.loop-line.rest.now) c.in_default.ensures now.same
    joined.0) in (
      back.0,
      subst (λ (s : Script). StandsFor (canonical_text s) Plain back.0) (sym joined.1) back.1,
    )
