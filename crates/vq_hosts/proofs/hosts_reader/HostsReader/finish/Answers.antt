use Rattle.std.proofs.Common.{[], Err, sym, subst, ◌∙◌}
use Rattle.vq_model.specs.declared.statement.Form.TheVariants.{Plain}
use Rattle.vq_model.specs.Reading.{read_lines}
use Rattle.vq_script.specs.declared.fault.ScriptFault.{ScriptFault}
use Rattle.vq_script.specs.Parts.{GivesParts}
use Rattle.vq_script.specs.Reads.{script_from}
use Rattle.vq_hosts.proofs.JoinedTold.{lines_joined, rest_ended, rest_open, script_joined}
use Rattle.vq_hosts.proofs.hosts_reader.HostsReader.finish.Goals as goal

pub returns-in-Err-At : goal.returns-in-Err-At
returns-in-Err-At c = λ told h.
    rest_open told c.args.number c.in-Err-At.line c.in-Err-At.kind (sym h.has_threads.is_inside ∙ c.if-self.false)
    (subst (λ (f : ScriptFault). GivesParts (Err f) (script_from (read_lines Plain told.rest c.args.number [])))
    c.in-Err-At.field-0-is (c.in-Err-At.ensures Plain told.rest h.has_rest))

pub returns : goal.returns
returns c = λ told h.
    let parts = c.in-Ok.parts in
    let ended = rest_ended told c.args.number parts (sym h.has_threads.is_inside ∙ c.if-self.false)
    (c.in-Ok.ensures Plain told.rest h.has_rest) in (
      ended.0,
      c.in_ok-join_parts-in-Ok.ensures.script ∙ script_joined told c.args.self h parts ended.1,
      c.in_ok-join_parts-in-Ok.ensures.lines ∙ lines_joined told c.args.self h parts ended.1 c.deref.result.now c.deref.ensures.value,
    )
