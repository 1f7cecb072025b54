-- The lines of a canonical text are the script's statements in their order, numbered from 1 on.
use Rattle.std.proofs.Common.{ℕ, ◌≡◌, false, List, [], ◌++◌, map, Ok, sym, ap, ◌∙◌}
use Rattle.std.specs.List.{flat_map}
use Rattle.vq_model.specs.declared.script.Script.{Script}
use Rattle.vq_model.specs.declared.statement.Form.TheVariants.{Plain}
use Rattle.vq_model.specs.declared.statement.Statement.{Statement}
use Rattle.vq_model.specs.Canonical.{canonical_text, line_text}
use Rattle.vq_model.specs.Reading.{read_lines}
use Rattle.vq_model.specs.SameScript.{IsScript, without_lines}
use Rattle.vq_model.specs.Text.{lines_of}
use Rattle.vq_model.specs.ValidScripts.{IsUnscheduled}
use Rattle.vq_canonical_laws.specs.CanonicalStatements.{version_statements, buffer_statement, semaphore_statement, queue_statement, statements_of_script, numbered}
use Rattle.vq_canonical_laws.proofs.StatementsSaid.{script_said}
use Rattle.vq_canonical_laws.proofs.CanonicalLaws.{lines_same}
use Rattle.vq_canonical_laws.proofs.CanonicalReads.{jobs_lead, plain_numbered, statements_of, written_parts}
use Rattle.vq_canonical_laws.proofs.OrderedItems.{jobs_again}
use Rattle.vq_canonical_laws.proofs.ScheduleParts.{scheduled_script}
use Rattle.vq_canonical_laws.proofs.ScriptParts.{Parts, script_of_parts}

-- The lines of a canonical text are the statements of its script in their order, numbered from 1 on.
pub canonical_numbered : (s : Script) → IsScript s → IsUnscheduled s →
    read_lines Plain [] 1 (lines_of (canonical_text s)) ≡ Ok (numbered 1 (statements_of_script s))
canonical_numbered s i plain =
    let has = written_parts s i in
    let p : Parts = has.said in
    let none : has.scheduled ≡ false = sym (ap (λ (x : Script). x.scheduled) has.same) ∙ plain.unscheduled in
    let parts_same : without_lines s ≡ script_of_parts p =
    has.same ∙ (λ k. scheduled_script p (none k) (has.none none k)) in
    let text : canonical_text s ≡ canonical_text (script_of_parts p) =
    ap (flat_map line_text) (sym (lines_same s)) ∙ ap canonical_text parts_same in
    let first = jobs_lead p has.ordered has.items has.closed in
    let again = jobs_again p.version p.buffers p.semaphores p.queues [] p.jobs p has.items.closed first in
    let said : version_statements p.version ++ statements_of p ≡ statements_of_script s =
    (λ k.
    version_statements p.version
    ++ (map buffer_statement p.buffers
    ++ map semaphore_statement p.semaphores
    ++ map queue_statement p.queues
    ++ again k))
    ∙ (ap (λ (x : Script). statements_of_script x) (sym parts_same) ∙ script_said s) in
    ap (λ (ls : List ℕ). read_lines Plain [] 1 (lines_of ls)) text
    ∙ (plain_numbered p has.ordered has.items has.closed
    ∙ ap (λ (xs : List Statement). Ok (numbered 1 xs)) said)
