use Rattle.std.proofs.Common.{not, ap, sym, ◌∙◌}
use Rattle.vq_model.specs.Context.{is_taken}
use Rattle.vq_script.specs.Holds.{kept}
use Rattle.vq_forms.specs.OpenWords.{opens}
use Rattle.vq_script.proofs.ShapesRead.{none_new, one_new}
use Rattle.vq_script.proofs.place_faults.has_new_names.Goals as goal

pub returns-then-not-is_declaration : goal.returns-then-not-is_declaration
returns-then-not-is_declaration c =
    sym (none_new (kept c.args.known.now) c.args.form (opens c.args.form c.args.words.now) c.requires.found
    (sym c.is_declaration.ensures ∙ c.if-not-is_declaration.true))

pub returns : goal.returns
returns c =
    let known = c.args.known.now in
    ap not c.is_declared.ensures
    ∙ one_new (is_taken known.buffers.items known.semaphores.items known.queues.items) c.args.form c.args.words.now _
    (sym c.is_declaration.ensures ∙ c.if-not-is_declaration.false) c.requires
