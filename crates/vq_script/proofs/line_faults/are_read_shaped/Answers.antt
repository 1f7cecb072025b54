use Rattle.std.proofs.Common.{sym, ◌∙◌}
use Rattle.vq_script.specs.Holds.{kept}
use Rattle.vq_script.specs.declared.known.Known.{Known}
use Rattle.vq_forms.specs.OpenWords.{opens}
use Rattle.vq_script.proofs.ShapesRead.{AreNamed, read_shaped, turn_shaped}
use Rattle.vq_script.proofs.line_faults.are_read_shaped.Goals as goal

-- what is known to be declared has names
named : (known : Known) → AreNamed (kept known)
named known =
    record {
      named_buffers = known.named_buffers;
      named_semaphores = known.named_semaphores;
      named_queues = known.named_queues;
    }

pub returns-then-not-is_turn : goal.returns-then-not-is_turn
returns-then-not-is_turn c =
    sym (read_shaped (kept c.args.known.now) c.args.form (opens c.args.form c.args.words.now) (named c.args.known.now)
    c.requires.fits.found c.requires.read (sym c.is_declaration.ensures ∙ c.if-is_declaration.false)
    (sym c.is_turn.ensures ∙ c.if-not-is_turn.true))

pub returns : goal.returns
returns c =
    c.is_actor_or_marked.ensures
    ∙ turn_shaped (kept c.args.known.now) c.args.form c.args.words.now _ (named c.args.known.now)
    (sym c.is_turn.ensures ∙ c.if-not-is_turn.false) c.requires.fits c.requires.read
