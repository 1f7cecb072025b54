use Rattle.std.proofs.Common.{◌≡◌, [], sym, ap, ◌∙◌}
use Rattle.std.proofs.lemmas.List.{append-nil}
use Rattle.vq_model.specs.ScriptOfLines.{jobs_of}
use Rattle.vq_script.proofs.known.Known.into_parts.Goals as goal

pub returns : goal.returns
returns c = λ lines h.
    let ended : c.args.self.jobs.items ≡ jobs_of lines =
    sym (append-nil c.args.self.jobs.items) ∙ sym (h.jobs []) ∙ ap jobs_of (append-nil lines) in
    λ i. record {
      version = sym h.declares.version i;
      buffers = sym h.declares.all_buffers i;
      semaphores = sym h.declares.all_semaphores i;
      queues = sym h.declares.all_queues i;
      jobs = ended i;
      scheduled = sym h.declares.schedule i;
      turns = sym h.declares.all_turns i;
    }
