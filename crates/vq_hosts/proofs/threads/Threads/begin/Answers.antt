use Rattle.std.proofs.Common.{List, [], ◌∷◌, ◌++◌, refl, sym, ap, ◌∙◌}
use Rattle.std.proofs.lemmas.List.{map-append}
use Rattle.vq_model.specs.declared.script.Queue.{Queue}
use Rattle.vq_blocks.specs.declared.block.HostThread.{HostThread}
use Rattle.vq_blocks.specs.Compiled.{queue_of_thread}
use Rattle.vq_hosts.proofs.GrownThreads.{batches_with_thread}
use Rattle.vq_hosts.proofs.threads.Threads.begin.Goals as goal

pub returns : goal.returns
returns c = λ told h.
    let t : HostThread = record { line = c.args.number; name = c.args.name; steps = [] } in
    record {
      all_queues = c.in_ok-push.ensures.items
          ∙ ap (λ (qs : List Queue). qs ++ queue_of_thread t ∷ []) h.all_queues
          ∙ sym (map-append queue_of_thread told.threads (t ∷ []));
      all_batches = h.all_batches ∙ sym (batches_with_thread 0 told.threads t refl);
      is_inside = refl;
    }
