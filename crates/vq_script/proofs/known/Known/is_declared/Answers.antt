use Rattle.std.proofs.Common.{Option, ap, ◌∙◌}
use Rattle.std.specs.Option.{is_some}
use Rattle.vq_script.specs.declared.named_item.NamedItem.{NamedItem}
use Rattle.vq_model.specs.Forms.{BufferName, TimelineName, BinaryName, FenceName, QueueName}
use Rattle.vq_script.specs.Names.{item_of}
use Rattle.vq_script.proofs.NamesFound.{taken_found}
use Rattle.vq_script.proofs.known.Known.is_declared.Goals as goal

pub returns : goal.returns
returns c =
    let known = c.args.self.now in
    let name = c.args.name.now in
    c.is_some.ensures ∙ ap (λ (d : Option NamedItem). is_some d) c.get.ensures
    ∙ taken_found known.buffers.items known.semaphores.items known.queues.items name
    (item_of known.names.map name) (known.all_names BufferName name) (known.all_names TimelineName name)
    (known.all_names BinaryName name) (known.all_names FenceName name) (known.all_names QueueName name)
