use Rattle.std.proofs.Common.{◌≡◌, ◌++◌, ◌∷◌, [], refl, sym, subst, ◌∙◌, List, ℕ, true, false, length, arith}
use Rattle.vq_model.specs.declared.script.Buffer.{Buffer}
use Rattle.std.specs.List.{All}
use Rattle.std.proofs.lemmas.List.Elements.{All-push}
use Rattle.vq_model.specs.Context.{is_taken}
use Rattle.vq_model.specs.Text.{is_name}
use Rattle.vq_script.proofs.NamesFound.{HasNames, buffer_named, name_free}
use Rattle.vq_script.proofs.known.Known.add_buffer.Goals as goal

pub insert-requires : goal.insert-requires
insert-requires c =
    let known = c.args.self.now in
    let key : c.in_ok-name.name.items ≡ c.args.buffer.name = c.in_ok-name.ensures.items ∙ c.as_slice.ensures in
    name_free known.names.map known.buffers.items known.semaphores.items known.queues.items c.in_ok-name.name.items
    known.all_names
    (subst (λ (bs : List ℕ). is_taken known.buffers.items known.semaphores.items known.queues.items bs ≡ false)
    (sym key) c.requires.fresh)

pub invariant_of-self-2-clause-named_buffers : goal.invariant_of-self-2-clause-named_buffers
invariant_of-self-2-clause-named_buffers c =
    let known = c.args.self.now in
    let is_named : Buffer → Type 0 = λ x. is_name x.name ≡ true in
    let pushed : c.push_reserved.new.self.items ≡ known.buffers.items ++ c.args.buffer ∷ [] = grind arith in
    subst (λ (xs : List Buffer). All is_named xs) (sym pushed)
    (All-push is_named known.buffers.items c.args.buffer known.named_buffers c.requires.named)

pub invariant_of-self-2-clause-all_names : goal.invariant_of-self-2-clause-all_names
invariant_of-self-2-clause-all_names c =
    let known = c.args.self.now in
    let key : c.in_ok-name.name.items ≡ c.args.buffer.name = c.in_ok-name.ensures.items ∙ c.as_slice.ensures in
    let last : c.len.result ≡ length known.buffers.items = grind arith in
    let pushed : c.push_reserved.new.self.items ≡ known.buffers.items ++ c.args.buffer ∷ [] = grind arith in
    subst (λ (xs : List Buffer). HasNames c.insert.new.self.map xs known.semaphores.items known.queues.items) (sym pushed)
    (buffer_named known.names.map c.insert.new.self.map c.in_ok-name.name _ known.buffers.items known.semaphores.items
    known.queues.items c.in_ok-insert.ensures.put known.all_names
    (subst (λ (bs : List ℕ). is_taken known.buffers.items known.semaphores.items known.queues.items bs ≡ false)
    (sym key) c.requires.fresh) c.len.result c.args.buffer refl key last)
