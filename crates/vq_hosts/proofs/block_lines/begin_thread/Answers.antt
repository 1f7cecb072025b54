use Rattle.std.proofs.Common.{◌≡◌, ℕ, ◌+◌, Bool, ◌||◌, not, false, List, [], ◌∷◌, length, nat_lt, arith, refl, sym, ap, subst, ◌∙◌}
use Rattle.std.specs.List.{list_any}
use Rattle.std.specs.Str.{bytes_eq}
use Rattle.std.proofs.lemmas.List.{length-map}
use Rattle.vq_model.specs.declared.script.Queue.{Queue}
use Rattle.vq_model.specs.declared.statement.Form.TheVariants.{Plain}
use Rattle.vq_model.specs.Context.{queues}
use Rattle.vq_blocks.specs.declared.block.BlockForm.TheVariants.{ThreadForm}
use Rattle.vq_blocks.specs.declared.block.BlockStatement.TheVariants.{BeginThread}
use Rattle.vq_blocks.specs.Blocks.{Told, is_named, with_block_line}
use Rattle.vq_blocks.specs.BlockFaults.{most_lanes}
use Rattle.vq_blocks.specs.Compiled.{queue_of_thread}
use Rattle.vq_hosts.specs.HasThreads.{HasThreads}
use Rattle.vq_hosts.proofs.BlockFaultsFound.{block_told}
use Rattle.vq_hosts.proofs.BlockKinds.{kind_of, not_below, thread_kind}
use Rattle.vq_hosts.proofs.ThreadBatches.{names_of_queues}
use Rattle.vq_hosts.proofs.block_lines.begin_thread.Goals as goal

pub returns-in-Some : goal.returns-in-Some
returns-in-Some c = λ told first hr ht of_block p form.
    let name = c.args.name.now in
    let named : (c.is_declared.result || c.is_named.result) ≡ is_named told name =
    (λ i. c.is_declared.ensures Plain told.rest hr i
    || (c.is_named.ensures ∙ ap (λ (qs : List Queue). list_any (λ q. bytes_eq name q.name) qs) ht.all_queues
    ∙ names_of_queues name told.threads) i) in
    let count = c.queue_count.ensures.exact Plain told.rest hr in
    let long = c.len.ensures in
    let same : length c.args.threads.now.queues.items ≡ length told.threads =
    ap length ht.all_queues ∙ length-map told.threads queue_of_thread in
    let lanes : c.queue_count.result + c.len.result ≡ length (queues told.rest) + length told.threads = omega arith in (
      refl,
      thread_kind told first name of_block form
          ∙ (λ i. kind_of (not (sym p i) || not (sym c.is_name-shaped.ensures i))
          (sym (c.has_begun.ensures Plain told.rest hr) i) false false (sym named i)
          (not (nat_lt (sym lanes i) most_lanes)))
          ∙ ap (λ (b : Bool). kind_of (not c.args.plain || not c.is_name-shaped.result) c.has_begun.result false false
          (c.is_declared.result || c.is_named.result) b)
          (not_below (c.queue_count.result + c.len.result) most_lanes)
          ∙ sym c.in-Some.ensures,
    )

pub returns : goal.returns
returns c = λ told first hr ht of_block p form.
    let name = c.args.name.now in
    let named : (c.is_declared.result || c.is_named.result) ≡ is_named told name =
    (λ i. c.is_declared.ensures Plain told.rest hr i
    || (c.is_named.ensures ∙ ap (λ (qs : List Queue). list_any (λ q. bytes_eq name q.name) qs) ht.all_queues
    ∙ names_of_queues name told.threads) i) in
    let count = c.queue_count.ensures.exact Plain told.rest hr in
    let long = c.len.ensures in
    let same : length c.args.threads.now.queues.items ≡ length told.threads =
    ap length ht.all_queues ∙ length-map told.threads queue_of_thread in
    let lanes : c.queue_count.result + c.len.result ≡ length (queues told.rest) + length told.threads = omega arith in
    let after = block_told told (first ∷ name ∷ []) of_block ThreadForm c.args.number (BeginThread name) form refl in (
      thread_kind told first name of_block form
          ∙ (λ i. kind_of (not (sym p i) || not (sym c.is_name-shaped.ensures i))
          (sym (c.has_begun.ensures Plain told.rest hr) i) false false (sym named i)
          (not (nat_lt (sym lanes i) most_lanes)))
          ∙ ap (λ (b : Bool). kind_of (not c.args.plain || not c.is_name-shaped.result) c.has_begun.result false false
          (c.is_declared.result || c.is_named.result) b)
          (not_below (c.queue_count.result + c.len.result) most_lanes)
          ∙ sym c.in_default.ensures,
      subst (λ (t : Told). HasThreads t c.begin.new.self)
          (ap (λ (x : List ℕ). with_block_line told c.args.number (BeginThread x)) c.in_ok-name.ensures ∙ sym after)
          (c.in_ok-begin.ensures told ht),
      ap (λ (t : Told). t.rest) after,
    )
