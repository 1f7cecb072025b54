use Rattle.std.proofs.Common.{refl, ◌∙◌, arith, ap, ◌∷◌, [], ◌++◌}
use Rattle.vq_spec.proofs.SignalOrder.{counts_length, count_few, next_exists, signals_push}
use Rattle.vq_spec.proofs.signals.Signals.push.Goals as goal

pub index-requires : goal.index-requires
index-requires c =
    let s = c.args.script.now in
    let k = c.requires.kept in
    let l = next_exists s c.args.self.now k c.requires.read c.args.job c.args.mark.now
    c.requires.next in
    let n = counts_length s c.args.self.now k in
    omega (arith, c.args.self.now.counts.ok.0)

pub overflow_add-count : goal.overflow_add-count
overflow_add-count c =
    let s = c.args.script.now in
    let k = c.requires.kept in
    let l = next_exists s c.args.self.now k c.requires.read c.args.job c.args.mark.now
    c.requires.next in
    let few = count_few s c.args.self.now k c.requires.read c.args.mark.now.semaphore
    c.index.result.now l in
    omega (arith, c.index.ensures)

pub value_of-requires : goal.value_of-requires
value_of-requires c =
    next_exists c.args.script.now c.args.self.now c.requires.kept c.requires.read c.args.job
    c.args.mark.now c.requires.next

pub index_mut-requires : goal.index_mut-requires
index_mut-requires c =
    let s = c.args.script.now in
    let k = c.requires.kept in
    let l = next_exists s c.args.self.now k c.requires.read c.args.job c.args.mark.now
    c.requires.next in
    let n = counts_length s c.args.self.now k in
    omega (arith, c.args.self.now.counts.ok.0)

pub returns-clause-kept : goal.returns-clause-kept
returns-clause-kept c =
    let s = c.args.script.now in
    (signals_push s c.args.self.now c.requires.kept c.requires.read c.args.job c.args.mark.now
    c.requires.next _ c.index.result.now c.index.result.now c.index.ensures
    ((c.in_ok-push.ensures {u = tt}).items
    ∙ ap (λ v. c.args.self.now.ops.items ++ record {
      chain = c.args.mark.now.semaphore;
      index = 0;
      value = v;
      job = c.args.job;
      line = c.args.mark.now.line;
    } ∷ []) c.value_of.ensures) refl).0
