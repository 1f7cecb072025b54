use Rattle.std.proofs.Common.{Bool, ◌||◌, not, List, map, refl, sym, ap, subst, ◌∙◌, nat_lt}
use Rattle.std.specs.Prelude.{nat_le}
use Rattle.vq_model.specs.declared.script.Pair.{Pair}
use Rattle.vq_model.specs.ScriptOfLines.{mark}
use Rattle.vq_blocks.specs.declared.block.ThreadStep.TheVariants.{Wait}
use Rattle.vq_blocks.specs.BlockFaults.{most_pairs, most_steps}
use Rattle.vq_blocks.specs.Blocks.{Told}
use Rattle.vq_lexer.specs.Words.{texts}
use Rattle.vq_hosts.specs.HasThreads.{HasThreads}
use Rattle.vq_hosts.proofs.StepKinds.{wait_tested, wait_told}
use Rattle.vq_hosts.proofs.block_lines.take_wait.Goals as goal

pub returns-in-Some : goal.returns-in-Some
returns-in-Some c = λ told first hr ht of_block p form.
    let found = c.in_ok-found.found in (
      refl,
      wait_tested told c.args.threads.now first (texts c.args.words.now) found c.args.plain c.len.result
          c.len-2.result ht (c.in_ok-found.ensures told.rest hr) of_block form p
          (c.len.ensures ∙ c.args.threads.now.batches.ok.0) (c.len-2.ensures ∙ found.pairs.ok.0)
          ∙ sym c.in-Some.ensures,
    )

pub returns : goal.returns
returns c = λ told first hr ht of_block p form.
    let found = c.in_ok-found.found in
    let read = c.in_ok-found.ensures told.rest hr in
    let full : Bool = nat_le most_steps c.len.result || nat_lt most_pairs c.len-2.result in
    let after = wait_told told c.args.number first (texts c.args.words.now) found (not c.args.plain || not found.shaped)
    full read of_block form (sym c.in_default.ensures) in (
      wait_tested told c.args.threads.now first (texts c.args.words.now) found c.args.plain c.len.result
          c.len-2.result ht read of_block form p
          (c.len.ensures ∙ c.args.threads.now.batches.ok.0) (c.len-2.ensures ∙ found.pairs.ok.0)
          ∙ sym c.in_default.ensures,
      subst (λ (t : Told). HasThreads t c.take.new.self) (sym after)
          (c.in_ok-take.ensures told (Wait found.pairs.items) ht
          (c.in_ok-waits.ensures
          ∙ ap (λ (ps : List Pair). map (λ pair. mark c.args.number pair 1) ps) c.deref.ensures.value)
          c.new.ensures.items),
      ap (λ (t : Told). t.rest) after,
    )
