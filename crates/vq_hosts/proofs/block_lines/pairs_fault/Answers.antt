use Rattle.std.proofs.Common.{false, true, ◌||◌, not, sym, ◌∙◌}
use Rattle.vq_model.specs.Text.{words_in}
use Rattle.vq_hosts.proofs.BlockKinds.{kind_of}
use Rattle.vq_hosts.proofs.ManyPairs.{many_tested}
use Rattle.vq_hosts.proofs.block_lines.pairs_fault.Goals as goal

pub returns : goal.returns
returns c = λ told first hr of_block p form.
    many_tested told first (words_in c.args.pairs.now) of_block form c.requires
    ∙ (λ i. kind_of (not (sym p i) || not (sym c.are_names.ensures i)) false (not (sym c.are_numerals.ensures i))
    (not (sym (c.are_timelines.ensures told.rest hr) i)) false true)
    ∙ sym c.in-Some.ensures
