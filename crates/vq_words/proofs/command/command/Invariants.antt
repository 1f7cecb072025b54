use Rattle.std.proofs.Common.{◌≡◌, drop, map}
use Rattle.clap.specs.Words.{app_of}
use Rattle.vq_words.specs.Options.{choice_of, vq_options, with_options}
use Rattle.vq_words.proofs.command.command.Given as goal

abbrev pub invariant-loop-row : goal.invariant-loop-row
invariant-loop-row l = with_options (app_of l.command) (map choice_of (drop l.row-index l.row-items)) ≡ vq_options
