use Rattle.std.proofs.Common.{◌≡◌, List, length}
use Rattle.std.specs.List.{list_all}
use Rattle.vq_model.specs.declared.statement.Form.TheVariants.{Plain}
use Rattle.vq_model.specs.declared.statement.Line.{Line}
use Rattle.vq_model.specs.Context.{number_at}
use Rattle.vq_model.specs.LineFaults.{is_known}
use Rattle.vq_model.specs.Meaning.{pair_places}
use Rattle.vq_model.specs.Text.{words_in}
use Rattle.vq_script.specs.Reads.{HasRead}
use Rattle.vq_hosts.proofs.pairs.are_timelines.Given as goal

abbrev pub invariant-loop-name : goal.invariant-loop-name
invariant-loop-name l =
    (lines : List Line) → HasRead Plain lines l.reader →
    list_all (is_known (number_at lines)) (pair_places (words_in l.rest))
    ≡ list_all (is_known (number_at lines)) (pair_places (words_in l.fn.part))

abbrev pub decreases-loop-name : goal.decreases-loop-name
decreases-loop-name l = length l.rest
