use Rattle.std.proofs.lemmas.List.{take_rest}
use Rattle.vq_model.specs.Context.{number_at}
use Rattle.vq_lexer.specs.Words.{texts}
use Rattle.vq_hosts.proofs.PairSteps.{all_so_far, pair_more_at}
use Rattle.vq_hosts.proofs.pairs.read_pairs.Goals as goal

pub loop-rest-preserved : goal.loop-rest-preserved
loop-rest-preserved c =
    rw (take_rest c.loop-rest.rest.now 2)
    (λ lines h. pair_more_at (number_at lines) _ c.loop-rest.rest.now (texts c.args.words.now) c.loop-rest.found
    c.add.new.self c.in-len2-up.len_at_least (c.loop-rest.invariant lines h) (c.in_ok-add.ensures lines h))

pub returns : goal.returns
returns c = λ lines h.
    all_so_far (number_at lines) c.loop-rest.rest.now (texts c.args.words.now) c.loop-rest.found
    c.in_default.len_below (c.loop-rest.invariant lines h)
