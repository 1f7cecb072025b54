use Rattle.std.proofs.Common.{List, Some, option_map, ◌++◌, ap, sym, ◌∙◌, drop}
use Rattle.std.proofs.lemmas.List.{append-nil, take_rest}
use Rattle.vq_model.specs.Meaning.{pairs_at}
use Rattle.vq_script.specs.LineTests.{number_of}
use Rattle.vq_lexer.specs.Words.{texts}
use Rattle.vq_model.specs.declared.script.Pair.{Pair}
use Rattle.vq_script.specs.Holds.{kept}
use Rattle.vq_script.proofs.PairsRead.{few_words, pairs_owned}
use Rattle.vq_script.proofs.host_steps.owned_pairs.Goals as goal

pub returns : goal.returns
returns c =
    let items = c.loop-rest.pairs.items in
    sym c.loop-rest.invariant
    ∙ ap (option_map (λ (ps : List Pair). items ++ ps))
    (few_words (kept c.args.known.now) c.loop-rest.rest.now c.in_default.len_below)
    ∙ ap (λ (ps : List Pair). Some ps) (append-nil items ∙ sym c.of.ensures)

pub loop-rest-preserved : goal.loop-rest-preserved
loop-rest-preserved c =
    let k = kept c.args.known.now in
    let rest = c.loop-rest.rest.now in
    let items = c.loop-rest.pairs.items in
    rw (take_rest rest 2)
    (ap (λ (xs : List Pair). option_map (λ ps. xs ++ ps)
    (pairs_at (number_of k) (texts (drop 2 rest)))) c.in_ok-push.ensures.items
    ∙ pairs_owned k _ rest items c.in-Some.pair c.in-len2-up.len_at_least
    (sym c.pair.ensures ∙ c.in-Some.is)
    ∙ c.loop-rest.invariant)
