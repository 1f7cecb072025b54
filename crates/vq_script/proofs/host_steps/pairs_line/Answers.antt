use Rattle.std.proofs.Common.{◌≡◌, ℕ, List, Option, is_some, map, length, take, drop, Some, sym, subst, ap, ◌-◌, ◌∙◌}
use Rattle.std.specs.Borrow.{Bor}
use Rattle.std.specs.Option.{option_map, unwrap_or}
use Rattle.std.specs.Prelude.{[]}
use Rattle.std.proofs.lemmas.List.{take_rest}
use Rattle.vq_model.specs.declared.script.HostStep.TheVariants.{WaitAll, WaitAny, PollAll, PollAny}
use Rattle.vq_model.specs.declared.script.Pair.{Pair}
use Rattle.vq_model.specs.declared.statement.LineForm.{LineForm}
use Rattle.vq_model.specs.declared.statement.Statement.{Statement}
use Rattle.vq_model.specs.declared.statement.Statement.TheVariants.{TakeHostStep}
use Rattle.vq_model.specs.Meaning.{pairs_at}
use Rattle.vq_script.specs.Holds.{kept}
use Rattle.vq_script.specs.LineTests.{number_of}
use Rattle.vq_forms.specs.OpenWords.{opens}
use Rattle.vq_lexer.specs.Words.{texts}
use Rattle.vq_script.specs.SaidLines.{named_in}
use Rattle.vq_script.proofs.PairsRead.{pairs_behind, said_pairs, unsaid_pairs}
use Rattle.vq_script.proofs.host_steps.pairs_line.Goals as goal

-- the words behind the first three
abbrev behind : List (Bor (List ℕ)) → List (Bor (List ℕ))
behind words = take (length words - 3) (drop 3 words)

pub returns-then-not-are_read-clause-says : goal.returns-then-not-are_read-clause-says
returns-then-not-are_read-clause-says c =
    let k = kept c.args.known.now in
    let words = c.args.words.now in
    unsaid_pairs k c.args.form (map (λ x. x.1) (opens c.args.form words)) c.requires.pairs
    (ap (λ (ps : Option (List Pair)). is_some ps) (sym (pairs_behind k c.args.form words (behind words) c.requires.pairs
    c.in-len3-up.len_at_least (take_rest words 3))) ∙ sym c.are_read.ensures ∙ c.if-not-are_read.true)

pub returns-in-HostWaitAllLine-clause-says : goal.returns-in-HostWaitAllLine-clause-says
returns-in-HostWaitAllLine-clause-says c =
    let k = kept c.args.known.now in
    let words = c.args.words.now in
    let given = pairs_at (number_of k) (texts (behind words)) in
    let step : List Pair → Statement = λ ps. TakeHostStep (WaitAll ps) in
    subst (λ (f : LineForm). Some (step (unwrap_or given [])) ≡ named_in k f (map (λ x. x.1) (opens c.args.form words)))
    (sym c.in-HostWaitAllLine.is)
    (said_pairs step given (sym c.are_read.ensures ∙ c.if-not-are_read.false)
    ∙ ap (option_map step) (pairs_behind k c.args.form words (behind words) c.requires.pairs
    c.in-len3-up.len_at_least (take_rest words 3)))

pub returns-in-HostWaitAnyLine-clause-says : goal.returns-in-HostWaitAnyLine-clause-says
returns-in-HostWaitAnyLine-clause-says c =
    let k = kept c.args.known.now in
    let words = c.args.words.now in
    let given = pairs_at (number_of k) (texts (behind words)) in
    let step : List Pair → Statement = λ ps. TakeHostStep (WaitAny ps) in
    subst (λ (f : LineForm). Some (step (unwrap_or given [])) ≡ named_in k f (map (λ x. x.1) (opens c.args.form words)))
    (sym c.in-HostWaitAnyLine.is)
    (said_pairs step given (sym c.are_read.ensures ∙ c.if-not-are_read.false)
    ∙ ap (option_map step) (pairs_behind k c.args.form words (behind words) c.requires.pairs
    c.in-len3-up.len_at_least (take_rest words 3)))

pub returns-in-HostPollAllLine-clause-says : goal.returns-in-HostPollAllLine-clause-says
returns-in-HostPollAllLine-clause-says c =
    let k = kept c.args.known.now in
    let words = c.args.words.now in
    let given = pairs_at (number_of k) (texts (behind words)) in
    let step : List Pair → Statement = λ ps. TakeHostStep (PollAll ps) in
    subst (λ (f : LineForm). Some (step (unwrap_or given [])) ≡ named_in k f (map (λ x. x.1) (opens c.args.form words)))
    (sym c.in-HostPollAllLine.is)
    (said_pairs step given (sym c.are_read.ensures ∙ c.if-not-are_read.false)
    ∙ ap (option_map step) (pairs_behind k c.args.form words (behind words) c.requires.pairs
    c.in-len3-up.len_at_least (take_rest words 3)))

pub returns-in-HostPollAnyLine-clause-says : goal.returns-in-HostPollAnyLine-clause-says
returns-in-HostPollAnyLine-clause-says c =
    let k = kept c.args.known.now in
    let words = c.args.words.now in
    let given = pairs_at (number_of k) (texts (behind words)) in
    let step : List Pair → Statement = λ ps. TakeHostStep (PollAny ps) in
    subst (λ (f : LineForm). Some (step (unwrap_or given [])) ≡ named_in k f (map (λ x. x.1) (opens c.args.form words)))
    (sym c.in-HostPollAnyLine.is)
    (said_pairs step given (sym c.are_read.ensures ∙ c.if-not-are_read.false)
    ∙ ap (option_map step) (pairs_behind k c.args.form words (behind words) c.requires.pairs
    c.in-len3-up.len_at_least (take_rest words 3)))
