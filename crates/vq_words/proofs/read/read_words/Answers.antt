use Rattle.std.proofs.Common.{rules, ◌≡◌, ◌∙◌, ap, sym, subst, map, string_bytes, true, List, ℕ, Option}
use Rattle.clap.specs.Faults.{is_simple_and_free}
use Rattle.clap.specs.Matches.{found_of, first_value}
use Rattle.clap.specs.Simple.{app_of, is_simple}
use Rattle.clap.specs.Walk.{first_of, rows_of}
use Rattle.clap.proofs.WalkLemmas.{first_value-rows}
use Rattle.vq_words.specs.Grammar.{Gives, options, task_of}
use Rattle.vq_words.specs.Options.{Nothing, found_among, has_clap_form, task_given}
use Rattle.vq_words.proofs.FewRounds.{few_given}
use Rattle.vq_words.proofs.AllWords.{answered, failed, gives}
use Rattle.vq_words.proofs.read.read_words.Goals as goal

pub returns-in-Ok-try_get_matches_from : goal.returns-in-Ok-try_get_matches_from
returns-in-Ok-try_get_matches_from c =
    let form : has_clap_form (map string_bytes c.args.words.now) ≡ true = search rules in
    let found = found_of c.in-Ok-try_get_matches_from.matches in
    let said = answered (app_of c.in-Ok.command) (map string_bytes c.args.words.now) (rows_of found)
    c.in-Ok.ensures form
    (c.in-Ok-try_get_matches_from.ensures.kinds (ap is_simple_and_free c.in-Ok.ensures))
    (c.in-Ok-try_get_matches_from.ensures.matches (ap is_simple c.in-Ok.ensures)).0 in
    let values : first_value found ≡ (λ word. first_of word (rows_of found)) = λ i word. first_value-rows found word i in
    let asked = c.asked.ensures ∙ ap (λ (f : List ℕ → Option (List ℕ)). task_given (found_among Nothing options f)) values ∙ said in
    let given = subst (λ r. Gives r (task_of (map string_bytes c.args.words.now))) (sym c.ok_or.ensures.value) (gives c.asked.result _ asked) in
    record { asked = given; rounds = few_given (map string_bytes c.args.words.now) c.ok_or.result given }

pub returns : goal.returns
returns c =
    let form : has_clap_form (map string_bytes c.args.words.now) ≡ true = search rules in
    record {
      asked =
          failed (app_of c.in-Ok.command) (map string_bytes c.args.words.now) c.in-Err.error c.in-Ok.ensures form
          (c.in-Err.ensures.kinds (ap is_simple_and_free c.in-Ok.ensures))
          (λ e. c.in_default-kind.not-OutOfMemory (c.kind.ensures ∙ e));
      rounds = tt;
    }
