-- While a pass runs a job without signals, no operation of a job after it is made.
use Rattle.std.proofs.Common.{◌≡◌, ℕ, false, [], Some, sym, ap, ◌∙◌, arith}
use mathlib.Core.Option.{some}
use lib.ListN.{get_elem?}
use Rattle.std.proofs.lemmas.Bool.{le-ltb, false≢true}
use Rattle.atomic_table.specs.Table.{State}
use Rattle.vq_model.specs.HappensBefore.{HappensBefore}
use Rattle.vq_model.specs.Machine.{Progress}
use Rattle.vq_model.specs.Plan.{Plan, signals_of, job_of}
use Rattle.vq_run_laws.specs.RunFacts.{MakesNoneAfter}
use Rattle.vq_board_laws.specs.declared.view.View.{View}
use Rattle.vq_board_laws.specs.declared.view.LoggedBuffers.{LoggedBuffers}
use Rattle.vq_board_laws.specs.Words.{Words, words_of, made_of}
use Rattle.vq_board_laws.specs.Knowledge.{KnowsMade}
use Rattle.vq_board_laws.specs.Rule.{Kept}
use Rattle.vq_board_laws.specs.RunLaws.{RunLaws}
use Rattle.vq_board_laws.proofs.Needs.{knows_made}

pub none_made_after : (p : Plan) → MakesNoneAfter p → (s : State LoggedBuffers View) → Kept p s → (i h j e : ℕ) (v : View) → get_elem? s.views i ≡ some v → v.runs ≡ Some h → signals_of p h ≡ [] → HappensBefore p h j → job_of p e ≡ Some j → made_of (words_of s.words) e ≡ false
none_made_after p none s k i h j e v at runs signals before of_job =
    let d : Words = words_of s.words in
    let r = k.rule.run in
    let three = ((k.rule.jobs.own i v at).0.runs_one h runs).1 in
    ap (λ (z : Progress). z.made e) (sym r.leads) ∙ none r.steps r.run e h j signals (ap (λ (z : Progress). z.finished h) r.leads ∙ le-ltb 3 (d.job h) (omega arith)) before of_job

pub none_known_after : (p : Plan) → MakesNoneAfter p → RunLaws p → (s : State LoggedBuffers View) → Kept p s → (i k h j e : ℕ) (v w : View) → get_elem? s.views i ≡ some v → get_elem? s.views k ≡ some w → v.runs ≡ Some h → signals_of p h ≡ [] → HappensBefore p h j → job_of p e ≡ Some j
    → ¬ KnowsMade p w.known e
none_known_after p none laws s kept i k h j e v w at there runs signals before of_job known =
    false≢true (sym (none_made_after p none s kept i h j e v at runs signals before of_job) ∙ knows_made p (words_of s.words) s.views w.known e laws kept.rule.run (kept.rule.knowledge k w there) known)
