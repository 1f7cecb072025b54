-- The board's laws, of the moment of a look.
use Rattle.std.proofs.Common.{◌≡◌, ℕ, true, ap, ◌∙◌}
use mathlib.Core.Option.{some}
use lib.ListN.{get_elem?}
use Rattle.atomic_table.specs.Table.{State}
use Rattle.vq_model.specs.Machine.{Progress}
use Rattle.vq_model.specs.Plan.{Plan}
use Rattle.vq_point_laws.specs.PointWord.{parts, PointWord}
use Rattle.vq_point.specs.declared.PointWord.{PointWord as PointParts}
use Rattle.vq_point.specs.Word.{bits_of}
use Rattle.vq_board_laws.specs.declared.view.LoggedBuffers.{LoggedBuffers}
use Rattle.vq_board_laws.specs.declared.view.View.{View}
use Rattle.vq_board_laws.specs.Moments.{IsStep}
use Rattle.vq_board_laws.specs.Points.{reference, Lists}
use Rattle.vq_board_laws.specs.Reached.{IsReached}
use Rattle.vq_board_laws.specs.Rule.{Kept}
use Rattle.vq_board_laws.specs.Words.{words_of, point_word, made_of, shown}
use Rattle.vq_board_laws.proofs.Cited.{step_facts}
use Rattle.vq_board_stage.specs.Runs.{IsMadeByARun}

-- the laws, as their calls ensure them
abbrev TellsMade : Type 0
TellsMade =
    (p : Plan) (s : State LoggedBuffers View) → Kept p s → (i q e : ℕ) (v : View) → get_elem? s.views i ≡ some v → Lists v.refs (reference q e) → (parts ((words_of s.words).point q)).signaled ≡ true → made_of (words_of s.words) e ≡ true

abbrev ShowsRun : Type 0
ShowsRun = (p : Plan) (s : State LoggedBuffers View) → Kept p s → IsReached p (shown p (words_of s.words)) (words_of s.words).job s.views

-- where a pass with a reference looked at the point and found it signaled, a run has made the operation
pub seen_made : (p : Plan) (v w : View) (q e : ℕ) (word : PointParts) → Lists v.refs (reference q e) → IsStep p v w (point_word q) (bits_of word) (bits_of word)
    → parts (bits_of word) ≡ record { op = word.op; refs = word.refs; signaled = word.signaled; held = word.held } → word.signaled ≡ true → TellsMade → ShowsRun → IsMadeByARun p e
seen_made p v w q e word listed step said signaled tells shows =
    let at = step_facts p v w (point_word q) (bits_of word) (bits_of word) step in
    let s : State LoggedBuffers View = at.before in
    let bit : (parts ((words_of s.words).point q)).signaled ≡ true = ap (λ (n : ℕ). (parts n).signaled) at.finds ∙ (ap (λ (x : PointWord). x.signaled) said ∙ signaled) in
    let run = shows p s at.kept in
    record {
      steps = run.steps;
      run = run.run;
      made = ap (λ (z : Progress). z.made e) run.leads ∙ tells p s at.kept at.place q e v at.at listed bit;
    }
