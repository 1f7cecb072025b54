-- The step that a line added is the one behind those above it.
use Rattle.std.proofs.Common.{◌≡◌, ◌∙◌, ℕ, List, [], ◌∷◌, ◌++◌, length, take, ◌+◌, Option, Some, None, sym, ap, subst, arith}
use Rattle.std.specs.Prelude.{slice_get}
use Rattle.std.specs.Option.{option_map}
use Rattle.std.proofs.Math.Seq.{take-append_seam}
use Rattle.std.proofs.lemmas.Option.{slice_get_past}
use Rattle.vq_ground.proofs.Gets.{get-append}
use Rattle.vq_capture.specs.declared.capture.Step.{Step}
use Rattle.vq_capture.specs.Releases.{releases}
use Rattle.vq_capture_reader.specs.Lines.{Adds}
use Rattle.vq_capture_check.specs.Watching.{ToldStep, tell}
use Rattle.vq_model.specs.Text.{words_of}
use Rattle.vq_capture.specs.Context.{Above}
use Rattle.vq_capture.specs.Reading.{Took, Leaves, take_words}
use Rattle.vq_capture_judge.specs.Judging.{Judging, Goes, told_at, came_of_line, came_of_told, with_text, with_told}

got_last : (xs : List Step) (s : Step) → slice_get (xs ++ s ∷ []) (length xs) ≡ Some s
got_last xs s =
    let zero_more : length xs ≡ length xs + 0 = omega arith in
    ap (λ (k : ℕ). slice_get (xs ++ s ∷ []) k) zero_more ∙ get-append xs (s ∷ []) 0

got_none : (xs : List Step) → slice_get xs (length xs) ≡ None
got_none xs = slice_get_past xs (length xs) (omega arith)

taken : (xs ys : List Step) → take (length xs) (xs ++ ys) ≡ xs
taken xs ys = take-append_seam xs ys

pub none_told : (above now : List Step) → now ≡ above → told_at now (length above) ≡ None
none_told above now e =
    subst (λ (xs : List Step). told_at xs (length above) ≡ None) (sym e)
    (ap (λ (o : Option Step). option_map (tell (take (length above) above)) o) (got_none above))

pub last_told : (above now : List Step) (s : Step) (lines : List ℕ) → now ≡ above ++ s ∷ [] → lines ≡ releases above s.queue s.statement → told_at now (length above) ≡ Some (record { step = s; released = lines })
last_told above now s lines e r =
    subst (λ (xs : List Step). told_at xs (length above) ≡ Some (record { step = s; released = lines })) (sym e)
    (ap (λ (o : Option Step). option_map (tell (take (length above) (above ++ s ∷ []))) o) (got_last above s)
    ∙ (ap (λ (xs : List Step). Some (tell xs s)) (taken above (s ∷ []))
    ∙ ap (λ (ls : List ℕ). Some (record { step = s; released = ls })) (sym r)))

-- What a reader says that it added

pub none_added : (o : Option (Step × List ℕ)) (above now : List Step) → o ≡ None → Adds o above now → now ≡ above
none_added o above now e a = subst (λ (p : Option (Step × List ℕ)). Adds p above now) e a

pub one_added : (o : Option (Step × List ℕ)) (above now : List Step) (s : Step) (lines : List ℕ) → o ≡ Some (s, lines) → Adds o above now → (now ≡ above ++ s ∷ []) × (lines ≡ releases above s.queue s.statement)
one_added o above now s lines e a = subst (λ (p : Option (Step × List ℕ)). Adds p above now) e a

module _ (j : Judging) (now : Above) (next : ℕ) (text : List ℕ) (follows : next ≡ j.line + 1) (takes : take_words j.above j.line (words_of text) ≡ Leaves now) where
  abbrev pub went : Judging
  went = record j { above = now; line = next }

  with_line : with_text j text ≡ came_of_told went (told_at now.steps (length j.above.steps))
  with_line =
      ap (λ (t : Took). came_of_line j t) takes
      ∙ ap (λ (n : ℕ). came_of_told (record j { above = now; line = n }) (told_at now.steps (length j.above.steps))) (sym follows)

  pub line_without : now.steps ≡ j.above.steps → Goes went ≡ with_text j text
  line_without e = sym (with_line ∙ ap (λ (o : Option ToldStep). came_of_told went o) (none_told j.above.steps now.steps e))

  pub line_with : (s : Step) (lines : List ℕ) → (now.steps ≡ j.above.steps ++ s ∷ []) × (lines ≡ releases j.above.steps s.queue s.statement) → with_told went (record { step = s; released = lines }) ≡ with_text j text
  line_with s lines a =
      sym (with_line ∙ ap (λ (o : Option ToldStep). came_of_told went o) (last_told j.above.steps now.steps s lines a.0 a.1))
