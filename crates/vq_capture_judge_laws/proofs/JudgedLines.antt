-- Line by line, the first race or fault is that of the definition.
use Rattle.std.proofs.Common.{◌≡◌, ◌⊎◌, ◌≤◌, ◌+◌, Bool, true, false, ℕ, List, [], ◌∷◌, ◌++◌, if◌then◌else◌, length, take, refl, sym, ◌∙◌, ap, subst, inl, inr, arith, Option, Some, None}
use Rattle.std.specs.Prelude.{nat_lt, slice_get}
use Rattle.std.specs.Option.{option_map, option_map_or}
use Rattle.std.proofs.lemmas.List.{append-nil, append_assoc, length-append}
use Rattle.std.proofs.Math.Seq.{take-append_seam}
use Rattle.std.proofs.lemmas.Option.{slice_get_past}
use Rattle.vq_ground.proofs.Gets.{get-append}
use Rattle.vq_ground.proofs.Tests.{below_of_test, at_least_of_test}
use Rattle.vq_model.specs.Text.{words_of}
use Rattle.vq_capture.specs.declared.form.Form.{Form}
use Rattle.vq_capture.specs.declared.capture.Step.{Step}
use Rattle.vq_capture.specs.declared.capture.FaultKind.{FaultKind}
use Rattle.vq_capture.specs.declared.capture.FaultKind.TheVariants.{Syntax}
use Rattle.vq_capture.specs.declared.capture.Verdict.{Verdict}
use Rattle.vq_capture.specs.declared.capture.Verdict.TheVariants.{Race}
use Rattle.vq_capture.specs.LineForms.{form_of}
use Rattle.vq_capture.specs.Context.{Above, is_in_batch}
use Rattle.vq_capture.specs.Statements.{with_line, statement, step_of}
use Rattle.vq_capture.specs.LineFaults.{fault_of, are_plain}
use Rattle.vq_capture.specs.Reading.{Read, Took, Leaves, IsFaulty, take_form, take_words, go_on, read_lines, read_capture, ended_lines}
use Rattle.vq_capture.specs.Points.{IsMember}
use Rattle.vq_capture.specs.Races.{Conflicts, Ordered, IsRace}
use Rattle.vq_capture.specs.Verdicts.{IsVerdict, IsVerdictOf, NoneRace, TwoRace, FirstFault}
use Rattle.vq_capture_check.specs.Watching.{ToldStep, Watched, tell, nothing_watched, watch_with, race_line}
use Rattle.vq_capture_judge.specs.Judging.{Judging, Came, told_at, came_of_race, came_of_told, came_of_line, on_from, judged, judged_text, start_judging}
use Rattle.vq_capture_laws.proofs.Cited.{AreRising, lines_rise, read_rises, in_either, only as only_slow}
use Rattle.vq_capture_clocks_laws.specs.Finding.{FindsRace, watch_on, watched, found_race}
use Rattle.vq_capture_clocks_laws.proofs.Cited.{in_front_of, clocks_find, Keeps, IsKept, keep_words, keeps_nothing, lines_tidy}

-- What a line adds

-- a line adds a step of its number, or none
abbrev pub Adds : ℕ → Above → Took → Type 0
Adds n above (Leaves now) =
    (now.steps ≡ above.steps) ⊎ ((s : Step) × (s.line ≡ n) × (now.steps ≡ above.steps ++ s ∷ []))
Adds n above (IsFaulty kind) = Unit {0}

module _ (above : Above) (n : ℕ) where
  adds_form : (words : List (List ℕ)) (form : Form) → Adds n above (take_form above n words form)
  adds_form words form = case (fault_of above n form words)
    where
      case : (o : Option FaultKind) → Adds n above (option_map_or (λ kind. IsFaulty kind) o (Leaves (with_line above n form words)))
      case None = inr (step_of above n (statement above n form words), refl, refl)
      case (Some kind) = tt

  adds : (words : List (List ℕ)) → Adds n above (take_words above n words)
  adds [] = inl refl
  adds (word ∷ words) = by_plain (are_plain (word ∷ words))
    where
      by_form : (o : Option Form) → Adds n above (option_map_or (take_form above n (word ∷ words)) o (IsFaulty Syntax))
      by_form None = tt
      by_form (Some form) = adds_form (word ∷ words) form

      by_plain : (b : Bool) → Adds n above
          (if b then option_map_or (take_form above n (word ∷ words)) (form_of (is_in_batch above) (word ∷ words)) (IsFaulty Syntax) else IsFaulty Syntax)
      by_plain true = by_form (form_of (is_in_batch above) (word ∷ words))
      by_plain false = tt

-- The steps of the lines above are the first of all.
reads_on : (lines : List (List ℕ)) (above : Above) (n : ℕ) → (rest : List Step) × ((read_lines above n lines).steps ≡ above.steps ++ rest)
reads_on [] above n = ([], sym (append-nil above.steps))
reads_on (line ∷ lines) above n =
    case (take_words above n (words_of line)) (adds above n (words_of line)) (λ now. reads_on lines now (n + 1))
  where
    case : (took : Took) → Adds n above took →
        ((now : Above) → (rest : List Step) × ((read_lines now (n + 1) lines).steps ≡ now.steps ++ rest)) →
        (rest : List Step) × ((go_on above n (λ now. read_lines now (n + 1) lines) took).steps ≡ above.steps ++ rest)
    case (Leaves now) (inl e) f =
        let r = f now in (r.0, r.1 ∙ ap (λ (l : List Step). l ++ r.0) e)
    case (Leaves now) (inr a) f =
        let r = f now in
        (a.0 ∷ r.0, r.1 ∙ (ap (λ (l : List Step). l ++ r.0) a.2 ∙ append_assoc above.steps (a.0 ∷ []) r.0))
    case (IsFaulty kind) a f = ([], sym (append-nil above.steps))

-- What is watched of the steps above

watch_more : (w : Watched) (pre xs : List Step) (s : Step) → watch_on w pre (xs ++ s ∷ []) ≡ watch_with (watch_on w pre xs) (tell (pre ++ xs) s)
watch_more w pre [] s = ap (λ (l : List Step). watch_with w (tell l s)) (sym (append-nil pre))
watch_more w pre (x ∷ xs) s =
    watch_more (watch_with w (tell pre x)) (pre ++ x ∷ []) xs s
    ∙ ap (λ (l : List Step). watch_with (watch_on w pre (x ∷ xs)) (tell l s)) (append_assoc pre (x ∷ []) xs)

last_told : (xs : List Step) (s : Step) → told_at (xs ++ s ∷ []) (length xs) ≡ Some (tell xs s)
last_told xs s =
    let zero_more : length xs ≡ length xs + 0 = omega arith in
    let all : List Step = xs ++ s ∷ [] in
    let front : take (length xs) all ≡ xs = take-append_seam xs (s ∷ []) in
    let last : slice_get all (length xs) ≡ Some s =
    ap (λ (k : ℕ). slice_get all k) zero_more ∙ get-append xs (s ∷ []) 0 in
    λ i. option_map (tell (front i)) (last i)

none_told : (xs : List Step) → told_at xs (length xs) ≡ None
none_told xs =
    ap (λ (o : Option Step). option_map (tell (take (length xs) xs)) o) (slice_get_past xs (length xs) (omega arith))

-- what was read, and what its steps left
pub record Stands (j : Judging) : Type 0 where
  pub watch : j.watch ≡ watched j.above.steps
  pub keeps : Keeps j.line j.above

-- no race ends above
abbrev pub NoneEnds : List Step → List Step → Type 0
NoneEnds steps above = (c d : Step) → IsMember d above → Conflicts steps c d → Ordered steps c d

-- One line more

module _ (read : Read) (rising : AreRising read.steps) (above rest : List Step) (s : Step) (all : read.steps ≡ above ++ s ∷ rest) (none : NoneEnds read.steps above) where
  -- a race that ends at the next step is the one that is named
  race_here : (n : ℕ) → FindsRace read.steps s (Some n) → IsVerdictOf read (Race n s.line)
  race_here n f =
      subst (λ (m : ℕ). IsVerdictOf read (Race m s.line)) f.2
      (TwoRace f.0 s (record { race = f.1; least = least; greatest = f.3 }))
    where
      least : (c d : Step) → IsRace read.steps c d → s.line ≤ d.line
      least c d g = by_test (nat_lt d.line s.line) refl
        where
          by_test : (t : Bool) → nat_lt d.line s.line ≡ t → s.line ≤ d.line
          by_test false e = at_least_of_test d.line s.line e
          by_test true e =
              absurd (g.unordered (none c d (in_front_of above rest s d (subst (λ (l : List Step). AreRising l) all rising) (subst (λ (l : List Step). IsMember d l) all g.pair.second) (below_of_test d.line s.line e)) g.pair))

  -- where none does, none ends above the one behind it
  none_here : FindsRace read.steps s None → NoneEnds read.steps (above ++ s ∷ [])
  none_here f c d m k = elim (in_either d above (s ∷ []) m) [ inl n ↦ none c d n k | inr n ↦ at n ]
    where
      at : IsMember d (s ∷ []) → Ordered read.steps c d
      at (inl e) =
          subst (λ (t : Step). Ordered read.steps c t) (sym e)
          (f c (subst (λ (t : Step). Conflicts read.steps c t) e k))
      at (inr n) = absurd n

-- what is claimed of what was read
abbrev pub Claims : List (List ℕ) → Judging → Type 0
Claims lines j =
    Stands j → NoneEnds (read_lines j.above j.line lines).steps j.above.steps →
    IsVerdictOf (read_lines j.above j.line lines) (judged j lines)

module _ (lines : List (List ℕ)) (next : (j : Judging) → Claims lines j) (j : Judging) (k : Stands j) (now : Above) (kept : Keeps (j.line + 1) now) where
  abbrev went : Judging
  went = record j { above = now; line = j.line + 1 }

  abbrev read : Read
  read = read_lines now (j.line + 1) lines

  abbrev Says : Came → Type 0
  Says came = IsVerdictOf read (on_from (λ i. judged i lines) came)

  -- a line that adds no step
  no_step : NoneEnds read.steps j.above.steps → now.steps ≡ j.above.steps → Says (came_of_line j (Leaves now))
  no_step none e =
      subst (λ (o : Option ToldStep). Says (came_of_told went o)) (sym past)
      (next went stands (subst (λ (l : List Step). NoneEnds read.steps l) (sym e) none))
    where
      past : told_at now.steps (length j.above.steps) ≡ None
      past =
          ap (λ (m : ℕ). told_at now.steps m) (ap (λ (l : List Step). length l) (sym e)) ∙ none_told now.steps

      stands : Stands went
      stands = record {
        watch = k.watch ∙ ap (λ (l : List Step). watched l) (sym e);
        keeps = kept;
      }

  -- a line that adds one
  one_step : NoneEnds read.steps j.above.steps → (s : Step) → now.steps ≡ j.above.steps ++ s ∷ [] → Says (came_of_line j (Leaves now))
  one_step none s e =
      subst (λ (o : Option ToldStep). Says (came_of_told went o)) (sym last)
      (subst (λ (w : Watched). Says (came_of_race went (tell j.above.steps s) (race_line w (tell j.above.steps s)))) (sym k.watch)
      (by_race (found_race j.above.steps s) (clocks_find read.steps j.above.steps r.0 s rising (lines_tidy lines now (j.line + 1) kept) all none)))
    where
      last : told_at now.steps (length j.above.steps) ≡ Some (tell j.above.steps s)
      last = ap (λ (xs : List Step). told_at xs (length j.above.steps)) e ∙ last_told j.above.steps s

      rising : AreRising read.steps
      rising = lines_rise lines now (j.line + 1) kept.numbered

      r : (rest : List Step) × (read.steps ≡ now.steps ++ rest)
      r = reads_on lines now (j.line + 1)

      all : read.steps ≡ j.above.steps ++ s ∷ r.0
      all = r.1 ∙ (ap (λ (xs : List Step). xs ++ r.0) e ∙ append_assoc j.above.steps (s ∷ []) r.0)

      stands : Stands (record went { watch = watch_with j.watch (tell j.above.steps s) })
      stands = record {
        watch = ap (λ (w : Watched). watch_with w (tell j.above.steps s)) k.watch ∙ (sym (watch_more nothing_watched [] j.above.steps s) ∙ ap (λ (xs : List Step). watched xs) (sym e));
        keeps = kept;
      }

      by_race : (o : Option ℕ) → FindsRace read.steps s o → Says (came_of_race went (tell j.above.steps s) o)
      by_race None f =
          next (record went { watch = watch_with j.watch (tell j.above.steps s) }) stands
          (subst (λ (xs : List Step). NoneEnds read.steps xs) (sym e) (none_here read rising j.above.steps r.0 s all none f))
      by_race (Some n) f = race_here read rising j.above.steps r.0 s all none n f

pub judges_lines : (lines : List (List ℕ)) (j : Judging) → Claims lines j
judges_lines [] j k none = NoneRace (λ a b c. none a b c.second c) refl
judges_lines (line ∷ lines) j k none =
    case (take_words j.above j.line (words_of line)) (adds j.above j.line (words_of line))
    (keep_words j.above j.line k.keeps (words_of line)) (λ i. judges_lines lines i) none
  where
    case : (took : Took) → Adds j.line j.above took → IsKept j.line took → ((i : Judging) → Claims lines i) →
        NoneEnds (go_on j.above j.line (λ now. read_lines now (j.line + 1) lines) took).steps j.above.steps →
        IsVerdictOf (go_on j.above j.line (λ now. read_lines now (j.line + 1) lines) took)
        (on_from (λ i. judged i lines) (came_of_line j took))
    case (IsFaulty kind) a h next free = FirstFault (record { line = j.line; kind = kind }) (λ c d m. free c d m.second m) refl
    case (Leaves now) (inl e) h next free = no_step lines next j k now h free e
    case (Leaves now) (inr a) h next free = one_step lines next j k now h free a.0 a.2

pub judges : (text : List ℕ) → IsVerdict text (judged_text text)
judges text =
    judges_lines (ended_lines text) start_judging
    (record { watch = refl; keeps = keeps_nothing })
    (λ c d m k. absurd m)

pub only : (text : List ℕ) (verdict : Verdict) → IsVerdict text verdict → verdict ≡ judged_text text
only text verdict v =
    only_slow (read_capture text) (read_rises text) verdict v
    ∙ sym (only_slow (read_capture text) (read_rises text) (judged_text text) (judges text))
