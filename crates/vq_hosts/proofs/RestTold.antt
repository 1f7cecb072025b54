-- What a line of the rest leaves told.
use Rattle.std.proofs.Common.{◌≡◌, ◌≤◌, ◌<◌, ℕ, ◌+◌, Bool, true, false, ◌||◌, ◌&&◌, not, cond, List, [], ◌∷◌, ◌++◌, map, Option, Some, None, Ok, Err, refl, sym, ap, ◌∙◌, arith, nat_lt}
use Rattle.std.specs.Option.{option_map_or}
use Rattle.std.proofs.lemmas.Bool.Decides.{nat_tests}
use Rattle.std.proofs.lemmas.List.{map-append}
use Rattle.vq_model.specs.declared.statement.FaultKind.{FaultKind}
use Rattle.vq_model.specs.declared.statement.Form.TheVariants.{Plain}
use Rattle.vq_model.specs.declared.statement.Line.{Line}
use Rattle.vq_model.specs.declared.statement.Statement.{Statement}
use Rattle.vq_model.specs.Context.{count, has_begun, is_job}
use Rattle.vq_model.specs.LineFaults.{fault_of}
use Rattle.vq_model.specs.Meaning.{meaning}
use Rattle.vq_model.specs.Reading.{read_statement, with_line, without_fault}
use Rattle.vq_reading_laws.proofs.Cited.{count_push, has_meaning, some_push}
use Rattle.vq_blocks.specs.Blocks.{Told, block_meaning, is_of_block, told_with, with_block_line}
use Rattle.vq_blocks.specs.BlockFaults.{most_rest_jobs, passes_jobs}
use Rattle.vq_blocks.specs.Compiled.{job_lines_in}
use Rattle.vq_hosts.proofs.JobLines.{jobs_none, jobs_push}

-- a line with words, of a script, that was read
pub record IsRead (before : List Line) (n : ℕ) (words : List (List ℕ)) (next : List Line) : Type 0 where
  pub faultless : fault_of Plain before words ≡ None
  pub statement : Statement
  pub said : meaning Plain before words ≡ Some statement
  pub after : next ≡ with_line before n statement

pub is_read : (before : List Line) (n : ℕ) (word : List ℕ) (words : List (List ℕ)) (next : List Line) →
    read_statement Plain before n (word ∷ words) ≡ Ok next → IsRead before n (word ∷ words) next
is_read before n word words next r = by_fault (fault_of Plain before (word ∷ words)) refl r
  where
    by_fault : (f : Option FaultKind) → fault_of Plain before (word ∷ words) ≡ f →
        without_fault f (option_map_or (with_line before n) (meaning Plain before (word ∷ words)) before) ≡ Ok next →
        IsRead before n (word ∷ words) next
    by_fault (Some kind) e q = absurd (cc)
    by_fault None e q =
        let m = has_meaning Plain before (word ∷ words) e in
        let same : option_map_or (with_line before n) (meaning Plain before (word ∷ words)) before ≡ next = cc in
        record {
          faultless = e;
          statement = m.0;
          said = m.1;
          after = sym same ∙ ap (λ (o : Option Statement). option_map_or (with_line before n) o before) m.1;
        }

-- the fault of a line that was not read
pub is_unread : (before : List Line) (n : ℕ) (word : List ℕ) (words : List (List ℕ)) (kind : FaultKind) →
    read_statement Plain before n (word ∷ words) ≡ Err kind → fault_of Plain before (word ∷ words) ≡ Some kind
is_unread before n word words kind r = by_fault (fault_of Plain before (word ∷ words)) r
  where
    by_fault : (f : Option FaultKind) →
        without_fault f (option_map_or (with_line before n) (meaning Plain before (word ∷ words)) before) ≡ Err kind →
        f ≡ Some kind
    by_fault None q = absurd (cc)
    by_fault (Some k) q = let same : k ≡ kind = cc in ap (λ (x : FaultKind). Some x) same

-- what is told with it
pub rest_told : (told : Told) (n : ℕ) (words : List (List ℕ)) (next : List Line) → is_of_block told words ≡ false →
    (r : IsRead told.rest n words next) → told_with told n words ≡ record told { rest = next }
rest_told told n words next outside r =
    ap (λ (b : Bool). cond b (option_map_or (with_block_line told n) (block_meaning told words) told)
    (record told { rest = option_map_or (with_line told.rest n) (meaning Plain told.rest words) told.rest })) outside
    ∙ ap (λ (o : Option Statement). record told { rest = option_map_or (with_line told.rest n) o told.rest }) r.said
    ∙ ap (λ (ls : List Line). record told { rest = ls }) (sym r.after)

module _ (told : Told) (n : ℕ) (words : List (List ℕ)) (next : List Line) (r : IsRead told.rest n words next) where
  counted : count is_job next ≡ count is_job told.rest + cond (is_job r.statement) 1 0
  counted = ap (count is_job) r.after ∙ count_push is_job told.rest n r.statement

  passes : passes_jobs told words ≡ (is_job r.statement && not (nat_lt (count is_job told.rest) most_rest_jobs))
  passes = ap (λ (o : Option Statement). option_map_or is_job o false && not (nat_lt (count is_job told.rest) most_rest_jobs)) r.said

  pub jobs_within : count is_job next ≤ most_rest_jobs → passes_jobs told words ≡ false
  jobs_within few = passes ∙ by_job (is_job r.statement) counted
    where
      by_job : (b : Bool) → count is_job next ≡ count is_job told.rest + cond b 1 0 →
          (b && not (nat_lt (count is_job told.rest) most_rest_jobs)) ≡ false
      by_job true e =
          let less : nat_lt (count is_job told.rest) most_rest_jobs ≡ true = grind (arith, nat_tests) in
          ap not less
      by_job false e = refl

  pub jobs_past : count is_job told.rest ≤ most_rest_jobs → most_rest_jobs < count is_job next → passes_jobs told words ≡ true
  jobs_past few many = passes ∙ by_job (is_job r.statement) counted
    where
      by_job : (b : Bool) → count is_job next ≡ count is_job told.rest + cond b 1 0 →
          (b && not (nat_lt (count is_job told.rest) most_rest_jobs)) ≡ true
      by_job true e =
          let less : nat_lt (count is_job told.rest) most_rest_jobs ≡ false = grind (arith, nat_tests) in
          ap not less
      by_job false e = absurd (omega arith)

  abbrev numbers : List Line → List ℕ
  numbers lines = map (λ line. line.number) (job_lines_in lines)

  -- from the first job on the lines are kept
  pub kept_begun : has_begun next ≡ true → numbers next ≡ numbers told.rest ++ n ∷ []
  kept_begun begun =
      ap numbers r.after
      ∙ ap (map (λ line. line.number)) (jobs_push told.rest (record { number = n; statement = r.statement })
      (sym (ap has_begun r.after) ∙ begun))
      ∙ map-append (λ line. line.number) (job_lines_in told.rest) (record { number = n; statement = r.statement } ∷ [])

  -- before it none is
  pub kept_unbegun : has_begun next ≡ false → numbers next ≡ numbers told.rest
  kept_unbegun none =
      let parts = or_parts_false (has_begun told.rest) (is_job r.statement || false)
      (sym (some_push told.rest n r.statement is_job) ∙ sym (ap has_begun r.after) ∙ none) in
      ap (map (λ line. line.number)) (jobs_none next none ∙ sym (jobs_none told.rest parts))
    where
      or_parts_false : (a b : Bool) → (a || b) ≡ false → a ≡ false
      or_parts_false true b e = absurd (cc)
      or_parts_false false b e = refl
