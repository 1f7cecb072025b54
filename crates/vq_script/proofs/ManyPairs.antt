-- The faults of a line with many pairs.
use Rattle.std.proofs.Common.{◌≡◌, ◌<◌, ◌+◌, ◌/◌, ℕ, Bool, true, false, not, cond, List, [], ◌∷◌, length, map, Option, Some, None, is_some, refl, ap, ◌∙◌, arith}
use Rattle.std.specs.Prelude.{find, nat_lt}
use Rattle.std.specs.List.{list_all}
use Rattle.std.specs.Option.{option_map, option_map_or}
use Rattle.std.proofs.lemmas.Bool.{and_parts, false≢true, or_right}
use Rattle.std.proofs.lemmas.Bool.Decides.{nat_tests}
use Rattle.vq_model.specs.declared.script.HostStep.{HostStep}
use Rattle.vq_model.specs.declared.script.HostStep.TheVariants.{WaitAll, WaitAny, PollAll, PollAny}
use Rattle.vq_model.specs.declared.script.Pair.{Pair}
use Rattle.vq_model.specs.declared.statement.FaultKind.{FaultKind}
use Rattle.vq_model.specs.declared.statement.FaultKind.TheVariants.{Syntax, Order, Number, Name, Twice, Range, Overlap, Limit}
use Rattle.vq_model.specs.declared.statement.LineForm.{LineForm}
use Rattle.vq_model.specs.declared.statement.LineForm.TheVariants.{HostWaitAllLine, HostWaitAnyLine, HostPollAllLine, HostPollAnyLine}
use Rattle.vq_model.specs.declared.statement.Statement.{Statement}
use Rattle.vq_model.specs.declared.statement.Statement.TheVariants.{TakeHostStep}
use Rattle.vq_model.specs.Earlier.{Earlier}
use Rattle.vq_model.specs.Forms.{Slot, TimelineName}
use Rattle.vq_model.specs.LineFaults.{is_shaped, is_numeric, is_known, is_new, is_out_of_order, is_in_range, overlaps, passes_limit, pairs_of}
use Rattle.vq_model.specs.Meaning.{of_two, pair_places, pairs_at}
use Rattle.vq_model.specs.Text.{numeral}
use Rattle.vq_script.specs.Faults.{OpenLine, fault_by, has_fault_at, said_at}
use Rattle.vq_script.specs.SaidLines.{is_pairs_line}

-- The first kind of the faults of a line

module _ (e : Earlier) (line : OpenLine) where
  pass_over : (kind : FaultKind) (kinds : List FaultKind) → has_fault_at e line kind ≡ false →
      find (has_fault_at e line) (kind ∷ kinds) ≡ find (has_fault_at e line) kinds
  pass_over kind kinds h = ap (λ b. cond b (Some kind) (find (has_fault_at e line) kinds)) h

  stop_at : (kind : FaultKind) (kinds : List FaultKind) → has_fault_at e line kind ≡ true →
      find (has_fault_at e line) (kind ∷ kinds) ≡ Some kind
  stop_at kind kinds h = ap (λ b. cond b (Some kind) (find (has_fault_at e line) kinds)) h

  abbrev after_twice : List FaultKind
  after_twice = Range ∷ Overlap ∷ Limit ∷ []

  abbrev after_number : List FaultKind
  after_number = Name ∷ Twice ∷ after_twice

  abbrev after_syntax : List FaultKind
  after_syntax = Order ∷ Number ∷ after_number

  pub is_syntax : list_all is_shaped line.1 ≡ false → fault_by e line ≡ Some Syntax
  is_syntax s = stop_at Syntax after_syntax (ap not s)

  pub is_order : list_all is_shaped line.1 ≡ true → is_out_of_order e line.0 ≡ true → fault_by e line ≡ Some Order
  is_order s o = pass_over Syntax after_syntax (ap not s) ∙ stop_at Order (Number ∷ after_number) o

  numbers : list_all is_shaped line.1 ≡ true → is_out_of_order e line.0 ≡ false →
      fault_by e line ≡ find (has_fault_at e line) (Number ∷ after_number)
  numbers s o = pass_over Syntax after_syntax (ap not s) ∙ pass_over Order (Number ∷ after_number) o

  pub is_number : list_all is_shaped line.1 ≡ true → is_out_of_order e line.0 ≡ false →
      list_all is_numeric line.1 ≡ false → fault_by e line ≡ Some Number
  is_number s o n = numbers s o ∙ stop_at Number after_number (ap not n)

  pub is_name : list_all is_shaped line.1 ≡ true → is_out_of_order e line.0 ≡ false →
      list_all is_numeric line.1 ≡ true → list_all (is_known e.number) line.1 ≡ false → fault_by e line ≡ Some Name
  is_name s o n k =
      numbers s o ∙ pass_over Number after_number (ap not n) ∙ stop_at Name (Twice ∷ after_twice) (ap not k)

  after_names : list_all is_shaped line.1 ≡ true → is_out_of_order e line.0 ≡ false →
      list_all is_numeric line.1 ≡ true → list_all (is_known e.number) line.1 ≡ true →
      list_all (is_new e.taken) line.1 ≡ true → (step : HostStep) → said_at e line ≡ Some (TakeHostStep step) →
      passes_limit e (TakeHostStep step) ≡ true → fault_by e line ≡ Some Limit
  after_names s o n k new step said past =
      numbers s o ∙ pass_over Number after_number (ap not n) ∙ pass_over Name (Twice ∷ after_twice) (ap not k)
      ∙ pass_over Twice after_twice (ap not new)
      ∙ pass_over Range (Overlap ∷ Limit ∷ [])
      (ap (λ (x : Option Statement). option_map_or (λ t. not (is_in_range e t)) x false) said)
      ∙ pass_over Overlap (Limit ∷ []) (ap (λ (x : Option Statement). option_map_or (overlaps e.buffers) x false) said)
      ∙ stop_at Limit [] (ap (λ (x : Option Statement). option_map_or (passes_limit e) x false) said ∙ past)

-- What pairs say

pub no_names : (taken : List ℕ → Bool) (words : List (List ℕ)) → list_all (is_new taken) (pair_places words) ≡ true
no_names taken [] = refl
no_names taken (name ∷ []) = refl
no_names taken (name ∷ value ∷ words) = no_names taken words

module _ (number : Slot → List ℕ → Option ℕ) where
  with_pair : (name value : Option ℕ) (words : List (List ℕ)) (n : ℕ) → is_some name ≡ true → is_some value ≡ true →
      ((ps : List Pair) × (pairs_at number words ≡ Some ps) × (length ps ≡ n / 2)) →
      (ps : List Pair) × (of_two (λ (p : Pair) (qs : List Pair). p ∷ qs)
      (of_two (λ (t v : ℕ). record { semaphore = t; value = v }) name value) (pairs_at number words) ≡ Some ps)
      × (length ps ≡ (n + 2) / 2)
  with_pair None value words n a b more = absurd (false≢true a)
  with_pair (Some t) None words n a b more = absurd (false≢true b)
  with_pair (Some t) (Some v) words n a b more =
      let half = more.2 in (
        record { semaphore = t; value = v } ∷ more.0,
        ap (λ (o : Option (List Pair)). of_two (λ (p : Pair) (qs : List Pair). p ∷ qs)
            (Some (record { semaphore = t; value = v })) o) more.1,
        omega arith,
      )

  all_pairs : (words : List (List ℕ)) → list_all is_numeric (pair_places words) ≡ true →
      list_all (is_known number) (pair_places words) ≡ true →
      (ps : List Pair) × (pairs_at number (map (λ x. x.1) (pair_places words)) ≡ Some ps)
      × (length ps ≡ length words / 2)
  all_pairs [] n k = ([], refl, refl)
  all_pairs (name ∷ []) n k = ([], refl, refl)
  all_pairs (name ∷ value ∷ words) n k =
      let ns = and_parts (is_some (numeral value)) (list_all is_numeric (pair_places words)) n in
      let ks = and_parts (is_some (number TimelineName name)) (list_all (is_known number) (pair_places words)) k in
      let both = with_pair (number TimelineName name) (numeral value) (map (λ x. x.1) (pair_places words)) (length words)
      ks.0 ns.0 (all_pairs words ns.1 ks.1) in
      let half = both.2 in
      (both.0, both.1, omega arith)

-- a line with more than 16 pairs has the fault Limit, if it has none before
module _ (e : Earlier) (words : List (List ℕ)) (most : 16 ≡ e.most.pairs) (many : 16 < length words / 2)
    (n : list_all is_numeric (pair_places words) ≡ true)
    (k : list_all (is_known e.number) (pair_places words) ≡ true) where
  read : (ps : List Pair) × (pairs_at e.number (map (λ x. x.1) (pair_places words)) ≡ Some ps)
      × (length ps ≡ length words / 2)
  read = all_pairs e.number words n k

  past : nat_lt e.most.pairs (length read.0) ≡ true
  past =
      let half = read.2 in
      let few : e.most.pairs < length read.0 = omega arith in
      grind (arith, nat_tests)

  said_by : (step : List Pair → HostStep) →
      option_map (λ (ps : List Pair). TakeHostStep (step ps)) (pairs_at e.number (map (λ x. x.1) (pair_places words)))
      ≡ Some (TakeHostStep (step read.0))
  said_by step =
      ap (λ (o : Option (List Pair)). option_map (λ (ps : List Pair). TakeHostStep (step ps)) o) read.1

  limit_of : (form : LineForm) → list_all is_shaped (pair_places words) ≡ true →
      is_out_of_order e form ≡ false → (step : List Pair → HostStep) → ((ps : List Pair) → pairs_of (step ps) ≡ ps) →
      said_at e (form, pair_places words) ≡ Some (TakeHostStep (step read.0)) →
      fault_by e (form, pair_places words) ≡ Some Limit
  limit_of form s o step same said =
      after_names e (form, pair_places words) s o n k (no_names e.taken words) (step read.0) said
      (or_right (not (nat_lt e.jobs e.most.jobs)) (nat_lt e.most.pairs (length (pairs_of (step read.0))))
      (ap (λ (ps : List Pair). nat_lt e.most.pairs (length ps)) (same read.0) ∙ past))

  pub is_limit : (form : LineForm) → is_pairs_line form ≡ true → list_all is_shaped (pair_places words) ≡ true →
      is_out_of_order e form ≡ false → fault_by e (form, pair_places words) ≡ Some Limit
  is_limit HostWaitAllLine p s o =
      limit_of HostWaitAllLine s o (λ ps. WaitAll ps) (λ ps. refl) (said_by (λ ps. WaitAll ps))
  is_limit HostWaitAnyLine p s o =
      limit_of HostWaitAnyLine s o (λ ps. WaitAny ps) (λ ps. refl) (said_by (λ ps. WaitAny ps))
  is_limit HostPollAllLine p s o =
      limit_of HostPollAllLine s o (λ ps. PollAll ps) (λ ps. refl) (said_by (λ ps. PollAll ps))
  is_limit HostPollAnyLine p s o =
      limit_of HostPollAnyLine s o (λ ps. PollAny ps) (λ ps. refl) (said_by (λ ps. PollAny ps))
  is_limit other p s o = absurd (false≢true p)
