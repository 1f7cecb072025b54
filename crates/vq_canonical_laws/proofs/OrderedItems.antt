-- The statements of jobs that follow each other are those of the jobs that they tell.
use Rattle.std.proofs.Common.{ℕ, ◌≡◌, Bool, true, false, ◌||◌, List, [], ◌∷◌, ◌++◌, map, Some, None, refl, sym, ap, ◌∙◌, subst}
use Rattle.std.specs.Prelude.{nat_lt}
use Rattle.std.specs.List.{filter_map, flat_map, list_any, list_all}
use Rattle.std.proofs.lemmas.Bool.{or_parts, or_from, false≢true}
use Rattle.std.proofs.lemmas.List.Folds.{list_any-append}
use Rattle.vq_model.specs.declared.script.Buffer.{Buffer}
use Rattle.vq_model.specs.declared.script.Queue.{Queue}
use Rattle.vq_model.specs.declared.script.Semaphore.{Semaphore}
use Rattle.vq_model.specs.declared.statement.Statement.{Statement}
use Rattle.vq_model.specs.declared.statement.Statement.TheVariants.{BeginBatch, EndBatch, TakeHostStep, AddWait, AddCommand, AddSignal, AddFence}
use Rattle.vq_model.specs.Context.{is_batch_fence, part_of}
use Rattle.vq_model.specs.ScriptOfLines.{first_of_list}
use Rattle.vq_canonical_laws.specs.CanonicalStatements.{wait_statement, command_statement, signal_statement, fence_statements, statements_of_job}
use Rattle.vq_canonical_laws.proofs.BatchItems.{is_item, AllItems}
use Rattle.vq_canonical_laws.proofs.CanonicalBatches.{items_along, leads_split, none_added, no_second_fence}
use Rattle.vq_canonical_laws.proofs.CanonicalOrder.{Leads, job_statements}
use Rattle.vq_canonical_laws.proofs.ScriptParts.{ToldJob, ToldStep, ToldBatch, Told, Parts, parts, a_job, wait_in, command_in, signal_in, fence_in, MayItem}

-- The order of a batch's statements

-- a statement of a batch after others: none of them is of a later part, and one fence is enough
abbrev IsNext : List Statement → Statement → Type 0
IsNext told s =
    (list_any (λ x. nat_lt (part_of s) (part_of x)) told ≡ false)
    × (is_batch_fence s ≡ true → list_any is_batch_fence told ≡ false)

-- .. one after another
abbrev AreNext : List Statement → List Statement → Type 0
AreNext told [] = Unit {0}
AreNext told (s ∷ rest) = IsNext told s × AreNext (told ++ s ∷ []) rest

-- a statement before others: none of them is of an earlier part, and no second fence
abbrev IsBefore : Statement → List Statement → Type 0
IsBefore s rest =
    (list_any (λ x. nat_lt (part_of x) (part_of s)) rest ≡ false)
    × (is_batch_fence s ≡ true → list_any is_batch_fence rest ≡ false)

abbrev AreBefore : List Statement → Type 0
AreBefore [] = Unit {0}
AreBefore (s ∷ rest) = IsBefore s rest × AreBefore rest

-- a statement is among others: it fails what all of these fail
abbrev IsAmong : Statement → List Statement → Type 0
IsAmong s told = (test : Statement → Bool) → list_any test told ≡ false → test s ≡ false

among_more : (s x : Statement) (told : List Statement) → IsAmong s told → IsAmong s (told ++ x ∷ [])
among_more s x told h test e =
    h test (or_parts (list_any test told) (test x || false) (sym (list_any-append test told (x ∷ [])) ∙ e)).0

among_last : (s : Statement) (told : List Statement) → IsAmong s (told ++ s ∷ [])
among_last s told test e =
    (or_parts (test s) false (or_parts (list_any test told) (test s || false)
    (sym (list_any-append test told (s ∷ [])) ∙ e)).1).0

-- what comes after a statement that is told comes in order
next_before : (s : Statement) (told rest : List Statement) → IsAmong s told → AreNext told rest → IsBefore s rest
next_before s told [] among next = (refl, λ f. refl)
next_before s told (x ∷ rest) among next =
    let more = next_before s (told ++ x ∷ []) rest (among_more s x told among) next.1 in (
      or_from (nat_lt (part_of x) (part_of s)) (list_any (λ y. nat_lt (part_of y) (part_of s)) rest)
          (among (λ y. nat_lt (part_of x) (part_of y)) next.0.0) more.0,
      λ f. or_from (is_batch_fence x) (list_any is_batch_fence rest)
          (by_fence (is_batch_fence x) f (λ g. among is_batch_fence (next.0.1 g))) (more.1 f),
    )
  where
    by_fence : (b : Bool) → is_batch_fence s ≡ true → (b ≡ true → is_batch_fence s ≡ false) → b ≡ false
    by_fence true f g = absurd (false≢true (sym (g refl) ∙ f))
    by_fence false f g = refl

all_before : (told rest : List Statement) → AreNext told rest → AreBefore rest
all_before told [] next = tt
all_before told (s ∷ rest) next = (
  next_before s (told ++ s ∷ []) rest (among_last s told) next.1,
  all_before (told ++ s ∷ []) rest next.1,
)

-- Statements in order are those of the parts that they tell.

no_wait_in : (k : ℕ) → nat_lt 1 k ≡ true → (s : Statement) → nat_lt (part_of s) k ≡ false → wait_in s ≡ None
no_wait_in k l (AddWait pair from) h = absurd (false≢true (sym h ∙ l))
no_wait_in k l s h = refl

no_command_in : (k : ℕ) → nat_lt 2 k ≡ true → (s : Statement) → nat_lt (part_of s) k ≡ false →
    command_in s ≡ None
no_command_in k l (AddCommand c) h = absurd (false≢true (sym h ∙ l))
no_command_in k l s h = refl

no_signal_in : (k : ℕ) → nat_lt 3 k ≡ true → (s : Statement) → nat_lt (part_of s) k ≡ false →
    signal_in s ≡ None
no_signal_in k l (AddSignal pair) h = absurd (false≢true (sym h ∙ l))
no_signal_in k l s h = refl

-- the waits, commands, signals and fence of statements, as statements
abbrev waits_in : List Statement → List Statement
waits_in told = map wait_statement (filter_map wait_in told)

abbrev commands_in : List Statement → List Statement
commands_in told = map command_statement (filter_map command_in told)

abbrev signals_in : List Statement → List Statement
signals_in told = map signal_statement (filter_map signal_in told)

abbrev fences_in : List Statement → List Statement
fences_in told = fence_statements (first_of_list (filter_map fence_in told))

abbrev items_in : List Statement → List Statement
items_in told = waits_in told ++ commands_in told ++ signals_in told ++ fences_in told

module _ (rest : List Statement) (k : ℕ) (h : list_any (λ x. nat_lt (part_of x) k) rest ≡ false) where
  waits_none : nat_lt 1 k ≡ true → waits_in rest ≡ []
  waits_none l =
      ap (map wait_statement) (none_added wait_in (λ x. nat_lt (part_of x) k) (no_wait_in k l) rest h)

  commands_none : nat_lt 2 k ≡ true → commands_in rest ≡ []
  commands_none l =
      ap (map command_statement) (none_added command_in (λ x. nat_lt (part_of x) k) (no_command_in k l) rest h)

  signals_none : nat_lt 3 k ≡ true → signals_in rest ≡ []
  signals_none l =
      ap (map signal_statement) (none_added signal_in (λ x. nat_lt (part_of x) k) (no_signal_in k l) rest h)

items_again : (told : List Statement) → list_all is_item told ≡ true → AreBefore told → items_in told ≡ told
items_again [] items order = refl
items_again (AddWait pair from ∷ rest) items order =
    ap (λ (xs : List Statement). AddWait pair from ∷ xs) (items_again rest items order.1)
items_again (AddCommand c ∷ rest) items order =
    let w = waits_none rest 2 order.0.0 refl in
    (λ i. w i ++ (AddCommand c ∷ commands_in rest) ++ signals_in rest ++ fences_in rest)
    ∙ ap (λ (xs : List Statement). AddCommand c ∷ xs)
    ((λ i. sym w i ++ commands_in rest ++ signals_in rest ++ fences_in rest) ∙ items_again rest items order.1)
items_again (AddSignal pair ∷ rest) items order =
    let w = waits_none rest 3 order.0.0 refl in
    let c = commands_none rest 3 order.0.0 refl in
    (λ i. w i ++ c i ++ (AddSignal pair ∷ signals_in rest) ++ fences_in rest)
    ∙ ap (λ (xs : List Statement). AddSignal pair ∷ xs)
    ((λ i. sym w i ++ sym c i ++ signals_in rest ++ fences_in rest) ∙ items_again rest items order.1)
items_again (AddFence f ∷ rest) items order =
    let w = waits_none rest 4 order.0.0 refl in
    let c = commands_none rest 4 order.0.0 refl in
    let m = signals_none rest 4 order.0.0 refl in
    let n = none_added fence_in is_batch_fence no_second_fence rest (order.0.1 refl) in
    (λ i. w i ++ c i ++ m i ++ (AddFence f ∷ []))
    ∙ ap (λ (xs : List Statement). AddFence f ∷ xs)
    ((λ i. sym w i ++ sym c i ++ sym m i ++ fence_statements (first_of_list (sym n i)))
    ∙ items_again rest items order.1)
items_again (s ∷ rest) items order = absurd (false≢true items)

module _ (v : ℕ) (bs : List Buffer) (ss : List Semaphore) (qs : List Queue) where
  -- what an item finds told
  item_next : (jobs : List ToldJob) (q : ℕ) (told : List Statement) (s : Statement) →
      MayItem (parts v bs ss qs jobs (Some (q, told))) s →
      list_any (λ x. nat_lt (part_of s) (part_of x)) told ≡ false
  item_next jobs q told s m =
      subst (λ (t : Told). list_any (λ x. nat_lt (part_of s) (part_of x)) t.1 ≡ false)
      (same_told m.told (q, told) (sym m.inside)) m.in_order
    where
      same_told : (a b : Told) → Some a ≡ Some b → a ≡ b
      same_told a b e = cc

  items_next : (jobs : List ToldJob) (q : ℕ) (told rest : List Statement) (r : Parts) →
      list_all is_item rest ≡ true →
      Leads (parts v bs ss qs jobs (Some (q, told))) (rest ++ EndBatch ∷ []) r → AreNext told rest
  items_next jobs q told [] r a l = tt
  items_next jobs q told (AddWait pair from ∷ rest) r a l = (
    (item_next jobs q told (AddWait pair from) l.0, λ f. absurd (false≢true f)),
    items_next jobs q (told ++ AddWait pair from ∷ []) rest r a l.1,
  )
  items_next jobs q told (AddCommand c ∷ rest) r a l = (
    (item_next jobs q told (AddCommand c) l.0, λ f. absurd (false≢true f)),
    items_next jobs q (told ++ AddCommand c ∷ []) rest r a l.1,
  )
  items_next jobs q told (AddSignal pair ∷ rest) r a l = (
    (item_next jobs q told (AddSignal pair) l.0, λ f. absurd (false≢true f)),
    items_next jobs q (told ++ AddSignal pair ∷ []) rest r a l.1,
  )
  items_next jobs q told (AddFence g ∷ rest) r a l = (
    (
      item_next jobs q told (AddFence g) l.0,
      λ f. subst (λ (t : Told). list_any is_batch_fence t.1 ≡ false)
          (same_told l.0.told (q, told) (sym l.0.inside)) l.0.fits.only,
    ),
    items_next jobs q (told ++ AddFence g ∷ []) rest r a l.1,
  )
    where
      same_told : (a b : Told) → Some a ≡ Some b → a ≡ b
      same_told a b e = cc
  items_next jobs q told (s ∷ rest) r a l = absurd (false≢true a)

  -- Statements of jobs that follow each other are those of the jobs that they tell.
  pub jobs_again : (before jobs : List ToldJob) (r : Parts) → AllItems jobs →
      Leads (parts v bs ss qs before None) (flat_map job_statements jobs) r →
      flat_map job_statements jobs ≡ flat_map statements_of_job (map a_job jobs)
  jobs_again before [] r a l = refl
  jobs_again before (ToldStep step ∷ jobs) r a l =
      ap (λ (xs : List Statement). TakeHostStep step ∷ xs)
      (jobs_again (before ++ ToldStep step ∷ []) jobs r a l.1)
  jobs_again before (ToldBatch t ∷ jobs) r a l =
      let cut =
      leads_split (parts v bs ss qs before None) r (job_statements (ToldBatch t))
      (flat_map job_statements jobs)
      l in
      let along = items_along v bs ss qs before t.0 [] t.1 cut.0 a.0 cut.1.1 in
      let again =
      items_again t.1 a.0 (all_before [] t.1 (items_next before t.0 [] t.1 cut.0 a.0 cut.1.1)) in
      λ i.
      (BeginBatch t.0 ∷ sym again i ++ EndBatch ∷ [])
      ++ jobs_again along.more jobs r a.1
      (subst (λ (x : Parts). Leads x (flat_map job_statements jobs) r) along.ends cut.2) i
