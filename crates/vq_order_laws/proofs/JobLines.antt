-- The lines of jobs, and of the waits and signals in them.
use Rattle.std.proofs.Common.{◌≡◌, ℕ, zero, suc, List, [], ◌∷◌, Some, None, subst, true, sym, ◌<◌, arith, map, ◌⊎◌, ◌++◌, inl, inr}
use Rattle.std.specs.List.{slice_get, flat_map}
use Rattle.std.proofs.lemmas.List.{map-append}
use Rattle.vq_model.specs.declared.script.Job.{Job}
use Rattle.vq_ground.specs.Lists.{AreRising, has}
use Rattle.vq_model.specs.ValidScripts.{job_lines}
use Rattle.vq_ground.proofs.Rising.{rising_left, rising_right, rising_across}
use Rattle.vq_ground.proofs.Lists.{has-append_left, has-append_right, has-append_cases, has_there}
use Rattle.vq_model.specs.declared.script.Mark.{Mark}
use Rattle.std.specs.Option.{option_to_list}
use Rattle.vq_model.specs.declared.script.Batch.{Batch}
use Rattle.vq_model.specs.declared.script.Job.TheVariants.{Batch as BatchJob}

-- Lines of jobs

-- the lines of a job rise
pub job_rises : (jobs : List Job) (a : ℕ) (job : Job) → AreRising (flat_map job_lines jobs) →
    slice_get jobs a ≡ Some job → AreRising (job_lines job)
job_rises [] a job r e = absurd (let c : None ≡ Some job = e in cc)
job_rises (x ∷ jobs) zero job r e =
    let same : x ≡ job = cc in
    subst (λ (z : Job). AreRising (job_lines z)) same
    (rising_left (job_lines x) (flat_map job_lines jobs) r)
job_rises (x ∷ jobs) (suc a) job r e =
    job_rises jobs a job (rising_right (job_lines x) (flat_map job_lines jobs) r) e

-- what stands in one of some lists stands in all of them
has_flat : (jobs : List Job) (a : ℕ) (job : Job) (l : ℕ) → slice_get jobs a ≡ Some job →
    has (job_lines job) l ≡ true → has (flat_map job_lines jobs) l ≡ true
has_flat [] a job l e h = absurd (let c : None ≡ Some job = e in cc)
has_flat (x ∷ jobs) zero job l e h =
    let same : x ≡ job = cc in
    has-append_left (job_lines x) (flat_map job_lines jobs) l
    (subst (λ (z : Job). has (job_lines z) l ≡ true) (sym same) h)
has_flat (x ∷ jobs) (suc a) job l e h =
    has-append_right (job_lines x) (flat_map job_lines jobs) l (has_flat jobs a job l e h)

-- The lines of a job stand before those of a later one.
pub lines_across : (jobs : List Job) (i a : ℕ) (x y : Job) (l m : ℕ) →
    AreRising (flat_map job_lines jobs) → slice_get jobs i ≡ Some x → slice_get jobs a ≡ Some y →
    i < a → has (job_lines x) l ≡ true → has (job_lines y) m ≡ true → l < m
lines_across [] i a x y l m r e f n h g = absurd (let c : None ≡ Some x = e in cc)
lines_across (z ∷ jobs) i zero x y l m r e f n h g = absurd (omega arith)
lines_across (z ∷ jobs) zero (suc a) x y l m r e f n h g =
    let same : z ≡ x = cc in
    rising_across (job_lines z) (flat_map job_lines jobs) r l m
    (subst (λ (w : Job). has (job_lines w) l ≡ true) (sym same) h) (has_flat jobs a y m f g)
lines_across (z ∷ jobs) (suc i) (suc a) x y l m r e f n h g =
    lines_across jobs i a x y l m (rising_right (job_lines z) (flat_map job_lines jobs) r) e f
    (omega arith) h g

abbrev pub mark_lines : List Mark → List ℕ
mark_lines ms = map (λ m. m.line) ms

-- The waits of a batch stand before its signals and its fence.
pub waits_first : (b : Batch) (l m : ℕ) → AreRising (job_lines (BatchJob b)) →
    has (mark_lines b.waits) l ≡ true → has (mark_lines (b.signals ++ option_to_list b.fence)) m ≡ true →
    l < m
waits_first b l m r h g =
    by_part
    (has-append_cases (mark_lines b.signals) (mark_lines (option_to_list b.fence)) m
    (subst (λ (ns : List ℕ). has ns m ≡ true)
    (map-append (λ x. x.line) b.signals (option_to_list b.fence)) g))
  where
    front : List ℕ
    front = mark_lines b.waits ++ map (λ c. c.line) b.commands

    by_part : (has (mark_lines b.signals) m ≡ true)
        ⊎ (has (mark_lines (option_to_list b.fence)) m ≡ true) → l < m
    by_part (inl i) =
        rising_across front (mark_lines b.signals)
        (rising_left (front ++ mark_lines b.signals) (mark_lines (option_to_list b.fence)) r.1) l m
        (has-append_left (mark_lines b.waits) (map (λ c. c.line) b.commands) l h) i
    by_part (inr i) =
        rising_across (front ++ mark_lines b.signals) (mark_lines (option_to_list b.fence)) r.1 l m
        (has-append_left front (mark_lines b.signals) l
        (has-append_left (mark_lines b.waits) (map (λ c. c.line) b.commands) l h)) i

-- the lines of marks are lines of their batch
pub wait_line : (b : Batch) (l : ℕ) → has (mark_lines b.waits) l ≡ true →
    has (job_lines (BatchJob b)) l ≡ true
wait_line b l h =
    has_there b.line (mark_lines b.waits ++ map (λ c. c.line) b.commands ++ mark_lines b.signals
    ++ mark_lines (option_to_list b.fence)) l
    (has-append_left (mark_lines b.waits ++ map (λ c. c.line) b.commands ++ mark_lines b.signals)
    (mark_lines (option_to_list b.fence)) l
    (has-append_left (mark_lines b.waits ++ map (λ c. c.line) b.commands) (mark_lines b.signals) l
    (has-append_left (mark_lines b.waits) (map (λ c. c.line) b.commands) l h)))

pub signal_line : (b : Batch) (l : ℕ) →
    has (mark_lines (b.signals ++ option_to_list b.fence)) l ≡ true →
    has (job_lines (BatchJob b)) l ≡ true
signal_line b l h =
    has_there b.line (front ++ mark_lines b.signals ++ mark_lines (option_to_list b.fence)) l
    (by_part
    (has-append_cases (mark_lines b.signals) (mark_lines (option_to_list b.fence)) l
    (subst (λ (ns : List ℕ). has ns l ≡ true)
    (map-append (λ x. x.line) b.signals (option_to_list b.fence)) h)))
  where
    front : List ℕ
    front = mark_lines b.waits ++ map (λ c. c.line) b.commands

    by_part : (has (mark_lines b.signals) l ≡ true)
        ⊎ (has (mark_lines (option_to_list b.fence)) l ≡ true) →
        has (front ++ mark_lines b.signals ++ mark_lines (option_to_list b.fence)) l ≡ true
    by_part (inl i) =
        has-append_left (front ++ mark_lines b.signals) (mark_lines (option_to_list b.fence)) l
        (has-append_right front (mark_lines b.signals) l i)
    by_part (inr i) =
        has-append_right (front ++ mark_lines b.signals) (mark_lines (option_to_list b.fence)) l i
