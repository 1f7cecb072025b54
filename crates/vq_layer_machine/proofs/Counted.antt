-- How many signals of a semaphore stand in front of a job, and in front of a signal.
use Rattle.std.proofs.Common.{◌≡◌, ℕ, zero, suc, ◌+◌, ◌≤◌, Bool, true, false, cond, List, [], ◌∷◌, ◌++◌, length, map, take, drop, append-nil, count_by, Some, refl, sym, ap, ◌∙◌, subst, arith}
use Rattle.std.specs.Prelude.{◌==◌, ◌&&◌, nat_eq, nat_lt, if◌then◌else◌}
use Rattle.std.specs.List.{slice_get}
use Rattle.std.proofs.lemmas.Bool.{eq-eqb, ne_eqb}
use Rattle.std.proofs.lemmas.List.{append_assoc}
use Rattle.std.proofs.lemmas.List.Sums.{sum_by-cons, sum_by-append}
use Rattle.vq_model.specs.declared.script.Script.{Script}
use Rattle.vq_model.specs.declared.script.Job.{Job}
use Rattle.vq_model.specs.Signals.{Signaling, job_signals, all_signals, of_mark, signals_semaphore}
use Rattle.vq_ground.proofs.Bools.{and_true, and_false}
use Rattle.vq_ground.proofs.Gets.{get-take_within}
use Rattle.vq_ground.proofs.Tests.{below_test, not_below_test}
use Rattle.vq_plan_laws.proofs.Cited.{owner}
use Rattle.vq_layer.specs.declared.answers.Wanted.{Wanted}
use Rattle.vq_layer.specs.Names.{is_named}
use Rattle.vq_layer.specs.Takes.{AreApart}
use Rattle.vq_layer.proofs.Cited.{same_number, other_number, equal_true}
use Rattle.vq_layer_machine.specs.Scripts.{mark_of, signal_of}
use Rattle.vq_layer_machine.proofs.Ops.{signals_from, signals_before}

-- Counts

pub count_passed : (f : Signaling → Bool) (x : Signaling) (xs : List Signaling) → f x ≡ true → count_by f (x ∷ xs) ≡ 1 + count_by f xs
count_passed f x xs e = sum_by-cons (λ y. cond (f y) 1 0) x xs ∙ ap (λ (b : Bool). cond b 1 0 + count_by f xs) e

pub count_missed : (f : Signaling → Bool) (x : Signaling) (xs : List Signaling) → f x ≡ false → count_by f (x ∷ xs) ≡ count_by f xs
count_missed f x xs e =
    sum_by-cons (λ y. cond (f y) 1 0) x xs ∙ ap (λ (b : Bool). cond b 1 0 + count_by f xs) e ∙ (let z : 0 + count_by f xs ≡ count_by f xs = omega arith in z)

count_same : (f g : Signaling → Bool) (xs : List Signaling) → ((i : ℕ) (x : Signaling) → slice_get xs i ≡ Some x → f x ≡ g x) → count_by f xs ≡ count_by g xs
count_same f g [] h = refl
count_same f g (x ∷ xs) h =
    let rest = count_same f g xs (λ i y e. h (suc i) y e) in
    let first = h 0 x refl in
    sum_by-cons (λ y. cond (f y) 1 0) x xs ∙ (λ i. cond (first i) 1 0 + rest i) ∙ sym (sum_by-cons (λ y. cond (g y) 1 0) x xs)

count_zero : (f : Signaling → Bool) (xs : List Signaling) → ((i : ℕ) (x : Signaling) → slice_get xs i ≡ Some x → f x ≡ false) → count_by f xs ≡ 0
count_zero f [] h = refl
count_zero f (x ∷ xs) h = count_missed f x xs (h 0 x refl) ∙ count_zero f xs (λ i y e. h (suc i) y e)

count_append : (f : Signaling → Bool) (xs ys : List Signaling) → count_by f (xs ++ ys) ≡ count_by f xs + count_by f ys
count_append f xs ys = sum_by-append (λ x. cond (f x) 1 0) xs ys

count_front : (f : Signaling → Bool) (xs ys : List Signaling) (k : ℕ) → count_by f (take (length xs + k) (xs ++ ys)) ≡ count_by f xs + count_by f (take k ys)
count_front f [] ys k =
    let z : 0 + k ≡ k = omega arith in
    let c : count_by f (take k ys) ≡ 0 + count_by f (take k ys) = omega arith in
    ap (λ (n : ℕ). count_by f (take n ys)) z ∙ c
count_front f (x ∷ xs) ys k =
    let z : suc (length xs) + k ≡ suc (length xs + k) = omega arith in
    ap (λ (n : ℕ). count_by f (take n (x ∷ (xs ++ ys)))) z ∙ by_test (f x) refl (count_front f xs ys k)
  where
    by_test : (b : Bool) → f x ≡ b → count_by f (take (length xs + k) (xs ++ ys)) ≡ count_by f xs + count_by f (take k ys) → count_by f (x ∷ take (length xs + k) (xs ++ ys)) ≡ count_by f (x ∷ xs) + count_by f (take k ys)
    by_test true e c =
        let a = count_passed f x (take (length xs + k) (xs ++ ys)) e in
        let b = count_passed f x xs e in
        omega arith
    by_test false e c =
        let a = count_missed f x (take (length xs + k) (xs ++ ys)) e in
        let b = count_missed f x xs e in
        omega arith

-- In front of a job

signals_split : (a : ℕ) (jobs : List Job) (j : ℕ) → signals_from a jobs ≡ signals_from a (take j jobs) ++ signals_from (a + j) (drop j jobs)
signals_split a jobs zero = let z : a ≡ a + 0 = omega arith in ap (λ (n : ℕ). signals_from n jobs) z
signals_split a [] (suc j) = refl
signals_split a (x ∷ jobs) (suc j) =
    let m : (a + 1) + j ≡ a + suc j = omega arith in
    ap (λ (xs : List Signaling). job_signals (a, x) ++ xs) (signals_split (a + 1) jobs j ∙ ap (λ (n : ℕ). signals_from (a + 1) (take j jobs) ++ signals_from n (drop j jobs)) m)
    ∙ sym (append_assoc (job_signals (a, x)) (signals_from (a + 1) (take j jobs)) (signals_from (a + suc j) (drop j jobs)))

-- how many signals of a semaphore the first jobs have
abbrev pub counted_before : Script → ℕ → ℕ → ℕ
counted_before s n j = count_by (signals_semaphore n) (signals_from 0 (take j s.jobs))

pub counted_jobs : (s : Script) (n j : ℕ) → count_by (λ x. (x.semaphore == n) && nat_lt x.job j) (all_signals s) ≡ counted_before s n j
counted_jobs s n j =
    ap (count_by f) (signals_split 0 s.jobs j)
    ∙ count_append f (signals_from 0 (take j s.jobs)) (signals_from (0 + j) (drop j s.jobs))
    ∙ (λ i. count_same f (signals_semaphore n) (signals_from 0 (take j s.jobs)) early i + count_zero f (signals_from (0 + j) (drop j s.jobs)) late i)
    ∙ (let z : counted_before s n j + 0 ≡ counted_before s n j = omega arith in z)
  where
    f : Signaling → Bool
    f = λ x. (x.semaphore == n) && nat_lt x.job j

    early : (i : ℕ) (x : Signaling) → slice_get (signals_from 0 (take j s.jobs)) i ≡ Some x → ((x.semaphore == n) && nat_lt x.job j) ≡ signals_semaphore n x
    early i x e =
        let o = owner 0 (take j s.jobs) i x e in
        let l = get-take_within j s.jobs o.place o.job o.is in
        let k = o.number in
        ap (λ (b : Bool). (x.semaphore == n) && b) (below_test x.job j (omega arith)) ∙ and_true (x.semaphore == n)

    late : (i : ℕ) (x : Signaling) → slice_get (signals_from (0 + j) (drop j s.jobs)) i ≡ Some x → ((x.semaphore == n) && nat_lt x.job j) ≡ false
    late i x e =
        let o = owner (0 + j) (drop j s.jobs) i x e in
        let k = o.number in
        ap (λ (b : Bool). (x.semaphore == n) && b) (not_below_test x.job j (omega arith)) ∙ and_false (x.semaphore == n)

-- In front of a signal

job_at : (jobs : List Job) (j : ℕ) (job : Job) → slice_get jobs j ≡ Some job → drop j jobs ≡ job ∷ drop (suc j) jobs
job_at [] zero job e = absurd (cc)
job_at [] (suc j) job e = absurd (cc)
job_at (x ∷ jobs) zero job e = let same : x ≡ job = cc in ap (λ (y : Job). y ∷ jobs) same
job_at (x ∷ jobs) (suc j) job e = job_at jobs j job e

front_only : (xs ys : List Signaling) (k : ℕ) → k ≤ length xs → take k (xs ++ ys) ≡ take k xs
front_only xs ys zero l = refl
front_only [] ys (suc k) l = absurd (omega arith)
front_only (x ∷ xs) ys (suc k) l = ap (λ (zs : List Signaling). x ∷ zs) (front_only xs ys k (omega arith))

pub counted_ops : (s : Script) (n j k : ℕ) (job : Job) → slice_get s.jobs j ≡ Some job → k ≤ length (job_signals (j, job)) → count_by (signals_semaphore n) (take (signals_before 0 s.jobs j + k) (all_signals s)) ≡ counted_before s n j + count_by (signals_semaphore n) (take k (job_signals (j, job)))
counted_ops s n j k job e l =
    let z : 0 + j ≡ j = omega arith in
    let split : all_signals s ≡ signals_from 0 (take j s.jobs) ++ (job_signals (j, job) ++ signals_from (j + 1) (drop (suc j) s.jobs)) =
    signals_split 0 s.jobs j ∙ (λ i. signals_from 0 (take j s.jobs) ++ signals_from (z i) (job_at s.jobs j job e i)) in
    ap (λ (xs : List Signaling). count_by (signals_semaphore n) (take (signals_before 0 s.jobs j + k) xs)) split
    ∙ count_front (signals_semaphore n) (signals_from 0 (take j s.jobs)) (job_signals (j, job) ++ signals_from (j + 1) (drop (suc j) s.jobs)) k
    ∙ ap (λ (xs : List Signaling). counted_before s n j + count_by (signals_semaphore n) xs) (front_only (job_signals (j, job)) (signals_from (j + 1) (drop (suc j) s.jobs)) k l)

-- one job more
pub counted_next : (s : Script) (n j : ℕ) (job : Job) → slice_get s.jobs j ≡ Some job → counted_before s n (j + 1) ≡ counted_before s n j + count_by (signals_semaphore n) (job_signals (j, job))
counted_next s n j job e =
    let one : j + 1 ≡ suc j = omega arith in
    let z : 0 + j ≡ j = omega arith in
    ap (counted_before s n) one
    ∙ ap (count_by (signals_semaphore n)) (signals_more 0 s.jobs j e ∙ λ i. signals_from 0 (take j s.jobs) ++ job_signals (z i, job))
    ∙ count_append (signals_semaphore n) (signals_from 0 (take j s.jobs)) (job_signals (j, job))
  where
    signals_more : (a : ℕ) (jobs : List Job) (i : ℕ) → slice_get jobs i ≡ Some job → signals_from a (take (suc i) jobs) ≡ signals_from a (take i jobs) ++ job_signals (a + i, job)
    signals_more a [] i h = absurd (cc)
    signals_more a (x ∷ jobs) zero h =
        let same : x ≡ job = cc in
        let y : a ≡ a + 0 = omega arith in
        append-nil (job_signals (a, x)) ∙ λ i. job_signals (y i, same i)
    signals_more a (x ∷ jobs) (suc i) h =
        let m : (a + 1) + i ≡ a + suc i = omega arith in
        ap (λ (xs : List Signaling). job_signals (a, x) ++ xs) (signals_more (a + 1) jobs i h ∙ ap (λ (k : ℕ). signals_from (a + 1) (take i jobs) ++ job_signals (k, job)) m)
        ∙ sym (append_assoc (job_signals (a, x)) (signals_from (a + 1) (take i jobs)) (job_signals (a + suc i, job)))

-- the host's signal counts for its semaphore alone
pub host_uncounted : (s : Script) (x n v j : ℕ) → slice_get s.jobs j ≡ Some (signal_of n v) → (x ≡ n → ⊥) → counted_before s x (j + 1) ≡ counted_before s x j
host_uncounted s x n v j is ne =
    let c = counted_next s x j (signal_of n v) is in
    let z : count_by (signals_semaphore x) (job_signals (j, signal_of n v)) ≡ 0 =
    count_missed (signals_semaphore x) (record { job = j; line = 0; semaphore = n; value = v }) [] (ne_eqb n x (λ e. ne (sym e))) in
    omega arith

pub host_counted : (s : Script) (n v j : ℕ) → slice_get s.jobs j ≡ Some (signal_of n v) → counted_before s n (j + 1) ≡ counted_before s n j + 1
host_counted s n v j is =
    let c = counted_next s n j (signal_of n v) is in
    let z : count_by (signals_semaphore n) (job_signals (j, signal_of n v)) ≡ 1 =
    count_passed (signals_semaphore n) (record { job = j; line = 0; semaphore = n; value = v }) [] (eq-eqb n n refl) in
    omega arith

-- Among the signals of a batch

abbrev pub marks : ℕ → List Wanted → List Signaling
marks j ws = map (of_mark j) (map mark_of ws)

pub none_named : (j n : ℕ) (ws : List Wanted) → is_named n ws ≡ false → count_by (signals_semaphore n) (marks j ws) ≡ 0
none_named j n [] h = refl
none_named j n (w ∷ ws) h = by_test (nat_eq w.timeline n) refl h (none_named j n ws)
  where
    by_test : (b : Bool) → nat_eq w.timeline n ≡ b → (if b then true else is_named n ws) ≡ false → (is_named n ws ≡ false → count_by (signals_semaphore n) (marks j ws) ≡ 0) → count_by (signals_semaphore n) (marks j (w ∷ ws)) ≡ 0
    by_test true e k r = absurd (cc)
    by_test false e k r =
        count_missed (signals_semaphore n) (of_mark j (mark_of w)) (marks j ws) (ne_eqb w.timeline n (other_number w.timeline n e)) ∙ r k

pub one_named : (j n : ℕ) (ws : List Wanted) → AreApart ws → is_named n ws ≡ true → count_by (signals_semaphore n) (marks j ws) ≡ 1
one_named j n [] a h = absurd (cc)
one_named j n (w ∷ ws) a h = by_test (nat_eq w.timeline n) refl h (one_named j n ws a.1)
  where
    by_test : (b : Bool) → nat_eq w.timeline n ≡ b → (if b then true else is_named n ws) ≡ true → (is_named n ws ≡ true → count_by (signals_semaphore n) (marks j ws) ≡ 1) → count_by (signals_semaphore n) (marks j (w ∷ ws)) ≡ 1
    by_test true e k r =
        let same = same_number w.timeline n e in
        let rest = none_named j n ws (subst (λ (i : ℕ). is_named i ws ≡ false) same a.0) in
        count_passed (signals_semaphore n) (of_mark j (mark_of w)) (marks j ws) (eq-eqb w.timeline n same) ∙ ap (λ (i : ℕ). 1 + i) rest
    by_test false e k r =
        count_missed (signals_semaphore n) (of_mark j (mark_of w)) (marks j ws) (ne_eqb w.timeline n (other_number w.timeline n e)) ∙ r k

pub named_at_place : (ws : List Wanted) (k : ℕ) (w : Wanted) → slice_get ws k ≡ Some w → is_named w.timeline ws ≡ true
named_at_place [] k w e = absurd (cc)
named_at_place (x ∷ xs) zero w e =
    let same : x ≡ w = cc in
    ap (λ (b : Bool). if b then true else is_named w.timeline xs) (equal_true x.timeline w.timeline (ap (λ (y : Wanted). y.timeline) same))
named_at_place (x ∷ xs) (suc k) w e = by_test (nat_eq x.timeline w.timeline) (named_at_place xs k w e)
  where
    by_test : (b : Bool) → is_named w.timeline xs ≡ true → (if b then true else is_named w.timeline xs) ≡ true
    by_test true h = refl
    by_test false h = h

pub none_in_front : (j : ℕ) (ws : List Wanted) (k : ℕ) (w : Wanted) → AreApart ws → slice_get ws k ≡ Some w → count_by (signals_semaphore w.timeline) (take k (marks j ws)) ≡ 0
none_in_front j ws zero w a e = refl
none_in_front j [] (suc k) w a e = absurd (cc)
none_in_front j (x ∷ xs) (suc k) w a e =
    count_missed (signals_semaphore w.timeline) (of_mark j (mark_of x)) (take k (marks j xs)) (ne_eqb x.timeline w.timeline (λ q. absurd (apart (nat_eq x.timeline w.timeline) refl q)))
    ∙ none_in_front j xs k w a.1 e
  where
    apart : (b : Bool) → nat_eq x.timeline w.timeline ≡ b → x.timeline ≡ w.timeline → ⊥
    apart b t q =
        let there = named_at_place xs k w e in
        let not_there : is_named w.timeline xs ≡ false = subst (λ (i : ℕ). is_named i xs ≡ false) q a.0 in
        let both : true ≡ false = sym there ∙ not_there in
        cc
