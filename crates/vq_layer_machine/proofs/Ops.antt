-- The signal operations of a job stand one behind another, by their numbers.
use Rattle.std.proofs.Common.{◌≡◌, ℕ, zero, suc, ◌+◌, ◌<◌, Bool, true, false, List, [], ◌∷◌, ◌++◌, length, take, filter, append-nil, Some, refl, sym, ap, ◌∙◌, subst, arith}
use Rattle.std.specs.Prelude.{◌==◌, if◌then◌else◌}
use Rattle.std.specs.List.{slice_get, flat_map, enumerate_from, range_with_len}
use Rattle.std.specs.Option.{option_map_or}
use Rattle.std.proofs.lemmas.Bool.{cond-true, cond-false, eq-eqb, ne_eqb}
use Rattle.std.proofs.lemmas.List.{length-append}
use Rattle.vq_model.specs.declared.script.Script.{Script}
use Rattle.vq_model.specs.declared.script.Job.{Job}
use Rattle.vq_model.specs.Signals.{Signaling, job_signals, all_signals}
use Rattle.vq_model.specs.Lowering.{job_ops}
use Rattle.vq_ground.proofs.Gets.{get-append, get-append_left, get_within}
use Rattle.vq_plan_laws.proofs.Cited.{owner}

abbrev pub signals_from : ℕ → List Job → List Signaling
signals_from a jobs = flat_map job_signals (enumerate_from a jobs)

-- how many signals the first jobs have
abbrev pub signals_before : ℕ → List Job → ℕ → ℕ
signals_before a jobs j = length (signals_from a (take j jobs))

pub signal_at : (a : ℕ) (jobs : List Job) (j : ℕ) (job : Job) (k : ℕ) → slice_get jobs j ≡ Some job → k < length (job_signals (a + j, job)) → slice_get (signals_from a jobs) (signals_before a jobs j + k) ≡ slice_get (job_signals (a + j, job)) k
signal_at a [] j job k e l = absurd (cc)
signal_at a (x ∷ jobs) zero job k e l =
    let same : x ≡ job = cc in
    let z : a + 0 ≡ a = omega arith in
    let n : 0 + k ≡ k = omega arith in
    let here : length (job_signals (a + 0, job)) ≡ length (job_signals (a, x)) = λ i. length (job_signals (z i, sym same i)) in
    ap (slice_get (signals_from a (x ∷ jobs))) n
    ∙ get-append_left (job_signals (a, x)) (signals_from (a + 1) jobs) k (omega arith)
    ∙ λ i. slice_get (job_signals (sym z i, same i)) k
signal_at a (x ∷ jobs) (suc j) job k e l =
    let n = length-append (job_signals (a, x)) (signals_from (a + 1) (take j jobs)) in
    let at : signals_before a (x ∷ jobs) (suc j) + k ≡ length (job_signals (a, x)) + (signals_before (a + 1) jobs j + k) = omega arith in
    let m : (a + 1) + j ≡ a + suc j = omega arith in
    ap (slice_get (signals_from a (x ∷ jobs))) at
    ∙ get-append (job_signals (a, x)) (signals_from (a + 1) jobs) (signals_before (a + 1) jobs j + k)
    ∙ signal_at (a + 1) jobs j job k e (subst (λ (i : ℕ). k < length (job_signals (i, job))) (sym m) l)
    ∙ ap (λ (i : ℕ). slice_get (job_signals (i, job)) k) m

pub before_more : (a : ℕ) (jobs : List Job) (j : ℕ) (job : Job) → slice_get jobs j ≡ Some job → signals_before a jobs (suc j) ≡ signals_before a jobs j + length (job_signals (a + j, job))
before_more a [] j job e = absurd (cc)
before_more a (x ∷ jobs) zero job e =
    let same : x ≡ job = cc in
    let z : a + 0 ≡ a = omega arith in
    let n = length-append (job_signals (a, x)) [] in
    let here : length (job_signals (a + 0, job)) ≡ length (job_signals (a, x)) = λ i. length (job_signals (z i, sym same i)) in
    omega arith
before_more a (x ∷ jobs) (suc j) job e =
    let n = length-append (job_signals (a, x)) (signals_from (a + 1) (take (suc j) jobs)) in
    let m = length-append (job_signals (a, x)) (signals_from (a + 1) (take j jobs)) in
    let p : (a + 1) + j ≡ a + suc j = omega arith in
    let here = ap (λ (i : ℕ). length (job_signals (i, job))) p in
    let rest = before_more (a + 1) jobs j job e in
    omega arith

-- the places of the signals that pass a test
abbrev ops_in : (Signaling → Bool) → ℕ → List Signaling → List ℕ
ops_in f a [] = []
ops_in f a (x ∷ xs) = if f x then a ∷ ops_in f (a + 1) xs else ops_in f (a + 1) xs

filter_is : (f : Signaling → Bool) (zs : List Signaling) (a : ℕ) (xs : List Signaling) → ((i : ℕ) → slice_get zs (a + i) ≡ slice_get xs i) → filter (λ e. option_map_or f (slice_get zs e) false) (range_with_len a (length xs)) ≡ ops_in f a xs
filter_is f zs a [] h = refl
filter_is f zs a (x ∷ xs) h =
    let z : a ≡ a + 0 = omega arith in
    let first : slice_get zs a ≡ Some x = ap (slice_get zs) z ∙ h 0 in
    let rest = filter_is f zs (a + 1) xs (λ i. ap (slice_get zs) (let m : (a + 1) + i ≡ a + suc i = omega arith in m) ∙ h (suc i)) in
    λ i. if option_map_or f (first i) false then a ∷ rest i else rest i

ops_append : (f : Signaling → Bool) (a : ℕ) (xs ys : List Signaling) → ops_in f a (xs ++ ys) ≡ ops_in f a xs ++ ops_in f (a + length xs) ys
ops_append f a [] ys = let z : a ≡ a + 0 = omega arith in ap (λ (n : ℕ). ops_in f n ys) z
ops_append f a (x ∷ xs) ys =
    let m : (a + 1) + length xs ≡ a + suc (length xs) = omega arith in
    by_test (f x) (ops_append f (a + 1) xs ys ∙ ap (λ (n : ℕ). ops_in f (a + 1) xs ++ ops_in f n ys) m)
  where
    by_test : (b : Bool) → ops_in f (a + 1) (xs ++ ys) ≡ ops_in f (a + 1) xs ++ ops_in f (a + suc (length xs)) ys → (if b then a ∷ ops_in f (a + 1) (xs ++ ys) else ops_in f (a + 1) (xs ++ ys)) ≡ (if b then a ∷ ops_in f (a + 1) xs else ops_in f (a + 1) xs) ++ ops_in f (a + suc (length xs)) ys
    by_test true h = ap (λ (es : List ℕ). a ∷ es) h
    by_test false h = h

ops_none : (f : Signaling → Bool) (a : ℕ) (xs : List Signaling) → ((i : ℕ) (x : Signaling) → slice_get xs i ≡ Some x → f x ≡ false) → ops_in f a xs ≡ []
ops_none f a [] h = refl
ops_none f a (x ∷ xs) h =
    cond-false (f x) (a ∷ ops_in f (a + 1) xs) (ops_in f (a + 1) xs) (h 0 x refl) ∙ ops_none f (a + 1) xs (λ i y e. h (suc i) y e)

ops_all : (f : Signaling → Bool) (a : ℕ) (xs : List Signaling) → ((i : ℕ) (x : Signaling) → slice_get xs i ≡ Some x → f x ≡ true) → ops_in f a xs ≡ range_with_len a (length xs)
ops_all f a [] h = refl
ops_all f a (x ∷ xs) h =
    cond-true (f x) (a ∷ ops_in f (a + 1) xs) (ops_in f (a + 1) xs) (h 0 x refl) ∙ ap (λ (es : List ℕ). a ∷ es) (ops_all f (a + 1) xs (λ i y e. h (suc i) y e))

-- a job's signals are told from those of later jobs by its number
own_signal : (a n : ℕ) (job : Job) (i : ℕ) (x : Signaling) → slice_get (job_signals (a, job)) i ≡ Some x → a ≡ n → (x.job == n) ≡ true
own_signal a n job i x e same =
    let o = owner a (job ∷ []) i x (ap (λ (xs : List Signaling). slice_get xs i) (append-nil (job_signals (a, job))) ∙ e) in
    let l = get_within (job ∷ []) o.place o.job o.is in
    let k = o.number in
    eq-eqb x.job n (omega arith)

other_signal : (a n : ℕ) (job : Job) (i : ℕ) (x : Signaling) → slice_get (job_signals (a, job)) i ≡ Some x → a < n → (x.job == n) ≡ false
other_signal a n job i x e less =
    let o = owner a (job ∷ []) i x (ap (λ (xs : List Signaling). slice_get xs i) (append-nil (job_signals (a, job))) ∙ e) in
    let l = get_within (job ∷ []) o.place o.job o.is in
    let k = o.number in
    ne_eqb x.job n (λ q. let c : x.job ≡ n = q in absurd (omega arith))

later_signal : (a n : ℕ) (jobs : List Job) (i : ℕ) (x : Signaling) → slice_get (signals_from a jobs) i ≡ Some x → n < a → (x.job == n) ≡ false
later_signal a n jobs i x e less =
    let o = owner a jobs i x e in
    let k = o.number in
    ne_eqb x.job n (λ q. let c : x.job ≡ n = q in absurd (omega arith))

ops_of : (a b n : ℕ) (jobs : List Job) (j : ℕ) (job : Job) → n ≡ a + j → slice_get jobs j ≡ Some job → ops_in (λ x. x.job == n) b (signals_from a jobs) ≡ range_with_len (b + signals_before a jobs j) (length (job_signals (a + j, job)))
ops_of a b n [] j job s e = absurd (cc)
ops_of a b n (x ∷ jobs) zero job s e =
    let same : x ≡ job = cc in
    let z : a + 0 ≡ a = omega arith in
    let f : Signaling → Bool = λ y. y.job == n in
    let start : b ≡ b + 0 = omega arith in
    ops_append f b (job_signals (a, x)) (signals_from (a + 1) jobs)
    ∙ ap (λ (es : List ℕ). ops_in f b (job_signals (a, x)) ++ es) (ops_none f (b + length (job_signals (a, x))) (signals_from (a + 1) jobs) (λ i y g. later_signal (a + 1) n jobs i y g (omega arith)))
    ∙ append-nil (ops_in f b (job_signals (a, x)))
    ∙ ops_all f b (job_signals (a, x)) (λ i y g. own_signal a n x i y g (omega arith))
    ∙ λ i. range_with_len (start i) (length (job_signals (sym z i, same i)))
ops_of a b n (x ∷ jobs) (suc j) job s e =
    let f : Signaling → Bool = λ y. y.job == n in
    let size = length-append (job_signals (a, x)) (signals_from (a + 1) (take j jobs)) in
    let start : (b + length (job_signals (a, x))) + signals_before (a + 1) jobs j ≡ b + signals_before a (x ∷ jobs) (suc j) = omega arith in
    let m : (a + 1) + j ≡ a + suc j = omega arith in
    ops_append f b (job_signals (a, x)) (signals_from (a + 1) jobs)
    ∙ ap (λ (es : List ℕ). es ++ ops_in f (b + length (job_signals (a, x))) (signals_from (a + 1) jobs)) (ops_none f b (job_signals (a, x)) (λ i y g. other_signal a n x i y g (omega arith)))
    ∙ ops_of (a + 1) (b + length (job_signals (a, x))) n jobs j job (omega arith) e
    ∙ λ i. range_with_len (start i) (length (job_signals (m i, job)))

pub job_ops_are : (s : Script) (j : ℕ) (job : Job) → slice_get s.jobs j ≡ Some job → job_ops s j ≡ range_with_len (signals_before 0 s.jobs j) (length (job_signals (j, job)))
job_ops_are s j job e =
    let z : 0 + j ≡ j = omega arith in
    let start : 0 + signals_before 0 s.jobs j ≡ signals_before 0 s.jobs j = omega arith in
    filter_is (λ x. x.job == j) (all_signals s) 0 (all_signals s) (λ i. ap (slice_get (all_signals s)) (let w : 0 + i ≡ i = omega arith in w))
    ∙ ops_of 0 0 j s.jobs j job (sym z) e
    ∙ λ i. range_with_len (start i) (length (job_signals (z i, job)))
