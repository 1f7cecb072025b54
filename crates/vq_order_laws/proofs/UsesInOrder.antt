-- The uses of binary semaphores and fences stand in the order of the lines.
use Rattle.std.proofs.Common.{◌≡◌, List, ◌∷◌, ◌++◌, ap, ◌∙◌, sym, ℕ, zero, suc, [], Some, None, subst, ◌⊎◌, inl, inr, refl, true, map, Bool, false, cond}
use Rattle.std.proofs.lemmas.List.{append_assoc, map-append}
use Rattle.std.specs.List.{slice_get, flat_map}
use Rattle.vq_ground.specs.Lists.{has, AreRising}
use Rattle.vq_ground.proofs.Lists.{has_here, has-append_right}
use Rattle.vq_ground.proofs.Rising.{IsPart, part_join, part_none, part_same, part_left, part_right}
use Rattle.vq_model.specs.declared.script.Script.{Script}
use Rattle.vq_model.specs.declared.script.Mark.{Mark}
use Rattle.vq_model.specs.Signals.{is_counted_at}
use Rattle.vq_model.specs.LoweringFaults.{Use, UseLine, use_of_mark, Waited, Signaled, Named, step_uses, uses_of, uses}
use Rattle.std.specs.Option.{option_to_list}
use Rattle.vq_model.specs.declared.script.HostStep.{HostStep}
use Rattle.vq_model.specs.declared.script.HostStep.TheVariants.{FenceReset}
use Rattle.vq_model.specs.declared.script.Job.{Job}
use Rattle.vq_model.specs.declared.script.Job.TheVariants.{Host, Batch as BatchJob}
use Rattle.vq_model.specs.ValidScripts.{job_lines, HasRisingLines}

-- An item stands in a list.
pub record StandsIn {X : Type 0} (xs : List X) (x : X) : Type 0 where
  pub front : List X
  pub back : List X
  pub whole : xs ≡ front ++ x ∷ back

pub in_first : {X : Type 0} (xs ys : List X) (x : X) → StandsIn xs x → StandsIn (xs ++ ys) x
in_first xs ys x s =
    record {
      front = s.front;
      back = s.back ++ ys;
      whole = ap (λ zs. zs ++ ys) s.whole ∙ append_assoc s.front (x ∷ s.back) ys;
    }

pub in_second : {X : Type 0} (xs ys : List X) (x : X) → StandsIn ys x → StandsIn (xs ++ ys) x
in_second xs ys x s =
    record {
      front = xs ++ s.front;
      back = s.back;
      whole = ap (λ zs. xs ++ zs) s.whole ∙ sym (append_assoc xs s.front (x ∷ s.back));
    }

pub in_flat : {X Y : Type 0} (f : X → List Y) (xs : List X) (k : ℕ) (x : X) (y : Y) →
    slice_get xs k ≡ Some x → StandsIn (f x) y → StandsIn (flat_map f xs) y
in_flat f [] k x y e s = absurd (let c : None ≡ Some x = e in cc)
in_flat {X} {Y} f (z ∷ xs) zero x y e s =
    let same : z ≡ x = cc in
    in_first (f z) (flat_map f xs) y (subst (λ (w : X). StandsIn (f w) y) (sym same) s)
in_flat f (z ∷ xs) (suc k) x y e s = in_second (f z) (flat_map f xs) y (in_flat f xs k x y e s)

-- what stands in one list after another
pub of_append : {X : Type 0} (xs ys : List X) (x : X) → StandsIn (xs ++ ys) x →
    StandsIn xs x ⊎ StandsIn ys x
of_append [] ys x s = inr s
of_append {X} (z ∷ xs) ys x s = by_front s.front s.whole (of_append xs ys x)
  where
    by_front : (front : List X) → z ∷ xs ++ ys ≡ front ++ x ∷ s.back →
        (StandsIn (xs ++ ys) x → StandsIn xs x ⊎ StandsIn ys x) → StandsIn (z ∷ xs) x ⊎ StandsIn ys x
    by_front [] e later =
        let same : z ≡ x = cc in
        inl (record { front = []; back = xs; whole = ap (λ (w : X). w ∷ xs) same })
    by_front (w ∷ front) e later =
        let rest : xs ++ ys ≡ front ++ x ∷ s.back = cc in
        deeper (later (record { front = front; back = s.back; whole = rest }))
      where
        deeper : StandsIn xs x ⊎ StandsIn ys x → StandsIn (z ∷ xs) x ⊎ StandsIn ys x
        deeper (inl i) =
            inl (record { front = z ∷ i.front; back = i.back; whole = ap (λ zs. z ∷ zs) i.whole })
        deeper (inr i) = inr i

pub of_flat : {X Y : Type 0} (f : X → List Y) (xs : List X) (y : Y) → StandsIn (flat_map f xs) y →
    (k : ℕ) × (x : X) × (slice_get xs k ≡ Some x) × StandsIn (f x) y
of_flat f [] y s = absurd (none s.front s.whole)
  where
    none : (front : List _) → [] ≡ front ++ y ∷ s.back → ⊥
    none [] e = cc
    none (w ∷ front) e = cc
of_flat {X} {Y} f (x ∷ xs) y s = by_part (of_append (f x) (flat_map f xs) y s) (of_flat f xs y)
  where
    by_part : StandsIn (f x) y ⊎ StandsIn (flat_map f xs) y →
        (StandsIn (flat_map f xs) y →
        (k : ℕ) × (z : X) × (slice_get xs k ≡ Some z) × StandsIn (f z) y) →
        (k : ℕ) × (z : X) × (slice_get (x ∷ xs) k ≡ Some z) × StandsIn (f z) y
    by_part (inl i) later = (0, x, refl, i)
    by_part (inr i) later = let r = later i in (suc r.0, r.1, r.2, r.3)

-- the number of an item that stands in a list
pub number_stands : {X : Type 0} (f : X → ℕ) (xs : List X) (x : X) → StandsIn xs x →
    has (map f xs) (f x) ≡ true
number_stands f xs x s =
    subst (λ zs. has (map f zs) (f x) ≡ true) (sym s.whole)
    (subst (λ (ns : List ℕ). has ns (f x) ≡ true) (sym (map-append f s.front (x ∷ s.back)))
    (has-append_right (map f s.front) (map f (x ∷ s.back)) (f x) (has_here (f x) (map f s.back))))

-- Lines

mark_part : (s : Script) (kind : Use) (ms : List Mark) →
    IsPart (map (λ x. x.line) (flat_map (use_of_mark s kind) ms)) (map (λ m. m.line) ms)
mark_part s kind [] = part_same []
mark_part s kind (m ∷ ms) =
    subst (λ (zs : List ℕ). IsPart zs (m.line ∷ map (λ x. x.line) ms))
    (sym (map-append (λ x. x.line) (use_of_mark s kind m) (flat_map (use_of_mark s kind) ms)))
    (part_join (map (λ x. x.line) (use_of_mark s kind m))
    (map (λ x. x.line) (flat_map (use_of_mark s kind) ms)) (m.line ∷ [])
    (map (λ x. x.line) ms) (one (is_counted_at s m.semaphore)) (mark_part s kind ms))
  where
    one : (b : Bool) →
        IsPart (map (λ (x : UseLine). x.line) (cond b (record {
          line = m.line;
          semaphore = m.semaphore;
          kind = kind;
        } ∷ []) [])) (m.line ∷ [])
    one true = part_same (m.line ∷ [])
    one false = part_none (m.line ∷ [])

job_part : (s : Script) (job : Job) → IsPart (map (λ x. x.line) (uses_of s job)) (job_lines job)
job_part s (Host h) = by_step h.step
  where
    by_step : (t : HostStep) → IsPart (map (λ x. x.line) (step_uses h.line t)) (h.line ∷ [])
    by_step (FenceReset f) = part_same (h.line ∷ [])
    by_step other = part_none (h.line ∷ [])
job_part s (BatchJob b) =
    subst (λ (zs : List ℕ). IsPart zs (job_lines (BatchJob b))) (sym lines)
    (part_right (w ++ g ++ f) (b.line ∷ []) (waits ++ commands ++ signals ++ fence)
    (part_join (w ++ g) f (waits ++ commands ++ signals) fence
    (part_join w g (waits ++ commands) signals
    (part_left w waits commands (mark_part s Waited b.waits)) (mark_part s Signaled b.signals))
    (mark_part s Named (option_to_list b.fence))))
  where
    waits : List ℕ
    waits = map (λ m. m.line) b.waits

    commands : List ℕ
    commands = map (λ c. c.line) b.commands

    signals : List ℕ
    signals = map (λ m. m.line) b.signals

    fence : List ℕ
    fence = map (λ m. m.line) (option_to_list b.fence)

    w : List ℕ
    w = map (λ x. x.line) (flat_map (use_of_mark s Waited) b.waits)

    g : List ℕ
    g = map (λ x. x.line) (flat_map (use_of_mark s Signaled) b.signals)

    f : List ℕ
    f = map (λ x. x.line) (flat_map (use_of_mark s Named) (option_to_list b.fence))

    lines : map (λ x. x.line) (uses_of s (BatchJob b)) ≡ w ++ g ++ f
    lines =
        map-append (λ x. x.line)
        (flat_map (use_of_mark s Waited) b.waits ++ flat_map (use_of_mark s Signaled) b.signals)
        (flat_map (use_of_mark s Named) (option_to_list b.fence))
        ∙ ap (λ (zs : List ℕ). zs ++ f)
        (map-append (λ x. x.line) (flat_map (use_of_mark s Waited) b.waits)
        (flat_map (use_of_mark s Signaled) b.signals))

uses_part : (s : Script) (jobs : List Job) →
    IsPart (map (λ x. x.line) (flat_map (uses_of s) jobs)) (flat_map job_lines jobs)
uses_part s [] = part_same []
uses_part s (job ∷ jobs) =
    subst (λ (zs : List ℕ). IsPart zs (job_lines job ++ flat_map job_lines jobs))
    (sym (map-append (λ x. x.line) (uses_of s job) (flat_map (uses_of s) jobs)))
    (part_join (map (λ x. x.line) (uses_of s job))
    (map (λ x. x.line) (flat_map (uses_of s) jobs)) (job_lines job)
    (flat_map job_lines jobs) (job_part s job) (uses_part s jobs))

-- The lines of uses rise.
pub uses_rise : (s : Script) → HasRisingLines s → AreRising (map (λ x. x.line) (uses s))
uses_rise s r = (uses_part s s.jobs).rise r
