-- Which signal, which wait or which reset a use is.
use Rattle.std.proofs.Common.{◌≡◌, ℕ, List, Some, Bool, true, false, cond, [], ◌∷◌, ◌++◌, sym, ap, ◌⊎◌, inl, inr, refl, ◌∙◌, subst, Option}
use Rattle.std.specs.List.{slice_get, flat_map}
use Rattle.vq_model.specs.declared.script.Script.{Script}
use Rattle.vq_model.specs.declared.script.Mark.{Mark}
use Rattle.vq_model.specs.LoweringFaults.{Use, UseLine, use_of_mark, Waited, Signaled, Named, Reset, step_uses, uses_of, uses}
use Rattle.vq_model.specs.Signals.{is_counted_at}
use Rattle.vq_order_laws.proofs.UsesInOrder.{StandsIn, of_flat, of_append, in_flat, in_first, in_second}
use Rattle.std.specs.Option.{option_to_list}
use Rattle.vq_model.specs.declared.script.Batch.{Batch}
use Rattle.vq_model.specs.declared.script.Job.TheVariants.{Batch as BatchJob, Host}
use Rattle.vq_model.specs.declared.script.HostLine.{HostLine}
use Rattle.vq_model.specs.declared.script.HostStep.TheVariants.{FenceReset}
use Rattle.vq_model.specs.declared.script.HostStep.{HostStep}
use Rattle.vq_model.specs.declared.script.Job.{Job}
use Rattle.vq_model.specs.ValidScripts.{IsValidStep, HasValidSteps, is_fence_at}
use Rattle.std.proofs.lemmas.Bool.{cond-true}

-- What a use is

-- a mark of these is used
pub record IsMarkUse (s : Script) (kind : Use) (ms : List Mark) (x : UseLine) : Type 0 where
  pub place : ℕ
  pub mark : Mark
  pub is : slice_get ms place ≡ Some mark
  pub of_kind : x.kind ≡ kind
  pub of_line : x.line ≡ mark.line
  pub of_semaphore : x.semaphore ≡ mark.semaphore

mark_use : (s : Script) (kind : Use) (ms : List Mark) (x : UseLine) →
    StandsIn (flat_map (use_of_mark s kind) ms) x → IsMarkUse s kind ms x
mark_use s kind ms x i =
    let r = of_flat (use_of_mark s kind) ms x i in
    by_test (is_counted_at s r.1.semaphore) r.0 r.1 r.2 r.3
  where
    here : (m : Mark) → UseLine
    here m = record { line = m.line; semaphore = m.semaphore; kind = kind }

    by_front : (k : ℕ) (m : Mark) → slice_get ms k ≡ Some m → (front back : List UseLine) →
        record { line = m.line; semaphore = m.semaphore; kind = kind } ∷ [] ≡ front ++ x ∷ back →
        IsMarkUse s kind ms x
    by_front k m e [] back q =
        let same : record { line = m.line; semaphore = m.semaphore; kind = kind } ≡ x = cc in
        record {
          place = k;
          mark = m;
          is = e;
          of_kind = ap (λ (z : UseLine). z.kind) (sym same);
          of_line = ap (λ (z : UseLine). z.line) (sym same);
          of_semaphore = ap (λ (z : UseLine). z.semaphore) (sym same);
        }
    by_front k m e (y ∷ front) back q = absurd (none front rest)
      where
        rest : [] ≡ front ++ x ∷ back
        rest = cc

        none : (front : List UseLine) → [] ≡ front ++ x ∷ back → ⊥
        none [] q = cc
        none (z ∷ front) q = cc

    by_test : (b : Bool) (k : ℕ) (m : Mark) → slice_get ms k ≡ Some m →
        StandsIn (cond b (record {
          line = m.line;
          semaphore = m.semaphore;
          kind = kind;
        } ∷ []) []) x → IsMarkUse s kind ms x
    by_test true k m e i = by_front k m e i.front i.back i.whole
    by_test false k m e i = absurd (none i.front i.whole)
      where
        none : (front : List UseLine) → [] ≡ front ++ x ∷ i.back → ⊥
        none [] q = cc
        none (z ∷ front) q = cc

-- A use of a batch: a wait, a signal, or its fence.
pub record IsUse (s : Script) (x : UseLine) : Type 0 where
  pub job : ℕ
  pub batch : Batch
  pub at : slice_get s.jobs job ≡ Some (BatchJob batch)
  pub among : IsMarkUse s Waited batch.waits x
      ⊎ (IsMarkUse s Signaled batch.signals x ⊎ IsMarkUse s Named (option_to_list batch.fence) x)

-- a host step resets a fence
pub record IsReset (s : Script) (x : UseLine) : Type 0 where
  pub job : ℕ
  pub host : HostLine
  pub at : slice_get s.jobs job ≡ Some (Host host)
  pub step : host.step ≡ FenceReset x.semaphore
  pub of_line : x.line ≡ host.line
  pub of_kind : x.kind ≡ Reset

-- A use is one of a batch, or a reset by the host.
pub use_is : (s : Script) (x : UseLine) → StandsIn (uses s) x → IsUse s x ⊎ IsReset s x
use_is s x i = let r = of_flat (uses_of s) s.jobs x i in by_job r.0 r.1 r.2 r.3
  where
    nothing_stands : (front back : List UseLine) → [] ≡ front ++ x ∷ back → ⊥
    nothing_stands [] back q = cc
    nothing_stands (z ∷ front) back q = cc

    by_step : (j : ℕ) (h : HostLine) → slice_get s.jobs j ≡ Some (Host h) → (t : HostStep) →
        h.step ≡ t → StandsIn (step_uses h.line t) x → IsUse s x ⊎ IsReset s x
    by_step j h e (FenceReset f) q i = by_front i.front i.whole
      where
        by_front : (front : List UseLine) →
            record { line = h.line; semaphore = f; kind = Reset } ∷ [] ≡ front ++ x ∷ i.back →
            IsUse s x ⊎ IsReset s x
        by_front [] g =
            let same : record { line = h.line; semaphore = f; kind = Reset } ≡ x = cc in
            inr (record {
              job = j;
              host = h;
              at = e;
              step = q ∙ ap (λ (z : UseLine). FenceReset z.semaphore) same;
              of_line = ap (λ (z : UseLine). z.line) (sym same);
              of_kind = ap (λ (z : UseLine). z.kind) (sym same);
            })
        by_front (z ∷ front) g =
            let rest : [] ≡ front ++ x ∷ i.back = cc in absurd (nothing_stands front i.back rest)
    by_step j h e other q i = absurd (nothing_stands i.front i.back i.whole)

    by_job : (j : ℕ) (job : Job) → slice_get s.jobs j ≡ Some job → StandsIn (uses_of s job) x →
        IsUse s x ⊎ IsReset s x
    by_job j (Host h) e i = by_step j h e h.step refl i
    by_job j (BatchJob b) e i =
        inl (record {
          job = j;
          batch = b;
          at = e;
          among = by_part
              (of_append
              (flat_map (use_of_mark s Waited) b.waits ++ flat_map (use_of_mark s Signaled) b.signals)
              (flat_map (use_of_mark s Named) (option_to_list b.fence)) x i);
        })
      where
        by_part : StandsIn (flat_map (use_of_mark s Waited) b.waits
            ++ flat_map (use_of_mark s Signaled) b.signals) x
            ⊎ StandsIn (flat_map (use_of_mark s Named) (option_to_list b.fence)) x →
            IsMarkUse s Waited b.waits x
            ⊎ (IsMarkUse s Signaled b.signals x ⊎ IsMarkUse s Named (option_to_list b.fence) x)
        by_part (inl i) = elim
            (of_append (flat_map (use_of_mark s Waited) b.waits)
            (flat_map (use_of_mark s Signaled) b.signals) x i) [
              | inl k ↦ inl (mark_use s Waited b.waits x k)
              | inr k ↦ inr (inl (mark_use s Signaled b.signals x k))
            ]
        by_part (inr i) = inr (inr (mark_use s Named (option_to_list b.fence) x i))

-- what is reset is a fence
pub reset_fence : (s : Script) → HasValidSteps s → (x : UseLine) → IsReset s x →
    is_fence_at s x.semaphore ≡ true
reset_fence s v x k = subst (IsValidStep s) k.step (v k.job k.host k.at)

-- a mark of a counted semaphore is a use
mark_stands : (s : Script) (kind : Use) (ms : List Mark) (k : ℕ) (m : Mark) →
    slice_get ms k ≡ Some m → is_counted_at s m.semaphore ≡ true →
    StandsIn (flat_map (use_of_mark s kind) ms)
    (record { line = m.line; semaphore = m.semaphore; kind = kind })
mark_stands s kind ms k m e c =
    in_flat (use_of_mark s kind) ms k m (record {
      line = m.line;
      semaphore = m.semaphore;
      kind = kind;
    }) e
    (record {
      front = [];
      back = [];
      whole =
          cond-true (is_counted_at s m.semaphore)
          (record { line = m.line; semaphore = m.semaphore; kind = kind } ∷ []) [] c;
    })

-- A signal of a batch of a counted semaphore is a use.
pub signal_is_use : (s : Script) (j : ℕ) (b : Batch) (k : ℕ) (m : Mark) →
    slice_get s.jobs j ≡ Some (BatchJob b) → slice_get b.signals k ≡ Some m →
    is_counted_at s m.semaphore ≡ true →
    StandsIn (uses s) (record { line = m.line; semaphore = m.semaphore; kind = Signaled })
signal_is_use s j b k m e f c =
    in_flat (uses_of s) s.jobs j (BatchJob b) (record {
      line = m.line;
      semaphore = m.semaphore;
      kind = Signaled;
    }) e
    (in_first (flat_map (use_of_mark s Waited) b.waits
    ++ flat_map (use_of_mark s Signaled) b.signals)
    (flat_map (use_of_mark s Named) (option_to_list b.fence)) (record {
      line = m.line;
      semaphore = m.semaphore;
      kind = Signaled;
    })
    (in_second (flat_map (use_of_mark s Waited) b.waits)
    (flat_map (use_of_mark s Signaled) b.signals) (record {
      line = m.line;
      semaphore = m.semaphore;
      kind = Signaled;
    }) (mark_stands s Signaled b.signals k m f c)))

-- So is the fence that it names.
pub fence_is_use : (s : Script) (j : ℕ) (b : Batch) (m : Mark) →
    slice_get s.jobs j ≡ Some (BatchJob b) → b.fence ≡ Some m →
    is_counted_at s m.semaphore ≡ true →
    StandsIn (uses s) (record { line = m.line; semaphore = m.semaphore; kind = Named })
fence_is_use s j b m e f c =
    in_flat (uses_of s) s.jobs j (BatchJob b) (record {
      line = m.line;
      semaphore = m.semaphore;
      kind = Named;
    }) e
    (in_second (flat_map (use_of_mark s Waited) b.waits
    ++ flat_map (use_of_mark s Signaled) b.signals)
    (flat_map (use_of_mark s Named) (option_to_list b.fence)) (record {
      line = m.line;
      semaphore = m.semaphore;
      kind = Named;
    })
    (mark_stands s Named (option_to_list b.fence) 0 m
    (ap (λ (o : Option Mark). slice_get (option_to_list o) 0) f) c))
