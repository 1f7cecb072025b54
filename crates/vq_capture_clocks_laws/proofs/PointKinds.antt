-- Points by what their lines say.
use Rattle.std.proofs.Common.{◌≡◌, ◌⊎◌, true, false, ℕ, List, [], filter, refl, sym, ◌∙◌, ap, inl, inr, Option, Some, None}
use Rattle.vq_ground.proofs.Bools.{never}
use Rattle.vq_capture.specs.declared.stage.Scope.{Scope}
use Rattle.vq_capture.specs.declared.stage.Stage.{Stage}
use Rattle.vq_capture.specs.declared.statement.Access.{Access}
use Rattle.vq_capture.specs.declared.statement.Statement.{Statement}
use Rattle.vq_capture.specs.declared.statement.Statement.TheVariants.{CommandAccess, HostAccess, Transition, Cut}
use Rattle.vq_capture.specs.declared.capture.Step.{Step}
use Rattle.vq_capture.specs.Masks.{has_stage, at_stage}
use Rattle.vq_capture.specs.Releases.{releases}
use Rattle.vq_capture.specs.Points.{Point, points_at, points_of_step, stages_with_word, takes, gives, IsMember}
use Rattle.vq_capture.specs.Before.{is_semaphore_operation, follows_them, is_after, was_handed, is_cut}
use Rattle.vq_capture.specs.Races.{access_of}
use Rattle.vq_capture_laws.proofs.Cited.{from_map}
use Rattle.vq_capture_check.specs.Watching.{is_command_access, is_releasing, whole}

-- a point is an access of a command at a stage, or a whole step
pub kinds_at : (step : Step) (said : Statement) (p : Point) → IsMember p (points_at step said) → ((p.stage ≡ None) × (is_command_access said ≡ false)) ⊎ ((s : Stage) × (p.stage ≡ Some s) × (is_command_access said ≡ true))
kinds_at step (CommandAccess access scope) p m =
    let r = from_map (λ s. record { step = step; stage = Some s }) p (filter (has_stage scope.stages) stages_with_word) m in
    inr (r.0, ap (λ (q : Point). q.stage) r.2, refl)
kinds_at step other p (inl e) = inl (ap (λ (q : Point). q.stage) e, refl)
kinds_at step other p (inr m) = absurd m

abbrev pub IsPoint : Point → Type 0
IsPoint p = IsMember p (points_of_step p.step)

pub kinds : (p : Point) → IsPoint p → ((p.stage ≡ None) × (is_command_access p.step.statement ≡ false)) ⊎ ((s : Stage) × (p.stage ≡ Some s) × (is_command_access p.step.statement ≡ true))
kinds p m = kinds_at p.step p.step.statement p m

pub whole_in : (step : Step) (said : Statement) → is_command_access said ≡ false → IsMember (whole step) (points_at step said)
whole_in step (CommandAccess access scope) e = never (sym e)
whole_in step other e = inl refl

pub is_whole : (p : Point) → p.stage ≡ None → p ≡ whole p.step
is_whole p e = λ i. record { step = p.step; stage = e i }

pub the_access : (said : Statement) → is_command_access said ≡ true → (a : Access) × (s : Scope) × (said ≡ CommandAccess a s)
the_access (CommandAccess a s) e = (a, s, refl)
the_access other e = never e

pub none_some : (t : Stage) → None ≡ Some t → ⊥
none_some t e = cc

pub is_access : (p : Point) (t : Stage) → IsPoint p → p.stage ≡ Some t → is_command_access p.step.statement ≡ true
is_access p t m e = elim (kinds p m) [ inl k ↦ absurd (none_some t (sym k.0 ∙ e)) | inr k ↦ k.2 ]

pub no_stage_of : (p : Point) → IsPoint p → is_command_access p.step.statement ≡ false → p.stage ≡ None
no_stage_of p m c = elim (kinds p m) [ inl k ↦ k.0 | inr k ↦ never (sym c ∙ k.2) ]

pub whole_access : (p : Point) → p.stage ≡ None → IsPoint p → is_command_access p.step.statement ≡ false
whole_access p e m = elim (kinds p m) [ inl k ↦ k.1 | inr k ↦ absurd (none_some k.0 (sym e ∙ k.1)) ]

pub cut_no_access : (said : Statement) → is_cut said ≡ true → is_command_access said ≡ false
cut_no_access Cut e = refl
cut_no_access other e = never e

-- accesses signal nothing, and aren't cuts
pub record IsPlain (p : Point) : Type 0 where
  pub releases_none : is_releasing p.step.statement ≡ false
  pub no_cut : is_cut p.step.statement ≡ false

-- Accesses of commands

module _ (p : Point) (s : Stage) (e : p.stage ≡ Some s) (c : is_command_access p.step.statement ≡ true) where
  same : (a : Access) (scope : Scope) → p.step.statement ≡ CommandAccess a scope → p ≡ record { step = record p.step { statement = CommandAccess a scope }; stage = Some s }
  same a scope f = λ i. record { step = record p.step { statement = f i }; stage = e i }

  pub takes_stage : takes p ≡ at_stage s
  takes_stage = let r = the_access p.step.statement c in ap (λ (q : Point). takes q) (same r.0 r.1 r.2)

  pub gives_stage : gives p ≡ at_stage s
  gives_stage = let r = the_access p.step.statement c in ap (λ (q : Point). gives q) (same r.0 r.1 r.2)

  pub follows_none : follows_them p.step.statement ≡ false
  follows_none = let r = the_access p.step.statement c in ap (λ (x : Statement). follows_them x) r.2

  pub no_operation : is_semaphore_operation p.step.statement ≡ false
  no_operation = let r = the_access p.step.statement c in ap (λ (x : Statement). is_semaphore_operation x) r.2

  pub not_after : (o : Option ℕ) → is_after p.step.statement o ≡ false
  not_after o = let r = the_access p.step.statement c in ap (λ (x : Statement). is_after x o) r.2

  pub not_handed : (n : ℕ) → was_handed p.step.statement n ≡ false
  not_handed n = let r = the_access p.step.statement c in ap (λ (x : Statement). was_handed x n) r.2

  pub none_release : (above : List Step) (queue : Option ℕ) → releases above queue p.step.statement ≡ []
  none_release above queue =
      let r = the_access p.step.statement c in ap (λ (x : Statement). releases above queue x) r.2

  pub access_cuts_none : is_cut p.step.statement ≡ false
  access_cuts_none = let r = the_access p.step.statement c in ap (λ (x : Statement). is_cut x) r.2

pub access_is_plain : (p : Point) (a : Access) → access_of p.step.statement ≡ Some a → IsPlain p
access_is_plain p a = by p.step.statement refl
  where
    no_access : None ≡ Some a → ⊥
    no_access e = cc

    by : (said : Statement) → p.step.statement ≡ said → access_of said ≡ Some a → IsPlain p
    by (CommandAccess b scope) e f = record {
      releases_none = ap (λ (x : Statement). is_releasing x) e;
      no_cut = ap (λ (x : Statement). is_cut x) e;
    }
    by (HostAccess b) e f = record {
      releases_none = ap (λ (x : Statement). is_releasing x) e;
      no_cut = ap (λ (x : Statement). is_cut x) e;
    }
    by (Transition first second b) e f = record {
      releases_none = ap (λ (x : Statement). is_releasing x) e;
      no_cut = ap (λ (x : Statement). is_cut x) e;
    }
    by other e f = absurd (no_access f)
