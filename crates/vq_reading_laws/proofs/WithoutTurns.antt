-- What a script keeps doesn't depend on the turns of its schedule.
use Rattle.std.proofs.Common.{◌≡◌, ◌≤◌, ◌⊎◌, List, [], length, inl, inr, sym, ◌∙◌, subst, arith}
use Rattle.std.specs.Prelude.{All}
use Rattle.std.proofs.lemmas.List.Elements.{All-nil}
use Rattle.vq_model.specs.declared.script.Script.{Script}
use Rattle.vq_model.specs.declared.script.Turn.{Turn}
use Rattle.vq_model.specs.declared.script.Mark.{Mark}
use Rattle.vq_model.specs.declared.script.HostStep.{HostStep}
use Rattle.vq_model.specs.declared.script.HostStep.TheVariants.{Signal, WaitAll, WaitAny, PollAll, PollAny, Read, FenceWait, FencePoll, FenceReset, Idle}
use Rattle.vq_model.specs.ValidScripts.{IsValid, IsValidMark, IsValidFence, HoldsBack, IsValidStep, IsActor, HasValidBatches, HasValidSteps, HasValidTurns}
use Rattle.vq_model.specs.Limits.{limits_of}
use Rattle.vq_model.specs.declared.script.ActorName.{ActorName}
use Rattle.vq_model.specs.declared.script.ActorName.TheVariants.{Host as HostActor, Submit as SubmitActor, Ring as RingActor}

module _ (s : Script) (turns : List Turn) where
  abbrev with_turns : Script
  with_turns = record s { turns = turns }

  mark : (m : Mark) → IsValidMark with_turns m → IsValidMark s m
  mark m v = record { exists = v.exists; kind = v.kind; valueless = v.valueless }

  held : (m : Mark) → HoldsBack with_turns m → HoldsBack s m
  held m h = record { counted = h.counted; whole = h.whole }

  fence : (m : Mark) → IsValidFence with_turns m → IsValidFence s m
  fence m v = record { exists = v.exists; kind = v.kind; valueless = v.valueless }

  pub batches_without : HasValidBatches with_turns → HasValidBatches s
  batches_without v j b e =
      let x = v j b e in
      record {
        queue = x.queue;
        waits = λ i d l. mark _ (x.waits i d l);
        held = λ i d l. held _ (x.held i d l);
        signals = λ i d l. mark _ (x.signals i d l);
        fence = λ m f. fence m (x.fence m f);
        few_waits = x.few_waits;
        few_signals = x.few_signals;
      }

  step : (t : HostStep) → IsValidStep with_turns t → IsValidStep s t
  step (Signal pair) v = v
  step (WaitAll pairs) v = v
  step (WaitAny pairs) v = v
  step (PollAll pairs) v = v
  step (PollAny pairs) v = v
  step (Read t) v = v
  step (FenceWait f) v = v
  step (FencePoll f) v = v
  step (FenceReset f) v = v
  step Idle v = tt

  pub steps_without : HasValidSteps with_turns → HasValidSteps s
  steps_without v j h e = step h.step (v j h e)

  pub valid_without : IsValid with_turns → IsValid s
  valid_without v =
      record {
        version = v.version;
        signals = v.signals;
        commands = v.commands;
        limits = record {
          buffers = v.limits.buffers;
          bytes = v.limits.bytes;
          semaphores = v.limits.semaphores;
          queues = v.limits.queues;
          jobs = v.limits.jobs;
          commands = v.limits.commands;
        };
      }

  -- Its turns are valid where they are moved out too.
  actor : (x : ActorName) → IsActor with_turns x → IsActor s x
  actor HostActor h = tt
  actor (SubmitActor q) h = h
  actor (RingActor q) h = h

  pub turns_without : (s.turns ≡ turns) ⊎ (s.turns ≡ []) → HasValidTurns with_turns → HasValidTurns s
  turns_without kept v = elim kept [
    | inl same ↦ record {
      actors = subst (λ (ts : List Turn). All (λ t. IsActor s t.actor) ts) (sym same)
          (λ i d l. actor _ (v.actors i d l));
      few = subst (λ (ts : List Turn). length ts ≤ (limits_of s.version).turns) (sym same) v.few;
      none = λ h. same ∙ v.none h;
    }
    | inr moved ↦ record {
      actors = subst (λ (ts : List Turn). All (λ t. IsActor s t.actor) ts) (sym moved)
          (All-nil (λ (t : Turn). IsActor s t.actor));
      few = subst (λ (ts : List Turn). length ts ≤ (limits_of s.version).turns) (sym moved)
          (omega arith);
      none = λ h. moved;
    }
  ]
