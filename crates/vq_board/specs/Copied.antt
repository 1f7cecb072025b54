-- What a board copies out of its plan. This project's own.
use Rattle.std.specs.Prelude.{ℕ, List, ◌≡◌, Option, Some, None, IfSome}
use Rattle.std.specs.List.{slice_get}
use native.Mathlib.Bridge.{le_prop}
use Rattle.std.proofs.Math.Bool.{Bool-set}
use Rattle.vq_model.specs.declared.script.Command.{Command}
use Rattle.vq_model.specs.declared.script.CommandLine.{CommandLine}
use Rattle.vq_model.specs.declared.plan.Op.{Op}
use Rattle.vq_model.specs.FittingCommands.{Fits, IsWithin}
use Rattle.vq_model.specs.Ranges.{read_range}

abbrev pub command_of : CommandLine → Command
command_of x = x.command

pub record Copied : Type 0 where
  pub commands : List Command
  pub ops : List Op

-- each command fits buffers of these sizes
abbrev pub AllFit : List ℕ → List Command → Type 0
AllFit sizes commands = (c : ℕ) (x : Command) → slice_get commands c ≡ Some x → Fits sizes x

-- any two proofs of it are equal
if_some_prop : {A : Type 0} (P : A → Type 0) → ((x : A) → IsProp (P x)) → (o : Option A) →
    IsProp (IfSome o P)
if_some_prop P each None = Prim.hlevel
if_some_prop P each (Some x) = each x

fits_prop : (sizes : List ℕ) (c : Command) → IsProp (Fits sizes c)
fits_prop sizes c =
    let read : IsProp (IfSome (read_range c) (IsWithin sizes)) =
    if_some_prop (IsWithin sizes) (λ r. Prim.hlevel le_prop) (read_range c) in
    Prim.hlevel (read, le_prop, Bool-set)

pub AllFit-prop : (sizes : List ℕ) (commands : List Command) → IsProp (AllFit sizes commands)
AllFit-prop sizes commands = Prim.hlevel fits_prop
