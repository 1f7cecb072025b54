-- What the check of a text ends with: that its script is lawful, or its first fault. This project's own.
use Rattle.std.specs.Prelude.{ℕ, ◌≡◌, ◌<◌, ◌≤◌, List, length, None}
use Rattle.vq_model.specs.declared.script.Script.{Script}
use Rattle.vq_model.specs.declared.statement.Form.TheVariants.{Plain}
use Rattle.vq_model.specs.Reading.{StandsFor, IsFirstFault}
use Rattle.vq_model.specs.Lowering.{plan_of}
use Rattle.vq_model.specs.Plan.{Plan}
use Rattle.vq_model.specs.LoweringFaults.{lowering_fault, IsFirstLoweringFault}
use Rattle.vq_model.specs.Checks.{IsLawful, IsFirstPlanFault}
use Rattle.vq_messages.specs.Refused.{input_limit}
use Rattle.vq_model.specs.declared.plan.PlanFault.{PlanFault}
use Rattle.vq_model.specs.declared.plan.PlanFault.TheVariants.{Memory as NoMemoryToLower}
use Rattle.vq_model.specs.declared.plan.OrderFault.{OrderFault}
use Rattle.vq_model.specs.declared.plan.OrderFault.TheVariants.{Memory as NoMemoryToCheck}
use Rattle.vq_face.specs.declared.ending.Ending.{Ending}
use Rattle.vq_face.specs.declared.ending.Ending.TheVariants.{Lawful, NoMemory, TooLong, FaultyLine, NoPlan, Unlawful}

-- a text within the limit stands for the script
abbrev pub IsReadFrom : List ℕ → Script → Type 0
IsReadFrom text s = (length text ≤ input_limit) × StandsFor text Plain s

-- Want of memory may come at any time.
abbrev pub IsEnding : List ℕ → Ending → Type 0
IsEnding text Lawful =
    (s : Script) × IsReadFrom text s × (lowering_fault s ≡ None) × IsLawful (plan_of s)
IsEnding text NoMemory = Unit {0}
IsEnding text TooLong = input_limit < length text
IsEnding text (FaultyLine line kind) =
    (length text ≤ input_limit) × IsFirstFault text Plain line kind
IsEnding text (NoPlan fault) = (s : Script) × IsReadFrom text s × IsFirstLoweringFault s fault
IsEnding text (Unlawful fault) =
    (s : Script) × IsReadFrom text s × (lowering_fault s ≡ None)
    × IsFirstPlanFault (plan_of s) fault

-- the text is refused, or memory was
abbrev pub IsRefusal : List ℕ → Ending → Type 0
IsRefusal text e = IsEnding text e × (e ≡ Lawful → ⊥)

-- the plan is that of a script that the text stands for, and lawful
abbrev pub IsLawfulPlanOf : List ℕ → Plan → Type 0
IsLawfulPlanOf text p =
    (s : Script) × IsReadFrom text s × (lowering_fault s ≡ None) × (p ≡ plan_of s) × IsLawful (plan_of s)

-- what a fault ends with, among which is want of memory

abbrev pub ending_of_plan : PlanFault → Ending
ending_of_plan NoMemoryToLower = NoMemory
ending_of_plan fault = NoPlan fault

abbrev pub ending_of_order : OrderFault → Ending
ending_of_order NoMemoryToCheck = NoMemory
ending_of_order fault = Unlawful fault
