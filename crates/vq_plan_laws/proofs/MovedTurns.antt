-- No part of a plan but its script depends on the turns of a schedule.
use Rattle.std.proofs.Common.{◌≡◌, ℕ, List, [], refl, inl, inr}
use Rattle.vq_model.specs.declared.script.Script.{Script}
use Rattle.vq_model.specs.declared.script.Turn.{Turn}
use Rattle.vq_model.specs.declared.statement.Form.{Form}
use Rattle.vq_model.specs.Lowering.{plan_of}
use Rattle.vq_model.specs.LoweringFaults.{lowering_fault}
use Rattle.vq_model.specs.Reading.{StandsFor}
use Rattle.vq_model.specs.SameScript.{IsRead}

-- a script that a text stands for was read, with its turns or without
pub kept_read : (text : List ℕ) (form : Form) (s : Script) → StandsFor text form s → IsRead s
kept_read text form s h =
    record { text = text; form = form; turns = s.turns; stands = h; kept_or_moved = inl refl }

pub moved_read : (text : List ℕ) (form : Form) (s : Script) → StandsFor text form s →
    IsRead (record s { turns = [] })
moved_read text form s h =
    record { text = text; form = form; turns = s.turns; stands = h; kept_or_moved = inr refl }

pub same_fault : (s : Script) (turns : List Turn) →
    lowering_fault (record s { turns = turns }) ≡ lowering_fault s
same_fault s turns = refl

pub same_plan : (s : Script) (turns : List Turn) → plan_of (record s { turns = turns })
    ≡ record (plan_of s) { script = record s { turns = turns } }
same_plan s turns = refl
