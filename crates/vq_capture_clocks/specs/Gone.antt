-- Queues and threads that are gone. Of the lanes of a number the first fourteen are a queue's, and the last a thread's.
use Rattle.std.specs.Prelude.{ℕ, Bool, false, List, ◌/◌, ◌%◌, nat_lt, if◌then◌else◌}
use Rattle.std.specs.List.{slice_index_or}
use Rattle.vq_capture_clocks.specs.declared.gone.GoneLanes.{GoneLanes}

abbrev pub none_gone : GoneLanes
none_gone = record { queue = false; thread = false }

-- what of a number is gone
abbrev pub gone_at : List GoneLanes → ℕ → GoneLanes
gone_at gone number = slice_index_or gone number none_gone

abbrev pub gone_place : GoneLanes → ℕ → Bool
gone_place x place = if nat_lt place 14 then x.queue else x.thread

-- whether a lane is one of a queue or a thread that is gone
abbrev pub is_gone : List GoneLanes → ℕ → Bool
is_gone gone lane = gone_place (gone_at gone (lane / 15)) (lane % 15)
