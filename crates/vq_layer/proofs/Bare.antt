-- Nothing is reserved after a call, if nothing was before, and there are as many timelines.
use Rattle.std.proofs.Common.{◌≡◌, ℕ, ◌-◌, Bool, true, false, List, [], ◌∷◌, length, set, Option, None, Some, refl, ◌∙◌, ap}
use Rattle.std.specs.Prelude.{nat_eq}
use Rattle.std.proofs.lemmas.List.{length-set}
use Rattle.vq_live.specs.declared.answers.Given.{Given}
use Rattle.vq_live.specs.declared.answers.InstallFault.{InstallFault}
use Rattle.vq_live.specs.declared.answers.CancelFault.{CancelFault}
use Rattle.vq_live.specs.Live.{Live, opened, slot_at}
use Rattle.vq_live.specs.Calls.{install_fault, cancel_fault, after_refer, after_complete, complete_from, first_pending}
use Rattle.vq_layer.specs.declared.answers.Wanted.{Wanted}
use Rattle.vq_layer.specs.declared.answers.Wait.{Wait}
use Rattle.vq_layer.specs.declared.answers.Signal.{Signal}
use Rattle.vq_layer.specs.Layer.{Batch, AreBare, live_at}
use Rattle.vq_layer.specs.Takes.{take_in, taken_all}
use Rattle.vq_layer.specs.Installs.{install_unless, install_in, installed_all, cancel_unless, cancelled_all}
use Rattle.vq_layer.specs.Waits.{held_at, hold_point, hold_in, held_all, unref_unless, return_point, return_in, returned_all}
use Rattle.vq_layer.specs.Queues.{timelines_released, timelines_finished}
use Rattle.vq_layer.proofs.Ground.{read_set}

pub bare_set : (ts : List Live) (n : ℕ) (t : Live) → AreBare ts → t.reserved ≡ 0 → AreBare (set ts n t)
bare_set ts n t b e m = read_set (λ (x : Live). x.reserved ≡ 0) (opened 0) ts n m t (λ q. e) (b m)

-- taking
bare_take : (ts : List Live) (w : Wanted) → AreBare ts → AreBare (take_in ts w)
bare_take ts w b m =
    read_set (λ (x : Live). x.reserved ≡ 0) (opened 0) ts w.timeline m _ (λ q. ap (λ (n : ℕ). n - 1) (b w.timeline)) (b m)

pub bare_taken : (ts : List Live) (ws : List Wanted) → AreBare ts → AreBare (taken_all ts ws)
bare_taken ts [] b = b
bare_taken ts (w ∷ ws) b = bare_taken (take_in ts w) ws (bare_take ts w b)

pub count_taken : (ts : List Live) (ws : List Wanted) → length (taken_all ts ws) ≡ length ts
count_taken ts [] = refl
count_taken ts (w ∷ ws) = count_taken (take_in ts w) ws ∙ length-set ts w.timeline _

-- installing
install_reserved : (t : Live) (o : Option InstallFault) → (install_unless t o).reserved ≡ t.reserved
install_reserved t None = refl
install_reserved t (Some fault) = refl

pub bare_installed : (ts : List Live) (ss : List Signal) → AreBare ts → AreBare (installed_all ts ss)
bare_installed ts [] b = b
bare_installed ts (s ∷ ss) b =
    let t = live_at ts s.timeline in
    bare_installed (install_in ts s) ss
    (bare_set ts s.timeline (install_unless t (install_fault t s.given)) b (install_reserved t (install_fault t s.given) ∙ b s.timeline))

pub count_installed : (ts : List Live) (ss : List Signal) → length (installed_all ts ss) ≡ length ts
count_installed ts [] = refl
count_installed ts (s ∷ ss) = count_installed (install_in ts s) ss ∙ length-set ts s.timeline _

-- cancelling
cancel_reserved : (t : Live) (x : Given) (o : Option CancelFault) → (cancel_unless t x o).reserved ≡ t.reserved
cancel_reserved t x None = refl
cancel_reserved t x (Some fault) = refl

pub bare_cancelled : (ts : List Live) (ss : List Signal) → AreBare ts → AreBare (cancelled_all ts ss)
bare_cancelled ts [] b = b
bare_cancelled ts (s ∷ ss) b =
    let us = cancelled_all ts ss in
    let rest = bare_cancelled ts ss b in
    let t = live_at us s.timeline in
    bare_set us s.timeline (cancel_unless t s.given (cancel_fault t s.given)) rest (cancel_reserved t s.given (cancel_fault t s.given) ∙ rest s.timeline)

pub count_cancelled : (ts : List Live) (ss : List Signal) → length (cancelled_all ts ss) ≡ length ts
count_cancelled ts [] = refl
count_cancelled ts (s ∷ ss) = length-set (cancelled_all ts ss) s.timeline _ ∙ count_cancelled ts ss

-- holding
bare_hold : (ts : List Live) (n : ℕ) (o : Option ℕ) → AreBare ts → AreBare (hold_point ts n o)
bare_hold ts n None b = b
bare_hold ts n (Some p) b = bare_set ts n (after_refer (live_at ts n) p) b (b n)

pub count_hold : (ts : List Live) (n : ℕ) (o : Option ℕ) → length (hold_point ts n o) ≡ length ts
count_hold ts n None = refl
count_hold ts n (Some p) = length-set ts n _

pub bare_held : (ts : List Live) (ws : List Wait) → AreBare ts → AreBare (held_all ts ws)
bare_held ts [] b = b
bare_held ts (w ∷ ws) b =
    bare_held (hold_in ts w.wanted) ws (bare_hold ts w.wanted.timeline (held_at ts w.wanted) b)

pub count_held : (ts : List Live) (ws : List Wait) → length (held_all ts ws) ≡ length ts
count_held ts [] = refl
count_held ts (w ∷ ws) =
    count_held (hold_in ts w.wanted) ws ∙ count_hold ts w.wanted.timeline (held_at ts w.wanted)

-- giving back
return_reserved : (t : Live) (p : ℕ) (b : Bool) → (unref_unless t p b).reserved ≡ t.reserved
return_reserved t p true = refl
return_reserved t p false = refl

bare_return : (ts : List Live) (n : ℕ) (o : Option ℕ) → AreBare ts → AreBare (return_point ts n o)
bare_return ts n None b = b
bare_return ts n (Some p) b =
    let none = nat_eq (slot_at (live_at ts n).slots p).refs 0 in
    bare_set ts n (unref_unless (live_at ts n) p none) b (return_reserved (live_at ts n) p none ∙ b n)

count_return : (ts : List Live) (n : ℕ) (o : Option ℕ) → length (return_point ts n o) ≡ length ts
count_return ts n None = refl
count_return ts n (Some p) = length-set ts n _

pub bare_returned : (ts : List Live) (ws : List Wait) → AreBare ts → AreBare (returned_all ts ws)
bare_returned ts [] b = b
bare_returned ts (w ∷ ws) b = bare_returned (return_in ts w) ws (bare_return ts w.wanted.timeline w.held b)

pub count_returned : (ts : List Live) (ws : List Wait) → length (returned_all ts ws) ≡ length ts
count_returned ts [] = refl
count_returned ts (w ∷ ws) = count_returned (return_in ts w) ws ∙ count_return ts w.wanted.timeline w.held

-- a release, and a finish
pub bare_released : (ts : List Live) (b : Batch) → AreBare ts → AreBare (timelines_released ts b)
bare_released ts b h = bare_installed (held_all ts b.waits) b.signals (bare_held ts b.waits h)

pub count_released : (ts : List Live) (b : Batch) → length (timelines_released ts b) ≡ length ts
count_released ts b = count_installed (held_all ts b.waits) b.signals ∙ count_held ts b.waits

pub bare_finished : (ts : List Live) (o : Option Batch) → AreBare ts → AreBare (timelines_finished ts o)
bare_finished ts None h = h
bare_finished ts (Some b) h = bare_returned ts b.waits h

pub count_finished : (ts : List Live) (o : Option Batch) → length (timelines_finished ts o) ≡ length ts
count_finished ts None = refl
count_finished ts (Some b) = count_returned ts b.waits

-- a completion
complete_reserved : (t : Live) (o : Option Given) → (complete_from t o).reserved ≡ t.reserved
complete_reserved t None = refl
complete_reserved t (Some x) = refl

pub bare_completed : (ts : List Live) (n : ℕ) → AreBare ts → AreBare (set ts n (after_complete (live_at ts n)))
bare_completed ts n b =
    bare_set ts n (after_complete (live_at ts n)) b (complete_reserved (live_at ts n) (first_pending (live_at ts n)) ∙ b n)
