-- A step is watched by its clock, where it isn't an access of a command.
use Rattle.std.proofs.Common.{◌≡◌, ◌+◌, ◌∙◌, Bool, true, false, ℕ, List, [], ◌∷◌, cond, map, filter, refl, ap, Option, Some, None}
use Rattle.vq_ground.proofs.Bools.{never}
use Rattle.vq_capture.specs.declared.stage.Stage.{Stage}
use Rattle.vq_capture.specs.declared.statement.Statement.{Statement}
use Rattle.vq_capture.specs.declared.statement.Statement.TheVariants.{CommandAccess}
use Rattle.vq_capture.specs.declared.capture.Step.{Step}
use Rattle.vq_capture.specs.Masks.{has_stage}
use Rattle.vq_capture.specs.Points.{Point, points_at, stages_with_word}
use Rattle.vq_capture.specs.Races.{access_of}
use Rattle.vq_capture_check.specs.declared.signals.Signal.{Signal}
use Rattle.vq_capture_check.specs.declared.sites.Site.{Site}
use Rattle.vq_capture_touched.specs.declared.touch.StepLanes.{StepLanes}
use Rattle.vq_capture_clocks.specs.declared.clocks.Block.{Block}
use Rattle.vq_capture_check.specs.Clocks.{says, give_lanes, with_line}
use Rattle.vq_capture_check.specs.Lanes.{stage_number, given}
use Rattle.vq_capture_check.specs.Sites.{with_sites, lanes_of}
use Rattle.vq_capture_check.specs.Watching.{Watched, ToldStep, Clocking, is_command_access, is_lasting, whole, clock_at, clock_of, clocked_points, cells_with, lines_with, signals_with, with_signal, without_ended, signal_of, SignalClock, watch_at, watch_with, last_loose, touched_by, race_line}
use Rattle.vq_capture_check.specs.Watches.{points_by, added}

module _ (cells lines : ℕ → ℕ → ℕ) (signals : List SignalClock) (at : StepLanes) (b : ToldStep) where
  abbrev clocking : Point → Clocking
  clocking y = record { point = y; clock = clock_at cells lines signals at b y.stage }

  at_stages : (xs : List Stage) →
      map (λ s. record { point = record { step = b.step; stage = Some s }; clock = cells (at.queue + stage_number s) }) xs
      ≡ map clocking (map (λ s. record { step = b.step; stage = Some s }) xs)
  at_stages [] = refl
  at_stages (x ∷ xs) =
      ap (λ (ys : List Clocking). record { point = record { step = b.step; stage = Some x }; clock = cells (at.queue + stage_number x) } ∷ ys) (at_stages xs)

  by_said : (said : Statement) (c : ℕ → ℕ) → (is_command_access said ≡ false → c ≡ clock_of cells lines signals at b) →
      points_by cells at.queue b.step c said ≡ map clocking (points_at b.step said)
  by_said (CommandAccess access scope) c f = at_stages (filter (has_stage scope.stages) stages_with_word)
  by_said other c f =
      ap (λ (d : ℕ → ℕ). record { point = whole b.step; clock = d } ∷ []) (f refl)

  pub same_points : (c : ℕ → ℕ) → (is_command_access b.step.statement ≡ false → c ≡ clock_of cells lines signals at b) →
      points_by cells at.queue b.step c b.step.statement ≡ clocked_points cells lines signals at b
  same_points c f = by_said b.step.statement c f

lasting_whole : (said : Statement) → is_lasting said ≡ true → is_command_access said ≡ false
lasting_whole (CommandAccess access scope) e = never e
lasting_whole other e = refl

signal_whole : (said : Statement) (signal : Signal) → signal_of said ≡ Some signal → is_command_access said ≡ false
signal_whole (CommandAccess access scope) signal e = absurd (none e)
  where
    none : None ≡ Some signal → ⊥
    none q = cc
signal_whole other signal e = refl

pub same_added : (w : Watched) (at : StepLanes) (b : ToldStep) (c d : ℕ → ℕ) → (is_command_access b.step.statement ≡ false → c ≡ d) → added (record w { sites = with_sites w.sites b.step }) at b.step c ≡ watch_at w at b d
same_added w at b c d f = λ i. record (watch_at w at b d) { cells = cells i; lines = lines i; signals = signals i }
  where
    by_access : (t : Bool) → is_command_access b.step.statement ≡ t →
        cond t w.cells (give_lanes w.cells c (given at (whole b.step)))
        ≡ cond t w.cells (give_lanes w.cells d (given at (whole b.step)))
    by_access true e = refl
    by_access false e = ap (λ (x : ℕ → ℕ). give_lanes w.cells x (given at (whole b.step))) (f e)

    cells : cells_with w.cells at b.step c ≡ cells_with w.cells at b.step d
    cells = by_access (is_command_access b.step.statement) refl

    by_release : (t : Bool) → is_lasting b.step.statement ≡ t →
        cond t (with_line w.lines b.step.line c) w.lines ≡ cond t (with_line w.lines b.step.line d) w.lines
    by_release true e =
        ap (λ (x : ℕ → ℕ). with_line w.lines b.step.line x) (f (lasting_whole b.step.statement e))
    by_release false e = refl

    lines : lines_with w.lines b.step c ≡ lines_with w.lines b.step d
    lines = by_release (is_lasting b.step.statement) refl

    by_signal : (o : Option Signal) → signal_of b.step.statement ≡ o →
        with_signal (without_ended b.step.statement w.signals) o b.step.line c
        ≡ with_signal (without_ended b.step.statement w.signals) o b.step.line d
    by_signal None e = refl
    by_signal (Some signal) e =
        ap (λ (x : ℕ → ℕ). with_signal (without_ended b.step.statement w.signals) (Some signal) b.step.line x)
        (f (signal_whole b.step.statement signal e))

    signals : signals_with w.signals b.step c ≡ signals_with w.signals b.step d
    signals = by_signal (signal_of b.step.statement) refl

-- One step of the pass

module _ (w : Watched) (b : ToldStep) (step : Step) (at : StepLanes) (xs ys : List Block) where
  abbrev lanes : StepLanes
  lanes = lanes_of w.sites b.step

  module _ (o : Option ℕ) where
    abbrev found : Step → StepLanes → List Block → Option ℕ
    found s a zs =
        last_loose w.cut (points_by w.cells a.queue s (says zs) s.statement) s (touched_by w.touched (access_of s.statement))

    pub race_of_pass : step ≡ b.step → at ≡ lanes_of w.sites step → xs ≡ ys →
        (is_command_access b.step.statement ≡ false → says ys ≡ clock_of w.cells w.lines w.signals at b) → o ≡ found step at xs →
        o ≡ race_line w b
    race_of_pass p q x f e =
        let to : at ≡ lanes = q ∙ ap (λ (s : Step). lanes_of w.sites s) p in
        e
        ∙ ((λ i. found (p i) (to i) (x i))
        ∙ ap (λ (zs : List Clocking). last_loose w.cut zs b.step (touched_by w.touched (access_of b.step.statement)))
        (same_points w.cells w.lines w.signals lanes b (says ys) (λ h. f h ∙ ap (λ (a : StepLanes). clock_of w.cells w.lines w.signals a b) to)))

  module _ (sites : List Site) (now : Watched) where
    abbrev left : List Site → Step → StepLanes → List Block → Watched
    left ts s a zs = added (record w { sites = ts }) a s (says zs)

    pub left_of : step ≡ b.step → at ≡ lanes_of w.sites step → xs ≡ ys →
        (is_command_access b.step.statement ≡ false → says ys ≡ clock_of w.cells w.lines w.signals at b) →
        sites ≡ with_sites w.sites step → now ≡ left sites step at xs → now ≡ watch_with w b
    left_of p q x f t e =
        let to : at ≡ lanes = q ∙ ap (λ (s : Step). lanes_of w.sites s) p in
        let there : sites ≡ with_sites w.sites b.step = t ∙ ap (λ (s : Step). with_sites w.sites s) p in
        e
        ∙ ((λ i. left (there i) (p i) (to i) (x i))
        ∙ same_added w lanes b (says ys) (clock_of w.cells w.lines w.signals lanes b)
        (λ h. f h ∙ ap (λ (a : StepLanes). clock_of w.cells w.lines w.signals a b) to))

pub left_by_pass : (w now : Watched) (b : ToldStep) (step : Step) (at : StepLanes) (xs ys : List Block) (sites : List Site) → step ≡ b.step → at ≡ lanes_of w.sites step → xs ≡ ys → (is_command_access b.step.statement ≡ false → says ys ≡ clock_of w.cells w.lines w.signals at b) → sites ≡ with_sites w.sites step → now ≡ added (record w { sites = sites }) at step (says xs) → now ≡ watch_with w b
left_by_pass w now b step at xs ys sites p q x f t e = left_of w b step at xs ys sites now p q x f t e
