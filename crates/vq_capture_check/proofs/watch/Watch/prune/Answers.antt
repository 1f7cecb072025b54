use Rattle.std.proofs.Common.{◌≡◌, ◌≤◌, ◌∙◌, ℕ, false, List, ap, map, true, refl, sym, subst, rules}
use Rattle.vq_capture_check.specs.declared.kept_lines.KeptLines.{KeptLines}
use Rattle.vq_capture_check.specs.Alike.{IsAsked, TellsAs, TellsAsked, telling_of}
use Rattle.vq_capture_check.specs.Clocks.{cells_of}
use Rattle.vq_capture_clocks.specs.declared.gone.GoneLanes.{GoneLanes}
use Rattle.vq_capture_check.specs.GoneSites.{is_gone}
use Rattle.vq_capture_check.specs.Least.{least_in}
use Rattle.vq_capture_check.specs.Watches.{gone_in, kept_of, signals_of, touched_at}
use Rattle.vq_ground.specs.Lists.{has}
use Rattle.vq_capture_clocks.specs.Levels.{is_listed}
use Rattle.vq_capture_check.proofs.KeptOrders.{listed_asked}
use Rattle.vq_capture_check.proofs.watch.Watch.prune.Goals as goal

pub returns-clause-alike : goal.returns-clause-alike
returns-clause-alike c =
    let least = c.in_ok-asked.asked.least in
    let asked : (line lane : ℕ) → IsAsked (touched_at c.args.self.now.things) c.args.next line lane → least_in least lane ≤ line = c.in_ok-asked.ensures in
    let cells : (k : ℕ) → gone_in c.args.self.now k ≡ false → TellsAs (least_in least) (cells_of c.clear_cells.new.cells k) (cells_of c.args.self.now.cells k) =
    (λ k g. c.in_ok-clear_cells.ensures k (ap (λ (xs : List GoneLanes). is_gone xs k) c.deref.ensures.value ∙ g)) in
    let signals : (line lane : ℕ) → least_in least lane ≤ line →
    map (telling_of line lane) (signals_of c.clear_signals.new.signals.items) ≡ map (telling_of line lane) (signals_of c.args.self.now.signals.items) = c.clear_signals.ensures in
    let touched : List ℕ = c.deref-2.result.now in
    let listed : (line lane : ℕ) → IsAsked (touched_at c.args.self.now.things) c.args.next line lane → is_listed touched c.args.next line ≡ true =
    listed_asked touched (touched_at c.args.self.now.things) c.args.next (λ r t m. subst (λ (ls : List ℕ). has ls t.step.line ≡ true) (sym c.deref-2.ensures.value) (c.in_ok-touched.ensures.all r t m)) in
    let lines : (m : ℕ) → TellsAsked (least_in least) touched c.args.next (kept_of c.in_ok-self.field-0.items m) (kept_of c.args.self.now.lines.items m) =
    (let was : c.replace-lines.result.items ≡ c.args.self.now.lines.items = search rules in
    subst (λ (ys : List KeptLines). (m : ℕ) → TellsAsked (least_in least) touched c.args.next (kept_of c.in_ok-self.field-0.items m) (kept_of ys m)) was c.in_ok-self.ensures) in
    record {
      sites = refl;
      cut = refl;
      touched = refl;
      cells = λ line lane a k g. sym (cells k g line lane (asked line lane a));
      lines = λ line lane a m. sym (lines m line lane (asked line lane a) (listed line lane a));
      signals = λ line lane a. sym (signals line lane (asked line lane a));
    }
