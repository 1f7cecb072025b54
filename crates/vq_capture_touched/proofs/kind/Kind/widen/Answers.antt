use Rattle.std.proofs.Common.{◌≡◌, ◌≤◌, ◌*◌, ◌/◌, ℕ, List, arith, refl, rules, subst, get_or}
use Rattle.vq_capture_touched.proofs.Listings.{kept_same}
use Rattle.vq_capture_touched.proofs.PartLines.{longer}
use Rattle.vq_capture_touched.proofs.kind.Kind.widen.Goals as goal

pub returns-clause-kept : goal.returns-clause-kept
returns-clause-kept c = λ s t h.
    let old = c.args.self.now in
    let wide : c.in-Some.width ≡ c.args.self.now.width * c.args.times = search rules in
    let bounds : (k m : ℕ) → m ≤ c.args.self.now.latest.step.line → m ≤ get_or c.args.self.now.lines.items k c.args.self.now.latest.step.line → m ≤ get_or c.in_ok-self.field-0.items (k / c.args.times) c.args.self.now.latest.step.line =
    subst (λ (xs : List ℕ). (k m : ℕ) → m ≤ c.args.self.now.latest.step.line → m ≤ get_or xs k c.args.self.now.latest.step.line → m ≤ get_or c.in_ok-self.field-0.items (k / c.args.times) c.args.self.now.latest.step.line) c.deref.ensures.value c.in_ok-self.ensures in
    kept_same old (record c.args.self.now { width = c.in-Some.width; lines = c.in_ok-self.field-0 }) s t (λ e. e) (omega arith) (omega arith)
    (λ n u l m. longer c.args.self.now.lines.items c.in_ok-self.field-0.items c.args.times c.args.self.now.width c.in-Some.width u c.args.self.now.latest.step.line n bounds wide l m) h refl
