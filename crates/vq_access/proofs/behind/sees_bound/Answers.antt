use Rattle.std.proofs.Common.{◌≡◌, ◌+◌, ◌==◌, ◌∙◌, true, false, sym, ap, inl, inr, eq-eqb, arith}
use Rattle.std.proofs.lemmas.Bool.{eqb-true, false≢true}
use Rattle.vq_board_laws.specs.PointSteps.{op_number}
use Rattle.vq_access.proofs.Giving.{bound_behind}
use Rattle.vq_access.proofs.behind.sees_bound.Goals as goal

pub returns-in-Unbound : goal.returns-in-Unbound
returns-in-Unbound c =
    let at : op_number c.recall.result ≡ 0 = ap op_number c.in-Unbound.is in
    bound_behind c.args.pass.now c.recall.new.pass c.recall.ensures.pass.0 false c.args.op c.args.point c.recall.result
    c.recall.ensures.pass.2 (λ t. absurd (false≢true t))
    (λ t m. elim m [ inl here ↦ omega arith | inr past ↦ omega arith ])

pub returns-in-Bound : goal.returns-in-Bound
returns-in-Bound c =
    let r = c.in-Bound.found in
    let q = c.args.point in
    let at : op_number c.recall.result ≡ r + 2 = ap op_number c.in-Bound.is in
    bound_behind c.args.pass.now c.recall.new.pass c.recall.ensures.pass.0 (r == q) c.args.op q c.recall.result
    c.recall.ensures.pass.2 (λ t. inl (let same = eqb-true r q t in omega arith))
    (λ t m. elim m [
      | inl here ↦ let same : r ≡ q = omega arith in false≢true (sym t ∙ eq-eqb r q same)
      | inr past ↦ omega arith
    ])

pub returns-in-Past : goal.returns-in-Past
returns-in-Past c =
    bound_behind c.args.pass.now c.recall.new.pass c.recall.ensures.pass.0 true c.args.op c.args.point c.recall.result
    c.recall.ensures.pass.2 (λ t. inr (ap op_number c.in-Past.is)) (λ t m. false≢true (sym t))
