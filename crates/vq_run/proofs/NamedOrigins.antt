-- Answers that are given the lines of the input one after another: those before a place have them, the others are as
-- they were.
use Rattle.std.proofs.Common.{◌≡◌, ◌∙◌, ◌∷◌, ◌++◌, ◌+◌, ◌<◌, ℕ, List, [], Option, length, map, take, drop, set, get_or, sym, ap, arith}
use Rattle.std.proofs.lemmas.List.{take_more_set, drop_more, drop-set-lt, take_more, map-append}
use Rattle.vq_model.specs.declared.plan.AnswerLine.{AnswerLine}
use Rattle.vq_run.specs.Origins.{answer_origin, origin}

-- one more has them
pub one_more : (from : Option (List ℕ)) (xs old : List AnswerLine) (i n : ℕ) (d : AnswerLine) → i < length xs →
    i < length old → take i xs ≡ map (answer_origin from) (take i old) → drop i xs ≡ drop i old →
    n ≡ origin from (get_or xs i d).line →
    (take (i + 1) (set xs i (record { line = n; answer = (get_or xs i d).answer }))
    ≡ map (answer_origin from) (take (i + 1) old))
    × (drop (i + 1) (set xs i (record { line = n; answer = (get_or xs i d).answer })) ≡ drop (i + 1) old)
one_more from xs old i n d h k begun left is =
    let y : AnswerLine = record { line = n; answer = (get_or xs i d).answer } in
    let same : get_or xs i d ∷ drop (i + 1) xs ≡ get_or old i d ∷ drop (i + 1) old =
    sym (drop_more xs i d h) ∙ (left ∙ drop_more old i d k) in
    let head : get_or xs i d ≡ get_or old i d = cc in
    let tail : drop (i + 1) xs ≡ drop (i + 1) old = cc in
    let item : y ≡ answer_origin from (get_or old i d) =
    ap (λ (m : ℕ). record { line = m; answer = (get_or xs i d).answer }) is ∙ ap (answer_origin from) head in
    let after : i < i + 1 = omega arith in (
      take_more_set xs i y h
          ∙ (ap (λ (zs : List AnswerLine). zs ++ y ∷ []) begun
          ∙ (ap (λ (z : AnswerLine). map (answer_origin from) (take i old) ++ z ∷ []) item
          ∙ (sym (map-append (answer_origin from) (take i old) (get_or old i d ∷ []))
          ∙ ap (map (answer_origin from)) (sym (take_more old i d k))))),
      drop-set-lt (i + 1) xs i y after ∙ tail,
    )
