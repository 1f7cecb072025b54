-- A look at a point keeps the rule: what it shows is so.
use Rattle.std.proofs.Common.{◌≡◌, ◌⊎◌, ℕ, ◌+◌, Bool, true, false, not, cond, ◌&&◌, eqb, List, [], ◌∷◌, ◌++◌, refl, ap, sym, ◌∙◌, subst, arith, ⊎_elim, inl, inr, eq-eqb}
use mathlib.Core.Option.{none}
use Rattle.std.proofs.lemmas.Bool.{eqb-true, false≢true, not-true, and_parts, and_from}
use Rattle.atomic_table.specs.Table.{step, keeps, Allows}
use Rattle.vq_model.specs.Plan.{Plan}
use Rattle.vq_ground.specs.Lists.{has}
use Rattle.vq_ground.proofs.Lists.{has_cases, has-append_cases}
use Rattle.vq_point_laws.specs.PointWord.{parts}
use Rattle.vq_board_laws.specs.declared.view.View.{View}
use Rattle.vq_board_laws.specs.declared.view.Fact.{Fact}
use Rattle.vq_board_laws.specs.declared.view.Fact.TheVariants.{Job, Taken, Bound, BoundTo, Made, Past}
use Rattle.vq_board_laws.specs.Words.{Words, words_of, point_word, Carries, made_of, shown}
use Rattle.vq_board_laws.specs.Knowledge.{AreSo, KnowsMade}
use Rattle.vq_board_laws.specs.Points.{Points, Lists, reference}
use Rattle.vq_board_laws.specs.RunLaws.{RunLaws}
use Rattle.vq_board_laws.specs.Rule.{Kept}
use Rattle.vq_board_laws.specs.Steps.{Mine}
use Rattle.vq_board_laws.specs.PointSteps.{point_facts, point_unmade, carries, moved_on, sees, saw}
use Rattle.vq_board_laws.proofs.Frames.{facts_both, kept_load}
use Rattle.vq_board_laws.proofs.MadeWords.{shows, not_shown}
use Rattle.vq_board_laws.proofs.Needs.{knows_made}
use Rattle.vq_board_laws.proofs.Notes.{reached_notes}

module _ (p : Plan) (d : Words) (views : List View) (q : ℕ) (points : Points p d.op d.point d.count views) where
  abbrev n : ℕ
  n = d.point q

  abbrev o : ℕ
  o = (parts n).op

  point_so : AreSo d (point_facts n)
  point_so = by_test (parts n).held (parts n).signaled refl refl
    where
      by_test : (h b : Bool) → (parts n).held ≡ h → (parts n).signaled ≡ b → AreSo d (cond h (cond b (Made o ∷ Taken o ∷ []) (Taken o ∷ [])) [])
      by_test true true held set = let c : Carries n o = record { held = held; op = refl } in (shows p d.op d.point d.count views q o points c set, (inr (q, c), tt))
      by_test true false held clear = (inr (q, record { held = held; op = refl }), tt)
      by_test false b free bit = tt

  -- what was bound to the point, and isn't carried by it, is past
  moved_past : (e r : ℕ) → (eqb r q && not (carries n e)) ≡ true → (d.op e ≡ r + 2) ⊎ (d.op e ≡ 1) → d.op e ≡ 1
  moved_past e r test h = ⊎_elim (λ (is : d.op e ≡ r + 2).
      let t = and_parts (eqb r q) (not (carries n e)) test in
      let same = eqb-true r q t.0 in
      let c = points.carried e q (let a = is in omega arith) in
      let yes : carries n e ≡ true = and_from (parts n).held (eqb o e) c.held (eq-eqb o e c.op) in absurd (false≢true (ap not (sym yes) ∙ t.1))) (λ (is : d.op e ≡ 1). is) h

  moved_so : (fs : List Fact) → AreSo d fs → AreSo d (moved_on q n fs)
  moved_so [] h = tt
  moved_so (Job j s ∷ fs) h = moved_so fs h.1
  moved_so (Taken e ∷ fs) h = moved_so fs h.1
  moved_so (Bound e ∷ fs) h = moved_so fs h.1
  moved_so (BoundTo e r ∷ fs) h = by_test (eqb r q && not (carries n e)) refl (moved_so fs h.1)
    where
      by_test : (b : Bool) → (eqb r q && not (carries n e)) ≡ b → AreSo d (moved_on q n fs) → AreSo d (cond b (Past e ∷ moved_on q n fs) (moved_on q n fs))
      by_test true is rest = (moved_past e r is h.0, rest)
      by_test false is rest = rest
  moved_so (Made e ∷ fs) h = moved_so fs h.1
  moved_so (Past e ∷ fs) h = moved_so fs h.1

  -- what the point shows unmade is
  unmade_now : (e : ℕ) → has (point_unmade n) e ≡ true → made_of d e ≡ false
  unmade_now e = by_test ((parts n).held && not (parts n).signaled) refl
    where
      by_test : (b : Bool) → ((parts n).held && not (parts n).signaled) ≡ b → has (cond b (o ∷ []) []) e ≡ true → made_of d e ≡ false
      by_test true is m =
          let t = and_parts (parts n).held (not (parts n).signaled) is in
          let now : made_of d o ≡ false = not_shown p d.op d.point d.count views q o points record { held = t.0; op = refl } (not-true (parts n).signaled t.1) in
          elim (has_cases o [] e m) [ inl same ↦ subst (λ (z : ℕ). made_of d z ≡ false) same now | inr h ↦ absurd (false≢true h) ]
      by_test false is m = absurd (false≢true m)

pub looks_at_point : (p : Plan) (slots id : ℕ) (m : Mine) (q : ℕ) → RunLaws p → Allows (Kept p) slots id m (point_word q) (λ n. n) (saw (step slots (point_word q) 0 0 none) m)
looks_at_point p slots id m q laws s k deep at fits =
    let d : Words = words_of s.words in
    let r = k.rule in
    let v : View = m.0 in
    let n : ℕ = d.point q in
    let w : View = sees v q n in
    let known = r.knowledge id v at in
    let plan : v.plan ≡ p = r.ownership.plans id v at in
    let so_now : AreSo d w.known = facts_both d (point_facts n ++ moved_on q n v.known) v.known (facts_both d (point_facts n) (moved_on q n v.known) (point_so p d s.views q r.points) (moved_so p d s.views q r.points v.known known)) known in (
      w,
      keeps,
      tt,
      kept_load p s (point_word q) id v w k at refl refl refl refl refl so_now
          (reached_notes p laws (shown p d) d.job s.views id v w r.run at refl refl
          (λ e h. elim (has-append_cases (point_unmade n) v.unmade e h) [ inl new ↦ inr (unmade_now p d s.views q r.points e new) | inr old ↦ inl old ])),
      λ a same. let q_is : q ≡ a = omega arith in (
        ap (λ (z : ℕ). (sees v z n, m.1)) q_is,
        r.points.words q,
        (λ e listed. r.references.carried id v at q e (subst (λ (z : ℕ). Lists v.refs (reference z e)) (sym q_is) listed)),
        (λ e listed. ((r.points.shelves id v at).taken q e (subst (λ (z : ℕ). Lists v.carrying (reference z e)) (sym q_is) listed)).2),
        λ e carries clear knows.
            let here : KnowsMade p w.known e = subst (λ (z : Plan). KnowsMade z w.known e) plan (subst (λ (z : ℕ). KnowsMade v.plan (sees v z n).known e) (sym q_is) knows) in
            let made = knows_made p d s.views w.known e laws r.run so_now here in
            false≢true (sym (not_shown p d.op d.point d.count s.views q e r.points carries clear) ∙ made),
      ),
    )
