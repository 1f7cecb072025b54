-- A pass that only looks: what it knew it still knows.
use Rattle.std.proofs.Common.{ℕ, List, [], ◌∷◌, ◌++◌, refl, sym, ap, ◌∙◌, inl, inr}
use Rattle.std.proofs.lemmas.List.{append_assoc}
use Rattle.vq_board_laws.specs.declared.view.Fact.{Fact}
use Rattle.vq_board_laws.specs.declared.view.OpState.{OpState}
use Rattle.vq_board_laws.specs.declared.view.View.{View}
use Rattle.vq_board_laws.specs.Knowledge.{Knows}
use Rattle.vq_board_laws.specs.Learning.{Grows, Learns}
use Rattle.vq_board_laws.specs.PointSteps.{recalls, sees, op_facts, op_unmade, point_facts, point_unmade, moved_on}

-- Lists that grow

pub grows_none : {A : Type 0} (xs : List A) → Grows xs xs
grows_none xs = ([], refl)

pub grows_on : {A : Type 0} (xs ys zs : List A) → Grows xs ys → Grows ys zs → Grows xs zs
grows_on xs ys zs (front, is) (more, also) =
    (more ++ front, also ∙ (ap (λ us. more ++ us) is ∙ sym (append_assoc more front xs)))

-- Views

pub learns_none : (v : View) → Learns v v
learns_none v =
    record {
      same = refl;
      known = grows_none v.known;
      unmade = grows_none v.unmade;
      steps = grows_none v.steps;
    }

pub learns_on : (u v w : View) → Learns u v → Learns v w → Learns u w
learns_on u v w a b =
    record {
      same = b.same ∙ ap (λ (z : View). record z { known = w.known; unmade = w.unmade; steps = w.steps }) a.same;
      known = grows_on u.known v.known w.known a.known b.known;
      unmade = grows_on u.unmade v.unmade w.unmade a.unmade b.unmade;
      steps = grows_on u.steps v.steps w.steps a.steps b.steps;
    }

pub learns_recall : (v : View) (e : ℕ) (s : OpState) → Learns v (recalls v e s)
learns_recall v e s = record { same = refl; known = (op_facts e s, refl); unmade = (op_unmade e s, refl); steps = (_ ∷ [], refl) }

pub learns_look : (v : View) (q n : ℕ) → Learns v (sees v q n)
learns_look v q n =
    record {
      same = refl;
      known = (point_facts n ++ moved_on q n v.known, refl);
      unmade = (point_unmade n, refl);
      steps = (_ ∷ [], refl);
    }

-- Knowledge

pub knows_first : (front back : List Fact) (f : Fact) → Knows front f → Knows (front ++ back) f
knows_first [] back f h = absurd h
knows_first (g ∷ front) back f (inl is) = inl is
knows_first (g ∷ front) back f (inr k) = inr (knows_first front back f k)

pub knows_more : (front known : List Fact) (f : Fact) → Knows known f → Knows (front ++ known) f
knows_more [] known f h = h
knows_more (g ∷ front) known f h = inr (knows_more front known f h)
