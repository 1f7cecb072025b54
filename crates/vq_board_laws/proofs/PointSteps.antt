-- The steps on a point's word that leave as much made keep the rule: refer, unrefer, retire and assign.
use Rattle.std.proofs.Common.{◌≡◌, ◌≢◌, ◌⊎◌, ℕ, ◌+◌, ◌-◌, ◌^◌, ◌<◌, ◌≤◌, true, false, eqb, List, ◌∷◌, length, set, refl, ap, sym, ◌∙◌, subst, arith, ⊎_elim, inl, inr, eq-eqb, ne_eqb}
use mathlib.Core.Option.{some, none}
use mathlib.Core.Logic.{dite}
use native.Mathlib.Decide.{ℕ_discrete}
use Rattle.std.proofs.lemmas.Bool.{false≢true}
use lib.ListN.{get_elem?}
use prog.Atomic.{either}
use Rattle.atomic_table.specs.Table.{State, step, Act, keeps, Valid, stepped, carried_after, Allows}
use Rattle.atomic_table.proofs.Lists.{exchanged}
use Rattle.vq_model.specs.Machine.{put}
use Rattle.vq_model.specs.Plan.{Plan}
use Rattle.vq_ground.specs.Lists.{has}
use Rattle.vq_model.proofs.Puts.{put_here}
use Rattle.vq_point_laws.specs.PointWord.{parts}
use Rattle.vq_board_laws.specs.declared.view.View.{View}
use Rattle.vq_board_laws.specs.declared.view.LoggedBuffers.{LoggedBuffers}
use Rattle.vq_board_laws.specs.declared.view.Fact.{Fact}
use Rattle.vq_board_laws.specs.declared.view.OwnStep.{OwnStep}
use Rattle.vq_board_laws.specs.declared.view.Reference.{Reference}
use Rattle.vq_board_laws.specs.Words.{Words, words_of, point_word, Carries, is_made, made_of}
use Rattle.vq_board_laws.specs.Knowledge.{IsSo, AreSo}
use Rattle.vq_board_laws.specs.Points.{IsWord, IsOfShelf, OwnShelf, Lists, reference}
use Rattle.vq_board_laws.specs.References.{References, refs_to}
use Rattle.vq_board_laws.specs.Rule.{Kept}
use Rattle.vq_board_laws.specs.Steps.{Mine}
use Rattle.vq_board_laws.specs.MayPoints.{MayRefer, MayAssign, MayRetire}
use Rattle.vq_board_laws.specs.PointSteps.{carrying_word, refers, unrefers, retires, assigns, misses_point, referred, unreferred, retired, assigned, without_point}
use Rattle.vq_board_laws.proofs.Columns.{put_each}
use Rattle.vq_board_laws.proofs.FewReferences.{few_references}
use Rattle.vq_board_laws.proofs.Frames.{kept_load, facts_stay, OwnerFields, job_fields, log_fields, owner_fields}
use Rattle.vq_board_laws.proofs.MadeWords.{made_point, made_recounted}
use Rattle.vq_board_laws.proofs.PointBits.{SameBits, more_bits, more_refs, more_word, less_bits, less_refs, less_word, new_clear, new_op, new_refs, new_word, new_carries, zero_word, no_word}
use Rattle.vq_board_laws.proofs.PointParts.{kept_point, so_point, repoints, carries_up, stays_there, points_carry, points_replace, references_move, references_replace}
use Rattle.vq_board_laws.proofs.ReferenceLists.{one_of, count_more, counted, sub_listed, count_less, length_less, part_of_sum, left_listed, kept_listed}
use Rattle.vq_board_laws.proofs.Runs.{reached_stays, reached_fields}
use Rattle.vq_board_laws.proofs.Shelves.{one_shelf}

-- The pass found another word than it had loaded

pub kept_missed : (p : Plan) (s : State LoggedBuffers View) (id q n : ℕ) (v : View) → Kept p s → get_elem? s.views id ≡ some v
    → Kept p record { words = set s.words (point_word q) ((words_of s.words).point q); homes = s.homes; views = set s.views id (misses_point v q n) }
kept_missed p s id q n v k at = kept_load p s (point_word q) id v (misses_point v q n) k at refl refl refl refl refl (k.rule.knowledge id v at) (reached_stays p _ (words_of s.words).job (words_of s.words).job s.views id v (misses_point v q n) k.rule.run at refl (λ told o. o))

-- what a reference counts for its point, and for another
one_here : (q e : ℕ) → one_of q (reference q e) ≡ 1
one_here q e = rw (eq-eqb q q refl) refl

none_else : (a q e : ℕ) → a ≢ q → one_of a (reference q e) ≡ 0
none_else a q e ne = rw (ne_eqb q a (λ h. ne (sym h))) refl

module _ (p : Plan) (s : State LoggedBuffers View) (id q : ℕ) (v : View) (k : Kept p s) (at : get_elem? s.views id ≡ some v) where
  abbrev d : Words
  d = words_of s.words

  abbrev n : ℕ
  n = d.point q

  abbrev o : ℕ
  o = (parts n).op

  abbrev own : OwnShelf p d.op d.point v.role v.owned v.carrying v.bound v.past
  own = k.rule.points.shelves id v at

  -- Only the number of references changes: what is left to show is of the references.
  kept_recounted : (x : ℕ) (rs : List Reference) (steps : List OwnStep) → q < length p.ops → (parts n).held ≡ true → SameBits x n → IsWord x → References (put d.point q x) (set s.views id (record v { refs = rs; steps = steps }))
      → Kept p record { words = set s.words (point_word q) x; homes = s.homes; views = set s.views id (record v { refs = rs; steps = steps }) }
  kept_recounted x rs steps inside held bits word references =
      let w : View = record v { refs = rs; steps = steps } in
      let r = k.rule in
      let same : is_made d.op (put d.point q x) ≡ made_of d = made_recounted d.op d.point q x bits in
      let up = so_point d q x same (λ a e c. inr (a, carries_up d.point q x bits.held bits.op a e c)) in
      kept_point p s q x (set s.views id w) k inside
      (repoints p d s.homes s.views id q x v w r at same refl refl refl refl up (facts_stay d (record d { point = put d.point q x }) v.known up (r.knowledge id v at))
      (points_carry d.point q x bits.held bits.op p d.op held d.count s.views id v w r.points at refl (λ e c h. bits.signaled ∙ r.points.past_set q e c h) (λ e c h. bits.signaled ∙ r.points.clear q e c h) word)
      references)

  -- a reference that the pass has is counted
  pub some_counted : (e : ℕ) → Lists v.refs (reference q e) → 0 < (parts n).refs
  some_counted e listed = let one = counted (reference q e) v.refs listed in let part = part_of_sum (refs_to q) s.views id v at in let all = k.rule.references.counts q in omega arith

  refers_kept : length v.refs < 16 → q < length p.ops → (parts n).held ≡ true → Kept p record { words = set s.words (point_word q) (n + 2 ^ 32); homes = s.homes; views = set s.views id (refers v q o n) }
  refers_kept room inside held =
      let w : View = refers v q o n in
      let r = k.rule in
      let few : (parts n).refs < 65535 = (let l = few_references p s k q in omega arith) in
      let bits = more_bits n few in
      let up = carries_up d.point q (n + 2 ^ 32) bits.held bits.op in
      kept_recounted (n + 2 ^ 32) w.refs w.steps inside held bits (more_word n few (r.points.words q) held)
      (references_move d.point s.views r.references id q (n + 2 ^ 32) v w at up
      (λ a e m. up a e (⊎_elim (λ (h : reference q o ≡ reference a e). subst (λ (z : Reference). Carries (d.point z.point) z.op) h record { held = held; op = refl }) (λ t. r.references.carried id v at a e t) m))
      (omega arith)
      (let more = more_refs n few in let c = count_more q (reference q o) v.refs in let one = one_here q o in omega arith)
      (λ a ne. let c = count_more a (reference q o) v.refs in let zero = none_else a q o ne in omega arith))

  unrefers_kept : Lists v.refs (reference q o) → q < length p.ops → Kept p record { words = set s.words (point_word q) (n - 2 ^ 32); homes = s.homes; views = set s.views id (unrefers v q o n) }
  unrefers_kept has inside =
      let w : View = unrefers v q o n in
      let r = k.rule in
      let held : (parts n).held ≡ true = (r.references.carried id v at q o has).held in
      let left = some_counted o has in
      let bits = less_bits n left in
      let up = carries_up d.point q (n - 2 ^ 32) bits.held bits.op in
      kept_recounted (n - 2 ^ 32) w.refs w.steps inside held bits (less_word n left (r.points.words q) held)
      (references_move d.point s.views r.references id q (n - 2 ^ 32) v w at up
      (λ a e m. up a e (r.references.carried id v at a e (sub_listed (reference q o) (reference a e) v.refs m)))
      (let shorter = length_less (reference q o) v.refs in let few = r.references.few id v at in omega arith)
      (let less = less_refs n left in let c = count_less q (reference q o) v.refs has in let one = one_here q o in omega arith)
      (λ a ne. let c = count_less a (reference q o) v.refs has in let zero = none_else a q o ne in omega arith))

  -- Where no operation is bound to the point, and what it carried is past or was nothing, its word may become one that carries an unbound operation or none.
  kept_replaced : (x : ℕ) (w : View) → q < length p.ops → job_fields w ≡ job_fields v → log_fields w ≡ log_fields v → owner_fields w ≡ owner_fields v → reached_fields w ≡ reached_fields v → w.refs ≡ v.refs
      → has v.owned q ≡ true → (parts n).refs ≡ 0 → (parts x).refs ≡ 0 → IsWord x
      → ((a : ℕ) → d.op a ≢ q + 2) → ((a f : ℕ) → Carries (d.point a) f → (d.op f ≢ 0) ⊎ ((b : ℕ) × Carries (put d.point q x b) f))
      → ((role e : ℕ) → role ≢ v.role → Carries x e → ¬ IsOfShelf p e role) → ((e : ℕ) → Carries x e → (d.op e ≡ 0) × ((parts x).signaled ≡ false)) → (d.count ≤ q → x ≡ 0)
      → (((f : Fact) → IsSo d f → IsSo (record d { point = put d.point q x }) f) → AreSo (record d { point = put d.point q x }) w.known)
      → OwnShelf p d.op (put d.point q x) v.role w.owned w.carrying w.bound w.past
      → Kept p record { words = set s.words (point_word q) x; homes = s.homes; views = set s.views id w }
  kept_replaced x w inside jobs log owner reached refs owned unused new word unbound taken apart opening zero known mine =
      let r = k.rule in
      let same : is_made d.op (put d.point q x) ≡ made_of d = made_point d.op d.point q x (λ a is. absurd (unbound a is)) in
      let up = so_point d q x same taken in
      kept_point p s q x (set s.views id w) k inside
      (repoints p d s.homes s.views id q x v w r at same jobs log owner reached up (known up)
      (points_replace p d.op d.point d.count s.views id q x v w r.points r.ownership at owned apart unbound opening zero word (ap (λ (t : OwnerFields). t.0) owner) mine)
      (references_replace d.point s.views r.references id q x v w at unused new refs))

  -- The operation that the point carries is past, and the point is freed.
  module _ (e : ℕ) (may : MayRetire p v q e) where
    pub retired_past : d.op e ≡ 1
    retired_past = own.past_only e may.past

    pub retired_carries : Carries n e
    retired_carries = (own.taken q e may.carries).2

    pub none_bound : (a : ℕ) → d.op a ≢ q + 2
    none_bound a is = let same : a ≡ e = sym (k.rule.points.carried a q is).op ∙ retired_carries.op in let one : d.op a ≡ 1 = ap d.op same ∙ retired_past in omega arith

    still_taken : (a f : ℕ) → Carries (d.point a) f → (d.op f ≢ 0) ⊎ ((b : ℕ) × Carries (put d.point q 0 b) f)
    still_taken a f c = dite (ℕ_discrete a q)
        (λ is. let same : f ≡ e = sym c.op ∙ (ap (λ (z : ℕ). (parts (d.point z)).op) is ∙ retired_carries.op) in let one : d.op f ≡ 1 = ap d.op same ∙ retired_past in inl (λ z. omega arith))
        (λ ne. inr (a, stays_there d.point q 0 a f ne c))

    freed_shelf : OwnShelf p d.op (put d.point q 0) v.role v.owned (without_point q v.carrying) v.bound v.past
    freed_shelf = record {
      free = put_each d.point q 0 (λ a y. has v.owned a ≡ true → ((f : ℕ) → ¬ Lists (without_point q v.carrying) (reference a f)) → y ≡ 0) (λ l empty. refl)
          (λ a ne l empty. own.free a l (λ f m. empty f (kept_listed q (reference a f) v.carrying ne m)));
      taken = λ a f m. let left = left_listed q (reference a f) v.carrying m in let t = own.taken a f left.0 in (t.0, t.1, stays_there d.point q 0 a f left.1 t.2);
      complete = λ a f l. put_each d.point q 0 (λ b y. Carries y f → Lists (without_point q v.carrying) (reference b f)) (λ c. absurd (no_word 0 f refl c)) (λ b ne c. kept_listed q (reference b f) v.carrying ne (own.complete b f l c)) a;
      single = λ a b f m h. own.single a b f (left_listed q (reference a f) v.carrying m).0 (left_listed q (reference b f) v.carrying h).0;
      bound_all = own.bound_all;
      bound_only = own.bound_only;
      past_all = own.past_all;
      past_only = own.past_only;
    }

    retires_kept : (parts n).refs ≡ 0 → q < length p.ops → Kept p record { words = set s.words (point_word q) 0; homes = s.homes; views = set s.views id (retires v q n) }
    retires_kept unused inside = kept_replaced 0 (retires v q n) inside refl refl refl refl refl (own.taken q e may.carries).0 unused refl zero_word none_bound still_taken (λ role f ne c. absurd (no_word 0 f refl c)) (λ f c. absurd (no_word 0 f refl c)) (λ h. refl)
        (λ up. facts_stay d (record d { point = put d.point q 0 }) v.known up (k.rule.knowledge id v at)) freed_shelf

  -- The point carries nothing and the operation is unbound, and the point is given to it.
  module _ (e : ℕ) (may : MayAssign p v q e) where
    pub assigned_zero : n ≡ 0
    assigned_zero = own.free q may.owned may.free

    pub assigned_none : (a : ℕ) → ¬ Carries n a
    assigned_none a = no_word n a assigned_zero

    pub none_assigned : (a : ℕ) → d.op a ≢ q + 2
    none_assigned a is = assigned_none a (k.rule.points.carried a q is)

    assigned_unbound : d.op e ≡ 0
    assigned_unbound = dite (ℕ_discrete (d.op e) 0) (λ h. h) (λ ne. absurd (false≢true (sym may.unbound ∙ own.bound_all e may.shelf ne)))

    module _ (small : e < 2 ^ 32) where
      abbrev x : ℕ
      x = carrying_word e

      carried_one : (f : ℕ) → Carries x f → f ≡ e
      carried_one f c = sym c.op ∙ new_op e small

      carried_here : Carries (put d.point q x q) e
      carried_here = subst (λ (y : ℕ). Carries y e) (sym (put_here d.point q x)) (new_carries e small)

      carried_still : (a f : ℕ) → Carries (d.point a) f → Carries (put d.point q x a) f
      carried_still a f c = stays_there d.point q x a f (λ is. assigned_none f (subst (λ (z : ℕ). Carries (d.point z) f) is c)) c

      given_shelf : OwnShelf p d.op (put d.point q x) v.role v.owned (reference q e ∷ v.carrying) v.bound v.past
      given_shelf = record {
        free = put_each d.point q x (λ a y. has v.owned a ≡ true → ((f : ℕ) → ¬ Lists (reference q e ∷ v.carrying) (reference a f)) → y ≡ 0) (λ l empty. absurd (empty e (inl refl))) (λ a ne l empty. own.free a l (λ f m. empty f (inr m)));
        taken = λ a f. ⊎_elim
            (λ (h : reference q e ≡ reference a f). subst (λ (z : Reference). (has v.owned z.point ≡ true) × IsOfShelf p z.op v.role × Carries (put d.point q x z.point) z.op) h (may.owned, may.shelf, carried_here))
            (λ m. let t = own.taken a f m in (t.0, t.1, carried_still a f t.2));
        complete = λ a f l. put_each d.point q x (λ b y. Carries y f → Lists (reference q e ∷ v.carrying) (reference b f)) (λ c. inl (ap (reference q) (sym (carried_one f c)))) (λ b ne c. inr (own.complete b f l c)) a;
        single = λ a b f. ⊎_elim
            (λ (g : reference q e ≡ reference a f). ⊎_elim (λ (h : reference q e ≡ reference b f). ap (λ (z : Reference). z.point) (sym g ∙ h)) (λ m. absurd (may.pointless b (subst (λ (z : ℕ). Lists v.carrying (reference b z)) (ap (λ (z : Reference). z.op) (sym g)) m))))
            (λ m. ⊎_elim (λ (h : reference q e ≡ reference b f). absurd (may.pointless a (subst (λ (z : ℕ). Lists v.carrying (reference a z)) (ap (λ (z : Reference). z.op) (sym h)) m))) (λ l. own.single a b f m l));
        bound_all = own.bound_all;
        bound_only = own.bound_only;
        past_all = own.past_all;
        past_only = own.past_only;
      }

      assigns_kept : q < length p.ops → Kept p record { words = set s.words (point_word q) x; homes = s.homes; views = set s.views id (assigns v q e) }
      assigns_kept inside = kept_replaced x (assigns v q e) inside refl refl refl refl refl may.owned (ap (λ (z : ℕ). (parts z).refs) assigned_zero) (new_refs e small) (new_word e small)
          none_assigned (λ a f c. inr (a, carried_still a f c)) (λ role f ne c l. ne (one_shelf p e role v.role (subst (λ (z : ℕ). IsOfShelf p z role) (carried_one f c) l) may.shelf))
          (λ f c. (ap d.op (carried_one f c) ∙ assigned_unbound, new_clear e small)) (λ h. absurd (let l = k.rule.ownership.owned id v at q may.owned in omega arith))
          (λ up. (inr (q, carried_here), facts_stay d (record d { point = put d.point q x }) v.known up (k.rule.knowledge id v at))) given_shelf

-- The four steps

pub refers_point : (p : Plan) (slots id : ℕ) (m : Mine) (q e old : ℕ) → MayRefer p m.0 → Carries old e → q < length p.ops
    → Allows (Kept p) slots id m (point_word q) (λ n. either (eqb n old) (old + 2 ^ 32) n) (referred (step slots (point_word q) old (old + 2 ^ 32) none) m)
refers_point p slots id m q e old may carries inside s k deep at fits =
    let n : ℕ = (words_of s.words).point q in
    let v : View = m.0 in
    let Goes : ℕ → Type 0 = λ y. (w : View) × (a : Act LoggedBuffers) × Valid s.homes m.1 a × Kept p (stepped s (point_word q) y id m.1 w a) × referred (step slots (point_word q) old (old + 2 ^ 32) none) m n (w, carried_after m.1 a) in
    exchanged n old (old + 2 ^ 32) Goes
    (λ is. (
      refers v q (parts n).op n,
      keeps,
      tt,
      subst (λ (z : ℕ). Kept p record { words = set s.words (point_word q) (z + 2 ^ 32); homes = s.homes; views = set s.views id (refers v q (parts n).op n) }) is
          (refers_kept p s id q v k at may.room inside (ap (λ (z : ℕ). (parts z).held) is ∙ carries.held)),
      λ a same. let q_is : q ≡ a = omega arith in ((λ _. ap (λ (z : ℕ). (refers v z (parts n).op n, m.1)) q_is), λ ne. absurd (ne is)),
    ))
    (λ ne. (misses_point v q n, keeps, tt, kept_missed p s id q n v k at, λ a same. let q_is : q ≡ a = omega arith in ((λ is. absurd (ne is)), λ _. ap (λ (z : ℕ). (misses_point v z n, m.1)) q_is)))

pub unrefers_point : (p : Plan) (slots id : ℕ) (m : Mine) (q e old : ℕ) → Lists m.0.refs (reference q e) → Carries old e → q < length p.ops
    → Allows (Kept p) slots id m (point_word q) (λ n. either (eqb n old) (old - 2 ^ 32) n) (unreferred (step slots (point_word q) old (old - 2 ^ 32) none) m)
unrefers_point p slots id m q e old has carries inside s k deep at fits =
    let n : ℕ = (words_of s.words).point q in
    let v : View = m.0 in
    let Goes : ℕ → Type 0 = λ y. (w : View) × (a : Act LoggedBuffers) × Valid s.homes m.1 a × Kept p (stepped s (point_word q) y id m.1 w a) × unreferred (step slots (point_word q) old (old - 2 ^ 32) none) m n (w, carried_after m.1 a) in
    exchanged n old (old - 2 ^ 32) Goes
    (λ is. (
      unrefers v q (parts n).op n,
      keeps,
      tt,
      subst (λ (z : ℕ). Kept p record { words = set s.words (point_word q) (z - 2 ^ 32); homes = s.homes; views = set s.views id (unrefers v q (parts n).op n) }) is
          (unrefers_kept p s id q v k at (subst (λ (z : ℕ). Lists v.refs (reference q z)) (sym (ap (λ (z : ℕ). (parts z).op) is ∙ carries.op)) has) inside),
      λ a same. let q_is : q ≡ a = omega arith in ((λ _. ap (λ (z : ℕ). (unrefers v z (parts n).op n, m.1)) q_is), λ ne. absurd (ne is)),
    ))
    (λ ne. (misses_point v q n, keeps, tt, kept_missed p s id q n v k at, λ a same. let q_is : q ≡ a = omega arith in ((λ is. absurd (ne is)), λ _. ap (λ (z : ℕ). (misses_point v z n, m.1)) q_is)))

pub retires_point : (p : Plan) (slots id : ℕ) (m : Mine) (q e old : ℕ) → MayRetire p m.0 q e → (parts old).refs ≡ 0 → q < length p.ops
    → Allows (Kept p) slots id m (point_word q) (λ n. either (eqb n old) 0 n) (retired (step slots (point_word q) old 0 none) m)
retires_point p slots id m q e old may unused inside s k deep at fits =
    let n : ℕ = (words_of s.words).point q in
    let v : View = m.0 in
    let Goes : ℕ → Type 0 = λ y. (w : View) × (a : Act LoggedBuffers) × Valid s.homes m.1 a × Kept p (stepped s (point_word q) y id m.1 w a) × retired (step slots (point_word q) old 0 none) m n (w, carried_after m.1 a) in
    exchanged n old 0 Goes
    (λ is. (
      retires v q n,
      keeps,
      tt,
      retires_kept p s id q v k at e may (ap (λ (z : ℕ). (parts z).refs) is ∙ unused) inside,
      λ a same. let q_is : q ≡ a = omega arith in ((λ _. ap (λ (z : ℕ). (retires v z n, m.1)) q_is), λ ne. absurd (ne is)),
    ))
    (λ ne. (misses_point v q n, keeps, tt, kept_missed p s id q n v k at, λ a same. let q_is : q ≡ a = omega arith in ((λ is. absurd (ne is)), λ _. ap (λ (z : ℕ). (misses_point v z n, m.1)) q_is)))

pub assigns_point : (p : Plan) (slots id : ℕ) (m : Mine) (q e : ℕ) → MayAssign p m.0 q e → q < length p.ops → e < 2 ^ 32
    → Allows (Kept p) slots id m (point_word q) (λ _. carrying_word e) (λ _. assigned (step slots (point_word q) (carrying_word e) 0 none) m (carrying_word e))
assigns_point p slots id m q e may inside small s k deep at fits = (
  assigns m.0 q e,
  keeps,
  tt,
  assigns_kept p s id q m.0 k at e may small inside,
  λ a f same is. let q_is : q ≡ a = omega arith in let e_is : e ≡ f = omega arith in ap (λ (z : ℕ × ℕ). (assigns m.0 z.0 z.1, m.1)) (λ i. (q_is i, e_is i)),
)
