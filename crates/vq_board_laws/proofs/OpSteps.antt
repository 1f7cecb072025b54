-- The steps on an operation's word keep the rule: the look, bind and complete.
use Rattle.std.proofs.Common.{◌≡◌, ◌≢◌, ◌⊎◌, ℕ, zero, suc, ◌+◌, ◌-◌, ◌<◌, true, false, List, ◌∷◌, ◌++◌, length, set, refl, ap, sym, ◌∙◌, subst, arith, inl, inr, drop, lt-ltb, ne_eqb}
use mathlib.Core.Option.{some, none}
use mathlib.Core.Logic.{dite}
use native.Mathlib.Decide.{ℕ_discrete}
use Rattle.std.proofs.lemmas.Bool.{false≢true}
use lib.ListN.{get_elem?}
use Rattle.atomic_table.specs.Table.{State, step, keeps, Allows}
use Rattle.vq_model.specs.Plan.{Plan, signals_of}
use Rattle.vq_ground.specs.Lists.{has}
use Rattle.vq_model.specs.Machine.{put}
use Rattle.vq_ground.proofs.Lists.{has_here, has_there, has_cases}
use Rattle.vq_model.proofs.Puts.{put_here}
use Rattle.vq_point_laws.specs.PointWord.{parts}
use Rattle.vq_board_laws.specs.declared.view.View.{View}
use Rattle.vq_board_laws.specs.declared.view.LoggedBuffers.{LoggedBuffers}
use Rattle.vq_board_laws.specs.declared.view.OpState.{OpState}
use Rattle.vq_board_laws.specs.declared.view.OpState.TheVariants.{Unbound as UnboundOp, Bound as BoundOp, Past as PastOp}
use Rattle.vq_board_laws.specs.declared.view.Fact.{Fact}
use Rattle.vq_board_laws.specs.declared.view.Fact.TheVariants.{BoundTo, Past}
use Rattle.vq_board_laws.specs.Words.{Words, words_of, op_word, made_of, shown, is_made, Carries}
use Rattle.vq_board_laws.specs.Knowledge.{AreSo, IsSo, Knows, KnowsMade}
use Rattle.vq_board_laws.specs.Points.{IsOfShelf}
use Rattle.vq_board_laws.specs.PointSteps.{op_number, op_facts, op_unmade, recalls, recalled, binds, bound_op, completes, completed}
use Rattle.vq_board_laws.specs.MayPoints.{MaySignal, MayBind, MayComplete}
use Rattle.vq_board_laws.specs.RunLaws.{RunLaws}
use Rattle.vq_board_laws.specs.Rule.{Kept}
use Rattle.vq_board_laws.specs.Steps.{Mine}
use Rattle.vq_board_laws.proofs.Columns.{put_each}
use Rattle.vq_board_laws.proofs.Frames.{so_of, facts_both, facts_stay, kept_load}
use Rattle.vq_board_laws.proofs.MadeWords.{bound_value, unbound_value, past_value, unsignaled_value, made_bit, made_op}
use Rattle.vq_board_laws.proofs.Needs.{knows_made}
use Rattle.vq_board_laws.proofs.Notes.{reached_notes}
use Rattle.vq_board_laws.proofs.OpParts.{kept_op, so_op, points_reop, op_rule}
use Rattle.vq_board_laws.proofs.Shares.{carried_below}
use Rattle.vq_board_laws.proofs.Taken.{drop_next}

-- A look

-- the state that an operation's word says
abbrev op_state : ℕ → OpState
op_state zero = UnboundOp
op_state (suc zero) = PastOp
op_state (suc (suc q)) = BoundOp q

number_of_op : (n : ℕ) → n ≡ op_number (op_state n)
number_of_op zero = refl
number_of_op (suc zero) = refl
number_of_op (suc (suc q)) = omega arith

-- the number of a state says the state
state_of_op : (s : OpState) → op_state (op_number s) ≡ s
state_of_op UnboundOp = refl
state_of_op PastOp = refl
state_of_op (BoundOp q) = let number : q + 2 ≡ suc (suc q) = omega arith in ap op_state number

pub op_number_is : (s t : OpState) → op_number s ≡ op_number t → s ≡ t
op_number_is s t same = sym (state_of_op s) ∙ (ap op_state same ∙ state_of_op t)

-- the facts that the word shows are so
op_facts_so : (d : Words) (e : ℕ) (s : OpState) → d.op e ≡ op_number s → AreSo d (op_facts e s)
op_facts_so d e UnboundOp is = tt
op_facts_so d e PastOp is = (is, ((λ z. omega arith), tt))
op_facts_so d e (BoundOp q) is = (inl is, ((λ z. omega arith), tt))

-- what the word shows unmade is unmade
op_unmade_so : (d : Words) (e a : ℕ) (s : OpState) (unmade : List ℕ) → d.op e ≡ op_number s → has (op_unmade e s ++ unmade) a ≡ true → (has unmade a ≡ true) ⊎ (made_of d a ≡ false)
op_unmade_so d e a UnboundOp unmade is h = elim (has_cases e unmade a h) [
  | inl same ↦ inr (subst (λ (z : ℕ). made_of d z ≡ false) same (unbound_value d.op d.point e is))
  | inr m ↦ inl m
]
op_unmade_so d e a PastOp unmade is h = inl h
op_unmade_so d e a (BoundOp q) unmade is h = inl h

-- where the word is bound to the point or past, so is its state
bound_or_past : (n q : ℕ) → (n ≡ q + 2) ⊎ (n ≡ 1) → (op_state n ≡ BoundOp q) ⊎ (op_state n ≡ PastOp)
bound_or_past n q (inl bound) = inl (ap op_state bound ∙ state_of_op (BoundOp q))
bound_or_past n q (inr past) = inr (ap op_state past)

pub recalls_op : (p : Plan) (slots id : ℕ) (m : Mine) (e : ℕ) → RunLaws p → Allows (Kept p) slots id m (op_word e) (λ n. n) (recalled (step slots (op_word e) 0 0 none) m)
recalls_op p slots id m e laws s k deep at fits =
    let d : Words = words_of s.words in
    let r = k.rule in
    let v : View = m.0 in
    let n : ℕ = d.op e in
    let now : OpState = op_state n in
    let number : n ≡ op_number now = number_of_op n in
    let w : View = recalls v e now in
    let plan : v.plan ≡ p = r.ownership.plans id v at in (
      w,
      keeps,
      tt,
      kept_load p s (op_word e) id v w k at refl refl refl refl refl (facts_both d (op_facts e now) v.known (op_facts_so d e now number) (r.knowledge id v at))
          (reached_notes p laws (shown p d) d.job s.views id v w r.run at refl refl (λ a h. op_unmade_so d e a now v.unmade number h)),
      λ a same. let is : e ≡ a = omega arith in (
        now,
        number,
        ap (λ (z : ℕ). (recalls v z now, m.1)) is,
        (λ q bound. subst (λ (z : Plan). q < length z.ops) (sym plan) (carried_below p d.count s.views r.ownership d.op d.point e q r.points (r.points.carried e q (number ∙ ap op_number bound)))),
        (λ may past.
            let next : MaySignal p v e = subst (λ (z : Plan). MaySignal z v e) plan (subst (λ (z : ℕ). MaySignal v.plan v z) (sym is) may) in
            let unmade : made_of d e ≡ false = (r.jobs.own id v at).0.later_signals next.job e next.runs
            (subst (λ (es : List ℕ). has es e ≡ true) (sym (drop_next (signals_of p next.job) v.signaled e next.next)) (has_here e (drop (suc v.signaled) (signals_of p next.job)))) in
            let made : made_of d e ≡ true = past_value d.op d.point e (number ∙ ap op_number past) in
            false≢true (sym unmade ∙ made)),
        (λ unbound known.
            let here : KnowsMade p v.known e = subst (λ (z : Plan). KnowsMade z v.known e) plan (subst (λ (z : ℕ). KnowsMade v.plan v.known z) (sym is) known) in
            let made = knows_made p d s.views v.known e laws r.run (r.knowledge id v at) here in
            false≢true (sym (unbound_value d.op d.point e (number ∙ ap op_number unbound)) ∙ made)),
        (λ known. ap op_state (so_of d v.known (Past e) (r.knowledge id v at) (subst (λ (z : ℕ). Knows v.known (Past z)) (sym is) known))),
        (λ q known. bound_or_past n q (so_of d v.known (BoundTo e q) (r.knowledge id v at) (subst (λ (z : ℕ). Knows v.known (BoundTo z q)) (sym is) known))),
      ),
    )

-- Bind

module _ (p : Plan) (s : State LoggedBuffers View) (id e q : ℕ) (v : View) (k : Kept p s) (at : get_elem? s.views id ≡ some v) (may : MayBind p v e q) where
  abbrev d : Words
  d = words_of s.words

  -- the operation is unbound, and its point unsignaled
  unbound_still : d.op e ≡ 0
  unbound_still = let own = k.rule.points.shelves id v at in dite (ℕ_discrete (d.op e) 0) (λ h. h) (λ ne. absurd (false≢true (sym may.unbound ∙ own.bound_all e (own.taken q e may.carries).1 ne)))

  -- as much is made after it
  pub bound_made : is_made (put d.op e (q + 2)) d.point ≡ made_of d
  bound_made =
      let carries : Carries (d.point q) e = ((k.rule.points.shelves id v at).taken q e may.carries).2 in
      let clear : (parts (d.point q)).signaled ≡ false = k.rule.points.clear q e carries unbound_still in
      let minus : q + 2 - 2 ≡ q = omega arith in
      made_op d.op d.point e (q + 2) (rw (ne_eqb (q + 2) 1 (λ h. omega arith), lt-ltb 1 (q + 2) (omega arith), minus) (unsignaled_value (d.point q) e carries clear) ∙ sym (unbound_value d.op d.point e unbound_still))

pub binds_op : (p : Plan) (slots id : ℕ) (m : Mine) (e q : ℕ) → MayBind p m.0 e q → e < length p.ops → Allows (Kept p) slots id m (op_word e) (λ _. q + 2) (λ _. bound_op (step slots (op_word e) (q + 2) 0 none) m (q + 2))
binds_op p slots id m e q may inside s k deep at fits =
    let d : Words = words_of s.words in
    let r = k.rule in
    let v : View = m.0 in
    let w : View = binds v e q in
    let own = r.points.shelves id v at in
    let t = own.taken q e may.carries in
    let shelf : IsOfShelf p e v.role = t.1 in
    let carries : Carries (d.point q) e = t.2 in
    let zero_word = unbound_still p s id e q v k at may in
    let same = bound_made p s id e q v k at may in
    let up : (f : Fact) → IsSo d f → IsSo (record d { op = put d.op e (q + 2) }) f =
    so_op d e (q + 2) same (λ h. omega arith) (λ a h. absurd (elim h [ inl g ↦ omega arith | inr g ↦ omega arith ])) (λ h. absurd (omega arith)) in
    let here : put d.op e (q + 2) e ≡ q + 2 = put_here d.op e (q + 2) in (
      w,
      keeps,
      tt,
      kept_op p s e (q + 2) (set s.views id w) k inside (op_rule p d s.homes s.views id e (q + 2) v w r at same up
          (inl here, ((λ z. omega arith), facts_stay d (record d { op = put d.op e (q + 2) }) v.known up (r.knowledge id v at)))
          refl refl refl refl refl
          (points_reop p d.op d.point d.count s.views id e (q + 2) v w r.points r.ownership.roles at shelf (λ h. omega arith) (λ h. absurd (omega arith))
          (λ b is. let b_is : q ≡ b = omega arith in subst (λ (z : ℕ). Carries (d.point z) e) b_is carries)
          (λ b c. inl (ap (λ (z : ℕ). z + 2) (own.single q b e may.carries (own.complete b e shelf c))))
          (λ b c is. absurd (omega arith))
          record {
            free = own.free;
            taken = own.taken;
            complete = own.complete;
            single = own.single;
            bound_all = put_each d.op e (q + 2) (λ b y. IsOfShelf p b v.role → y ≢ 0 → has (e ∷ v.bound) b ≡ true) (λ _ _. has_here e v.bound) (λ b _ l h. has_there e v.bound b (own.bound_all b l h));
            bound_only = put_each d.op e (q + 2) (λ b y. has (e ∷ v.bound) b ≡ true → IsOfShelf p b v.role × (y ≢ 0)) (λ _. (shelf, λ h. omega arith))
                (λ b ne h. elim (has_cases e v.bound b h) [ inl is ↦ absurd (ne (sym is)) | inr g ↦ own.bound_only b g ]);
            past_all = put_each d.op e (q + 2) (λ b y. IsOfShelf p b v.role → y ≡ 1 → has v.past b ≡ true) (λ _ h. absurd (omega arith)) (λ b _. own.past_all b);
            past_only = put_each d.op e (q + 2) (λ b y. has v.past b ≡ true → y ≡ 1) (λ h. absurd (let one = own.past_only e h in omega arith)) (λ b _. own.past_only b);
          })),
      λ a b is is'. let a_is : e ≡ a = omega arith in let b_is : q ≡ b = omega arith in ap (λ (z : ℕ × ℕ). (binds v z.0 z.1, m.1)) (λ i. (a_is i, b_is i)),
    )

-- Complete

pub completes_op : (p : Plan) (slots id : ℕ) (m : Mine) (e : ℕ) → RunLaws p → MayComplete p m.0 e → e < length p.ops → Allows (Kept p) slots id m (op_word e) (λ _. 1) (λ _. completed (step slots (op_word e) 1 0 none) m 1)
completes_op p slots id m e laws may inside s k deep at fits =
    let d : Words = words_of s.words in
    let r = k.rule in
    let v : View = m.0 in
    let w : View = completes v e in
    let own = r.points.shelves id v at in
    let made : made_of d e ≡ true = knows_made p d s.views v.known e laws r.run (r.knowledge id v at) may.signaled in
    let some_word : d.op e ≢ 0 = (own.bound_only e may.bound).1 in
    let pending : d.op e ≢ 1 = λ one. false≢true (sym may.pending ∙ own.past_all e may.shelf one) in
    let same : is_made (put d.op e 1) d.point ≡ made_of d = made_op d.op d.point e 1 (sym made) in
    let up : (f : Fact) → IsSo d f → IsSo (record d { op = put d.op e 1 }) f = so_op d e 1 same (λ h. omega arith) (λ a h. inr refl) (λ h. refl) in (
      w,
      keeps,
      tt,
      kept_op p s e 1 (set s.views id w) k inside (op_rule p d s.homes s.views id e 1 v w r at same up
          (put_here d.op e 1, facts_stay d (record d { op = put d.op e 1 }) v.known up (r.knowledge id v at))
          refl refl refl refl refl
          (points_reop p d.op d.point d.count s.views id e 1 v w r.points r.ownership.roles at may.shelf (λ h. omega arith) (λ h. refl)
          (λ b is. absurd (omega arith))
          (λ b c. inr refl)
          (λ b c _. elim (r.points.home b e c) [
            | inl nothing ↦ absurd (some_word nothing)
            | inr t ↦ elim t [
              | inl to ↦ made_bit (d.point b) e (sym (bound_value d.op d.point e b to) ∙ made)
              | inr one ↦ absurd (pending one)
            ]
          ])
          record {
            free = own.free;
            taken = own.taken;
            complete = own.complete;
            single = own.single;
            bound_all = put_each d.op e 1 (λ b y. IsOfShelf p b v.role → y ≢ 0 → has v.bound b ≡ true) (λ _ _. may.bound) (λ b _. own.bound_all b);
            bound_only = put_each d.op e 1 (λ b y. has v.bound b ≡ true → IsOfShelf p b v.role × (y ≢ 0)) (λ _. (may.shelf, λ h. omega arith)) (λ b _. own.bound_only b);
            past_all = put_each d.op e 1 (λ b y. IsOfShelf p b v.role → y ≡ 1 → has (e ∷ v.past) b ≡ true) (λ _ _. has_here e v.past) (λ b _ l h. has_there e v.past b (own.past_all b l h));
            past_only = put_each d.op e 1 (λ b y. has (e ∷ v.past) b ≡ true → y ≡ 1) (λ _. refl) (λ b ne h. elim (has_cases e v.past b h) [ inl is ↦ absurd (ne (sym is)) | inr g ↦ own.past_only b g ]);
          })),
      λ a is. let a_is : e ≡ a = omega arith in ap (λ (z : ℕ). (completes v z, m.1)) a_is,
    )
