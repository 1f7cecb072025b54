-- Waits in a program, and what is known of a job while tasks go by.
use Rattle.std.proofs.lemmas.Bool.{and_parts, or_cases, or_left, or_parts, eq-eqb, and_from, false≢true}
use Rattle.std.proofs.Common.{◌≡◌, ℕ, ◌<◌, ◌≤◌, ◌+◌, Bool, true, false, eqb, List, [], ◌∷◌, ◌++◌, length, map, filter}
use Rattle.std.proofs.Common.{refl, sym, subst, ap, ◌∙◌, inl, inr, ◌||◌, not, cond, arith, if◌then◌else◌, ◌==◌}
use Rattle.std.specs.List.{count_by, list_any, list_all, position_or_len, prefix_len}
use Rattle.vq_model.specs.declared.script.ActorName.{ActorName}
use Rattle.vq_model.specs.declared.plan.Need.{Need}
use Rattle.vq_model.specs.Plan.{Plan}
use Rattle.vq_ground.specs.Lists.{has, AreRising}
use Rattle.vq_ground.proofs.Lists.{has_here, has-append_right}
use Rattle.vq_point_laws.specs.Points.{resolves, needs_resolved}
use Rattle.vq_turns.specs.declared.task.Task.{Task}
use Rattle.vq_turns.specs.declared.task.Task.TheVariants.{AwaitReleased, AwaitNeeds, Start, Finish}
use Rattle.vq_turn_laws.specs.Orders.{waited_since, Within, Behind, InJob, AsksWait}
use Rattle.vq_turn_laws.specs.Tasks.{onto, Among}
use Rattle.vq_history_laws.proofs.Cited.{count_cons}
use Rattle.vq_turn_laws.proofs.ProgramLaws.{InPart, among_onto, among_right}

-- Needs in lists

pub within_filter : (test : Need → Bool) (ns : List Need) (n : Need) → Within n (filter test ns) →
    Within n ns × (test n ≡ true)
within_filter test [] n h = absurd h
within_filter test (m ∷ ms) n h = by_test (test m) refl h (within_filter test ms n)
  where
    by_test : (b : Bool) → test m ≡ b → Within n (if b then m ∷ filter test ms else filter test ms) →
        (Within n (filter test ms) → Within n ms × (test n ≡ true)) → Within n (m ∷ ms) × (test n ≡ true)
    by_test true e (inl s) f = (inl s, subst (λ (z : Need). test z ≡ true) s e)
    by_test true e (inr r) f = let x = f r in (inr x.0, x.1)
    by_test false e r f = let x = f r in (inr x.0, x.1)

pub filter_within : (test : Need → Bool) (ns : List Need) (n : Need) → Within n ns → test n ≡ true →
    Within n (filter test ns)
filter_within test [] n h t = absurd h
filter_within test (m ∷ ms) n h t = by_test (test m) refl h (λ r. filter_within test ms n r t)
  where
    by_test : (b : Bool) → test m ≡ b → Within n (m ∷ ms) → (Within n ms → Within n (filter test ms)) →
        Within n (if b then m ∷ filter test ms else filter test ms)
    by_test true e (inl s) f = inl s
    by_test true e (inr r) f = inr (f r)
    by_test false e (inl s) f = absurd (false≢true (sym e ∙ (ap test s ∙ t)))
    by_test false e (inr r) f = f r

pub any_within : (test : Need → Bool) (ns : List Need) → list_any test ns ≡ true →
    (n : Need) × Within n ns × (test n ≡ true)
any_within test [] h = absurd (false≢true h)
any_within test (m ∷ ms) h =
    elim (or_cases (test m) (list_any test ms) h) [
      | inl t ↦ (m, inl refl, t)
      | inr r ↦ let x = any_within test ms r in (x.0, inr x.1, x.2)
    ]

pub within_any : (test : Need → Bool) (ns : List Need) (n : Need) → Within n ns → test n ≡ true →
    list_any test ns ≡ true
within_any test [] n h t = absurd h
within_any test (m ∷ ms) n (inl e) t = or_left (test m) (list_any test ms) (ap test e ∙ t)
within_any test (m ∷ ms) n (inr r) t = right (test m) (within_any test ms n r t)
  where
    right : (b : Bool) → list_any test ms ≡ true → (b || list_any test ms) ≡ true
    right true h = refl
    right false h = h

pub all_within : (test : Need → Bool) (ns : List Need) → ((n : Need) → Within n ns → test n ≡ true) →
    list_all test ns ≡ true
all_within test [] f = refl
all_within test (m ∷ ms) f = and_from (test m) (list_all test ms) (f m (inl refl))
    (all_within test ms (λ n w. f n (inr w)))

pub all_of : (test : Need → Bool) (ns : List Need) (n : Need) → list_all test ns ≡ true → Within n ns → test n ≡ true
all_of test [] n h w = absurd w
all_of test (m ∷ ms) n h (inl e) = subst (λ (z : Need). test z ≡ true) e (and_parts (test m) (list_all test ms) h).0
all_of test (m ∷ ms) n h (inr r) = all_of test ms n (and_parts (test m) (list_all test ms) h).1 r

abbrev pub wait : Need → Task
wait n = AwaitNeeds (n ∷ [])

pub among_waits : (ns : List Need) (n : Need) → Within n ns → Among (wait n) (map wait ns)
among_waits [] n h = absurd h
among_waits (m ∷ ms) n (inl e) = inl (ap wait e)
among_waits (m ∷ ms) n (inr r) = inr (among_waits ms n r)

-- Rising numbers

pub rising_apart : (front : List ℕ) (c : ℕ) (back : List ℕ) → AreRising (front ++ c ∷ back) → has front c ≡ false
rising_apart [] c back r = refl
rising_apart (x ∷ xs) c back r =
    let less : x < c = r.0 c (has-append_right xs (c ∷ back) c (has_here c back)) in
    differ (eqb x c) (ne x c less) (rising_apart xs c back r.1)
  where
    ne : (x c : ℕ) → x < c → eqb x c ≡ false
    ne x c l = grind arith

    differ : (b : Bool) → b ≡ false → has xs c ≡ false → (b || has xs c) ≡ false
    differ true e h = absurd (false≢true (sym e))
    differ false e h = h

pub position : (front : List ℕ) (c : ℕ) (back : List ℕ) → has front c ≡ false →
    position_or_len (λ d. d == c) (front ++ c ∷ back) ≡ length front
position [] c back h = ap (λ b. cond (not b) (1 + prefix_len (λ d. not (d == c)) back) 0) (eq-eqb c c refl)
position (x ∷ xs) c back h =
    let parts = or_parts (eqb x c) (has xs c) h in
    let rest : position_or_len (λ d. d == c) (xs ++ c ∷ back) ≡ length xs = position xs c back parts.1 in
    let here : position_or_len (λ d. d == c) (x ∷ (xs ++ c ∷ back)) ≡ 1 + position_or_len (λ d. d == c)
    (xs ++ c ∷ back) = ap (λ b. cond (not b) (1 + position_or_len (λ d. d == c) (xs ++ c ∷ back)) 0) parts.0 in
    omega arith

-- What stands before grows, and what stands behind too.

pub behind_more : (xs : List ℕ) (x : ℕ) (task : ℕ → Task) (ts before : List Task) → Behind xs x task before →
    Behind xs x task (onto ts before)
behind_more xs x task ts before k =
    record {
      front = k.front;
      back = k.back;
      whole = k.whole;
      earlier = λ y m. among_onto (task y) ts before
          (k.earlier y m);
    }

module _ (p : Plan) (a : ActorName) (j : ℕ) (source : List Need) where
  pub later : (before ys left : List Task) → InJob p a before left j source → InJob p a before (ys ++ left) j source
  later before ys left k =
      record {
        lane = k.lane;
        of_actor = k.of_actor;
        behind = k.behind;
        unfinished = among_right (Finish j) ys left k.unfinished;
        released = k.released;
        stage = elim k.stage [ inl m ↦ inl (among_right (Start j) ys left m.0, m.1) | inr m ↦ inr m ];
      }

  pub more : (ts before left : List Task) → InJob p a before left j source → InJob p a (onto ts before) left j source
  more ts before left k =
      record {
        lane = k.lane;
        of_actor = k.of_actor;
        behind = record {
          front = k.behind.front;
          back = k.behind.back;
          whole = k.behind.whole;
          earlier = λ y m.
              among_onto (Finish y) ts before (k.behind.earlier y m);
        };
        unfinished = k.unfinished;
        released = λ h. among_onto (AwaitReleased j) ts before (k.released h);
        stage = elim k.stage [ inl m ↦ inl m | inr m ↦ inr (among_onto (Start j) ts before m.0, m.1) ];
      }

  -- the needs of a job that are waited for, these among them, are needs of it
  abbrev pub HasRoom : List Task → List Need → Type 0
  HasRoom before ns = (e : ℕ) → waited_since p e before + count_by (resolves p e) ns ≤ needs_resolved p j e

  pub one_wait : (before left : List Task) (ns : List Need) → InJob p a before left j source →
      ((n : Need) → Within n ns → Within n source) → HasRoom before ns → AsksWait p a before ns left
  one_wait before left ns k f r = record { job = j; source = source; in_job = k; inside = f; room = r }

  pub waits_each : (ns : List Need) (before left : List Task) → InJob p a before left j source →
      ((n : Need) → Within n ns → Within n source) → HasRoom before ns → InPart p a before (map wait ns) left
  waits_each [] before left k f r = tt
  waits_each (n ∷ ns) before left k f r = (
    one_wait before (map wait ns ++ left) (n ∷ []) (later before (map wait ns) left k)
        (λ m w. elim w [ inl e ↦ f m (inl e) | inr o ↦ absurd o ])
        (λ e. let x = count_cons (resolves p e) n ns in let y = count_cons
        (resolves p e) n [] in let z = r e in omega arith),
    waits_each ns (wait n ∷ before) left (more (wait n ∷ []) before left k) (λ m w. f m (inr w))
        (λ e. let x = count_cons (resolves p e) n ns in let y = count_cons
        (resolves p e) n [] in let z = r e in omega arith),
  )
