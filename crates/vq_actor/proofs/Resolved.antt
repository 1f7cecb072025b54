-- In a lawful plan something reaches what a job waits for.
use Rattle.std.proofs.Common.{◌≡◌, ℕ, suc, ◌+◌, ◌≤◌, ◌<◌, ◌⊎◌, ◌&&◌, not, max, nat_le, is_some, find, Bool, true}
use Rattle.std.proofs.Common.{false, if◌then◌else◌}
use Rattle.std.proofs.Common.{List, [], ◌∷◌, ◌++◌, length, map, filter, Some, All, refl, sym, subst, ap, ◌∙◌, arith}
use Rattle.std.proofs.Common.{inl, inr}
use Rattle.std.specs.List.{slice_get, list_all, list_any}
use Rattle.std.proofs.lemmas.Bool.{and_parts, or_left, or_right, or_cases, false≢true, leb-true, le-leb, lt-leb}
use Rattle.std.proofs.lemmas.Bool.{cases_lt}
use Rattle.std.proofs.lemmas.List.Elements.{All-nil, All-cons}
use Rattle.vq_ground.proofs.Lists.{has_cases}
use Rattle.vq_model.specs.declared.plan.Need.{Need}
use Rattle.vq_model.specs.Plan.{Plan, chain, value, initial, resolver, needs, waits_for_any}
use Rattle.vq_ground.specs.Lists.{has}
use Rattle.vq_model.specs.Edges.{AtEnd}
use Rattle.vq_model.specs.Machine.{are_reached, is_reached, can_start}
use Rattle.vq_model.specs.SlowRun.{left_over, is_ready, payload_after, is_of, greatest}
use Rattle.vq_order_laws.proofs.Cited.{ReadyEach, slow_adds, slow_has}
use Rattle.vq_actor.specs.Waits.{is_resolved}

module _ (p : Plan) where
  abbrev reaches : ℕ → ℕ → Bool
  reaches v e = nat_le v (value p e)

  -- a value that a chain has come to is the initial one or less, or an operation has it
  come_to : (test : ℕ → Bool) (es : List ℕ) (n v : ℕ) → v ≤ greatest n (map (value p) (filter test es)) →
      (v ≤ n) ⊎ (is_some (find (reaches v) es) ≡ true)
  come_to test [] n v h = inl h
  come_to test (e ∷ es) n v h =
      by_value (cases_lt (value p e) v) (test e) (come_to test es n v) (come_to test es (max n (value p e)) v) h
    where
      Reached : ℕ → Type 0
      Reached m = (v ≤ m) ⊎ (is_some (find (reaches v) es) ≡ true)

      later : value p e < v → (v ≤ n) ⊎ (is_some (find (reaches v) es) ≡ true) →
          (v ≤ n) ⊎ (is_some (find (reaches v) (e ∷ es)) ≡ true)
      later l (inl le) = inl le
      later l (inr is) =
          inr (ap (λ b. is_some (if b then Some e else find (reaches v) es)) (lt-leb v (value p e) l) ∙ is)

      below : value p e < v → (v ≤ max n (value p e)) ⊎ (is_some (find (reaches v) es) ≡ true) →
          (v ≤ n) ⊎ (is_some (find (reaches v) es) ≡ true)
      below l (inl le) = inl (omega (arith, le, l))
      below l (inr is) = inr is

      by_value : (value p e < v) ⊎ (v ≤ value p e) → (b : Bool) →
          (v ≤ greatest n (map (value p) (filter test es)) → (v ≤ n) ⊎ (is_some (find (reaches v) es) ≡ true)) →
          (v ≤ greatest (max n (value p e)) (map (value p) (filter test es)) →
          (v ≤ max n (value p e)) ⊎ (is_some (find (reaches v) es) ≡ true)) →
          v ≤ greatest n (map (value p) (if b then e ∷ filter test es else filter test es)) →
          (v ≤ n) ⊎ (is_some (find (reaches v) (e ∷ es)) ≡ true)
      by_value (inr le) b f g h =
          inr (ap (λ b'. is_some (if b' then Some e else find (reaches v) es)) (le-leb v (value p e) le))
      by_value (inl l) true f g h = later l (below l (g h))
      by_value (inl l) false f g h = later l (f h)

  abbrev resolved : Need → Bool
  resolved n = is_resolved p n.chain n.value

  -- what is reached when some jobs are done is resolved
  reached_resolved : (done : List ℕ) (n : Need) → is_reached (payload_after p done) n ≡ true → resolved n ≡ true
  reached_resolved done n h =
      either (come_to (is_of p done) (chain p n.chain) (initial p n.chain) n.value
      (leb-true n.value (payload_after p done n.chain) h))
    where
      either : (n.value ≤ initial p n.chain) ⊎ (is_some (resolver p n.chain n.value) ≡ true) → resolved n ≡ true
      either (inl le) =
          or_left (nat_le n.value (initial p n.chain)) (is_some (resolver p n.chain n.value))
          (le-leb n.value (initial p n.chain) le)
      either (inr is) = or_right (nat_le n.value (initial p n.chain)) (is_some (resolver p n.chain n.value)) is

  all_resolved : (done : List ℕ) (ns : List Need) → list_all (is_reached (payload_after p done)) ns ≡ true →
      All (λ n. resolved n ≡ true) ns
  all_resolved done [] h = All-nil (λ n. resolved n ≡ true)
  all_resolved done (n ∷ ns) h =
      let parts = and_parts (is_reached (payload_after p done) n) (list_all (is_reached (payload_after p done)) ns) h in
      All-cons (λ m. resolved m ≡ true) n ns (reached_resolved done n parts.0) (all_resolved done ns parts.1)

  -- one of the needs is resolved
  pub record HasResolved (ns : List Need) : Type 0 where
    pub place : ℕ
    pub need : Need
    pub at : slice_get ns place ≡ Some need
    pub is : resolved need ≡ true

  any_resolved : (done : List ℕ) (ns : List Need) → list_any (is_reached (payload_after p done)) ns ≡ true →
      HasResolved ns
  any_resolved done [] h = absurd (false≢true h)
  any_resolved done (n ∷ ns) h =
      either (or_cases (is_reached (payload_after p done) n) (list_any (is_reached (payload_after p done)) ns) h)
      (any_resolved done ns)
    where
      either : (is_reached (payload_after p done) n ≡ true) ⊎ (list_any (is_reached (payload_after p done)) ns ≡ true) →
          (list_any (is_reached (payload_after p done)) ns ≡ true → HasResolved ns) → HasResolved (n ∷ ns)
      either (inl is) f = record { place = 0; need = n; at = refl; is = reached_resolved done n is }
      either (inr is) f =
          let r = f is in
          let more : r.place + 1 ≡ suc r.place = omega arith in
          record { place = suc r.place; need = r.need; at = r.at; is = r.is }

  -- each job of a slow run was ready when it was done
  was_ready : (done js : List ℕ) (j : ℕ) → ReadyEach p done js → has js j ≡ true →
      (before : List ℕ) × (is_ready p before j ≡ true)
  was_ready done [] j r h = absurd (false≢true h)
  was_ready done (i ∷ js) j r h = either (has_cases i js j h) (was_ready (done ++ i ∷ []) js j r.2)
    where
      either : (i ≡ j) ⊎ (has js j ≡ true) → (has js j ≡ true → (before : List ℕ) × (is_ready p before j ≡ true)) →
          (before : List ℕ) × (is_ready p before j ≡ true)
      either (inl same) f = (done, subst (λ (k : ℕ). is_ready p done k ≡ true) same r.0)
      either (inr m) f = f m

  -- All needs of a job are resolved, or one of them where it waits for any.
  pub record Resolves (j : ℕ) : Type 0 where
    pub all : waits_for_any p j ≡ false → All (λ n. resolved n ≡ true) (needs p j)
    pub any : waits_for_any p j ≡ true → HasResolved (needs p j)

  resolves_at : (done : List ℕ) (j : ℕ) → is_ready p done j ≡ true → Resolves j
  resolves_at done j h =
      let reached = (and_parts (not (has done j) && can_start p (has done) (payload_after p done) j)
      (are_reached p (payload_after p done) j AtEnd) h).1 in
      record {
        all = λ e. all_resolved done (needs p j)
            (sym (ap (λ b. if b then list_any (is_reached (payload_after p done)) (needs p j)
            else list_all (is_reached (payload_after p done)) (needs p j)) e) ∙ reached);
        any = λ e. any_resolved done (needs p j)
            (sym (ap (λ b. if b then list_any (is_reached (payload_after p done)) (needs p j)
            else list_all (is_reached (payload_after p done)) (needs p j)) e) ∙ reached);
      }

  pub job_resolves : left_over p ≡ [] → (j : ℕ) → j < length p.jobs → Resolves j
  job_resolves none j l =
      let a = slow_adds p (length p.jobs) [] in
      let r = was_ready [] a.rest j a.each (sym (ap (λ js. has js j) a.whole) ∙ slow_has p none j l) in
      resolves_at r.0 j r.1
