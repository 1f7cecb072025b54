-- The list of a job's edges holds what the four reasons say.
use Rattle.std.proofs.Common.{◌≡◌, ℕ, Bool, true, List, Some, zero, suc, false, [], ◌∷◌, filter, None, refl, sym, ap, ◌∙◌, Option, inl, inr, ltb, ◌<◌, leb, ◌++◌}
use Rattle.std.specs.List.{slice_get, filter_map, cons_option}
use Rattle.vq_model.specs.declared.plan.Need.{Need}
use Rattle.std.proofs.lemmas.Bool.{cond-true, cond-false, false≢true, ltb-true, lt-ltb}
use Rattle.vq_model.specs.Plan.{Plan, resolver, initial, previous, host_before, idle_after, needs, waits_for_any, job_of}
use Rattle.vq_ground.specs.Lists.{has}
use Rattle.vq_ground.proofs.Lists.{has_cases, has_here, has_there, has-append_cases, has-append_left, has-append_right, in_option}
use Rattle.std.specs.Option.{option_to_list}
use Rattle.vq_model.specs.Edges.{Stage, At, AtEnd, must_finish, needs_at, awaited_at, edges_at}
use Rattle.vq_model.specs.EdgeReasons.{holds_back, EdgeAt, by_lane, by_host, by_need, by_idle}
use Rattle.vq_ground.proofs.Mapped.{has_mapped, mapped}

-- Lists of needs

-- an element of a filtered list
record Filtered (test : Need → Bool) (ns : List Need) (n : Need) : Type 0 where
  place : ℕ
  is : slice_get ns place ≡ Some n
  passes : test n ≡ true

filtered : (test : Need → Bool) (ns : List Need) (place : ℕ) (n : Need) → slice_get (filter test ns) place ≡ Some n → Filtered test ns n
filtered test [] place n h = absurd (let c : None ≡ Some n = h in cc)
filtered test (m ∷ ns) place n h = by_test (test m) refl place h (filtered test ns)
  where
    later : Filtered test ns n → Filtered test (m ∷ ns) n
    later f = record { place = suc f.place; is = f.is; passes = f.passes }

    at_place : (place : ℕ) → test m ≡ true → slice_get (m ∷ filter test ns) place ≡ Some n → ((place : ℕ) (k : Need) → slice_get (filter test ns) place ≡ Some k → Filtered test ns k) → Filtered test (m ∷ ns) n
    at_place zero e h f = let c : m ≡ n = cc in record { place = 0; is = h; passes = ap test (sym c) ∙ e }
    at_place (suc q) e h f = later (f q n h)

    by_test : (b : Bool) → test m ≡ b → (place : ℕ) → slice_get (filter test (m ∷ ns)) place ≡ Some n → ((place : ℕ) (k : Need) → slice_get (filter test ns) place ≡ Some k → Filtered test ns k) → Filtered test (m ∷ ns) n
    by_test true e q h f = at_place q e (ap (λ (zs : List Need). slice_get zs q) (sym (cond-true (test m) (m ∷ filter test ns) (filter test ns) e)) ∙ h) f
    by_test false e q h f = later (f q n (ap (λ (zs : List Need). slice_get zs q) (sym (cond-false (test m) (m ∷ filter test ns) (filter test ns) e)) ∙ h))

filter_place : (test : Need → Bool) (ns : List Need) (place : ℕ) (n : Need) → slice_get ns place ≡ Some n → test n ≡ true → (q : ℕ) × (slice_get (filter test ns) q ≡ Some n)
filter_place test [] place n h t = absurd (let c : None ≡ Some n = h in cc)
filter_place test (m ∷ ns) zero n h t =
    let c : m ≡ n = cc in
    (0, ap (λ (zs : List Need). slice_get zs 0) (cond-true (test m) (m ∷ filter test ns) (filter test ns) (ap test c ∙ t)) ∙ h)
filter_place test (m ∷ ns) (suc place) n h t = by_test (test m) refl (filter_place test ns place n h t)
  where
    by_test : (b : Bool) → test m ≡ b → (q : ℕ) × (slice_get (filter test ns) q ≡ Some n) → (q : ℕ) × (slice_get (filter test (m ∷ ns)) q ≡ Some n)
    by_test true e f = (suc f.0, ap (λ (zs : List Need). slice_get zs (suc f.0)) (cond-true (test m) (m ∷ filter test ns) (filter test ns) e) ∙ f.1)
    by_test false e f = (f.0, ap (λ (zs : List Need). slice_get zs f.0) (cond-false (test m) (m ∷ filter test ns) (filter test ns) e) ∙ f.1)

-- what needs are mapped to
mapped_need : (f : Need → Option ℕ) (ns : List Need) (r : ℕ) → has (filter_map f ns) r ≡ true → (place : ℕ) × (n : Need) × (slice_get ns place ≡ Some n) × (f n ≡ Some r)
mapped_need f [] r h = absurd (false≢true h)
mapped_need f (n ∷ ns) r h = by_option (f n) refl h (mapped_need f ns)
  where
    by_option : (o : Option ℕ) → f n ≡ o → has (cons_option o (filter_map f ns)) r ≡ true → ((r : ℕ) → has (filter_map f ns) r ≡ true → (place : ℕ) × (m : Need) × (slice_get ns place ≡ Some m) × (f m ≡ Some r)) → (place : ℕ) × (m : Need) × (slice_get (n ∷ ns) place ≡ Some m) × (f m ≡ Some r)
    by_option None e h g = let q = g r h in (suc q.0, q.1, q.2, q.3)
    by_option (Some x) e h g =
        elim (has_cases x (filter_map f ns) r h) [
          | inl i ↦ (0, n, refl, e ∙ ap Some i)
          | inr m ↦ (let q = g r m in (suc q.0, q.1, q.2, q.3))
        ]

has_mapped_need : (f : Need → Option ℕ) (ns : List Need) (place : ℕ) (n : Need) (r : ℕ) → slice_get ns place ≡ Some n → f n ≡ Some r → has (filter_map f ns) r ≡ true
has_mapped_need f [] place n r h e = absurd (let c : None ≡ Some n = h in cc)
has_mapped_need f (m ∷ ns) zero n r h e =
    let c : m ≡ n = cc in
    ap (λ o. has (cons_option o (filter_map f ns)) r) (ap f c ∙ e) ∙ has_here r (filter_map f ns)
has_mapped_need f (m ∷ ns) (suc place) n r h e = by_option (f m) (has_mapped_need f ns place n r h e)
  where
    by_option : (o : Option ℕ) → has (filter_map f ns) r ≡ true → has (cons_option o (filter_map f ns)) r ≡ true
    by_option None m = m
    by_option (Some x) m = has_there x (filter_map f ns) r m

option_has : (o : Option ℕ) (i : ℕ) → o ≡ Some i → has (option_to_list o) i ≡ true
option_has o i e = ap (λ (q : Option ℕ). has (option_to_list q) i) e ∙ has_here i []

abbrev resolve : Plan → Need → Option ℕ
resolve p n = resolver p n.chain n.value

abbrev is_above : Plan → Need → Bool
is_above p n = ltb (initial p n.chain) n.value

module _ (p : Plan) (i j : ℕ) where
  -- a need at a place
  need_at : (k : Stage) (place : ℕ) (n : Need) → slice_get (needs_at p j k) place ≡ Some n → Filtered (λ m. holds_back m k) (needs p j) n
  need_at (At k) place n h = filtered (λ m. leb m.from k) (needs p j) place n h
  need_at AtEnd place n h = record { place = place; is = h; passes = refl }

  at_need : (k : Stage) (place : ℕ) (n : Need) → slice_get (needs p j) place ≡ Some n → holds_back n k ≡ true → (q : ℕ) × (slice_get (needs_at p j k) q ≡ Some n)
  at_need (At k) place n h t = filter_place (λ m. leb m.from k) (needs p j) place n h t
  at_need AtEnd place n h t = (place, h)

  pub edge_of : (k : Stage) → has (edges_at p j k) i ≡ true → EdgeAt p i j k
  edge_of k h =
      elim (has-append_cases (must_finish p j) (filter_map (job_of p) (awaited_at p j k)) i h) [
        | inl m ↦ elim (has-append_cases (option_to_list (previous p j) ++ option_to_list (host_before p j)) (idle_after p j) i m) [
          | inl a ↦ elim (has-append_cases (option_to_list (previous p j)) (option_to_list (host_before p j)) i a) [
            | inl b ↦ by_lane (in_option (previous p j) i b)
            | inr b ↦ by_host (in_option (host_before p j) i b)
          ]
          | inr a ↦ by_idle a
        ]
        | inr m ↦ (let r = mapped (job_of p) (awaited_at p j k) i m in by_any (waits_for_any p j) refl r.0 r.1 r.2)
      ]
    where
      by_any : (b : Bool) → waits_for_any p j ≡ b → (r : ℕ) → has (awaited_at p j k) r ≡ true → job_of p r ≡ Some i → EdgeAt p i j k
      by_any true e r m o = absurd (false≢true (ap (λ zs. has zs r) (sym (cond-true (waits_for_any p j) [] (filter_map (resolve p) (filter (is_above p) (needs_at p j k))) e)) ∙ m))
      by_any false e r m o =
          let q = mapped_need (resolve p) (filter (is_above p) (needs_at p j k)) r (ap (λ zs. has zs r) (sym (cond-false (waits_for_any p j) [] (filter_map (resolve p) (filter (is_above p) (needs_at p j k))) e)) ∙ m) in
          let a = filtered (is_above p) (needs_at p j k) q.0 q.1 q.2 in
          let t = need_at k a.place q.1 a.is in
          by_need q.1 t.place r e t.is t.passes (ltb-true (initial p q.1.chain) q.1.value a.passes) q.3 o

  pub finish_edge : (k : Stage) → has (must_finish p j) i ≡ true → has (edges_at p j k) i ≡ true
  finish_edge k m = has-append_left (must_finish p j) (filter_map (job_of p) (awaited_at p j k)) i m

  -- what resolves a need is awaited
  pub need_awaits : (k : Stage) (n : Need) (place e : ℕ) → waits_for_any p j ≡ false → slice_get (needs p j) place ≡ Some n → holds_back n k ≡ true → initial p n.chain < n.value → resolver p n.chain n.value ≡ Some e → has (awaited_at p j k) e ≡ true
  need_awaits k n place e any is back above resolves =
      let a = at_need k place n is back in
      let b = filter_place (is_above p) (needs_at p j k) a.0 n a.1 (lt-ltb (initial p n.chain) n.value above) in
      let m = has_mapped_need (resolve p) (filter (is_above p) (needs_at p j k)) b.0 n e b.1 resolves in
      ap (λ zs. has zs e) (cond-false (waits_for_any p j) [] (filter_map (resolve p) (filter (is_above p) (needs_at p j k))) any) ∙ m

  -- what must be finished before a job, by its reason
  pub lane_first : previous p j ≡ Some i → has (must_finish p j) i ≡ true
  lane_first e =
      has-append_left (option_to_list (previous p j) ++ option_to_list (host_before p j)) (idle_after p j) i
      (has-append_left (option_to_list (previous p j)) (option_to_list (host_before p j)) i
      (option_has (previous p j) i e))

  pub host_first : host_before p j ≡ Some i → has (must_finish p j) i ≡ true
  host_first e =
      has-append_left (option_to_list (previous p j) ++ option_to_list (host_before p j)) (idle_after p j) i
      (has-append_right (option_to_list (previous p j)) (option_to_list (host_before p j)) i
      (option_has (host_before p j) i e))

  pub idle_first : has (idle_after p j) i ≡ true → has (must_finish p j) i ≡ true
  idle_first m =
      has-append_right (option_to_list (previous p j) ++ option_to_list (host_before p j)) (idle_after p j) i m

  pub of_edge : (k : Stage) → EdgeAt p i j k → has (edges_at p j k) i ≡ true
  of_edge k (by_lane e) = finish_edge k (lane_first e)
  of_edge k (by_host e) = finish_edge k (host_first e)
  of_edge k (by_idle m) = finish_edge k (idle_first m)
  of_edge k (by_need n place e any is back above resolves of_job) =
      let f = need_awaits k n place e any is back above resolves in
      has-append_right (must_finish p j) (filter_map (job_of p) (awaited_at p j k)) i (has_mapped (job_of p) (awaited_at p j k) e i f of_job)
