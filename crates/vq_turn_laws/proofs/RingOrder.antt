-- In the program of a ring each task stands behind what it asks.
use Rattle.std.proofs.Common.{◌≡◌, ℕ, ◌<◌, ◌≤◌, ◌+◌, ◌&&◌, ◌||◌, Bool, true, false, eqb, List, [], ◌∷◌, ◌++◌, length}
use Rattle.std.proofs.Common.{map, filter, Some, refl, sym, subst, ap, ◌∙◌, inl, inr, arith, nat_lt, nat_le, suc}
use Rattle.std.proofs.Common.{◌==◌}
use Rattle.std.specs.List.{count_by, flat_map, enumerate_from, position_or_len}
use Rattle.std.proofs.lemmas.Bool.{or_cases, or_left, or_right, and_from, and_parts, false≢true, eq-eqb, eqb-true}
use Rattle.std.proofs.lemmas.Bool.{leb-true, ltb-true, lt-ltb, cases_lt, cases_eq, le-leb}
use Rattle.vq_model.specs.declared.script.ActorName.{ActorName}
use Rattle.vq_model.specs.declared.script.ActorName.TheVariants.{Ring as RingActor}
use Rattle.vq_model.specs.declared.plan.Lane.TheVariants.{Queue as QueueLane}
use Rattle.vq_model.specs.declared.plan.Lane.{Lane}
use Rattle.vq_model.specs.declared.plan.Need.{Need}
use Rattle.vq_model.specs.Plan.{Plan, signals_of, commands_of, chain_of, is_host_step, needs, question, is_silent}
use Rattle.vq_ground.specs.Lists.{has, AreRising}
use Rattle.vq_model.specs.Plan.{waits_for_any, previous, idle_after}
use Rattle.vq_model.specs.Edges.{At, AtEnd, needs_at, stage_of}
use Rattle.vq_ground.proofs.Lists.{has_here, has_there, has_cases, has-append_right, has-append_cases, pushed}
use Rattle.vq_point_laws.specs.Points.{jobs_of_lane, resolves}
use Rattle.vq_turns.specs.declared.task.Task.{Task}
use Rattle.vq_turns.specs.declared.task.Task.TheVariants.{AwaitReleased, Start, Apply, Signal, Finish}
use Rattle.vq_turns.specs.Programs.{waits_where, runs_command, runs_batch}
use Rattle.vq_turn_laws.specs.Orders.{waited_since, Within, Waited, InJob, AsksStart, AsksApply, AsksFinish, InOrder}
use Rattle.vq_turn_laws.specs.Tasks.{onto, Among}
use Rattle.vq_turn_laws.proofs.ProgramLaws.{InPart, onto_append, joined, parts, together, among_onto, among_turned}
use Rattle.vq_turn_laws.proofs.ProgramLaws.{among_right, among_left, among_map, chain_or}
use Rattle.vq_turn_laws.proofs.Rooms.{count_both, count_below, count_filter, bits_both, bits_below, filter_few}
use Rattle.vq_turn_laws.proofs.Rooms.{waited_waits}
use Rattle.vq_turn_laws.proofs.WaitParts.{HasRoom, wait, within_filter, filter_within, among_waits, rising_apart}
use Rattle.vq_turn_laws.proofs.WaitParts.{position, later, more, waits_each, behind_more}

-- What a plan says of a batch in a lane.
pub record RunsBatch (p : Plan) (lane : Lane) (j : ℕ) : Type 0 where
  pub exists : j < length p.jobs
  pub host : is_host_step p j ≡ false
  pub all : waits_for_any p j ≡ false
  pub idle : idle_after p j ≡ []
  pub silent : is_silent (question p j) ≡ true
  pub job_before : (i : ℕ) → previous p j ≡ Some i → (i < j) × (has (jobs_of_lane p lane) i ≡ true)
  pub chains : (e : ℕ) → has (signals_of p j) e ≡ true → chain_of p e ≡ Some (chain_or p e)
  pub commands : AreRising (commands_of p j)
  pub places : (n : Need) → Within n (needs p j) → 1 ≤ n.from

seven : (a b c d e f g : List Task) → a ++ b ++ c ++ d ++ e ++ f ++ g ≡ a ++ (b ++ (c ++ (d ++ (e ++ (f ++ g)))))
seven a b c d e f g =
    together (a ++ b ++ c ++ d ++ e) f g
    ∙ (together (a ++ b ++ c ++ d) e (f ++ g)
    ∙ (together (a ++ b ++ c) d (e ++ (f ++ g))
    ∙ (together (a ++ b) c (d ++ (e ++ (f ++ g)))
    ∙ together a b (c ++ (d ++ (e ++ (f ++ g)))))))

pub push : (xs : List ℕ) (x : ℕ) (ys : List ℕ) → xs ++ x ∷ ys ≡ (xs ++ x ∷ []) ++ ys
push [] x ys = refl
push (z ∷ zs) x ys = ap (λ us. z ∷ us) (push zs x ys)

pub pushed_length : (xs : List ℕ) (x : ℕ) → length (xs ++ x ∷ []) ≡ length xs + 1
pushed_length [] x = refl
pushed_length (z ∷ zs) x = let r = pushed_length zs x in omega arith

-- the signals of a job, each behind the earlier ones
pub signals_each : (p : Plan) (a : ActorName) (j : ℕ) →
    ((e : ℕ) → has (signals_of p j) e ≡ true → chain_of p e ≡ Some (chain_or p e)) → (es front : List ℕ) →
    signals_of p j ≡ front ++ es → (before left : List Task) → Among (Start j) before → Among (Finish j) left →
    ((c : ℕ) → has (commands_of p j) c ≡ true → Among (Apply j c) before) → Waited p before j AtEnd →
    ((e : ℕ) → has front e ≡ true → Among (Signal e) before) → InPart p a before (map Signal es) left
signals_each p a j chains [] front whole before left st fin cs w done = tt
signals_each p a j chains (e ∷ es) front whole before left st fin cs w done = (
  record {
    job = j;
    chain = chain_or p e;
    in_chain = chains e (subst (λ xs. has xs e ≡ true) (sym whole) (has-append_right front (e ∷ es) e (has_here e es)));
    started = st;
    unfinished = among_right (Finish j) (map Signal es) left fin;
    commands = cs;
    next = record { front = front; back = es; whole = whole; earlier = done };
    needs = w;
  },
  signals_each p a j chains es (front ++ e ∷ []) (whole ∙ push front e es) (Signal e ∷ before) left (inr st) fin
      (λ c m. inr (cs c m)) (record { any = λ h. inr (w.any h); all = λ h n m. inr (w.all h n m) })
      (λ f m. elim (pushed front e f m) [ inl o ↦ inr (done f o) | inr s ↦ inl (ap Signal s) ]),
)

-- the needs from a place on, after the start
abbrev pub is_held : Need → Bool
is_held n = nat_lt 1 n.from

module _ (p : Plan) (a : ActorName) (lane : Lane) (j : ℕ) (b : RunsBatch p lane j) where
  abbrev at_place : ℕ → Need → Bool
  at_place k n = nat_lt 1 k && (n.from == k)

  abbrev rest_of : Need → Bool
  rest_of n = nat_lt 1 n.from && nat_lt (length (commands_of p j)) n.from

  abbrev held : List Need
  held = filter is_held (needs p j)

  -- the needs up to a place were waited for
  abbrev Upto : List Task → ℕ → Type 0
  Upto before k = (n : Need) → Within n (needs p j) → n.from ≤ k → Among (wait n) before

  upto_more : (ts before : List Task) (k : ℕ) → Upto before k → Upto (onto ts before) k
  upto_more ts before k u = λ n w l. among_onto (wait n) ts before (u n w l)

  held_place : (k : ℕ) (n : Need) → Within n (filter (at_place k) (needs p j)) → Within n held
  held_place k n w =
      let x = within_filter (at_place k) (needs p j) n w in
      let t = and_parts (nat_lt 1 k) (eqb n.from k) x.1 in
      filter_within is_held (needs p j) n x.0 (ap (λ z. nat_lt 1 z) (eqb-true n.from k t.1) ∙ t.0)

  held_rest : (n : Need) → Within n (filter rest_of (needs p j)) → Within n held
  held_rest n w =
      let x = within_filter rest_of (needs p j) n w in
      filter_within is_held (needs p j) n x.0
      (and_parts (nat_lt 1 n.from) (nat_lt (length (commands_of p j)) n.from) x.1).0

  -- one place more
  upto_next : (m : ℕ) (before : List Task) → Upto before 1 → Upto before m →
      Upto (onto (waits_where p j (at_place (m + 1))) before) (m + 1)
  upto_next m before ones u n w l =
      elim (cases_lt m n.from) [
        | inr le ↦ among_onto (wait n) (waits_where p j (at_place (m + 1))) before (u n w le)
        | inl lt ↦ elim (cases_lt 1 (m + 1)) [
          | inr small ↦ among_onto (wait n) (waits_where p j (at_place (m + 1))) before (ones n w (omega arith))
          | inl big ↦
              let same : n.from ≡ m + 1 = omega arith in
              among_turned (wait n) (waits_where p j (at_place (m + 1))) before
              (among_waits (filter (at_place (m + 1)) (needs p j)) n
              (filter_within (at_place (m + 1)) (needs p j) n w
              (and_from (nat_lt 1 (m + 1)) (eqb n.from (m + 1)) (lt-ltb 1 (m + 1) big)
              (eq-eqb n.from (m + 1) same))))
        ]
      ]

  -- whether a need was waited for once so many places are done
  abbrev done_by : ℕ → Need → Bool
  done_by m n = nat_le n.from 1 || nat_le n.from m

  abbrev Room : List Task → ℕ → Type 0
  Room before m = (e : ℕ) → waited_since p e before ≤ count_by (λ n. done_by m n && resolves p e n) (needs p j)

  done_more : (m : ℕ) (n : Need) → done_by m n ≡ true → done_by (m + 1) n ≡ true
  done_more m n h =
      elim (or_cases (nat_le n.from 1) (nat_le n.from m) h) [
        | inl l ↦ or_left (nat_le n.from 1) (nat_le n.from (m + 1)) l
        | inr l ↦ let x = leb-true n.from m l in or_right (nat_le n.from 1) (nat_le n.from (m + 1))
            (le-leb n.from (m + 1) (omega arith))
      ]

  done_at : (m : ℕ) (n : Need) → at_place (m + 1) n ≡ true → done_by (m + 1) n ≡ true
  done_at m n h = let x = eqb-true n.from (m + 1) (and_parts (nat_lt 1 (m + 1)) (n.from == (m + 1)) h).1 in or_right
      (nat_le n.from 1) (nat_le n.from (m + 1)) (le-leb n.from (m + 1) (omega arith))

  done_apart : (m : ℕ) (n : Need) → done_by m n ≡ true → at_place (m + 1) n ≡ true → ⊥
  done_apart m n h k =
      let two = and_parts (nat_lt 1 (m + 1)) (n.from == (m + 1)) k in
      let x = ltb-true 1 (m + 1) two.0 in
      let y = eqb-true n.from (m + 1) two.1 in
      elim (or_cases (nat_le n.from 1) (nat_le n.from m) h) [
        | inl l ↦ let z = leb-true n.from 1 l in omega arith
        | inr l ↦ let z = leb-true n.from m l in omega arith
      ]

  room_next : (m : ℕ) (before : List Task) → Room before m →
      Room (onto (waits_where p j (at_place (m + 1))) before) (m + 1)
  room_next m before r e =
      let x = waited_waits p e (filter (at_place (m + 1)) (needs p j)) before in
      let y = count_filter (at_place (m + 1)) (resolves p e) (needs p j) in
      let z = count_both (λ n. done_by m n && resolves p e n) (λ n. at_place (m + 1) n && resolves p e n)
      (λ n. done_by (m + 1) n && resolves p e n)
      (λ n. bits_both (done_by m n) (at_place (m + 1) n) (done_by (m + 1) n) (resolves p e n) (done_more m n)
      (done_at m n) (done_apart m n)) (needs p j) in
      let o = r e in
      omega arith

  room_here : (m : ℕ) (before : List Task) → Room before m →
      HasRoom p a j held before (filter (at_place (m + 1)) (needs p j))
  room_here m before r e =
      let x = waited_waits p e (filter (at_place (m + 1)) (needs p j)) before in
      let y = room_next m before r e in
      let z = count_below (λ n. done_by (m + 1) n && resolves p e n) (resolves p e)
      (λ n. bits_below (done_by (m + 1) n) true (resolves p e n) (λ q. refl)) (needs p j) in
      omega arith

  room_command : (m c : ℕ) (before : List Task) → Room before m →
      Room (onto (waits_where p j (at_place (m + 1)) ++ Apply j c ∷ []) before) (m + 1)
  room_command m c before r e =
      let x : waited_since p e (onto (waits_where p j (at_place (m + 1)) ++ Apply j c ∷ []) before) ≡ waited_since p e
      (onto (waits_where p j (at_place (m + 1))) before) = ap (waited_since p e)
      (onto_append (waits_where p j (at_place (m + 1))) (Apply j c ∷ []) before) in
      let y = room_next m before r e in
      omega arith

  room_commands : (cs : List ℕ) (m : ℕ) (before : List Task) → Room before m →
      Room (onto (flat_map (runs_command p j) (enumerate_from (m + 1) cs)) before) (m + length cs)
  room_commands [] m before r = subst (λ (z : ℕ). Room before z) (plus_none m) r
    where
      plus_none : (n : ℕ) → n ≡ n + 0
      plus_none n = omega arith
  room_commands (c ∷ cs) m before r =
      let rest : List Task = flat_map (runs_command p j) (enumerate_from (m + 1 + 1) cs) in
      let one_ : List Task = waits_where p j (at_place (m + 1)) ++ Apply j c ∷ [] in
      let deep : Room (onto rest (onto one_ before)) (m + 1 + length cs) = room_commands cs (m + 1) (onto one_ before)
      (room_command m c before r) in
      subst (λ us. Room us (m + length (c ∷ cs))) (sym (onto_append one_ rest before))
      (subst (λ (z : ℕ). Room (onto rest (onto one_ before)) z) (plus_one m (length cs)) deep)
    where
      plus_one : (n k : ℕ) → n + 1 + k ≡ n + suc k
      plus_one n k = omega arith

  commands_part : (cs front : List ℕ) (m : ℕ) → length front ≡ m → commands_of p j ≡ front ++ cs →
      (before left : List Task) → InJob p a before left j held → Among (Start j) before →
      ((d : ℕ) → has front d ≡ true → Among (Apply j d) before) → Upto before 1 → Upto before m → Room before m →
      InPart p a before (flat_map (runs_command p j) (enumerate_from (m + 1) cs)) left
  commands_part [] front m len whole before left k st done ones upto room = tt
  commands_part (c ∷ cs) front m len whole before left k st done ones upto room =
      let ws : List Task = waits_where p j (at_place (m + 1)) in
      let one : List Task = Apply j c ∷ [] in
      let rest : List Task = flat_map (runs_command p j) (enumerate_from (m + 1 + 1) cs) in
      let up : Upto (onto ws before) (m + 1) = upto_next m before ones upto in
      let where_is : position_or_len (λ d. d == c) (commands_of p j) ≡ m = ap
      (λ xs. position_or_len (λ d. d == c) xs) whole ∙
      (position front c cs (rising_apart front c cs (subst AreRising whole b.commands)) ∙ len) in
      let waited : Waited p (onto ws before) j (stage_of p j c) = record {
        any = λ h. absurd (false≢true (sym b.all ∙ h));
        all = λ h n w.
            let x = within_filter (λ (z : Need). nat_le z.from (suc (position_or_len (λ d. d == c) (commands_of p j))))
            (needs p j) n w in
            let l = leb-true n.from (suc (position_or_len (λ d. d == c) (commands_of p j))) x.1 in
            up n x.0 (omega arith);
      }
      in
      let applies : AsksApply p (onto ws before) j c (rest ++ left) = record {
        started = among_onto (Start j) ws before st;
        unfinished = among_right (Finish j) rest left k.unfinished;
        next = record {
          front = front;
          back = cs;
          whole = whole;
          earlier = λ d m'. among_onto (Apply j d) ws before
              (done d m');
        };
        needs = waited;
      }
      in
      parts p a before (ws ++ one) rest left
      (parts p a before ws one (rest ++ left)
      (waits_each p a j held (filter (at_place (m + 1)) (needs p j)) before (one ++ (rest ++ left))
      (later p a j held before one (rest ++ left) (later p a j held before rest left k)) (held_place (m + 1))
      (room_here m before room)) (applies, tt))
      (commands_part cs (front ++ c ∷ []) (m + 1) (pushed_length front c ∙ ap (λ n. n + 1) len)
      (whole ∙ push front c cs) (onto (ws ++ one) before) left (more p a j held (ws ++ one) before left k)
      (among_onto (Start j) (ws ++ one) before st) (λ d m'. elim (pushed front c d m') [
        | inl o ↦ among_onto (Apply j d) (ws ++ one) before (done d o)
        | inr e ↦ among_turned (Apply j d) (ws ++ one) before (among_right (Apply j d) ws one (inl (ap (Apply j) e)))
      ]) (upto_more (ws ++ one) before 1 ones) (upto_two ws one before (m + 1) up) (room_command m c before room))
    where
      upto_two : (xs ys before : List Task) (k : ℕ) → Upto (onto xs before) k → Upto (onto (xs ++ ys) before) k
      upto_two [] ys before k u = upto_more ys before k u
      upto_two (x ∷ xs) ys before k u = upto_two xs ys (x ∷ before) k u

  among_apply : (cs : List ℕ) (k c : ℕ) → has cs c ≡ true →
      Among (Apply j c) (flat_map (runs_command p j) (enumerate_from k cs))
  among_apply [] k c m = absurd (false≢true m)
  among_apply (d ∷ cs) k c m =
      let ws : List Task = waits_where p j (at_place k) in
      let rest : List Task = flat_map (runs_command p j) (enumerate_from (k + 1) cs) in
      elim (has_cases d cs c m) [
        | inl e ↦ among_left (Apply j c) (ws ++ Apply j d ∷ []) rest
            (among_right (Apply j c) ws (Apply j d ∷ []) (inl (ap (Apply j) e)))
        | inr r ↦ among_right (Apply j c) (ws ++ Apply j d ∷ []) rest (among_apply cs (k + 1) c r)
      ]

  among_held : (cs : List ℕ) (k : ℕ) (n : Need) → Within n (needs p j) → 1 < n.from → k ≤ n.from →
      n.from < k + length cs → Among (wait n) (flat_map (runs_command p j) (enumerate_from k cs))
  among_held [] k n w one low high = absurd (omega arith)
  among_held (d ∷ cs) k n w one low high =
      let ws : List Task = waits_where p j (at_place k) in
      let rest : List Task = flat_map (runs_command p j) (enumerate_from (k + 1) cs) in
      elim (cases_eq n.from k) [
        | inl e ↦ among_left (wait n) (ws ++ Apply j d ∷ []) rest
            (among_left (wait n) ws (Apply j d ∷ [])
            (among_waits (filter (at_place k) (needs p j)) n
            (filter_within (at_place k) (needs p j) n w
            (and_from (nat_lt 1 k) (eqb n.from k) (lt-ltb 1 k (omega arith)) (eq-eqb n.from k e)))))
        | inr ne ↦ among_right (wait n) (ws ++ Apply j d ∷ []) rest
            (among_held cs (k + 1) n w one (omega arith) (omega arith))
      ]

  rest_apart : (n : Need) → done_by (0 + length (commands_of p j)) n ≡ true → rest_of n ≡ true → ⊥
  rest_apart n h k =
      let two = and_parts (nat_lt 1 n.from) (nat_lt (length (commands_of p j)) n.from) k in
      let x = ltb-true 1 n.from two.0 in
      let y = ltb-true (length (commands_of p j)) n.from two.1 in
      elim (or_cases (nat_le n.from 1) (nat_le n.from (0 + length (commands_of p j))) h) [
        | inl l ↦ let z = leb-true n.from 1 l in omega arith
        | inr l ↦ let z = leb-true n.from (0 + length (commands_of p j)) l in omega arith
      ]

  pub runs_part : (before left : List Task) →
      InJob p a (AwaitReleased j ∷ before) (Start j ∷ Finish j ∷ []) j (needs_at p j (At 1)) →
      ((i : ℕ) → previous p j ≡ Some i → Among (Finish i) before) → ((e : ℕ) → waited_since p e before ≡ 0) →
      InPart p a before (runs_batch p j) left
  runs_part before left at lane_done clear =
      let rel : List Task = AwaitReleased j ∷ [] in
      let ws : List Task = waits_where p j (λ n. n.from == 1) in
      let ss : List Task = Start j ∷ [] in
      let cs : List Task = flat_map (runs_command p j) (enumerate_from 1 (commands_of p j)) in
      let rs : List Task = waits_where p j rest_of in
      let es : List Task = map Signal (signals_of p j) in
      let fs : List Task = Finish j ∷ [] in
      let b1 : List Task = AwaitReleased j ∷ before in
      let b2 : List Task = onto ws b1 in
      let b3 : List Task = Start j ∷ b2 in
      let b4 : List Task = onto cs b3 in
      let b5 : List Task = onto rs b4 in
      let b6 : List Task = onto es b5 in
      let f5 : Among (Finish j) (es ++ fs) = among_right (Finish j) es fs (inl refl) in
      let f4 : Among (Finish j) (rs ++ (es ++ fs)) = among_right (Finish j) rs (es ++ fs) f5 in
      let f3 : Among (Finish j) (cs ++ (rs ++ (es ++ fs))) = among_right (Finish j) cs (rs ++ (es ++ fs)) f4 in
      let ones2 : Upto b2 1 = λ n w l.
      let one = b.places n w in
      among_turned (wait n) ws b1
      (among_waits (filter (λ (z : Need). z.from == 1) (needs p j)) n
      (filter_within (λ (z : Need). z.from == 1) (needs p j) n w (eq-eqb n.from 1 (omega arith))))
      in
      let in_first : InJob p a b1 ((ss ++ (cs ++ (rs ++ (es ++ fs)))) ++ left) j (needs_at p j (At 1)) = record {
        lane = at.lane;
        of_actor = at.of_actor;
        behind = at.behind;
        unfinished = among_left (Finish j) (ss ++ (cs ++ (rs ++ (es ++ fs)))) left (inr f3);
        released = at.released;
        stage = inl (inl refl, refl);
      }
      in
      let held_at : (t l : List Task) → Among (Finish j) l → InJob p a (onto t b3) l j held = λ t l f. record {
        lane = at.lane;
        of_actor = at.of_actor;
        behind = behind_more (jobs_of_lane p at.lane) j Finish t b3
            (behind_more (jobs_of_lane p at.lane) j Finish ss b2
            (behind_more (jobs_of_lane p at.lane) j Finish ws b1 at.behind));
        unfinished = f;
        released = λ h. among_onto (AwaitReleased j) t b3 (inr (among_onto (AwaitReleased j) ws b1 (at.released h)));
        stage = inr (among_onto (Start j) t b3 (inl refl), refl);
      }
      in
      let upto4 : Upto b4 (length (commands_of p j)) = λ n w l. elim (cases_lt 1 n.from) [
        | inl big ↦ among_turned (wait n) cs b3 (among_held (commands_of p j) 1 n w big (omega arith) (omega arith))
        | inr small ↦ among_onto (wait n) cs b3 (inr (ones2 n w small))
      ]
      in
      let all5 : Waited p b5 j AtEnd = record {
        any = λ h. absurd (false≢true (sym b.all ∙ h));
        all = λ h n w. elim (cases_lt (length (commands_of p j)) n.from) [
          | inr le ↦ among_onto (wait n) rs b4 (upto4 n w le)
          | inl lt ↦ elim (cases_lt 1 n.from) [
            | inr small ↦ among_onto (wait n) rs b4 (among_onto (wait n) cs b3 (inr (ones2 n w small)))
            | inl big ↦ among_turned (wait n) rs b4
                (among_waits (filter rest_of (needs p j)) n
                (filter_within rest_of (needs p j) n w
                (and_from (nat_lt 1 n.from) (nat_lt (length (commands_of p j)) n.from) (lt-ltb 1 n.from big)
                (lt-ltb (length (commands_of p j)) n.from lt))))
          ]
        ];
      }
      in
      let apply4 : (c : ℕ) → has (commands_of p j) c ≡ true → Among (Apply j c) b4 = λ c m. among_turned
      (Apply j c) cs b3 (among_apply (commands_of p j) 1 c m) in
      let room3 : Room b3 0 = λ e.
      let c = clear e in
      let x = waited_waits p e (filter (λ (z : Need). z.from == 1) (needs p j)) b1 in
      let y = count_filter (λ (z : Need). z.from == 1) (resolves p e) (needs p j) in
      let z = count_below (λ n. (n.from == 1) && resolves p e n) (λ n. done_by 0 n && resolves p e n)
      (λ n. bits_below (n.from == 1) (done_by 0 n) (resolves p e n)
      (λ h. let s = eqb-true n.from 1 h in or_left (nat_le n.from 1) (nat_le n.from 0)
      (le-leb n.from 1 (omega arith)))) (needs p j) in
      omega arith
      in
      let room4 : HasRoom p a j held b4 (filter rest_of (needs p j)) = λ e.
      let x = room_commands (commands_of p j) 0 b3 room3 e in
      let y = count_filter rest_of (resolves p e) (needs p j) in
      let z = count_both (λ n. done_by (0 + length (commands_of p j)) n && resolves p e n)
      (λ n. rest_of n && resolves p e n) (resolves p e)
      (λ n. bits_both (done_by (0 + length (commands_of p j)) n) (rest_of n) true (resolves p e n) (λ h. refl)
      (λ h. refl) (rest_apart n)) (needs p j) in
      omega arith
      in
      let starts : AsksStart p b2 j = record {
        exists = b.exists;
        lane = λ i h. among_onto (Finish i) ws b1 (inr (lane_done i h));
        needs = record {
          any = λ h. absurd (false≢true (sym b.all ∙ h));
          all = λ h n w. let x = within_filter (λ (z : Need). nat_le z.from 1) (needs p j) n w in ones2 n x.0
              (leb-true n.from 1 x.1);
        };
        idle = λ i m. absurd (false≢true (ap (λ xs. has xs i) (sym b.idle) ∙ m));
        batches = λ h. absurd (false≢true (sym b.host ∙ h));
        released = λ h. among_onto (AwaitReleased j) ws b1 (inl refl);
      }
      in
      let finishes : AsksFinish p b6 j = record {
        started = among_onto (Start j) es b5 (among_onto (Start j) rs b4 (among_onto (Start j) cs b3 (inl refl)));
        commands = λ c m. among_onto (Apply j c) es b5 (among_onto (Apply j c) rs b4 (apply4 c m));
        signals = λ e m. among_turned (Signal e) es b5 (among_map Signal (signals_of p j) e m);
        needs = record {
          any = λ h. absurd (false≢true (sym b.all ∙ h));
          all = λ h n w. among_onto (wait n) es b5
              (all5.all h n w);
        };
        answered = λ h. absurd (false≢true (sym h ∙ b.silent));
      }
      in
      let part6 : InPart p a b5 (es ++ fs) left = parts p a b5 es fs left
      (signals_each p a j b.chains (signals_of p j) [] refl b5 (fs ++ left)
      (among_onto (Start j) rs b4 (among_onto (Start j) cs b3 (inl refl))) (inl refl)
      (λ c m. among_onto (Apply j c) rs b4 (apply4 c m)) all5 (λ e m. absurd (false≢true m)))
      (finishes, tt)
      in
      let part5 : InPart p a b4 (rs ++ (es ++ fs)) left = parts p a b4 rs (es ++ fs) left
      (waits_each p a j held (filter rest_of (needs p j)) b4 ((es ++ fs) ++ left)
      (held_at cs ((es ++ fs) ++ left) (among_left (Finish j) (es ++ fs) left f5)) held_rest room4)
      part6
      in
      let part4 : InPart p a b3 (cs ++ (rs ++ (es ++ fs))) left = parts p a b3 cs (rs ++ (es ++ fs)) left
      (commands_part (commands_of p j) [] 0 refl refl b3 ((rs ++ (es ++ fs)) ++ left)
      (held_at [] ((rs ++ (es ++ fs)) ++ left) (among_left (Finish j) (rs ++ (es ++ fs)) left f4)) (inl refl)
      (λ d m. absurd (false≢true m)) (λ n w l. inr (ones2 n w l)) (λ n w l. inr (ones2 n w (omega arith))) room3)
      part5
      in
      let part3 : InPart p a b2 (ss ++ (cs ++ (rs ++ (es ++ fs)))) left = (starts, part4) in
      let part2 : InPart p a b1 (ws ++ (ss ++ (cs ++ (rs ++ (es ++ fs))))) left = parts p a b1 ws
      (ss ++ (cs ++ (rs ++ (es ++ fs)))) left
      (waits_each p a j (needs_at p j (At 1)) (filter (λ (z : Need). z.from == 1) (needs p j)) b1
      ((ss ++ (cs ++ (rs ++ (es ++ fs)))) ++ left) in_first
      (λ n w. let x = within_filter (λ (z : Need). z.from == 1)
      (needs p j) n w in let e = eqb-true n.from 1 x.1 in filter_within (λ (z : Need). nat_le z.from 1)
      (needs p j) n x.0 (le-leb n.from 1 (omega arith)))
      (λ e. let c = clear e in let x = filter_few (λ (z : Need). z.from == 1) (resolves p e)
      (needs p j) in omega arith))
      part3
      in
      subst (λ us. InPart p a before us left) (sym (seven rel ws ss cs rs es fs)) (tt, part2)

pub has_finish : (p : Plan) (j : ℕ) (before : List Task) → Among (Finish j) (onto (runs_batch p j) before)
has_finish p j before =
    among_turned (Finish j) (runs_batch p j) before
    (among_right (Finish j)
    (AwaitReleased j ∷ [] ++ waits_where p j (λ n. n.from == 1) ++ Start j ∷ [] ++ flat_map (runs_command p j)
    (enumerate_from 1 (commands_of p j)) ++ waits_where p j
    (λ n. nat_lt 1 n.from && nat_lt (length (commands_of p j)) n.from) ++ map Signal (signals_of p j))
    (Finish j ∷ []) (inl refl))

runs_clear : (p : Plan) (j : ℕ) (before : List Task) (e : ℕ) → waited_since p e (onto (runs_batch p j) before) ≡ 0
runs_clear p j before e =
    ap (waited_since p e)
    (onto_append (AwaitReleased j ∷ [] ++ waits_where p j (λ n. n.from == 1) ++ Start j ∷ [] ++ flat_map
    (runs_command p j) (enumerate_from 1 (commands_of p j)) ++ waits_where p j
    (λ n. nat_lt 1 n.from && nat_lt (length (commands_of p j)) n.from) ++ map Signal (signals_of p j))
    (Finish j ∷ []) before)

-- The batches of a queue one after another.
pub runs_in_order : (p : Plan) (q : ℕ) (js front : List ℕ) → AreRising js → jobs_of_lane p (QueueLane q) ≡ front ++ js →
    ((j : ℕ) → has js j ≡ true → RunsBatch p (QueueLane q) j) → (before : List Task) →
    ((i : ℕ) → has front i ≡ true → Among (Finish i) before) → ((e : ℕ) → waited_since p e before ≡ 0) →
    InOrder p (RingActor q) before (flat_map (runs_batch p) js)
runs_in_order p q [] front rising whole batches before done clear = tt
runs_in_order p q (j ∷ js) front rising whole batches before done clear =
    let b = batches j (has_here j js) in
    let lane_done : (i : ℕ) → previous p j ≡ Some i → Among (Finish i) before = λ i h. earlier i (b.job_before i h) in
    let at : InJob p (RingActor q) (AwaitReleased j ∷ before) (Start j ∷ Finish j ∷ []) j
    (needs_at p j (At 1)) = record {
      lane = QueueLane q;
      of_actor = refl;
      behind = record { front = front; back = js; whole = whole; earlier = λ i m. inr (done i m) };
      unfinished = inr (inl refl);
      released = λ h. inl refl;
      stage = inl (inl refl, refl);
    }
    in
    joined p (RingActor q) before (runs_batch p j) (flat_map (runs_batch p) js)
    (runs_part p (RingActor q) (QueueLane q) j b before (flat_map (runs_batch p) js) at lane_done clear)
    (runs_in_order p q js (front ++ j ∷ []) rising.1 (whole ∙ push front j js) (λ k m. batches k (has_there j js k m))
    (onto (runs_batch p j) before) (λ i m. elim (pushed front j i m) [
      | inl o ↦ among_onto (Finish i) (runs_batch p j) before (done i o)
      | inr e ↦ subst (λ (n : ℕ). Among (Finish n) (onto (runs_batch p j) before)) e (has_finish p j before)
    ]) (runs_clear p j before))
  where
    earlier : (i : ℕ) → (i < j) × (has (jobs_of_lane p (QueueLane q)) i ≡ true) → Among (Finish i) before
    earlier i h =
        elim (has-append_cases front (j ∷ js) i (subst (λ xs. has xs i ≡ true) whole h.1)) [
          | inl l ↦ done i l
          | inr r ↦ elim (has_cases j js i r) [
            | inl e ↦ let less = h.0 in absurd (omega arith)
            | inr o ↦ let less = h.0 in let above = rising.0 i o in absurd (omega arith)
          ]
        ]
