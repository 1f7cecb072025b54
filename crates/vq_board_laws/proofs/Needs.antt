-- What a pass knows reached is reached, and where it may start a job the machine can.
use Rattle.std.proofs.Common.{◌≡◌, ℕ, ◌≤◌, ◌-◌, ◌&&◌, Bool, true, false, eqb, List, [], ◌∷◌, refl, sym, ap, ◌∙◌, arith, ⊎_elim, inl, inr, suc, All, eq-eqb}
use Rattle.std.specs.Prelude.{nat_lt}
use Rattle.std.specs.List.{list_all, list_any}
use Rattle.std.proofs.lemmas.Bool.{le-leb, lt-ltb, cond-true, cond-false, and_from, or_left}
use Rattle.std.proofs.lemmas.Map.Keys.{any_passes_from_place}
use Rattle.vq_model.specs.declared.plan.Need.{Need}
use Rattle.vq_model.specs.Plan.{Plan, initial, waits_for_any}
use Rattle.vq_model.specs.Edges.{Stage, needs_at}
use Rattle.vq_model.specs.Machine.{Progress, state_after, is_reached, are_reached}
use Rattle.vq_board_laws.specs.declared.view.Fact.{Fact}
use Rattle.vq_board_laws.specs.declared.view.Fact.TheVariants.{Job, Made, Past}
use Rattle.vq_board_laws.specs.declared.view.JobState.TheVariants.{Finished}
use Rattle.vq_board_laws.specs.declared.view.View.{View}
use Rattle.vq_board_laws.specs.Words.{Words, made_of, payload_of, shown, shows_made}
use Rattle.vq_board_laws.specs.Knowledge.{AreSo, KnowsMade, completed, made_with, of_finished, before_finished}
use Rattle.vq_board_laws.specs.Knowledge.{shown as by_step}
use Rattle.vq_board_laws.specs.May.{KnowsReached, KnowsReaching, KnowsNeeds}
use Rattle.vq_board_laws.specs.Reached.{IsReached}
use Rattle.vq_board_laws.specs.RunLaws.{RunLaws}
use Rattle.vq_board_laws.proofs.Frames.{so_of}
use Rattle.vq_board_laws.proofs.Payloads.{initial_within, made_within}

made_now : (p : Plan) (d : Words) (views : List View) (r : IsReached p (shown p d) d.job views) (e : ℕ) → (state_after p r.steps).progress.made e ≡ true → made_of d e ≡ true
made_now p d views r e h = ap (λ (z : Progress). z.made e) (sym r.leads) ∙ h

made_then : (p : Plan) (d : Words) (views : List View) (r : IsReached p (shown p d) d.job views) (e : ℕ) → made_of d e ≡ true → (state_after p r.steps).progress.made e ≡ true
made_then p d views r e h = ap (λ (z : Progress). z.made e) r.leads ∙ h

finished_then : (p : Plan) (d : Words) (views : List View) (r : IsReached p (shown p d) d.job views) (j : ℕ) → 4 ≤ d.job j → (state_after p r.steps).progress.finished j ≡ true
finished_then p d views r j h = ap (λ (z : Progress). z.finished j) r.leads ∙ lt-ltb 3 (d.job j) (omega arith)

-- an operation that the pass knows made is made
pub knows_made : (p : Plan) (d : Words) (views : List View) (known : List Fact) (e : ℕ) → RunLaws p → IsReached p (shown p d) d.job views → AreSo d known → KnowsMade p known e → made_of d e ≡ true
knows_made p d views known e laws r so (by_step h) = so_of d known (Made e) so h
knows_made p d views known e laws r so (completed h) = or_left (eqb (d.op e) 1) (nat_lt 1 (d.op e) && shows_made (d.point (d.op e - 2)) e) (eq-eqb (d.op e) 1 (so_of d known (Past e) so h))
knows_made p d views known e laws r so (made_with {e = f} k is) = made_now p d views r e (laws.1 r.steps r.run f e (made_then p d views r f (knows_made p d views known f laws r so k)) is)
knows_made p d views known e laws r so (of_finished {j} h of_job) = made_now p d views r e (laws.2 r.steps r.run e j (finished_then p d views r j (so_of d known (Job j Finished) so h)) (inl of_job))
knows_made p d views known e laws r so (before_finished {j} h sure) = made_now p d views r e (laws.2 r.steps r.run e j (finished_then p d views r j (so_of d known (Job j Finished) so h)) (inr sure))

-- a need that the pass knows reached is reached
pub known_reached : (p : Plan) (d : Words) (views : List View) (known : List Fact) (n : Need) → RunLaws p → IsReached p (shown p d) d.job views → AreSo d known → KnowsReached p known n → is_reached (payload_of p (made_of d)) n ≡ true
known_reached p d views known n laws r so h = le-leb n.value (payload_of p (made_of d) n.chain) (⊎_elim low (λ (k : KnowsReaching p known n). above k) h)
  where
    low : n.value ≤ initial p n.chain → n.value ≤ payload_of p (made_of d) n.chain
    low l = let rest = initial_within p (made_of d) n.chain in omega arith

    above : KnowsReaching p known n → n.value ≤ payload_of p (made_of d) n.chain
    above k =
        let most = made_within p (made_of d) n.chain k.op k.in_chain (knows_made p d views known k.op laws r so k.made) in
        let reaches = k.reaches in omega arith

pub all_hold : (P : Need → Type 0) (test : Need → Bool) (ns : List Need) → ((n : Need) → P n → test n ≡ true) → All P ns → list_all test ns ≡ true
all_hold P test [] f h = refl
all_hold P test (n ∷ ns) f h = and_from (test n) (list_all test ns) (f n (h 0 n (omega arith))) (all_hold P test ns f (λ k d l. h (suc k) d (omega arith)))

-- where the needs at a place of a job are known reached, or one where it waits for any, they are
pub needs_reached : (p : Plan) (d : Words) (views : List View) (known : List Fact) (j : ℕ) (k : Stage) → RunLaws p → IsReached p (shown p d) d.job views → AreSo d known → KnowsNeeds p known j k → are_reached p (payload_of p (made_of d)) j k ≡ true
needs_reached p d views known j k laws r so needed = by_any (waits_for_any p j) refl
  where
    test : Need → Bool
    test = is_reached (payload_of p (made_of d))

    by_any : (b : Bool) → waits_for_any p j ≡ b → are_reached p (payload_of p (made_of d)) j k ≡ true
    by_any true e =
        let h = needed.one e in
        cond-true (waits_for_any p j) (list_any test (needs_at p j k)) (list_all test (needs_at p j k)) e ∙ any_passes_from_place test (needs_at p j k) h.place h.need h.is (known_reached p d views known h.need laws r so h.reached)
    by_any false e = cond-false (waits_for_any p j) (list_any test (needs_at p j k)) (list_all test (needs_at p j k)) e ∙ all_hold (KnowsReached p known) test (needs_at p j k) (λ n h. known_reached p d views known n laws r so h) (needed.all e)
