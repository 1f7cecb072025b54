-- Neighbouring turns of one actor are one line, which stands for as many turns.
use Rattle.std.proofs.Common.{◌≡◌, ◌+◌, ◌<◌, Bool, true, false, cond, List, [], ◌∷◌, ◌++◌, map, replicate, suc, refl, sym, ap, ◌∙◌, arith}
use Rattle.std.specs.List.{AllByRecursion as Every, flat_map}
use Rattle.vq_model.specs.declared.script.ActorName.{ActorName}
use Rattle.vq_model.specs.declared.script.Turn.{Turn}
use Rattle.vq_model.specs.declared.script.Queue.{Queue}
use Rattle.vq_model.specs.Canonical.{Turns, with_turn, joined_turns}
use Rattle.vq_model.specs.SameScript.{turn_without_line}
use Rattle.vq_model.specs.Naming.{same_actor}
use Rattle.vq_model.proofs.Actors.{same_actor_is}
use Rattle.vq_canonical_laws.proofs.ScheduleParts.{IsActorIn, a_turn}

-- the turns for which actors with counts stand
abbrev pub expanded : List Turns → List Turn
expanded js = flat_map (λ t. replicate t.1 (a_turn t.0)) js

expanded_with : (a : ActorName) (js : List Turns) → expanded (with_turn a js) ≡ a_turn a ∷ expanded js
expanded_with a [] = refl
expanded_with a ((b, n) ∷ js) = by_test (same_actor a b) refl
  where
    by_test : (t : Bool) → same_actor a b ≡ t →
        expanded (cond t ((b, n + 1) ∷ js) ((a, 1) ∷ (b, n) ∷ js))
        ≡ a_turn a ∷ expanded ((b, n) ∷ js)
    by_test true e =
        let more : n + 1 ≡ suc n = omega arith in
        (λ i. replicate (more i) (a_turn b) ++ expanded js)
        ∙ ap (λ (c : ActorName). a_turn c ∷ expanded ((b, n) ∷ js)) (sym (same_actor_is a b e))
    by_test false e = refl

-- Joined turns stand for the turns, without their lines.
pub expanded_joined : (ts : List Turn) → expanded (joined_turns ts) ≡ map turn_without_line ts
expanded_joined [] = refl
expanded_joined (t ∷ ts) =
    expanded_with t.actor (joined_turns ts)
    ∙ ap (λ (us : List Turn). a_turn t.actor ∷ us) (expanded_joined ts)

-- turns of an actor of these queues, one at least
abbrev pub AreOf : List Queue → Turns → Type 0
AreOf qs t = IsActorIn qs t.0 × (0 < t.1)

are_with : (qs : List Queue) (a : ActorName) (js : List Turns) → IsActorIn qs a →
    Every (AreOf qs) js → Every (AreOf qs) (with_turn a js)
are_with qs a [] i h = ((i, omega arith), tt)
are_with qs a ((b, n) ∷ js) i h = by_test (same_actor a b)
  where
    by_test : (t : Bool) → Every (AreOf qs) (cond t ((b, n + 1) ∷ js) ((a, 1) ∷ (b, n) ∷ js))
    by_test true = ((h.0.0, omega arith), h.1)
    by_test false = ((i, omega arith), h)

pub are_joined : (qs : List Queue) (ts : List Turn) → Every (λ t. IsActorIn qs t.actor) ts →
    Every (AreOf qs) (joined_turns ts)
are_joined qs [] h = tt
are_joined qs (t ∷ ts) h = are_with qs t.actor (joined_turns ts) h.0 (are_joined qs ts h.1)
