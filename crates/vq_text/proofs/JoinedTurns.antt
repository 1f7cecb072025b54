-- Neighbouring turns of one actor are one line.
use Rattle.std.proofs.Common.{◌≡◌, ℕ, ◌+◌, Bool, true, false, cond, List, [], ◌∷◌, drop, suc, refl, sym, ap, ◌∙◌, subst, arith, ◌≤◌, ◌++◌, length, get_or, append_assoc}
use Rattle.std.specs.List.{prefix_len, flat_map}
use Rattle.vq_model.specs.declared.script.ActorName.{ActorName}
use Rattle.vq_model.specs.declared.script.Turn.{Turn}
use Rattle.vq_model.specs.Canonical.{joined_turns, with_turn, Turns, line_text, turns_words}
use Rattle.vq_model.specs.declared.script.Script.{Script}
use Rattle.vq_model.specs.Naming.{same_actor}
use Rattle.vq_model.proofs.Actors.{same_actor_is, same_actor_self}

-- whether a turn is of an actor
abbrev pub is_of : ActorName → Turn → Bool
is_of a t = same_actor a t.actor

-- the first turns of one actor are joined, and the others follow
abbrev pub FirstJoined : Turn → List Turn → Type 0
FirstJoined t ts =
    joined_turns (t ∷ ts)
    ≡ (t.actor, 1 + prefix_len (is_of t.actor) ts)
    ∷ joined_turns (drop (prefix_len (is_of t.actor) ts) ts)

pub first_joined : (t : Turn) (ts : List Turn) → FirstJoined t ts
first_joined t [] = refl
first_joined t (u ∷ us) = by_test (same_actor t.actor u.actor) refl (first_joined u us)
  where
    by_test : (b : Bool) → same_actor t.actor u.actor ≡ b → FirstJoined u us →
        FirstJoined t (u ∷ us)
    by_test true e h =
        let k = prefix_len (is_of u.actor) us in
        let same : t.actor ≡ u.actor = same_actor_is t.actor u.actor e in
        let joined : joined_turns (t ∷ u ∷ us)
        ≡ (u.actor, 1 + k + 1) ∷ joined_turns (drop k us) =
        ap (with_turn t.actor) h
        ∙ ap (λ (b : Bool). cond b ((u.actor, 1 + k + 1) ∷ joined_turns (drop k us))
        ((t.actor, 1) ∷ (u.actor, 1 + k) ∷ joined_turns (drop k us))) e in
        let one : prefix_len (is_of u.actor) (u ∷ us) ≡ 1 + k =
        ap (λ (b : Bool). cond b (1 + k) 0) (same_actor_self u.actor) in
        let more : prefix_len (is_of u.actor) (u ∷ us) ≡ suc k = omega arith in
        let whole : 1 + k + 1 ≡ 1 + suc k = omega arith in
        subst (λ (a : ActorName). joined_turns (t ∷ u ∷ us)
        ≡ (a, 1 + prefix_len (is_of a) (u ∷ us))
        ∷ joined_turns (drop (prefix_len (is_of a) (u ∷ us)) (u ∷ us))) (sym same)
        (joined ∙ (λ i. (u.actor, (whole ∙ ap (λ (n : ℕ). 1 + n) (sym more)) i)
        ∷ joined_turns (drop (sym more i) (u ∷ us))))
    by_test false e h =
        let k = prefix_len (is_of u.actor) us in
        let none : prefix_len (is_of t.actor) (u ∷ us) ≡ 0 =
        ap (λ (b : Bool). cond b (1 + prefix_len (is_of t.actor) us) 0) e in
        let alone : joined_turns (t ∷ u ∷ us) ≡ (t.actor, 1) ∷ joined_turns (u ∷ us) =
        ap (with_turn t.actor) h
        ∙ ap (λ (b : Bool). cond b ((u.actor, 1 + k + 1) ∷ joined_turns (drop k us))
        ((t.actor, 1) ∷ (u.actor, 1 + k) ∷ joined_turns (drop k us))) e
        ∙ ap (λ (js : List Turns). (t.actor, 1) ∷ js) (sym h) in
        alone ∙ (λ i. (t.actor, 1 + sym none i) ∷ joined_turns (drop (sym none i) (u ∷ us)))

-- the same, of turns with their own actor counted
whole_joined : (t : Turn) (ts : List Turn) →
    joined_turns (t ∷ ts)
    ≡ (t.actor, prefix_len (is_of t.actor) (t ∷ ts))
    ∷ joined_turns (drop (prefix_len (is_of t.actor) (t ∷ ts)) (t ∷ ts))
whole_joined t ts =
    let k = prefix_len (is_of t.actor) ts in
    let one : prefix_len (is_of t.actor) (t ∷ ts) ≡ 1 + k =
    ap (λ (b : Bool). cond b (1 + k) 0) (same_actor_self t.actor) in
    let more : prefix_len (is_of t.actor) (t ∷ ts) ≡ suc k = omega arith in
    first_joined t ts ∙ (λ i. (t.actor, sym one i) ∷ joined_turns (drop (sym more i) (t ∷ ts)))

-- the lines of turns, from the line of the first ones on
pub next_joined : (s : Script) (ts others : List Turn) (d : Turn) (count : ℕ)
    (whole old new : List ℕ) → 1 ≤ length ts →
    count ≡ prefix_len (is_of (get_or ts 0 d).actor) ts → others ≡ drop count ts →
    new ≡ old ++ line_text (turns_words s ((get_or ts 0 d).actor, count)) →
    old ++ flat_map (λ t. line_text (turns_words s t)) (joined_turns ts) ≡ whole →
    new ++ flat_map (λ t. line_text (turns_words s t)) (joined_turns others) ≡ whole
next_joined s [] others d count whole old new l e o n w = absurd (omega arith)
next_joined s (t ∷ ts) others d count whole old new l e o n w =
    let lines : List Turns → List ℕ = flat_map (λ x. line_text (turns_words s x)) in
    (λ i. n i ++ lines (joined_turns (o i)))
    ∙ append_assoc old (line_text (turns_words s (t.actor, count))) (lines (joined_turns (drop count (t ∷ ts))))
    ∙ (λ i. old ++ lines ((t.actor, e i) ∷ joined_turns (drop (e i) (t ∷ ts))))
    ∙ ap (λ js. old ++ lines js) (sym (whole_joined t ts)) ∙ w
