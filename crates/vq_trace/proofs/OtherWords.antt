-- Words that are too few or too many say nothing.
use Rattle.std.proofs.Common.{ℕ, ◌≡◌, ◌<◌, ◌≤◌, List, [], ◌∷◌, None, length, refl, arith}
use Rattle.std.specs.Borrow.{Bor}
use Rattle.vq_model.specs.declared.script.ActorName.{ActorName}
use Rattle.vq_model.specs.Plan.{Plan}
use Rattle.vq_lexer.specs.Words.{texts}
use Rattle.vq_given.specs.Words.{answer_said, end_said, event_by, turn_said}
use Rattle.vq_given.specs.declared.verb.Verb.TheVariants.{Apply, Take}
use Rattle.vq_trace.specs.Shapes.{bound, one_job, one_op, one_point, referred}

pub long_job : (p : Plan) (words : List (Bor (List ℕ))) → 2 ≤ length words → None ≡ one_job p (texts words)
long_job p [] h = absurd (omega (arith, h))
long_job p (w ∷ []) h = absurd (omega (arith, h))
long_job p (w ∷ v ∷ words) h = refl

pub long_point : (words : List (Bor (List ℕ))) → 2 ≤ length words → None ≡ one_point (texts words)
long_point [] h = absurd (omega (arith, h))
long_point (w ∷ []) h = absurd (omega (arith, h))
long_point (w ∷ v ∷ words) h = refl

pub short_op : (p : Plan) (words : List (Bor (List ℕ))) → length words < 2 → None ≡ one_op p (texts words)
short_op p [] h = refl
short_op p (w ∷ []) h = refl
short_op p (w ∷ v ∷ words) h = absurd (omega (arith, h))

pub long_op : (p : Plan) (words : List (Bor (List ℕ))) → 3 ≤ length words → None ≡ one_op p (texts words)
long_op p [] h = absurd (omega (arith, h))
long_op p (w ∷ []) h = absurd (omega (arith, h))
long_op p (w ∷ v ∷ []) h = absurd (omega (arith, h))
long_op p (w ∷ v ∷ u ∷ words) h = refl

pub short_referred : (p : Plan) (words : List (Bor (List ℕ))) → length words < 3 → None ≡ referred p (texts words)
short_referred p [] h = refl
short_referred p (w ∷ []) h = refl
short_referred p (w ∷ v ∷ []) h = refl
short_referred p (w ∷ v ∷ u ∷ words) h = absurd (omega (arith, h))

pub long_referred : (p : Plan) (words : List (Bor (List ℕ))) → 4 ≤ length words → None ≡ referred p (texts words)
long_referred p [] h = absurd (omega (arith, h))
long_referred p (w ∷ []) h = absurd (omega (arith, h))
long_referred p (w ∷ v ∷ []) h = absurd (omega (arith, h))
long_referred p (w ∷ v ∷ u ∷ []) h = absurd (omega (arith, h))
long_referred p (w ∷ v ∷ u ∷ t ∷ words) h = refl

pub short_bound : (p : Plan) (words : List (Bor (List ℕ))) → length words < 3 → None ≡ bound p (texts words)
short_bound p [] h = refl
short_bound p (w ∷ []) h = refl
short_bound p (w ∷ v ∷ []) h = refl
short_bound p (w ∷ v ∷ u ∷ words) h = absurd (omega (arith, h))

pub long_bound : (p : Plan) (words : List (Bor (List ℕ))) → 4 ≤ length words → None ≡ bound p (texts words)
long_bound p [] h = absurd (omega (arith, h))
long_bound p (w ∷ []) h = absurd (omega (arith, h))
long_bound p (w ∷ v ∷ []) h = absurd (omega (arith, h))
long_bound p (w ∷ v ∷ u ∷ []) h = absurd (omega (arith, h))
long_bound p (w ∷ v ∷ u ∷ t ∷ words) h = refl

pub short_take : (p : Plan) (words : List (Bor (List ℕ))) → length words < 4 → (a : ActorName) → None ≡ event_by p a Take (texts words)
short_take p [] h = λ a. refl
short_take p (w ∷ []) h = λ a. refl
short_take p (w ∷ v ∷ []) h = λ a. refl
short_take p (w ∷ v ∷ u ∷ []) h = λ a. refl
short_take p (w ∷ v ∷ u ∷ t ∷ words) h = absurd (omega (arith, h))

pub long_take : (p : Plan) (words : List (Bor (List ℕ))) → 5 ≤ length words → (a : ActorName) → None ≡ event_by p a Take (texts words)
long_take p [] h = absurd (omega (arith, h))
long_take p (w ∷ []) h = absurd (omega (arith, h))
long_take p (w ∷ v ∷ []) h = absurd (omega (arith, h))
long_take p (w ∷ v ∷ u ∷ []) h = absurd (omega (arith, h))
long_take p (w ∷ v ∷ u ∷ t ∷ []) h = absurd (omega (arith, h))
long_take p (w ∷ v ∷ u ∷ t ∷ s ∷ words) h = λ a. refl

pub long_apply : (p : Plan) (words : List (Bor (List ℕ))) → 2 ≤ length words → (a : ActorName) → None ≡ event_by p a Apply (texts words)
long_apply p [] h = absurd (omega (arith, h))
long_apply p (w ∷ []) h = absurd (omega (arith, h))
long_apply p (w ∷ v ∷ words) h = λ a. refl

pub long_answer : (words : List (Bor (List ℕ))) → 3 ≤ length words → None ≡ answer_said (texts words)
long_answer [] h = absurd (omega (arith, h))
long_answer (w ∷ []) h = absurd (omega (arith, h))
long_answer (w ∷ v ∷ []) h = absurd (omega (arith, h))
long_answer (w ∷ v ∷ u ∷ words) h = refl

pub long_end : (words : List (Bor (List ℕ))) → 3 ≤ length words → None ≡ end_said (texts words)
long_end [] h = absurd (omega (arith, h))
long_end (w ∷ []) h = absurd (omega (arith, h))
long_end (w ∷ v ∷ []) h = absurd (omega (arith, h))
long_end (w ∷ v ∷ u ∷ words) h = refl

pub short_turn : (p : Plan) (words : List (Bor (List ℕ))) → length words < 2 → None ≡ turn_said p (texts words)
short_turn p [] h = refl
short_turn p (w ∷ []) h = refl
short_turn p (w ∷ v ∷ words) h = absurd (omega (arith, h))
