-- The event after each verb, by the things that its words name.
use Rattle.std.proofs.Common.{ℕ, ◌≡◌, List, [], ◌∷◌, Option, Some, None, option_map, refl}
use Rattle.vq_model.specs.declared.script.ActorName.{ActorName}
use Rattle.vq_model.specs.declared.plan.Event.TheVariants.{Submit as Submits, Release as Releases, Bind as Binds, Refer as Refers, Look as Looks, Unref as Unrefs, Complete as Completes, Free as Frees, Start as Starts, Signal as Signals, Finish as Finishes}
use Rattle.vq_model.specs.Meaning.{of_two, small_numeral}
use Rattle.vq_model.specs.Plan.{Plan}
use Rattle.vq_given.specs.Words.{event_by, op_said}
use Rattle.vq_given.specs.declared.verb.Verb.TheVariants.{Submit, Release, Bind, Refer, Look, Unref, Complete, Free, Start, Signal, Finish}
use Rattle.vq_trace.specs.Shapes.{bound, one_job, one_op, one_point, referred}

of_pair : {A : Type 0} (f : ℕ → ℕ → A) (a b : Option ℕ) →
    of_two f a b ≡ option_map (λ (x : ℕ × ℕ). f x.0 x.1) (of_two (λ x y. (x, y)) a b)
of_pair f None b = refl
of_pair f (Some x) None = refl
of_pair f (Some x) (Some y) = refl

pub by_submit : (p : Plan) (a : ActorName) (words : List (List ℕ)) →
    event_by p a Submit words ≡ option_map (λ j. Submits j) (one_job p words)
by_submit p a [] = refl
by_submit p a (line ∷ []) = refl
by_submit p a (line ∷ next ∷ words) = refl

pub by_release : (p : Plan) (a : ActorName) (words : List (List ℕ)) →
    event_by p a Release words ≡ option_map (λ j. Releases j) (one_job p words)
by_release p a [] = refl
by_release p a (line ∷ []) = refl
by_release p a (line ∷ next ∷ words) = refl

pub by_start : (p : Plan) (a : ActorName) (words : List (List ℕ)) →
    event_by p a Start words ≡ option_map (λ j. Starts j) (one_job p words)
by_start p a [] = refl
by_start p a (line ∷ []) = refl
by_start p a (line ∷ next ∷ words) = refl

pub by_finish : (p : Plan) (a : ActorName) (words : List (List ℕ)) →
    event_by p a Finish words ≡ option_map (λ j. Finishes j) (one_job p words)
by_finish p a [] = refl
by_finish p a (line ∷ []) = refl
by_finish p a (line ∷ next ∷ words) = refl

pub by_complete : (p : Plan) (a : ActorName) (words : List (List ℕ)) →
    event_by p a Complete words ≡ option_map (λ e. Completes e) (one_op p words)
by_complete p a [] = refl
by_complete p a (name ∷ []) = refl
by_complete p a (name ∷ value ∷ []) = refl
by_complete p a (name ∷ value ∷ next ∷ words) = refl

pub by_signal : (p : Plan) (a : ActorName) (words : List (List ℕ)) →
    event_by p a Signal words ≡ option_map (λ e. Signals e) (one_op p words)
by_signal p a [] = refl
by_signal p a (name ∷ []) = refl
by_signal p a (name ∷ value ∷ []) = refl
by_signal p a (name ∷ value ∷ next ∷ words) = refl

pub by_free : (p : Plan) (a : ActorName) (words : List (List ℕ)) →
    event_by p a Free words ≡ option_map (λ q. Frees q) (one_point words)
by_free p a [] = refl
by_free p a (point ∷ []) = refl
by_free p a (point ∷ next ∷ words) = refl

pub by_bind : (p : Plan) (a : ActorName) (words : List (List ℕ)) →
    event_by p a Bind words ≡ option_map (λ (x : ℕ × ℕ). Binds x.0 x.1) (bound p words)
by_bind p a [] = refl
by_bind p a (name ∷ []) = refl
by_bind p a (name ∷ value ∷ []) = refl
by_bind p a (name ∷ value ∷ point ∷ []) = of_pair (λ e q. Binds e q) (op_said p name value) (small_numeral point)
by_bind p a (name ∷ value ∷ point ∷ next ∷ words) = refl

pub by_refer : (p : Plan) (a : ActorName) (words : List (List ℕ)) →
    event_by p a Refer words ≡ option_map (λ (x : ℕ × ℕ). Refers a x.0 x.1) (referred p words)
by_refer p a [] = refl
by_refer p a (point ∷ []) = refl
by_refer p a (point ∷ name ∷ []) = refl
by_refer p a (point ∷ name ∷ value ∷ []) = of_pair (λ q e. Refers a q e) (small_numeral point) (op_said p name value)
by_refer p a (point ∷ name ∷ value ∷ next ∷ words) = refl

pub by_look : (p : Plan) (a : ActorName) (words : List (List ℕ)) →
    event_by p a Look words ≡ option_map (λ (x : ℕ × ℕ). Looks a x.0 x.1) (referred p words)
by_look p a [] = refl
by_look p a (point ∷ []) = refl
by_look p a (point ∷ name ∷ []) = refl
by_look p a (point ∷ name ∷ value ∷ []) = of_pair (λ q e. Looks a q e) (small_numeral point) (op_said p name value)
by_look p a (point ∷ name ∷ value ∷ next ∷ words) = refl

pub by_unref : (p : Plan) (a : ActorName) (words : List (List ℕ)) →
    event_by p a Unref words ≡ option_map (λ (x : ℕ × ℕ). Unrefs a x.0 x.1) (referred p words)
by_unref p a [] = refl
by_unref p a (point ∷ []) = refl
by_unref p a (point ∷ name ∷ []) = refl
by_unref p a (point ∷ name ∷ value ∷ []) = of_pair (λ q e. Unrefs a q e) (small_numeral point) (op_said p name value)
by_unref p a (point ∷ name ∷ value ∷ next ∷ words) = refl
