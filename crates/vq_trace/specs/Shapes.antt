-- What words say that name one thing, or two.
use Rattle.std.specs.Prelude.{ℕ, List, [], ◌∷◌, Option, None}
use Rattle.vq_model.specs.Plan.{Plan}
use Rattle.vq_model.specs.Meaning.{of_two, small_numeral}
use Rattle.vq_given.specs.Words.{job_said, op_said}

-- a job by its line
abbrev pub one_job : Plan → List (List ℕ) → Option ℕ
one_job p (line ∷ []) = job_said p line
one_job p words = None

-- a signal operation by its name and value
abbrev pub one_op : Plan → List (List ℕ) → Option ℕ
one_op p (name ∷ value ∷ []) = op_said p name value
one_op p words = None

abbrev pub one_point : List (List ℕ) → Option ℕ
one_point (point ∷ []) = small_numeral point
one_point words = None

-- a point, and the signal operation that it carries
abbrev pub referred : Plan → List (List ℕ) → Option (ℕ × ℕ)
referred p (point ∷ name ∷ value ∷ []) = of_two (λ q e. (q, e)) (small_numeral point) (op_said p name value)
referred p words = None

-- a signal operation, and the point that carries it
abbrev pub bound : Plan → List (List ℕ) → Option (ℕ × ℕ)
bound p (name ∷ value ∷ point ∷ []) = of_two (λ e q. (e, q)) (op_said p name value) (small_numeral point)
bound p words = None
