-- A pass looked and learned, and did nothing else. This project's own.
use Rattle.std.specs.Prelude.{◌≡◌, List, ◌++◌}
use Rattle.vq_board_laws.specs.declared.view.View.{View}

-- the second list is the first with more in front
abbrev pub Grows : {A : Type 0} → List A → List A → Type 0
Grows {A} xs ys = (front : List A) × (ys ≡ front ++ xs)

pub record Learns (v w : View) : Type 0 where
  pub same : w ≡ record v { known = w.known; unmade = w.unmade; steps = w.steps }
  pub known : Grows v.known w.known
  pub unmade : Grows v.unmade w.unmade
  pub steps : Grows v.steps w.steps
