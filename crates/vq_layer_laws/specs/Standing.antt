-- Where the waits of a batch stood at its release, and what it holds for them.
use Rattle.std.specs.Prelude.{ℕ, List, [], ◌∷◌, ◌≡◌, ◌⊎◌, None, Some}
use Rattle.vq_live.specs.declared.answers.Given.{Given}
use Rattle.vq_live.specs.declared.answers.Found.TheVariants as found_as
use Rattle.vq_live.specs.Live.{Live}
use Rattle.vq_layer.specs.declared.answers.Wait.{Wait}
use Rattle.vq_layer.specs.Waits.{found_in}

-- a wait was past, and holds nothing; or an operation was pending at its value, and it holds that one's point
abbrev pub WasPast : List Live → Wait → Wait → Type 0
WasPast ts w v = (found_in ts w.wanted ≡ found_as.Past) × (v.held ≡ None)

abbrev pub WasPending : List Live → Wait → Wait → Type 0
WasPending ts w v = (x : Given) × ((found_in ts w.wanted ≡ found_as.Pending x) × (v.held ≡ Some x.point))

abbrev pub Stood : List Live → Wait → Wait → Type 0
Stood ts w v = (v.wanted ≡ w.wanted) × (WasPast ts w v ⊎ WasPending ts w v)

abbrev pub AllStood : List Live → List Wait → List Wait → Type 0
AllStood ts [] [] = Unit {0}
AllStood ts [] (v ∷ vs) = ⊥
AllStood ts (w ∷ ws) [] = ⊥
AllStood ts (w ∷ ws) (v ∷ vs) = Stood ts w v × AllStood ts ws vs
