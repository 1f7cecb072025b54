-- What was found for a need, and what was read of a chain.
use Rattle.std.proofs.Common.{◌≡◌, refl, ℕ, true, ◌&&◌, ◌==◌, nat_le}
use Rattle.std.proofs.lemmas.Bool.{and_from, eq-eqb}
use Rattle.vq_model.specs.Plan.{Plan, initial}
use Rattle.vq_board_laws.specs.declared.view.View.{View}
use Rattle.vq_access_laws.specs.Tests.{saw_value, shows_value, notes_next}

-- a comparison saw the value that was read
pub saw_read : (p : Plan) (w : View) (t wanted n : ℕ) →
    (nat_le (initial p t) n && (shows_value p w.known t n && notes_next p w.unmade t n)) ≡ true →
    saw_value p w (t, wanted) (record { wanted = wanted; past = n }) ≡ true
saw_read p w t wanted n h = and_from (wanted == wanted)
    (nat_le (initial p t) n && (shows_value p w.known t n && notes_next p w.unmade t n)) (eq-eqb wanted wanted refl) h
