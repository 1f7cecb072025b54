use Rattle.std.proofs.Common.{◌≡◌, ◌<◌, ◌++◌, [], ◌∷◌, List, None, false, sym, subst, rules, arith, ◌==◌}
use Rattle.std.proofs.lemmas.Bool.Decides.{nat_tests}
use Rattle.vq_capture.specs.declared.capture.Step.{Step}
use Rattle.vq_capture.specs.Releases.{step_at}
use Rattle.vq_capture_things.specs.Keeping.{AreKept, Keeps, Notes}
use Rattle.vq_capture_things.specs.PastLists.{past_steps}
use Rattle.vq_capture_things.proofs.MoreSteps.{none_at}
use Rattle.vq_capture_things.proofs.things.Things.add.Goals as goal

pub invariant_of-self : goal.invariant_of-self
invariant_of-self c =
    let was = c.args.self.now in
    let steps : List Step = past_steps was.past.value in
    let d : AreKept was.kept steps = record { initial = was.initial; units = was.units; rising = was.rising; value = was.value; binary = was.binary; fence = was.fence; event = was.event } in
    let keeps : Keeps was.kept c.note.new.self = search rules in
    let k = keeps steps d in
    record { initial = k.initial; units = k.units; rising = k.rising; value = k.value; binary = k.binary; fence = k.fence; event = k.event; above = was.above }

pub invariant_of-self-2 : goal.invariant_of-self-2
invariant_of-self-2 c =
    let was = c.args.self.now in
    let s = c.args.step in
    let steps : List Step = past_steps was.past.value in
    let d : AreKept was.kept steps = record { initial = was.initial; units = was.units; rising = was.rising; value = was.value; binary = was.binary; fence = was.fence; event = was.event } in
    let behind : was.last < s.line = search rules in
    let notes : Notes was.kept c.note.new.self s = search rules in
    let is : past_steps c.of.result.value ≡ steps ++ s ∷ [] = search rules in
    let k = subst (λ (xs : List Step). AreKept c.note.new.self xs) (sym is) (notes steps (was.above s.line behind) d) in
    record {
      initial = k.initial;
      units = k.units;
      rising = k.rising;
      value = k.value;
      binary = k.binary;
      fence = k.fence;
      event = k.event;
      above = λ n l.
          let later : was.last < n = omega arith in
          let apart : (s.line == n) ≡ false = grind (arith, nat_tests) in
          subst (λ (xs : List Step). step_at xs n ≡ None) (sym is) (none_at steps s n (was.above n later) apart);
    }
