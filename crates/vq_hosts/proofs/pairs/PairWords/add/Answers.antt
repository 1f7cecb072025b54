use Rattle.std.proofs.Common.{ℕ, Bool, ◌&&◌, ◌++◌, Option, is_some, ap, ◌∙◌}
use Rattle.std.specs.Option.{option_to_list}
use Rattle.vq_model.specs.declared.script.Pair.{Pair}
use Rattle.vq_model.specs.declared.statement.Form.TheVariants.{Plain}
use Rattle.vq_model.specs.Meaning.{of_two}
use Rattle.vq_hosts.proofs.pairs.PairWords.add.Goals as goal

pub returns : goal.returns
returns c = λ lines h.
    let old = c.args.self.now in
    let number = c.timeline-semaphore.ensures Plain lines h in
    let value = c.numeral-number.ensures in
    let make : ℕ → ℕ → Pair = λ t v. record { semaphore = t; value = v } in
    record {
      all_shaped = ap (λ (b : Bool). old.shaped && b) c.is_name.ensures;
      all_numeric = ap (λ (b : Bool). old.numeric && b) (c.is_some.ensures ∙ ap (λ (o : Option ℕ). is_some o) value);
      all_known = ap (λ (b : Bool). old.known && b) (c.is_some-2.ensures ∙ ap (λ (o : Option ℕ). is_some o) number);
      all_pairs = c.in_ok-push_some.ensures
          ∙ ap (λ (o : Option Pair). old.pairs.items ++ option_to_list o)
          (c.pair.ensures ∙ (λ i. of_two make (number i) (value i)));
    }
