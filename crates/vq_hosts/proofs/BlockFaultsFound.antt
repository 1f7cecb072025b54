-- The fault of a block's line, by its tests in the order of the kinds.
use Rattle.std.proofs.Common.{◌≡◌, ℕ, Bool, true, false, ◌||◌, ◌&&◌, not, cond, List, Option, Some, None, refl, ap, ◌∙◌}
use Rattle.std.specs.Prelude.{find}
use Rattle.std.specs.List.{list_all}
use Rattle.std.specs.Option.{option_and_then, option_map_or}
use Rattle.vq_model.specs.declared.statement.FaultKind.TheVariants.{Syntax, Order, Number, Name, Twice, Limit}
use Rattle.vq_model.specs.Context.{has_begun, number_at}
use Rattle.vq_model.specs.LineFaults.{is_known, is_new, is_numeric, is_shaped, kinds}
use Rattle.vq_model.specs.Text.{is_plain}
use Rattle.vq_blocks.specs.declared.block.BlockForm.{BlockForm}
use Rattle.vq_blocks.specs.declared.block.BlockStatement.{BlockStatement}
use Rattle.vq_blocks.specs.BlockFaults.{begins_thread, fails_block, has_block_fault, has_rest_fault, hosts_fault, passes_block_limit}
use Rattle.vq_blocks.specs.Blocks.{Told, block_form, block_meaning, is_named, is_of_block, told_with, with_block_line}
use Rattle.vq_blocks.specs.BlockForms.{block_places, block_statement}
use Rattle.vq_model.specs.Meaning.{meaning, open_places}
use Rattle.vq_model.specs.Reading.{with_line}
use Rattle.vq_model.specs.declared.statement.Form.TheVariants.{Plain}
use Rattle.std.specs.Prelude.{map}
use Rattle.vq_hosts.specs.declared.block_lines.BlockTests.{BlockTests}
use Rattle.vq_hosts.specs.BlockTests.{first_kind}

module _ (told : Told) (words : List (List ℕ)) (of_block : is_of_block told words ≡ true) where
  block_fault : hosts_fault told words ≡ find (has_block_fault told words) kinds
  block_fault = ap (λ (b : Bool). find (cond b (has_block_fault told words) (has_rest_fault told words)) kinds) of_block

  -- what the words of a form say
  abbrev said : BlockForm → Option BlockStatement
  said f = block_statement (number_at told.rest) f (map (λ x. x.1) (open_places (block_places f) words))

  -- the tests of words of a form
  abbrev pub tests_of : BlockForm → BlockTests
  tests_of f =
      record {
        misshapen = not (list_all (list_all is_plain) words) || fails_block is_shaped words f;
        late = begins_thread f && has_begun told.rest;
        unnumbered = fails_block is_numeric words f;
        unknown = fails_block (is_known (number_at told.rest)) words f;
        named = fails_block (is_new (is_named told)) words f;
        full = option_map_or (passes_block_limit told) (said f) false;
      }

  pub block_tested : (f : BlockForm) → block_form told words ≡ Some f →
      hosts_fault told words ≡ first_kind (tests_of f)
  block_tested f e = block_fault ∙ rw e refl

  -- words without a form are a fault of syntax
  pub block_unformed : block_form told words ≡ None → hosts_fault told words ≡ Some Syntax
  block_unformed e = block_fault ∙ rw e (by_plain (list_all (list_all is_plain) words))
    where
      by_plain : (b : Bool) → cond (not b || true) (Some Syntax) (cond false (Some Order) (cond false (Some Number) (cond false (Some Name) (cond false (Some Twice) (cond false (Some Limit) None))))) ≡ Some Syntax
      by_plain true = refl
      by_plain false = refl

  -- what is told with a line of a form
  pub block_told : (f : BlockForm) (n : ℕ) (s : BlockStatement) → block_form told words ≡ Some f → said f ≡ Some s →
      told_with told n words ≡ with_block_line told n s
  block_told f n s e t =
      ap (λ (b : Bool). cond b (option_map_or (with_block_line told n) (block_meaning told words) told)
      (record told { rest = option_map_or (with_line told.rest n) (meaning Plain told.rest words) told.rest })) of_block
      ∙ ap (λ (o : Option BlockForm). option_map_or (with_block_line told n) (option_and_then said o) told) e
      ∙ ap (λ (o : Option BlockStatement). option_map_or (with_block_line told n) o told) t
