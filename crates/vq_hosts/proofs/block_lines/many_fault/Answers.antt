use Rattle.std.proofs.Common.{◌≡◌, ◌||◌, ◌&&◌, ℕ, Bool, false, true, List, ◌∷◌, length, sym, ap, ◌∙◌, arith}
use Rattle.std.specs.List.{list_all}
use Rattle.vq_model.specs.Context.{section}
use Rattle.vq_model.specs.Text.{is_plain, words_in}
use Rattle.vq_blocks.specs.declared.block.BlockForm.TheVariants.{ThreadForm}
use Rattle.vq_blocks.specs.BlockFaults.{hosts_fault}
use Rattle.vq_blocks.specs.BlockForms.{matches_block}
use Rattle.vq_blocks.specs.Blocks.{Told, is_of_block, is_outside}
use Rattle.vq_hosts.specs.BlockWords.{form_in}
use Rattle.vq_hosts.proofs.BlockFaultsFound.{block_unformed}
use Rattle.vq_hosts.proofs.BlockForms.{many_formed, many_unformed}
use Rattle.vq_hosts.proofs.block_lines.many_fault.Goals as goal

-- each line inside a block belongs to it
of_block : (told : Told) (words : List (List ℕ)) → told.inside ≡ true → is_of_block told words ≡ true
of_block told words inside =
    ap (λ (b : Bool). b || (is_outside (section told.rest) && matches_block words ThreadForm)) inside

pub returns-then-not-is_wait : goal.returns-then-not-is_wait
returns-then-not-is_wait c = λ told hr inside.
    let words = words_in c.args.part.now in
    let rest = words_in c.in-Some.pairs.now in
    let counted = ap (λ (ws : List (List ℕ)). length ws) c.in-Some.ensures.0 in
    let other : c.is_wait.result ≡ false = cc in
    block_unformed told words (of_block told words inside)
    ((λ i. form_in (inside i) (c.in-Some.ensures.0 i))
    ∙ many_unformed c.in-Some.first.now rest (omega arith) (sym c.is_wait.ensures ∙ other))

pub returns : goal.returns
returns c = λ told hr inside.
    let first = c.in-Some.first.now in
    let rest = words_in c.in-Some.pairs.now in
    let counted = ap (λ (ws : List (List ℕ)). length ws) c.in-Some.ensures.0 in
    let waits : c.is_wait.result ≡ true = cc in
    ap (λ (ws : List (List ℕ)). hosts_fault told ws) c.in-Some.ensures.0
    ∙ c.pairs_fault.ensures told first hr (of_block told (first ∷ rest) inside)
    (c.are_plain.ensures ∙ ap (λ (ws : List (List ℕ)). list_all (list_all is_plain) ws) c.in-Some.ensures.0)
    (ap (λ (b : Bool). form_in b (first ∷ rest)) inside
    ∙ many_formed first rest (omega arith) (sym c.is_wait.ensures ∙ waits))
