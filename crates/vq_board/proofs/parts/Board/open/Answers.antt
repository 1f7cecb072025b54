use Rattle.std.proofs.Common.{arith, ◌≡◌, ℕ, ◌<◌, ◌^◌, map, List, [], ◌∷◌, ◌++◌, length, sym, ap, ◌∙◌, subst, refl}
use Rattle.std.proofs.lemmas.Grind.{common_steps}
use Rattle.atomic_table.specs.Table.{opening}
use Rattle.vq_model.specs.Memory.{zeros_of}
use Rattle.vq_model.specs.Plan.{Plan, chain}
use Rattle.vq_model.specs.SameScript.{IsRead}
use Rattle.vq_model.specs.ValidScripts.{sizes_of}
use Rattle.vq_board_laws.specs.declared.view.LoggedBuffers.{LoggedBuffers}
use Rattle.vq_board_laws.specs.RunLaws.{RunLaws}
use Rattle.vq_board_laws.specs.Words.{word_count}
use Rattle.vq_board_laws.specs.Rule.{Kept, fresh}
use Rattle.vq_board_laws.proofs.Cited.{opens}
use Rattle.vq_board.specs.Copied.{command_of}
use Rattle.vq_board.specs.Firsts.{AreCounted, StandInChains}
use Rattle.vq_board.specs.Hands.{InHand}
use Rattle.vq_board.proofs.Copied.{all_fit}
use Rattle.vq_board.proofs.Firsts.{firsts_none}
use Rattle.vq_board.proofs.Placed.{placed, short}
use Rattle.vq_board.proofs.parts.Board.open.Goals as goal

pub new-requires : goal.new-requires
new-requires c =
    let p : Plan = c.args.plan.now in
    let ws : List ℕ = c.as_slice.result.now in
    let x : LoggedBuffers = record { buffers = c.in_ok-buffers.buffers; filled = 0 } in
    let one : c.push.new.self.items ≡ x ∷ [] = c.in_ok-push.ensures.items ∙ ap (λ (xs : List LoggedBuffers). xs ++ x ∷ []) c.new-slots.ensures.items in
    subst (λ (xs : List LoggedBuffers). Kept p (opening ws xs (fresh p 0))) (sym one)
    (opens p ws x c.requires.plan c.requires.lawful (grind (arith, common_steps)) (λ i. grind (arith, common_steps)) refl
    (c.in_ok-buffers.ensures.bytes ∙ ap zeros_of (ap sizes_of c.script.ensures.script ∙ sym (ap (λ (q : Plan). q.sizes) c.requires.plan.lowered))))

pub zero_buffers-requires : goal.zero_buffers-requires
zero_buffers-requires c = subst IsRead (sym c.script.ensures.script) c.requires.plan.of_script

pub invariant_of-board : goal.invariant_of-board
invariant_of-board c =
    let ok = c.in-Ok.ensures.ok in
    let key : c.in-Ok.table.shared.key ≡ c.args.plan.now = ok.5 in
    let wide : length c.as_slice.result.now ≡ word_count c.args.plan.now = grind (arith, common_steps) in
    record {
      sized = ok.0 ∙ (wide ∙ ap word_count (sym key));
      one_slot = ok.1 ∙ (ap length c.in_ok-push.ensures.items ∙ ap (λ (xs : List LoggedBuffers). length (xs ++ record { buffers = c.in_ok-buffers.buffers; filled = 0 } ∷ [])) c.new-slots.ensures.items);
      planned = c.of-2.ensures ∙ sym key;
      few = subst (λ (p : Plan). length p.commands < 2 ^ 32) (sym key) c.word_count.ensures.few;
      few_ops = subst (λ (p : Plan). length p.ops < 2 ^ 32) (sym key) c.word_count.ensures.few_ops;
      laws = subst RunLaws (sym key) (c.runs_keep.ensures c.args.plan.now c.requires.plan c.requires.lawful);
      copied = c.in_ok-copies.ensures.commands ∙ ap (λ (p : Plan). map command_of p.commands) (sym key);
      fit = all_fit c.args.plan.now c.requires.plan c.in_ok-copies.copies.commands c.in-Ok.table.shared.key.sizes c.in_ok-copies.ensures.commands (ap (λ (p : Plan). p.sizes) key);
      ops = c.in_ok-copies.ensures.ops ∙ ap (λ (p : Plan). p.ops) (sym key);
      placed = subst StandInChains (sym key) (placed c.args.plan.now c.requires.plan);
      short = λ t. (let l = short c.args.plan.now c.requires.plan t in let same = ap (λ (p : Plan). length (chain p t)) key in omega arith);
    }

pub invariant_of-host : goal.invariant_of-host
invariant_of-host c =
    let me = c.in-Ok.ensures.ok.4 in
    let zeros = c.in_ok-first_made.ensures.items_if_clones_equal (λ y e. e) in
    let whole : length c.in_ok-first_made.first_made.items ≡ length c.args.plan.now.chains = grind (arith, common_steps) in
    record {
      running = sym (ap (λ m. m.0.runs) me);
      hand = subst InHand (sym me) tt;
      firsts = subst (AreCounted c.in_ok-first_made.first_made.items) (sym me) (firsts_none c.args.plan.now c.in_ok-first_made.first_made.items _ zeros whole);
    }
