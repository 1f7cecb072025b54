-- Passes as a board deals them.
use Rattle.std.proofs.Common.{◌≡◌, ◌<◌, ℕ, List, All, length, get_or, sym, ap, ◌∙◌}
use Rattle.std.proofs.lemmas.List.{get_or-map, length-map}
use Rattle.std.proofs.lemmas.Option.{slice_get-get_or}
use Rattle.vq_board_laws.specs.declared.view.Role.{Role}
use Rattle.vq_board.specs.declared.parts.Board.{Board}
use Rattle.vq_board.specs.declared.parts.Pass.{Pass}
use Rattle.vq_board.specs.Named.{role_of, AreFresh, IsFresh}

module _ (b : Board) (xs : List Pass) (roles : List Role) (dealt : AreFresh b xs roles) where
  -- each has done nothing
  pub dealt_fresh : All (IsFresh b) xs
  dealt_fresh = λ k d l. dealt.1 k (get_or xs k d) (slice_get-get_or xs k d l)

  -- there is one for each role,
  pub dealt_count : length xs ≡ length roles
  dealt_count = sym (length-map xs role_of) ∙ ap length dealt.0

  -- at the role's place
  pub dealt_role : (k : ℕ) (d : Pass) (r : Role) → k < length xs → role_of (get_or xs k d) ≡ get_or roles k r
  dealt_role k d r l =
      sym (get_or-map role_of xs k d r l) ∙ ap (λ (rs : List Role). get_or rs k r) dealt.0
