-- Points on the board, and the operations that they carry. This project's own.
use Rattle.std.specs.Prelude.{ℕ, List, [], ◌∷◌, ◌≡◌, ◌≢◌, ◌≤◌}
use Rattle.std.specs.Prelude.{◌+◌, ◌<◌, ◌^◌, ◌⊎◌, length, true, false, Some}
use Rattle.vq_model.specs.Plan.{Plan, chain_of}
use Rattle.vq_ground.specs.Lists.{has}
use Rattle.vq_point_laws.specs.PointWord.{parts}
use Rattle.vq_board_laws.specs.declared.view.View.{View}
use Rattle.vq_board_laws.specs.declared.view.Reference.{Reference}
use Rattle.vq_board_laws.specs.declared.view.Role.TheVariants.{Shelf}
use Rattle.vq_board_laws.specs.Roles.{role_number}
use Rattle.vq_board_laws.specs.Words.{Carries}
use Rattle.vq_board_laws.specs.Knowledge.{Each}

abbrev pub reference : ℕ → ℕ → Reference
reference q e = record { point = q; op = e }

abbrev pub Lists : List Reference → Reference → Type 0
Lists [] r = ⊥
Lists (x ∷ xs) r = (x ≡ r) ⊎ Lists xs r

-- the operation is of the chain whose shelf the role is
pub record IsOfShelf (p : Plan) (e role : ℕ) : Type 0 where
  pub chain : ℕ
  pub in_chain : chain_of p e ≡ Some chain
  pub shelf : role_number p (Shelf chain) ≡ role

-- A shelf's points and operations: its pass knows which points carry what, one point for each
-- operation, and which operations are bound and past.
pub record OwnShelf (p : Plan) (op point : ℕ → ℕ) (role : ℕ) (owned : List ℕ)
    (carrying : List Reference) (bound past : List ℕ) : Type 0 where
  pub free : (q : ℕ) → has owned q ≡ true → ((e : ℕ) → ¬ Lists carrying (reference q e)) →
      point q ≡ 0
  pub taken : (q e : ℕ) → Lists carrying (reference q e) →
      (has owned q ≡ true) × IsOfShelf p e role × Carries (point q) e
  pub complete : (q e : ℕ) → IsOfShelf p e role → Carries (point q) e →
      Lists carrying (reference q e)
  pub single : (q r e : ℕ) → Lists carrying (reference q e) → Lists carrying (reference r e) → q ≡ r
  pub bound_all : (e : ℕ) → IsOfShelf p e role → op e ≢ 0 → has bound e ≡ true
  pub bound_only : (e : ℕ) → has bound e ≡ true → IsOfShelf p e role × (op e ≢ 0)
  pub past_all : (e : ℕ) → IsOfShelf p e role → op e ≡ 1 → has past e ≡ true
  pub past_only : (e : ℕ) → has past e ≡ true → op e ≡ 1

-- the word of a point: no bit above its parts is set, and one that isn't held is 0
abbrev pub IsWord : ℕ → Type 0
IsWord n = (n < 2 ^ 50) × (((parts n).held ≡ true) ⊎ (n ≡ 0))

pub record Points (p : Plan) (op point : ℕ → ℕ) (count : ℕ) (views : List View) : Type 0 where
  -- an operation that is bound is carried by its point
  pub carried : (e q : ℕ) → op e ≡ q + 2 → Carries (point q) e
  -- a carried operation is unbound, bound to this point, or past
  pub home : (q e : ℕ) → Carries (point q) e → (op e ≡ 0) ⊎ (op e ≡ q + 2) ⊎ (op e ≡ 1)
  -- a point is signaled where its operation is past, and not where it is unbound
  pub past_set : (q e : ℕ) → Carries (point q) e → op e ≡ 1 → (parts (point q)).signaled ≡ true
  pub clear : (q e : ℕ) → Carries (point q) e → op e ≡ 0 → (parts (point q)).signaled ≡ false
  pub unmade : (q : ℕ) → count ≤ q → point q ≡ 0
  pub words : (q : ℕ) → IsWord (point q)
  pub shelves : Each (λ i v. OwnShelf p op point v.role v.owned v.carrying v.bound v.past) views
  pub absent : (role : ℕ) → length views ≤ role → OwnShelf p op point role [] [] [] []
