-- The rule of the board: what holds of its words, its slot and all passes between any two atomic
-- steps. This project's own.
use Rattle.std.specs.Prelude.{ℕ, List, [], ◌≡◌, None, length}
use mathlib.Core.Option as maybe
use Rattle.atomic_table.specs.Table.{State}
use Rattle.vq_model.specs.Checks.{IsLawful}
use Rattle.vq_model.specs.LoweredPlans.{IsPlan}
use Rattle.vq_model.specs.Plan.{Plan}
use Rattle.vq_board_laws.specs.declared.view.View.{View}
use Rattle.vq_board_laws.specs.declared.view.LoggedBuffers.{LoggedBuffers}
use Rattle.vq_board_laws.specs.Words.{Words, words_of, word_count, made_of, log_of, shown}
use Rattle.vq_board_laws.specs.Knowledge.{Knowledge}
use Rattle.vq_board_laws.specs.Reached.{IsReached}
use Rattle.vq_board_laws.specs.Jobs.{Jobs}
use Rattle.vq_board_laws.specs.Log.{Log}
use Rattle.vq_board_laws.specs.Ownership.{Ownership}
use Rattle.vq_board_laws.specs.Points.{Points}
use Rattle.vq_board_laws.specs.References.{References}

-- the seven parts of the rule
pub record Rule (p : Plan) (d : Words) (homes : List (maybe.Option LoggedBuffers)) (views : List View)
    : Type 0 where
  pub knowledge : Knowledge d views
  pub run : IsReached p (shown p d) d.job views
  pub jobs : Jobs p d.job (made_of d) (log_of p d) views
  pub log : Log p d.job d.place d.turn (log_of p d) homes views
  pub ownership : Ownership p d.count views
  pub points : Points p d.op d.point d.count views
  pub references : References d.point views

-- The rule, for the lawful plan of a script that was read.
pub record Kept (p : Plan) (s : State LoggedBuffers View) : Type 0 where
  pub plan : IsPlan p
  pub lawful : IsLawful p
  pub count : length s.words ≡ word_count p
  pub rule : Rule p (words_of s.words) s.homes s.views

-- a pass that has done nothing
abbrev pub fresh : Plan → ℕ → View
fresh p role =
    record {
      role = role;
      given = 0;
      plan = p;
      known = [];
      submitted = [];
      released = [];
      begun = [];
      runs = None;
      entered = 0;
      signaled = 0;
      held = None;
      bytes = [];
      owned = [];
      carrying = [];
      bound = [];
      past = [];
      refs = [];
      unmade = [];
      told = [];
      steps = [];
    }
