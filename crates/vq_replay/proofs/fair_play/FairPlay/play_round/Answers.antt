use Rattle.std.proofs.Common.{◌+◌, ◌∙◌, List, All, length, arith, subst, sym, ap}
use Rattle.vq_model.specs.declared.script.ActorName.{ActorName}
use Rattle.vq_model.specs.Checks.{IsLawful}
use Rattle.vq_model.specs.LoweredPlans.{IsPlan}
use Rattle.vq_model.specs.ValidScripts.{IsActor}
use Rattle.vq_core.specs.CoreState.{Course}
use Rattle.vq_core_run.specs.Casts.{scene}
use Rattle.vq_replay.specs.Passages.{LeadsTo}
use Rattle.vq_replay.specs.Resting.{AreApart, AreKnown}
use Rattle.vq_replay.proofs.Rosters.{round_acts, round_apart}
use Rattle.vq_replay.proofs.RoundsPlayed.{few_rounds, few_turns_more, kept_more, under_way_more}
use Rattle.vq_replay.proofs.fair_play.FairPlay.play_round.Goals as goal

pub play_turns-requires-clause-few : goal.play_turns-requires-clause-few
play_turns-requires-clause-few c =
    let x = c.args.self.now in
    let is = subst (λ (d : Course). IsPlan d.plan) c.core.ensures c.ordered-lawful.ensures.course.read in
    let lawful = subst (λ (d : Course). IsLawful d.plan) c.core.ensures c.ordered-lawful.ensures.course.lawful in
    let few = few_turns_more x.rounds x.turns x.troupe x.rests x.round.items c.requires.under_way c.requires.left is
    lawful in
    let same = ap (λ (us : List ActorName). length us) c.as_slice.ensures.value in
    omega arith

pub play_turns-requires-clause-actors : goal.play_turns-requires-clause-actors
play_turns-requires-clause-actors c =
    let p = c.args.self.now.troupe.course.plan in
    subst (λ (us : List ActorName). All (IsActor p.script) us)
    (sym (c.as_slice.ensures.value ∙ c.requires.under_way.actors)) (round_acts p)

pub play_turns-requires-clause-apart : goal.play_turns-requires-clause-apart
play_turns-requires-clause-apart c =
    subst AreApart (sym (c.as_slice.ensures.value ∙ c.requires.under_way.actors))
    (round_apart c.args.self.now.troupe.course.plan)

pub play_turns-requires-clause-known : goal.play_turns-requires-clause-known
play_turns-requires-clause-known c =
    let x = c.args.self.now in
    subst (λ (us : List ActorName). AreKnown x.troupe.course.plan (scene x.troupe) us x.rests)
    (sym c.as_slice.ensures.value) c.requires.under_way.known

pub overflow_add-self : goal.overflow_add-self
overflow_add-self c =
    let x = c.args.self.now in
    let is = subst (λ (d : Course). IsPlan d.plan) c.core.ensures c.ordered-lawful.ensures.course.read in
    let lawful = subst (λ (d : Course). IsLawful d.plan) c.core.ensures c.ordered-lawful.ensures.course.lawful in
    let few = few_rounds x.rounds x.turns x.troupe x.rests x.round.items c.requires.under_way c.requires.left is lawful in
    omega arith

pub overflow_cast-self : goal.overflow_cast-self
overflow_cast-self c =
    let x = c.args.self.now in
    let is = subst (λ (d : Course). IsPlan d.plan) c.core.ensures c.ordered-lawful.ensures.course.read in
    let lawful = subst (λ (d : Course). IsLawful d.plan) c.core.ensures c.ordered-lawful.ensures.course.lawful in
    let few = few_turns_more x.rounds x.turns x.troupe x.rests x.round.items c.requires.under_way c.requires.left is
    lawful in
    let count = c.len.ensures in
    omega arith

pub overflow_add-self-2 : goal.overflow_add-self-2
overflow_add-self-2 c =
    let x = c.args.self.now in
    let is = subst (λ (d : Course). IsPlan d.plan) c.core.ensures c.ordered-lawful.ensures.course.read in
    let lawful = subst (λ (d : Course). IsLawful d.plan) c.core.ensures c.ordered-lawful.ensures.course.lawful in
    let few = few_turns_more x.rounds x.turns x.troupe x.rests x.round.items c.requires.under_way c.requires.left is
    lawful in
    let count = c.len.ensures in
    omega arith

pub returns-clause-under_way : goal.returns-clause-under_way
returns-clause-under_way c =
    let x = c.args.self.now in
    let k = subst (λ (us : List ActorName). LeadsTo x.troupe.course.plan (scene x.troupe) x.troupe.course.history x.turns
    us c.args.played.now.items c.play_turns.new.troupe c.play_turns.new.played.items) c.as_slice.ensures.value
    (c.in_ok-play_turns.ensures {u = tt}).turns in
    let y = c.play_turns.new.troupe in
    let known = subst (λ (us : List ActorName). AreKnown y.course.plan (scene y) us c.play_turns.new.rests)
    c.as_slice.ensures.value (c.in_ok-play_turns.ensures {u = tt}).known in
    let count = c.len.ensures in
    under_way_more x.rounds x.turns x.troupe x.rests x.round.items c.requires.under_way c.requires.left
    c.args.played.now.items c.play_turns.new.played.items c.play_turns.new.troupe c.play_turns.new.rests
    (x.turns + c.len.result) (omega arith) k known

pub returns-clause-played : goal.returns-clause-played
returns-clause-played c =
    let x = c.args.self.now in
    let k = subst (λ (us : List ActorName). LeadsTo x.troupe.course.plan (scene x.troupe) x.troupe.course.history x.turns
    us c.args.played.now.items c.play_turns.new.troupe c.play_turns.new.played.items) c.as_slice.ensures.value
    (c.in_ok-play_turns.ensures {u = tt}).turns in
    let y = c.play_turns.new.troupe in
    let known = subst (λ (us : List ActorName). AreKnown y.course.plan (scene y) us c.play_turns.new.rests)
    c.as_slice.ensures.value (c.in_ok-play_turns.ensures {u = tt}).known in
    let count = c.len.ensures in
    kept_more x.rounds x.turns x.troupe x.rests x.round.items c.requires.under_way c.requires.left
    c.args.played.now.items c.play_turns.new.played.items c.play_turns.new.troupe c.play_turns.new.rests
    (x.turns + c.len.result) (omega arith) k known
