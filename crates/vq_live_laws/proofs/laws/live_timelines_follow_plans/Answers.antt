use Rattle.vq_live_laws.proofs.Ties.{follows_run, follows_shows}
use Rattle.vq_live_laws.proofs.laws.live_timelines_follow_plans.Goals as goal

pub returns-clause-run : goal.returns-clause-run
returns-clause-run c = follows_run

pub returns-clause-shows : goal.returns-clause-shows
returns-clause-shows c = follows_shows
