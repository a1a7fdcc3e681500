use Rattle.rusty_leveldb.proofs.Headline.RepairedLemmas.{repairs_are_shown}
use Rattle.rusty_leveldb.proofs.Headline.RowLemmas.{steps_are_rows}
use Rattle.rusty_leveldb.proofs.Headline.StoryLemmas.{lives_are_stories, runs_are_stories}
use Rattle.rusty_leveldb.proofs.promises.machines_are_maps.Goals as goal

pub returns-clause-steps : goal.returns-clause-steps
returns-clause-steps c = steps_are_rows

pub returns-clause-lives : goal.returns-clause-lives
returns-clause-lives c = lives_are_stories

pub returns-clause-runs : goal.returns-clause-runs
returns-clause-runs c = runs_are_stories

pub returns-clause-repaired : goal.returns-clause-repaired
returns-clause-repaired c = repairs_are_shown
