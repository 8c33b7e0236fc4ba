-- Clap's definitions at words that are written out.
use Rattle.tracer_cli.proofs.PlainWords.{asks_explore, asks_replay, asks_run, is_explored_whole, is_followed}
use Rattle.tracer_cli.proofs.laws.plain_words_are_taken.Goals as goal

pub returns-clause-replay : goal.returns-clause-replay
returns-clause-replay c = asks_replay

pub returns-clause-run : goal.returns-clause-run
returns-clause-run c = asks_run

pub returns-clause-options : goal.returns-clause-options
returns-clause-options c = is_followed

pub returns-clause-explore : goal.returns-clause-explore
returns-clause-explore c = asks_explore

pub returns-clause-whole : goal.returns-clause-whole
returns-clause-whole c = is_explored_whole
