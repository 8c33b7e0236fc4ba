-- Clap's definitions at words that are written out.
use Rattle.tracer_cli.proofs.PlainWords.{asks_help, asks_version, contradicts}
use Rattle.tracer_cli.proofs.laws.plain_words_show_or_contradict.Goals as goal

pub returns-clause-help : goal.returns-clause-help
returns-clause-help c = asks_help

pub returns-clause-version : goal.returns-clause-version
returns-clause-version c = asks_version

pub returns-clause-contradictory : goal.returns-clause-contradictory
returns-clause-contradictory c = contradicts
