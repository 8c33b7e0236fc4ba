-- The parts of a text between commas.
use Rattle.std.proofs.Common.{◌∙◌, lit<}
use Rattle.std.proofs.lemmas.Iterator.Consumers.{map_from_collect}
use Rattle.std.proofs.lemmas.Iterator.Splits.{YieldsList-from_str_split}
use Rattle.tracer_cli.specs.Shown.{without_word}
use Rattle.tracer_cli.proofs.shown.names_in.Goals as goal

pub returns : goal.returns
returns c =
    map_from_collect _ c.collect.ensures.ran
    (YieldsList-from_str_split 44 (without_word c.args.list.now) (lit< tt) (c.split.ensures.text ∙ c.without_word.ensures)
    c.split.ensures.has_more c.split.ensures.pattern)
