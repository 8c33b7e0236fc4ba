-- The first line feed is where it is first seen.
use Rattle.text_lines.specs.Lines.{is_feed}
use Rattle.text_lines.proofs.Cuts.{first_is}
use Rattle.text_lines.proofs.lines.line_feed.Goals as goal

pub returns : goal.returns
returns c = first_is is_feed c.args.text.now c.memchr.result c.memchr.ensures
