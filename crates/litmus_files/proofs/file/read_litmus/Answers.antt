-- A file of few bytes is read line by line.
use Rattle.std.proofs.Common.{◌∙◌, arith}
use Rattle.litmus_files.proofs.LitmusFiles.{few_bytes, refused_by_line}
use Rattle.litmus_files.proofs.file.read_litmus.Goals as goal

pub finish-requires-clause-lines : goal.finish-requires-clause-lines
finish-requires-clause-lines g c = few_bytes c.args.text.now (omega arith) ∙ c.in-Ok.ensures.ok

pub returns-in-Err-clause-err : goal.returns-in-Err-clause-err
returns-in-Err-clause-err g c =
    refused_by_line c.args.text.now c.in-Err.error.cause c.in-Err.error.line (omega arith) c.in-Err.ensures.err
