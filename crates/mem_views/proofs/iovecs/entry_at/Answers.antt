-- An entry is whole, or broken where its run ends.
use Rattle.std.proofs.Common.{◌+◌, ◌*◌, sym, ◌∙◌, arith}
use Rattle.mem_views.proofs.Entries.{base_whole, entry_is, entry_top, entry_whole, len_below, len_whole}
use Rattle.mem_views.proofs.iovecs.entry_at.Goals as goal

pub returns-in_default : goal.returns-in_default
returns-in_default g c =
    entry_top c.args.memory.now (c.args.addr + c.args.index * 16) (omega (arith, c.in_default.ensures))

pub number_at-requires : goal.number_at-requires
number_at-requires g c = base_whole c.args.memory.now c.in-Some.at
    (entry_whole c.args.memory.now c.in-Some.at (sym c.end_of_run.ensures ∙ c.in-Full.is))

pub overflow_add-at : goal.overflow_add-at
overflow_add-at g c = record {
  fits = len_below c.args.memory.now c.in-Some.at
      (entry_whole c.args.memory.now c.in-Some.at (sym c.end_of_run.ensures ∙ c.in-Full.is));
}

pub number_at-requires-in-Full : goal.number_at-requires-in-Full
number_at-requires-in-Full g c = len_whole c.args.memory.now c.in-Some.at
    (entry_whole c.args.memory.now c.in-Some.at (sym c.end_of_run.ensures ∙ c.in-Full.is))

pub returns-in-Full : goal.returns-in-Full
returns-in-Full g c =
    entry_is c.args.memory.now c.in-Some.at (c.args.addr + c.args.index * 16) c.number_at.result
    c.number_at-in-Full.result (omega (arith, c.in-Some.ensures))
    (entry_whole c.args.memory.now c.in-Some.at (sym c.end_of_run.ensures ∙ c.in-Full.is))
    c.number_at.ensures c.number_at-in-Full.ensures
