-- The names that walks cite: those of this crate, and those of a type that is made of a raw box's parts.
pub use Rattle.std.proofs.Common.{◌≡◌, true, List, [], ◌∷◌, ◌++◌, refl, sym, ap, subst}
pub use Rattle.std.proofs.alloc.Calls.{Goes-blank, handle_tells}
pub use Rattle.std.proofs.alloc.Shapes.{after}
pub use Rattle.std.proofs.cell.Inside.{one}
pub use Rattle.std.proofs.mem.Facts.{says_two}
pub use Rattle.std.proofs.raw_atomic.Walks.{proved_at}
pub use mir.Syntax.{a_type, dcons, dnil}
pub use mir.MapTy.{inst_fn}
pub use mir.Val.{Val}
pub use base.Logic.{id⊢}
pub use base.Fml.{flft, ftrue}
pub use prog.Wp.{WpFn}
pub use types.Kit.{‵, raw, ◌⊛◌, some, later, prop, at_ret, ◌$◌, ◌∵◌, !, qed, done, move, keep, drop}
pub use types.Kit.{split, split3, join, fsplit, fjoin, pick, use1, await, rewrite, regoal, feq_i, suffices}
pub use types.Run.{stop, fld, lit, of_opd, no_more, and_then, first, blocks, exec, returns, enter}
pub use types.ByLocal.{alloc_all, pass_all, free_all, look_at, get, get_in, sets, lands_as, lands_last, env}
pub use types.Part.{agg, sub, whole}
pub use contract.BorrowLft.{◌⊑◌}
pub use contract.Monad.{fact}
pub use contract.Running.{tables}
pub use denote.Builtin.{RawPtr}
pub use denote.Exit.{yes, no}
pub use denote.Laws.{Is, shows}
pub use denote.Param.{layout, bounded}
pub use denote.RattleType.{RattleType, owns}
pub use denote.RawPtr.{Ptr, null_ptr, ptr_val}
pub use denote.Signature.{plain}
pub use denote.Steps.{nothing, only, heard, peeks}
pub use denote.Struct.Tuple.{Tuple}
pub use denote.Triple.Call.{calls_at, calls_at_last}
pub use denote.Triple.Clauses.{Lasts, lasts}
pub use denote.Triple.Spec.{triple_of}
pub use denote.Triple.Table.{framed}
pub use denote.Triple.Walked.{Stays, stay_dropped, walk_of, says, ends_at, Goes-dropped}
