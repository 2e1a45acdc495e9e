-- `ring::cell_place` meets its contract: the column ends within the slab. Assumes nothing.
use Rattle.model.specs.Layout.{slab_length, stamps_at, column_at, column_behind, stamps_behind, directory}
use native.Mathlib.Omega.{arith}
use Rattle.ring.proofs.Laws.{cells}
use Rattle.ring.proofs.cell_place.Goals as goal

pub stamps_at-requires : goal.stamps_at-requires
unfolding slab_length stamps_at column_at column_behind stamps_behind directory
stamps_at-requires c = omega (arith, cells c.args.n c.args.column c.args.m c.requires.1)

pub overflow_add-result : goal.overflow_add-result
unfolding slab_length stamps_at column_at column_behind stamps_behind directory
overflow_add-result c = omega (arith, cells c.args.n c.args.column c.args.m c.requires.1)

pub overflow_mul-result : goal.overflow_mul-result
unfolding slab_length stamps_at column_at column_behind stamps_behind directory
overflow_mul-result c = omega (arith, cells c.args.n c.args.column c.args.m c.requires.1)

pub overflow_add-result-2 : goal.overflow_add-result-2
unfolding slab_length stamps_at column_at column_behind stamps_behind directory
overflow_add-result-2 c = omega (arith, cells c.args.n c.args.column c.args.m c.requires.1)

pub overflow_mul-result-2 : goal.overflow_mul-result-2
unfolding slab_length stamps_at column_at column_behind stamps_behind directory
overflow_mul-result-2 c = omega (arith, cells c.args.n c.args.column c.args.m c.requires.1)

pub overflow_add-result-3 : goal.overflow_add-result-3
unfolding slab_length stamps_at column_at column_behind stamps_behind directory
overflow_add-result-3 c = omega (arith, cells c.args.n c.args.column c.args.m c.requires.1)

pub returns : goal.returns
unfolding slab_length stamps_at column_at column_behind stamps_behind directory
returns c = omega (arith, cells c.args.n c.args.column c.args.m c.requires.1)
