use Rattle.std.specs.Slice.Iter.{chunks_exact_rest, chunks_exact_size}
use Rattle.std.specs.Iterator.Adapters.{enumerate_source, enumerate_count}
use Rattle.pointers.proofs.Laws.{Goes}
use Rattle.pointers.proofs.search.Given as goal

abbrev pub invariant-loop-i : goal.invariant-loop-i
invariant-loop-i l =
    let it = l.i-iterator in
    Goes 16 l.from l.s (chunks_exact_size (enumerate_source it)) (chunks_exact_rest (enumerate_source it)) (enumerate_count it)
