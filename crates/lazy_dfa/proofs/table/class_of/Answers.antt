use Rattle.std.proofs.lemmas.List.Sorted.{searched}
use Rattle.lazy_dfa.proofs.States.{class_before}
use Rattle.lazy_dfa.proofs.table.class_of.Goals as goal

pub returns-in-Err : goal.returns-in-Err
returns-in-Err c =
    let x = searched c.args.firsts.now c.args.c c.binary_search.result
    c.binary_search.ensures.position (λ i j le lt. c.requires.sorted i j 0 le lt) in
    let y = rw c.in-Err.is at x in
    class_before c.args.firsts.now c.args.c c.in-Err.next c.requires.sorted c.requires.least y.0 y.1
    y.2
