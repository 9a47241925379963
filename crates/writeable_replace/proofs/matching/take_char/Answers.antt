-- What a character comes to, by how much stays matched.
use Rattle.std.proofs.Common.{◌+◌, [], ◌∷◌, take, chars, ap, ◌∙◌, sym, subst}
use Rattle.std.proofs.lemmas.Result.{err_from_is_err_and}
use Rattle.writeable_replace.specs.Position.{IsPosition}
use Rattle.writeable_replace.specs.TriedLaws.{position_start, none_came, part_came, whole_came}
use Rattle.writeable_replace.specs.WentLaws.{passed_by, refused_by, refused_front, refused_behind}
use Rattle.writeable_replace.proofs.matching.take_char.Goals as goal

pub returns-in_err-pass_front-in-None-clause-err : goal.returns-in_err-pass_front-in-None-clause-err
returns-in_err-pass_front-in-None-clause-err g c =
    let p = chars c.args.needle.now in
    let r = g.C.Writeable.text c.args.replacement.now in
    let e = err_from_is_err_and c.from_residual.result c.from_residual.ensures.1 in
    rw (e.1, e.2)
    (refused_front p r (c.args.c ∷ []) (chars (take c.args.matched c.args.needle.now))
    (c.args.c ∷ [])
    (none_came c.args.needle.now r c.args.matched c.args.c c.utf8.needle c.requires
    c.in-None.ensures.0 c.in-None.ensures.1)
    c.in_err-pass_front-in-None.ensures.err c.in_err-pass_front-in-None.ensures.cause)

pub returns-in_err-push_char-in-None-clause-err : goal.returns-in_err-push_char-in-None-clause-err
returns-in_err-push_char-in-None-clause-err g c =
    let p = chars c.args.needle.now in
    let r = g.C.Writeable.text c.args.replacement.now in
    let e =
    err_from_is_err_and c.from_residual-in_err-push_char-in-None.result
    c.from_residual-in_err-push_char-in-None.ensures.1 in
    rw (e.1, e.2)
    (refused_behind p r (c.args.c ∷ []) (chars (take c.args.matched c.args.needle.now))
    (c.args.c ∷ [])
    g.met.S.Sink.took_both g.met.S.Sink.took_faults g.met.S.Sink.took_memory
    (none_came c.args.needle.now r c.args.matched c.args.c c.utf8.needle c.requires
    c.in-None.ensures.0 c.in-None.ensures.1)
    c.in_ok-pass_front-in-None.ensures.ok c.in_err-push_char-in-None.ensures.err
    c.in_err-push_char-in-None.ensures.cause)

pub returns-in_err-write_to-in-Some-clause-err : goal.returns-in_err-write_to-in-Some-clause-err
returns-in_err-write_to-in-Some-clause-err g c =
    let p = chars c.args.needle.now in
    let r = g.C.Writeable.text c.args.replacement.now in
    let ends = ap (λ n. c.in-Some.kept + n) (sym c.len_utf8.ensures.value) ∙ c.if-end-needle.true in
    let e =
    err_from_is_err_and c.from_residual-in_err-write_to-in-Some.result
    c.from_residual-in_err-write_to-in-Some.ensures.1 in
    rw (e.1, e.2)
    (refused_by p r (c.args.c ∷ [])
    (whole_came c.args.needle.now r c.args.matched c.args.c c.in-Some.kept c.utf8.needle c.requires
    c.in-Some.ensures ends)
    c.in_err-write_to-in-Some.ensures.err c.in_err-write_to-in-Some.ensures.cause)

pub returns-then-end-needle-clause-matched : goal.returns-then-end-needle-clause-matched
returns-then-end-needle-clause-matched g c = position_start c.args.needle.now c.utf8.needle

pub returns-then-end-needle-clause-ok : goal.returns-then-end-needle-clause-ok
returns-then-end-needle-clause-ok g c =
    let r = g.C.Writeable.text c.args.replacement.now in
    let ends = ap (λ n. c.in-Some.kept + n) (sym c.len_utf8.ensures.value) ∙ c.if-end-needle.true in
    passed_by (chars c.args.needle.now) r (c.args.c ∷ [])
    (whole_came c.args.needle.now r c.args.matched c.args.c c.in-Some.kept c.utf8.needle c.requires
    c.in-Some.ensures ends)
    c.in_ok-write_to-in-Some.ensures.ok

pub overflow_sub-matched : goal.overflow_sub-matched
overflow_sub-matched g c = let resumed = c.in-Some.ensures in resumed.within

pub pass_front-requires-in-Some : goal.pass_front-requires-in-Some
pass_front-requires-in-Some g c =
    let r = g.C.Writeable.text c.args.replacement.now in
    let part =
    part_came c.args.needle.now r c.args.matched c.args.c c.in-Some.kept c.utf8.needle
    c.requires c.in-Some.ensures
    (λ e. c.if-end-needle.false (ap (λ n. c.in-Some.kept + n) c.len_utf8.ensures.value ∙ e)) in
    part.boundary

pub returns-in_err-pass_front-in-Some-clause-err : goal.returns-in_err-pass_front-in-Some-clause-err
returns-in_err-pass_front-in-Some-clause-err g c =
    let r = g.C.Writeable.text c.args.replacement.now in
    let part =
    part_came c.args.needle.now r c.args.matched c.args.c c.in-Some.kept c.utf8.needle
    c.requires c.in-Some.ensures
    (λ e. c.if-end-needle.false (ap (λ n. c.in-Some.kept + n) c.len_utf8.ensures.value ∙ e)) in
    let e =
    err_from_is_err_and c.from_residual-in_err-pass_front-in-Some.result
    c.from_residual-in_err-pass_front-in-Some.ensures.1 in
    rw (e.1, e.2)
    (refused_by (chars c.args.needle.now) r (c.args.c ∷ []) part.came
    c.in_err-pass_front-in-Some.ensures.err c.in_err-pass_front-in-Some.ensures.cause)

pub returns-in_ok-push_char-in-None-clause-matched :
    goal.returns-in_ok-push_char-in-None-clause-matched
returns-in_ok-push_char-in-None-clause-matched g c = position_start c.args.needle.now c.utf8.needle

pub returns-in_ok-push_char-in-None-clause-ok : goal.returns-in_ok-push_char-in-None-clause-ok
returns-in_ok-push_char-in-None-clause-ok g c =
    let r = g.C.Writeable.text c.args.replacement.now in
    passed_by (chars c.args.needle.now) r (c.args.c ∷ [])
    (none_came c.args.needle.now r c.args.matched c.args.c c.utf8.needle c.requires
    c.in-None.ensures.0 c.in-None.ensures.1)
    (g.met.S.Sink.took_both _ _ _ _ _ c.in_ok-pass_front-in-None.ensures.ok
    c.in_ok-push_char-in-None.ensures.ok)

pub returns-in_ok-pass_front-in-Some-clause-matched :
    goal.returns-in_ok-pass_front-in-Some-clause-matched
returns-in_ok-pass_front-in-Some-clause-matched g c =
    let r = g.C.Writeable.text c.args.replacement.now in
    let part =
    part_came c.args.needle.now r c.args.matched c.args.c c.in-Some.kept c.utf8.needle
    c.requires c.in-Some.ensures
    (λ e. c.if-end-needle.false (ap (λ n. c.in-Some.kept + n) c.len_utf8.ensures.value ∙ e)) in
    subst (λ n. IsPosition c.args.needle.now (c.in-Some.kept + n))
    (sym c.len_utf8.ensures.value) part.position

pub returns-in_ok-pass_front-in-Some-clause-ok : goal.returns-in_ok-pass_front-in-Some-clause-ok
returns-in_ok-pass_front-in-Some-clause-ok g c =
    let r = g.C.Writeable.text c.args.replacement.now in
    let part =
    part_came c.args.needle.now r c.args.matched c.args.c c.in-Some.kept c.utf8.needle
    c.requires c.in-Some.ensures
    (λ e. c.if-end-needle.false (ap (λ n. c.in-Some.kept + n) c.len_utf8.ensures.value ∙ e)) in
    let done =
    passed_by (chars c.args.needle.now) r
    (c.args.c ∷ []) part.came c.in_ok-pass_front-in-Some.ensures.ok in
    rw c.len_utf8.ensures.value done
