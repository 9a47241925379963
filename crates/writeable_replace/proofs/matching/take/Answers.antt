-- A text is taken character by character, but for what passes as it is.
use Rattle.std.proofs.Common.{◌≡◌, drop, rules}
use Rattle.std.proofs.lemmas.Result.{err_from_is_err_and}
use Rattle.writeable_replace.specs.AlongLaws.{along_start, along_free, along_free_refused}
use Rattle.writeable_replace.specs.AlongLaws.{along_char, along_char_refused, along_end}
use Rattle.writeable_replace.proofs.matching.take.Goals as goal

pub loop-c-init : goal.loop-c-init
loop-c-init g c =
    along_start c.args.needle.now
    (g.C.Writeable.text c.args.replacement.now) c.args.text.now c.args.matched
    c.utf8.text c.requires
    (g.met.S.Sink.took_nothing c.args.sink.now)

pub free_len-free-requires-text-text : goal.free_len-free-requires-text-text
free_len-free-requires-text-text g c κs = c.loop-c.invariant.utf8

pub pass_front-requires-text-text : goal.pass_front-requires-text-text
pass_front-requires-text-text g c κs within = c.loop-c.invariant.utf8

pub returns-in_err-pass_front-clause-err : goal.returns-in_err-pass_front-clause-err
returns-in_err-pass_front-clause-err g c =
    let e = err_from_is_err_and c.from_residual.result c.from_residual.ensures.1 in
    rw (e.1, e.2)
    (along_free_refused c.args.needle.now
    (g.C.Writeable.text c.args.replacement.now) c.args.text.now c.loop-c.rest.now c.args.matched
    c.loop-c.matched c.free_len-free.result
    g.met.S.Sink.took_both g.met.S.Sink.took_faults g.met.S.Sink.took_memory c.loop-c.invariant
    c.free_len-free.ensures
    c.in_err-pass_front.ensures.err c.in_err-pass_front.ensures.cause)

pub range_from-requires-text-s : goal.range_from-requires-text-s
range_from-requires-text-s g c κs = c.loop-c.invariant.utf8

pub returns-in-None-clause-ok : goal.returns-in-None-clause-ok
returns-in-None-clause-ok g c =
    let needle = c.args.needle.now in
    let r = g.C.Writeable.text c.args.replacement.now in
    let behind : c.range_from.result.now ≡ drop c.free_len-free.result c.loop-c.rest.now =
    search rules in
    let along =
    along_free needle r c.args.text.now c.loop-c.rest.now c.range_from.result.now c.args.matched
    c.loop-c.matched c.free_len-free.result
    g.met.S.Sink.took_both c.loop-c.invariant c.free_len-free.ensures c.in_ok-pass_front.ensures.ok
    behind c.range_from.utf8 in
    along_end needle r c.args.text.now c.range_from.result.now c.args.matched c.loop-c.matched along
    c.in-None.ensures

pub returns-in_err-matched-in-Some-clause-err : goal.returns-in_err-matched-in-Some-clause-err
returns-in_err-matched-in-Some-clause-err g c =
    let needle = c.args.needle.now in
    let r = g.C.Writeable.text c.args.replacement.now in
    let behind : c.range_from.result.now ≡ drop c.free_len-free.result c.loop-c.rest.now =
    search rules in
    let along =
    along_free needle r c.args.text.now c.loop-c.rest.now c.range_from.result.now c.args.matched
    c.loop-c.matched c.free_len-free.result
    g.met.S.Sink.took_both c.loop-c.invariant c.free_len-free.ensures c.in_ok-pass_front.ensures.ok
    behind c.range_from.utf8 in
    let e =
    err_from_is_err_and c.from_residual-in_err-matched-in-Some.result
    c.from_residual-in_err-matched-in-Some.ensures.1 in
    rw (e.1, e.2)
    (along_char_refused needle r c.args.text.now c.range_from.result.now c.in-Some.behind.now
    c.args.matched c.loop-c.matched c.in-Some.c
    g.met.S.Sink.took_both g.met.S.Sink.took_faults g.met.S.Sink.took_memory along
    c.in-Some.ensures.0 c.in_err-matched-in-Some.ensures.err)

pub loop-c-preserved : goal.loop-c-preserved
loop-c-preserved g c =
    let needle = c.args.needle.now in
    let r = g.C.Writeable.text c.args.replacement.now in
    let behind : c.range_from.result.now ≡ drop c.free_len-free.result c.loop-c.rest.now =
    search rules in
    let along =
    along_free needle r c.args.text.now c.loop-c.rest.now c.range_from.result.now c.args.matched
    c.loop-c.matched c.free_len-free.result
    g.met.S.Sink.took_both c.loop-c.invariant c.free_len-free.ensures c.in_ok-pass_front.ensures.ok
    behind c.range_from.utf8 in
    along_char needle r c.args.text.now c.range_from.result.now c.in-Some.behind.now c.args.matched
    c.loop-c.matched c.in_ok-matched-in-Some.matched c.in-Some.c
    g.met.S.Sink.took_both along c.in-Some.ensures.0 c.in-Some.ensures.2
    c.in_ok-matched-in-Some.ensures.matched c.in_ok-matched-in-Some.ensures.ok
