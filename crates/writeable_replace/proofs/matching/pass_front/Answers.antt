-- No byte is no character.
use Rattle.std.proofs.Common.{◌≡◌, [], chars, take, subst, sym, ap, ◌∙◌}
use Rattle.std.proofs.lemmas.Str.{chars-nil}
use Rattle.writeable_replace.proofs.matching.pass_front.Goals as goal

pub returns-then-count-eq0-clause-ok : goal.returns-then-count-eq0-clause-ok
returns-then-count-eq0-clause-ok g c =
    let none : chars (take c.args.count c.args.text.now) ≡ [] =
    ap (λ n. chars (take n c.args.text.now)) c.if-count-eq0.true ∙ chars-nil in
    subst (λ t. g.S.Sink.took c.args.sink.now t c.args.sink.now) (sym none)
    (g.met.S.Sink.took_nothing c.args.sink.now)
