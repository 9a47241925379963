-- The whole text was compared, or a front of it that decides.
use Rattle.std.proofs.Common.{ap, sym, ◌∙◌, encode_utf8_all}
use Rattle.writeable_cmp.specs.Comparing.{outcome}
use Rattle.writeable_cmp.proofs.Comparing.{written}
use Rattle.writeable_cmp.proofs.cmp.cmp_utf8.Goals as goal

pub returns : goal.returns
returns g c =
    let text = g.W.Writeable.text c.args.writeable.now in
    c.order.ensures
    ∙ sym
    (written c.write_to.result c.new-sink.result c.write_to.new.sink text c.write_to.ensures.ok
    c.write_to.ensures.err c.write_to.ensures.cause
    (ap (λ s. s.order) c.new-sink.ensures))
    ∙ ap (λ s. outcome s (encode_utf8_all text)) c.new-sink.ensures
