use Rattle.std.proofs.Common.{ap, ◌∙◌}
use Rattle.std.specs.Int.{w32}
use Rattle.tinystr.specs.Shapes.{IsScript}
use Rattle.tinystr.specs.ShapesLaws.{tiny_script}
use Rattle.tinystr.specs.Text.{titlecase, unpadded}
use Rattle.writeable_core.specs.SinkLaws.{on_err}
use Rattle.unic_langid_impl.proofs.NumberLemmas.{bytes-text_32}
use Rattle.unic_langid_impl.proofs.PrintLemmas.{script-title}
use Rattle.unic_langid_impl.proofs.RawLemmas.{none-raw, other-raw}
use Rattle.unic_langid_impl.proofs.subtags.script.Script.from_raw.Goals as goal

pub returns-in_err-script-clause-err : goal.returns-in_err-script-clause-err
returns-in_err-script-clause-err c =
    on_err c.from_residual.result
    (none-raw w32 c.args.v c.without_zeros.result.now IsScript titlecase script-title
    (λ s h e. c.without_zeros.ensures ∙ ap unpadded c.to_le_bytes.ensures
    ∙ bytes-text_32 s c.args.v (tiny_script s h).bytes (tiny_script s h).fits e)
    c.in_err-script.ensures.value)

pub returns-then-to_raw-v-clause-err : goal.returns-then-to_raw-v-clause-err
returns-then-to_raw-v-clause-err c =
    other-raw w32 c.args.v c.without_zeros.result.now IsScript titlecase script-title
    (λ s h e. c.without_zeros.ensures ∙ ap unpadded c.to_le_bytes.ensures
    ∙ bytes-text_32 s c.args.v (tiny_script s h).bytes (tiny_script s h).fits e)
    c.in_ok-script.script c.in_ok-script.ensures.value.1
    (λ e. c.if-to_raw-v.true (c.to_raw.ensures ∙ e))
