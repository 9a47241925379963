use Rattle.std.proofs.Common.{ap, ◌∙◌}
use Rattle.std.specs.Int.{w64}
use Rattle.tinystr.specs.Shapes.{IsVariant}
use Rattle.tinystr.specs.ShapesLaws.{tiny_variant}
use Rattle.tinystr.specs.Text.{unpadded}
use Rattle.unic_langid_impl.specs.Subtags.{lowercase}
use Rattle.writeable_core.specs.SinkLaws.{on_err}
use Rattle.unic_langid_impl.proofs.NumberLemmas.{bytes-text_64}
use Rattle.unic_langid_impl.proofs.PrintLemmas.{variant-lower}
use Rattle.unic_langid_impl.proofs.RawLemmas.{none-raw, other-raw}
use Rattle.unic_langid_impl.proofs.subtags.variant.Variant.from_raw.Goals as goal

pub returns-in_err-variant-clause-err : goal.returns-in_err-variant-clause-err
returns-in_err-variant-clause-err c =
    on_err c.from_residual.result
    (none-raw w64 c.args.v c.without_zeros.result.now IsVariant lowercase variant-lower
    (λ s h e. c.without_zeros.ensures ∙ ap unpadded c.to_le_bytes.ensures
    ∙ bytes-text_64 s c.args.v (tiny_variant s h).bytes (tiny_variant s h).fits e)
    c.in_err-variant.ensures.value)

pub returns-then-to_raw-v-clause-err : goal.returns-then-to_raw-v-clause-err
returns-then-to_raw-v-clause-err c =
    other-raw w64 c.args.v c.without_zeros.result.now IsVariant lowercase variant-lower
    (λ s h e. c.without_zeros.ensures ∙ ap unpadded c.to_le_bytes.ensures
    ∙ bytes-text_64 s c.args.v (tiny_variant s h).bytes (tiny_variant s h).fits e)
    c.in_ok-variant.variant c.in_ok-variant.ensures.value.1
    (λ e. c.if-to_raw-v.true (c.to_raw.ensures ∙ e))
