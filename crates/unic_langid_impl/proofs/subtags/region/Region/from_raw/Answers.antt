use Rattle.std.proofs.Common.{ap, ◌∙◌, arith}
use Rattle.std.specs.Int.{w32}
use Rattle.tinystr.specs.Shapes.{IsRegion}
use Rattle.tinystr.specs.ShapesLaws.{tiny_region}
use Rattle.tinystr.specs.Text.{unpadded}
use Rattle.unic_langid_impl.specs.Subtags.{uppercase}
use Rattle.writeable_core.specs.SinkLaws.{on_err}
use Rattle.unic_langid_impl.proofs.NumberLemmas.{bytes-text_32}
use Rattle.unic_langid_impl.proofs.PrintLemmas.{region-upper}
use Rattle.unic_langid_impl.proofs.RawLemmas.{none-raw, other-raw}
use Rattle.unic_langid_impl.proofs.subtags.region.Region.from_raw.Goals as goal

pub returns-in_err-region-clause-err : goal.returns-in_err-region-clause-err
returns-in_err-region-clause-err c =
    on_err c.from_residual.result
    (none-raw w32 c.args.v c.without_zeros.result.now IsRegion uppercase region-upper
    (λ s h e. c.without_zeros.ensures ∙ ap unpadded c.to_le_bytes.ensures
    ∙ bytes-text_32 s c.args.v (tiny_region s h).bytes (omega (arith, (tiny_region s h).fits)) e)
    c.in_err-region.ensures.value)

pub returns-then-to_raw-v-clause-err : goal.returns-then-to_raw-v-clause-err
returns-then-to_raw-v-clause-err c =
    other-raw w32 c.args.v c.without_zeros.result.now IsRegion uppercase region-upper
    (λ s h e. c.without_zeros.ensures ∙ ap unpadded c.to_le_bytes.ensures
    ∙ bytes-text_32 s c.args.v (tiny_region s h).bytes (omega (arith, (tiny_region s h).fits)) e)
    c.in_ok-region.region c.in_ok-region.ensures.value.1
    (λ e. c.if-to_raw-v.true (c.to_raw.ensures ∙ e))
