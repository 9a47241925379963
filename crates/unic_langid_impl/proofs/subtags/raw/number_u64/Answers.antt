use Rattle.std.proofs.Common.{length, ◌∙◌}
use Rattle.unic_langid_impl.proofs.NumberLemmas.{number-filled_64}
use Rattle.unic_langid_impl.proofs.subtags.raw.number_u64.Goals as goal

pub returns : goal.returns
returns c =
    c.from_le_bytes.ensures
    ∙ number-filled_64 c.copy_from_slice.new.self c.args.text.now
    (length c.args.text.now) c.copy_from_slice.ensures.after
