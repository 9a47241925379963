use Rattle.std.proofs.Common.{string_bytes}
use Rattle.language_tags.proofs.ItemLaws.{item-end, item-small, item-step}
use Rattle.language_tags.proofs.canonical.push_extensions.Goals as goal

pub push_extension-requires : goal.push_extension-requires
push_extension-requires c =
    item-small c.args.extensions.now c.loop-singleton.singleton-index _ c.requires
    c.loop-singleton-test.true

pub loop-singleton-preserved : goal.loop-singleton-preserved
loop-singleton-preserved c =
    item-step (string_bytes c.loop-singleton.text)
    (string_bytes c.push_extension.new.text) _ c.args.extensions.now
    c.loop-singleton.singleton-index _ c.loop-singleton-test.true c.in_ok-push_extension.ensures
    c.loop-singleton.invariant

pub returns : goal.returns
returns c =
    item-end (string_bytes c.loop-singleton.text) _ c.args.extensions.now
    c.loop-singleton.singleton-index
    c.loop-singleton-test.false c.loop-singleton.invariant
