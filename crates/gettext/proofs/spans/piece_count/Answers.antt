use Rattle.std.proofs.Common.{rules, tests}
use Rattle.std.proofs.lemmas.Iterator.Consumers.{count_from_yields_List}
use Rattle.std.proofs.lemmas.Iterator.Splits.{YieldsList-from_slice_split}
use Rattle.gettext.specs.Layout.{is_nul, pieces_of}
use Rattle.gettext.proofs.spans.piece_count.Goals as goal

pub returns : goal.returns
unfolding pieces_of
returns c =
    count_from_yields_List _ _ c.count.ensures.ran
    (YieldsList-from_slice_split _ is_nul _ c.split.ensures.rest c.split.ensures.done
    c.split.ensures.closure (λ x b q k. search (rules, tests)))
