use Rattle.std.proofs.Common.{rules, tests}
use Rattle.gettext.specs.Encoding.{is_valid}
use Rattle.std.proofs.lemmas.Iterator.Search.{all_from_yields_List}
use Rattle.std.proofs.lemmas.Iterator.Splits.{YieldsList-from_slice_split}
use Rattle.gettext.specs.Layout.{is_nul, pieces_of}
use Rattle.gettext.proofs.parser.rows.are_valid.Goals as goal

pub returns : goal.returns
unfolding pieces_of
returns c =
    all_from_yields_List (is_valid _) _ _ _ c.all.ensures.ran
    (YieldsList-from_slice_split _ is_nul _ c.split.ensures.rest c.split.ensures.done
    c.split.ensures.closure (λ x b q k. search (rules, tests))) (λ x b q k. search (rules, tests))
