use Rattle.language_tags_grammar.proofs.Neither.{tag_or_fault}
use Rattle.language_tags_grammar.proofs.NeverBoth.{never_both}
use Rattle.language_tags_grammar.proofs.OneFault.{one_fault}
use Rattle.language_tags_grammar.specs.Lemmas.Unique.{one_tag, printed_again}
use Rattle.language_tags_grammar.proofs.laws.texts_and_tags.Goals as goal

pub returns : goal.returns
returns c =
    record {
      one = one_tag;
      one_fault = one_fault;
      never_neither = tag_or_fault;
      never_both = never_both;
      again = printed_again;
    }
