-- What `split_once` gives is the first piece, and the text of the others.
use Rattle.std.proofs.Common.{◌∷◌, sym, ap, ◌∙◌, Some, None}
use Rattle.std.specs.Option.{option_copied}
use Rattle.language_tags_grammar.specs.Pieces.{pieces, pieces_of}
use Rattle.language_tags_grammar.specs.Lemmas.PieceLaws.{fewer, first_piece}
use Rattle.language_tags_grammar.proofs.subtags.SubtagsIterIterator.next.Goals as goal

pub returns-in-Some-clause-steps : goal.returns-in-Some-clause-steps
returns-in-Some-clause-steps c =
    sym c.self.view_is ∙ ap (λ o. pieces_of (option_copied o)) (sym c.in_ok-text.ensures.value)
    ∙ first_piece c.in_ok-text.text.now
    (Some (c.in-Some.first, c.in-Some.rest)) c.in-Some.ensures.cases

pub returns-in-Some-clause-goes : goal.returns-in-Some-clause-goes
returns-in-Some-clause-goes c = record {
  on =
      λ _. (
        tt,
        tt,
        fewer c.args.self.now c.in-Some.first.now (pieces c.in-Some.rest.now)
            (returns-in-Some-clause-steps c),
      );
  keeps = tt;
  rests = λ _. tt;
}

pub returns-in-None-clause-steps : goal.returns-in-None-clause-steps
returns-in-None-clause-steps c =
    sym c.self.view_is ∙ ap (λ o. pieces_of (option_copied o)) (sym c.in_ok-text.ensures.value)
    ∙ first_piece c.in_ok-text.text.now None c.in-None.ensures.cases
    ∙ ap (λ o. c.in_ok-text.text.now ∷ pieces_of (option_copied o)) (sym c.in_ok-text.ensures.after)

pub returns-in-None-clause-goes : goal.returns-in-None-clause-goes
returns-in-None-clause-goes c = record {
  on =
      λ _. (tt, tt, fewer c.args.self.now c.in_ok-text.text.now _ (returns-in-None-clause-steps c));
  keeps = tt;
  rests = λ _. tt;
}
