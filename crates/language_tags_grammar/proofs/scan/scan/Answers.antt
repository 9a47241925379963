-- A text's pieces in lower case are those of the text in lower case.
use Rattle.std.proofs.Common.{◌≡◌, map, length, rules, ap, sym, ◌∙◌, zero-add}
use Rattle.language_tags_grammar.specs.Pieces.{dashed, lowercase, pieces}
use Rattle.language_tags_grammar.specs.Scan.{no_ends, scanned_from}
use Rattle.language_tags_grammar.specs.declared.stage.Stage.TheVariants.{Start}
use Rattle.language_tags_grammar.specs.Lemmas.PieceLaws.{length-dashed, pieces-lowercase}
use Rattle.language_tags_grammar.proofs.scan.scan.Goals as goal

pub loop-piece-init : goal.loop-piece-init
loop-piece-init c =
    let text = c.args.text.now in
    let all : c.into_iter-piece-iterator.result ≡ pieces text = search rules in record {
      answer =
          ap (scanned_from Start 0 no_ends) (ap (map lowercase) all ∙ sym (pieces-lowercase text));
      left = zero-add _ ∙ ap (λ ps. length (dashed ps)) all ∙ length-dashed text;
    }
