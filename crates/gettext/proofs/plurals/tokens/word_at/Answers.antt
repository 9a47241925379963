use Rattle.std.proofs.Common.{◌≡◌, map, refl, sym, ap, rules, tests}
use Rattle.std.specs.Prelude.{nat_eq}
use Rattle.std.specs.List.{starts_with}
use Rattle.std.specs.Slice.Iter.{iter_rest}
use Rattle.std.proofs.lemmas.Iterator.{YieldsList-from_slice}
use Rattle.std.proofs.lemmas.Iterator.Search.{find_from_yields_List}
use Rattle.gettext.specs.Tokens.{words}
use Rattle.gettext.proofs.Words.{shown, word_found, measured_inside}
use Rattle.gettext.proofs.plurals.tokens.word_at.Goals as goal

pub returns-in_err-word-clause-value : goal.returns-in_err-word-clause-value
returns-in_err-word-clause-value c =
    let all : map shown (iter_rest c.iter.result) ≡ words = ap (map shown) c.iter.ensures.rest in
    let found = find_from_yields_List (λ w. starts_with nat_eq c.args.text.now w.0.now)
    _ _ c.find.result c.find.ensures.ran (YieldsList-from_slice (iter_rest c.iter.result) refl)
    (λ x b q k. search (rules, tests)) in
    rw (
      c.from_residual.ensures,
      word_found c.args.text.now (iter_rest c.iter.result) c.find.result
          all found,
      c.in_err-word.was,
    ) refl

pub returns-clause-value : goal.returns-clause-value
returns-clause-value c =
    let all : map shown (iter_rest c.iter.result) ≡ words = ap (map shown) c.iter.ensures.rest in
    let found = find_from_yields_List (λ w. starts_with nat_eq c.args.text.now w.0.now)
    _ _ c.find.result c.find.ensures.ran (YieldsList-from_slice (iter_rest c.iter.result) refl)
    (λ x b q k. search (rules, tests)) in
    rw (
      word_found c.args.text.now (iter_rest c.iter.result) c.find.result all found,
      c.in_ok-word.was,
    ) refl

pub returns-clause-inside : goal.returns-clause-inside
returns-clause-inside c = measured_inside _ _ (sym (returns-clause-value c))
