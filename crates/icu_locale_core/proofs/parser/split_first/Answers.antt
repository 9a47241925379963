use Rattle.std.proofs.Common.{Some, None, ◌∙◌, sym, arith, lit<, length}
use Rattle.std.proofs.lemmas.List.{take_all, drop_all}
use Rattle.std.proofs.lemmas.Str.Pattern.{find_char}
use Rattle.icu_locale_core.specs.ReadingLaws.{before_dash_is, from_dash_is}
use Rattle.icu_locale_core.proofs.parser.split_first.Goals as goal

pub returns-in-Some-clause-first : goal.returns-in-Some-clause-first
returns-in-Some-clause-first c =
    let found =
    find_char 45 c.args.text.now (Some c.in-Some.dash) c.in-Some.ensures.cases (lit< tt) in
    c.split_at.ensures.front ∙ before_dash_is _ _ (omega (arith, found.0)) found.2 (λ _. found.1)

pub returns-in-Some-clause-rest : goal.returns-in-Some-clause-rest
returns-in-Some-clause-rest c =
    let found =
    find_char 45 c.args.text.now (Some c.in-Some.dash) c.in-Some.ensures.cases (lit< tt) in
    c.split_at.ensures.back ∙ from_dash_is _ _ (omega (arith, found.0)) found.2 (λ _. found.1)

pub returns-in-None-clause-first : goal.returns-in-None-clause-first
returns-in-None-clause-first c =
    let none = find_char 45 c.args.text.now None c.in-None.ensures.cases (lit< tt) in
    sym (take_all (length c.args.text.now) c.args.text.now (omega arith))
    ∙ before_dash_is c.args.text.now (length c.args.text.now) (omega arith) none
    (λ lt. absurd (omega (arith, lt)))

pub returns-in-None-clause-rest : goal.returns-in-None-clause-rest
returns-in-None-clause-rest c =
    let none = find_char 45 c.args.text.now None c.in-None.ensures.cases (lit< tt) in
    sym (drop_all (length c.args.text.now) c.args.text.now (omega arith))
    ∙ from_dash_is c.args.text.now (length c.args.text.now) (omega arith) none
    (λ lt. absurd (omega (arith, lt)))
