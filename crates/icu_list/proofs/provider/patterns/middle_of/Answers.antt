use Rattle.std.proofs.Common.{ℕ, List, Ok, sym, ap, ◌∙◌}
use Rattle.icu_list.proofs.MiddleText.{middle_found, lacks_front, lacks_back, stripped_front}
use Rattle.icu_list.proofs.MiddleText.{stripped_back, utf8_rest, utf8_between}
use Rattle.icu_list.proofs.provider.patterns.middle_of.Goals as goal

pub returns-in_default-clause-err : goal.returns-in_default-clause-err
returns-in_default-clause-err c = lacks_front c.args.text.now c.utf8.text c.in_default.ensures.cases

pub returns-in_default-strip_suffix-clause-err : goal.returns-in_default-strip_suffix-clause-err
returns-in_default-strip_suffix-clause-err c =
    lacks_back c.args.text.now c.in-Some.rest.now c.utf8.text
    (stripped_front c.args.text.now c.in-Some.rest.now
    (rw c.in-Some.rest-is at c.in-Some.ensures.cases)) c.in_default-strip_suffix.ensures.cases

pub returns-clause-ok : goal.returns-clause-ok
returns-clause-ok c =
    middle_found c.args.text.now c.in-Some.rest.now c.in-Some-strip_suffix.between.now
    (stripped_front c.args.text.now c.in-Some.rest.now
    (rw c.in-Some.rest-is at c.in-Some.ensures.cases))
    (stripped_back c.in-Some.rest.now c.in-Some-strip_suffix.between.now
    (rw c.in-Some-strip_suffix.between-is at c.in-Some-strip_suffix.ensures.cases))
    (utf8_between c.in-Some.rest.now c.in-Some-strip_suffix.between.now
    (utf8_rest c.args.text.now c.in-Some.rest.now c.utf8.text
    (rw c.in-Some.rest-is at c.in-Some.ensures.cases))
    (rw c.in-Some-strip_suffix.between-is at c.in-Some-strip_suffix.ensures.cases))
    ∙ ap (λ (m : List ℕ). Ok m) (sym c.in_ok-new.ensures.ok)
