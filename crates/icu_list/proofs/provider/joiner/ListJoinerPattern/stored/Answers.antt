use Rattle.std.proofs.Common.{◌≡◌, ◌+◌, ap, ◌∙◌, arith, length}
use Rattle.std.proofs.lemmas.Grind.{common_steps}
use Rattle.writeable_core.specs.TextLaws.{encodes-chars_of}
use Rattle.icu_list.proofs.Reading.{bytes_before}
use Rattle.icu_list.proofs.Places.{Three, first_place, second_place, pattern_is}
use Rattle.icu_list.proofs.provider.joiner.ListJoinerPattern.stored.Goals as goal
use lib.Utf8.{encodes}

three : (c : goal.After-from_string)
    → Three c.from_string.result c.args.prefix.now c.args.between.now c.args.suffix.now
three c = record {
  bytes = ap encodes c.from_string.ensures ∙ encodes-chars_of c.push_str-3.new.self
      ∙ grind (arith, common_steps);
  utf8_between = c.utf8.between;
  utf8_suffix = c.utf8.suffix;
}

size : (c : goal.After-from_string)
    → c.saturating_add-index_1.result ≡ length c.args.prefix.now + length c.args.between.now
size c = omega arith

pub invariant_of-result : goal.invariant_of-result
invariant_of-result c = (
  omega (arith, size c),
  first_place c.from_string.result c.args.prefix.now c.args.between.now c.args.suffix.now (three c),
  second_place c.from_string.result c.args.prefix.now c.args.between.now c.args.suffix.now
      c.saturating_add-index_1.result (three c) (size c),
)

pub returns-clause-ok : goal.returns-clause-ok
returns-clause-ok c =
    pattern_is c.from_string.result c.args.prefix.now c.args.between.now c.args.suffix.now
    c.saturating_add-index_1.result (three c) (size c)

pub returns-then-index_1-gt-MOST-clause-size : goal.returns-then-index_1-gt-MOST-clause-size
returns-then-index_1-gt-MOST-clause-size c =
    bytes_before c.args.prefix.now c.args.between.now c.utf8.prefix c.utf8.between

pub returns-in_err-string-clause-size : goal.returns-in_err-string-clause-size
returns-in_err-string-clause-size c =
    bytes_before c.args.prefix.now c.args.between.now c.utf8.prefix c.utf8.between

pub returns-clause-size : goal.returns-clause-size
returns-clause-size c =
    bytes_before c.args.prefix.now c.args.between.now c.utf8.prefix c.utf8.between
