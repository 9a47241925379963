use Rattle.std.proofs.Common.{◌≡◌, true, false, refl, arith}
use Rattle.std.proofs.lemmas.Str.{IsCharBoundary-start}
use Rattle.icu_list.proofs.Places.{place_in, place_from}
use Rattle.icu_list.proofs.provider.joiner.ListJoinerPattern.from_parts.Goals as goal

pub returns-then-not-is_char_boundary-clause-err : goal.returns-then-not-is_char_boundary-clause-err
returns-then-not-is_char_boundary-clause-err c = (
  refl,
  λ place.
      let yes : c.is_char_boundary.result ≡ true =
      c.is_char_boundary.ensures.test.1
      (place_in c.args.string c.as_str.result.now c.args.index_1 c.as_str.utf8
      c.as_str.ensures place) in
      let no : c.is_char_boundary.result ≡ false = c.if-not-is_char_boundary.true in
      absurd cc,
)

pub invariant_of-result : goal.invariant_of-result
invariant_of-result c = (
  omega arith,
  place_from c.args.string c.as_str.result.now 0 c.as_str.utf8 c.as_str.ensures
      (IsCharBoundary-start c.as_str.result.now c.as_str.utf8),
  place_from c.args.string c.as_str.result.now c.args.index_1 c.as_str.utf8 c.as_str.ensures
      (c.is_char_boundary.ensures.test.0 c.if-not-is_char_boundary.false),
)

pub returns-clause-place : goal.returns-clause-place
returns-clause-place c =
    place_from c.args.string c.as_str.result.now c.args.index_1 c.as_str.utf8 c.as_str.ensures
    (c.is_char_boundary.ensures.test.0 c.if-not-is_char_boundary.false)
