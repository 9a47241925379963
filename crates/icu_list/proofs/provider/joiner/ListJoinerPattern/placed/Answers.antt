use Rattle.std.proofs.Common.{◌≡◌, true, false, refl, sym, arith, chars}
use Rattle.std.proofs.lemmas.Str.{IsCharBoundary-start}
use Rattle.icu_list.proofs.Places.{place_in, place_from}
use Rattle.icu_list.proofs.provider.joiner.ListJoinerPattern.placed.Goals as goal
use Rattle.icu_list.proofs.provider.joiner.ListJoinerPattern.placed.Goals.{then-place-gt255-via-then-place-gt255}
use Rattle.icu_list.proofs.provider.joiner.ListJoinerPattern.placed.Goals.{then-place-gt255-via-else-place-gt255+then-not-is_char_boundary}

pub returns-then-place-gt255-clause-err : goal.returns-then-place-gt255-clause-err
returns-then-place-gt255-clause-err c = λ stored.
    elim c.then-place-gt255.branch [
      | then-place-gt255-via-then-place-gt255 w ↦ let small = stored.small in let large =
          w.if-place-gt255.true in omega (arith, small, large)
      | then-place-gt255-via-else-place-gt255+then-not-is_char_boundary w ↦
          let yes : w.is_char_boundary.result ≡ true =
          w.is_char_boundary.ensures.test.1
          (place_in (chars c.args.string.now) c.args.string.now c.args.place c.utf8.string refl
          stored.boundary) in
          let no : w.is_char_boundary.result ≡ false = w.if-not-is_char_boundary.true in
          absurd cc
    ]

pub invariant_of-result : goal.invariant_of-result
invariant_of-result c = (
  omega arith,
  place_from c.in_ok-new.field-0 c.args.string.now 0 c.utf8.string (sym c.in_ok-new.ensures.ok)
      (IsCharBoundary-start c.args.string.now c.utf8.string),
  place_from c.in_ok-new.field-0 c.args.string.now c.args.place c.utf8.string
      (sym c.in_ok-new.ensures.ok)
      (c.is_char_boundary.ensures.test.0 c.if-not-is_char_boundary.false),
)

pub returns-clause-place : goal.returns-clause-place
returns-clause-place c = record {
  small = c.if-place-gt255.false;
  boundary =
      place_from (chars c.args.string.now) c.args.string.now c.args.place c.utf8.string refl
      (c.is_char_boundary.ensures.test.0 c.if-not-is_char_boundary.false);
}
