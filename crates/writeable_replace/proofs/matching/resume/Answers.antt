-- A front that goes on with the character is found, or none is left.
use Rattle.std.proofs.Common.{◌≡◌, ◌<◌, ◌≤◌, length, take, chars, ◌∙◌, ap, subst, sym, arith, rules}
use Rattle.std.proofs.Common.{true, false}
use Rattle.std.proofs.lemmas.List.{length-take-le}
use Rattle.writeable_replace.specs.Position.{position, IsTried, GoesOn, Border}
use Rattle.writeable_replace.specs.PositionLaws.{next_tested, next_bytes, position_none}
use Rattle.writeable_replace.specs.TriedLaws.{back_off}
use Rattle.writeable_replace.proofs.Tested.{tested}
use Rattle.writeable_replace.proofs.matching.resume.Goals as goal

pub returns-then-starts_with : goal.returns-then-starts_with
returns-then-starts_with c =
    let next = c.as_bytes-next.ensures.value ∙ c.encode_utf8.ensures.value in
    record {
      within = c.loop-next.invariant.within;
      boundary = c.loop-next.invariant.boundary;
      tried = c.loop-next.invariant.tried;
      next =
          next_tested c.args.needle.now c.loop-next.kept c.args.c c.utf8.needle
          c.loop-next.invariant.boundary
          (tested c.loop-next.kept c.as_bytes.ensures.value next c.starts_with.ensures.value
          c.if-starts_with.true);
    }

pub returns-then-kept-eq0 : goal.returns-then-kept-eq0
returns-then-kept-eq0 c =
    let needle = c.args.needle.now in
    let next = c.as_bytes-next.ensures.value ∙ c.encode_utf8.ensures.value in
    let zero : position needle c.loop-next.kept ≡ 0 =
    subst (λ n. position needle n ≡ 0) (sym c.if-kept-eq0.true) (position_none needle) in
    let fails =
    tested c.loop-next.kept c.as_bytes.ensures.value next c.starts_with.ensures.value
    c.if-starts_with.false in (
      subst (IsTried (chars needle) (position needle c.args.matched) c.args.c) zero
          c.loop-next.invariant.tried,
      λ on.
          let there =
          next_bytes needle c.loop-next.kept c.args.c c.utf8.needle
          c.loop-next.invariant.boundary
          (subst (λ i. GoesOn (chars needle) i c.args.c) (sym zero) on) in
          let no : true ≡ false = sym there ∙ fails in
          cc,
    )

pub loop-next-preserved : goal.loop-next-preserved
loop-next-preserved c =
    let needle = c.args.needle.now in
    let kept = c.loop-next.kept in
    let next = c.as_bytes-next.ensures.value ∙ c.encode_utf8.ensures.value in
    let fails =
    tested kept c.as_bytes.ensures.value next c.starts_with.ensures.value
    c.if-starts_with.false in
    let front : c.range.result.now ≡ take kept needle = search rules in
    let some : 1 ≤ kept = omega arith in
    let border =
    subst (λ text. Border text c.overlap_of-kept.result) front
    c.overlap_of-kept.ensures.border in
    let shorter : c.overlap_of-kept.result < kept =
    omega (
      arith,
      c.overlap_of-kept.ensures.shorter,
      ap length front,
      length-take-le kept needle c.loop-next.invariant.boundary.0,
    ) in
    let back =
    back_off needle c.args.matched c.args.c kept c.overlap_of-kept.result
    c.utf8.needle c.requires
    c.loop-next.invariant.boundary c.loop-next.invariant.tried fails some border shorter in
    record {
      within = omega (arith, c.loop-next.invariant.within);
      boundary = back.boundary;
      tried = back.tried;
    }
