-- What is still matched ends what was, and nothing longer that does so goes on with the character.
use Rattle.std.proofs.Common.{◌≤◌, chars, IsCharBoundary}
use Rattle.writeable_replace.specs.Position.{position, IsTried}
use Rattle.writeable_replace.proofs.matching.resume.Given as goal

abbrev pub invariant-loop-next : goal.invariant-loop-next
invariant-loop-next l = record {
  within : l.kept ≤ l.matched;
  boundary : IsCharBoundary l.needle l.kept;
  tried : IsTried (chars l.needle) (position l.needle l.matched) l.fn.c (position l.needle l.kept);
}

abbrev pub decreases-loop-next : goal.decreases-loop-next
decreases-loop-next l = l.kept
