-- The pieces that have been looked at, and the next one.
use Rattle.std.proofs.Common.{◌≡◌, true, false, sym, ap, ◌∙◌, subst, map, List, ℕ, rules, arith}
use Rattle.std.proofs.Common.{◌<◌, length}
use Rattle.std.specs.Prelude.{◌==◌}
use Rattle.std.proofs.lemmas.Bool.Decides.{nat_tests}
use Rattle.std.proofs.lemmas.List.{length-map}
use Rattle.std.specs.Char.{to_ascii_lowercase}
use Rattle.language_tags_grammar.specs.Pieces.{lowercase, pieces}
use Rattle.language_tags_grammar.specs.TagFault.{are_allowed}
use Rattle.language_tags_grammar.specs.Lemmas.Faults.{no_bytes}
use Rattle.language_tags_grammar.specs.Lemmas.PieceLaws.{pieces-lowercase}
use Rattle.language_tags_grammar.specs.Lemmas.PrivateLaws.{Checked, all_private, checked_more}
use Rattle.language_tags_grammar.specs.Lemmas.PrivateLaws.{checked_none, first_bad, some_bytes}
use Rattle.language_tags_grammar.proofs.private_use.check.Goals as goal

pub loop-piece-init : goal.loop-piece-init
loop-piece-init c =
    let all : c.into_iter-piece-iterator.result ≡ pieces c.args.rest.now = search rules in
    checked_none _ _ (pieces-lowercase c.args.rest.now ∙ ap (map lowercase) (sym all))

pub returns-then-is_empty-2 : goal.returns-then-is_empty-2
returns-then-is_empty-2 c =
    let ps = pieces (lowercase c.args.rest.now) in
    let piece = c.in-Some.piece.now in
    let next =
    subst (λ (qs : List (List ℕ)). Checked ps (map lowercase qs)) c.in-Some.ensures.steps
    c.loop-piece.invariant in
    let allowed : are_allowed (lowercase c.args.rest.now) ≡ true =
    grind (arith, nat_tests, c.are_allowed.ensures, c.if-not-are_allowed.false) in
    let none : length piece ≡ 0 =
    grind (arith, nat_tests, c.is_empty-in-loop-piece.ensures, c.if-is_empty-2.true) in (
      allowed,
      some_bytes c.args.rest.now c.is_empty.result c.is_empty.ensures c.if-is_empty.false,
      first_bad ps (map lowercase c.next.new.self) (lowercase piece) _ next
          (ap lowercase (no_bytes piece none)),
    )

pub returns-then-piece-gt8 : goal.returns-then-piece-gt8
returns-then-piece-gt8 c =
    let ps = pieces (lowercase c.args.rest.now) in
    let piece = c.in-Some.piece.now in
    let next =
    subst (λ (qs : List (List ℕ)). Checked ps (map lowercase qs)) c.in-Some.ensures.steps
    c.loop-piece.invariant in
    let allowed : are_allowed (lowercase c.args.rest.now) ≡ true =
    grind (arith, nat_tests, c.are_allowed.ensures, c.if-not-are_allowed.false) in
    let long : 8 < length (lowercase piece) =
    omega (arith, c.if-piece-gt8.true, length-map piece to_ascii_lowercase) in
    (allowed, first_bad ps (map lowercase c.next.new.self) (lowercase piece) _ next long)

pub loop-piece-preserved : goal.loop-piece-preserved
loop-piece-preserved c =
    let ps = pieces (lowercase c.args.rest.now) in
    let piece = c.in-Some.piece.now in
    let next =
    subst (λ (qs : List (List ℕ)). Checked ps (map lowercase qs)) c.in-Some.ensures.steps
    c.loop-piece.invariant in
    let some : (length piece == 0) ≡ false =
    grind (arith, nat_tests, c.is_empty-in-loop-piece.ensures, c.if-is_empty-2.false) in
    checked_more ps (map lowercase c.next.new.self) (lowercase piece) next (
      grind (arith, nat_tests, some, length-map piece to_ascii_lowercase),
      omega (arith, c.if-piece-gt8.false, length-map piece to_ascii_lowercase),
    )

pub returns : goal.returns
returns c =
    let ps = pieces (lowercase c.args.rest.now) in
    let allowed : are_allowed (lowercase c.args.rest.now) ≡ true =
    grind (arith, nat_tests, c.are_allowed.ensures, c.if-not-are_allowed.false) in
    all_private (lowercase c.args.rest.now) allowed
    (subst (λ (qs : List (List ℕ)). Checked ps (map lowercase qs)) c.in-None.ensures.steps.0
    c.loop-piece.invariant)
