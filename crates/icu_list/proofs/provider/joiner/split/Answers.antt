use Rattle.std.proofs.Common.{◌≡◌, List, ℕ, Option, Some, None, chars, rules}
use Rattle.std.specs.Borrow.{Bor}
use Rattle.std.specs.Prelude.{MatchOption, is_some, codes, true, false}
use Rattle.icu_list.specs.PatternTexts.{cut, pattern_of}
use Rattle.icu_list.proofs.Reading.{no_first, early_second, no_second, all_parts}
use Rattle.icu_list.proofs.provider.joiner.split.Goals as goal

pub returns-in_err-prefix : goal.returns-in_err-prefix
returns-in_err-prefix c =
    let none = no_first (chars c.args.text.now) c.in_err-prefix.ensures in
    search rules

early : (text prefix rest : List ℕ) (o : Option (Bor (List ℕ) × Bor (List ℕ)))
    → cut (chars (codes "{0}")) text ≡ Some (prefix, rest)
    → MatchOption o (cut (chars (codes "{1}")) prefix ≡ None)
    (λ x. cut (chars (codes "{1}")) prefix ≡ Some (chars x.0.now, chars x.1.now))
    → is_some o ≡ true → pattern_of text ≡ None
early text prefix rest None h e t = absurd cc
early text prefix rest (Some x) h e t =
    early_second text prefix rest (chars x.0.now, chars x.1.now) h e

none_early : (prefix : List ℕ) (o : Option (Bor (List ℕ) × Bor (List ℕ)))
    → MatchOption o (cut (chars (codes "{1}")) prefix ≡ None)
    (λ x. cut (chars (codes "{1}")) prefix ≡ Some (chars x.0.now, chars x.1.now))
    → is_some o ≡ false → cut (chars (codes "{1}")) prefix ≡ None
none_early prefix None e t = e
none_early prefix (Some x) e t = absurd cc

pub returns-then-is_some : goal.returns-then-is_some
returns-then-is_some c =
    early (chars c.args.text.now) (chars c.in_ok-prefix.prefix.now)
    (chars c.in_ok-prefix.rest.now) c.cut-2.result
    (rw (c.in_ok-prefix.prefix-is, c.in_ok-prefix.rest-is) at c.in_ok-prefix.ensures)
    c.cut-2.ensures (search rules)

pub returns-in_err-between : goal.returns-in_err-between
returns-in_err-between c =
    let none =
    no_second (chars c.args.text.now) (chars c.in_ok-prefix.prefix.now)
    (chars c.in_ok-prefix.rest.now)
    (rw (c.in_ok-prefix.prefix-is, c.in_ok-prefix.rest-is) at c.in_ok-prefix.ensures)
    (none_early (chars c.in_ok-prefix.prefix.now) c.cut-2.result c.cut-2.ensures (search rules))
    c.in_err-between.ensures in
    search rules

pub returns : goal.returns
returns c =
    all_parts (chars c.args.text.now) (chars c.in_ok-prefix.prefix.now)
    (chars c.in_ok-prefix.rest.now) (chars c.in_ok-between.between.now)
    (chars c.in_ok-between.suffix.now)
    (rw (c.in_ok-prefix.prefix-is, c.in_ok-prefix.rest-is) at c.in_ok-prefix.ensures)
    (none_early (chars c.in_ok-prefix.prefix.now) c.cut-2.result c.cut-2.ensures (search rules))
    (rw (c.in_ok-between.between-is, c.in_ok-between.suffix-is) at c.in_ok-between.ensures)
