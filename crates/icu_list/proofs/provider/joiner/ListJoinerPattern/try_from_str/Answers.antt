use Rattle.std.proofs.Common.{◌+◌, ◌∙◌, sym, chars, length}
use Rattle.icu_list.specs.Pattern.{pattern}
use Rattle.icu_list.proofs.Reading.{read_ok, read_err}
use Rattle.icu_list.proofs.provider.joiner.ListJoinerPattern.try_from_str.Goals as goal

pub returns-clause-ok : goal.returns-clause-ok
returns-clause-ok c =
    read_ok c.args.allow_prefix c.args.allow_suffix (chars c.args.pattern.now)
    (pattern (chars c.in-Some.prefix.now) (chars c.in-Some.between.now)
    (chars c.in-Some.suffix.now))
    (length c.in-Some.prefix.now + length c.in-Some.between.now)
    (rw (c.in-Some.prefix-is, c.in-Some.between-is, c.in-Some.suffix-is) at c.in-Some.ensures)
    (sym c.is_allowed.ensures ∙ c.if-not-is_allowed.false)
    (sym c.is_allowed-else-not-is_allowed.ensures ∙ c.if-not-is_allowed-2.false)
    c.stored.ensures.size c.stored.result c.stored.ensures.ok c.stored.ensures.fits

pub returns-clause-err : goal.returns-clause-err
returns-clause-err c =
    read_err c.args.allow_prefix c.args.allow_suffix (chars c.args.pattern.now)
    (pattern (chars c.in-Some.prefix.now) (chars c.in-Some.between.now)
    (chars c.in-Some.suffix.now))
    (length c.in-Some.prefix.now + length c.in-Some.between.now)
    (rw (c.in-Some.prefix-is, c.in-Some.between-is, c.in-Some.suffix-is) at c.in-Some.ensures)
    (sym c.is_allowed.ensures ∙ c.if-not-is_allowed.false)
    (sym c.is_allowed-else-not-is_allowed.ensures ∙ c.if-not-is_allowed-2.false)
    c.stored.ensures.size c.stored.result c.stored.ensures.err
