-- Private use tags (RFC 5646, section 2.1): those whose text begins with `x-`.
use Rattle.std.specs.Prelude.{Bool, codes, nat_eq}
use Rattle.std.specs.List.{starts_with}
use Rattle.language_tags_grammar.specs.Tag.{Tag, print}

abbrev pub is_private_use : Tag → Bool
is_private_use g = starts_with nat_eq (print g) (codes "x-")
