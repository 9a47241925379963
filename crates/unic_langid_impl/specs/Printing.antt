-- The printed text, subtag by subtag.
use Rattle.std.specs.Prelude.{ℕ, List, [], ◌∷◌, ◌++◌}
use Rattle.std.specs.Str.{byte}
use Rattle.unic_langid_impl.specs.Identifier.{Identifier, part}

-- the subtags behind the language
abbrev pub behind_language : Identifier → List (List ℕ)
behind_language i = part i.script ++ (part i.region ++ i.variants)

-- texts, each behind `-`
abbrev pub dashed : List (List ℕ) → List ℕ
dashed [] = []
dashed (text ∷ texts) = byte "-" ∷ (text ++ dashed texts)
