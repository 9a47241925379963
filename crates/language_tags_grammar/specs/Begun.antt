-- Pieces that begin a langtag: those of its parts, or those and a last piece with nothing behind
-- it.
use Rattle.std.specs.Prelude.{◌≡◌, ℕ, ◌≤◌, List, [], ◌∷◌, ◌++◌, length, map, IsTrue}
use Rattle.std.specs.List.{list_all}
use Rattle.std.specs.Str.{byte}
use Rattle.language_tags_grammar.specs.Pieces.{lowercase}
use Rattle.language_tags_grammar.specs.Shapes.{AreParts, is_extlang, is_language, is_singleton}
use Rattle.language_tags_grammar.specs.Tag.{Parts, written}

-- the pieces are those of the parts, without their case, and then this one
pub record EndsIn (last : List ℕ) (p : Parts) (ps : List (List ℕ)) : Type 0 where
  pub shapes : AreParts p
  pub private : p.private ≡ []
  pub in_order : ps ≡ map lowercase (written p) ++ (last ∷ [])

-- the last piece is an extension's singleton; it is the x of private use
pub record EndsInSingleton (ps : List (List ℕ)) : Type 0 where
  pub parts : Parts
  pub singleton : ℕ
  pub is : IsTrue (is_singleton singleton)
  pub ends : EndsIn (singleton ∷ []) parts ps

pub record EndsInX (ps : List (List ℕ)) : Type 0 where
  pub parts : Parts
  pub ends : EndsIn (byte "x" ∷ []) parts ps

-- the pieces are a language and three extlangs
pub record EndInThirdExtlang (ps : List (List ℕ)) : Type 0 where
  pub language : List ℕ
  pub extlangs : List (List ℕ)
  pub is : IsTrue (is_language language)
  pub short : length language ≤ 3
  pub are : IsTrue (list_all is_extlang extlangs)
  pub three : length extlangs ≡ 3
  pub in_order : ps ≡ language ∷ extlangs

pub data Begun (ps : List (List ℕ)) : Type 0 where
  with_parts : (p : Parts) → AreParts p → ps ≡ map lowercase (written p) → Begun ps
  with_singleton : EndsInSingleton ps → Begun ps
  with_x : EndsInX ps → Begun ps
