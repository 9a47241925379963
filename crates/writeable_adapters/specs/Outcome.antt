-- A value, or an error that is shown in its place.
use Rattle.std.specs.Prelude.{Result, Ok, Err, chars, codes}
use Rattle.writeable_core.specs.Marks.{PartName}

-- what f gives of the value, or g of the error
abbrev pub either_of : {T E A : Type 0} → (T → A) → (E → A) → Result T E → A
either_of f g (Ok x) = f x
either_of f g (Err e) = g e

-- the part of a text that stands for an error
abbrev pub error_part : PartName
error_part = record { category = chars (codes "writeable"); value = chars (codes "error") }
