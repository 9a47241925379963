-- What is read of the rest of a list, behind what was read of its front.
use Rattle.std.proofs.Common.{List, ◌++◌, Option, option_map, Result, Ok, Err}

-- these, and then what is there
abbrev pub in_front : {A : Type 0} → List A → Option (List A) → Option (List A)
in_front front read = option_map (λ rest. front ++ rest) read

-- these, and then what is read, where nothing is misshapen
abbrev pub behind : {A F : Type 0} → List A → Result (List A) F → Result (List A) F
behind front (Ok rest) = Ok (front ++ rest)
behind front (Err fault) = Err fault
