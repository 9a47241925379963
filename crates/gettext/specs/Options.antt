-- How a file is asked to be read.
use Rattle.std.specs.Prelude.{Bool, false, Option, None}
use Rattle.gettext.specs.declared.encoding.Encoding.{Encoding}
pub use Rattle.gettext.specs.declared.parser.options.Options.{Options}

-- nothing is forced
abbrev pub plain_options : Options
plain_options = record { encoding = None; forced = false }

-- an encoding that may be forced, and whether a function is
abbrev pub options_of : Option Encoding → Bool → Options
options_of encoding forced = record { encoding = encoding; forced = forced }
