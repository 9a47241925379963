-- `generate`: requests made from those of a document, and three numbers of their lines.
use Rattle.std.specs.Fmt.{decimal}
use Rattle.std.specs.Prelude.{◌≡◌, ◌≢◌, ℕ, zero, suc, ◌+◌, ◌-◌, ◌%◌, ◌^◌, min, List, [], ◌∷◌, ◌++◌}
use Rattle.std.specs.Prelude.{codes, length, get_or, replicate, nat_lt, if◌then◌else◌}
use Rattle.icu_list.specs.Patterns.{Patterns}
use Rattle.icu_locale_core.specs.Locale.{Locale}
use Rattle.localise.specs.Chosen.{Answer, Answers}
use Rattle.localise.specs.Meaning.{Meaning}
use Rattle.localise_run.specs.Rendering.{AreRendered, IsLine, IsLineFault}
use Rattle.localise_run.specs.Requests.{AreLines, line_of}
use Rattle.localise_run.specs.Wanting.{Wants}
use Rattle.localise_run.specs.declared.generate.Counted.{Counted}
use Rattle.localise_status.specs.declared.status.Status.{Status}
use Rattle.localise_status.specs.declared.status.Status.TheVariants.{Done, NoMemory}
use Rattle.localise_texts.specs.declared.request.Request.{Request}
use Rattle.wanted_locale.specs.declared.tables.Tables.{Tables}
use Rattle.writeable_core.specs.Hint.{byte_length}

-- a request with the count and the items of made request i
abbrev pub made_from : ℕ → Request → Request
made_from i q = record q { count = i % 3; items = replicate (i % 4) (codes "x") }

-- n made requests, the first of which has the number i: made request i is the document's of number
-- i mod r
abbrev pub made : List Request → ℕ → ℕ → List Request
made requests i zero = []
made [] i (suc n) = []
made (q ∷ qs) i (suc n) =
    made_from i (get_or (q ∷ qs) (i % length (q ∷ qs)) q) ∷ made (q ∷ qs) (suc i) n

-- the locales of the requests in front, and with them that of the request at a place
abbrev pub known : List Locale → ℕ → Locale → List Locale
known locales place locale =
    if nat_lt place (length locales) then locales else locales ++ locale ∷ []

-- the greatest number of 64 bits stands for every greater one
abbrev pub at_most_64_bits : ℕ → ℕ
at_most_64_bits n = min n (2 ^ 64 - 1)

-- a word and a number, as a line
abbrev pub number_line : List ℕ → ℕ → List ℕ
number_line word n = word ++ line_of (decimal n)

-- the three lines of so many requests, bytes and visited locales
abbrev pub three_lines : ℕ → ℕ → ℕ → List ℕ
three_lines requests bytes visited =
    number_line (codes "requests ") requests
    ++ (number_line (codes "bytes ") bytes ++ number_line (codes "visited ") visited)

module _ (T : Tables) (bundles : List Meaning) (root : Patterns) where
  -- how many locales the walk of a request visits
  pub record Visits (q : Request) (count : ℕ) : Type 0 where
    pub locale : Locale
    pub wants : Wants T q locale
    pub answer : Answer
    pub answers : Answers T.fallbacker bundles root locale q answer
    pub count_is : count ≡ answer.visited

  -- and those of requests in all
  abbrev pub AreVisited : List Request → ℕ → Type 0
  AreVisited [] total = total ≡ 0
  AreVisited (q ∷ qs) total =
      (count : ℕ) × (rest : ℕ) × Visits q count × AreVisited qs rest × (total ≡ count + rest)

  -- what is counted of requests each of which has a line
  pub record AreCounted (requests : List Request) (counted : Counted) : Type 0 where
    pub lines : List ℕ
    pub are_lines : AreLines (IsLine T bundles root) (IsLineFault T bundles root) requests lines
    pub requests_are : counted.requests ≡ length requests
    pub bytes_are : counted.bytes ≡ at_most_64_bits (byte_length lines)
    pub visited_are : AreVisited requests counted.visited

  -- why requests aren't counted: their lines stop at one of them, or memory ran out
  pub data AreUncounted (requests : List Request) (status : Status) : Type 0 where
    stopped : {lines : List ℕ} → AreRendered T bundles root requests status lines → status ≢ Done
        → AreUncounted requests status
    no_memory : status ≡ NoMemory → AreUncounted requests status

  -- the three lines of such requests
  pub record AreNumbers (requests : List Request) (text : List ℕ) : Type 0 where
    pub counted : Counted
    pub are : AreCounted requests counted
    pub text_is : text ≡ three_lines counted.requests counted.bytes counted.visited

  -- the status of made requests: that of rendering them; and where each has a line, their numbers
  -- as text
  pub data AreGenerated (requests : List Request) (status : Status) (text : List ℕ) : Type 0 where
    all : AreNumbers requests text → status ≡ Done → AreGenerated requests status text
    refused : {lines : List ℕ} → AreRendered T bundles root requests status lines
        → status ≢ Done → text ≡ []
        → AreGenerated requests status text
