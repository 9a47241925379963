-- What requests are answered: a line each, up to the first that is refused.
use Rattle.std.specs.Prelude.{◌≡◌, ℕ, List, [], ◌∷◌, ◌++◌, Some, slice_get, take}
use Rattle.localise_status.specs.declared.status.RequestCause.{RequestCause}
use Rattle.localise_status.specs.declared.status.Status.{Status}
use Rattle.localise_status.specs.declared.status.Status.TheVariants.{Done, Request as Refused}
use Rattle.localise_texts.specs.declared.request.Request.{Request}

-- a text and a line feed
abbrev pub line_of : List ℕ → List ℕ
line_of text = text ++ 10 ∷ []

-- `Line` says which line a request gets, `Fault` why it gets none
module _ (Line : Request → List ℕ → Type 0) (Fault : Request → RequestCause → Type 0) where
  -- the lines of requests, one behind the other
  abbrev pub AreLines : List Request → List ℕ → Type 0
  AreLines [] text = text ≡ []
  AreLines (q ∷ qs) text =
      (line : List ℕ) × (lines : List ℕ) × Line q line × AreLines qs lines × (text ≡ line ++ lines)

  -- the lines of some requests in front
  pub record BeginLines (requests : List Request) (text : List ℕ) : Type 0 where
    pub count : ℕ
    pub are : AreLines (take count requests) text

  -- request i gets no line, and those before it do
  pub record StopsAt (requests : List Request) (i : ℕ) (cause : RequestCause) (text : List ℕ) :
      Type 0 where
    pub request : Request
    pub request_is : slice_get requests i ≡ Some request
    pub before : AreLines (take i requests) text
    pub fault : Fault request cause

  -- the status of requests, and the lines before it
  pub data AreAnswered (requests : List Request) (status : Status) (text : List ℕ) : Type 0 where
    all : AreLines requests text → status ≡ Done → AreAnswered requests status text
    up_to : {i : ℕ} {cause : RequestCause} → StopsAt requests i cause text
        → status ≡ Refused i cause
        → AreAnswered requests status text
