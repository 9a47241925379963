-- What a sink passes on that replaces a text p by a text r in what it takes. It keeps back what may
-- still begin an occurrence, and keeps of it a position in p alone.
use Rattle.std.specs.Prelude.{◌≡◌, ℕ, ◌-◌, ◌≤◌, List, ◌++◌, length, take, Bool, true, Option, Some}
use Rattle.std.specs.Prelude.{None}
use Rattle.writeable_core.specs.Sink.{TookPrefix, Rose}
use Rattle.writeable_core.specs.declared.sink.SinkError.{SinkError}
use Rattle.writeable_core.specs.declared.sink.SinkError.TheVariants.{Fault, NoMemory}
use Rattle.writeable_replace.specs.Overlap.{overlap}
use Rattle.writeable_replace.specs.Replaced.{replaced, behind_last}

-- a text without its last n characters
abbrev pub without_last : ℕ → List ℕ → List ℕ
without_last n s = take (length s - n) s

-- the text so far: the first k characters of p, which were kept back, and then t
abbrev pub so_far : List ℕ → ℕ → List ℕ → List ℕ
so_far p k t = take k p ++ t

-- The position after a text: the longest proper front of p that ends what is behind the last
-- replaced occurrence.
abbrev pub position_after : List ℕ → List ℕ → ℕ
position_after p s = overlap p (behind_last p s)

-- what is passed on of a text: the text replaced, without its end that is kept back
abbrev pub passed_on : List ℕ → List ℕ → List ℕ → List ℕ
passed_on p r s = without_last (position_after p s) (replaced s p r)

-- what a text comes to: the position after, and what is passed on
pub record Came (p r s : List ℕ) (j : ℕ) (o : List ℕ) : Type 0 where
  pub position : position_after p s ≡ j
  pub text : passed_on p r s ≡ o
  pub whole : replaced s p r ≡ o ++ take j p
  pub proper : j ≤ length p - 1

-- t was taken at the position k: the sink behind took what is passed on, and j is the position
-- after
pub record Passed {S : Type 0} (took : S → List ℕ → S → Type 0) (p r : List ℕ) (k : ℕ) (old : S)
    (t : List ℕ) (j : ℕ) (new : S) : Type 0 where
  pub position : j ≡ position_after p (so_far p k t)
  pub taken : took old (passed_on p r (so_far p k t)) new

-- The sink behind refused within t: it took a front of what is passed on. A fault comes only where
-- its count rose, want of memory only where it takes memory.
pub record Refused {S : Type 0} (took : S → List ℕ → S → Type 0) (faults : S → ℕ)
    (memory : S → Bool) (p r : List ℕ) (k : ℕ) (old : S) (t : List ℕ) (error : SinkError)
    (new : S) : Type 0 where
  pub front : TookPrefix took old (passed_on p r (so_far p k t)) new
  pub fault : error ≡ Fault → Rose (faults old) (faults new)
  pub no_memory : error ≡ NoMemory → memory old ≡ true

-- By the first error of the sink behind, before and after: none, one that came within t, or one
-- that came earlier. After an error nothing is passed on, and that error stays.
abbrev pub Went : {S : Type 0} → (S → List ℕ → S → Type 0) → (S → ℕ) → (S → Bool) → List ℕ → List ℕ
    → ℕ → S → List ℕ → ℕ → S → Option SinkError → Option SinkError → Type 0
Went took faults memory p r k old t j new None None = Passed took p r k old t j new
Went took faults memory p r k old t j new None (Some e) =
    Refused took faults memory p r k old t e new
Went took faults memory p r k old t j new (Some e) f = (f ≡ Some e) × (new ≡ old)
