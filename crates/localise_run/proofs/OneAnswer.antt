-- An input has one answer to a command.
use Rattle.std.proofs.Common.{◌≡◌, ℕ, ◌<◌, ◌≤◌, List, Option, Some, None, Ok, Err, sym, ap, ◌∙◌}
use Rattle.std.proofs.Common.{subst, length, arith}
use Rattle.icu_list.specs.Patterns.{Patterns}
use Rattle.localise.specs.Bundles.{AreAccepted, IsRefusal}
use Rattle.localise.specs.Laws as localise
use Rattle.localise.specs.Meaning.{Meaning}
use Rattle.localise.specs.declared.error.RenderError.{RenderError}
use Rattle.localise_document.specs.Contents.{Contents}
use Rattle.localise_document.specs.Document.{IsDocument, IsMisshapen, document_of, json_of}
use Rattle.localise_document.specs.declared.place.ShapePlace.{ShapePlace}
use Rattle.localise_run.proofs.OneRendering.{Laws, generated_along, generated_one, rendered_along}
use Rattle.localise_run.proofs.OneRendering.{rendered_one, walked_along, walked_one}
use Rattle.localise_run.specs.Answers.{IsAnswer, IsMade, Says, document, in_bundles, in_requests}
use Rattle.localise_run.specs.Answers.{in_tables, misshapen, not_json, status_of, too_long}
use Rattle.localise_run.specs.Generating.{made}
use Rattle.localise_run.specs.Tables.{HasTables, IsTableFault}
use Rattle.localise_run.specs.declared.command.Command.{Command}
use Rattle.localise_run.specs.declared.command.Command.TheVariants.{Render, Walk, Generate}
use Rattle.localise_status.specs.declared.status.Status.{Status}
use Rattle.localise_status.specs.declared.status.Status.TheVariants as status
use Rattle.localise_status.specs.declared.status.TableCause.{TableCause}
use Rattle.localise_texts.specs.declared.request.Request.{Request}
use Rattle.reading.specs.Reading.{most_bytes}
use Rattle.wanted_locale.specs.declared.tables.Tables.{Tables}

-- ---- commands

-- a command makes one thing of requests
made_one : (laws : Laws) (T : Tables) (bundles : List Meaning) (root : Patterns) (command : Command)
    (qs : List Request) (a b : Status) (s t : List ℕ)
    → IsMade command T bundles root qs a s → IsMade command T bundles root qs b t
    → (a ≡ b) × (s ≡ t)
made_one laws T bundles root Render qs a b s t h g = rendered_one laws T bundles root qs a b s t h g
made_one laws T bundles root Walk qs a b s t h g = walked_one laws T qs a b s t h g
made_one laws T bundles root (Generate n) qs a b s t h g =
    generated_one laws T bundles root (made qs 0 n) a b s t h g

-- and over tables that answer alike the same
made_along : (laws : Laws) (T U : Tables) → localise.AnswerAlike T U
    → (bundles : List Meaning) (root : Patterns) (command : Command) (qs : List Request)
    (a : Status) (s : List ℕ) → IsMade command T bundles root qs a s
    → IsMade command U bundles root qs a s
made_along laws T U alike bundles root Render qs a s h =
    rendered_along laws T U alike.registry alike.fallbacker bundles root qs a s h
made_along laws T U alike bundles root Walk qs a s h =
    walked_along laws T U alike.registry alike.fallbacker qs a s h
made_along laws T U alike bundles root (Generate n) qs a s h =
    generated_along laws T U alike.registry alike.fallbacker bundles root (made qs 0 n) a s h

-- ---- documents

-- the laws of tables and bundles
pub record DocumentLaws : Type 0 where
  pub laws : Laws
  pub alike : (d : Contents) (T U : Tables) → HasTables d T → HasTables d U
      → localise.AnswerAlike T U
  pub one_table_fault : (d : Contents) (a b : TableCause) → IsTableFault d a
      → IsTableFault d b → a ≡ b
  pub tables_no_fault : (d : Contents) (T : Tables) (cause : TableCause) → HasTables d T
      → IsTableFault d cause → ⊥
  pub one_meaning : localise.OneMeaning
  pub one_refusal : localise.OneRefusal
  pub never_both : localise.NeverBoth
  pub accepted_along : localise.AcceptedByAnswers
  pub refused_along : localise.RefusedByAnswers

module _ (laws : DocumentLaws) (command : Command) (d : Contents) where
  -- bundles that are refused aren't accepted
  refused_or_accepted : (T U : Tables) (e : RenderError) (bundles : List Meaning) (root : Patterns)
      → HasTables d T → HasTables d U
      → IsRefusal T d.bundles d.root e → AreAccepted U d.bundles d.root bundles root → ⊥
  refused_or_accepted T U e bundles root h g r a =
      laws.never_both U d.bundles d.root bundles root e a
      (laws.refused_along T U d.bundles d.root e (laws.alike d T U h g) r)

  -- requests over two meanings of one document are answered as one thing
  requests_one : (T U : Tables) (bs cs : List Meaning) (p r : Patterns) (a b : Status)
      (s t : List ℕ) → HasTables d T → HasTables d U
      → AreAccepted T d.bundles d.root bs p → AreAccepted U d.bundles d.root cs r
      → IsMade command T bs p d.requests a s → IsMade command U cs r d.requests b t
      → (a ≡ b) × (s ≡ t)
  requests_one T U bs cs p r a b s t h g m n made other =
      let alike = laws.alike d T U h g in
      let one =
      laws.one_meaning U d.bundles d.root bs cs p r
      (laws.accepted_along T U d.bundles d.root bs p alike m) n in
      made_one laws.laws U cs r command d.requests a b s t
      (subst (λ x. IsMade command U cs x d.requests a s) one.1
      (subst (λ x. IsMade command U x p d.requests a s) one.0
      (made_along laws.laws T U alike bs p command d.requests a s made)))
      other

  -- a document has one answer
  answer_one : (a b : Status) (s t : List ℕ) → IsAnswer command d a s → IsAnswer command d b t
      → (a ≡ b) × (s ≡ t)
  answer_one a b s t (in_tables {cause = c} h is none) (in_tables {cause = e} g so empty) =
      (is ∙ ap status.Table (laws.one_table_fault d c e h g) ∙ sym so, none ∙ sym empty)
  answer_one a b s t (in_tables {cause = c} h is none) (in_bundles {T = T} g r so empty) =
      absurd (laws.tables_no_fault d T c g h)
  answer_one a b s t (in_tables {cause = c} h is none) (in_requests {T = T} g m n) =
      absurd (laws.tables_no_fault d T c g h)
  answer_one a b s t (in_bundles {T = T} h r is none) (in_tables {cause = c} g so empty) =
      absurd (laws.tables_no_fault d T c h g)
  answer_one a b s t (in_bundles {T = T} {refusal = e} h r is none)
      (in_bundles {T = U} {refusal = f} g q so empty) =
      let same =
      laws.one_refusal U d.bundles d.root e f
      (laws.refused_along T U d.bundles d.root e (laws.alike d T U h g) r) q in
      (is ∙ ap status_of same ∙ sym so, none ∙ sym empty)
  answer_one a b s t (in_bundles {T = T} {refusal = e} h r is none)
      (in_requests {T = U} {bundles = bs} {root = p} g m n) =
      absurd (refused_or_accepted T U e bs p h g r m)
  answer_one a b s t (in_requests {T = T} h m n) (in_tables {cause = c} g so empty) =
      absurd (laws.tables_no_fault d T c h g)
  answer_one a b s t (in_requests {T = U} {bundles = bs} {root = p} h m n)
      (in_bundles {T = T} {refusal = e} g r so empty) =
      absurd (refused_or_accepted T U e bs p g h r m)
  answer_one a b s t (in_requests {T = T} {bundles = bs} {root = p} h m first)
      (in_requests {T = U} {bundles = cs} {root = r} g n other) =
      requests_one T U bs cs p r a b s t h g m n first other

-- ---- bytes

-- bytes are one document
document_one : (bytes : List ℕ) (d e : Contents) → IsDocument bytes d → IsDocument bytes e → d ≡ e
document_one bytes d e h g =
    let value : h.value ≡ g.value = let x = h.json in let y = g.json in cc in
    let both : Ok d ≡ Ok e = sym h.says ∙ ap document_of value ∙ g.says in cc

-- have one first misshapen place
place_one : (bytes : List ℕ) (p q : ShapePlace) → IsMisshapen bytes p → IsMisshapen bytes q → p ≡ q
place_one bytes p q h g =
    let value : h.value ≡ g.value = let x = h.json in let y = g.json in cc in
    let both : Err p ≡ Err q = sym h.first ∙ ap document_of value ∙ g.first in cc

-- and never both
document_or_place : (bytes : List ℕ) (d : Contents) (p : ShapePlace) → IsDocument bytes d
    → IsMisshapen bytes p → ⊥
document_or_place bytes d p h g =
    let value : h.value ≡ g.value = let x = h.json in let y = g.json in cc in
    let both : Ok d ≡ Err p = sym h.says ∙ ap document_of value ∙ g.first in cc

-- bytes are too many, or few enough
many_or_few : (bytes : List ℕ) → most_bytes < length bytes → length bytes ≤ most_bytes → ⊥
many_or_few bytes more less = omega arith

-- bytes that are JSON aren't none
no_json : {A : Type 0} (o : Option A) (x : A) → o ≡ None → o ≡ Some x → ⊥
no_json o x none some = cc

module _ (laws : DocumentLaws) (command : Command) (bytes : List ℕ) where
  pub says_one : (a b : Status) (s t : List ℕ) → Says command bytes a s → Says command bytes b t
      → (a ≡ b) × (s ≡ t)
  says_one a b s t (too_long m is none) (too_long n so empty) = (is ∙ sym so, none ∙ sym empty)
  says_one a b s t (too_long m is none) (not_json l j so empty) = absurd (many_or_few bytes m l)
  says_one a b s t (too_long m is none) (misshapen l p so empty) = absurd (many_or_few bytes m l)
  says_one a b s t (too_long m is none) (document l d x) = absurd (many_or_few bytes m l)
  says_one a b s t (not_json l j is none) (too_long n so empty) = absurd (many_or_few bytes n l)
  says_one a b s t (not_json l j is none) (not_json m k so empty) = (is ∙ sym so, none ∙ sym empty)
  says_one a b s t (not_json l j is none) (misshapen m p so empty) =
      absurd (no_json (json_of bytes) p.value j p.json)
  says_one a b s t (not_json l j is none) (document m d x) =
      absurd (no_json (json_of bytes) d.value j d.json)
  says_one a b s t (misshapen l p is none) (too_long n so empty) = absurd (many_or_few bytes n l)
  says_one a b s t (misshapen l p is none) (not_json m j so empty) =
      absurd (no_json (json_of bytes) p.value j p.json)
  says_one a b s t (misshapen {place = x} l p is none) (misshapen {place = y} m q so empty) =
      (is ∙ ap status.Shape (place_one bytes x y p q) ∙ sym so, none ∙ sym empty)
  says_one a b s t (misshapen {place = x} l p is none) (document {d = d} m g y) =
      absurd (document_or_place bytes d x g p)
  says_one a b s t (document l g x) (too_long n so empty) = absurd (many_or_few bytes n l)
  says_one a b s t (document l g x) (not_json m j so empty) =
      absurd (no_json (json_of bytes) g.value j g.json)
  says_one a b s t (document {d = d} l g x) (misshapen {place = y} m p so empty) =
      absurd (document_or_place bytes d y g p)
  says_one a b s t (document {d = d} l g x) (document {d = e} m h y) =
      answer_one laws command d a b s t x
      (subst (λ c. IsAnswer command c b t) (document_one bytes e d h g) y)
