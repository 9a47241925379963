-- A table that is filled row by row.
use Rattle.std.proofs.Common.{◌≡◌, ◌≢◌, ℕ, zero, suc, ◌<◌, Bool, true, false, cond, List, [], ◌∷◌}
use Rattle.std.proofs.Common.{◌++◌, map, length, get_or, Option, Some, None, is_none, refl, sym, ap}
use Rattle.std.proofs.Common.{◌∙◌, subst, arith}
use Rattle.std.specs.List.{Any}
use Rattle.std.specs.Option.{option_or}
use Rattle.std.specs.Str.{bytes_eq}
use Rattle.std.proofs.lemmas.Bool.{false≢true}
use Rattle.std.proofs.lemmas.List.Elements.{All-nil, All-push}
use Rattle.std.proofs.lemmas.List.Quantifiers.{all_pairs_push}
use Rattle.std.proofs.lemmas.List.{map-append}
use Rattle.std.proofs.lemmas.Slice.Eq.{bytes_eq-Decides}
use Rattle.writeable_core.specs.declared.text.TextRow.{TextRow}
use Rattle.language_tags_registry.specs.Kinds.{MeetsAny}
use Rattle.language_tags_registry.specs.Registry.{Entry, value_of}
use Rattle.language_tags_registry.specs.Rows.{HasKey, HasValue, AreSound, IsTableOf, entry_of}
use Rattle.language_tags_registry.specs.Rows.{row_key, row_value}
use Rattle.language_tags_registry.specs.declared.kind.Kind.{Kind}
use Rattle.language_tags_registry.proofs.Entries.{bytes_eq-sym, value_of-push}

-- a look-up that finds nothing passed the first entry
passed : (b : Bool) (x : List ℕ) (o : Option (List ℕ)) → cond b (Some x) o ≡ None
    → (b ≡ false) × (o ≡ None)
passed true x o h = absurd cc
passed false x o h = (refl, h)

-- nothing stands behind a look-up
right : (p : Option (List ℕ)) → p ≡ option_or p None
right None = refl
right (Some x) = refl

module _ (kind : Kind) where
  -- what the rows answer
  abbrev pub answer : List TextRow → List ℕ → Option (List ℕ)
  answer rows q = value_of (map (entry_of kind) rows) q

  -- a key without an answer is that of no row
  other_key : (rows : List TextRow) (q : List ℕ) → answer rows q ≡ None
      → (k : ℕ) (d : TextRow) → k < length rows → row_key (get_or rows k d) ≢ q
  other_key [] q none k d below = absurd (omega arith)
  other_key (row ∷ rows) q none zero d below =
      let past = passed (bytes_eq q (row_key row)) (row_value kind.value row) (answer rows q)
      none in
      λ same. false≢true (sym past.0 ∙ (bytes_eq-Decides q (row_key row)).1 (sym same))
  other_key (row ∷ rows) q none (suc k) d below =
      other_key rows q (passed (bytes_eq q (row_key row)) (row_value kind.value row) (answer rows q)
      none).1 k d (omega arith)

  -- a key with an answer is that of a row
  answered : (rows : List TextRow) (q : List ℕ) → is_none (answer rows q) ≡ false
      → Any (λ other. row_key other ≡ q) rows
  answered [] q some = absurd (false≢true (sym some))
  answered (row ∷ rows) q some =
      elim (bytes_eq q (row_key row)) as (λ b. bytes_eq q (row_key row) ≡ b
      → is_none (cond b (Some (row_value kind.value row)) (answer rows q)) ≡ false
      → Any (λ other. row_key other ≡ q) (row ∷ rows)) [
        | true ↦ λ e h. (zero, row, omega arith, refl, sym ((bytes_eq-Decides q (row_key row)).0 e))
        | false ↦ λ e h. let (k, other, below, is, same) =
            answered rows q h in (suc k, other, omega arith, is, same)
      ] refl some

  -- a value is that of a row, and keeps the rule
  pub answer_meets : (rows : List TextRow) (q v : List ℕ)
      → ((k : ℕ) (d : TextRow) → k < length rows → HasValue kind (get_or rows k d))
      → answer rows q ≡ Some v → MeetsAny kind.value v
  answer_meets [] q v have is = cc
  answer_meets (row ∷ rows) q v have is =
      elim (bytes_eq q (row_key row)) as (λ b. cond b (Some (row_value kind.value row))
      (answer rows q) ≡ Some v → MeetsAny kind.value v) [
        | true ↦ λ h. let e : row_value kind.value row ≡ v =
            cc in subst (MeetsAny kind.value) e (have 0 row (omega arith))
        | false ↦ λ h. answer_meets rows q v (λ k d below. have (suc k) d (omega arith)) h
      ] is

  -- no row makes the empty table
  pub no_rows : IsTableOf kind [] []
  no_rows = record {
    sound = record {
      keys = All-nil (HasKey kind);
      values = All-nil (HasValue kind);
      distinct = λ i j d lt below. absurd (omega arith);
    };
    same = λ key. refl;
  }

  -- a row that is sound behind others
  pub sound_push : (rows : List TextRow) (row : TextRow) → AreSound kind rows → HasKey kind row
      → HasValue kind row → answer rows (row_key row) ≡ None → AreSound kind (rows ++ row ∷ [])
  sound_push rows row h has_key has_value none = record {
    keys = All-push (HasKey kind) rows row h.keys has_key;
    values = All-push (HasValue kind) rows row h.values has_value;
    distinct = all_pairs_push (λ earlier later. row_key earlier ≢ row_key later) rows row h.distinct
        (other_key rows (row_key row) none);
  }

  -- the answers behind one more row
  answer_push : (rows : List TextRow) (row : TextRow) (o : Option (List ℕ)) (q : List ℕ)
      → answer rows (row_key row) ≡ None → o ≡ answer rows q
      → cond (bytes_eq (row_key row) q) (Some (row_value kind.value row)) o
      ≡ answer (rows ++ row ∷ []) q
  answer_push rows row o q none is =
      let pushed : answer (rows ++ row ∷ []) q ≡ option_or (answer rows q)
      (cond (bytes_eq q (row_key row)) (Some (row_value kind.value row)) None) =
      ap (λ es. value_of es q) (map-append (entry_of kind) rows (row ∷ []))
      ∙ value_of-push (map (entry_of kind) rows) (entry_of kind row) q in
      inner (bytes_eq (row_key row) q) refl ∙ sym pushed
    where
      inner : (b : Bool) → bytes_eq (row_key row) q ≡ b
          → cond (bytes_eq (row_key row) q) (Some (row_value kind.value row)) o
          ≡ option_or (answer rows q) (cond (bytes_eq q (row_key row))
          (Some (row_value kind.value row)) None)
      inner true e =
          let same : row_key row ≡ q = (bytes_eq-Decides (row_key row) q).0 e in
          let other : bytes_eq q (row_key row) ≡ true = bytes_eq-sym q (row_key row) ∙ e in
          let nothing : answer rows q ≡ None = ap (answer rows) (sym same) ∙ none in
          rw (e, other, nothing) refl
      inner false e =
          let other : bytes_eq q (row_key row) ≡ false = bytes_eq-sym q (row_key row) ∙ e in
          rw (e, other) (is ∙ right (answer rows q))

  -- a row with a new key and a value is put in
  pub one_more : (rows : List TextRow) (table new : List Entry) (row : TextRow) (key value : List ℕ)
      → IsTableOf kind rows table
      → HasKey kind row → HasValue kind row → key ≡ row_key row → value ≡ row_value kind.value row
      → is_none (value_of table key) ≡ true
      → ((q : List ℕ) → value_of new q ≡ cond (bytes_eq key q) (Some value) (value_of table q))
      → IsTableOf kind (rows ++ row ∷ []) new
  one_more rows table new row key value h has_key has_value key_is value_is fresh updated =
      let none : answer rows (row_key row) ≡ None =
      sym (h.same (row_key row)) ∙ ap (value_of table) (sym key_is)
      ∙ nothing (value_of table key) fresh in
      record {
        sound = sound_push rows row h.sound has_key has_value none;
        same = λ q. updated q ∙ (λ i. cond (bytes_eq (key_is i) q) (Some (value_is i))
            (value_of table q))
            ∙ answer_push rows row (value_of table q) q none (h.same q);
      }
    where
      nothing : (o : Option (List ℕ)) → is_none o ≡ true → o ≡ None
      nothing None e = refl
      nothing (Some x) e = absurd (false≢true e)

  -- a key that the table has is that of a row
  pub earlier_key : (rows : List TextRow) (table : List Entry) (key : List ℕ) (row : TextRow)
      → IsTableOf kind rows table
      → key ≡ row_key row → is_none (value_of table key) ≡ false
      → Any (λ other. row_key other ≡ row_key row) rows
  earlier_key rows table key row h key_is some =
      answered rows (row_key row)
      (ap is_none (sym (h.same (row_key row)) ∙ ap (value_of table) (sym key_is)) ∙ some)
