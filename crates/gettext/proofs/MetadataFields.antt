-- Fields as a loop collects them, and the map that they go into.
use Rattle.std.proofs.Common.{◌≡◌, ℕ, Bool, true, false, cond, ◌==◌, List, [], ◌∷◌, ◌++◌, length}
use Rattle.std.proofs.Common.{map, Option, Some, None, Err, refl, sym, ◌∙◌, codes, append-nil}
use Rattle.std.specs.Option.{option_map, option_or, option_and_then, ok_or}
use Rattle.std.specs.Borrow.{Bor}
use Rattle.std.specs.List.{slice_split}
use Rattle.std.specs.Map.{lookup}
use Rattle.std.specs.BTreeMap.{BTreeMap, UpdatesBy, is_at, get_by}
use Rattle.std.specs.Cmp.Lexicographic.{slice_cmp, nat_list_cmp_total}
use Rattle.std.specs.Ordering.{nat_cmp, eq_by_cmp}
use Rattle.std.specs.FinMap.{find, get-from_entries}
use Rattle.std.proofs.lemmas.Bool.Decides.{same_from_decides}
use Rattle.std.proofs.lemmas.Option.{same_Some}
use Rattle.std.proofs.lemmas.Slice.Eq.{bytes_eq-Decides}
use Rattle.std.proofs.lemmas.Map.Text.{btree_map_updates_str}
use Rattle.writeable_core.specs.Texts.{same_text}
use Rattle.gettext.specs.Metadata.{Field, names_count, is_line_feed, is_colon, is_equals_sign}
use Rattle.gettext.specs.Metadata.{field_of, fields_in, fields_of, last_value, value_of}
use Rattle.gettext.specs.Metadata.{field_before, fields_among, gives, field_map}

-- two texts are one either way round
same_text-sym : (xs ys : List ℕ) → same_text xs ys ≡ same_text ys xs
same_text-sym xs ys = same_from_decides (same_text xs ys) (same_text ys xs) (bytes_eq-Decides xs ys)
    (λ e. sym ((bytes_eq-Decides ys xs).0 e), λ e. (bytes_eq-Decides ys xs).1 (sym e))

-- ---- the last of the fields

-- one field more counts if its name passes
pub last_value-push : (p : List ℕ → Bool) (fs : List Field) (f : Field)
    → last_value p (fs ++ f ∷ []) ≡ cond (p f.name) (Some f.value) (last_value p fs)
last_value-push p [] f = refl
last_value-push p (g ∷ fs) f = rw (last_value-push p fs f)
    (either (p f.name) (last_value p fs) (cond (p g.name) (Some g.value) None)) where
      either : (t : Bool) (o r : Option (List ℕ))
          → option_or (cond t (Some f.value) o) r ≡ cond t (Some f.value) (option_or o r)
      either true o r = refl
      either false o r = refl

-- so it does under its own name
pub value_of-push : (fs : List Field) (f : Field) (q : List ℕ)
    → value_of (fs ++ f ∷ []) q ≡ cond (same_text f.name q) (Some f.value) (value_of fs q)
unfolding value_of
value_of-push fs f q = rw (same_text-sym f.name q) (last_value-push (same_text q) fs f)

-- ---- lines

-- no field before others changes nothing
no_more : (o : Option (List Field)) → option_map (λ gs. [] ++ gs) o ≡ o
no_more None = refl
no_more (Some gs) = refl

-- the fields of lines behind others stand behind theirs
fields_in-append : (xs ys : List (List ℕ))
    → fields_in (xs ++ ys)
    ≡ option_and_then (λ fs. option_map (λ gs. fs ++ gs) (fields_in ys)) (fields_in xs)
fields_in-append [] ys = sym (no_more (fields_in ys))
fields_in-append (x ∷ xs) ys = rw (fields_in-append xs ys)
    (by_test (length x == 0) (field_of is_colon x) (fields_in xs) (fields_in ys)) where
      by_test : (t : Bool) (o : Option Field) (a b : Option (List Field))
          → cond t (option_and_then (λ fs. option_map (λ gs. fs ++ gs) b) a)
          (option_and_then
          (λ f. option_map (λ fs. f ∷ fs) (option_and_then (λ fs. option_map (λ gs. fs ++ gs) b) a))
          o)
          ≡ option_and_then (λ fs. option_map (λ gs. fs ++ gs) b)
          (cond t a (option_and_then (λ f. option_map (λ fs. f ∷ fs) a) o))
      by_test true o a b = refl
      by_test false None a b = refl
      by_test false (Some f) None b = refl
      by_test false (Some f) (Some fs) None = refl
      by_test false (Some f) (Some fs) (Some gs) = refl

-- the lines are read, and the map has their fields
pub record IsRead (lines : List (List ℕ)) (m : BTreeMap (Bor (List ℕ)) (Bor (List ℕ))) : Type
    0 where
  pub found : List Field
  pub reads : fields_in lines ≡ Some found
  pub values : (q : List ℕ)
      → option_map (λ s. s.now) (get_by (λ k. slice_cmp nat_cmp q k.now) m) ≡ value_of found q

-- an empty map has the fields of no line
pub nothing_read : (m : BTreeMap (Bor (List ℕ)) (Bor (List ℕ))) → m.entries ≡ [] → IsRead [] m
unfolding value_of
nothing_read m e = record { found = []; reads = refl; values = λ q. rw e refl }

-- an empty line adds no field
pub line_skipped : (lines : List (List ℕ)) (line : List ℕ)
    (m : BTreeMap (Bor (List ℕ)) (Bor (List ℕ))) → (length line == 0) ≡ true → IsRead lines m
    → IsRead (lines ++ line ∷ []) m
line_skipped lines line m e h = record {
  found = h.found ++ [];
  reads = rw (fields_in-append lines (line ∷ []), h.reads, e) refl;
  values = λ q. rw (append-nil h.found) (h.values q);
}

-- a line with a colon adds its field
pub line_read : (lines : List (List ℕ)) (line : List ℕ)
    (old new : BTreeMap (Bor (List ℕ)) (Bor (List ℕ))) (f : Field) (v : Bor (List ℕ))
    → (length line == 0) ≡ false → field_of is_colon line ≡ Some f → v.now ≡ f.value
    → UpdatesBy (λ x y. slice_cmp nat_cmp x.now y.now) (λ k. slice_cmp nat_cmp f.name k.now) old new
    (Some v) → IsRead lines old → IsRead (lines ++ line ∷ []) new
line_read lines line old new f v some is value updates h =
    record {
      found = h.found ++ f ∷ [];
      reads = rw (fields_in-append lines (line ∷ []), h.reads, some, is) refl;
      values =
          λ q. rw (
            value_of-push h.found f q,
            ← h.values q,
            ← value,
            btree_map_updates_str f.name
                old new (Some v) updates q,
          )
          (chosen (same_text f.name q) (get_by (λ k. slice_cmp nat_cmp q k.now) old));
    } where
      chosen : (t : Bool) (o : Option (Bor (List ℕ)))
          → option_map (λ s. s.now) (cond t (Some v) o)
          ≡ cond t (Some v.now) (option_map (λ s. s.now) o)
      chosen true o = refl
      chosen false o = refl

-- a line without one leaves no fields
pub line_malformed : (all lines rest : List (List ℕ)) (line : List ℕ)
    (m : BTreeMap (Bor (List ℕ)) (Bor (List ℕ))) → (length line == 0) ≡ false
    → field_of is_colon line ≡ None → all ≡ lines ++ line ∷ rest → IsRead lines m
    → fields_in all ≡ None
line_malformed all lines rest line m some none e h =
    rw (e, fields_in-append lines (line ∷ rest), h.reads, some, none) refl

-- ---- the map

-- the map of texts gives what the map of borrowed texts finds
pub gives-field_map : (m : BTreeMap (Bor (List ℕ)) (Bor (List ℕ))) (q : List ℕ)
    → gives (field_map m) q ≡ option_map (λ s. s.now) (get_by (λ k. slice_cmp nat_cmp q k.now) m)
unfolding field_map
gives-field_map m q = get-from_entries nat_list_cmp_total _ q ∙ among m.entries where
  among : (es : List (Bor (List ℕ) × Bor (List ℕ)))
      → find (slice_cmp nat_cmp) q (map (λ e. (e.0.now, e.1.now)) es)
      ≡ option_map (λ s. s.now) (lookup (is_at (λ k. slice_cmp nat_cmp q k.now)) es)
  among [] = refl
  among (e ∷ es) = rw (among es)
      (chosen (eq_by_cmp (slice_cmp nat_cmp) q e.0.now)
      (lookup (is_at (λ k. slice_cmp nat_cmp q k.now)) es)) where
        chosen : (t : Bool) (o : Option (Bor (List ℕ)))
            → cond t (Some e.1.now) (option_map (λ s. s.now) o)
            ≡ option_map (λ s. s.now) (cond t (Some e.1) o)
        chosen true o = refl
        chosen false o = refl

-- once all lines are read, the map gives the fields of the text
pub all_read : (blob : List ℕ) (lines : List (List ℕ)) (m : BTreeMap (Bor (List ℕ)) (Bor (List ℕ)))
    → lines ≡ slice_split is_line_feed blob → IsRead lines m
    → (fields : List Field) × (fields_of blob ≡ Some fields)
    × ((q : List ℕ) → gives (field_map m) q ≡ value_of fields q)
unfolding fields_of
all_read blob lines m e h = (h.found, rw (← e) h.reads, λ q. gives-field_map m q ∙ h.values q)

-- whichever fields the text has
pub read_as : (blob : List ℕ) (lines : List (List ℕ)) (m : BTreeMap (Bor (List ℕ)) (Bor (List ℕ)))
    → lines ≡ slice_split is_line_feed blob → IsRead lines m → (fields : List Field)
    → fields_of blob ≡ Some fields → (q : List ℕ) → gives (field_map m) q ≡ value_of fields q
read_as blob lines m e h fields is q =
    let all = all_read blob lines m e h in
    let same : all.0 ≡ fields = same_Some all.0 fields (sym all.1 ∙ is) in
    rw (← same) (all.2 q)

-- a line without a colon leaves the text without fields
pub all_malformed : (blob : List ℕ) (lines rest : List (List ℕ)) (line : List ℕ)
    (m : BTreeMap (Bor (List ℕ)) (Bor (List ℕ))) → (length line == 0) ≡ false
    → field_of is_colon line ≡ None → slice_split is_line_feed blob ≡ lines ++ line ∷ rest
    → IsRead lines m → fields_of blob ≡ None
unfolding fields_of
all_malformed blob lines rest line m some none e h =
    line_malformed (slice_split is_line_feed blob) lines rest line m some none e h

-- an error in place of a value that is none
pub from_ok_or : {A E : Type 0} (o : Option A) (e d : E) → Err d ≡ ok_or o e → (o ≡ None) × (d ≡ e)
from_ok_or None e d h = (refl, cc)
from_ok_or (Some x) e d h = absurd cc

-- ---- pieces

-- one piece more adds its field, where it is one
pub fields_among-push : (xs : List (List ℕ)) (x : List ℕ)
    → fields_among (xs ++ x ∷ []) ≡ fields_among xs ++ field_before (field_of is_equals_sign x) []
fields_among-push [] x = refl
fields_among-push (y ∷ xs) x =
    rw (fields_among-push xs x) (by_field (field_of is_equals_sign y)) where
      by_field : (o : Option Field)
          → field_before o (fields_among xs ++ field_before (field_of is_equals_sign x) [])
          ≡ field_before o (fields_among xs) ++ field_before (field_of is_equals_sign x) []
      by_field None = refl
      by_field (Some f) = refl

-- the last count and the last expression of the pieces
pub record IsFound (pieces : List (List ℕ)) (count expression : Option (Bor (List ℕ))) : Type
    0 where
  pub count_found : option_map (λ s. s.now) count ≡ last_value names_count (fields_among pieces)
  pub expression_found : option_map (λ s. s.now) expression
      ≡ value_of (fields_among pieces) (codes "plural")

-- a piece without a sign adds nothing
pub piece_skipped : (pieces : List (List ℕ)) (piece : List ℕ)
    (count expression : Option (Bor (List ℕ))) → field_of is_equals_sign piece ≡ None
    → IsFound pieces count expression → IsFound (pieces ++ piece ∷ []) count expression
piece_skipped pieces piece count expression none h =
    let same : fields_among (pieces ++ piece ∷ []) ≡ fields_among pieces =
    rw (fields_among-push pieces piece, none) (append-nil (fields_among pieces)) in
    record { count_found = rw same h.count_found; expression_found = rw same h.expression_found }

-- a piece with one adds its field
pub piece_found : (pieces : List (List ℕ)) (piece : List ℕ) (f : Field)
    (count expression count' expression' : Option (Bor (List ℕ)))
    → field_of is_equals_sign piece ≡ Some f
    → option_map (λ s. s.now) count'
    ≡ cond (names_count f.name) (Some f.value) (option_map (λ s. s.now) count)
    → option_map (λ s. s.now) expression'
    ≡ cond (same_text f.name (codes "plural")) (Some f.value) (option_map (λ s. s.now) expression)
    → IsFound pieces count expression → IsFound (pieces ++ piece ∷ []) count' expression'
piece_found pieces piece f count expression count' expression' some c e h =
    let more : fields_among (pieces ++ piece ∷ []) ≡ fields_among pieces ++ f ∷ [] =
    rw (fields_among-push pieces piece, some) refl in
    record {
      count_found =
          rw (more, last_value-push names_count (fields_among pieces) f, ← h.count_found) c;
      expression_found =
          rw (more, value_of-push (fields_among pieces) f (codes "plural"), ← h.expression_found) e;
    }

-- no piece has neither
pub nothing_found : IsFound [] None None
unfolding value_of
nothing_found = record { count_found = refl; expression_found = refl }

-- the name of the expression is none of the number's
pub plural_is_no_count : (name : List ℕ) → same_text name (codes "plural") ≡ true
    → names_count name ≡ false
plural_is_no_count name e = let same : name ≡ codes "plural" =
    (bytes_eq-Decides name (codes "plural")).0 e in rw same refl
