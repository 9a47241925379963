use Rattle.std.proofs.Common.{◌≡◌, List, ℕ, Option, Some, None, chars, ◌<◌, length}
use Rattle.std.specs.Borrow.{Bor}
use Rattle.std.specs.Prelude.{MatchOption}
use Rattle.std.specs.Str.{IsUtf8}
use Rattle.std.specs.Str.Pattern.{FindsText, SplitsAroundMatch}
use Rattle.icu_list.specs.PatternTexts.{cut}
use Rattle.icu_list.proofs.Cuts.{cut_found, cut_missing}
use Rattle.icu_list.proofs.provider.joiner.cut.Goals as goal

by : (word text : List ℕ) → IsUtf8 word → IsUtf8 text → 0 < length word
    → (r : Option (Bor (List ℕ) × Bor (List ℕ)))
    → MatchOption r (FindsText word text None)
    (λ x. SplitsAroundMatch (FindsText word) text x.0.now x.1.now)
    → MatchOption r (cut (chars word) (chars text) ≡ None)
    (λ x. cut (chars word) (chars text) ≡ Some (chars x.0.now, chars x.1.now))
by word text uw ut some None h = cut_missing word text uw ut h
by word text uw ut some (Some x) h = cut_found word text x.0.now x.1.now uw ut some h

pub returns : goal.returns
returns c =
    by c.args.word.now c.args.text.now c.utf8.word c.utf8.text c.requires c.split_once.result
    c.split_once.ensures.cases
