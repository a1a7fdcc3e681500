-- A merge of which nothing goes leaves all pairs.
use Rattle.std.proofs.Common.{◌≡◌, ◌∙◌, Bool, true, false, not, List, [], ◌∷◌, cond, refl, ap, arith}
use Rattle.std.proofs.lemmas.Bool.{and_parts, and_right, false_from_ne_true, leb-true, ltb-true, or_from}
use Rattle.std.proofs.lemmas.List.Folds.{list_any_none}
use Rattle.std.specs.List.{filter}
use Rattle.leveldb_base.specs.Entries.{entries_of_pairs, entry_of_pair}
use Rattle.leveldb_base.specs.History.{Entry}
use Rattle.leveldb_base.specs.Thinning.{goes, shadows}
use Rattle.leveldb_base.specs.Types.{Pair}
use Rattle.leveldb_version.proofs.Versions.SearchLemmas.{all_from_contains}
use Rattle.leveldb_store.specs.Compactions.Merging.{pairs_left, stays}

-- where no number is held no entry shadows another
none_shadows : (newer entry : Entry) → shadows 0 newer entry ≡ false
none_shadows newer entry = false_from_ne_true (shadows 0 newer entry) (λ is.
    let more = (and_parts _ _ is).1 in
    let parts = and_parts _ _ more in
    let above = ltb-true entry.sequence newer.sequence parts.0 in
    let below = leb-true newer.sequence 0 parts.1 in
    omega arith)

none_goes : (entries : List Entry) (entry : Entry) → goes 0 (λ user. false) entries entry ≡ false
none_goes entries entry = or_from _ _
    (list_any_none (λ newer. shadows 0 newer entry) entries
    (all_from_contains (λ newer. shadows 0 newer entry ≡ false) entries
    (λ newer there. none_shadows newer entry)))
    (and_right _ _ (and_right _ _ refl))

filter_all : (test : Pair → Bool) (pairs : List Pair) → ((pair : Pair) → test pair ≡ true)
    → filter test pairs ≡ pairs
filter_all test [] all = refl
filter_all test (pair ∷ pairs) all =
    ap (λ b. cond b (pair ∷ filter test pairs) (filter test pairs)) (all pair)
    ∙ ap (λ ps. pair ∷ ps) (filter_all test pairs all)

-- so all pairs are left
pub all_left : (pairs : List Pair) → pairs_left 0 (λ user. false) pairs ≡ pairs
all_left pairs = filter_all (stays 0 (λ user. false) pairs) pairs
    (λ pair. ap not (none_goes (entries_of_pairs pairs) (entry_of_pair pair)))
