-- When a store may begin with edits, by what they leave.
use Rattle.std.specs.Prelude.{Contains, IfErr, OnOk, Result, Ok, Err, IsSome, IsTrue, fold, string_bytes}
use Rattle.std.proofs.Common.{◌≡◌, ◌⊎◌, inl, inr, ⊎_elim, ℕ, ◌≤◌, ◌<◌, ◌+◌, List, [], ◌∷◌, ◌++◌, length, map, take, drop, get_or, Option, None, Some, refl, sym, ◌∙◌, ap, subst, append_assoc, arith}
use Rattle.std.specs.Option.{option_map}
use Rattle.std.specs.declared.cmp.Ordering.{Ordering}
use Rattle.std.specs.declared.cmp.Ordering.TheVariants.{Less, Equal, Greater}
use Rattle.std.proofs.lemmas.Bool.{cases_lt}
use Rattle.std.proofs.lemmas.List.{append-nil, map_more, map-append, take-append-drop}
use Rattle.std.proofs.lemmas.List.Elements.{All-cons, All-contains, Contains-append_left, Contains-push, Contains-push_cases}
use Rattle.leveldb_base.proofs.HistoryLemmas.{in_front, in_rest}
use Rattle.leveldb_base.specs.KeyTypes.{internal_cmp}
use Rattle.leveldb_base.specs.declared.error.Status.{Status}
use Rattle.leveldb_base.specs.declared.error.StatusCode.TheVariants.{Corruption, NotSupported}
use Rattle.leveldb_base.specs.declared.types.FileMetaData.{FileMetaData}
use Rattle.leveldb_version.specs.Edits.FullEdit.{full_after}
use Rattle.leveldb_version_set.specs.Sets.Recover.{AreBeside, IsUsable, Overlap, ShareUserKey, WhyUnusable, no_comparator, no_log, no_next_file, no_last, other_comparator, number_too_great, no_range, overlapping, shared_user_key}
use Rattle.leveldb_version_set.specs.Sets.Replay.{IsReplayOf}
use Rattle.leveldb_version_set.specs.Sets.Usable.{AreAllApart, ArePeers, HasClash, HasStartNumbers, IsOtherComparator, LacksStartNumber}
use Rattle.leveldb_files.specs.Edits.Edit.{Edit, NewFile, empty_edit}
use Rattle.leveldb_version.specs.Edits.VersionEdit.{edit_of, new_file_of}
use Rattle.leveldb_files.specs.Edits.VersionSet.{HaveKeyRanges, IsFullEdit, IsKeyRange, live_after}
use Rattle.leveldb_version_set.specs.declared.version_set.replay.Replayed.{Replayed}
use Rattle.leveldb_version.proofs.Edits.FullEditLemmas.{full_stays_full}
use Rattle.leveldb_files.proofs.Edits.VersionSetLemmas.{full_edit_is_full}

-- ---- results

pub if_err_more : {T : Type 0} {P Q : Status → Type 0} (r : Result T Status) → IfErr r P → ((status : Status) → P status → Q status) → IfErr r Q
if_err_more (Ok value) h so = tt
if_err_more (Err status) h so = so status h

pub on_ok_more : {T : Type 0} {P Q : Type 0} (r : Result T Status) → OnOk r P → (P → Q) → OnOk r Q
on_ok_more (Ok value) h so = so h
on_ok_more (Err status) h so = tt

-- ---- files of a slice

-- what each file is as an edit has it
abbrev pub as_new_files : List (ℕ × FileMetaData) → List NewFile
as_new_files files = map new_file_of files

pub files_more : (files : List (ℕ × FileMetaData)) (i : ℕ) (file : ℕ × FileMetaData) → i < length files → file ≡ get_or files i file
    → as_new_files (take (i + 1) files) ≡ as_new_files (take i files) ++ new_file_of file ∷ []
files_more files i file inside is = map_more new_file_of files i file inside ∙ ap (λ f. as_new_files (take i files) ++ new_file_of f ∷ []) (sym is)

pub file_is_one : (files : List (ℕ × FileMetaData)) (i : ℕ) (file : ℕ × FileMetaData) → i < length files → file ≡ get_or files i file → Contains (as_new_files files) (new_file_of file)
file_is_one files i file inside is =
    let P : List NewFile → Type 0 = λ fs. Contains fs (new_file_of file) in
    let front : Contains (as_new_files (take (i + 1) files)) (new_file_of file) = subst P (sym (files_more files i file inside is)) (Contains-push (as_new_files (take i files)) (new_file_of file)) in
    let split : as_new_files files ≡ as_new_files (take (i + 1) files) ++ as_new_files (drop (i + 1) files) =
    ap as_new_files (sym (take-append-drop (i + 1) files)) ∙ map-append new_file_of (take (i + 1) files) (drop (i + 1) files) in
    subst P (sym split) (Contains-append_left (as_new_files (take (i + 1) files)) (as_new_files (drop (i + 1) files)) (new_file_of file) front)

-- what holds of each file up to one and of that one
pub each_more : (P : NewFile → Type 0) (these : List NewFile) (file : NewFile) → ((a : NewFile) → Contains these a → P a) → P file → (a : NewFile) → Contains (these ++ file ∷ []) a → P a
each_more P these file each it a there = ⊎_elim
    (λ (old : Contains these a). each a old)
    (λ (same : file ≡ a). subst P same it)
    (Contains-push_cases these file a there)

-- ---- the live files

full_after_more : (before edits : List Edit) (full : Edit) → IsFullEdit (live_after before) full → IsFullEdit (live_after (before ++ edits)) (fold full_after full edits)
full_after_more before [] full is =
    let P : List Edit → Type 0 = λ all. IsFullEdit (live_after all) full in
    subst P (sym (append-nil before)) is
full_after_more before (edit ∷ edits) full is =
    let P : List Edit → Type 0 = λ all. IsFullEdit (live_after all) (fold full_after (full_after full edit) edits) in
    subst P (append_assoc before (edit ∷ []) edits) (full_after_more (before ++ edit ∷ []) edits (full_after full edit) (full_stays_full before full edit is))

-- edits applied one after another to nothing are one edit of all that they leave
pub full_of_all : (edits : List Edit) → IsFullEdit (live_after edits) (fold full_after empty_edit edits)
full_of_all edits = full_after_more [] edits empty_edit (full_edit_is_full [])

-- ---- ranges

range_or_not : (cmp : List ℕ → List ℕ → Ordering) (smallest largest : List ℕ) → IsKeyRange cmp smallest largest ⊎ (IsKeyRange cmp smallest largest → ⊥)
range_or_not cmp smallest largest = ⊎_elim
    (λ (short : length smallest < 8). inr (λ range. omega (arith, short, range.has_tag)))
    (λ (tagged : 8 ≤ length smallest). ⊎_elim
    (λ (short : length largest < 8). inr (λ range. omega (arith, short, range.largest_has_tag)))
    (λ (largest_tagged : 8 ≤ length largest). by (internal_cmp cmp smallest largest) refl tagged largest_tagged)
    (cases_lt (length largest) 8))
    (cases_lt (length smallest) 8)
  where
    by : (order : Ordering) → internal_cmp cmp smallest largest ≡ order → 8 ≤ length smallest → 8 ≤ length largest
        → IsKeyRange cmp smallest largest ⊎ (IsKeyRange cmp smallest largest → ⊥)
    by Less e a b = inl (record { has_tag = a; largest_has_tag = b; in_order = λ (never : internal_cmp cmp smallest largest ≡ Greater). absurd (cc (sym e ∙ never)) })
    by Equal e a b = inl (record { has_tag = a; largest_has_tag = b; in_order = λ (never : internal_cmp cmp smallest largest ≡ Greater). absurd (cc (sym e ∙ never)) })
    by Greater e a b = inr (λ range. range.in_order e)

-- where not all files have a range, one has none
one_without : (cmp : List ℕ → List ℕ → Ordering) (files : List NewFile) → (HaveKeyRanges cmp files → ⊥) → (file : NewFile) × Contains files file × (IsKeyRange cmp file.smallest file.largest → ⊥)
one_without cmp [] not_all = absurd (not_all (λ i d inside. absurd (omega (arith, inside))))
one_without cmp (file ∷ files) not_all = ⊎_elim
    (λ (range : IsKeyRange cmp file.smallest file.largest).
    let one = one_without cmp files (λ all. not_all (All-cons (λ it. IsKeyRange cmp it.smallest it.largest) file files range all)) in
    (one.0, in_rest file one.0 files one.1, one.2))
    (λ (none : IsKeyRange cmp file.smallest file.largest → ⊥). (file, in_front file files, none))
    (range_or_not cmp file.smallest file.largest)

-- ---- usable edits

module _ (cmp : List ℕ → List ℕ → Ordering) (comparator : List ℕ) (edits : List Edit) (left : Replayed) (is_left : IsReplayOf edits left) where
  abbrev files_left : List NewFile
  files_left = as_new_files left.full.new_files.items

  full_left : IsFullEdit (live_after edits) (edit_of left.full)
  full_left = let P : Edit → Type 0 = IsFullEdit (live_after edits) in subst P (sym is_left.full) (full_of_all edits)

  beside : (a b : NewFile) → Contains files_left a → Contains files_left b → ArePeers a b → AreBeside cmp (live_after edits) a b
  beside a b a_there b_there peers = record {
    a_live = (full_left.added.live a).0 a_there;
    b_live = (full_left.added.live b).0 b_there;
    same_level = peers.same_level;
    not_level_zero = peers.not_level_zero;
    others = peers.others;
  }

  some_of : {A : Type 0} (a b : Option A) → a ≡ b → IsSome a → IsSome b
  some_of {A} a b e some = let P : Option A → Type 0 = IsSome in subst P e some

  named_left : option_map string_bytes left.full.comparator ≡ Some comparator → (live_after edits).comparator ≡ Some comparator
  named_left named = sym full_left.comparator ∙ named

  pub edits_usable : option_map string_bytes left.full.comparator ≡ Some comparator → HasStartNumbers left → IsTrue left.numbers_fit → HaveKeyRanges cmp files_left → AreAllApart cmp files_left files_left
      → IsUsable cmp comparator edits
  edits_usable named numbers fit ranges apart = record {
    comparator_is = named_left named;
    log_is = some_of left.log_number (live_after edits).log_number is_left.log_number numbers.log_number;
    next_file_is = some_of left.next_file (live_after edits).next_file is_left.next_file numbers.next_file;
    last_is = some_of left.last_sequence (live_after edits).last_sequence is_left.last_sequence numbers.last_sequence;
    numbers_fit = is_left.numbers_fit.0 fit;
    ranges = λ file live. All-contains (λ it. IsKeyRange cmp it.smallest it.largest) files_left file ranges ((full_left.added.live file).1 live);
    disjoint = λ a b are. apart a ((full_left.added.live a).1 are.a_live) b ((full_left.added.live b).1 are.b_live)
        (record { same_level = are.same_level; not_level_zero = are.not_level_zero; others = are.others });
  }

  pub comparator_refused : (status : Status) → IsOtherComparator comparator (option_map string_bytes left.full.comparator) status → WhyUnusable cmp comparator edits status
  comparator_refused status (inl none) = no_comparator none.0 (sym full_left.comparator ∙ none.1)
  comparator_refused status (inr other) = other_comparator other.0 other.1.0 (sym full_left.comparator ∙ other.1.1) other.1.2

  pub start_refused : (status : Status) → LacksStartNumber left status → WhyUnusable cmp comparator edits status
  start_refused status lacks = ⊎_elim
      (λ (log : left.log_number ≡ None). no_log lacks.code (sym is_left.log_number ∙ log))
      (λ (others : (left.next_file ≡ None) ⊎ (left.last_sequence ≡ None)). ⊎_elim
      (λ (next : left.next_file ≡ None). no_next_file lacks.code (sym is_left.next_file ∙ next))
      (λ (last : left.last_sequence ≡ None). no_last lacks.code (sym is_left.last_sequence ∙ last))
      others)
      lacks.none

  pub number_refused : (status : Status) → (status.code ≡ Corruption) × (IsTrue left.numbers_fit → ⊥) → WhyUnusable cmp comparator edits status
  number_refused status why = number_too_great why.0 (λ fit. why.1 (is_left.numbers_fit.1 fit))

  pub ranges_refused : (status : Status) → option_map string_bytes left.full.comparator ≡ Some comparator → (status.code ≡ Corruption) × (HaveKeyRanges cmp files_left → ⊥) → WhyUnusable cmp comparator edits status
  ranges_refused status named why =
      let one = one_without cmp files_left why.1 in
      no_range why.0 (named_left named) one.0 ((full_left.added.live one.0).0 one.1) one.2

  pub clash_refused : (status : Status) → option_map string_bytes left.full.comparator ≡ Some comparator → HasClash cmp files_left status → WhyUnusable cmp comparator edits status
  clash_refused status named has =
      let clash = has.clashes.clash in
      let are = beside has.a has.clashes.b has.a_there has.clashes.b_there clash.peers in
      ⊎_elim
      (λ (overlap : (status.code ≡ Corruption) × Overlap cmp has.a has.clashes.b). overlapping overlap.0 (named_left named) has.a has.clashes.b are overlap.1)
      (λ (share : (status.code ≡ NotSupported) × ShareUserKey cmp has.a has.clashes.b). shared_user_key share.0 has.a has.clashes.b are share.1)
      clash.why
