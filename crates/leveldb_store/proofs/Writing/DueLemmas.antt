-- When a compaction is due: what asks for it in the version asks in the live files, and no memtable
-- waits.
use Rattle.std.specs.Prelude.{IsPermutation, is_none, is_some}
use Rattle.std.proofs.Common.{◌≡◌, ◌∙◌, ℕ, false, true, List, Option, None, Some, refl, sym}
use Rattle.std.proofs.lemmas.Bool.{and_parts}
use Rattle.std.proofs.lemmas.List.Sorted.{IsPermutation-sym}
use Rattle.leveldb_files.specs.Edits.Edit.{NewFile}
use Rattle.leveldb_mem.specs.MemTable.{Kept}
use Rattle.leveldb_version.specs.Versions.Scores.{level_by_score}
use Rattle.leveldb_store.proofs.Compactions.AskedCompactionLemmas.{scores_alike}
use Rattle.leveldb_store.specs.Keeping.OpenStore.{OpenStoreValue}
use Rattle.leveldb_store.specs.Writing.Due.{has_grown, is_compaction_due, looks_for_compaction}

-- files in another order ask alike
pub scores_same : (these those : List NewFile) → IsPermutation these those
    → level_by_score these ≡ level_by_score those
scores_same these those same = by (level_by_score these) (level_by_score those) refl refl
  where
    by : (a b : Option ℕ) → level_by_score these ≡ a → level_by_score those ≡ b → a ≡ b
    by (Some level) b asks is = sym (scores_alike these those same level asks) ∙ is
    by None (Some level) none asks = absurd (let never : Some level ≡ None =
        sym (scores_alike those these (IsPermutation-sym these those same) level asks) ∙ none in cc)
    by None None none is = refl

-- where one is due, no memtable waits
pub due_none_waits : {C : Type 0} (max_file_size looked_at : ℕ) (value : OpenStoreValue C)
    → is_compaction_due max_file_size looked_at value ≡ true → value.imm ≡ None
due_none_waits max_file_size looked_at value due = by value.imm
    (and_parts (is_none value.imm) (has_grown max_file_size looked_at value.mem)
    (and_parts (looks_for_compaction max_file_size looked_at value)
    (is_some (level_by_score value.set.full.added)) due).0).0
  where
    by : (imm : Option Kept) → is_none imm ≡ true → imm ≡ None
    by None is = refl
    by (Some kept) is = absurd (let never : false ≡ true = is in cc)
