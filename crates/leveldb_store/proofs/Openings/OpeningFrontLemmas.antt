-- A store is found or made, its set is recovered, and its logs are kept.
use Rattle.std.specs.Prelude.{◌≢◌, IsTrue}
use Rattle.std.proofs.Common.{◌≡◌, ◌⊎◌, ◌∙◌, ◌≤◌, inl, inr, ⊎_elim, ℕ, List, [], None, Some, ap, refl, subst, sym}
use Rattle.std.specs.declared.cmp.Ordering.{Ordering}
use Rattle.leveldb_base.specs.Names.{IsFileName}
use Rattle.leveldb_base.specs.declared.types.FileType.TheVariants.{Log, Table}
use Rattle.leveldb_env.proofs.EnvLemmas.{Run-trans}
use Rattle.leveldb_env.specs.Env.{Files, Observed}
use Rattle.leveldb_files.proofs.Steps.FirstCurrentLemmas.{no_store_read}
use Rattle.leveldb_files.proofs.Stores.ManifestLemmas.{one_has_edits}
use Rattle.leveldb_files.proofs.Histories.SafeLemmas.{some_is}
use Rattle.leveldb_files.specs.Stores.Contents.{Contents}
use Rattle.leveldb_files.specs.Stores.Paths.{current_path}
use Rattle.leveldb_files.specs.Stores.Store.{contents_of}
use Rattle.leveldb_files.specs.Edits.VersionSet.{live_after}
use Rattle.leveldb_store.proofs.Openings.OpeningMadeLemmas.{made_contents, made_edits, made_edits_there, made_is_managed, made_is_sound}
use Rattle.leveldb_store.proofs.Keeping.TableKeepsLemmas.{KeepsHistory-trans}
use Rattle.leveldb_files.specs.Stores.Format.{Format, IsTableOf, Meaning}
use Rattle.leveldb_store.specs.Openings.OpeningState.{with_comparator}
use Rattle.leveldb_store.specs.Openings.OpeningSteps.{IsMade}
use Rattle.leveldb_store.specs.Openings.OpensStore.{HasOtherComparator, IsDamaged, IsSound, KeepsFound, LacksCurrent}

-- ---- histories

-- what keeps each history, and then keeps it on
pub keeps_found_then : (store comparator : List ℕ) (cmp : List ℕ → List ℕ → Ordering) (meaning : Meaning) (contents found : Contents) (first mid new : Observed)
    → (found ≡ contents) ⊎ (found ≡ with_comparator comparator contents) → KeepsFound cmp meaning store comparator contents first mid → KeepsFound cmp meaning store comparator found mid new
    → KeepsFound cmp meaning store comparator contents first new
keeps_found_then store comparator cmp meaning contents found first mid new like before after allowed there may bound reached =
    let run = before allowed there may bound reached in
    Run-trans run (λ files keeps. KeepsHistory-trans run.has keeps) (after allowed (may_be like) may bound (last_is like))
  where
    may_be : (found ≡ contents) ⊎ (found ≡ with_comparator comparator contents) → IsTrue (allowed found.store)
    may_be (inl same) = subst (λ (c : Contents). IsTrue (allowed c.store)) (sym same) there
    may_be (inr new) = subst (λ (c : Contents). IsTrue (allowed c.store)) (sym new) may

    last_is : (found ≡ contents) ⊎ (found ≡ with_comparator comparator contents) → found.last ≤ bound
    last_is (inl same) = subst (λ (c : Contents). c.last ≤ bound) (sym same) reached
    last_is (inr new) = subst (λ (c : Contents). c.last ≤ bound) (sym new) reached

-- ---- what is found

-- the files are as they were, where `CURRENT` is there, or a store was made
abbrev pub IsFoundOrMade : List ℕ → List ℕ → Files → Files → Type 0
IsFoundOrMade store comparator files now = ((files (current_path store) ≢ None) × (now ≡ files)) ⊎ IsMade store comparator files now

module _ (store : List ℕ) (format : Format) (files now : Files) (found : IsFoundOrMade store format.order_name files now) where
  -- its contents are those that were there, or of a new store
  pub found_is_sound : (meaning : Meaning) (contents : Contents) → IsSound format.order meaning store files contents
      → (then : Contents) × IsSound format.order meaning store now then × ((then ≡ contents) ⊎ (then ≡ with_comparator format.order_name contents))
  found_is_sound meaning contents sound = ⊎_elim
      (λ (same : (files (current_path store) ≢ None) × (now ≡ files)). (contents, subst (λ f. IsSound format.order meaning store f contents) (sym same.1) sound, inl refl))
      (λ (new : IsMade store format.order_name files now). (
        contents_of format.order_name [] [] 0,
        made_is_sound store format.order_name format.order meaning files sound.bytes now new,
        inr (sym (ap (with_comparator format.order_name) (no_store_read store format.order (IsTableOf format.order meaning) files contents new.bare sound.read))),
      ))
      found

  -- ---- damage

  -- a new store isn't damaged
  new_meaning : Meaning
  new_meaning = record { orders = λ name. format.order; codings = λ id. None; filters = λ name. None }

  pub made_is_whole : IsMade store format.order_name files now → IsDamaged store format now → ⊥
  made_is_whole new damaged = damaged new_meaning format.order (made_contents store format.order_name files now new) (inl refl)
      (inr (made_is_managed store format.order_name files now new format.order (IsTableOf format.order new_meaning)))

  -- what is damaged was so before
  pub damaged_before : IsDamaged store format now → IsDamaged store format files
  damaged_before damaged = ⊎_elim
      (λ (same : (files (current_path store) ≢ None) × (now ≡ files)). subst (IsDamaged store format) same.1 damaged)
      (λ (new : IsMade store format.order_name files now). absurd (made_is_whole new damaged))
      found

  -- and what names another comparator did
  pub other_before : HasOtherComparator store format now → HasOtherComparator store format files
  other_before other = ⊎_elim
      (λ (same : (files (current_path store) ≢ None) × (now ≡ files)). subst (HasOtherComparator store format) same.1 other)
      (λ (new : IsMade store format.order_name files now).
      let edits : other.edits ≡ made_edits store format.order_name files now new
      = (one_has_edits store now other.edits (made_edits store format.order_name files now new) other.has_edits (made_edits_there store format.order_name files now new)).1 in
      absurd (other.other (some_is other.name format.order_name (sym other.named ∙ ap (λ es. (live_after es).comparator) edits))))
      found

  -- `CURRENT` is there
  pub current_is_there : now (current_path store) ≢ None
  current_is_there gone = ⊎_elim
      (λ (same : (files (current_path store) ≢ None) × (now ≡ files)). same.0 (sym (ap (λ (f : Files). f (current_path store)) same.1) ∙ gone))
      (λ (new : IsMade store format.order_name files now).
      let there = made_edits_there store format.order_name files now new in
      let never : Some there.current ≡ None = sym there.current_there ∙ gone in absurd (cc))
      found

-- a store without `CURRENT` is damaged
pub lacking_is_damaged : (store : List ℕ) (format : Format) (files : Files) → LacksCurrent store files → IsDamaged store format files
lacking_is_damaged store format files lacks meaning order contents fits (inr m) = absurd
    (let never : Some m.has_edits.current ≡ None = sym m.has_edits.current_there ∙ lacks.no_current in cc)
lacking_is_damaged store format files lacks meaning order contents fits (inl none) = ⊎_elim
    (λ (table : IsFileName lacks.name lacks.is.0 Table). lacks.there (none.0.no_table lacks.name lacks.is.0 table))
    (λ (log : IsFileName lacks.name lacks.is.0 Log). lacks.there (none.0.no_log lacks.name lacks.is.0 log))
    lacks.is.1
