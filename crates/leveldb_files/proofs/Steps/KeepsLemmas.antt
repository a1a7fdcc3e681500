-- Steps that keep each history: what the files carry now, and what a crash leaves of them.
use Rattle.std.specs.Prelude.{◌≢◌, ◌⊎◌}
use Rattle.std.proofs.Common.{◌≡◌, ◌<◌, ◌^◌, ◌+◌, inl, inr, ⊎_elim, ℕ, List, [], length, false, refl, sym, ◌∙◌, ap, subst, Option, Some, None}
use Rattle.std.specs.Option.{option_map}
use Rattle.std.specs.Str.{bytes_eq}
use Rattle.std.specs.declared.cmp.Ordering.{Ordering}
use Rattle.leveldb_base.proofs.NamesLemmas.{made_name}
use Rattle.leveldb_base.specs.History.{Entry, History, count_of, with_batch}
use Rattle.leveldb_base.specs.Names.{IsFileName, file_name}
use Rattle.leveldb_base.specs.Types.{Pair}
use Rattle.leveldb_base.specs.declared.types.FileType.TheVariants.{Current, Descriptor, Log, Table}
use Rattle.leveldb_env.proofs.EnvLemmas.{at_other}
use Rattle.leveldb_env.specs.Env.{AreBytes, BeforeOrAfter, File, Files, PrefixAppended, SameBut, bytes_of, created, in_folder, kept_file, or_empty, renamed, synced, with_file}
use Rattle.leveldb_mem.specs.Log.{frame_at}
use Rattle.leveldb_files.proofs.Steps.EditAppendLemmas.{append_safe}
use Rattle.leveldb_files.proofs.Steps.EditNowLemmas.{edit_carries}
use Rattle.leveldb_files.proofs.Steps.FirstCurrentLemmas.{first_current_carries, first_current_safe}
use Rattle.leveldb_files.proofs.Stores.ManagedLemmas.{SameBytes, kinds_apart}
use Rattle.leveldb_files.proofs.Stores.ManifestLemmas.{edits_on, managed_of}
use Rattle.leveldb_files.proofs.Steps.NewLogLemmas.{create_log_safe, with_new_log}
use Rattle.leveldb_files.proofs.Steps.RenameLemmas.{rename_carries, renaming_safe}
use Rattle.leveldb_files.proofs.Histories.SafeLemmas.{sync_safe}
use Rattle.leveldb_files.proofs.Steps.SameStoreLemmas.{made_is}
use Rattle.leveldb_files.proofs.Steps.StaysLemmas.{synced_managed, synced_same, unread_managed}
use Rattle.leveldb_files.proofs.Steps.UnreadLemmas.{unread_stays_safe}
use Rattle.leveldb_files.specs.Stores.Contents.{Contents, Store, made}
use Rattle.leveldb_files.specs.Histories.Holds.{Carries, Holds, IsSafe}
use Rattle.leveldb_files.specs.Stores.Paths.{current_path, log_path}
use Rattle.leveldb_files.specs.Stores.Store.{HasEdits, HasNoStore, IsStore, LastNumbersFit}
use Rattle.leveldb_files.specs.Steps.StoreSteps.{EditRefines, EditsRefine, AppendedAreBytes, HasNextCurrent, IsAboveLogs, IsManifestOpen, IsNew, IsUnread, KeepsHistory, MakesFile}
use Rattle.leveldb_files.specs.Edits.Edit.{Edit, IsEdit}
use Rattle.leveldb_files.specs.Edits.VersionSet.{live_after}

-- of the same bytes, what is missing is missing
none_same : (old new : Option File) → SameBytes old new → old ≡ None → new ≡ None
none_same old None same none = refl
none_same old (Some file) same none = absurd
    (let never : Some (bytes_of file) ≡ None = same ∙ ap (option_map bytes_of) none in cc)

module _ (store : List ℕ) (cmp : List ℕ → List ℕ → Ordering)
    (IsTableOf : List ℕ → List Pair → Type 0) where
  abbrev reads : Files → Contents → Type 0
  reads = IsStore store cmp IsTableOf

  -- ---- what is read now

  synced_read : (name : List ℕ) (files : Files) (contents : Contents) → reads files contents
      → reads (synced name files) contents
  synced_read name files contents (inr m) =
      inr (synced_managed store cmp IsTableOf name files contents m)
  synced_read name files contents (inl bare) = inl (
    record {
      no_current = none (current_path store) bare.0.no_current;
      no_table = λ other n is. none (in_folder store other) (bare.0.no_table other n is);
      no_log = λ other n is. none (in_folder store other) (bare.0.no_log other n is);
    },
    bare.1,
  )
    where
      none : (path : List ℕ) → files path ≡ None → synced name files path ≡ None
      none path gone = none_same (files path) (synced name files path)
          (synced_same store cmp IsTableOf name files path) gone

  unread_read : (path : List ℕ) (old new : Files) (contents : Contents) → SameBut path old new
      → IsUnread store old path → AppendedAreBytes old → reads old contents → reads new contents
  unread_read path old new contents same un bytes (inr m) =
      inr (unread_managed store cmp IsTableOf path old new contents same un bytes m)
  unread_read path old new contents same un bytes (inl bare) = ⊎_elim
      (λ (there : old (current_path store) ≢ None). absurd (there bare.0.no_current))
      (λ (apart : (name : List ℕ) (n : ℕ) → (IsFileName name n Table ⊎ IsFileName name n Log)
      → bytes_eq path (in_folder store name) ≡ false).
      inl (
        record {
          no_current = same (current_path store) un.not_current ∙ bare.0.no_current;
          no_table = λ name n is.
              same (in_folder store name) (apart name n (inl is)) ∙ bare.0.no_table name n is;
          no_log = λ name n is.
              same (in_folder store name) (apart name n (inr is)) ∙ bare.0.no_log name n is;
        },
        bare.1,
      ))
      un.bare

  new_log_read : (files : Files) (n : ℕ) → n < 2 ^ 64 → IsAboveLogs store files n
      → files (current_path store) ≢ None → files (log_path store n) ≡ None
      → (contents : Contents) → reads files contents
      → reads (created (log_path store n) files) contents
  new_log_read files n fits newest has_current gone contents (inl bare) =
      absurd (has_current bare.0.no_current)
  new_log_read files n fits newest has_current gone contents (inr m) =
      subst (λ f. reads (with_file path f files) contents) (sym (ap or_empty gone)) (inr (record {
        edits = m.edits;
        has_edits = edits_on store cmp IsTableOf path files now m.edits m.has_edits
            (λ other away. at_other path (Some (kept_file [])) files other away)
            (kinds_apart store (file_name Log n) (file_name Current 0) n 0 Log Current named
            (made_name Current 0 refl) (λ e. cc))
            (kinds_apart store (file_name Log n) m.has_edits.name n m.has_edits.number Log
            Descriptor named m.has_edits.named.0 (λ e. cc));
        managed = with_new_log store cmp IsTableOf files m.edits contents m.managed n fits newest;
      }))
    where
      path : List ℕ
      path = log_path store n

      now : Files
      now = with_file path (Some (kept_file [])) files

      named : IsFileName (file_name Log n) n Log
      named = made_name Log n fits

  module _ (allowed : Store → Type 0) where
    -- files that carry a history carry it where the same contents are read
    carries_as : (bound : ℕ) (old new : Files)
        → ((contents : Contents) → reads old contents → reads new contents)
        → (history : History) → Carries store reads allowed bound history old
        → Carries store reads allowed bound history new
    carries_as bound old new read history c = record {
      contents = c.contents;
      read = read c.contents c.read;
      matches = c.matches;
    }

    same_keeps : (bound : ℕ) (old now : Files) → now ≡ old
        → KeepsHistory store cmp IsTableOf allowed bound old now
    same_keeps bound old now is = record {
      now = λ history c. subst (Carries store reads allowed bound history) (sym is) c;
      crash = λ durable history s.
          subst (IsSafe store reads allowed bound durable history) (sym is) s;
    }

    -- ---- the steps

    pub sync_keeps : (name : List ℕ) (files : Files)
        → ((file : File) → files name ≡ Some file → AreBytes file.since) → (bound : ℕ)
        → KeepsHistory store cmp IsTableOf allowed bound files (synced name files)
    sync_keeps name files bytes bound = record {
      now = carries_as bound files (synced name files) (synced_read name files);
      crash = λ durable history safe.
          sync_safe store reads allowed bound durable history name files bytes safe;
    }

    pub new_log_keeps : (files : Files) (n : ℕ) → n < 2 ^ 64 → IsAboveLogs store files n
        → files (current_path store) ≢ None → files (log_path store n) ≡ None → (bound : ℕ)
        (now : Files) → MakesFile (log_path store n) files now
        → KeepsHistory store cmp IsTableOf allowed bound files now
    new_log_keeps files n fits newest has_current gone bound now makes = record {
      now = carried passes;
      crash = λ durable history safe.
          create_log_safe store cmp IsTableOf files n fits newest has_current gone allowed bound
          durable history safe now passes;
    }
      where
        passes : BeforeOrAfter (created (log_path store n)) files now
        passes = ⊎_elim
            (λ (is : now ≡ files). inl is)
            (λ (is : now ≡ with_file (log_path store n) (Some (kept_file [])) files).
            inr (is ∙ ap (λ f. with_file (log_path store n) f files) (sym (ap or_empty gone))))
            (made_is (log_path store n) files now gone makes)

        carried : BeforeOrAfter (created (log_path store n)) files now → (history : History)
            → Carries store reads allowed bound history files
            → Carries store reads allowed bound history now
        carried (inl is) history c =
            subst (Carries store reads allowed bound history) (sym is) c
        carried (inr is) history c = subst (Carries store reads allowed bound history) (sym is)
            (carries_as bound files (created (log_path store n) files)
            (new_log_read files n fits newest has_current gone) history c)

    pub unread_keeps : (path : List ℕ) (old new : Files) → SameBut path old new → AppendedAreBytes old
        → IsUnread store old path → (bound : ℕ)
        → KeepsHistory store cmp IsTableOf allowed bound old new
    unread_keeps path old new same bytes un bound = record {
      now = carries_as bound old new
          (λ contents read. unread_read path old new contents same un bytes read);
      crash = λ durable history safe.
          unread_stays_safe store cmp IsTableOf path old new same un allowed bound durable
          history safe;
    }

    pub edit_keeps : (files : Files) (edits : List Edit) (m : IsManifestOpen store files edits)
        → AppendedAreBytes files → (text : List ℕ) → text ≢ [] → (edit : Edit) → IsEdit text edit
        → (bound : ℕ) → EditRefines store cmp IsTableOf bound files edits edit → (now : Files)
        → PrefixAppended (in_folder store m.has_edits.name) (frame_at (length (bytes_of m.has_edits.manifest)) text)
        files now
        → KeepsHistory store cmp IsTableOf allowed bound files now
    edit_keeps files edits m bytes text some edit is_edit bound keeps now passes = record {
      now = λ history c. edit_carries store cmp IsTableOf files edits m bytes allowed bound
          history c.contents
          (managed_of store cmp IsTableOf files edits c.contents m.has_edits c.read) c.matches text
          some edit is_edit keeps now passes;
      crash = λ durable history safe.
          append_safe store cmp IsTableOf files edits m
          (bytes (in_folder store m.has_edits.name) m.has_edits.manifest m.has_edits.there) allowed bound durable history safe text
          some edit is_edit keeps now passes;
    }

    pub rename_keeps : (files : Files) (edits others : List Edit) → HasEdits store files edits
        → AppendedAreBytes files → (temp : List ℕ) → HasNextCurrent store files temp others
        → (bound : ℕ) → EditsRefine store cmp IsTableOf bound files edits others → (now : Files)
        → BeforeOrAfter (renamed (in_folder store temp) (current_path store)) files now
        → KeepsHistory store cmp IsTableOf allowed bound files now
    rename_keeps files edits others e bytes temp h bound refines now passes = record {
      now = λ history c. rename_carries store cmp IsTableOf files edits e bytes temp others h
          allowed bound refines history c now passes;
      crash = λ durable history safe.
          renaming_safe store cmp IsTableOf files edits e bytes temp others h allowed bound
          refines durable history safe now passes;
    }

    pub first_current_keeps : (files : Files) → HasNoStore store files
        → (temp : List ℕ) (edits : List Edit) → HasNextCurrent store files temp edits
        → (n : IsNew (live_after edits)) → LastNumbersFit edits → allowed (made (Some n.comparator)) → (bound : ℕ)
        (now : Files)
        → BeforeOrAfter (renamed (in_folder store temp) (current_path store)) files now
        → KeepsHistory store cmp IsTableOf allowed bound files now
    first_current_keeps files bare temp edits h n fits may bound now passes = record {
      now = carried passes;
      crash = λ durable history safe.
          first_current_safe store cmp IsTableOf files bare temp edits h n fits allowed may bound
          durable history safe now passes;
    }
      where
        carried : BeforeOrAfter (renamed (in_folder store temp) (current_path store)) files now
            → (history : History) → Carries store reads allowed bound history files
            → Carries store reads allowed bound history now
        carried (inl is) history c =
            subst (Carries store reads allowed bound history) (sym is) c
        carried (inr is) history c = subst (Carries store reads allowed bound history) (sym is)
            (first_current_carries store cmp IsTableOf files bare temp edits h n fits allowed may
            bound history c)

    -- ---- what is held

    pub keeping_holds : (old new : Files) (history : History) (last durable : ℕ)
        (pending : Option (List Entry))
        → KeepsHistory store cmp IsTableOf allowed (last + count_of pending) old new
        → Holds store reads allowed old history last durable pending
        → Holds store reads allowed new history last durable pending
    keeping_holds old new history last durable pending keeps holds = record {
      now = ⊎_elim
          (λ (c : Carries store reads allowed (last + count_of pending) history old).
          inl (keeps.now history c))
          (λ (c : Carries store reads allowed (last + count_of pending)
          (with_batch history pending) old).
          inr (keeps.now (with_batch history pending) c))
          holds.now;
      crash = keeps.crash durable (with_batch history pending) holds.crash;
    }
