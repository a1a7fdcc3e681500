-- A store's first `CURRENT`: a temporary file that names a manifest is renamed to it.
use Rattle.leveldb_base.proofs.HistoryLemmas.{in_none}
use Rattle.leveldb_base.proofs.NamesLemmas.{made_name}
use Rattle.leveldb_base.specs.History.{History}
use Rattle.leveldb_base.specs.Names.{IsFileName, file_name}
use Rattle.leveldb_base.specs.Types.{Pair}
use Rattle.leveldb_base.specs.declared.types.FileType.TheVariants.{Current, Descriptor, Log, Temp}
use Rattle.leveldb_env.proofs.EnvLemmas.{at_other, at_same, renamed-there}
use Rattle.leveldb_env.specs.Env.{BeforeOrAfter, Files, FilesCrashTo, deleted, in_folder, renamed, with_file}
use Rattle.leveldb_files.proofs.Stores.ManifestLemmas.{missing_left}
use Rattle.leveldb_files.proofs.Histories.HonestCrashLemmas.{all_cut, all_cut_honest, all_cut_left}
use Rattle.leveldb_files.proofs.Stores.KeptLemmas.{kept_safe}
use Rattle.leveldb_files.proofs.Stores.ManagedLemmas.{kinds_apart}
use Rattle.leveldb_files.specs.Stores.Contents.{Contents, Store, made, no_contents}
use Rattle.leveldb_files.specs.Histories.Holds.{Carries, IsSafe, MatchesHistory}
use Rattle.leveldb_files.specs.Stores.Paths.{current_path}
use Rattle.leveldb_files.specs.Stores.Store.{HasNoStore, IsManagedBy, IsStore, LastNumbersFit, contents_of}
use Rattle.leveldb_files.specs.Steps.StoreSteps.{HasNextCurrent, IsAllKept, IsKept, IsNew}
use Rattle.leveldb_files.specs.Edits.Edit.{Edit}
use Rattle.leveldb_files.specs.Edits.VersionSet.{live_after}
use Rattle.std.proofs.Common.{◌∙◌, ◌≡◌, List, None, Some, [], arith, false, inl, inr, length, refl, subst, sym, ℕ}
use Rattle.std.proofs.lemmas.List.{take_all}
use Rattle.std.specs.Str.{bytes_eq}
use Rattle.std.specs.declared.cmp.Ordering.{Ordering}

module _ (store : List ℕ) (cmp : List ℕ → List ℕ → Ordering)
    (IsTableOf : List ℕ → List Pair → Type 0) where
  abbrev reads : Files → Contents → Type 0
  reads = IsStore store cmp IsTableOf

  -- ---- no store

  pub no_store_left : (files left : Files) → HasNoStore store files
      → FilesCrashTo files left → HasNoStore store left
  no_store_left files left bare leaves = record {
    no_current = missing_left (files (current_path store)) (left (current_path store))
        (leaves (current_path store)) bare.no_current;
    no_table =
        λ name n is. missing_left (files (in_folder store name)) (left (in_folder store name))
        (leaves (in_folder store name)) (bare.no_table name n is);
    no_log = λ name n is. missing_left (files (in_folder store name)) (left (in_folder store name))
        (leaves (in_folder store name)) (bare.no_log name n is);
  }

  -- where no store is, the contents are none
  pub no_store_read : (files : Files) (contents : Contents) → HasNoStore store files
      → reads files contents → contents ≡ no_contents
  no_store_read files contents bare (inl read) = read.1
  no_store_read files contents bare (inr m) = absurd
      (let never : None ≡ Some m.has_edits.current = sym bare.no_current
      ∙ m.has_edits.current_there in cc)

  pub no_store_safe : (files : Files) → HasNoStore store files
      → (allowed : Store → Type 0) (bound : ℕ) (history : History)
      → MatchesHistory allowed bound no_contents history
      → IsSafe store reads allowed bound (length history) history files
  no_store_safe files bare allowed bound history matches left leaves honest = record {
    part = history;
    prefix = record {
      count = length history;
      enough = omega arith;
      there = omega arith;
      first = sym (take_all (length history) history (omega arith));
    };
    carries = record {
      contents = no_contents;
      read = inl (no_store_left files left bare leaves, refl);
      matches = matches;
    };
  }

  -- ---- the first edits

  -- where neither a table nor a log is, they are a store with no entry
  pub new_managed : (files : Files) (edits : List Edit) → (n : IsNew (live_after edits))
      → LastNumbersFit edits
      → ((name : List ℕ) (k : ℕ) → IsFileName name k Log → files (in_folder store name) ≡ None)
      → IsManagedBy store cmp IsTableOf files edits (contents_of n.comparator [] [] 0)
  new_managed files edits n fits no_log = record {
    comparator = n.comparator;
    comparator_is = n.comparator_is;
    log_is = n.log_is;
    next_file_is = n.next_file_is;
    last = 0;
    last_is = n.last_is;
    numbers_fit = fits;
    tables = [];
    has_tables = record {
      each = λ table c. absurd (in_none table c);
      all = λ file live. absurd (n.no_table file live);
    };
    logs = [];
    has_logs = record {
      each = λ log c. absurd (in_none log c);
      all = λ name k is replayed some. absurd (some (no_log name k is));
      rising = tt;
    };
    fit = record {
      rise = tt;
      ends = λ a b in_a. absurd (in_none a in_a);
      numbered = λ entry c. absurd (in_none entry c);
      below = λ entry later c. absurd (in_none entry c);
      levels = record {
        disjoint = λ a b in_a. absurd (in_none a in_a);
        deeper = λ a b in_a. absurd (in_none a in_a);
        newer = λ a b in_a. absurd (in_none a in_a);
      };
    };
    is = refl;
  }

  -- ---- the rename

  module _ (files : Files) (bare : HasNoStore store files) (temp : List ℕ)
      (edits : List Edit) (h : HasNextCurrent store files temp edits)
      (n : IsNew (live_after edits)) (fits : LastNumbersFit edits) where
    abbrev from : List ℕ
    from = in_folder store temp

    abbrev to : List ℕ
    to = current_path store

    abbrev moved_files : Files
    moved_files = with_file to (Some h.text) (deleted from files)

    moved_is : renamed from to files ≡ moved_files
    moved_is = renamed-there from to files h.text h.text_there

    abbrev new : Contents
    new = contents_of n.comparator [] [] 0

    current_named : IsFileName (file_name Current 0) 0 Current
    current_named = made_name Current 0 refl

    elsewhere : (other : List ℕ) → bytes_eq to other ≡ false → bytes_eq from other ≡ false
        → moved_files other ≡ files other
    elsewhere other no_to no_from = at_other to (Some h.text) (deleted from files) other no_to
        ∙ at_other from None files other no_from

    no_log : (name : List ℕ) (k : ℕ) → IsFileName name k Log
        → moved_files (in_folder store name) ≡ None
    no_log other k is_log = elsewhere (in_folder store other)
        (kinds_apart store (file_name Current 0) other 0 k Current Log current_named is_log
        (λ d. cc))
        (kinds_apart store temp other h.temp_number k Temp Log h.temp_name is_log (λ d. cc))
        ∙ bare.no_log other k is_log

    all : IsAllKept store cmp IsTableOf moved_files new
    all = record {
      managed = record {
        edits = edits;
        has_edits = record {
          current = h.text;
          current_there = at_same to (Some h.text) (deleted from files);
          name = h.name;
          number = h.number;
          named = h.named;
          manifest = h.manifest;
          there = elsewhere (in_folder store h.name)
              (kinds_apart store (file_name Current 0) h.name 0 h.number Current Descriptor
              current_named h.named.0 (λ d. cc))
              (kinds_apart store temp h.name h.temp_number h.number Temp Descriptor h.temp_name
              h.named.0 (λ d. cc)) ∙ h.manifest_there;
          is = h.is;
        };
        managed = new_managed moved_files edits n fits no_log;
      };
      current = h.text_kept;
      manifest = h.manifest_kept;
      kept = record {
        tables = λ file file_fits live. absurd (n.no_table file live);
        logs = λ other k is_log replayed. subst IsKept (sym (no_log other k is_log)) tt;
      };
    }

    -- all that is read of the new store is kept
    pub first_current_kept : IsAllKept store cmp IsTableOf (renamed from to files) new
    first_current_kept = subst (λ f. IsAllKept store cmp IsTableOf f new) (sym moved_is) all

    module _ (allowed : Store → Type 0) (may : allowed (made (Some n.comparator)))
        (bound : ℕ) where
      -- the new store shows what no store shows: nothing
      matches_new : (history : History) → MatchesHistory allowed bound no_contents history
          → MatchesHistory allowed bound new history
      matches_new history m = record {
        same = m.same;
        up_to = m.up_to;
        reached = m.reached;
        bounded = m.bounded;
        store = may;
      }

      pub first_current_carries : (history : History)
          → Carries store reads allowed bound history files
          → Carries store reads allowed bound history (renamed from to files)
      first_current_carries history c = subst (Carries store reads allowed bound history)
          (sym moved_is) (record {
            contents = new;
            read = inr all.managed;
            matches = matches_new history (subst
                (λ x. MatchesHistory allowed bound x history)
                (no_store_read files c.contents bare c.read) c.matches);
          })

      moved_safe : (durable : ℕ) (history : History)
          → IsSafe store reads allowed bound durable history files
          → IsSafe store reads allowed bound durable history moved_files
      moved_safe durable history safe left leaves honest =
          let c = safe (all_cut files) (all_cut_left files) (all_cut_honest store files) in
          let none = no_store_read (all_cut files) c.carries.contents
          (no_store_left files (all_cut files) bare (all_cut_left files)) c.carries.read in
          let matches = matches_new c.part
          (subst (λ x. MatchesHistory allowed bound x c.part) none c.carries.matches) in
          let d = kept_safe store cmp IsTableOf allowed bound c.part moved_files new all matches
          left leaves honest in
          let whole : d.part ≡ c.part = d.prefix.first
          ∙ take_all d.prefix.count c.part d.prefix.enough in
          record {
            part = c.part;
            prefix = c.prefix;
            carries = subst (λ p. Carries store reads allowed bound p left) whole d.carries;
          }

      -- either side of the rename is safe
      pub first_current_safe : (durable : ℕ) (history : History)
          → IsSafe store reads allowed bound durable history files
          → (now : Files) → BeforeOrAfter (renamed from to) files now
          → IsSafe store reads allowed bound durable history now
      first_current_safe durable history safe now (inl same) =
          subst (IsSafe store reads allowed bound durable history) (sym same) safe
      first_current_safe durable history safe now (inr moved) =
          subst (IsSafe store reads allowed bound durable history) (sym (moved ∙ moved_is))
          (moved_safe durable history safe)
